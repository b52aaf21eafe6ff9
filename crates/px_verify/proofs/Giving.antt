-- What a stack that comes to an offset changes.
use Rattle.std.proofs.Common.{◌≡◌, ◌≢◌, ◌⊎◌, inl, inr, ℕ, zero, suc, ◌<◌, true, List, [], ◌∷◌, length, replicate, Option, Some, None, refl, ap, sym, ◌∙◌, subst, arith}
use Rattle.std.specs.Prelude.{Ok, Err, slice_set}
use Rattle.std.specs.List.{AllByRecursion, slice_get}
use Rattle.px_program.specs.Formed.{IsFormed, end_of, is_start}
use Rattle.px_program.specs.declared.instr.Instr.{Instr}
use Rattle.px_program.specs.declared.program.Method.{Method}
use Rattle.px_program.specs.declared.program.Program.{Program}
use Rattle.px_program.specs.declared.program.TypeInfo.{TypeInfo}
use Rattle.px_verify_kinds.specs.declared.kind.Kind.{Kind}
use Rattle.px_verify_flow.specs.Leaving.{successors}
use Rattle.px_verify_flow.specs.Outcome.{Outcome}
use Rattle.px_verify_rounds.specs.Table.{IsTable, Table, begin, begun, give, give_all, give_outcome, met_entry, one, outcome_at, round, rounds, set_entry, stack_at, starts_of, sweep, untyped}
use Rattle.px_verify.proofs.Finding.{by_option}
use Rattle.px_verify.proofs.Places.{IsPlace, each_start, each_successor}

-- ENTRIES

set_length : {X : Type 0} (xs : List X) (at : ℕ) (x : X) → length (slice_set xs at x) ≡ length xs
set_length [] at x = refl
set_length (y ∷ xs) zero x = refl
set_length (y ∷ xs) (suc at) x = ap suc (set_length xs at x)

pub give_length : (types : List TypeInfo) (given : List Kind) (table : Table) (at : ℕ) → length (give types given table at) ≡ length table
give_length types given table at =
    by_option (λ o. length (set_entry table at o (λ entry. met_entry types entry given)) ≡ length table) (slice_get table at) (λ _. refl) (λ entry _. set_length table at (met_entry types entry given))

give_head : (types : List TypeInfo) (given : List Kind) (entry : Option (List Kind)) (table : Table) (to : ℕ) → stack_at (give types given (entry ∷ table) (suc to)) zero ≡ entry
give_head types given entry table to =
    by_option (λ o. stack_at (set_entry (entry ∷ table) (suc to) o (λ e. met_entry types e given)) zero ≡ entry) (slice_get table to) (λ _. refl) (λ _ _. refl)

give_tail : (types : List TypeInfo) (given : List Kind) (entry : Option (List Kind)) (table : Table) (to at : ℕ) → stack_at (give types given (entry ∷ table) (suc to)) (suc at) ≡ stack_at (give types given table to) at
give_tail types given entry table to at =
    by_option (λ o. stack_at (set_entry (entry ∷ table) (suc to) o (λ e. met_entry types e given)) (suc at) ≡ stack_at (set_entry table to o (λ e. met_entry types e given)) at) (slice_get table to) (λ _. refl) (λ _ _. refl)

-- where it comes to, it is merged
pub give_there : (types : List TypeInfo) (given : List Kind) (table : Table) (at : ℕ) → at < length table → stack_at (give types given table at) at ≡ met_entry types (stack_at table at) given
give_there types given [] at within = absurd (omega arith)
give_there types given (entry ∷ table) zero within = refl
give_there types given (entry ∷ table) (suc at) within = give_tail types given entry table at at ∙ give_there types given table at (omega arith)

abbrev pub IsGiven : List TypeInfo → List Kind → Table → ℕ → ℕ → Type 0
IsGiven types given table to at = (to ≡ at) × (to < length table) × (stack_at (give types given table to) at ≡ met_entry types (stack_at table at) given)

-- and elsewhere all stays
pub give_cases : (types : List TypeInfo) (given : List Kind) (table : Table) (to at : ℕ) → (stack_at (give types given table to) at ≡ stack_at table at) ⊎ IsGiven types given table to at
give_cases types given [] to at = inl refl
give_cases types given (entry ∷ table) zero zero = inr (refl, omega arith, refl)
give_cases types given (entry ∷ table) zero (suc at) = inl refl
give_cases types given (entry ∷ table) (suc to) zero = inl (give_head types given entry table to)
give_cases types given (entry ∷ table) (suc to) (suc at) = behind (give_cases types given table to at)
  where
    behind : (stack_at (give types given table to) at ≡ stack_at table at) ⊎ IsGiven types given table to at
        → (stack_at (give types given (entry ∷ table) (suc to)) (suc at) ≡ stack_at (entry ∷ table) (suc at)) ⊎ IsGiven types given (entry ∷ table) (suc to) (suc at)
    behind (inl same) = inl (give_tail types given entry table to at ∙ same)
    behind (inr new) = inr (ap suc new.0, omega (arith, new.1), give_tail types given entry table to at ∙ new.2)

-- WHAT GOES ON THROUGH ALL ROUNDS

-- what a table is, and stays where a stack comes to any place
module _ (program : Program) (method : Method) (Is : Table → Type 0) (goes : (given : List Kind) (table : Table) (at : ℕ) → IsPlace method.code at → Is table → Is (give program.types given table at)) where
  all_on : (given : List Kind) (table : Table) (to : List ℕ) → AllByRecursion (IsPlace method.code) to → Is table → Is (give_all program.types given table to)
  all_on given table [] places is = is
  all_on given table (at ∷ more) places is = all_on given (give program.types given table at) more places.1 (goes given table at places.0 is)

  one_on : (table : Table) (i : Instr) → AllByRecursion (IsPlace method.code) (successors i) → Is table → Is (one program method table i)
  one_on table i places is = by (outcome_at program method table i)
    where
      by : (o : Option Outcome) → Is (give_outcome program.types table (successors i) o)
      by None = is
      by (Some (Err fault)) = is
      by (Some (Ok given)) = all_on given table (successors i) places is

  sweep_on : (table : Table) (code : List Instr) → AllByRecursion (λ i. AllByRecursion (IsPlace method.code) (successors i)) code → Is table → Is (sweep program method table code)
  sweep_on table [] places is = is
  sweep_on table (i ∷ more) places is = sweep_on (one program method table i) more places.1 (one_on table i places.0 is)

  pub rounds_on : (n : ℕ) (table : Table) → AllByRecursion (λ i. AllByRecursion (IsPlace method.code) (successors i)) method.code → Is table → Is (rounds program method n table)
  rounds_on zero table places is = is
  rounds_on (suc n) table places is = rounds_on n (round program method table) places (sweep_on table method.code places is)

  pub begin_on : (table : Table) (starts : List (ℕ × List Kind)) → AllByRecursion (λ (start : ℕ × List Kind). is_start method.code start.0 ≡ true) starts → Is table → Is (begin program.types table starts)
  begin_on table [] places is = is
  begin_on table (start ∷ more) places is = begin_on (give program.types start.1 table start.0) more places.1 (goes start.1 table start.0 (inl places.0) is)

-- WHAT IS TYPED

-- a table as long as the code, in which instructions alone have stacks
pub record IsKept (method : Method) (table : Table) : Type 0 where
  pub size : length table ≡ end_of method.code
  pub only : (at : ℕ) (stack : List Kind) → stack_at table at ≡ Some stack → is_start method.code at ≡ true

pub kept_on : (types : List TypeInfo) (method : Method) (given : List Kind) (table : Table) (at : ℕ) → IsPlace method.code at → IsKept method table → IsKept method (give types given table at)
kept_on types method given table to place kept = record { size = give_length types given table to ∙ kept.size; only = λ at stack is. by at stack is (give_cases types given table to at) }
  where
    there : (at : ℕ) → to ≡ at → to < length table → IsPlace method.code to → is_start method.code at ≡ true
    there at same within (inl start) = subst (λ (o : ℕ). is_start method.code o ≡ true) same start
    there at same within (inr end) = absurd (omega (arith, kept.size, within, end))

    by : (at : ℕ) (stack : List Kind) → stack_at (give types given table to) at ≡ Some stack → (stack_at (give types given table to) at ≡ stack_at table at) ⊎ IsGiven types given table to at → is_start method.code at ≡ true
    by at stack is (inl same) = kept.only at stack (sym same ∙ is)
    by at stack is (inr new) = there at new.0 new.1 place

none_typed : (size at : ℕ) → stack_at (replicate size None) at ≡ None
none_typed zero at = refl
none_typed (suc size) zero = refl
none_typed (suc size) (suc at) = none_typed size at

replicate_length : {X : Type 0} (size : ℕ) (x : X) → length (replicate size x) ≡ size
replicate_length zero x = refl
replicate_length (suc size) x = ap suc (replicate_length size x)

pub untyped_kept : (method : Method) → IsKept method (untyped method)
untyped_kept method = record { size = replicate_length (end_of method.code) None; only = λ at stack is. let none = none_typed (end_of method.code) at in let clash : Some stack ≡ None = sym is ∙ none in absurd (cc) }

-- so is the typing of a method
pub table_kept : (program : Program) (method : Method) → IsFormed method → method.code ≢ [] → (table : Table) → IsTable program method table → IsKept method table
table_kept program method formed some table is =
    subst (IsKept method) is.reached
    (rounds_on program method (IsKept method) (kept_on program.types method) is.count (begun program method) (each_successor method formed)
    (begin_on program method (IsKept method) (kept_on program.types method) (untyped method) (starts_of method) (each_start method formed some) (untyped_kept method)))
