-- What is left of a round, and which instructions are quiet.
use Rattle.std.proofs.Common.{◌≡◌, ◌≢◌, ℕ, zero, suc, ◌+◌, ◌<◌, ◌≤◌, inl, inr, true, false, List, [], ◌∷◌, Option, Some, None, Ok, Err, refl, ap, sym, ◌∙◌, subst, arith}
use Rattle.std.specs.Prelude.{nat_lt}
use Rattle.std.specs.List.{AllByRecursion}
use Rattle.std.proofs.lemmas.Bool.Decides.{eqb_tells, nat_tests}
use Rattle.std.proofs.lemmas.Bool.{cases_lt}
use Rattle.px_program.specs.Formed.{AreTypes, Follow, instr_at}
use Rattle.px_program.specs.declared.instr.Instr.{Instr}
use Rattle.px_program.specs.declared.program.Method.{Method}
use Rattle.px_program.specs.declared.program.Program.{Program}
use Rattle.px_program.specs.declared.program.TypeInfo.{TypeInfo}
use Rattle.px_verify_kinds.specs.declared.kind.Kind.{Kind}
use Rattle.px_verify_flow.specs.Leaving.{successors}
use Rattle.px_verify_flow.specs.Outcome.{Outcome}
use Rattle.px_verify_rounds.specs.Rounds.{sweep_from}
use Rattle.px_verify_rounds.specs.Table.{IsQuiet, Table, flow_on, give, give_all, give_outcome, one, outcome_at, round, rounds, stack_at, sweep}
use Rattle.px_verify_rounds.proofs.Gives.{Laws, given_stays, stays_on}

-- LISTS

pub each_maps : {X : Type 0} (P Q : X → Type 0) (xs : List X) → ((x : X) → P x → Q x) → AllByRecursion P xs → AllByRecursion Q xs
each_maps P Q [] f all = tt
each_maps P Q (x ∷ xs) f all = (f x all.0, each_maps P Q xs f all.1)

-- WHICH ARE QUIET

-- where each of these gifts changes nothing, all of them don't
pub all_still : (types : List TypeInfo) (given : List Kind) (table : Table) (to : List ℕ) → AllByRecursion (λ at. give types given table at ≡ table) to → give_all types given table to ≡ table
all_still types given table [] all = refl
all_still types given table (at ∷ to) all = ap (λ t. give_all types given t to) all.0 ∙ all_still types given table to all.1

-- a quiet instruction changes nothing
pub one_still : (program : Program) (method : Method) (table : Table) (i : Instr) → IsQuiet program method table i → one program method table i ≡ table
one_still program method table i quiet = by_outcome (outcome_at program method table i) refl
  where
    by_outcome : (outcome : Option Outcome) → outcome_at program method table i ≡ outcome → give_outcome program.types table (successors i) outcome ≡ table
    by_outcome None e = refl
    by_outcome (Some (Err fault)) e = refl
    by_outcome (Some (Ok given)) e = all_still program.types given table (successors i) (quiet given e)

-- what changes nothing goes on to change nothing
pub all_on : (types : List TypeInfo) (given other : List Kind) (table : Table) (at : ℕ) (to : List ℕ) → Laws → AreTypes types → give types given table at ≡ table → give types given (give_all types other table to) at ≡ give_all types other table to
all_on types given other table at [] laws are still = still
all_on types given other table at (next ∷ to) laws are still = all_on types given other (give types other table next) at to laws are (stays_on types given other table at next laws are still)

-- what was given to all changes nothing when it comes again
pub all_given : (types : List TypeInfo) (given : List Kind) (table : Table) (to : List ℕ) → Laws → AreTypes types → AllByRecursion (λ at. give types given (give_all types given table to) at ≡ give_all types given table to) to
all_given types given table [] laws are = tt
all_given types given table (at ∷ to) laws are =
    (all_on types given given (give types given table at) at to laws are (given_stays types given table at laws are), all_given types given (give types given table at) to laws are)

-- an instruction whose own stack stays is quiet once it has given
pub quiet_itself : (program : Program) (method : Method) (table : Table) (i : Instr) → Laws → AreTypes program.types
    → stack_at (one program method table i) i.offset ≡ stack_at table i.offset → IsQuiet program method (one program method table i) i
quiet_itself program method table i laws are same = λ given e.
    let before : outcome_at program method table i ≡ Some (Ok given) = sym (ap (flow_on program method i) same) ∙ e in
    let gives : one program method table i ≡ give_all program.types given table (successors i) = ap (give_outcome program.types table (successors i)) before in
    subst (λ (t : Table). AllByRecursion (λ at. give program.types given t at ≡ t) (successors i)) (sym gives) (all_given program.types given table (successors i) laws are)

-- and another that was quiet stays so, if its own stack does
pub quiet_other : (program : Program) (method : Method) (table : Table) (i j : Instr) → Laws → AreTypes program.types
    → stack_at (one program method table i) j.offset ≡ stack_at table j.offset → IsQuiet program method table j → IsQuiet program method (one program method table i) j
quiet_other program method table i j laws are same quiet = λ given e.
    let before : outcome_at program method table j ≡ Some (Ok given) = sym (ap (flow_on program method j) same) ∙ e in
    each_maps (λ at. give program.types given table at ≡ table) (λ at. give program.types given (one program method table i) at ≡ one program method table i) (successors j)
    (λ at still. by_outcome given at still (outcome_at program method table i))
    (quiet given before)
  where
    by_outcome : (given : List Kind) (at : ℕ) → give program.types given table at ≡ table → (outcome : Option Outcome) →
        give program.types given (give_outcome program.types table (successors i) outcome) at ≡ give_outcome program.types table (successors i) outcome
    by_outcome given at still None = still
    by_outcome given at still (Some (Err fault)) = still
    by_outcome given at still (Some (Ok other)) = all_on program.types given other table at (successors i) laws are still

-- WHAT IS LEFT OF A ROUND

-- instructions that follow each other start where the first one does or behind
pub follow_from : (start : ℕ) (code : List Instr) → Follow start code → AllByRecursion (λ i. start ≤ i.offset) code
follow_from start [] follow = tt
follow_from start (i ∷ more) follow = (omega (arith, follow.0), each_maps (λ i2. i.next ≤ i2.offset) (λ i2. start ≤ i2.offset) more (λ i2 le. omega (arith, follow.0, follow.1, le)) (follow_from i.next more follow.2))

below : (a b : ℕ) → a < b → nat_lt a b ≡ true
below a b less = grind (arith, nat_tests)

not_below : (a b : ℕ) → b ≤ a → nat_lt a b ≡ false
not_below a b le = grind (arith, nat_tests)

-- where all stand behind, all is left
pub all_left : (program : Program) (method : Method) (from : ℕ) (table : Table) (code : List Instr) → AllByRecursion (λ i. from ≤ i.offset) code → sweep_from program method from table code ≡ sweep program method table code
all_left program method from table [] all = refl
all_left program method from table (i ∷ more) all =
    rw (not_below i.offset from all.0) (all_left program method from (one program method table i) more all.1)

-- at the beginning of a round all is left
pub round_left : (program : Program) (method : Method) (table : Table) → sweep_from program method 0 table method.code ≡ round program method table
round_left program method table = all_left program method 0 table method.code (each method.code)
  where
    each : (code : List Instr) → AllByRecursion (λ i. 0 ≤ i.offset) code
    each [] = tt
    each (i ∷ more) = (omega arith, each more)

-- where all from an offset on are quiet, nothing changes any more
pub none_left : (program : Program) (method : Method) (from : ℕ) (table : Table) (code : List Instr) → AllByRecursion (λ i. from ≤ i.offset → IsQuiet program method table i) code → sweep_from program method from table code ≡ table
none_left program method from table [] all = refl
none_left program method from table (i ∷ more) all = elim (cases_lt i.offset from) [
  | inl before ↦ rw (below i.offset from before) (none_left program method from table more all.1)
  | inr behind ↦ rw (not_below i.offset from behind, one_still program method table i (all.0 behind)) (none_left program method from table more all.1)
]

-- quiet ones may be passed over
pub pass_over : (program : Program) (method : Method) (from to : ℕ) (table : Table) (start : ℕ) (code : List Instr) → Follow start code → from ≤ to
    → AllByRecursion (λ i. from ≤ i.offset → i.offset < to → IsQuiet program method table i) code → sweep_from program method from table code ≡ sweep_from program method to table code
pass_over program method from to table start [] follow le all = refl
pass_over program method from to table start (i ∷ more) follow le all = elim (cases_lt i.offset to) [
  | inl before ↦ elim (cases_lt i.offset from) [
    | inl sooner ↦ rw (below i.offset from sooner, below i.offset to before) (pass_over program method from to table i.next more follow.2 le all.1)
    | inr behind ↦ rw (not_below i.offset from behind, below i.offset to before, one_still program method table i (all.0 behind before)) (pass_over program method from to table i.next more follow.2 le all.1)
  ]
  | inr later ↦
      let behind : from ≤ i.offset = omega arith in
      let others : AllByRecursion (λ j. i.next ≤ j.offset) more = follow_from i.next more follow.2 in
      let rise : i.offset < i.next = omega (arith, follow.0, follow.1) in
      rw (not_below i.offset from behind, not_below i.offset to later)
      (all_left program method from (one program method table i) more (each_maps (λ j. i.next ≤ j.offset) (λ j. from ≤ j.offset) more (λ j le2. omega arith) others)
      ∙ sym (all_left program method to (one program method table i) more (each_maps (λ j. i.next ≤ j.offset) (λ j. to ≤ j.offset) more (λ j le2. omega arith) others)))
]

none_at : (code : List Instr) (at : ℕ) → AllByRecursion (λ i. suc at ≤ i.offset) code → instr_at code at ≡ None
none_at [] at all = refl
none_at (i ∷ more) at all = elim (eqb_tells i.offset at) [
  | inl same ↦ absurd (omega (arith, same.1, all.0))
  | inr apart ↦ rw apart.0 (none_at more at all.1)
]

-- the one at the offset gives what it gives, and the rest is left
pub visit_one : (program : Program) (method : Method) (at : ℕ) (table : Table) (start : ℕ) (code : List Instr) (i : Instr) → Follow start code → instr_at code at ≡ Some i
    → sweep_from program method at table code ≡ sweep_from program method (at + 1) (one program method table i) code
visit_one program method at table start [] i follow e = absurd (cc)
visit_one program method at table start (x ∷ more) i follow e =
    let others : AllByRecursion (λ j. x.next ≤ j.offset) more = follow_from x.next more follow.2 in
    let rise : x.offset < x.next = omega (arith, follow.0, follow.1) in
    elim (eqb_tells x.offset at) [
      | inl same ↦
          let here : Some x ≡ Some i = rw same.0 at e in
          let is : x ≡ i = cc in
          let offset : x.offset ≡ at = same.1 in
          let sooner : x.offset < at + 1 = omega arith in
          let behind : at ≤ x.offset = omega arith in
          rw (not_below x.offset at behind, below x.offset (at + 1) sooner, ← is)
          (all_left program method at (one program method table x) more (each_maps (λ j. x.next ≤ j.offset) (λ j. at ≤ j.offset) more (λ j le. omega arith) others)
          ∙ sym (all_left program method (at + 1) (one program method table x) more (each_maps (λ j. x.next ≤ j.offset) (λ j. at + 1 ≤ j.offset) more (λ j le. omega arith) others)))
      | inr apart ↦ elim (cases_lt x.offset at) [
        | inl before ↦
            let sooner : x.offset < at + 1 = omega arith in
            rw (below x.offset at before, below x.offset (at + 1) sooner) (visit_one program method at table x.next more i follow.2 (rw apart.0 at e))
        | inr behind ↦
            let ne : x.offset ≢ at = apart.1 in
            let none : instr_at more at ≡ None = none_at more at (each_maps (λ j. x.next ≤ j.offset) (λ j. suc at ≤ j.offset) more (λ j le. omega arith) others) in
            let some : instr_at more at ≡ Some i = rw apart.0 at e in
            absurd (cc)
      ]
    ]

-- where none stands, there is nothing to give
pub visit_none : (program : Program) (method : Method) (at : ℕ) (table : Table) (start : ℕ) (code : List Instr) → Follow start code → instr_at code at ≡ None
    → sweep_from program method at table code ≡ sweep_from program method (at + 1) table code
visit_none program method at table start code follow e = pass_over program method at (at + 1) table start code follow (omega arith) (each code e)
  where
    each : (code : List Instr) → instr_at code at ≡ None → AllByRecursion (λ i. at ≤ i.offset → i.offset < at + 1 → IsQuiet program method table i) code
    each [] e = tt
    each (x ∷ more) e = elim (eqb_tells x.offset at) [
      | inl same ↦ let here : Some x ≡ None = rw same.0 at e in absurd (cc)
      | inr apart ↦ ((λ le less. absurd (let ne : x.offset ≢ at = apart.1 in omega arith)), each more (rw apart.0 at e))
    ]

-- ROUNDS

-- one round more, at the end
pub rounds_more : (program : Program) (method : Method) (n : ℕ) (table : Table) → rounds program method (suc n) table ≡ round program method (rounds program method n table)
rounds_more program method zero table = refl
rounds_more program method (suc n) table = rounds_more program method n (round program method table)
