-- A method has one table, and so one verdict and one first fault.
use Rattle.std.proofs.Common.{◌≡◌, ℕ, zero, suc, ◌<◌, ◌⊎◌, inl, inr, List, [], ◌∷◌, Option, Some, None, refl, ap, sym, ◌∙◌, subst}
use Rattle.std.specs.Prelude.{Ok, Err}
use Rattle.std.specs.List.{AllByRecursion}
use Rattle.px_program.specs.Formed.{method_at}
use Rattle.px_program.specs.declared.instr.Instr.{Instr}
use Rattle.px_program.specs.declared.program.Method.{Method}
use Rattle.px_program.specs.declared.program.Program.{Program}
use Rattle.px_program.specs.declared.program.TypeInfo.{TypeInfo}
use Rattle.px_program.proofs.Types.{each_at}
use Rattle.px_verify_kinds.specs.declared.kind.Kind.{Kind}
use Rattle.px_verify_flow.specs.Leaving.{successors}
use Rattle.px_verify_flow.specs.Outcome.{Outcome}
use Rattle.px_verify_flow.specs.declared.fault.VerifyKind.{VerifyKind}
use Rattle.px_verify_rounds.specs.Table.{IsQuiet, Table, begun, give, give_all, give_outcome, one, outcome_at, round, rounds, stack_at, sweep}
use Rattle.px_verify.specs.Laws.{FaultIsOne, IsSameFault, NotBoth, TableIsOne}
use Rattle.px_verify.specs.Verdict.{IsRefusedMethod, IsTypedMethod, first_fault}

-- WHERE ALL IS QUIET

give_all_still : (types : List TypeInfo) (given : List Kind) (table : Table) (to : List ℕ) → AllByRecursion (λ at. give types given table at ≡ table) to → give_all types given table to ≡ table
give_all_still types given table [] quiet = refl
give_all_still types given table (at ∷ more) quiet = ap (λ t. give_all types given t more) quiet.0 ∙ give_all_still types given table more quiet.1

one_still : (program : Program) (method : Method) (table : Table) (i : Instr) → IsQuiet program method table i → one program method table i ≡ table
one_still program method table i quiet = by (outcome_at program method table i) refl
  where
    by : (o : Option Outcome) → outcome_at program method table i ≡ o → give_outcome program.types table (successors i) o ≡ table
    by None is = refl
    by (Some (Err fault)) is = refl
    by (Some (Ok given)) is = give_all_still program.types given table (successors i) (quiet given is)

sweep_still : (program : Program) (method : Method) (table : Table) (code : List Instr) → AllByRecursion (IsQuiet program method table) code → sweep program method table code ≡ table
sweep_still program method table [] quiet = refl
sweep_still program method table (i ∷ more) quiet = ap (λ t. sweep program method t more) (one_still program method table i quiet.0) ∙ sweep_still program method table more quiet.1

rounds_still : (program : Program) (method : Method) (table : Table) (n : ℕ) → round program method table ≡ table → rounds program method n table ≡ table
rounds_still program method table zero still = refl
rounds_still program method table (suc n) still = ap (rounds program method n) still ∙ rounds_still program method table n still

meet : (program : Program) (method : Method) (from table other : Table) (n k : ℕ) → round program method table ≡ table → round program method other ≡ other
    → rounds program method n from ≡ table → rounds program method k from ≡ other → table ≡ other
meet program method from table other zero k still rests here there = sym (rounds_still program method table k still) ∙ ap (rounds program method k) (sym here) ∙ there
meet program method from table other (suc n) zero still rests here there = sym here ∙ ap (rounds program method (suc n)) there ∙ rounds_still program method other (suc n) rests
meet program method from table other (suc n) (suc k) still rests here there = meet program method (round program method from) table other n k still rests here there

-- LAWS

pub table_one : TableIsOne
table_one program method table other is are =
    meet program method (begun program method) table other is.count are.count (sweep_still program method table method.code is.quiet) (sweep_still program method other method.code are.quiet) is.reached are.reached

some_or_none : {X : Type 0} (o : Option X) (x : X) → o ≡ Some x → o ≡ None → ⊥
some_or_none o x some none = let clash : Some x ≡ None = sym some ∙ none in cc

same_some : {X : Type 0} (o : Option X) (x y : X) → o ≡ Some x → o ≡ Some y → x ≡ y
same_some o x y first second = cc (sym first ∙ second)

typed_or_refused : (program : Program) (method : Method) (offset : ℕ) (stack : List Kind) (kind : VerifyKind) → IsTypedMethod program method → IsRefusedMethod program method offset stack kind → ⊥
typed_or_refused program method offset stack kind typed refused =
    let same = table_one program method typed.table refused.table typed.is_table refused.is_table in
    let none : first_fault program method refused.table method.code ≡ None = subst (λ (t : Table). first_fault program method t method.code ≡ None) same typed.faultless in
    some_or_none (first_fault program method refused.table method.code) (refused.instr, kind) refused.first none

pub not_both : NotBoth
not_both program number offset stack kind typed refused =
    typed_or_refused program refused.method offset stack kind (each_at (IsTypedMethod program) program.methods typed number refused.method refused.at) refused.refused

refused_alike : (program : Program) (method : Method) (offset : ℕ) (stack : List Kind) (kind : VerifyKind) (offset2 : ℕ) (stack2 : List Kind) (kind2 : VerifyKind)
    → IsRefusedMethod program method offset stack kind → IsRefusedMethod program method offset2 stack2 kind2 → (offset ≡ offset2) × (stack ≡ stack2) × (kind ≡ kind2)
refused_alike program method offset stack kind offset2 stack2 kind2 a b =
    let same = table_one program method a.table b.table a.is_table b.is_table in
    let first : first_fault program method b.table method.code ≡ Some (a.instr, kind) = subst (λ (t : Table). first_fault program method t method.code ≡ Some (a.instr, kind)) same a.first in
    let pair : (a.instr, kind) ≡ (b.instr, kind2) = same_some (first_fault program method b.table method.code) (a.instr, kind) (b.instr, kind2) first b.first in
    let instr : a.instr ≡ b.instr = ap (λ (p : Instr × VerifyKind). p.0) pair in
    let place : offset ≡ offset2 = sym a.at ∙ ap (λ (i : Instr). i.offset) instr ∙ b.at in
    let found : stack_at b.table offset2 ≡ Some stack = subst (λ (o : ℕ). stack_at b.table o ≡ Some stack) place (subst (λ (t : Table). stack_at t offset ≡ Some stack) same a.finds) in
    (place, same_some (stack_at b.table offset2) stack stack2 found b.finds, ap (λ (p : Instr × VerifyKind). p.1) pair)

pub fault_one : FaultIsOne
fault_one program number offset stack kind number2 offset2 stack2 kind2 a b = order (Rattle.std.proofs.lemmas.Bool.cases_order number number2)
  where
    alike : number ≡ number2 → IsSameFault number offset stack kind number2 offset2 stack2 kind2
    alike same =
        let there : method_at program number ≡ Some b.method = subst (λ (n : ℕ). method_at program n ≡ Some b.method) (sym same) b.at in
        let method = same_some (method_at program number) b.method a.method there a.at in
        let refused : IsRefusedMethod program a.method offset2 stack2 kind2 = subst (λ (m : Method). IsRefusedMethod program m offset2 stack2 kind2) method b.refused in
        let parts = refused_alike program a.method offset stack kind offset2 stack2 kind2 a.refused refused in
        record { method = same; at = parts.0; finds = parts.1; fault = parts.2 }

    order : (number ≡ number2) ⊎ (number < number2) ⊎ (number2 < number) → IsSameFault number offset stack kind number2 offset2 stack2 kind2
    order (inl same) = alike same
    order (inr (inl less)) = absurd (typed_or_refused program a.method offset stack kind (b.before number a.method less a.at) a.refused)
    order (inr (inr more)) = absurd (typed_or_refused program b.method offset2 stack2 kind2 (a.before number2 b.method more b.at) b.refused)
