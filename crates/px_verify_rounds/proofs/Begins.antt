-- What the starts leave, and which stacks instructions give.
use Rattle.std.proofs.Common.{◌≡◌, ℕ, zero, suc, ◌+◌, ◌<◌, ◌≤◌, ◌⊎◌, inl, inr, Bool, true, false, List, [], ◌∷◌, ◌++◌, length, map, drop, get_or, Option, Some, None, Ok, Err, refl, ap, sym, ◌∙◌, subst, arith, add-one, drop-cons}
use Rattle.std.specs.Prelude.{◌||◌, not, replicate, slice_get, ◌-◌}
use Rattle.std.specs.BTreeSet.{BTreeSet, btree_set_len}
use Rattle.std.specs.List.{AllByRecursion, flat_map}
use Rattle.std.proofs.Math.Nat.{mul-le-mul_right}
use Rattle.std.proofs.lemmas.Bool.Decides.{eqb_tells, nat_tests}
use Rattle.std.proofs.lemmas.Option.{get_or_from_slice_get, slice_get_within}
use Rattle.px_program.specs.Formed.{AreTypes, end_of, targets_of}
use Rattle.px_program.specs.declared.instr.Code.{Code}
use Rattle.px_program.specs.declared.instr.Code.TheVariants as codes
use Rattle.px_program.specs.declared.instr.Instr.{Instr}
use Rattle.px_program.specs.declared.program.Clause.{Clause}
use Rattle.px_program.specs.declared.program.ClauseKind.TheVariants as clauses
use Rattle.px_program.specs.declared.program.Method.{Method}
use Rattle.px_program.specs.declared.program.Program.{Program}
use Rattle.px_program.specs.declared.program.TypeInfo.{TypeInfo}
use Rattle.px_verify_kinds.specs.Heights.{most_height}
use Rattle.px_verify_kinds.specs.Stacks.{IsStackIn, kinds_in}
use Rattle.px_verify_kinds.specs.declared.kind.Kind.{Kind}
use Rattle.px_verify_kinds.specs.declared.stacks.Cell.{Cell}
use Rattle.px_verify_flow.specs.Flow.{checked, falls_off, flow, is_bad_return, is_deep, is_outside, passed}
use Rattle.px_verify_flow.specs.Leaving.{goes_on, is_bad_leave, successors}
use Rattle.px_verify_flow.specs.Outcome.{Outcome, and_then, need}
use Rattle.px_verify_flow.specs.Rows.{effect}
use Rattle.px_verify_flow.specs.declared.fault.VerifyKind.{VerifyKind}
use Rattle.px_verify_flow.specs.declared.fault.VerifyKind.TheVariants as faults
use Rattle.px_verify_rounds.specs.Rounds.{Added, Awaits, Begins, Between, Gave, IsIn, IsLow, highest}
use Rattle.px_verify_rounds.specs.Table.{IsQuiet, Table, begin, flow_on, give, outcome_at, stack_at, start_of, starts_of, untyped}
use Rattle.px_verify_rounds.specs.declared.worklist.Worklist.{Worklist}
use Rattle.px_verify_rounds.proofs.Gives.{Laws, stack_apart}

-- STARTS

pub begins_changed : (types : List TypeInfo) (start : ℕ) (given : List Kind) (old new : Table) (set after : BTreeSet ℕ) → Gave types given start old new true → Added set after start → Begins types ((start, given) ∷ []) old set new after
begins_changed types start given old new set after gave added = record {
  table = gave.table;
  marks = λ at. elim (eqb_tells at start) [
    | inl same ↦ inr (subst (IsIn after) (sym same.1) added.there)
    | inr apart ↦ inl (ap (λ t. stack_at t at) gave.table ∙ stack_apart types given old start at apart.1)
  ];
  keeps = added.keeps;
}

pub begins_still : (types : List TypeInfo) (start : ℕ) (given : List Kind) (old new : Table) (set : BTreeSet ℕ) → Gave types given start old new false → Begins types ((start, given) ∷ []) old set new set
begins_still types start given old new set gave = record { table = gave.table; marks = λ at. inl (ap (λ t. stack_at t at) (gave.still refl)); keeps = λ at is. is }

-- after so many clauses
pub record Beginning (types : List TypeInfo) (method : Method) (old : Table) (set : BTreeSet ℕ) (index : ℕ) (table : Table) (after : BTreeSet ℕ) : Type 0 where
  pub rest : begin types table (flat_map start_of (drop index method.clauses)) ≡ begin types old (starts_of method)
  pub marks : (at : ℕ) → (stack_at table at ≡ stack_at old at) ⊎ IsIn after at
  pub keeps : (at : ℕ) → IsIn set at → IsIn after at

pub beginning_start : (types : List TypeInfo) (method : Method) (old table : Table) (set after : BTreeSet ℕ) → Begins types ((0, []) ∷ []) old set table after → Beginning types method old set 0 table after
beginning_start types method old table set after begins = record {
  rest = ap (λ t. begin types t (flat_map start_of method.clauses)) begins.table;
  marks = begins.marks;
  keeps = begins.keeps;
}

pub beginning_step : (types : List TypeInfo) (method : Method) (old table new : Table) (set mid after : BTreeSet ℕ) (index : ℕ) (clause : Clause) (clauses : List Clause) → clauses ≡ method.clauses → index < length clauses
    → Beginning types method old set index table mid → Begins types (start_of (get_or clauses index clause)) table mid new after → Beginning types method old set (index + 1) new after
beginning_step types method old table new set mid after index clause clauses same within before begins =
    let inside : index < length method.clauses = omega (arith, ap length same) in
    let here : Begins types (start_of (get_or method.clauses index clause)) table mid new after = subst (λ (xs : List Clause). Begins types (start_of (get_or xs index clause)) table mid new after) same begins in
    let next : drop index method.clauses ≡ get_or method.clauses index clause ∷ drop (index + 1) method.clauses = rw (drop-cons method.clauses index clause inside, add-one) refl in
    record {
      rest = ap (λ t. begin types t (flat_map start_of (drop (index + 1) method.clauses))) here.table
          ∙ sym (begin_both (start_of (get_or method.clauses index clause)) table)
          ∙ sym (ap (λ xs. begin types table (flat_map start_of xs)) next)
          ∙ before.rest;
      marks = λ at. elim (here.marks at) [
        | inl still ↦ elim (before.marks at) [ inl earlier ↦ inl (still ∙ earlier) | inr is ↦ inr (here.keeps at is) ]
        | inr is ↦ inr is
      ];
      keeps = λ at is. here.keeps at (before.keeps at is);
    }
  where
    begin_both : (starts : List (ℕ × List Kind)) (t : Table) → begin types t (starts ++ flat_map start_of (drop (index + 1) method.clauses)) ≡ begin types (begin types t starts) (flat_map start_of (drop (index + 1) method.clauses))
    begin_both [] t = refl
    begin_both (start ∷ starts) t = begin_both starts (give types start.1 t start.0)

drop_all : {X : Type 0} (xs : List X) → drop (length xs) xs ≡ []
drop_all [] = refl
drop_all (x ∷ xs) = drop_all xs

pub beginning_end : (types : List TypeInfo) (method : Method) (old table : Table) (set after : BTreeSet ℕ) (index : ℕ) (clauses : List Clause) → clauses ≡ method.clauses → length clauses ≤ index → index ≤ length clauses
    → Beginning types method old set index table after → Begins types (starts_of method) old set table after
beginning_end types method old table set after index clauses same past within all =
    let is : index ≡ length method.clauses = omega (arith, ap length same) in
    let none : drop index method.clauses ≡ [] = ap (λ n. drop n method.clauses) is ∙ drop_all method.clauses in
    record { table = sym (ap (λ xs. begin types table (flat_map start_of xs)) none) ∙ all.rest; marks = all.marks; keeps = all.keeps }

-- BEFORE THE FIRST ROUND

none_stands : (n at : ℕ) → stack_at (replicate n None) at ≡ None
none_stands zero at = refl
none_stands (suc n) zero = refl
none_stands (suc n) (suc at) = none_stands n at

pub none_read : (cells : List Cell) (n : ℕ) → map (kinds_in cells) (replicate n None) ≡ replicate n None
none_read cells zero = refl
none_read cells (suc n) = ap (λ (table : Table). None ∷ table) (none_read cells n)

pub none_there : (cells : List Cell) (n : ℕ) → AllByRecursion (IsStackIn cells) (replicate n None)
none_there cells zero = tt
none_there cells (suc n) = (tt, none_there cells n)

-- an instruction that finds no stack is quiet
quiet_untyped : (program : Program) (method : Method) (table : Table) (i : Instr) → stack_at table i.offset ≡ None → IsQuiet program method table i
quiet_untyped program method table i none = λ given e. let nothing : outcome_at program method table i ≡ None = ap (flow_on program method i) none in absurd (cc)

pub first_between : (program : Program) (method : Method) (old table : Table) (set : BTreeSet ℕ) (work : Worklist) → old ≡ untyped method → Begins program.types (starts_of method) old set table work.later → btree_set_len work.now ≡ 0 → Between program method table work
first_between program method old table set work is begins none = record {
  count = 0;
  reached = sym (begins.table ∙ ap (λ t. begin program.types t (starts_of method)) is);
  waits = each method.code;
  none = none;
}
  where
    each : (code : List Instr) → AllByRecursion (Awaits program method table work.later) code
    each [] = tt
    each (i ∷ code) = (
      elim (begins.marks i.offset) [
        | inl same ↦ inr (quiet_untyped program method table i (same ∙ ap (λ t. stack_at t i.offset) is ∙ none_stands (end_of method.code) i.offset))
        | inr waits ↦ inl waits
      ],
      each code,
    )

-- WHICH STACKS ARE GIVEN

outside_leads : (code : Code) → is_outside code ≡ true → (goes_on code ≡ false) × (targets_of code ≡ [])
outside_leads (codes.Outside name opcode) e = (refl, refl)
outside_leads _ e = absurd (cc)

need_holds : (holds : Bool) (fault : VerifyKind) (next : Outcome) (given : List Kind) → need holds fault next ≡ Ok given → (holds ≡ true) × (next ≡ Ok given)
need_holds true fault next given e = (refl, e)
need_holds false fault next given e = absurd (cc)

need_after : (holds : Bool) (fault : VerifyKind) (after given : List Kind) → need holds fault (Ok after) ≡ Ok given → after ≡ given
need_after true fault after given e = cc (e)
need_after false fault after given e = absurd (cc)

then_holds : (outcome : Outcome) (next : List Kind → Outcome) (given : List Kind) → and_then outcome next ≡ Ok given → (after : List Kind) × (next after ≡ Ok given)
then_holds (Ok after) next given e = (after, e)
then_holds (Err fault) next given e = absurd (cc)

not_deep : (a b : Bool) → not (a || b) ≡ true → b ≡ false
not_deep true b e = absurd (cc)
not_deep false true e = absurd (cc)
not_deep false false e = refl

shallow : (method : Method) (stack : List Kind) → is_deep method stack ≡ false → length stack ≤ method.max_stack
shallow method stack e = grind (arith, nat_tests)

passed_low : (program : Program) (method : Method) (i : Instr) (before after given : List Kind) → passed program method i before after ≡ Ok given → length given ≤ method.max_stack
passed_low program method i before after given e =
    let falls : Outcome = need (not (falls_off method i)) faults.FallsOff (Ok after) in
    let deep : Outcome = need (not (is_deep method before || is_deep method after)) faults.Depth falls in
    let left : Outcome = need (not (is_bad_leave i method.clauses)) faults.BadLeave deep in
    let first = need_holds (not (is_bad_return program method i before)) faults.BadRet left given e in
    let second = need_holds (not (is_bad_leave i method.clauses)) faults.BadLeave deep given first.1 in
    let third = need_holds (not (is_deep method before || is_deep method after)) faults.Depth falls given second.1 in
    let same : after ≡ given = need_after (not (falls_off method i)) faults.FallsOff after given third.1 in
    subst (λ (stack : List Kind). length stack ≤ method.max_stack) same (shallow method after (not_deep (is_deep method before) (is_deep method after) third.0))

-- what goes on from an instruction is no higher than the method says, unless it leads nowhere
pub flow_low : (program : Program) (method : Method) (i : Instr) (stack given : List Kind) → flow program method i stack ≡ Ok given → (length given ≤ method.max_stack) ⊎ (successors i ≡ [])
flow_low program method i stack given e = by_outside (is_outside i.code) refl e
  where
    by_outside : (outside : Bool) → is_outside i.code ≡ outside → checked outside program method i stack ≡ Ok given → (length given ≤ method.max_stack) ⊎ (successors i ≡ [])
    by_outside true is e = let leads = outside_leads i.code is in inr (rw (leads.0, leads.1) refl)
    by_outside false is e = let next = then_holds (effect program method i.code stack) (passed program method i stack) given e in inl (passed_low program method i stack next.0 given next.1)

pub outcome_low : (program : Program) (method : Method) (table : Table) (i : Instr) (given : List Kind) → Laws → AreTypes program.types → outcome_at program method table i ≡ Some (Ok given) → IsLow program.types given (successors i) (highest program.types method)
outcome_low program method table i given laws are e = by_stack (stack_at table i.offset) e
  where
    by_stack : (stack : Option (List Kind)) → flow_on program method i stack ≡ Some (Ok given) → IsLow program.types given (successors i) (highest program.types method)
    by_stack None e = absurd (cc)
    by_stack (Some stack) e =
        let flows : flow program method i stack ≡ Ok given = cc (e) in
        elim (flow_low program method i stack given flows) [
          | inl low ↦ inl (omega (arith, laws.bounded program.types are given, mul-le-mul_right (most_height program.types) low))
          | inr none ↦ inr none
        ]

-- THE END OF THE CODE

pub end_is : (code : List Instr) (index : ℕ) (i : Instr) → suc index ≡ length code → i ≡ get_or code index i → i.next ≡ end_of code
end_is [] index i last is = absurd (omega arith)
end_is (x ∷ []) zero i last is = ap (λ (y : Instr). y.next) is
end_is (x ∷ []) (suc index) i last is = absurd (omega arith)
end_is (x ∷ y ∷ code) zero i last is = absurd (omega arith)
end_is (x ∷ y ∷ code) (suc index) i last is = end_is (y ∷ code) index i (omega arith) is

pub end_found : (code : List Instr) (i : Instr) → Some i ≡ slice_get code (length code - 1) → i.next ≡ end_of code
end_found code i e =
    let within : length code - 1 < length code = slice_get_within code (length code - 1) i (sym e) in
    end_is code (length code - 1) i (omega arith) (sym (get_or_from_slice_get code (length code - 1) i i (sym e)))

-- BLOCKS

-- a finally or fault block starts with nothing
pub begins_empty : (types : List TypeInfo) (clause : Clause) (kinds : List Kind) (old new : Table) (set after : BTreeSet ℕ) → (clause.kind ≡ clauses.Finally) ⊎ (clause.kind ≡ clauses.Fault) → kinds ≡ []
    → Begins types ((clause.start, kinds) ∷ []) old set new after → Begins types (start_of clause) old set new after
begins_empty types clause kinds old new set after kind none begins = subst (λ (starts : List (ℕ × List Kind)). Begins types starts old set new after) (same kind) begins
  where
    same : (clause.kind ≡ clauses.Finally) ⊎ (clause.kind ≡ clauses.Fault) → (let one : List (ℕ × List Kind) = (clause.start, kinds) ∷ [] in one) ≡ start_of clause
    same (inl is) = rw (is, none) refl
    same (inr is) = rw (is, none) refl
