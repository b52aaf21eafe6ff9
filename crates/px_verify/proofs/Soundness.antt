-- The typing of a method is what a run may rely on.
use Rattle.std.proofs.Common.{◌≡◌, ◌≢◌, ℕ, ◌<◌, Bool, true, false, ◌==◌, ◌&&◌, ◌||◌, not, List, [], ◌∷◌, length, Option, Some, None, refl, ap, sym, ◌∙◌, subst, arith, eq-eqb}
use Rattle.std.specs.Prelude.{Ok, Err}
use Rattle.std.specs.List.{AllByRecursion, list_any}
use Rattle.px_program.specs.Formed.{AreTypes, IsFormed, IsFormedIn, end_of, instr_at, is_start, targets_of}
use Rattle.px_program.specs.declared.instr.Instr.{Instr}
use Rattle.px_program.specs.declared.program.Method.{Method}
use Rattle.px_program.specs.declared.program.Program.{Program}
use Rattle.px_program.specs.declared.program.TypeInfo.{TypeInfo}
use Rattle.px_program.proofs.Types.{each-weaken, each_at}
use Rattle.px_verify_kinds.specs.Heights.{AbsorbsOn, CommonAbove, GivenIsAbsorbed}
use Rattle.px_verify_kinds.specs.Kinds.{common, merge, merge_kind, put_on}
use Rattle.px_verify_kinds.specs.declared.kind.Kind.{Kind}
use Rattle.px_verify_kinds.specs.declared.kind.Kind.TheVariants as kinds
use Rattle.px_verify_flow.specs.Flow.{checked, falls_off, flow, is_bad_return, is_deep, is_outside, passed}
use Rattle.px_verify_flow.specs.Leaving.{is_bad_leave, successors}
use Rattle.px_verify_flow.specs.Outcome.{Outcome, and_then, need}
use Rattle.px_verify_flow.specs.Rows.{effect}
use Rattle.px_verify_flow.specs.declared.fault.VerifyKind.{VerifyKind}
use Rattle.px_verify_flow.specs.declared.fault.VerifyKind.TheVariants as faults
use Rattle.px_verify_rounds.specs.Table.{IsQuiet, IsTable, Table, begun, clashes, flow_on, give, outcome_at, stack_at, starts_of, untyped}
use Rattle.px_verify.specs.Laws.{TypingIsSound}
use Rattle.px_verify.specs.Sound.{Flows, Goes, Sound}
use Rattle.px_verify.specs.Verdict.{fault_at, fault_in, first_fault, gives_clash, is_bad_merge, leads_to, or_later, outcome_clashes}
use Rattle.px_verify.proofs.Finding.{and_false, by_bool, each_false, each_found, or_false}
use Rattle.px_verify.proofs.Giving.{IsKept, rounds_on, table_kept, untyped_kept}
use Rattle.px_verify.proofs.Places.{each_leads, each_start, each_successor, instr_where_start, offset_found, outside_leads_nowhere, start_within, successors_within}
use Rattle.px_verify.proofs.Standing.{AbsorbsFirst, Holds, begin_holds, holds_goes, holds_on, quiet_holds}

-- WHERE NOTHING IS REFUSED

-- the others have no fault either
pub later_faultless : (i : Instr) (fault : Option VerifyKind) (later : Option (Instr × VerifyKind)) → or_later i fault later ≡ None → (fault ≡ None) × (later ≡ None)
later_faultless i None later is = (refl, is)
later_faultless i (Some kind) later is = absurd (cc)

each_faultless : (program : Program) (method : Method) (table : Table) (code : List Instr) → first_fault program method table code ≡ None → AllByRecursion (λ i. fault_at program method table i ≡ None) code
each_faultless program method table [] is = tt
each_faultless program method table (i ∷ more) is =
    let both = later_faultless i (fault_at program method table i) (first_fault program method table more) is in (both.0, each_faultless program method table more both.1)

no_fault : (bad : Bool) (o : Outcome) → fault_in bad (Some o) ≡ None → (bad ≡ false) × ((given : List Kind) × (o ≡ Ok given))
no_fault bad (Err fault) is = absurd (cc)
no_fault true (Ok given) is = absurd (cc)
no_fault false (Ok given) is = (refl, (given, refl))

-- WHERE AN INSTRUCTION LEADS

need_ok : (holds : Bool) (fault : VerifyKind) (next : Outcome) (given : List Kind) → need holds fault next ≡ Ok given → next ≡ Ok given
need_ok true fault next given is = is
need_ok false fault next given is = absurd (cc)

need_not : (holds : Bool) (fault : VerifyKind) (next : Outcome) (given : List Kind) → need (not holds) fault next ≡ Ok given → holds ≡ false
need_not true fault next given is = absurd (cc)
need_not false fault next given is = refl

then_ok : (o : Outcome) (next : List Kind → Outcome) (given : List Kind) → and_then o next ≡ Ok given → (after : List Kind) × (next after ≡ Ok given)
then_ok (Ok after) next given is = (after, is)
then_ok (Err fault) next given is = absurd (cc)

passed_stays : (program : Program) (method : Method) (i : Instr) (before after given : List Kind) → passed program method i before after ≡ Ok given → falls_off method i ≡ false
passed_stays program method i before after given is =
    need_not (falls_off method i) faults.FallsOff (Ok after) given (
    need_ok (not (is_deep method before || is_deep method after)) faults.Depth _ given (
    need_ok (not (is_bad_leave i method.clauses)) faults.BadLeave _ given (
    need_ok (not (is_bad_return program method i before)) faults.BadRet _ given is)))

outside_stays : (method : Method) (i : Instr) → is_outside i.code ≡ true → falls_off method i ≡ false
outside_stays method i is = rw (outside_leads_nowhere i.code is).0 refl

-- what gives a stack doesn't fall off
flow_stays : (program : Program) (method : Method) (i : Instr) (stack given : List Kind) → flow program method i stack ≡ Ok given → falls_off method i ≡ false
flow_stays program method i stack given is =
    by_bool (λ b. checked b program method i stack ≡ Ok given → falls_off method i ≡ false) (is_outside i.code) (λ outside _. outside_stays method i outside)
    (λ _ ok. let rest = then_ok (effect program method i.code stack) (passed program method i stack) given ok in passed_stays program method i stack rest.0 given rest.1) is

-- A TYPED METHOD

itself_leads : (at : ℕ) (more : List ℕ) → leads_to at (at ∷ more) ≡ true
itself_leads at more = let same : (at == at) ≡ true = eq-eqb at at refl in rw same refl

later_leads : (at to : ℕ) (more : List ℕ) → leads_to at more ≡ true → leads_to at (to ∷ more) ≡ true
later_leads at to more leads = by_bool (λ b. (b || leads_to at more) ≡ true) (to == at) (λ _. refl) (λ _. leads)

-- a start's stack doesn't merge with what stands at the offset
abbrev start_clashes : Program → Table → ℕ → ℕ × List Kind → Bool
start_clashes program table at start = (start.0 == at) && clashes program.types table at start.1

module _ (program : Program) (method : Method) (table : Table) (are : AreTypes program.types) (above : CommonAbove) (formed : IsFormed method) (kept : IsKept method table)
    (quiet : AllByRecursion (IsQuiet program method table) method.code) (faultless : AllByRecursion (λ i. fault_at program method table i ≡ None) method.code) where
  inside : (at : ℕ) (stack : List Kind) → stack_at table at ≡ Some stack → (i : Instr) × (instr_at method.code at ≡ Some i)
  inside at stack is = instr_where_start method.code at (kept.only at stack is)

  fine : (at : ℕ) (stack : List Kind) (i : Instr) → stack_at table at ≡ Some stack → instr_at method.code at ≡ Some i → (is_bad_merge program method table at ≡ false) × ((given : List Kind) × (flow program method i stack ≡ Ok given))
  fine at stack i is has =
      let none = each_found (λ (k : Instr). fault_at program method table k ≡ None) (λ (k : Instr). k.offset == at) method.code faultless i has in
      let here : fault_in (is_bad_merge program method table at) (flow_on program method i (stack_at table at)) ≡ None =
      subst (λ (o : ℕ). fault_in (is_bad_merge program method table o) (flow_on program method i (stack_at table o)) ≡ None) (offset_found method.code at i has) none in
      no_fault (is_bad_merge program method table at) (flow program method i stack)
      (subst (λ (o : Option (List Kind)). fault_in (is_bad_merge program method table at) (flow_on program method i o) ≡ None) is here)

  -- what is typed takes what comes without a clash
  free : (at : ℕ) (stack : List Kind) → stack_at table at ≡ Some stack → is_bad_merge program method table at ≡ false
  free at stack is = let i = inside at stack is in (fine at stack i.0 is i.1).0

  no_clash : (place : ℕ) (i : Instr) (given : List Kind) (at : ℕ) → instr_at method.code place ≡ Some i → outcome_at program method table i ≡ Some (Ok given) → is_bad_merge program method table at ≡ false → leads_to at (successors i) ≡ true
      → clashes program.types table at given ≡ false
  no_clash place i given at has gives merges leads =
      let each = each_false (gives_clash program method table at) method.code (or_false (list_any (start_clashes program table at) (starts_of method)) _ merges).1 in
      let none = each_found (λ (k : Instr). gives_clash program method table at k ≡ false) (λ (k : Instr). k.offset == place) method.code each i has in
      and_false (leads_to at (successors i)) _ (subst (λ (o : Option Outcome). outcome_clashes program.types table at (successors i) o ≡ false) gives none) leads

  each_goes : (place : ℕ) (i : Instr) (given : List Kind) → instr_at method.code place ≡ Some i → outcome_at program method table i ≡ Some (Ok given) → (to : List ℕ) → ((at : ℕ) → leads_to at to ≡ true → leads_to at (successors i) ≡ true)
      → AllByRecursion (λ at. at < end_of method.code) to → AllByRecursion (λ at. give program.types given table at ≡ table) to → AllByRecursion (λ at. Goes program.types table at given) to
  each_goes place i given has gives [] leads within still = tt
  each_goes place i given has gives (at ∷ more) leads within still =
      let there : at < length table = omega (arith, kept.size, within.0) in
      let holds = quiet_holds program.types given table at there still.0 in
      let merges = free at holds.standing holds.stands in (
        holds_goes program.types are above table at given holds (no_clash place i given at has gives merges (leads at (itself_leads at more))),
        each_goes place i given has gives more (λ o later. leads o (later_leads o at more later)) within.1 still.1,
      )

  flows : (at : ℕ) (stack : List Kind) (i : Instr) → stack_at table at ≡ Some stack → instr_at method.code at ≡ Some i → Flows program method table i stack
  flows at stack i is has =
      let given = (fine at stack i is has).1 in
      let found : stack_at table i.offset ≡ Some stack = subst (λ (o : ℕ). stack_at table o ≡ Some stack) (sym (offset_found method.code at i has)) is in
      let gives : outcome_at program method table i ≡ Some (Ok given.0) = ap (flow_on program method i) found ∙ ap Some given.1 in
      let still = each_found (IsQuiet program method table) (λ (k : Instr). k.offset == at) method.code quiet i has given.0 gives in
      let leads = each_found (λ (k : Instr). AllByRecursion (λ o. is_start method.code o ≡ true) (targets_of k.code)) (λ (k : Instr). k.offset == at) method.code (each_leads method formed) i has in
      let targets = each-weaken (λ o. is_start method.code o ≡ true) (λ o. o < end_of method.code) (start_within method.code formed.follow) (targets_of i.code) leads in
      let within = successors_within method i (flow_stays program method i stack given.0 given.1) targets in
      record { given = given.0; flows = given.1; goes = each_goes at i given.0 has gives (successors i) (λ _ leads. leads) within still }

  each_start_goes : (starts : List (ℕ × List Kind)) → ((at : ℕ) → list_any (start_clashes program table at) (starts_of method) ≡ false → list_any (start_clashes program table at) starts ≡ false)
      → AllByRecursion (λ (start : ℕ × List Kind). Holds program.types table start.0 start.1) starts → AllByRecursion (λ (start : ℕ × List Kind). Goes program.types table start.0 start.1) starts
  each_start_goes [] among holds = tt
  each_start_goes (start ∷ more) among holds =
      let merges = free start.0 holds.0.standing holds.0.stands in
      let none = or_false (start_clashes program table start.0 start) _ (among start.0 (or_false (list_any (start_clashes program table start.0) (starts_of method)) _ merges).0) in (
        holds_goes program.types are above table start.0 start.1 holds.0 (and_false (start.0 == start.0) _ none.0 (eq-eqb start.0 start.0 refl)),
        each_start_goes more (λ at later. (or_false (start_clashes program table at start) _ (among at later)).1) holds.1,
      )

  pub sound_where : AllByRecursion (λ (start : ℕ × List Kind). Holds program.types table start.0 start.1) (starts_of method) → Sound program method table
  sound_where holds = record { starts = each_start_goes (starts_of method) (λ _ none. none) holds; inside = inside; flows = flows }

-- ITS STARTS

common_same : (types : List TypeInfo) (type : ℕ) → common types type type ≡ type
common_same types type = let same : (type == type) ≡ true = eq-eqb type type refl in rw same refl

merge_kind_same : (types : List TypeInfo) (kind : Kind) → merge_kind types kind kind ≡ Some kind
merge_kind_same types kinds.I = refl
merge_kind_same types kinds.L = refl
merge_kind_same types kinds.N = refl
merge_kind_same types kinds.Null = refl
merge_kind_same types (kinds.Ref type) = ap (λ (t : ℕ). Some (kinds.Ref t)) (common_same types type)

merge_same : (types : List TypeInfo) (stack : List Kind) → merge types stack stack ≡ Some stack
merge_same types [] = refl
merge_same types (kind ∷ below) = ap (λ (k : Option Kind). put_on k (merge types below below)) (merge_kind_same types kind) ∙ ap (put_on (Some kind)) (merge_same types below)

-- a stack absorbs itself
pub absorbs_itself : AbsorbsFirst
absorbs_itself types are stack = rw (merge_same types stack) refl

module _ (program : Program) (method : Method) (are : AreTypes program.types) (given_is : GivenIsAbsorbed) (absorbs_on : AbsorbsOn) (formed : IsFormed method) (some : method.code ≢ []) (table : Table) (is : IsTable program method table) where
  starts_within : AllByRecursion (λ (start : ℕ × List Kind). start.0 < length (untyped method)) (starts_of method)
  starts_within =
      each-weaken (λ (start : ℕ × List Kind). is_start method.code start.0 ≡ true) (λ (start : ℕ × List Kind). start.0 < length (untyped method))
      (λ start at. let within = start_within method.code formed.follow start.0 at in let kept = untyped_kept method in omega (arith, kept.size, within)) (starts_of method) (each_start method formed some)

  pub table_holds : AllByRecursion (λ (start : ℕ × List Kind). Holds program.types table start.0 start.1) (starts_of method)
  table_holds =
      each-weaken (λ (start : ℕ × List Kind). Holds program.types (begun program method) start.0 start.1) (λ (start : ℕ × List Kind). Holds program.types table start.0 start.1)
      (λ start holds.
      subst (λ (t : Table). Holds program.types t start.0 start.1) is.reached
      (rounds_on program method (λ (t : Table). Holds program.types t start.0 start.1) (λ given t at _ before. holds_on program.types are absorbs_on start.1 given t start.0 at before) is.count (begun program method) (each_successor method formed) holds))
      (starts_of method) (begin_holds program.types are given_is absorbs_on absorbs_itself (untyped method) (starts_of method) starts_within)

-- THE LAW

pub typing_sound : GivenIsAbsorbed → AbsorbsOn → CommonAbove → TypingIsSound
typing_sound given_is absorbs_on above program number method well at some typed =
    let formed = (each_at (IsFormedIn program) program.methods well.methods number method at).formed in
    sound_where program method typed.table well.types above formed (table_kept program method formed some typed.table typed.is_table) typed.is_table.quiet
    (each_faultless program method typed.table method.code typed.faultless) (table_holds program method well.types given_is absorbs_on formed some typed.table typed.is_table)
