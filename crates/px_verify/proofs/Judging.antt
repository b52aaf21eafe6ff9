-- The first fault by the least clash is the first fault.
use Rattle.std.proofs.Common.{◌≡◌, ◌≢◌, ℕ, ◌<◌, ◌≤◌, Bool, true, false, ◌==◌, ◌||◌, IsSome, List, [], ◌∷◌, length, reverse, Option, Some, None, refl, ap, sym, ◌∙◌, subst, arith, eq-eqb, eqb-true, rules}
use Rattle.std.specs.Prelude.{Ok, Err}
use Rattle.px_program.specs.Formed.{Follow, IsFormedIn, IsWellFormed, is_start, method_at}
use Rattle.px_program.specs.declared.instr.Instr.{Instr}
use Rattle.px_program.specs.declared.program.Method.{Method}
use Rattle.px_program.specs.declared.program.Program.{Program}
use Rattle.px_program.specs.declared.program.TypeInfo.{TypeInfo}
use Rattle.px_program.proofs.Types.{each_at}
use Rattle.px_verify_kinds.specs.declared.kind.Kind.{Kind}
use Rattle.px_verify_flow.specs.Flow.{flow}
use Rattle.px_verify_flow.specs.Outcome.{Outcome}
use Rattle.px_verify_flow.specs.declared.fault.VerifyKind.{VerifyKind}
use Rattle.px_verify_rounds.specs.Table.{IsTable, Table, begin, flow_on, outcome_at, stack_at, starts_of}
use Rattle.px_verify.specs.Clashes.{IsLeast, least_clash}
use Rattle.px_verify.specs.Judged.{IsBadAt, IsMethodFault, first_where, is_at, or_later_at, place_of}
use Rattle.px_verify.specs.declared.fault.VerifyFault.{VerifyFault}
use Rattle.px_verify.specs.declared.fault.VerifyFault.TheVariants as verify_faults
use Rattle.px_verify.specs.Verdict.{IsRefusedMethod, IsTypedMethod, fault_at, fault_in, first_fault, is_bad_merge, or_later}
use Rattle.px_verify.proofs.Clashing.{bad_stands, least_clash_is}
use Rattle.px_verify.proofs.Finding.{by_bool}
use Rattle.px_verify.proofs.Giving.{IsKept, table_kept}

-- WHERE ONE HAS A FAULT

later_alike : (i : Instr) (fault : Option VerifyKind) (later : Option (ℕ × VerifyKind)) (after : Option (Instr × VerifyKind)) → later ≡ place_of after → or_later_at i.offset fault later ≡ place_of (or_later i fault after)
later_alike i None later after same = same
later_alike i (Some kind) later after same = refl

faulty_alike : (i : Instr) (o : Outcome) (later : Option (ℕ × VerifyKind)) (after : Option (Instr × VerifyKind)) → or_later_at i.offset (fault_in true (Some o)) later ≡ place_of (or_later i (fault_in true (Some o)) after)
faulty_alike i (Ok given) later after = refl
faulty_alike i (Err fault) later after = refl

start_from : (code : List Instr) (from at : ℕ) → Follow from code → is_start code at ≡ true → from ≤ at
start_from [] from at follow start = absurd (cc)
start_from (i ∷ more) from at follow start =
    by_bool (λ b. (i.offset == at) ≡ b → (b || is_start more at) ≡ true → from ≤ at) (i.offset == at)
    (λ _ here _. omega (arith, follow.0, eqb-true i.offset at here))
    (λ _ _ later. let behind = start_from more i.next at follow.2 later in omega (arith, behind, follow.1)) refl start

start_behind : (i : Instr) (more : List Instr) (at : ℕ) → i.offset ≢ at → is_start (i ∷ more) at ≡ true → is_start more at ≡ true
start_behind i more at other start = by_bool (λ b. (i.offset == at) ≡ b → (b || is_start more at) ≡ true → is_start more at ≡ true) (i.offset == at) (λ _ here _. absurd (other (eqb-true i.offset at here))) (λ _ _ later. later) refl start

not_at : (least at : ℕ) → at < least → (least == at) ≡ false
not_at least at less = grind (arith, less)

module _ (program : Program) (method : Method) (table : Table) where
  -- no offset has a bad merge
  none_alike : ((at : ℕ) → is_bad_merge program method table at ≡ false) → (code : List Instr) → first_where program method table None code ≡ place_of (first_fault program method table code)
  none_alike free [] = refl
  none_alike free (i ∷ more) =
      let bad : is_bad_merge program method table i.offset ≡ false = free i.offset in
      subst (λ (b : Bool). or_later_at i.offset (fault_in false (outcome_at program method table i)) (first_where program method table None more) ≡ place_of (or_later i (fault_in b (outcome_at program method table i)) (first_fault program method table more)))
      (sym bad) (later_alike i (fault_in false (outcome_at program method table i)) (first_where program method table None more) (first_fault program method table more) (none_alike free more))

  -- there is a least one, at an instruction that finds a stack
  module _ (least : ℕ) (stack : List Kind) (stands : stack_at table least ≡ Some stack) (bad : is_bad_merge program method table least ≡ true) (free : (at : ℕ) → at < least → is_bad_merge program method table at ≡ false) where
    here_alike : (i : Instr) (more : List Instr) → i.offset ≡ least → first_where program method table (Some least) (i ∷ more) ≡ place_of (first_fault program method table (i ∷ more))
    here_alike i more here =
        let found : outcome_at program method table i ≡ Some (flow program method i stack) = ap (flow_on program method i) (ap (stack_at table) here ∙ stands) in
        let first : is_at (Some least) i.offset ≡ true = eq-eqb least i.offset (sym here) in
        let second : is_bad_merge program method table i.offset ≡ true = ap (is_bad_merge program method table) here ∙ bad in
        let left : fault_in (is_at (Some least) i.offset) (outcome_at program method table i) ≡ fault_in true (Some (flow program method i stack)) =
        ap (λ (b : Bool). fault_in b (outcome_at program method table i)) first ∙ ap (fault_in true) found in
        let right : fault_in (is_bad_merge program method table i.offset) (outcome_at program method table i) ≡ fault_in true (Some (flow program method i stack)) =
        ap (λ (b : Bool). fault_in b (outcome_at program method table i)) second ∙ ap (fault_in true) found in
        ap (λ (f : Option VerifyKind). or_later_at i.offset f (first_where program method table (Some least) more)) left
        ∙ faulty_alike i (flow program method i stack) (first_where program method table (Some least) more) (first_fault program method table more)
        ∙ ap (λ (f : Option VerifyKind). place_of (or_later i f (first_fault program method table more))) (sym right)

    some_alike : (code : List Instr) (from : ℕ) → Follow from code → is_start code least ≡ true → first_where program method table (Some least) code ≡ place_of (first_fault program method table code)
    some_alike [] from follow start = refl
    some_alike (i ∷ more) from follow start =
        by_bool (λ b. (i.offset == least) ≡ b → first_where program method table (Some least) (i ∷ more) ≡ place_of (first_fault program method table (i ∷ more))) (i.offset == least)
        (λ _ here. here_alike i more (eqb-true i.offset least here))
        (λ _ apart.
        let other : i.offset ≢ least = grind (arith, apart) in
        let from_here = start_from (i ∷ more) from least follow start in
        let less : i.offset < least = omega (arith, follow.0, from_here, other) in
        let first : is_at (Some least) i.offset ≡ false = not_at least i.offset less in
        let second = free i.offset less in
        let both : fault_in (is_at (Some least) i.offset) (outcome_at program method table i) ≡ fault_in (is_bad_merge program method table i.offset) (outcome_at program method table i) =
        ap (λ (b : Bool). fault_in b (outcome_at program method table i)) (first ∙ sym second) in
        ap (λ (f : Option VerifyKind). or_later_at i.offset f (first_where program method table (Some least) more)) both
        ∙ later_alike i (fault_at program method table i) (first_where program method table (Some least) more) (first_fault program method table more) (some_alike more i.next follow.2 (start_behind i more least other start)))
        refl

-- the first fault by the least clash is the first fault
pub first_where_is : (program : Program) (method : Method) (table : Table) → Follow 0 method.code → IsKept method table
    → first_where program method table (least_clash program method table) method.code ≡ place_of (first_fault program method table method.code)
first_where_is program method table follow kept = by (least_clash program method table) (least_clash_is program method table)
  where
    by : (least : Option ℕ) → IsLeast least (is_bad_merge program method table) → first_where program method table least method.code ≡ place_of (first_fault program method table method.code)
    by None free = none_alike program method table free method.code
    by (Some least) is =
        let stands = bad_stands program method table least is.0 in
        some_alike program method table least stands.0 stands.1 is.0 is.1 method.code 0 follow (kept.only least stands.0 stands.1)

-- VERDICTS

place_none : (first : Option (Instr × VerifyKind)) → place_of first ≡ None → first ≡ None
place_none None is = refl
place_none (Some fault) is = absurd (cc)

pub typed_where : (program : Program) (method : Method) (table : Table) → IsTable program method table → place_of (first_fault program method table method.code) ≡ None → IsTypedMethod program method
typed_where program method table is none = record { table = table; is_table = is; faultless = place_none (first_fault program method table method.code) none }

pub record IsPlaced (first : Option (Instr × VerifyKind)) (offset : ℕ) (kind : VerifyKind) : Type 0 where
  pub instr : Instr
  pub is : first ≡ Some (instr, kind)
  pub at : instr.offset ≡ offset

placed_where : (first : Option (Instr × VerifyKind)) (offset : ℕ) (kind : VerifyKind) → place_of first ≡ Some (offset, kind) → IsPlaced first offset kind
placed_where None offset kind is = absurd (cc)
placed_where (Some fault) offset kind is =
    let same : ◌≡◌ {A = ℕ × VerifyKind} (fault.0.offset, fault.1) (offset, kind) = inside (fault.0.offset, fault.1) (offset, kind) is in
    record { instr = fault.0; is = ap (λ (k : VerifyKind). Some (fault.0, k)) (ap (λ (p : ℕ × VerifyKind). p.1) same); at = ap (λ (p : ℕ × VerifyKind). p.0) same }
  where
    inside : (a b : ℕ × VerifyKind) → Some a ≡ Some b → a ≡ b
    inside a b same = cc

pub refused_where : (program : Program) (method : Method) (table : Table) → IsTable program method table → (offset : ℕ) (kind : VerifyKind) (stack : List Kind) → place_of (first_fault program method table method.code) ≡ Some (offset, kind)
    → stack_at table offset ≡ Some stack → IsRefusedMethod program method offset stack kind
refused_where program method table is offset kind stack first finds =
    let placed = placed_where (first_fault program method table method.code) offset kind first in record { table = table; is_table = is; instr = placed.instr; first = placed.is; at = placed.at; finds = finds }

-- an instruction with a fault finds a stack
fault_stands : (program : Program) (method : Method) (i : Instr) (bad : Bool) (o : Option (List Kind)) (kind : VerifyKind) → fault_in bad (flow_on program method i o) ≡ Some kind → IsSome o
fault_stands program method i bad None kind is = absurd (cc)
fault_stands program method i bad (Some stack) kind is = search rules

pub first_stands : (program : Program) (method : Method) (table : Table) (least : Option ℕ) (code : List Instr) (offset : ℕ) (kind : VerifyKind) → first_where program method table least code ≡ Some (offset, kind) → IsSome (stack_at table offset)
first_stands program method table least [] offset kind is = absurd (cc)
first_stands program method table least (i ∷ more) offset kind is = by (λ later. first_stands program method table least more offset kind later) (fault_in (is_at least i.offset) (outcome_at program method table i)) refl is
  where
    here : (k : VerifyKind) → fault_in (is_at least i.offset) (outcome_at program method table i) ≡ Some k → ◌≡◌ {A = ℕ × VerifyKind} (i.offset, k) (offset, kind) → IsSome (stack_at table offset)
    here k faulty same = subst (λ (o : ℕ). IsSome (stack_at table o)) (ap (λ (p : ℕ × VerifyKind). p.0) same) (fault_stands program method i (is_at least i.offset) (stack_at table i.offset) k faulty)

    inside : (a b : ℕ × VerifyKind) → Some a ≡ Some b → a ≡ b
    inside a b same = cc

    by : (first_where program method table least more ≡ Some (offset, kind) → IsSome (stack_at table offset)) → (fault : Option VerifyKind) → fault_in (is_at least i.offset) (outcome_at program method table i) ≡ fault → or_later_at i.offset fault (first_where program method table least more) ≡ Some (offset, kind) → IsSome (stack_at table offset)
    by behind None none later = behind later
    by behind (Some k) faulty first = here k faulty (inside (i.offset, k) (offset, kind) first)

-- WITHOUT INSTRUCTIONS

pub empty_where : {X : Type 0} (xs : List X) → (length xs == 0) ≡ true → xs ≡ []
empty_where [] is = refl
empty_where (x ∷ xs) is = absurd (grind (arith, is))

give_nothing : (types : List TypeInfo) (starts : List (ℕ × List Kind)) → begin types [] starts ≡ []
give_nothing types [] = refl
give_nothing types (start ∷ more) = give_nothing types more

-- nothing is refused where there is nothing
pub typed_alone : (program : Program) (method : Method) → method.code ≡ [] → IsTypedMethod program method
typed_alone program method none = record {
  table = [];
  is_table = record { count = 0; reached = rw none (give_nothing program.types (starts_of method)); quiet = rw none tt };
  faultless = rw none refl;
}

-- THE CHECK OF A METHOD

-- what is known once a method is typed and searched
pub record IsSearched (program : Program) (number : ℕ) (method : Method) (table : Table) (first : Option (ℕ × VerifyKind)) : Type 0 where
  pub formed : IsWellFormed program
  pub at : method_at program number ≡ Some method
  pub some : method.code ≢ []
  pub is_table : IsTable program method table
  pub found : first ≡ first_where program method table (least_clash program method table) method.code

place_is : (program : Program) (number : ℕ) (method : Method) (table : Table) (first : Option (ℕ × VerifyKind)) → IsSearched program number method table first → place_of (first_fault program method table method.code) ≡ first
place_is program number method table first searched =
    let formed = (each_at (IsFormedIn program) program.methods searched.formed.methods number method searched.at).formed in
    sym (searched.found ∙ first_where_is program method table formed.follow (table_kept program method formed searched.some table searched.is_table))

pub searched_where : (program : Program) (number : ℕ) (method : Method) (table searched : Table) (least : Option ℕ) (first : Option (ℕ × VerifyKind)) → IsWellFormed program → method_at program number ≡ Some method → method.code ≢ [] → IsTable program method table
    → searched ≡ table → least ≡ least_clash program method table → first ≡ first_where program method searched least method.code → IsSearched program number method table first
searched_where program number method table searched least first formed at some is same least_is found = record {
  formed = formed;
  at = at;
  some = some;
  is_table = is;
  found = found ∙ ap (λ (t : Table). first_where program method t least method.code) same ∙ ap (λ (l : Option ℕ). first_where program method table l method.code) least_is;
}

pub searched_typed : (program : Program) (number : ℕ) (method : Method) (table : Table) → IsSearched program number method table None → IsTypedMethod program method
searched_typed program number method table searched = typed_where program method table searched.is_table (place_is program number method table None searched)

pub searched_refused : (program : Program) (number : ℕ) (method : Method) (table : Table) (offset : ℕ) (kind : VerifyKind) → IsSearched program number method table (Some (offset, kind)) → (fault : VerifyFault) → IsBadAt table number offset kind fault → IsMethodFault program number method fault
searched_refused program number method table offset kind searched verify_faults.Memory is = tt
searched_refused program number method table offset kind searched (verify_faults.Bad place at stack why) is = (
  is.0,
  subst (λ (k : VerifyKind). IsRefusedMethod program method at (reverse stack) k) (sym is.2) (subst (λ (o : ℕ). IsRefusedMethod program method o (reverse stack) kind) (sym is.1)
      (refused_where program method table searched.is_table offset kind (reverse stack) (place_is program number method table (Some (offset, kind)) searched) is.3)),
)

pub searched_stands : (program : Program) (number : ℕ) (method : Method) (table : Table) (offset : ℕ) (kind : VerifyKind) → IsSearched program number method table (Some (offset, kind)) → IsSome (stack_at table offset)
searched_stands program number method table offset kind searched = first_stands program method table (least_clash program method table) method.code offset kind (sym searched.found)
