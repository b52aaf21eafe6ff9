-- Where instructions lead: to instructions, or to where the code ends.
use Rattle.std.proofs.Common.{◌≡◌, ◌≢◌, ◌⊎◌, inl, inr, ℕ, ◌<◌, ◌≤◌, true, false, ◌==◌, ◌&&◌, ◌||◌, nat_le, if◌then◌else◌, List, [], ◌∷◌, Option, Some, None, refl, arith, eq-eqb, eqb-true}
use Rattle.std.specs.List.{AllByRecursion, list_all}
use Rattle.px_program.specs.Formed.{Follow, IsFormed, end_of, instr_at, is_placed, is_range, is_start, targets_of}
use Rattle.px_program.specs.declared.instr.Code.{Code}
use Rattle.px_program.specs.declared.instr.Code.TheVariants as codes
use Rattle.px_program.specs.declared.instr.Instr.{Instr}
use Rattle.px_program.specs.declared.program.Clause.{Clause}
use Rattle.px_program.specs.declared.program.ClauseKind.{ClauseKind}
use Rattle.px_program.specs.declared.program.ClauseKind.TheVariants as clauses
use Rattle.px_program.specs.declared.program.Method.{Method}
use Rattle.px_program.proofs.Types.{each-append, each-weaken}
use Rattle.px_verify_kinds.specs.declared.kind.Kind.{Kind}
use Rattle.px_verify_flow.specs.Flow.{falls_off, is_outside}
use Rattle.px_verify_flow.specs.Leaving.{goes_on, next_of, successors}
use Rattle.px_verify_rounds.specs.Table.{block_start, start_of, starts_of}
use Rattle.px_verify.proofs.Finding.{and_true, by_bool, each_flat, each_found, each_true, found_has, found_where_any}

-- the offset of an instruction, or the end
abbrev pub IsPlace : List Instr → ℕ → Type 0
IsPlace code at = (is_start code at ≡ true) ⊎ (at ≡ end_of code)

-- the instruction lies within the code, and what follows it is a place
abbrev Lies : List Instr → Instr → Type 0
Lies code i = (i.offset < end_of code) × IsPlace code i.next

-- NEXT OFFSETS

next_within : (i : Instr) (rest : List Instr) (at : ℕ) → Follow at (i ∷ rest) → i.next ≤ end_of (i ∷ rest)
next_within i [] at follow = omega arith
next_within i (j ∷ rest) at follow = let later : j.next ≤ end_of (j ∷ rest) = next_within j rest i.next follow.2 in omega (arith, later, follow.2.0, follow.2.1)

started : (i : Instr) (rest : List Instr) (at : ℕ) → i.offset ≡ at → is_start (i ∷ rest) at ≡ true
started i rest at is = let same : (i.offset == at) ≡ true = eq-eqb i.offset at is in rw same refl

start_later : (i : Instr) (rest : List Instr) (at : ℕ) → is_start rest at ≡ true → is_start (i ∷ rest) at ≡ true
start_later i rest at is = by_bool (λ b. (b || is_start rest at) ≡ true) (i.offset == at) (λ _. refl) (λ _. is)

place_later : (i j : Instr) (rest : List Instr) (at : ℕ) → IsPlace (j ∷ rest) at → IsPlace (i ∷ j ∷ rest) at
place_later i j rest at (inl start) = inl (start_later i (j ∷ rest) at start)
place_later i j rest at (inr end) = inr end

each_lies : (code : List Instr) (at : ℕ) → Follow at code → AllByRecursion (Lies code) code
each_lies [] at follow = tt
each_lies (i ∷ []) at follow = ((omega (arith, follow.0, follow.1), inr refl), tt)
each_lies (i ∷ j ∷ rest) at follow =
    let later : j.next ≤ end_of (j ∷ rest) = next_within j rest i.next follow.2 in
    let within : i.offset < end_of (j ∷ rest) = omega (arith, later, follow.0, follow.1, follow.2.0, follow.2.1) in (
      (within, inl (start_later i (j ∷ rest) i.next (started j rest i.next follow.2.0))),
      each-weaken (Lies (j ∷ rest)) (Lies (i ∷ j ∷ rest)) (λ k lies. (lies.0, place_later i j rest k.next lies.1)) (j ∷ rest) (each_lies (j ∷ rest) i.next follow.2),
    )

pub offset_found : (code : List Instr) (at : ℕ) (i : Instr) → instr_at code at ≡ Some i → i.offset ≡ at
offset_found code at i is = eqb-true i.offset at (found_has (λ (k : Instr). k.offset == at) code i is)

pub instr_where_start : (code : List Instr) (at : ℕ) → is_start code at ≡ true → (i : Instr) × (instr_at code at ≡ Some i)
instr_where_start code at is = found_where_any (λ (k : Instr). k.offset == at) code is

pub start_within : (code : List Instr) → Follow 0 code → (at : ℕ) → is_start code at ≡ true → at < end_of code
start_within code follow at is =
    let i = instr_where_start code at is in
    let lies = each_found (Lies code) (λ (k : Instr). k.offset == at) code (each_lies code 0 follow) i.0 i.1 in
    omega (arith, lies.0, offset_found code at i.0 i.1)

-- SUCCESSORS

zip_each : {X : Type 0} (P Q S : X → Type 0) → ((x : X) → P x → Q x → S x) → (xs : List X) → AllByRecursion P xs → AllByRecursion Q xs → AllByRecursion S xs
zip_each P Q S goes [] first second = tt
zip_each P Q S goes (x ∷ xs) first second = (goes x first.0 second.0, zip_each P Q S goes xs first.1 second.1)

-- the targets of each instruction are instructions
pub each_leads : (method : Method) → IsFormed method → AllByRecursion (λ i. AllByRecursion (λ at. is_start method.code at ≡ true) (targets_of i.code)) method.code
each_leads method formed =
    each-weaken (λ (i : Instr). list_all (is_start method.code) (targets_of i.code) ≡ true) (λ (i : Instr). AllByRecursion (λ at. is_start method.code at ≡ true) (targets_of i.code))
    (λ i all. each_true (is_start method.code) (targets_of i.code) all) method.code (each_true (λ (i : Instr). list_all (is_start method.code) (targets_of i.code)) method.code formed.lead)

-- what each instruction may lead to is a place
pub each_successor : (method : Method) → IsFormed method → AllByRecursion (λ i. AllByRecursion (IsPlace method.code) (successors i)) method.code
each_successor method formed =
    zip_each (Lies method.code) (λ (i : Instr). AllByRecursion (λ at. is_start method.code at ≡ true) (targets_of i.code)) (λ (i : Instr). AllByRecursion (IsPlace method.code) (successors i))
    (λ i lies leads.
    each-append (IsPlace method.code) (next_of i) (targets_of i.code)
    (by_bool (λ b. AllByRecursion (IsPlace method.code) (if b then i.next ∷ [] else [])) (goes_on i.code) (λ _. (lies.1, tt)) (λ _. tt))
    (each-weaken (λ at. is_start method.code at ≡ true) (IsPlace method.code) (λ at start. inl start) (targets_of i.code) leads))
    method.code (each_lies method.code 0 formed.follow) (each_leads method formed)

-- where it doesn't fall off, each lies within the code
pub successors_within : (method : Method) (i : Instr) → falls_off method i ≡ false → AllByRecursion (λ at. at < end_of method.code) (targets_of i.code) → AllByRecursion (λ at. at < end_of method.code) (successors i)
successors_within method i stays targets =
    each-append (λ at. at < end_of method.code) (next_of i) (targets_of i.code)
    (by_bool (λ b. (b && nat_le (end_of method.code) i.next) ≡ false → AllByRecursion (λ at. at < end_of method.code) (if b then i.next ∷ [] else [])) (goes_on i.code)
    (λ _ less. (grind (arith, less), tt)) (λ _ _. tt) stays)
    targets

-- what isn't run leads nowhere
pub outside_leads_nowhere : (code : Code) → is_outside code ≡ true → (goes_on code ≡ false) × (targets_of code ≡ [])
outside_leads_nowhere (codes.Outside name opcode) is = (refl, refl)
outside_leads_nowhere _ is = absurd (cc)

-- STARTS

block_starts : (code : List Instr) (kind : ClauseKind) (at : ℕ) (class : Option ℕ) → is_start code at ≡ true → AllByRecursion (λ (start : ℕ × List Kind). is_start code start.0 ≡ true) (block_start kind at class)
block_starts code clauses.Catch at None is = tt
block_starts code clauses.Catch at (Some class) is = (is, tt)
block_starts code clauses.Filter at class is = tt
block_starts code clauses.Finally at class is = (is, tt)
block_starts code clauses.Fault at class is = (is, tt)

clause_placed : (code : List Instr) (clause : Clause) → is_placed code clause ≡ true → is_start code clause.start ≡ true
clause_placed code clause is = (and_true (is_start code clause.start) _ (and_true (is_range code clause.from clause.to) _ is).1).0

first_starts : (code : List Instr) → Follow 0 code → code ≢ [] → is_start code 0 ≡ true
first_starts [] follow some = absurd (some refl)
first_starts (i ∷ rest) follow some = started i rest 0 follow.0

-- all starts are instructions
pub each_start : (method : Method) → IsFormed method → method.code ≢ [] → AllByRecursion (λ (start : ℕ × List Kind). is_start method.code start.0 ≡ true) (starts_of method)
each_start method formed some = (
  first_starts method.code formed.follow some,
  each_flat (λ (start : ℕ × List Kind). is_start method.code start.0 ≡ true) start_of method.clauses
      (each-weaken (λ (clause : Clause). is_placed method.code clause ≡ true) (λ (clause : Clause). AllByRecursion (λ (start : ℕ × List Kind). is_start method.code start.0 ≡ true) (start_of clause))
      (λ clause placed. block_starts method.code clause.kind clause.start clause.class (clause_placed method.code clause placed)) method.clauses
      (each_true (is_placed method.code) method.clauses formed.ranges)),
)
