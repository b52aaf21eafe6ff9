-- Where objects of a class have their fields: at the same places as those of its bases.
use Rattle.std.proofs.Common.{◌≡◌, ◌∙◌, ℕ, zero, suc, ◌+◌, ◌<◌, ◌≤◌, ◌^◌, List, [], ◌∷◌, ◌++◌, Option, Some, None, refl, sym, ap, subst, arith, length, append_assoc, length-append}
use Rattle.std.specs.Prelude.{MatchOption, slice_get}
use Rattle.px_program.specs.Fields.{AreFields, IsSlot, fields_along, own_fields}
use Rattle.px_program.specs.Formed.{IsBehind, IsChain, IsKindOf, base_of}
use Rattle.px_program.specs.declared.instr.Field.{Field}
use Rattle.px_program.specs.declared.program.Place.{Place}
use Rattle.px_program.specs.declared.program.TypeInfo.{TypeInfo}
use Rattle.px_program.proofs.Walks.{chain_is_one}

-- a list of numbers from one on, where there is one
abbrev pub IsFrom : (ℕ → Option ℕ) → Option ℕ → List ℕ → Type 0
IsFrom next None rest = rest ≡ []
IsFrom next (Some at) [] = ⊥
IsFrom next (Some at) (x ∷ rest) = (x ≡ at) × IsChain next at rest

chain_of_from : (next : ℕ → Option ℕ) (at : ℕ) (follows : Option ℕ) (rest : List ℕ) → next at ≡ follows → IsFrom next follows rest → IsChain next at rest
chain_of_from next at None rest is from = rw from is
chain_of_from next at (Some x) [] is from = absurd from
chain_of_from next at (Some x) (y ∷ rest) is from = (rw from.0 is, rw from.0 from.1)

-- one more step of the list of a class and its bases
pub from_more : (next : ℕ → Option ℕ) (class : Option ℕ) (done : List ℕ) (at : ℕ) (rest : List ℕ)
    → ((rest : List ℕ) → IsFrom next (Some at) rest → IsFrom next class (done ++ rest)) → IsFrom next (next at) rest → IsFrom next class ((done ++ (at ∷ [])) ++ rest)
from_more next class done at rest before from =
    let all : IsFrom next class (done ++ (at ∷ rest)) = before (at ∷ rest) (refl, chain_of_from next at (next at) rest refl from) in
    let same : (done ++ (at ∷ [])) ++ rest ≡ done ++ (at ∷ rest) = append_assoc done (at ∷ []) rest in
    subst (λ list. IsFrom next class list) (sym same) all

append_nothing : (xs : List Place) → xs ++ [] ≡ xs
append_nothing [] = refl
append_nothing (x ∷ xs) = ap (λ rest. x ∷ rest) (append_nothing xs)

-- the fields of the last of a chain come first
pub fields_along_last : (types : List TypeInfo) (bases : List ℕ) (last : ℕ) → fields_along types (bases ++ (last ∷ [])) ≡ own_fields (slice_get types last) ++ fields_along types bases
fields_along_last types [] last = sym (append_nothing (own_fields (slice_get types last)))
fields_along_last types (type ∷ bases) last =
    ap (λ fields. fields ++ own_fields (slice_get types type)) (fields_along_last types bases last)
    ∙ append_assoc (own_fields (slice_get types last)) (fields_along types bases) (own_fields (slice_get types type))

fields_of_from : (types : List TypeInfo) (class : ℕ) (all : List ℕ) (fields : List Place) → IsFrom (base_of types) (Some class) all → fields ≡ fields_along types all → AreFields types class fields
fields_of_from types class [] fields from are = absurd from
fields_of_from types class (x ∷ bases) fields from are =
    let same : x ≡ class = from.0 in
    record { bases = bases; chain = from.1; are = subst (λ first. fields ≡ fields_along types (first ∷ bases)) same are }

-- the fields of a class, where its list is complete
pub are_fields : (types : List TypeInfo) (class : ℕ) (all : List ℕ) (fields : List Place) → ((rest : List ℕ) → IsFrom (base_of types) None rest → IsFrom (base_of types) (Some class) (all ++ rest)) → fields ≡ fields_along types all → AreFields types class fields
are_fields types class all fields from are = fields_of_from types class all fields (subst (λ list. IsFrom (base_of types) (Some class) list) (nothing_more all) (from [] refl)) are
  where
    nothing_more : (xs : List ℕ) → xs ++ [] ≡ xs
    nothing_more [] = refl
    nothing_more (x ∷ xs) = ap (λ rest. x ∷ rest) (nothing_more xs)

begin_along : (types : List TypeInfo) (n class base : ℕ) (bases others : List ℕ) → IsBehind (base_of types) n class base → IsChain (base_of types) class bases → IsChain (base_of types) base others
    → (more : List Place) × (fields_along types (class ∷ bases) ≡ fields_along types (base ∷ others) ++ more)
begin_along types zero class base bases others way chain other =
    let moved : IsChain (base_of types) base bases = subst (λ from. IsChain (base_of types) from bases) way chain in
    let same : bases ≡ others = chain_is_one (base_of types) base bases others moved other in
    let all : fields_along types (class ∷ bases) ≡ fields_along types (base ∷ others) = rw (way, same) refl in
    ([], all ∙ sym (append_nothing (fields_along types (base ∷ others))))
begin_along types (suc n) class base [] others way chain other =
    let goes : base_of types class ≡ Some way.0 = way.1 in
    let ends : base_of types class ≡ None = chain in
    absurd (cc)
begin_along types (suc n) class base (x ∷ bases) others way chain other =
    let goes : base_of types class ≡ Some way.0 = way.1 in
    let leads : base_of types class ≡ Some x = chain.0 in
    let same : way.0 ≡ x = cc in
    let on : IsBehind (base_of types) n x base = subst (λ from. IsBehind (base_of types) n from base) same way.2 in
    let before = begin_along types n x base bases others on chain.1 other in
    let own = own_fields (slice_get types class) in
    (before.0 ++ own, ap (λ fields. fields ++ own) before.1 ∙ append_assoc (fields_along types (base ∷ others)) before.0 own)

-- the fields of a class begin with those of each base
pub fields_begin : (types : List TypeInfo) (class base : ℕ) (fields those : List Place) → IsKindOf types class base → AreFields types base those → AreFields types class fields → (more : List Place) × (fields ≡ those ++ more)
fields_begin types class base fields those kind of_base of_class =
    let begin = begin_along types kind.steps class base of_class.bases of_base.bases kind.way of_class.chain of_base.chain in
    (begin.0, of_class.are ∙ begin.1 ∙ ap (λ front. front ++ begin.0) (sym of_base.are))

-- SLOTS

-- a field has one slot
pub slot_is_one : (types : List TypeInfo) (field : Field) (slot other : ℕ) → IsSlot types field slot → IsSlot types field other → slot ≡ other
slot_is_one types field slot other first second =
    let same : first.bases ≡ second.bases = chain_is_one (base_of types) field.owner first.bases second.bases first.chain second.chain in
    first.is ∙ ap (λ bases. length (fields_along types bases) + field.index) same ∙ sym second.is

slice_get_front : (xs ys : List Place) (at : ℕ) (x : Place) → slice_get xs at ≡ Some x → slice_get (xs ++ ys) at ≡ Some x
slice_get_front [] ys at x is = absurd (cc)
slice_get_front (y ∷ xs) ys zero x is = is
slice_get_front (y ∷ xs) ys (suc at) x is = slice_get_front xs ys at x is

slice_get_past_front : (xs ys : List Place) (at : ℕ) → slice_get (xs ++ ys) (length xs + at) ≡ slice_get ys at
slice_get_past_front [] ys at = let same : 0 + at ≡ at = omega arith in rw same refl
slice_get_past_front (x ∷ xs) ys at =
    let same : suc (length xs) + at ≡ suc (length xs + at) = omega arith in
    rw same (slice_get_past_front xs ys at)

-- a field is at its slot in each class whose kind its owner is
pub slot_stays : (types : List TypeInfo) (field : Field) (slot class : ℕ) (fields : List Place) (place : Place) → IsSlot types field slot → IsKindOf types class field.owner → AreFields types class fields → slice_get (own_fields (slice_get types field.owner)) field.index ≡ Some place → slice_get fields slot ≡ Some place
slot_stays types field slot class fields place is kind are at =
    let front = fields_along types is.bases in
    let own = own_fields (slice_get types field.owner) in
    let of_owner : AreFields types field.owner (front ++ own) = record { bases = is.bases; chain = is.chain; are = refl } in
    let begin = fields_begin types class field.owner fields (front ++ own) kind of_owner are in
    let there : slice_get (front ++ own) (length front + field.index) ≡ Some place = slice_get_past_front front own field.index ∙ at in
    let all : slice_get ((front ++ own) ++ begin.0) (length front + field.index) ≡ Some place = slice_get_front (front ++ own) begin.0 (length front + field.index) place there in
    ap (λ list. slice_get list slot) begin.1 ∙ ap (λ number. slice_get ((front ++ own) ++ begin.0) number) is.is ∙ all

-- what is counted of a slot so far, and what its bases still add
abbrev pub AddsUp : List TypeInfo → Field → ℕ → ℕ → Type 0
AddsUp types field slot at = (rest : List ℕ) → IsChain (base_of types) at rest → IsSlot types field (slot + length (fields_along types rest))

pub adds_up_first : (types : List TypeInfo) (field : Field) → AddsUp types field field.index field.owner
adds_up_first types field rest chain = record { bases = rest; chain = chain; is = omega arith }

more_fields : (types : List TypeInfo) (slot base : ℕ) (rest : List ℕ) → slot + length (fields_along types (base ∷ rest)) ≡ (slot + length (own_fields (slice_get types base))) + length (fields_along types rest)
more_fields types slot base rest = omega (arith, length-append (fields_along types rest) (own_fields (slice_get types base)))

pub adds_up_more : (types : List TypeInfo) (field : Field) (slot at base count next : ℕ) → AddsUp types field slot at → base_of types at ≡ Some base → count ≡ length (own_fields (slice_get types base)) → next ≡ slot + count → AddsUp types field next base
adds_up_more types field slot at base count next sums goes counted is rest chain =
    let before : IsSlot types field (slot + length (fields_along types (base ∷ rest))) = sums (base ∷ rest) (goes, chain) in
    let same : slot + length (fields_along types (base ∷ rest)) ≡ next + length (fields_along types rest) = more_fields types slot base rest ∙ omega arith in
    subst (IsSlot types field) same before

-- at the end it is the slot
pub adds_up_last : (types : List TypeInfo) (field : Field) (slot at : ℕ) → AddsUp types field slot at → base_of types at ≡ None → IsSlot types field slot
adds_up_last types field slot at sums ends = let same : slot + 0 ≡ slot = omega arith in subst (IsSlot types field) same (sums [] ends)

-- a slot is no less than what is counted with the next base
pub adds_up_least : (types : List TypeInfo) (field : Field) (slot at base least : ℕ) → AddsUp types field slot at → base_of types at ≡ Some base → (bases : List ℕ) → IsChain (base_of types) base bases
    → least ≤ slot + length (own_fields (slice_get types base)) → (other : ℕ) → IsSlot types field other → other < least → ⊥
adds_up_least types field slot at base least sums goes bases chain above other is less =
    let one : slot + length (fields_along types (base ∷ bases)) ≡ other = slot_is_one types field (slot + length (fields_along types (base ∷ bases))) other (sums (base ∷ bases) (goes, chain)) is in
    let more = more_fields types slot base bases in
    omega arith

-- none is answered where each slot would be too large
pub no_slot : (types : List TypeInfo) (field : Field) (result : Option ℕ) → result ≡ None → ((slot : ℕ) → IsSlot types field slot → slot < 2 ^ 32 → ⊥) → MatchOption result ((slot : ℕ) → IsSlot types field slot → slot < 2 ^ 32 → ⊥) (IsSlot types field)
no_slot types field result none large = subst (λ o. MatchOption o ((slot : ℕ) → IsSlot types field slot → slot < 2 ^ 32 → ⊥) (IsSlot types field)) (sym none) large

-- with the fields of the last of a chain, those of what is left
pub fields_left : (types : List TypeInfo) (fields more own : List Place) (chain left : List ℕ) (last : ℕ) (all : List Place) → chain ≡ left ++ (last ∷ []) → own ≡ own_fields (slice_get types last) → more ≡ fields ++ own → fields ++ fields_along types chain ≡ all → more ++ fields_along types left ≡ all
fields_left types fields more own chain left last all is is_own added before =
    let whole : fields_along types chain ≡ own ++ fields_along types left = ap (fields_along types) is ∙ fields_along_last types left last ∙ ap (λ front. front ++ fields_along types left) (sym is_own) in
    let added_all : more ++ fields_along types left ≡ (fields ++ own) ++ fields_along types left = ap (λ front. front ++ fields_along types left) added in
    added_all ∙ append_assoc fields own (fields_along types left) ∙ ap (λ rest. fields ++ rest) (sym whole) ∙ before

-- where nothing is left, they are all
pub fields_all : (types : List TypeInfo) (fields : List Place) (chain : List ℕ) (all : List Place) → chain ≡ [] → fields ++ fields_along types chain ≡ all → fields ≡ all
fields_all types fields chain all none is = sym (append_nothing fields) ∙ ap (λ left. fields ++ fields_along types left) (sym none) ∙ is

pub no_items : (xs : List ℕ) → length xs ≡ 0 → xs ≡ []
no_items [] none = refl
no_items (x ∷ xs) none = absurd (omega arith)
