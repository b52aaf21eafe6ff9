-- The rows that tokens name are those of what instructions speak of.
use Rattle.std.proofs.Common.{◌≡◌, ℕ, zero, suc, ◌+◌, ◌<◌, ◌≤◌, ◌^◌, Bool, true, false, List, [], ◌∷◌, length, map, take, Option, Some, None, refl, ap, ◌∙◌, ⊎_elim, arith, length-append, get_or}
use Rattle.std.specs.Prelude.{IsSome, slice_get}
use Rattle.std.proofs.lemmas.Bool.{cases_lt}
use Rattle.std.proofs.lemmas.List.{length-map}
use Rattle.std.proofs.lemmas.Option.{get_or_from_slice_get}
use Rattle.px_link_methods.proofs.RowPlaces.{at_place_of}
use Rattle.px_link_methods.specs.Codes.{place_of}
use Rattle.px_program.proofs.Types.{each_at}
use Rattle.px_program.specs.Formed.{HasField, IsArray, IsBare, IsFormedType}
use Rattle.px_program.specs.declared.instr.Field.{Field}
use Rattle.px_program.specs.declared.program.Place.{Place}
use Rattle.px_program.specs.declared.program.Program.{Program}
use Rattle.px_program.specs.declared.program.TypeInfo.{TypeInfo}
use Rattle.px_asm_store.specs.Rows.{HasRoom, IsLaid}
use Rattle.px_asm_law_written.specs.Tokens.{fields_in, fields_of, first_field, instance_count}

-- LAID TYPES

slice_get-take : {X : Type 0} (n : ℕ) (xs : List X) (i : ℕ) (x : X) → i < n → slice_get xs i ≡ Some x → slice_get (take n xs) i ≡ Some x
slice_get-take zero xs i x less at = absurd (omega arith)
slice_get-take (suc n) [] i x less at = absurd (cc)
slice_get-take (suc n) (y ∷ xs) zero x less at = at
slice_get-take (suc n) (y ∷ xs) (suc i) x less at = slice_get-take n xs i x (omega arith) at

-- the type is neither one of the library nor an array, which have no members
no_array : (element : Option Place) (members : List Place) (k : ℕ) → (IsSome element → members ≡ []) → k < length members → element ≡ None
no_array None members k none less = refl
no_array (Some place) members k none less = absurd (omega (arith, ap length (none refl), less))

module _ (p : Program) (list : TypeInfo → List Place) (field : Field) (room : HasRoom p) (has : HasField list p.types field) (bare : (info : TypeInfo) → info.fields ≡ [] → info.statics ≡ [] → list info ≡ []) where
  no_library : 18 ≤ field.owner
  no_library =
      ⊎_elim
      (λ (low : field.owner < 18).
      (let is : IsBare has.type = each_at IsBare (take 18 p.types) room.writable.formed.types.bare field.owner has.type (slice_get-take 18 p.types field.owner has.type low has.at) in
      absurd (omega (arith, ap length (bare has.type is.no_fields is.no_statics), has.there))))
      (λ high. high)
      (cases_lt field.owner 18)

  pub field_laid : IsLaid p field.owner
  field_laid =
      let formed : IsFormedType p.types has.type = each_at (IsFormedType p.types) p.types room.writable.formed.types.each field.owner has.type has.at in
      let empty : IsSome has.type.element → list has.type ≡ [] = λ some. (let is : IsArray has.type = formed.array some in bare has.type is.no_fields is.no_statics) in
      room.writable.all_types field.owner has.type no_library has.at (no_array has.type.element (list has.type) field.index empty has.there)

pub owner_laid : (p : Program) (field : Field) → HasRoom p → HasField (λ t. t.fields) p.types field → IsLaid p field.owner
owner_laid p field room has = field_laid p (λ t. t.fields) field room has (λ info none _. none)

pub static_laid : (p : Program) (field : Field) → HasRoom p → HasField (λ t. t.statics) p.types field → IsLaid p field.owner
static_laid p field room has = field_laid p (λ t. t.statics) field room has (λ info _ none. none)

-- FIELDS

-- the fields of one type stand among those of all
part : (p : Program) (types : List ℕ) (i type : ℕ) → slice_get types i ≡ Some type → length (fields_of p (take i types)) + length (fields_in (slice_get p.types type)) ≤ length (fields_of p types)
part p [] i type at = absurd (cc)
part p (other ∷ types) zero type at =
    let same : other ≡ type = cc in
    omega (arith, length-append (fields_in (slice_get p.types other)) (fields_of p types), ap (λ t. length (fields_in (slice_get p.types t))) same)
part p (other ∷ types) (suc i) type at =
    omega (arith, length-append (fields_in (slice_get p.types other)) (fields_of p types), length-append (fields_in (slice_get p.types other)) (fields_of p (take i types)), part p types i type at)

members : (o : Option TypeInfo) (info : TypeInfo) → o ≡ Some info → length (fields_in o) ≡ length info.fields + length info.statics
members o info is =
    ap (λ x. length (fields_in x)) is
    ∙ length-append (map (λ place. (false, place)) info.fields) (map (λ place. (true, place)) info.statics)
    ∙ omega (arith, length-map {B = Bool × Place} info.fields (λ place. (false, place)), length-map {B = Bool × Place} info.statics (λ place. (true, place)))

-- the rows of a type's fields are there
pub rows_fit : (p : Program) (type : ℕ) (info : TypeInfo) → HasRoom p → IsLaid p type → slice_get p.types type ≡ Some info → first_field p (place_of p.layout.types type) + length info.fields + length info.statics ≤ 2 ^ 23
rows_fit p type info room laid at =
    omega (arith, part p p.layout.types (place_of p.layout.types type) type (at_place_of p.layout.types type laid), members (slice_get p.types type) info at, room.fields)

pub instances_are : (p : Program) (type : ℕ) (info : TypeInfo) → slice_get p.types type ≡ Some info → instance_count (slice_get p.types type) ≡ length info.fields
instances_are p type info at = ap instance_count at

-- the instance fields of a type that was read
pub instances_read : (p q : Program) (types : List TypeInfo) (type count : ℕ) (info other : TypeInfo) → types ≡ q.types → q ≡ p → slice_get p.types type ≡ Some info → count ≡ length (get_or types type other).fields → count ≡ length info.fields
instances_read p q types type count info other is same at counted =
    counted ∙ ap (λ xs. length (get_or xs type other).fields) (is ∙ ap (λ r. r.types) same) ∙ ap (λ t. length t.fields) (get_or_from_slice_get p.types type info other at)
