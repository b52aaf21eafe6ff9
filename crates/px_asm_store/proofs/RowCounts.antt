-- How many rows a program has.
use Rattle.std.proofs.Common.{◌≡◌, ℕ, ◌+◌, ◌<◌, ◌≤◌, ◌^◌, true, [], ◌∷◌, ◌++◌, Some, length, get_or, take, sym, ap, ◌∙◌, arith, length-append}
use Rattle.std.specs.Prelude.{drop, slice_get}
use Rattle.std.specs.List.{AllByRecursion, flat_map}
use Rattle.std.proofs.lemmas.Grind.{flat_map-append}
use Rattle.std.proofs.lemmas.List.{take-append-drop, take_more}
use Rattle.std.proofs.lemmas.Option.{get_or_from_slice_get, slice_get_within}
use Rattle.px_link_methods.proofs.RowPlaces.{place_below}
use Rattle.px_meta.specs.Rows.{is_in}
use Rattle.px_program.proofs.Types.{each-weaken}
use Rattle.px_program.specs.declared.program.Program.{Program}
use Rattle.px_program.specs.declared.program.TypeInfo.{TypeInfo}
use Rattle.px_asm_described.specs.Describes.{method_row, type_row}
use Rattle.px_asm_described.specs.Writable.{IsAssemblyType, IsWritable}
use Rattle.px_asm_store.specs.Rows.{HasRoom, IsLaid}
use Rattle.px_asm_law_written.proofs.DescribedLists.{all_there, few_distinct}
use Rattle.px_asm_law_written.specs.Tokens.{fields_in, fields_of, first_field}

-- TYPES AND METHODS

within_types : (p : Program) (type : ℕ) → IsAssemblyType p type → type < length p.types
within_types p type is = slice_get_within p.types type is.info is.at

pub types_below : (p : Program) → IsWritable p → AllByRecursion (λ type. type < length p.types) p.layout.types
types_below p writable = each-weaken (IsAssemblyType p) (λ type. type < length p.types) (within_types p) p.layout.types writable.types

-- the assembly has no more types than the program
pub few_laid : (p : Program) → IsWritable p → length p.layout.types ≤ length p.types
few_laid p writable = few_distinct p.layout.types (length p.types) writable.types_once (types_below p writable)

pub method_is_in : (p : Program) → IsWritable p → (number : ℕ) → number < length p.methods → is_in p.layout.methods number ≡ true
method_is_in p writable number less = all_there p.layout.methods (length p.methods) number writable.methods_once writable.methods writable.methods_count less

pub few_type_row : (p : Program) → HasRoom p → (type : ℕ) → IsLaid p type → type_row p type < 2 ^ 24
few_type_row p room type laid = omega (arith, place_below p.layout.types type laid, few_laid p room.writable, room.types)

pub few_method_row : (p : Program) → HasRoom p → (number : ℕ) → number < length p.methods → method_row p number < 2 ^ 24
few_method_row p room number less = omega (arith, place_below p.layout.methods number (method_is_in p room.writable number less), room.writable.methods_count, room.methods)

-- FIELDS

pub few_before : (p : Program) (n : ℕ) → length (fields_of p (take n p.layout.types)) ≤ length (fields_of p p.layout.types)
few_before p n =
    let f = λ (type : ℕ). fields_in (slice_get p.types type) in
    let all = p.layout.types in
    let split = ap (flat_map f) (sym (take-append-drop n all)) ∙ flat_map-append f (take n all) (drop n all) in
    omega (arith, ap length split, length-append (flat_map f (take n all)) (flat_map f (drop n all)))

pub few_first_field : (p : Program) → HasRoom p → (n : ℕ) → first_field p n < 2 ^ 24
few_first_field p room n = omega (arith, few_before p n, room.fields)

-- the fields of one more type
pub next_field : (p : Program) (n type : ℕ) (info : TypeInfo) → slice_get p.layout.types n ≡ Some type → slice_get p.types type ≡ Some info → first_field p (n + 1) ≡ first_field p n + length (fields_in (Some info))
next_field p n type info at there =
    let f = λ (number : ℕ). fields_in (slice_get p.types number) in
    let all = p.layout.types in
    let within = slice_get_within all n type at in
    let is : get_or all n 0 ≡ type = get_or_from_slice_get all n type 0 at in
    let more = ap (flat_map f) (take_more all n 0 within) ∙ flat_map-append f (take n all) (get_or all n 0 ∷ []) in
    let one : flat_map f (get_or all n 0 ∷ []) ≡ fields_in (Some info) ++ [] = ap (λ m. f m ++ []) is ∙ ap (λ o. fields_in o ++ []) there in
    let count = ap length (more ∙ ap (λ l. flat_map f (take n all) ++ l) one) in
    omega (arith, count, length-append (flat_map f (take n all)) (fields_in (Some info) ++ []), length-append (fields_in (Some info)) [])
