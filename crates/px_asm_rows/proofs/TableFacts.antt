-- Facts of programs that can be written, and of the lists of their tables.
use Rattle.std.proofs.Common.{◌≡◌, ℕ, zero, suc, ◌+◌, ◌<◌, ◌≤◌, Bool, true, false, List, [], ◌∷◌, ◌++◌, length, get_or, take, map, Option, Some, None, refl, sym, ap, ◌∙◌, subst, append_assoc, arith}
use Rattle.std.specs.Prelude.{slice_get}
use Rattle.std.specs.List.{AllByRecursion, AllZip, flat_map, range_with_len}
use Rattle.std.proofs.lemmas.Grind.{flat_map-append}
use Rattle.std.proofs.lemmas.List.{append-nil, take_more}
use Rattle.std.proofs.lemmas.Option.{slice_get-get_or, slice_get_read, slice_get_within}
use Rattle.px_link_methods.proofs.RowPlaces.{each_in, each_led_to, one_of_each}
use Rattle.px_meta.specs.Rows.{is_in}
use Rattle.px_program.specs.Formed.{FitsPlace, IsFormedType}
use Rattle.px_program.specs.declared.program.Place.{Place}
use Rattle.px_program.specs.declared.program.Place.TheVariants as places
use Rattle.px_program.specs.declared.program.Program.{Program}
use Rattle.px_program.specs.declared.program.TypeInfo.{TypeInfo}
use Rattle.px_asm_described.specs.Writable.{IsAssemblyType, IsWritable}
use Rattle.px_asm_law_written.specs.Holds.{IsImplRow, all_places, integer_places, pair_of}
use Rattle.px_tables.specs.declared.tables.Row.{Row}
use Rattle.px_program.specs.declared.program.Slot.{Slot}
use Rattle.std.proofs.lemmas.Slice.Zip.{all_zipped_more}
use Rattle.px_asm_law_written.specs.Tokens.{fields_in, fields_of}
use Rattle.px_asm_rows.proofs.TableStays.{zipped_grown}

-- READING

pub read_again : {X : Type 0} (xs : List X) (i : ℕ) (d e : X) → i < length xs → get_or xs i d ≡ get_or xs i e
read_again [] i d e less = absurd (omega arith)
read_again (x ∷ xs) zero d e less = refl
read_again (x ∷ xs) (suc i) d e less = read_again xs i d e (omega arith)

-- one more pair, where the item is read
pub zipped_at : {X Y : Type 0} (R S : X → Y → Type 0) → ((x : X) (y : Y) → R x y → S x y) → (xs : List X) (i : ℕ) (d : X) (ys news : List Y) (y : Y) → AllZip R (take i xs) ys → i < length xs → S (get_or xs i d) y → news ≡ ys ++ y ∷ [] → AllZip S (take (i + 1) xs) news
zipped_at R S weaker xs i d ys news y are less holds e = zipped_grown R S weaker xs i (get_or xs i d) ys news y are less (read_again xs i d (get_or xs i d) less) holds e

pub each_got : {X : Type 0} (P : X → Type 0) (xs : List X) (i : ℕ) (x : X) → AllByRecursion P xs → slice_get xs i ≡ Some x → P x
each_got P [] i x each at = absurd (cc)
each_got P (y ∷ xs) zero x each at = let same : y ≡ x = cc in subst P same each.0
each_got P (y ∷ xs) (suc i) x each at = each_got P xs i x each.1 at

each_front_back : {X : Type 0} (P : X → Type 0) (xs ys : List X) → AllByRecursion P xs → AllByRecursion P ys → AllByRecursion P (xs ++ ys)
each_front_back P [] ys front back = back
each_front_back P (x ∷ xs) ys front back = (front.0, each_front_back P xs ys front.1 back)

-- one more item's list
pub flat_map_more : {X Y : Type 0} (f : X → List Y) (xs : List X) (i : ℕ) (x : X) → i < length xs → x ≡ get_or xs i x → flat_map f (take (i + 1) xs) ≡ flat_map f (take i xs) ++ f x
flat_map_more f xs i x less is =
    ap (flat_map f) (take_more xs i x less) ∙ ap (λ z. flat_map f (take i xs ++ z ∷ [])) (sym is) ∙ flat_map-append f (take i xs) (x ∷ []) ∙ ap (λ l. flat_map f (take i xs) ++ l) (append-nil (f x))

-- FIELDS

pub table_fields_more : (types : List TypeInfo) (numbers : List ℕ) (i number : ℕ) (info : TypeInfo) (before between after : List (Bool × Place)) → before ≡ flat_map (λ number. fields_in (slice_get types number)) (take i numbers) → i < length numbers → number ≡ get_or numbers i number → number < length types → info ≡ get_or types number info → between ≡ before ++ map (λ place. (false, place)) info.fields → after ≡ between ++ map (λ place. (true, place)) info.statics → after ≡ flat_map (λ number. fields_in (slice_get types number)) (take (i + 1) numbers)
table_fields_more types numbers i number info before between after are less is there info_is first second =
    let f : ℕ → List (Bool × Place) = λ number. fields_in (slice_get types number) in
    let got : slice_get types number ≡ Some info = slice_get_read types (length types) number info refl there info_is in
    second ∙ ap (λ l. l ++ map (λ place. (true, place)) info.statics) (first ∙ ap (λ l. l ++ map (λ place. (false, place)) info.fields) are)
    ∙ append_assoc (flat_map f (take i numbers)) (map (λ place. (false, place)) info.fields) (map (λ place. (true, place)) info.statics)
    ∙ ap (λ o. flat_map f (take i numbers) ++ fields_in o) (sym got)
    ∙ sym (flat_map_more f numbers i number less is)

each_with : (types : List TypeInfo) (is_static : Bool) (places : List Place) → AllByRecursion (FitsPlace types) places → AllByRecursion (λ (field : Bool × Place). FitsPlace types field.1) (map (λ place. (is_static, place)) places)
each_with types is_static [] each = tt
each_with types is_static (place ∷ places) each = (each.0, each_with types is_static places each.1)

fit_in : (types : List TypeInfo) (found : Option TypeInfo) → ((info : TypeInfo) → found ≡ Some info → IsFormedType types info) → AllByRecursion (λ (field : Bool × Place). FitsPlace types field.1) (fields_in found)
fit_in types None formed = tt
fit_in types (Some info) formed = each_front_back (λ (field : Bool × Place). FitsPlace types field.1) (map (λ place. (false, place)) info.fields) (map (λ place. (true, place)) info.statics) (each_with types false info.fields (formed info refl).fields) (each_with types true info.statics (formed info refl).statics)

pub table_fields_fit : (p : Program) → IsWritable p → AllByRecursion (λ (field : Bool × Place). FitsPlace p.types field.1) (fields_of p p.layout.types)
table_fields_fit p w = each_led_to (λ (field : Bool × Place). FitsPlace p.types field.1) (λ type. fields_in (slice_get p.types type)) p.layout.types (λ type there. fit_in p.types (slice_get p.types type) (λ info at. each_got (IsFormedType p.types) p.types type info w.formed.types.each at))

-- TYPES AND METHODS

pub table_laid_type : (p : Program) → IsWritable p → (number : ℕ) → is_in p.layout.types number ≡ true → IsAssemblyType p number
table_laid_type p w number there = one_of_each (IsAssemblyType p) p.layout.types number w.types there

pub table_type_there : (p : Program) → IsWritable p → (number : ℕ) → is_in p.layout.types number ≡ true → number < length p.types
table_type_there p w number there = let laid = table_laid_type p w number there in slice_get_within p.types number laid.info laid.at

pub table_laid : (types : List ℕ) → AllByRecursion (λ type. is_in types type ≡ true) types
table_laid types = each_in (λ type. is_in types type ≡ true) types (λ type there. there)

-- PLACES

some_fit : (types : List TypeInfo) (from n : ℕ) → from + n ≤ length types → AllByRecursion (FitsPlace types) (map places.Ref (range_with_len from n))
some_fit types from zero few = tt
some_fit types from (suc n) few = (omega arith, some_fit types (from + 1) n (omega arith))

pub table_places_fit : (p : Program) → AllByRecursion (FitsPlace p.types) (all_places p)
table_places_fit p = each_front_back (FitsPlace p.types) integer_places (map places.Ref (range_with_len 0 (length p.types))) (tt, (tt, (tt, (tt, (tt, (tt, (tt, (tt, (tt, (tt, (tt, (tt, tt)))))))))))) (some_fit p.types 0 (length p.types) (omega arith))

-- PAIRS

pub zip_read : {X Y : Type 0} (R : X → Y → Type 0) (xs : List X) (ys : List Y) (i : ℕ) (d : X) (e : Y) → AllZip R xs ys → i < length xs → R (get_or xs i d) (get_or ys i e)
zip_read R [] ys i d e are less = absurd (omega arith)
zip_read R (x ∷ xs) [] i d e are less = absurd are
zip_read R (x ∷ xs) (y ∷ ys) zero d e are less = are.0
zip_read R (x ∷ xs) (y ∷ ys) (suc i) d e are less = zip_read R xs ys i d e are.1 (omega arith)

-- OVERRIDING

pair_with : (number over : ℕ) (slot : Slot) → slot.overridden ≡ Some over → pair_of number (Some slot) ≡ (number, over) ∷ []
pair_with number over slot e = rw e refl

pair_without : (number : ℕ) (slot : Slot) → slot.overridden ≡ None → pair_of number (Some slot) ≡ []
pair_without number slot e = rw e refl

-- one more method, which overrides one
pub table_impls_more : (p : Program) (slots : List Slot) (numbers : List ℕ) (i number over : ℕ) (d : Slot) (made news : List Row) (row : Row) → slots ≡ p.layout.slots → number < length slots → (get_or slots number d).overridden ≡ Some over → i < length numbers → number ≡ get_or numbers i number → AllZip (IsImplRow p) (flat_map (λ number. pair_of number (slice_get p.layout.slots number)) (take i numbers)) made → IsImplRow p (number, over) row → news ≡ made ++ row ∷ [] → AllZip (IsImplRow p) (flat_map (λ number. pair_of number (slice_get p.layout.slots number)) (take (i + 1) numbers)) news
table_impls_more p slots numbers i number over d made news row same there overrides less is are one e =
    let f : ℕ → List (ℕ × ℕ) = λ number. pair_of number (slice_get p.layout.slots number) in
    let got : slice_get p.layout.slots number ≡ Some (get_or slots number d) = subst (λ (l : List Slot). slice_get l number ≡ Some (get_or slots number d)) same (slice_get-get_or slots number d there) in
    let pair : f number ≡ (number, over) ∷ [] = ap (pair_of number) got ∙ pair_with number over (get_or slots number d) overrides in
    subst (λ l. AllZip (IsImplRow p) l news) (sym (flat_map_more f numbers i number less is ∙ ap (λ l. flat_map f (take i numbers) ++ l) pair))
    (subst (λ l. AllZip (IsImplRow p) (flat_map f (take i numbers) ++ (number, over) ∷ []) l) (sym e) (all_zipped_more (IsImplRow p) (flat_map f (take i numbers)) made (number, over) row are one))

-- or one that overrides none
pub table_impls_none : (p : Program) (slots : List Slot) (numbers : List ℕ) (i number : ℕ) (d : Slot) (made news : List Row) → slots ≡ p.layout.slots → number < length slots → (get_or slots number d).overridden ≡ None → i < length numbers → number ≡ get_or numbers i number → AllZip (IsImplRow p) (flat_map (λ number. pair_of number (slice_get p.layout.slots number)) (take i numbers)) made → news ≡ made → AllZip (IsImplRow p) (flat_map (λ number. pair_of number (slice_get p.layout.slots number)) (take (i + 1) numbers)) news
table_impls_none p slots numbers i number d made news same there overrides less is are e =
    let f : ℕ → List (ℕ × ℕ) = λ number. pair_of number (slice_get p.layout.slots number) in
    let got : slice_get p.layout.slots number ≡ Some (get_or slots number d) = subst (λ (l : List Slot). slice_get l number ≡ Some (get_or slots number d)) same (slice_get-get_or slots number d there) in
    let none : f number ≡ [] = ap (pair_of number) got ∙ pair_without number (get_or slots number d) overrides in
    subst (λ l. AllZip (IsImplRow p) l news) (sym (flat_map_more f numbers i number less is ∙ ap (λ l. flat_map f (take i numbers) ++ l) none ∙ append-nil (flat_map f (take i numbers))))
    (subst (λ l. AllZip (IsImplRow p) (flat_map f (take i numbers)) l) (sym e) are)

pub table_none : (o : Option ℕ) → ((x : ℕ) → o ≡ Some x → ⊥) → o ≡ None
table_none None not = refl
table_none (Some x) not = absurd (not x refl)
