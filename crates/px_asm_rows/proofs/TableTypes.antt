-- The rows of types and of references to them.
use Rattle.std.proofs.Common.{◌≡◌, ℕ, zero, suc, ◌+◌, ◌<◌, ◌≤◌, Bool, true, List, [], ◌∷◌, ◌++◌, length, get_or, take, drop, map, Some, refl, sym, ap, ◌∙◌, subst, arith}
use Rattle.std.specs.Prelude.{IfSome, ◌⊎◌, codes, nat_le, ◌&&◌, slice_get}
use Rattle.std.specs.List.{AllZip, list_all}
use Rattle.std.proofs.lemmas.Bool.{and_parts, leb-true}
use Rattle.std.proofs.lemmas.List.{map_more}
use Rattle.std.proofs.lemmas.Option.{same_Some, slice_get_read}
use Rattle.std.proofs.lemmas.Slice.Zip.{AllZip-long, all_zipped_more}
use Rattle.px_asm_heaps.specs.Heaps.{HasString}
use Rattle.px_meta.specs.FullNames.{with_namespace}
use Rattle.px_meta.specs.Rows.{is_in}
use Rattle.px_asm_described.specs.Describes.{extends_of}
use Rattle.px_asm_store.proofs.StoreStays.{string_stays}
use Rattle.px_asm_law_written.specs.Tokens.{first_field}
use Rattle.px_link_methods.specs.Codes.{place_of}
use Rattle.px_program.specs.Library.{library_types}
use Rattle.px_program.specs.declared.program.Method.{Method}
use Rattle.px_program.specs.declared.program.Program.{Program}
use Rattle.px_program.specs.declared.program.TypeInfo.{TypeInfo}
use Rattle.px_asm_described.specs.Writable.{IsText, IsWritable, owner_in, owner_place}
use Rattle.px_tables.specs.declared.tables.Row.{Row}
use Rattle.px_asm_law_written.specs.Holds.{AreTypeDefs, IsModule, IsTypeDef, IsTypeRef, all_referred, checker, methods_before, system}
use Rattle.px_asm_law_written.specs.Store.{Store, StoreGrows}
use Rattle.px_asm_rows.specs.Tables.{IsTypeDefOf}
use Rattle.px_asm_rows.proofs.TableCounts.{table_place_at}
use Rattle.px_asm_rows.proofs.TableFacts.{table_laid_type, table_type_there}
use Rattle.px_asm_rows.proofs.TableStays.{heaps, table_stays_type_ref, zip_weaker}
use Rattle.px_asm_rows.proofs.TableTexts.{is_plain, table_plain_text}

-- THE LIBRARY

abbrev pub is_library_name : TypeInfo → Bool
is_library_name info = nat_le 7 (length info.name) && list_all is_plain (drop 7 info.name)

-- a name behind a namespace of seven bytes
pub record IsLibraryName (info : TypeInfo) : Type 0 where
  pub long : 7 ≤ length info.name
  pub text : IsText (drop 7 info.name)

names_at : (types : List TypeInfo) (i : ℕ) (info : TypeInfo) → list_all is_library_name types ≡ true → i < length types → info ≡ get_or types i info → IsLibraryName info
names_at [] i info all less is = absurd (omega arith)
names_at (one ∷ types) zero info all less is =
    let both = and_parts (is_library_name one) (list_all is_library_name types) all in
    let parts = and_parts (nat_le 7 (length one.name)) (list_all is_plain (drop 7 one.name)) both.0 in
    subst IsLibraryName (sym is) (record { long = leb-true 7 (length one.name) parts.0; text = table_plain_text (drop 7 one.name) parts.1 })
names_at (one ∷ types) (suc i) info all less is = names_at types i info (and_parts (is_library_name one) (list_all is_library_name types) all).1 (omega arith) is

pub table_library_name : (types : List TypeInfo) (i : ℕ) (info : TypeInfo) → types ≡ library_types → i < length types → info ≡ get_or types i info → IsLibraryName info
table_library_name types i info e less is = names_at types i info (ap (list_all is_library_name) e) less is

-- one more reference
pub table_refs_more : (old new : Store) → StoreGrows old new → (types : List TypeInfo) (i : ℕ) (info : TypeInfo) (made news : List Row) (row : Row) → AllZip (IsTypeRef old) (map system (take i types)) made → i < length types → info ≡ get_or types i info → IsTypeRef new (system info) row → news ≡ made ++ row ∷ [] → AllZip (IsTypeRef new) (map system (take (i + 1) types)) news
table_refs_more old new g types i info made news row are less is one e =
    subst (λ l. AllZip (IsTypeRef new) (map system (take (i + 1) types)) l) (sym e)
    (subst (λ l. AllZip (IsTypeRef new) l (made ++ row ∷ [])) (sym (map_more system types i info less))
    (subst (λ z. AllZip (IsTypeRef new) (map system (take i types) ++ system z ∷ []) (made ++ row ∷ [])) is
    (all_zipped_more (IsTypeRef new) (map system (take i types)) made (system info) row (zip_weaker (IsTypeRef old) (IsTypeRef new) (table_stays_type_ref old new (heaps old new g)) (map system (take i types)) made are) one)))

pub table_zip_append : {X Y : Type 0} (R : X → Y → Type 0) (xs : List X) (ys : List Y) (xs' : List X) (ys' : List Y) → AllZip R xs ys → AllZip R xs' ys' → AllZip R (xs ++ xs') (ys ++ ys')
table_zip_append R [] [] xs' ys' front back = back
table_zip_append R [] (y ∷ ys) xs' ys' front back = absurd front
table_zip_append R (x ∷ xs) [] xs' ys' front back = absurd front
table_zip_append R (x ∷ xs) (y ∷ ys) xs' ys' front back = (front.0, table_zip_append R xs ys xs' ys' front.1 back)

-- all references, and the two of the checkers behind those of the library
pub table_all_refs : (mid new : Store) → StoreGrows mid new → (library checkers made : List Row) → AllZip (IsTypeRef mid) (map system library_types) library → AllZip (IsTypeRef new) (drop 18 all_referred) checkers → made ≡ library ++ checkers → AllZip (IsTypeRef new) all_referred made
table_all_refs mid new g library checkers made front back e =
    subst (λ l. AllZip (IsTypeRef new) all_referred l) (sym e)
    (table_zip_append (IsTypeRef new) (map system library_types) library (drop 18 all_referred) checkers (zip_weaker (IsTypeRef mid) (IsTypeRef new) (table_stays_type_ref mid new (heaps mid new g)) (map system library_types) library front) back)

-- OWNERS

-- the row of the owner of a method
pub table_owner_row : (p : Program) (methods : List Method) (number : ℕ) (method : Method) (row : ℕ) → methods ≡ p.methods → number < length p.methods → method ≡ get_or methods number method → row ≡ place_of p.layout.types method.owner + 2 → row ≡ owner_place p number + 2
table_owner_row p methods number method row same there is row_is =
    let got : slice_get p.methods number ≡ Some method = subst (λ (l : List Method). slice_get l number ≡ Some method) same (slice_get_read methods (length methods) number method refl (omega (arith, ap length same)) is) in
    row_is ∙ ap (λ o. place_of p.layout.types (owner_in o) + 2) (sym got)

-- ALL TYPES

zip_got : {X Y : Type 0} (R : X → Y → Type 0) (xs : List X) (ys : List Y) (i : ℕ) (x : X) (y : Y) → AllZip R xs ys → slice_get xs i ≡ Some x → slice_get ys i ≡ Some y → R x y
zip_got R [] ys i x y are at there = absurd (cc)
zip_got R (a ∷ xs) [] i x y are at there = absurd are
zip_got R (a ∷ xs) (b ∷ ys) zero x y are at there = let first : a ≡ x = cc in let second : b ≡ y = cc in subst (λ z. R z y) first (subst (R a) second are.0)
zip_got R (a ∷ xs) (b ∷ ys) (suc i) x y are at there = zip_got R xs ys i x y are.1 at there

-- the rows of types behind that of `<Module>`
behind_first : (first row : Row) (rows made : List Row) (i : ℕ) → made ≡ first ∷ rows → slice_get made (i + 1) ≡ Some row → slice_get rows i ≡ Some row
behind_first first row rows made i e there =
    let one : i + 1 ≡ suc i = omega arith in
    subst (λ k. slice_get (first ∷ rows) k ≡ Some row) one (subst (λ (l : List Row). slice_get l (i + 1) ≡ Some row) e there)

pub table_type_defs : (p : Program) → IsWritable p → (s : Store) (module_row : Row) (classes made : List Row) → IsModule s module_row → AllZip (IsTypeDefOf p s) p.layout.types classes → made ≡ module_row ∷ classes → AreTypeDefs p s made
table_type_defs p w s module_row classes made is_module are e = record {
  count = omega (arith, ap length e, AllZip-long (IsTypeDefOf p s) p.layout.types classes are);
  head = λ row at. (let first : Some module_row ≡ Some row = sym (ap (λ (l : List Row). slice_get l 0) e) ∙ at in subst (IsModule s) (same_Some module_row row first) is_module);
  each = λ i type info row at found there. (let moved : slice_get classes i ≡ Some row = behind_first module_row row classes made i e there in
      let of : IsTypeDefOf p s type row = zip_got (IsTypeDefOf p s) p.layout.types classes i type row are at moved in
      subst (λ k. IsTypeDef p s k info row) (table_place_at p.layout.types i type w.types_once at) (of.is info found));
}

-- ONE TYPE

-- what is known of a type of the assembly where it is read
pub record IsLaidInfo (p : Program) (number : ℕ) (info : TypeInfo) : Type 0 where
  pub got : slice_get p.types number ≡ Some info
  pub name : IsText info.name
  pub base : IfSome info.base (λ base. (base < 17) ⊎ ((18 ≤ base) × (is_in p.layout.types base ≡ true)))

pub table_laid_info : (p : Program) → IsWritable p → (number : ℕ) → is_in p.layout.types number ≡ true → (types : List TypeInfo) (info : TypeInfo) → types ≡ p.types → info ≡ get_or types number info → IsLaidInfo p number info
table_laid_info p w number there types info same is =
    let laid = table_laid_type p w number there in
    let got : slice_get p.types number ≡ Some info = subst (λ (l : List TypeInfo). slice_get l number ≡ Some info) same (slice_get_read types (length types) number info refl (omega (arith, ap length same, table_type_there p w number there)) is) in
    let one : laid.info ≡ info = same_Some laid.info info (sym laid.at ∙ got) in
    record {
      got = got;
      name = subst (λ i. IsText i.name) one laid.name;
      base = subst (λ i. IfSome i.base (λ base. (base < 17) ⊎ ((18 ≤ base) × (is_in p.layout.types base ≡ true)))) one laid.base;
    }

pub table_type_def_made : (p : Program) (mid new : Store) → StoreGrows mid new → (number : ℕ) (info : TypeInfo) (namespace name : List ℕ) (name_at namespace_at base fields methods : ℕ) → slice_get p.types number ≡ Some info → with_namespace namespace name ≡ info.name → HasString mid.strings namespace_at namespace → HasString new.strings name_at name → base ≡ extends_of p info.base → fields ≡ first_field p (place_of p.layout.types number) → methods ≡ methods_before p (place_of p.layout.types number) + 1
    → IsTypeDefOf p new number (record { cells = 0x100001 ∷ name_at ∷ namespace_at ∷ base ∷ fields ∷ methods ∷ 0 ∷ 0 ∷ 0 ∷ [] })
table_type_def_made p mid new g number info namespace name name_at namespace_at base fields methods got full first second base_is fields_are methods_are = record {
  is = λ other at. (let one : info ≡ other = same_Some info other (sym got ∙ at) in record {
    class = refl;
    name = name;
    namespace = namespace;
    name_is = second;
    namespace_is = string_stays mid.strings new.strings g.strings namespace_at namespace first;
    full = full ∙ ap (λ i. i.name) one;
    base = base_is ∙ ap (λ i. extends_of p i.base) one;
    fields = fields_are;
    methods = methods_are;
  });
}

-- PUSHES

pub table_two_pushed : (none one two : List Row) (first second : Row) → none ≡ [] → one ≡ none ++ first ∷ [] → two ≡ one ++ second ∷ [] → two ≡ first ∷ second ∷ []
table_two_pushed none one two first second empty e f = f ∙ ap (λ l. l ++ second ∷ []) (e ∙ ap (λ l. l ++ first ∷ []) empty)

pub table_one_in_front : (none one all rest : List Row) (first : Row) → none ≡ [] → one ≡ none ++ first ∷ [] → all ≡ one ++ rest → all ≡ first ∷ rest
table_one_in_front none one all rest first empty e f = f ∙ ap (λ l. l ++ rest) (e ∙ ap (λ l. l ++ first ∷ []) empty)

pub table_checkers : (first second : Store) → StoreGrows first second → (made : List Row) (assume assert : Row) → made ≡ assume ∷ assert ∷ [] → IsTypeRef first (checker (codes "PexAssume")) assume → IsTypeRef second (checker (codes "PexAssert")) assert → AllZip (IsTypeRef second) (drop 18 all_referred) made
table_checkers first second g made assume assert e one two = subst (λ l. AllZip (IsTypeRef second) (checker (codes "PexAssume") ∷ checker (codes "PexAssert") ∷ []) l) (sym e) (table_stays_type_ref first second (heaps first second g) (checker (codes "PexAssume")) assume one, (two, tt))
