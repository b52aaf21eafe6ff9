-- All tables of a written program.
use Rattle.std.proofs.Common.{◌≡◌, ◌≢◌, ℕ, zero, suc, ◌<◌, List, [], ◌∷◌, ◌++◌, length, get_or, refl, sym, ap, ◌∙◌, subst, arith, length-append}
use Rattle.std.specs.List.{AllZip}
use Rattle.std.proofs.lemmas.List.{append-nil}
use Rattle.px_asm_heaps.specs.Heaps.{Grows}
use Rattle.px_program.specs.declared.program.Program.{Program}
use Rattle.px_tables.specs.declared.tables.Row.{Row}
use Rattle.px_asm_store.proofs.StoreStays.{grows_same}
use Rattle.px_asm_law_written.specs.Holds.{AreTypeDefs, Holds, IsFieldDef, IsImplRow, IsLocals, IsMethodDef, IsSpecRow, IsTypeRef, all_places, all_referred, overriding_pairs, table_in}
use Rattle.px_asm.specs.Made.{AreListed, AreMade}
use Rattle.px_asm_law_written.specs.Store.{AreReferences, Store, StoreGrows}
use Rattle.px_asm_rows.specs.Tables.{AreMethodRows, HasAddress, HeapsGrow, IsPut}
use Rattle.px_asm_law_written.specs.Tokens.{fields_of}
use Rattle.px_asm.specs.declared.tables.Made.{Made}
use Rattle.px_asm_law_written.specs.Written.{IsWritten}
use Rattle.px_asm_image.specs.declared.content.Content.{Content}
use Rattle.px_asm_rows.proofs.TableStays.{heaps_grow_twice, table_stays_address, table_stays_field, table_stays_locals, table_stays_module, table_stays_references, table_stays_spec, table_stays_type_def, table_stays_type_ref, zip_weaker}

-- PUTTING

-- a table without rows reads as one that is not there
pub table_padded : (tables : List (List Row)) (other : ℕ) → get_or (tables ++ [] ∷ []) other [] ≡ get_or tables other []
table_padded [] zero = refl
table_padded [] (suc other) = refl
table_padded (one ∷ tables) zero = refl
table_padded (one ∷ tables) (suc other) = table_padded tables other

elsewhere : (tables : List (List Row)) (made : List Row) (other : ℕ) → other ≢ length tables → get_or (tables ++ made ∷ []) other [] ≡ get_or tables other []
elsewhere [] made zero apart = absurd (apart refl)
elsewhere [] made (suc other) apart = refl
elsewhere (one ∷ tables) made zero apart = refl
elsewhere (one ∷ tables) made (suc other) apart = elsewhere tables made other (λ e. apart (ap suc e))

here : (tables : List (List Row)) (made : List Row) → get_or (tables ++ made ∷ []) (length tables) [] ≡ made
here [] made = refl
here (one ∷ tables) made = here tables made

pub table_put : (old padded new : List (List Row)) (table : ℕ) (made : List Row) → length padded ≡ table → ((other : ℕ) → table_in padded other ≡ table_in old other) → new ≡ padded ++ made ∷ [] → IsPut old new table made
table_put old padded new table made count same e = record {
  count = omega (arith, ap length e, length-append padded (made ∷ []), count);
  there = ap (λ l. get_or l table []) e ∙ ap (λ k. get_or (padded ++ made ∷ []) k []) (sym count) ∙ here padded made;
  others = λ other apart. ap (λ l. get_or l other []) e ∙ elsewhere padded made other (λ f. apart (f ∙ count)) ∙ same other;
}

-- an earlier table stays
pub table_earlier : (old new : List (List Row)) (table : ℕ) (made : List Row) → IsPut old new table made → (other : ℕ) → other < table → table_in new other ≡ table_in old other
table_earlier old new table made put other less = put.others other (λ e. omega arith)

-- and so does a later one
pub table_later : (old new : List (List Row)) (table : ℕ) (made : List Row) → IsPut old new table made → (other : ℕ) → table < other → table_in new other ≡ table_in old other
table_later old new table made put other more = put.others other (λ e. omega arith)

-- LASTING

pub table_stays_type_defs : (p : Program) (old new : Store) → HeapsGrow old new → (rows : List Row) → AreTypeDefs p old rows → AreTypeDefs p new rows
table_stays_type_defs p old new g rows are = record {
  count = are.count;
  head = λ row at. table_stays_module old new g row (are.head row at);
  each = λ i type info row at found there. table_stays_type_def p old new g i info row (are.each i type info row at found there);
}

pub table_stays_type_refs : (old new : Store) → HeapsGrow old new → (rows : List Row) → AllZip (IsTypeRef old) all_referred rows → AllZip (IsTypeRef new) all_referred rows
table_stays_type_refs old new g rows are = zip_weaker (IsTypeRef old) (IsTypeRef new) (table_stays_type_ref old new g) all_referred rows are

pub table_stays_fields : (p : Program) (old new : Store) → HeapsGrow old new → (rows : List Row) → AllZip (IsFieldDef p old) (fields_of p p.layout.types) rows → AllZip (IsFieldDef p new) (fields_of p p.layout.types) rows
table_stays_fields p old new g rows are = zip_weaker (IsFieldDef p old) (IsFieldDef p new) (table_stays_field p old new g) (fields_of p p.layout.types) rows are

pub table_stays_all_locals : (p : Program) (old new : Store) → HeapsGrow old new → (rows : List Row) → AllZip (IsLocals p old) p.layout.methods rows → AllZip (IsLocals p new) p.layout.methods rows
table_stays_all_locals p old new g rows are = zip_weaker (IsLocals p old) (IsLocals p new) (table_stays_locals p old new g) p.layout.methods rows are

pub table_stays_specs : (p : Program) (old new : Store) → HeapsGrow old new → (rows : List Row) → AllZip (IsSpecRow p old) (all_places p) rows → AllZip (IsSpecRow p new) (all_places p) rows
table_stays_specs p old new g rows are = zip_weaker (IsSpecRow p old) (IsSpecRow p new) (table_stays_spec p old new g) (all_places p) rows are

pub table_stays_method_rows : (p : Program) (old new : Store) → HeapsGrow old new → (numbers addresses : List ℕ) (rows : List Row) → AreMethodRows p old numbers addresses rows → AreMethodRows p new numbers addresses rows
table_stays_method_rows p old new g numbers addresses rows are = record { are = λ s bodies has more. are.are s bodies has (heaps_grow_twice old new s g more) }

-- ALL

-- the references of one store, with the heaps of a later one
abbrev pub with_heaps : Store → Store → Store
with_heaps first later = record { strings = later.strings; texts = later.texts; blob = later.blob; references = first.references }

pub table_holds : (p : Program) (first later : Store) → Grows first.strings later.strings → Grows first.texts later.texts → Grows first.blob later.blob → (bodies addresses : List ℕ) (made : Made) (tables : List (List Row)) → AreReferences p first → AllZip (HasAddress p first bodies) p.layout.methods addresses → AreMade p later addresses made → AreListed made first.references tables → Holds p (with_heaps first later) tables bodies
table_holds p first later strings texts blob bodies addresses made tables are has rows listed =
    let s : Store = with_heaps first later in
    let since : HeapsGrow later s = record { strings = grows_same later.strings; blob = grows_same later.blob } in
    let whole : HeapsGrow first s = record { strings = strings; blob = blob } in
    let grows : StoreGrows first s = record { strings = strings; texts = texts; blob = blob; references = record { more = []; is = sym (append-nil first.references) } } in
    let there : AllZip (HasAddress p s bodies) p.layout.methods addresses = zip_weaker (HasAddress p first bodies) (HasAddress p s bodies) (table_stays_address p first s grows bodies bodies (grows_same bodies)) p.layout.methods addresses has in
    record {
      type_refs = subst (λ l. AllZip (IsTypeRef s) all_referred l) (sym listed.type_refs) (table_stays_type_refs later s since made.type_refs rows.type_refs);
      type_defs = subst (AreTypeDefs p s) (sym listed.type_defs) (table_stays_type_defs p later s since made.type_defs rows.type_defs);
      fields = subst (λ l. AllZip (IsFieldDef p s) (fields_of p p.layout.types) l) (sym listed.fields) (table_stays_fields p later s since made.fields rows.fields);
      methods = subst (λ l. AllZip (IsMethodDef p s bodies) p.layout.methods l) (sym listed.methods) (rows.methods.are s bodies there since);
      references = table_stays_references p first s whole refl are;
      references_are = listed.references_are;
      locals = subst (λ l. AllZip (IsLocals p s) p.layout.methods l) (sym listed.locals) (table_stays_all_locals p later s since made.locals rows.locals);
      impls = subst (λ l. AllZip (IsImplRow p) (overriding_pairs p) l) (sym listed.impls) rows.impls;
      specs = subst (λ l. AllZip (IsSpecRow p s) (all_places p) l) (sym listed.specs) (table_stays_specs p later s since made.specs rows.specs);
      no_nested = listed.no_nested;
    }

-- what is written, where the references were taken out before the heaps grew
pub table_written : (p q : Program) → q ≡ p → (first left later : Store) → left.strings ≡ first.strings → left.texts ≡ first.texts → left.blob ≡ first.blob → StoreGrows left later → (bodies addresses numbers : List ℕ) (made : Made) (references : List Row) (content : Content) → AreReferences q first → numbers ≡ p.layout.methods → AllZip (HasAddress q first bodies) numbers addresses → AreMade q later addresses made → references ≡ first.references → AreListed made references content.rows → content.strings ≡ later.strings → content.user_strings ≡ later.texts → content.blob ≡ later.blob → IsWritten p content bodies
table_written p q one first left later strings texts blob grows bodies addresses numbers made references content are numbers_are has rows references_are listed strings_are texts_are blob_is =
    let all : numbers ≡ q.layout.methods = numbers_are ∙ ap (λ r. r.layout.methods) (sym one) in
    let holds = table_holds q first later
    (subst (λ l. Grows l later.strings) strings grows.strings) (subst (λ l. Grows l later.texts) texts grows.texts) (subst (λ l. Grows l later.blob) blob grows.blob)
    bodies addresses made content.rows are (subst (λ l. AllZip (HasAddress q first bodies) l addresses) all has) rows (subst (λ l. AreListed made l content.rows) references_are listed) in
    record {
      store = with_heaps first later;
      strings = strings_are;
      texts = texts_are;
      blob = blob_is;
      holds = subst (λ r. Holds r (with_heaps first later) content.rows bodies) one holds;
    }
