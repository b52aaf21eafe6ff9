-- The maker of an entry, found again.
use Rattle.std.proofs.Common.{◌≡◌, ◌≢◌, ℕ, zero, suc, ◌+◌, ◌<◌, ◌≤◌, Bool, true, false, List, [], ◌∷◌, map, Option, Some, None, Result, Ok, refl, sym, ap, ◌∙◌, subst, eqb-true, eq-eqb, ⊎_elim, arith}
use Rattle.std.specs.Prelude.{◌==◌, ◌&&◌, ◌||◌, codes, find, not, if◌then◌else◌}
use Rattle.std.specs.List.{AllByRecursion, AllZip, range_with_len}
use Rattle.std.specs.Option.{option_map}
use Rattle.std.specs.Str.{bytes_eq}
use Rattle.std.proofs.lemmas.Bool.{cases_eq, cases_order, cond-true, cond_both, eqb-false, ne_eqb}
use Rattle.std.proofs.lemmas.Option.{same_Some}
use Rattle.px_code.specs.Reading.{PlacedFault}
use Rattle.px_link.proofs.Making.{find_first}
use Rattle.px_link_methods.proofs.RowPlaces.{found_passes}
use Rattle.px_link.specs.Link.{is_maker, is_nil, maker_in, maker_of, rows_of, takes_nothing}
use Rattle.px_meta.specs.Members.{owner_of}
use Rattle.px_meta.specs.Rows.{IsRow, cell, count_of, methods, rows_in, text_at}
use Rattle.px_link_methods.specs.Codes.{IsInstr}
use Rattle.px_link_methods.specs.Methods.{place_of_type, sig_at}
use Rattle.px_link_methods.specs.Slots.{forms_of}
use Rattle.px_link_tokens.specs.Operands.{is_there, is_void}
use Rattle.px_program.specs.declared.instr.Instr.{Instr}
use Rattle.px_link_reach.proofs.Reaching.{starts_met}
use Rattle.px_link_reach.specs.Bodies.{no_body}
use Rattle.px_link_reach.specs.declared.body.Whole.{Whole}
use Rattle.px_sig.specs.declared.sig.MethodSig.{MethodSig}
use Rattle.px_link_types.specs.Keys.{is_class}
use Rattle.px_asm_law_relink.specs.Again.{Again, first_numbers, keys_for, method_for, type_for}
use Rattle.px_asm_described.specs.Describes.{IsCodeRow}
use Rattle.px_asm_law_relink.proofs.EntryNames.{names_again}
use Rattle.px_asm_law_relink.proofs.EntryPlain.{IsMakerIn, maker_found, reached_plain}
use Rattle.px_asm_law_relink.proofs.MethodBodies.{nothing_made, read_empty}
use Rattle.px_asm_law_relink.proofs.MethodStands.{IsSigAgain, sig_again}
use Rattle.px_asm_law_relink.proofs.Standing.{HasMethodFor, IsReachedRow, all_stand, method_stands, methods_rise}
use Rattle.px_asm_law_relink.proofs.TypesAgain.{IsMet, type_stands, types_apart}

-- WHETHER THERE IS A BODY

made_nothing : {X Y : Type 0} (R : X → Y → Type 0) (ys : List Y) → AllZip R [] ys → ys ≡ []
made_nothing R [] are = refl
made_nothing R (y ∷ ys) are = absurd are

none_by : (a : Again) (row : ℕ) → (has : HasMethodFor a row) → (code : List Instr) → code ≡ [] → IsCodeRow a.p a.v a.image (method_for a row) has.method code → cell a.v methods (method_for a row) 0 ≡ 0
none_by a row has [] e is = is
none_by a row has (instr ∷ code) e is = absurd (cc)

some_by : (a : Again) (row : ℕ) → (has : HasMethodFor a row) → (code : List Instr) → code ≢ [] → IsCodeRow a.p a.v a.image (method_for a row) has.method code → cell a.v methods (method_for a row) 0 ≢ 0
some_by a row has [] some is = absurd (some refl)
some_by a row has (instr ∷ code) some is = is.there

no_body_again : (a : Again) (row : ℕ) → (has : HasMethodFor a row) → cell a.first methods row 0 ≡ 0 → cell a.v methods (method_for a row) 0 ≡ 0
no_body_again a row has empty =
    let read : ◌≡◌ {A = Result Whole PlacedFault} (Ok no_body) (Ok has.whole) = sym (read_empty a.first a.from row empty) ∙ has.body.read in
    let same : no_body ≡ has.whole = cc in
    let R = IsInstr a.first (first_numbers a) (forms_of a.first has.is_method.sig has.whole.locals) in
    none_by a row has has.method.code (made_nothing R has.method.code (subst (λ (w : Whole). AllZip R w.body.code has.method.code) (sym same) has.is_method.code)) has.is.code

pub has_body_again : (a : Again) (row : ℕ) → (has : HasMethodFor a row) → cell a.first methods row 0 ≢ 0 → cell a.v methods (method_for a row) 0 ≢ 0
has_body_again a row has some =
    some_by a row has has.method.code
    (λ none. (has.body.formed some).some (nothing_made (IsInstr a.first (first_numbers a) (forms_of a.first has.is_method.sig has.whole.locals)) has.whole.body.code has.method.code has.is_method.code none))
    has.is.code

body_test : (a : Again) (row : ℕ) → (has : HasMethodFor a row) → (none : Bool) → (cell a.first methods row 0 == 0) ≡ none → (cell a.v methods (method_for a row) 0 == 0) ≡ none
body_test a row has true e = eq-eqb (cell a.v methods (method_for a row) 0) 0 (no_body_again a row has (eqb-true (cell a.first methods row 0) 0 e))
body_test a row has false e = ne_eqb (cell a.v methods (method_for a row) 0) 0 (has_body_again a row has (eqb-false (cell a.first methods row 0) 0 e))

-- WHETHER IT IS A MAKER

owner_test : (a : Again) (owner row : ℕ) → (has : HasMethodFor a row) → IsMet a owner → (same : Bool) → (owner_of a.first methods row == owner) ≡ same → (owner_of a.v methods (method_for a row) == type_for a owner) ≡ same
owner_test a owner row has met true e = eq-eqb (owner_of a.v methods (method_for a row)) (type_for a owner) (has.owner ∙ ap (type_for a) (eqb-true (owner_of a.first methods row) owner e))
owner_test a owner row has met false e =
    ne_eqb (owner_of a.v methods (method_for a row)) (type_for a owner)
    (λ same. eqb-false (owner_of a.first methods row) owner e (types_apart a (owner_of a.first methods row) owner has.owner_met met (sym has.owner ∙ same)))

nil-map : {X Y : Type 0} (f : X → Y) (xs : List X) → is_nil (map f xs) ≡ is_nil xs
nil-map f [] = refl
nil-map f (x ∷ xs) = refl

takes_again : (a : Again) (row : ℕ) → IsReachedRow a row → (has : HasMethodFor a row) → takes_nothing (sig_at a.v (method_for a row)) ≡ takes_nothing (sig_at a.first row)
takes_again a row reached has =
    let again = sig_again a row reached has in
    let first = has.is_method.sig in
    let sig = has.is.sig in
    let plain : sig.plain ≡ first.plain = again.plain ∙ sym ((reached_plain a row reached).plain first has.is_method.has_sig) in
    let none : is_nil sig.params ≡ is_nil first.params =
    sym (nil-map (place_of_type a.v (keys_for a a.reads.keys)) sig.params) ∙ ap is_nil again.params.places ∙ nil-map (place_of_type a.first a.reads.keys) first.params in
    ap takes_nothing has.is.has_sig
    ∙ ap (λ b. b && sig.plain && is_void sig.ret && is_nil sig.params) again.this
    ∙ ap (λ b. first.has_this && b && is_void sig.ret && is_nil sig.params) plain
    ∙ ap (λ b. first.has_this && first.plain && b && is_nil sig.params) again.ret.void
    ∙ ap (λ b. first.has_this && first.plain && is_void first.ret && b) none
    ∙ sym (ap takes_nothing has.is_method.has_sig)

maker_test : (a : Again) (owner row : ℕ) → IsMet a owner → IsReachedRow a row → is_maker a.v (type_for a owner) (method_for a row) ≡ is_maker a.first owner row
maker_test a owner row met reached =
    let has = method_stands a row reached in
    let names = names_again a row reached has in
    let other = method_for a row in
    let text = λ (t : List ℕ). bytes_eq t (codes ".ctor") in
    ap (λ b. b && text (text_at a.v (cell a.v methods other 3)) && not (cell a.v methods other 0 == 0) && takes_nothing (sig_at a.v other)) (owner_test a owner row has met (owner_of a.first methods row == owner) refl)
    ∙ ap (λ t. (owner_of a.first methods row == owner) && text t && not (cell a.v methods other 0 == 0) && takes_nothing (sig_at a.v other)) names.text
    ∙ ap (λ b. (owner_of a.first methods row == owner) && text (text_at a.first (cell a.first methods row 3)) && not b && takes_nothing (sig_at a.v other)) (body_test a row has (cell a.first methods row 0 == 0) refl)
    ∙ ap (λ b. (owner_of a.first methods row == owner) && text (text_at a.first (cell a.first methods row 3)) && not (cell a.first methods row 0 == 0) && b) (takes_again a row reached has)

-- THE FIRST

-- none before the first that is found passes
find_before : (p : ℕ → Bool) (a n found row : ℕ) → find p (range_with_len a n) ≡ Some found → a ≤ row → row < found → p row ≡ false
find_before p a zero found row e from before = absurd (cc)
find_before p a (suc n) found row e from before =
    cond_both (p a) (Some a) (find p (range_with_len (a + 1) n)) (λ o. o ≡ Some found → p row ≡ false)
    (λ passes at. let same : a ≡ found = same_Some a found at in absurd (omega arith))
    (λ fails later. ⊎_elim (λ here. subst (λ k. p k ≡ false) here fails) (λ on. find_before p (a + 1) n found row later (omega arith) before) (cases_eq a row))
    e

none_earlier : (a : Again) (owner maker : ℕ) → IsMet a owner → IsReachedRow a maker → IsMakerIn a.first owner maker → (other : ℕ) → IsRow a.v methods other → other < method_for a maker → is_maker a.v (type_for a owner) other ≡ false
none_earlier a owner maker met reached is other there before =
    let stands = all_stand a other there in
    let first = stands.other in
    let at : other ≡ method_for a first = stands.is in
    let its = method_stands a first stands.reached in
    let row = its.owned.row in
    let some = row.some in
    let earlier : first < maker =
    ⊎_elim (λ same. let e : method_for a first ≡ method_for a maker = ap (method_for a) same in absurd (omega (arith, at, e)))
    (λ apart. ⊎_elim (λ less. less) (λ more. let rises = methods_rise a maker first reached stands.reached more in absurd (omega (arith, at, rises))) apart)
    (cases_order first maker) in
    ap (is_maker a.v (type_for a owner)) at ∙ maker_test a owner first met stands.reached
    ∙ find_before (is_maker a.first owner) 1 (count_of a.first methods) maker first is.found (omega (arith, some)) earlier

maker_again : (a : Again) (owner maker : ℕ) → IsMet a owner → IsReachedRow a maker → IsMakerIn a.first owner maker → maker_in a.v (type_for a owner) ≡ Some (method_for a maker)
maker_again a owner maker met reached is =
    let type = type_stands a owner met in
    let there = (method_stands a maker reached).there in
    let some = there.some in
    let few = there.few in
    cond-true (is_class a.v (type_for a owner)) (find (is_maker a.v (type_for a owner)) (rows_in a.v methods)) None type.is.class
    ∙ find_first (is_maker a.v (type_for a owner)) 1 (count_of a.v methods) (method_for a maker) some (omega (arith, few))
    (maker_test a owner maker met reached ∙ found_passes (is_maker a.first owner) (rows_in a.first methods) maker is.found)
    (λ k from before. none_earlier a owner maker met reached is k (record { some = from; few = omega (arith, few, before) }) before)

-- THE MAKER OF THE ENTRY

found_again : (a : Again) (owner other : ℕ) (maker : Option ℕ) → IsMet a owner → other ≡ type_for a owner → maker_in a.first owner ≡ maker → is_there maker ≡ true → AllByRecursion (IsReachedRow a) (rows_of maker)
    → maker_in a.v other ≡ option_map (method_for a) maker
found_again a owner other None met same e there reached = absurd (cc)
found_again a owner other (Some maker) met same e there reached = ap (maker_in a.v) same ∙ maker_again a owner maker met reached.0 (maker_found a.first owner maker e)

maker_by : (a : Again) (owner other : ℕ) (this : Bool) → IsMet a owner → other ≡ type_for a owner → (not this || is_there (if this then maker_in a.first owner else None)) ≡ true
    → AllByRecursion (IsReachedRow a) (rows_of (if this then maker_in a.first owner else None)) → (if this then maker_in a.v other else None) ≡ option_map (method_for a) (if this then maker_in a.first owner else None)
maker_by a owner other true met same there reached = found_again a owner other (maker_in a.first owner) met same refl there reached
maker_by a owner other false met same there reached = refl

pub entry_maker : (a : Again) → (has : HasMethodFor a a.reads.method) → has.is_method.sig ≡ a.reads.sig → IsSigAgain a has.is_method.sig has.is.sig
    → maker_of a.v (method_for a a.reads.method) has.is.sig ≡ option_map (method_for a) (maker_of a.first a.reads.method a.reads.sig)
entry_maker a has same again =
    let owner = owner_of a.first methods a.reads.method in
    let other = owner_of a.v methods (method_for a a.reads.method) in
    let this : has.is.sig.has_this ≡ a.reads.sig.has_this = again.this ∙ ap (λ (s : MethodSig). s.has_this) same in
    ap (λ (b : Bool). if b then maker_in a.v other else None) this
    ∙ maker_by a owner other a.reads.sig.has_this has.owner_met has.owner a.reads.entry.made (starts_met a.reads.is_reached).1
