-- A type that stands for one without an initialiser has none.
use Rattle.std.proofs.Common.{◌≡◌, ℕ, zero, suc, ◌+◌, ◌-◌, ◌<◌, ◌≤◌, Bool, true, false, List, ◌++◌, Option, refl, sym, ap, ◌∙◌, ⊎_elim, arith, eqb-true, eq-eqb}
use Rattle.std.specs.Prelude.{◌==◌, codes, slice_get}
use Rattle.std.specs.List.{list_any, range_with_len}
use Rattle.std.specs.Str.{bytes_eq}
use Rattle.std.proofs.lemmas.Bool.{and_from, and_parts, cases_Bool, or_cases}
use Rattle.std.proofs.lemmas.List.{append_cancel_left}
use Rattle.std.proofs.lemmas.List.Folds.{list_any_at}
use Rattle.std.proofs.lemmas.List.FromFn.{get_or-range_with_len, length-range_with_len}
use Rattle.std.proofs.lemmas.Option.{same_Some}
use Rattle.px_meta.specs.Chains.{Ends, GoesOn, IsChain, outer_of}
use Rattle.px_meta.specs.FullNames.{IsTypeName, type_name}
use Rattle.px_meta.specs.Members.{owner_of}
use Rattle.px_meta.specs.Rows.{IsRow, cell, count_of, methods, rows_in, text_at}
use Rattle.px_link_tokens.specs.Operands.{has_initialiser, is_initialiser}
use Rattle.px_program.specs.declared.program.TypeInfo.{TypeInfo}
use Rattle.px_tables.specs.Metadata.{View}
use Rattle.px_link.proofs.LinkedProgram.{owner_defined}
use Rattle.px_asm_law_relink.specs.Again.{Again, method_for, type_for}
use Rattle.px_asm_law_relink.proofs.Standing.{IsReachedRow, all_stand, method_stands}
use Rattle.px_asm_law_relink.proofs.TypesAgain.{IsMet, types_apart}

-- NAMES

same_chain : (next : ℕ → Option ℕ) (row other : ℕ) (xs ys : List ℕ) → IsChain next row xs → IsChain next other ys → row ≡ other → xs ≡ ys
same_chain next row other xs ys (Ends _ none) (Ends _ also) same = refl
same_chain next row other xs ys (Ends _ none) (GoesOn _ behind rest on chain) same = absurd (let e = ap next same in cc)
same_chain next row other xs ys (GoesOn _ behind rest on chain) (Ends _ none) same = absurd (let e = ap next same in cc)
same_chain next row other xs ys (GoesOn _ behind rest on chain) (GoesOn _ after more goes later) same =
    let e = ap next same in
    let next_is : behind ≡ after = same_Some behind after (sym on ∙ e ∙ goes) in
    let rest_is : rest ≡ more = same_chain next behind after rest more chain later next_is in
    cc

-- a type has one name
same_name : (v : View) (row : ℕ) (text other : List ℕ) → IsTypeName v row text → IsTypeName v row other → text ≡ other
same_name v row text other is also = is.is ∙ ap (type_name v row) (same_chain (outer_of v) row row is.outers also.outers is.chain also.chain refl) ∙ sym also.is

-- the method that stands for another has its own name
own_name_again : (a : Again) (row : ℕ) → IsReachedRow a row → text_at a.v (cell a.v methods (method_for a row) 3) ≡ text_at a.first (cell a.first methods row 3)
own_name_again a row reached =
    let h = method_stands a row reached in
    let owner = owner_defined a.first a.from a.name a.p a.reads row reached in
    let info : h.is.name.owner ≡ owner.type = same_Some h.is.name.owner owner.type (sym h.is.name.at ∙ ap (slice_get a.p.types) h.is_method.owner ∙ owner.at) in
    let type : h.is.name.owner.name ≡ h.is_method.name.type =
    ap (λ (t : TypeInfo). t.name) info ∙ same_name a.first (owner_of a.first methods row) owner.type.name h.is_method.name.type owner.name h.is_method.name.type_is in
    let own = text_at a.first (cell a.first methods row 3) in
    let again = text_at a.v (cell a.v methods (method_for a row) 3) in
    append_cancel_left (h.is.name.owner.name ++ codes "::") again own (sym h.is.name.is ∙ h.is_method.name.is ∙ ap (λ n. n ++ codes "::" ++ own) (sym type))

-- ROWS

any_in : (p : ℕ → Bool) (from n : ℕ) → list_any p (range_with_len from n) ≡ true → (row : ℕ) × ((from ≤ row) × ((row < from + n) × (p row ≡ true)))
any_in p from zero any = absurd (cc)
any_in p from (suc n) any =
    ⊎_elim
    (λ here. (from, (omega arith, (omega arith, here))))
    (λ later. let found = any_in p (from + 1) n later in (found.0, (omega (arith, found.1.0), (omega (arith, found.1.1.0), found.1.1.1))))
    (or_cases (p from) (list_any p (range_with_len (from + 1) n)) any)

in_rows : (v : View) (table row : ℕ) (p : ℕ → Bool) → IsRow v table row → p row ≡ true → list_any p (rows_in v table) ≡ true
in_rows v table row p is passes =
    let below : row - 1 < count_of v table = omega (arith, is.some, is.few) in
    let same : 1 + (row - 1) ≡ row = omega (arith, is.some) in
    list_any_at p (rows_in v table) (row - 1) 0 (omega (arith, below, length-range_with_len 1 (count_of v table)))
    (ap p (get_or-range_with_len 1 (count_of v table) (row - 1) 0 below ∙ same) ∙ passes)

-- INITIALISERS

first_one : (a : Again) (type row : ℕ) → IsMet a type → IsRow a.v methods row → is_initialiser a.v (type_for a type) row ≡ true → has_initialiser a.first type ≡ true
first_one a type row met there is =
    let parts = and_parts (owner_of a.v methods row == type_for a type) (bytes_eq (text_at a.v (cell a.v methods row 3)) (codes ".cctor")) is in
    let stands = all_stand a row there in
    let h = method_stands a stands.other stands.reached in
    let same : type_for a (owner_of a.first methods stands.other) ≡ type_for a type =
    sym h.owner ∙ ap (owner_of a.v methods) (sym stands.is) ∙ eqb-true (owner_of a.v methods row) (type_for a type) parts.0 in
    let owner = types_apart a (owner_of a.first methods stands.other) type h.owner_met met same in
    let text = ap (λ r. text_at a.v (cell a.v methods r 3)) stands.is ∙ own_name_again a stands.other stands.reached in
    in_rows a.first methods stands.other (is_initialiser a.first type) h.owned.row
    (and_from (owner_of a.first methods stands.other == type) (bytes_eq (text_at a.first (cell a.first methods stands.other 3)) (codes ".cctor"))
    (eq-eqb (owner_of a.first methods stands.other) type owner) (ap (λ t. bytes_eq t (codes ".cctor")) (sym text) ∙ parts.1))

pub no_initialiser : (a : Again) (type : ℕ) → IsMet a type → has_initialiser a.first type ≡ false → has_initialiser a.v (type_for a type) ≡ false
no_initialiser a type met none =
    ⊎_elim
    (λ has.
    let found = any_in (is_initialiser a.v (type_for a type)) 1 (count_of a.v methods) has in
    absurd (let one = first_one a type found.0 met (record { some = found.1.0; few = omega (arith, found.1.1.0) }) found.1.1.1 in cc))
    (λ not_so. not_so)
    (cases_Bool (has_initialiser a.v (type_for a type)))
