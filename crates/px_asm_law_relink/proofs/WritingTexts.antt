-- The names in an assembly whose rows have no fault are texts.
use Rattle.std.proofs.Common.{◌≡◌, ◌≢◌, ℕ, zero, suc, true, false, List, [], ◌∷◌, ◌++◌, ◌<◌, Option, Some, None, sym, ap, ◌∙◌, subst, ⊎_elim, arith}
use Rattle.std.specs.Prelude.{All, IfSome, codes, slice_index}
use Rattle.std.specs.Str.{is_utf8}
use Rattle.std.proofs.lemmas.Bool.{cases_Bool}
use Rattle.std.proofs.lemmas.List.Elements.{All-append, All-cons, All-nil}
use Rattle.std.proofs.lemmas.Str.{IsUtf8-append, IsUtf8-from_ascii, IsUtf8-from_is_utf8, is_utf8-from_IsUtf8}
use Rattle.px_meta.proofs.Alike.{text_is}
use Rattle.px_meta.specs.Chains.{IsChain, GoesOn, encloser, nesting_in, outer_of}
use Rattle.px_meta.specs.Faults.{IsFaultless, Method, TypeDef}
use Rattle.px_meta.specs.FullNames.{IsTypeName, own_name, type_name, with_namespace}
use Rattle.px_meta.specs.Rows.{IsReadable, IsRow, cell, methods, nested_classes, rows_in, text_at, type_defs}
use Rattle.px_meta.specs.declared.fault.MetaKind.TheVariants.{BadToken}
use Rattle.px_tables.specs.Metadata.{View}
use Rattle.px_link_types.proofs.There.{row_there}
use Rattle.px_asm_described.specs.Writable.{IsText}

-- TEXTS

-- what stands at a place where it can't be that none does
text_stands : (v : View) (at : ℕ) → ((IsReadable v at → ⊥) → ⊥) → IsText (text_at v at)
text_stands v at readable = record {
  no_zero = λ k d less zero. readable (λ r.
      let all : All (λ byte. byte ≢ 0) (text_at v at) = subst (All (λ byte. byte ≢ 0)) (sym (text_is v at r.text r.stands)) r.stands.no_zero in
      all k d less zero);
  utf8 = ⊎_elim
      (λ is. IsUtf8-from_is_utf8 (text_at v at) is)
      (λ not. absurd (readable (λ r.
      let is : is_utf8 (text_at v at) ≡ true = ap is_utf8 (text_is v at r.text r.stands) ∙ is_utf8-from_IsUtf8 r.text r.stands.utf8 in
      let other = not in
      let turned : true ≡ false = sym is ∙ other in
      absurd (cc))))
      (cases_Bool (is_utf8 (text_at v at)));
}

pub both_texts : (a b : List ℕ) → IsText a → IsText b → IsText (a ++ b)
both_texts a b first second = record {
  no_zero = All-append (λ byte. byte ≢ 0) a b first.no_zero second.no_zero;
  utf8 = IsUtf8-append a b first.utf8 second.utf8;
}

one_byte : (byte i : ℕ) → byte < 128 → slice_index (byte ∷ []) i < 128
one_byte byte zero few = few
one_byte byte (suc i) few = omega arith

one_text : (byte : ℕ) → byte ≢ 0 → byte < 128 → IsText (byte ∷ [])
one_text byte other few = record {
  no_zero = All-cons (λ b. b ≢ 0) byte [] other (All-nil (λ b. b ≢ 0));
  utf8 = IsUtf8-from_ascii (byte ∷ []) (λ i. one_byte byte i few);
}

dot_text : IsText (codes ".")
dot_text = one_text 46 (λ e. omega arith) (omega arith)

slash_text : IsText (codes "/")
slash_text = one_text 47 (λ e. omega arith) (omega arith)

-- NAMES OF TYPES

with_namespace_text : (namespace name : List ℕ) → IsText namespace → IsText name → IsText (with_namespace namespace name)
with_namespace_text [] name first second = second
with_namespace_text (c ∷ namespace) name first second = both_texts ((c ∷ namespace) ++ codes ".") name (both_texts (c ∷ namespace) (codes ".") first dot_text) second

own_text : (v : View) (row : ℕ) → IsFaultless v → IsRow v type_defs row → IsText (own_name v row)
own_text v row faultless is =
    with_namespace_text (text_at v (cell v type_defs row 2)) (text_at v (cell v type_defs row 1))
    (text_stands v (cell v type_defs row 2) (λ none. faultless BadToken type_defs row (TypeDef row is (λ names. none names.namespace))))
    (text_stands v (cell v type_defs row 1) (λ none. faultless BadToken type_defs row (TypeDef row is (λ names. none names.name))))

enclosing_row : (v : View) (nesting : Option ℕ) (outer : ℕ) → encloser v nesting ≡ Some outer → IsRow v type_defs outer
enclosing_row v None outer is = absurd (cc)
enclosing_row v (Some n) outer is = subst (λ o. IfSome o (IsRow v type_defs)) is (row_there v type_defs (cell v nested_classes n 1))

chain_text : (v : View) (row : ℕ) (outers : List ℕ) → IsFaultless v → IsRow v type_defs row → IsChain (outer_of v) row outers → IsText (type_name v row outers)
chain_text v row [] faultless is chain = own_text v row faultless is
chain_text v row (outer ∷ outers) faultless is (GoesOn _ _ _ next chain) =
    let there = enclosing_row v (nesting_in v (rows_in v nested_classes) row) outer next in
    both_texts (type_name v outer outers ++ codes "/") (own_name v row) (both_texts (type_name v outer outers) (codes "/") (chain_text v outer outers faultless there chain) slash_text) (own_text v row faultless is)

pub type_text : (v : View) (row : ℕ) (name : List ℕ) → IsFaultless v → IsRow v type_defs row → IsTypeName v row name → IsText name
type_text v row name faultless is named = subst IsText (sym named.is) (chain_text v row named.outers faultless is named.chain)

-- NAMES OF METHODS

pub method_text : (v : View) (row : ℕ) → IsFaultless v → IsRow v methods row → IsText (text_at v (cell v methods row 3))
method_text v row faultless is = text_stands v (cell v methods row 3) (λ none. faultless BadToken methods row (Method row is (λ whole. none whole.name)))
