-- Verdicts on the chains of bases and of outer types.
use Rattle.std.proofs.Common.{◌≡◌, ℕ, zero, suc, ◌+◌, ◌-◌, ◌/◌, ◌<◌, ◌≤◌, Bool, true, false, cond, List, [], ◌∷◌, ◌++◌, length, get_or, replicate, take, drop, Option, Some, None, refl, sym, ap, ◌∙◌, subst, ⊎_elim, arith}
use Rattle.std.specs.Prelude.{MatchBool, slice_index_or}
use Rattle.std.proofs.lemmas.Bool.{cases_lt}
use Rattle.std.proofs.lemmas.Bool.Decides.{nat_tests}
use Rattle.std.proofs.lemmas.Grind.{common_steps}
use Rattle.std.proofs.lemmas.List.{get_or_past}
use Rattle.px_tables.specs.Metadata.{View}
use Rattle.px_meta.specs.Chains.{Ends, GoesOn, HasEnd, IsChain, base_in, encloser, nesting_in, outer_of}
use Rattle.px_meta.specs.Rows.{IsRow, cell, count_of, nested_classes, rows_in, some_row, type_defs}
use Rattle.px_meta.specs.Walks.{AreKnown, AreNexts, AreOf, AreVerdicts, AreWalked, IsVerdict, next_in}
use Rattle.px_meta.proofs.Rows.{of_row, written}
use Rattle.px_meta.proofs.Walking.{one_more_known}

some_row_is : (v : View) (table row n : ℕ) → some_row v table row ≡ Some n → IsRow v table n
some_row_is v table row n e = record { some = grind (arith, nat_tests); few = grind (arith, nat_tests) }

by_cond : (b : Bool) (o : Option ℕ) (n : ℕ) → cond b o None ≡ Some n → o ≡ Some n
by_cond true o n e = e
by_cond false o n e = absurd (cc)

-- a chain never leaves the types
abbrev pub Stays : View → (ℕ → Option ℕ) → Type 0
Stays v next = (row n : ℕ) → next row ≡ Some n → IsRow v type_defs n

pub base_stays : (v : View) → Stays v (base_in v)
base_stays v row n e = some_row_is v type_defs (cell v type_defs row 3 / 4) n (by_cond _ _ n e)

enclosed : (v : View) (o : Option ℕ) (n : ℕ) → encloser v o ≡ Some n → IsRow v type_defs n
enclosed v None n e = absurd (cc)
enclosed v (Some m) n e = some_row_is v type_defs (cell v nested_classes m 1) n e

pub outer_stays : (v : View) → Stays v (outer_of v)
outer_stays v row n e = enclosed v (nesting_in v (rows_in v nested_classes) row) n e

next_is : (v : View) (next : ℕ → Option ℕ) (nexts : List (Option ℕ)) (row : ℕ) → AreOf next (count_of v type_defs) nexts → IsRow v type_defs row → next_in nexts row ≡ next row
next_is v next nexts row are is = of_row next (count_of v type_defs) nexts row None are is.some is.few

pub are_nexts : (v : View) (next : ℕ → Option ℕ) (nexts : List (Option ℕ)) → Stays v next → AreOf next (count_of v type_defs) nexts → AreNexts nexts
are_nexts v next nexts stays are zero n e =
    let same : (zero - 1) + 1 ≡ 1 = refl in
    ⊎_elim
    (λ some. nexts_at 1 some e)
    (λ none. absurd (let past = get_or_past nexts 0 None (omega arith) in cc))
    (cases_lt 0 (length nexts))
  where
    nexts_at : (row : ℕ) → 0 < length nexts → get_or nexts 0 None ≡ Some n → (1 ≤ n) × (n ≤ length nexts)
    nexts_at row some e =
        let is = stays 1 n (sym (of_row next (count_of v type_defs) nexts 1 None are (omega arith) (omega (arith, are.count_is))) ∙ e) in
        (is.some, omega (arith, is.few, are.count_is))
are_nexts v next nexts stays are (suc row) n e =
    ⊎_elim
    (λ few.
    let is = stays (suc row) n (sym (of_row next (count_of v type_defs) nexts (suc row) None are (omega arith) (omega (arith, are.count_is))) ∙ e) in
    (is.some, omega (arith, is.few, are.count_is)))
    (λ past. absurd (let none = get_or_past nexts (suc row - 1) None (omega arith) in cc))
    (cases_lt row (length nexts))

-- a chain by the list is one by the rows, and the other way round
chain_there : (v : View) (next : ℕ → Option ℕ) (nexts : List (Option ℕ)) (row : ℕ) (chain : List ℕ) → Stays v next → AreOf next (count_of v type_defs) nexts → IsRow v type_defs row → IsChain (next_in nexts) row chain → IsChain next row chain
chain_there v next nexts row [] stays are is (Ends _ none) = Ends row (sym (next_is v next nexts row are is) ∙ none)
chain_there v next nexts row (b ∷ rest) stays are is (GoesOn _ _ _ on chain) =
    let e = sym (next_is v next nexts row are is) ∙ on in
    GoesOn row b rest e (chain_there v next nexts b rest stays are (stays row b e) chain)

chain_back : (v : View) (next : ℕ → Option ℕ) (nexts : List (Option ℕ)) (row : ℕ) (chain : List ℕ) → Stays v next → AreOf next (count_of v type_defs) nexts → IsRow v type_defs row → IsChain next row chain → IsChain (next_in nexts) row chain
chain_back v next nexts row [] stays are is (Ends _ none) = Ends row (next_is v next nexts row are is ∙ none)
chain_back v next nexts row (b ∷ rest) stays are is (GoesOn _ _ _ on chain) =
    GoesOn row b rest (next_is v next nexts row are is ∙ on) (chain_back v next nexts b rest stays are (stays row b on) chain)

verdict_of : (v : View) (next : ℕ → Option ℕ) (nexts : List (Option ℕ)) (row : ℕ) (b : Bool) → Stays v next → AreOf next (count_of v type_defs) nexts → IsRow v type_defs row → IsVerdict nexts row b → MatchBool b (HasEnd next row) (HasEnd next row → ⊥)
verdict_of v next nexts row true stays are is e = record { behind = e.behind; chain = chain_there v next nexts row e.behind stays are is e.chain }
verdict_of v next nexts row false stays are is none = λ e. none (record { behind = e.behind; chain = chain_back v next nexts row e.behind stays are is e.chain })

-- the verdict on the chain of a type
pub ends_at : (v : View) (next : ℕ → Option ℕ) (nexts : List (Option ℕ)) (ends : List Bool) (n : ℕ) (b : Bool) → Stays v next → AreOf next (count_of v type_defs) nexts → AreVerdicts nexts ends (length nexts) → n < count_of v type_defs
    → b ≡ get_or ends n false → MatchBool b (HasEnd next (n + 1)) (HasEnd next (n + 1) → ⊥)
ends_at v next nexts ends n b stays are verdicts less e =
    verdict_of v next nexts (n + 1) b stays are (record { some = omega arith; few = omega arith }) (subst (λ b. IsVerdict nexts (n + 1) b) (sym e) (verdicts n (omega (arith, are.count_is))))

unmet : (n k : ℕ) → get_or {A = Option ℕ} (replicate n None) k None ≡ None
unmet zero k = refl
unmet (suc n) zero = refl
unmet (suc n) (suc k) = unmet n k

length-unmet : (n : ℕ) → length (replicate {A = Option ℕ} n None) ≡ n
length-unmet zero = refl
length-unmet (suc n) = let e = length-unmet n in omega arith

pub none_known : (nexts : List (Option ℕ)) (ends : List Bool) (met : List (Option ℕ)) → met ≡ replicate (length nexts) None → AreKnown nexts ends met
none_known nexts ends met new = subst (λ m. AreKnown nexts ends m) (sym new) (record {
  size = length-unmet (length nexts);
  known = λ row walk some is. absurd (let e = unmet (length nexts) (row - 1) in cc);
})

pub verdicts_none : (nexts : List (Option ℕ)) (ends : List Bool) → AreVerdicts nexts ends 0
verdicts_none nexts ends = λ n less. absurd (omega arith)

pub verdicts_more : (nexts : List (Option ℕ)) (ends : List Bool) (outcome : Bool) (n : ℕ) → length ends ≡ n → AreVerdicts nexts ends n → IsVerdict nexts (n + 1) outcome → AreVerdicts nexts (ends ++ outcome ∷ []) (n + 1)
verdicts_more nexts ends outcome n size are new = λ k less. ⊎_elim
    (λ below. let same : slice_index_or (ends ++ outcome ∷ []) k false ≡ slice_index_or ends k false = grind (arith, common_steps) in
    subst (λ b. IsVerdict nexts (k + 1) b) (sym same) (are k below))
    (λ above.
    let here : k ≡ n = omega arith in
    let same : slice_index_or (ends ++ outcome ∷ []) k false ≡ outcome = grind (arith, common_steps) in
    subst (λ b. IsVerdict nexts (k + 1) b) (sym same) (subst (λ j. IsVerdict nexts (j + 1) outcome) (sym here) new))
    (cases_lt k n)

-- one more walk, as the code leaves its lists
pub known_pushed : (nexts : List (Option ℕ)) (slice ends news : List Bool) (outcome : Bool) (met items : List (Option ℕ)) (len : ℕ) → slice ≡ ends → news ≡ ends ++ outcome ∷ [] → length met ≡ length items → len ≡ length items
    → AreWalked nexts slice outcome met → AreKnown nexts news (take len (met ++ drop (length met) items))
known_pushed nexts slice ends news outcome met items len same new size whole walked =
    subst (λ m. AreKnown nexts news m) (sym (written met items len size whole))
    (subst (λ es. AreKnown nexts es met) (ap (λ es. es ++ outcome ∷ []) same ∙ sym new) (one_more_known nexts slice outcome met walked))

-- the chain of one more type ends
pub ends_more : (v : View) (n : ℕ) → ((row : ℕ) → 1 ≤ row → row ≤ n → HasEnd (base_in v) row) → HasEnd (base_in v) (n + 1) → (row : ℕ) → 1 ≤ row → row ≤ n + 1 → HasEnd (base_in v) row
ends_more v n ends here row some few = ⊎_elim (λ below. ends row some (omega arith)) (λ above. subst (λ r. HasEnd (base_in v) r) (let e : n + 1 ≡ row = omega arith in e) here) (cases_lt row (n + 1))
