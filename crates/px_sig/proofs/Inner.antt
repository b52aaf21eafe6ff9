-- The type that stands behind modifiers and in arrays.
use Rattle.std.proofs.Common.{◌≡◌, ◌≢◌, ℕ, suc, ◌+◌, List, Result, Ok, Err, refl, ap, ◌∙◌, arith}
use Rattle.px_reading.specs.Reading.{Read, ◌>>=◌}
use Rattle.px_sig.specs.Grammar.{array_of, form_at, token_at, type_at, type_behind}
use Rattle.px_sig.specs.Parts.{FailsAt, IsInner, within}
use Rattle.px_sig.specs.declared.fault.SigFault.{SigFault}
use Rattle.px_sig.specs.declared.fault.SigFault.TheVariants as faults
use Rattle.px_sig.specs.declared.form.Form.{Form}
use Rattle.px_sig.specs.declared.form.Form.TheVariants.{Modifier, Pinned, Array}
use Rattle.px_sig.specs.declared.sig.SigType.{SigType}
use Rattle.px_sig.proofs.Depth.{unroll}

-- a fault of a part is the fault of the whole
pub passed_at : {X Y : Type 0} (fault : SigFault) (part : Result X ℕ) (whole : Result Y ℕ) → FailsAt fault part → ((place : ℕ) → part ≡ Err place → whole ≡ Err place) → FailsAt fault whole
passed_at faults.Memory part whole fails on = fails
passed_at (faults.Bad at) part whole fails on = on at fails

-- a type by its form
pub by_form : (blob : List ℕ) (at : ℕ) (form : Form) (end : ℕ) → form_at blob at ≡ Ok (record { value = form; end = end }) → type_at blob at ≡ type_behind (type_at blob) blob form end
by_form blob at form end is = unroll blob at ∙ ap (λ r. r >>= λ f. type_behind (type_at blob) blob f.value f.end) is

pub no_form : (blob : List ℕ) (at place : ℕ) → form_at blob at ≡ Err place → type_at blob at ≡ Err place
no_form blob at place is = unroll blob at ∙ ap (λ r. r >>= λ f. type_behind (type_at blob) blob f.value f.end) is

pub past_modifier : (blob : List ℕ) (at end : ℕ) (token : Read ℕ) → form_at blob at ≡ Ok (record { value = Modifier; end = end }) → token_at blob end ≡ Ok token → type_at blob at ≡ type_at blob token.end
unfolding type_behind
past_modifier blob at end token is read = by_form blob at Modifier end is ∙ ap (λ r. r >>= λ t. type_at blob t.end) read

pub no_token : (blob : List ℕ) (at end place : ℕ) → form_at blob at ≡ Ok (record { value = Modifier; end = end }) → token_at blob end ≡ Err place → type_at blob at ≡ Err place
unfolding type_behind
no_token blob at end place is fails = by_form blob at Modifier end is ∙ ap (λ r. r >>= λ t. type_at blob t.end) fails

pub past_pinned : (blob : List ℕ) (at end : ℕ) → form_at blob at ≡ Ok (record { value = Pinned; end = end }) → type_at blob at ≡ type_at blob end
unfolding type_behind
past_pinned blob at end is = by_form blob at Pinned end is

pub past_array : (blob : List ℕ) (count at end : ℕ) → form_at blob at ≡ Ok (record { value = Array; end = end }) → within count (type_at blob at) ≡ within (count + 1) (type_at blob end)
unfolding type_behind
past_array blob count at end is =
    ap (λ r. within count r) (by_form blob at Array end is) ∙ by_element (type_at blob end)
  where
    by_element : (r : Result (Read SigType) ℕ) → within count (r >>= λ element. Ok (record { value = array_of element.value; end = element.end })) ≡ within (count + 1) r
    by_element (Ok x) =
        let one : suc x.value.depth + count ≡ x.value.depth + (count + 1) = omega arith in
        ap (λ d. Ok (record { value = record { depth = d; leaf = x.value.leaf }; end = x.end })) one
    by_element (Err at) = refl

-- in no array
pub within_none : (r : Result (Read SigType) ℕ) → r ≡ within 0 r
within_none (Ok x) =
    let none : x.value.depth ≡ x.value.depth + 0 = omega arith in
    ap (λ d. Ok (record { value = record { depth = d; leaf = x.value.leaf }; end = x.end })) none
within_none (Err at) = refl

-- a form that is none of these
pub is_inner : (form : Form) → form ≢ Modifier → form ≢ Pinned → form ≢ Array → IsInner form
is_inner Modifier a b c = absurd (a refl)
is_inner Pinned a b c = absurd (b refl)
is_inner Array a b c = absurd (c refl)
is_inner form a b c = tt
