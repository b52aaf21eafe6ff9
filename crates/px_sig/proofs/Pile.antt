-- What is owed on a pile, and how a step changes it.
use Rattle.std.proofs.Common.{◌≡◌, ℕ, suc, List, [], ◌∷◌, ◌++◌, Result, Ok, Err, true, false, refl, sym, ap, ◌∙◌}
use Rattle.std.specs.Prelude.{if◌then◌else◌}
use Rattle.px_sig.specs.Reading.{Fails}
use Rattle.px_reading.specs.Reading.{Read, ◌>>=◌}
use Rattle.px_sig.specs.Grammar.{form_at, shape_at, type_at, type_behind}
use Rattle.px_sig.specs.Parts.{FailsAt, behind, behind_all, behind_both, behind_owed, behind_type, times}
use Rattle.px_sig.specs.declared.fault.SigFault.{SigFault}
use Rattle.px_sig.specs.declared.fault.SigFault.TheVariants as faults
use Rattle.px_sig.specs.declared.form.Form.{Form}
use Rattle.px_sig.specs.declared.form.Owes.{Owes}
use Rattle.px_sig.proofs.Depth.{then_same, unroll}
use Rattle.px_sig.proofs.Many.{regroup, and_no_more}

-- a fault of a part is the fault of the whole
pub passed_on : {X Y : Type 0} (fault : SigFault) (part : Result X ℕ) (whole : Result Y ℕ) → FailsAt fault part → ((place : ℕ) → part ≡ Err place → whole ≡ Err place) → Fails fault whole
passed_on faults.Memory part whole fails on = absurd fails
passed_on (faults.Bad at) part whole fails on = on at fails

-- the last on the pile comes first
pub all_snoc : (blob : List ℕ) (others : List Owes) (last : Owes) (at : ℕ) → behind_all blob (others ++ last ∷ []) at ≡ behind_both blob last others at
all_snoc blob [] last at = sym (and_no_more (behind_owed blob last at))
all_snoc blob (owes ∷ others) last at =
    ap (λ r. r >>= behind_owed blob owes) (all_snoc blob others last at) ∙ regroup (behind_owed blob last at) (behind_all blob others) (behind_owed blob owes)

-- where nothing is owed
pub nothing : (blob : List ℕ) (owes : Owes) (at : ℕ) → owes.types ≡ 0 → owes.shape ≡ false → behind_owed blob owes at ≡ Ok at
unfolding behind_owed
nothing blob owes at none flat = rw (none, flat) refl

pub shape_alone : (blob : List ℕ) (owes : Owes) (at : ℕ) → owes.types ≡ 0 → owes.shape ≡ true → behind_owed blob owes at ≡ shape_at blob at
unfolding behind_owed
shape_alone blob owes at none shaped = rw (none, shaped) refl

-- a type and what is left behind it
one_of : (blob : List ℕ) (owes left : Owes) (at : ℕ) → owes.types ≡ suc left.types → owes.shape ≡ left.shape → behind_owed blob owes at ≡ behind_type blob at >>= behind_owed blob left
unfolding behind_owed
one_of blob owes left at more same =
    rw (more, same) (regroup (behind_type blob at) (times (behind_type blob) left.types) (λ end. if left.shape then shape_at blob end else Ok end))

-- the type that is first on the pile
first_type : (blob : List ℕ) (owes left : Owes) (others : List Owes) (at : ℕ) → owes.types ≡ suc left.types → owes.shape ≡ left.shape
    → behind_both blob owes others at ≡ behind_type blob at >>= behind_both blob left others
first_type blob owes left others at more same =
    ap (λ r. r >>= behind_all blob others) (one_of blob owes left at more same) ∙ regroup (behind_type blob at) (behind_owed blob left) (behind_all blob others)

-- the place behind a type, by its form
by_form : (blob : List ℕ) (at : ℕ) (form : Read Form) → form_at blob at ≡ Ok form → behind_type blob at ≡ behind (type_behind (type_at blob) blob form.value form.end)
by_form blob at form is = ap (λ r. behind r) (unroll blob at ∙ ap (λ r. r >>= λ f. type_behind (type_at blob) blob f.value f.end) is)

pub stepped : (blob : List ℕ) (owes left inner : Owes) (old between new : List Owes) (at end : ℕ) (form : Read Form) → owes.types ≡ suc left.types → owes.shape ≡ left.shape
    → form_at blob at ≡ Ok form → behind (type_behind (type_at blob) blob form.value form.end) ≡ behind_owed blob inner end
    → ((place : ℕ) → behind_all blob between place ≡ behind_both blob left old place) → behind_all blob new end ≡ behind_both blob inner between end
    → behind_both blob owes old at ≡ behind_all blob new end
stepped blob owes left inner old between new at end form more same is leads first second =
    first_type blob owes left old at more same ∙ ap (λ r. r >>= behind_both blob left old) (by_form blob at form is ∙ leads)
    ∙ then_same (behind_owed blob inner end) (behind_both blob left old) (behind_all blob between) (λ place _. sym (first place)) ∙ sym second

-- a fault of the first type
pub no_form : (blob : List ℕ) (owes left : Owes) (others : List Owes) (at place : ℕ) → owes.types ≡ suc left.types → owes.shape ≡ left.shape
    → form_at blob at ≡ Err place → behind_both blob owes others at ≡ Err place
no_form blob owes left others at place more same is =
    first_type blob owes left others at more same
    ∙ ap (λ r. behind r >>= behind_both blob left others) (unroll blob at ∙ ap (λ r. r >>= λ f. type_behind (type_at blob) blob f.value f.end) is)

pub no_type : (blob : List ℕ) (owes left : Owes) (others : List Owes) (at place : ℕ) (form : Read Form) → owes.types ≡ suc left.types → owes.shape ≡ left.shape
    → form_at blob at ≡ Ok form → type_behind (type_at blob) blob form.value form.end ≡ Err place → behind_both blob owes others at ≡ Err place
no_type blob owes left others at place form more same is fails =
    first_type blob owes left others at more same ∙ ap (λ r. r >>= behind_both blob left others) (by_form blob at form is ∙ ap (λ r. behind r) fails)
