-- Texts of the strings.
use Rattle.std.proofs.Common.{◌≡◌, ℕ, List, Option, Some, None, subst, sym}
use Rattle.std.specs.Prelude.{MatchOption}
use Rattle.px_blobs.specs.Items.{IsStringAt}
use Rattle.px_tables.specs.Metadata.{View}
use Rattle.px_meta.specs.Rows.{IsReadable}

-- no text can be read where none stands
pub readable_or_none : {X : Type 0} (now : X → List ℕ) (v : View) (heap : List ℕ) (at : ℕ) (o : Option X) → heap ≡ v.strings
    → MatchOption o ((text : List ℕ) → IsStringAt heap at text → ⊥) (λ x. IsStringAt heap at (now x))
    → MatchOption o (IsReadable v at → ⊥) (λ x. IsStringAt v.strings at (now x))
readable_or_none now v heap at None e none = λ is. none is.text (subst (λ h. IsStringAt h at is.text) (sym e) is.stands)
readable_or_none now v heap at (Some x) e stands = subst (λ h. IsStringAt h at (now x)) e stands
