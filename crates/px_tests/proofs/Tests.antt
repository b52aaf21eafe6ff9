-- The lines of tests, one after another.
use Rattle.std.proofs.Common.{◌≡◌, ℕ, zero, suc, ◌+◌, ◌<◌, List, [], ◌∷◌, ◌++◌, length, get_or, Some, refl, ap, sym, ◌∙◌, append_assoc, append-nil, arith, add-one, subst}
use Rattle.std.specs.List.{AllByRecursion}
use Rattle.std.specs.Prelude.{slice_get}
use Rattle.px_domain.specs.declared.domain.Part.{Part}
use Rattle.px_program.specs.declared.program.Program.{Program}
use Rattle.px_program.specs.declared.record.Record.{Record}
use Rattle.px_tests.specs.Text.{test_text, test_at, tests_text}

there : (rs : List Record) (n : ℕ) (r : Record) → n < length rs → r ≡ get_or rs n r → slice_get rs n ≡ Some r
there [] n r h is = absurd (omega arith)
there (x ∷ rs) zero r h is = ap (λ v. Some v) (sym is)
there (x ∷ rs) (suc n) r h is = there rs n r (omega arith) is

module _ (program : Program) (domain : List Part) where
  -- one more line
  pub tests_more : (rs : List Record) (n : ℕ) (r : Record) → n < length rs → r ≡ get_or rs n r → tests_text program domain rs (n + 1) ≡ tests_text program domain rs n ++ test_text program domain n r
  tests_more rs n r h is = ap (λ k. tests_text program domain rs k) (add-one n) ∙ ap (λ o. tests_text program domain rs n ++ test_at program domain n o) (there rs n r h is)

  -- the lines of k tests from n on
  abbrev pub later : List Record → ℕ → ℕ → List ℕ
  later rs n zero = []
  later rs n (suc k) = later rs n k ++ test_at program domain (n + k) (slice_get rs (n + k))

  pub tests_later : (rs : List Record) (n k m : ℕ) → n + k ≡ m → tests_text program domain rs m ≡ tests_text program domain rs n ++ later rs n k
  tests_later rs n zero m e = let f : m ≡ n = omega arith in ap (λ i. tests_text program domain rs i) f ∙ sym (append-nil (tests_text program domain rs n))
  tests_later rs n (suc k) m e =
      let f : m ≡ suc (n + k) = omega arith in
      ap (λ i. tests_text program domain rs i) f ∙ ap (λ t. t ++ test_at program domain (n + k) (slice_get rs (n + k))) (tests_later rs n k (n + k) refl) ∙ append_assoc (tests_text program domain rs n) (later rs n k) (test_at program domain (n + k) (slice_get rs (n + k)))

-- what is true of all is true of the one at an index
pub one_of : {X : Type 0} (P : X → Type 0) (xs : List X) (n : ℕ) (x : X) → n < length xs → x ≡ get_or xs n x → AllByRecursion P xs → P x
one_of P [] n x h is all = absurd (omega arith)
one_of P (y ∷ xs) zero x h is all = subst P (sym is) all.0
one_of P (y ∷ xs) (suc n) x h is all = one_of P xs n x (omega arith) is all.1
