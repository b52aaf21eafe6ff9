-- Blobs are short.
use Rattle.std.proofs.Common.{◌≡◌, ℕ, suc, ◌+◌, ◌-◌, ◌<◌, ◌^◌, Bool, true, false, List, [], ◌∷◌, length, drop, get_or, Option, Some, None, refl, sym, arith}
use Rattle.std.specs.Prelude.{IfSome, MatchOption, nat_lt, if◌then◌else◌}
use Rattle.std.specs.Option.{option_map}
use Rattle.std.proofs.lemmas.Bool.Decides.{nat_tests}
use Rattle.std.proofs.lemmas.Grind.{common_steps}
use Rattle.px_blobs.specs.Items.{Compressed, blob_at, blob_behind, compressed_at, compressed_in, four_bytes, more_bytes}

abbrev IsSmall : Option Compressed → Type 0
IsSmall o = MatchOption o (Unit {0}) (λ c. c.number < 2 ^ 30)

either : (P : Option Compressed → Type 0) (b : Bool) (x y : Option Compressed) → (b ≡ true → P x) → (b ≡ false → P y) → P (if b then x else y)
either P true x y holds fails = holds refl
either P false x y holds fails = fails refl

small_four : (a b : ℕ) (rest : List ℕ) → a < 32 → b < 256 → ((k : ℕ) → get_or rest k 0 < 256) → IsSmall (four_bytes a b rest)
small_four a b [] fa fb all = tt
small_four a b (c ∷ []) fa fb all = tt
small_four a b (c ∷ d ∷ rest) fa fb all =
    let fc : c < 256 = all 0 in
    let fd : d < 256 = all 1 in
    omega arith

small_more : (a : ℕ) (rest : List ℕ) → a < 256 → ((k : ℕ) → get_or rest k 0 < 256) → IsSmall (more_bytes a rest)
small_more a [] fa all = tt
small_more a (b ∷ rest) fa all =
    let fb : b < 256 = all 0 in
    either IsSmall (nat_lt a 0xC0) _ _
    (λ below. omega arith)
    (λ above. either IsSmall (nat_lt a 0xE0) _ _ (λ below. small_four (a - 0xC0) b rest (grind (arith, nat_tests)) fb (λ k. all (suc k))) (λ above. tt))

small : (bytes : List ℕ) → ((k : ℕ) → get_or bytes k 0 < 256) → IsSmall (compressed_in bytes)
small [] all = tt
small (a ∷ rest) all =
    let fa : a < 256 = all 0 in
    either IsSmall (nat_lt a 0x80) _ _ (λ below. omega arith) (λ above. small_more a rest fa (λ k. all (suc k)))

short_behind : (o : Option Compressed) (bytes b : List ℕ) → IsSmall o → blob_behind o bytes ≡ Some b → length b < 2 ^ 31
short_behind None bytes b small is = absurd (cc)
short_behind (Some c) bytes b small is = grind (arith, common_steps)

-- a blob at a place of bytes
pub short_blob : (heap : List ℕ) (at : ℕ) (b : List ℕ) → ((k : ℕ) → get_or heap k 0 < 256) → blob_at heap at ≡ Some b → length b < 2 ^ 31
short_blob heap at b all is = short_behind (compressed_at heap at) (drop at heap) b (small (drop at heap) (λ k. grind (arith, common_steps, all (at + k)))) is

-- the blob that was found
pub short_found : {X : Type 0} (now : X → List ℕ) (heap : List ℕ) (at : ℕ) (o : Option X) → ((k : ℕ) → get_or heap k 0 < 256) → option_map now o ≡ blob_at heap at → IfSome o (λ x. length (now x) < 2 ^ 31)
short_found now heap at None all is = tt
short_found now heap at (Some x) all is = short_blob heap at (now x) all (sym is)
