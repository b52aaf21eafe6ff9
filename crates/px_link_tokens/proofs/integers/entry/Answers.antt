use Rattle.std.proofs.Common.{◌≡◌, ◌<◌, ℕ, zero, suc, List, [], ◌∷◌, length, map, get_or, Some, refl, ap, ◌∙◌, arith, rules, Bor}
use Rattle.std.specs.Prelude.{slice_get}
use Rattle.px_sig.specs.declared.sig.Integer.{Integer}
use Rattle.px_link_tokens.specs.Named.{integer_names}
use Rattle.px_link_tokens.proofs.integers.entry.Goals as goal

mapped : {X Y : Type 0} (f : X → Y) (xs : List X) (n : ℕ) (d : X) → n < length xs → slice_get (map f xs) n ≡ Some (f (get_or xs n d))
mapped f [] n d less = absurd (omega arith)
mapped f (x ∷ xs) zero d less = refl
mapped f (x ∷ xs) (suc n) d less = mapped f xs n d (omega arith)

abbrev named : Bor (List ℕ) × Integer → List ℕ × Integer
named e = (e.0.now, e.1)

-- an entry of the table is that of the definition
found : (xs : List (Bor (List ℕ) × Integer)) (n : ℕ) (d : Bor (List ℕ) × Integer) → integer_names ≡ map named xs → n < length xs → slice_get integer_names n ≡ Some ((get_or xs n d).0.now, (get_or xs n d).1)
found xs n d same less = ap (λ ys. slice_get ys n) same ∙ mapped named xs n d less

pub returns : goal.returns
unfolding integer_names
returns c = search (rules, found)
