-- The library's types by their names.
use Rattle.std.proofs.Common.{◌≡◌, ℕ, ◌+◌, ◌<◌, ◌≤◌, Bool, List, [], ◌∷◌, length, get_or, drop, Some, None, refl, ap, ◌∙◌, arith}
use Rattle.std.specs.Prelude.{if◌then◌else◌}
use Rattle.std.specs.Str.{bytes_eq}
use Rattle.std.proofs.lemmas.List.{at_drop_all, at_drop_more}
use Rattle.px_link_types.specs.Keys.{library_number}
use Rattle.px_link_types.specs.Names.{names, place_from}

pub all_named : (name : List ℕ) → library_number name ≡ place_from 0 names name
unfolding names place_from
all_named name = refl

pub eighteen : length names ≡ 18
unfolding names
eighteen = refl

by_test : (n : ℕ) (other : List ℕ) (others : List (List ℕ)) (name : List ℕ) (b : Bool) → bytes_eq other name ≡ b → place_from n (other ∷ others) name ≡ (if b then Some n else place_from (n + 1) others name)
unfolding place_from
by_test n other others name b is = ap (λ t. if t then Some n else place_from (n + 1) others name) is

-- the search at the name of a number
pub here_or_on : (n : ℕ) (name : List ℕ) (b : Bool) → n < 18 → bytes_eq (get_or names n []) name ≡ b → place_from n (drop n names) name ≡ (if b then Some n else place_from (n + 1) (drop (n + 1) names) name)
here_or_on n name b less is = at_drop_more (λ ys. place_from n ys name) names n [] (omega (arith, eighteen)) ∙ by_test n (get_or names n []) (drop (n + 1) names) name b is

nowhere : (n : ℕ) (name : List ℕ) → place_from n [] name ≡ None
unfolding place_from
nowhere n name = refl

pub at_end : (n : ℕ) (name : List ℕ) → 18 ≤ n → place_from n (drop n names) name ≡ None
at_end n name all = at_drop_all (λ ys. place_from n ys name) names n (omega (arith, eighteen)) ∙ nowhere n name
