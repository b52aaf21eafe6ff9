use Rattle.std.proofs.Common.{◌≡◌, ◌<◌, ◌≤◌, ℕ, List, [], length, map, get_or, refl, ap, sym, ◌∙◌, arith, rules, Bor}
use Rattle.std.proofs.lemmas.List.{get_or-map, get_or_past}
use Rattle.px_link_types.specs.Names.{names}
use Rattle.px_link_types.proofs.Names.{eighteen}
use Rattle.px_link_types.proofs.library.name_of.Goals as goal

-- an entry of the table is that of the definition
found : (xs : List (Bor (List ℕ))) (i number : ℕ) (r : Bor (List ℕ)) → map (λ x. x.now) xs ≡ names → i ≡ number → i < length xs → r ≡ get_or xs i r → r.now ≡ get_or names number []
found xs i number r same is inside here =
    ap (λ x. x.now) here ∙ sym (get_or-map (λ x. x.now) xs i r [] inside) ∙ ap (λ k. get_or (map (λ x. x.now) xs) k []) is ∙ ap (λ ys. get_or ys number []) same

past : (i number : ℕ) → i ≡ number → 18 ≤ i → [] ≡ get_or names number []
past i number is outside = sym (get_or_past names number [] (omega (arith, eighteen)))

pub returns-in-Some : goal.returns-in-Some
unfolding names
returns-in-Some c =
    let lookup = c.in-Some.ensures.lookup in
    let inside = (lookup.3).0 in let here = lookup.1 in search (rules, found)

pub returns-in-None : goal.returns-in-None
returns-in-None c = past _ c.args.number refl c.in-None.ensures.lookup.3
