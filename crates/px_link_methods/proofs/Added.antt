-- Keys that are added one after another.
use Rattle.std.proofs.Common.{◌≡◌, ℕ, ◌+◌, ◌<◌, List, [], ◌∷◌, ◌++◌, get_or, take, length, append_assoc, append-nil, sym, ap, map, ◌∙◌, subst}
use Rattle.std.specs.List.{flat_map}
use Rattle.std.proofs.lemmas.Grind.{flat_map-append}
use Rattle.std.proofs.lemmas.List.{map_more, take_more}
use Rattle.px_program.proofs.Types.{each-append}
use Rattle.px_tables.specs.Metadata.{View}
use Rattle.px_link_types.specs.Keys.{IsKey}
use Rattle.px_link_types.specs.declared.key.Key.{Key}
use Rattle.px_link_methods.specs.Parts.{IsAdded}

added_then : (v : View) (keys first mid second news : List Key) → IsAdded v keys first mid → IsAdded v mid second news → IsAdded v keys (first ++ second) news
added_then v keys first mid second news a b = record {
  is = b.is ∙ ap (λ l. l ++ second) a.is ∙ append_assoc keys first second;
  there = each-append (IsKey v) first second a.there b.there;
}

added_as : (v : View) (keys more other news : List Key) → more ≡ other → IsAdded v keys more news → IsAdded v keys other news
added_as v keys more other news e a = subst (λ m. IsAdded v keys m news) e a

pub one_piece : {X Y : Type 0} (f : X → List Y) (xs : List X) (i : ℕ) (x : X) → i < length xs → x ≡ get_or xs i x → flat_map f (take (i + 1) xs) ≡ flat_map f (take i xs) ++ f x
one_piece f xs i x less is =
    ap (flat_map f) (take_more xs i x less) ∙ flat_map-append f (take i xs) (get_or xs i x ∷ []) ∙ ap (λ l. flat_map f (take i xs) ++ l) (append-nil (f (get_or xs i x))) ∙ ap (λ y. flat_map f (take i xs) ++ f y) (sym is)

-- what one more item comes to
pub added_piece : {X : Type 0} (v : View) (f : X → List Key) (xs : List X) (i : ℕ) (x : X) (keys mid news : List Key) → IsAdded v keys (flat_map f (take i xs)) mid → i < length xs → x ≡ get_or xs i x → IsAdded v mid (f x) news
    → IsAdded v keys (flat_map f (take (i + 1) xs)) news
added_piece v f xs i x keys mid news a less is b = added_as v keys _ _ news (sym (one_piece f xs i x less is)) (added_then v keys (flat_map f (take i xs)) mid (f x) news a b)

-- one more item is mapped
pub added_mapped : {X : Type 0} (v : View) (f : X → Key) (xs : List X) (i : ℕ) (d : X) (keys mid news : List Key) (key : Key) → IsAdded v keys (map f (take i xs)) mid → i < length xs → key ≡ f (get_or xs i d) → IsKey v key → news ≡ mid ++ key ∷ []
    → IsAdded v keys (map f (take (i + 1) xs)) news
added_mapped v f xs i d keys mid news key a less made there e =
    added_as v keys _ _ news (ap (λ z. map f (take i xs) ++ z ∷ []) made ∙ sym (map_more f xs i d less)) (added_then v keys (map f (take i xs)) mid (key ∷ []) news a (record { is = e; there = (there, tt) }))
