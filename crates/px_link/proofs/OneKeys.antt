-- Types are numbered in one way.
use Rattle.std.proofs.Common.{◌≡◌, List, [], ◌∷◌, ◌++◌, refl, sym, ◌∙◌}
use Rattle.std.proofs.lemmas.Bool.{true≢false}
use Rattle.px_tables.specs.Metadata.{View}
use Rattle.px_link_types.specs.Numbers.{Ends, Meets, Numbers, Passes, own_types}
use Rattle.px_link_types.specs.declared.key.Key.{Key}

pub one_numbering : (v : View) (keys met all others : List Key) → Numbers v keys met all → Numbers v keys met others → all ≡ others
one_numbering v keys met all others (Ends _) (Ends _) = refl
one_numbering v keys met all others (Passes _ key rest _ is numbers) (Passes _ _ _ _ is' numbers') = one_numbering v keys rest all others numbers numbers'
one_numbering v keys met all others (Passes _ key rest _ is numbers) (Meets _ _ _ _ new numbers') = absurd (true≢false (sym is ∙ new))
one_numbering v keys met all others (Meets _ key rest _ new numbers) (Passes _ _ _ _ is numbers') = absurd (true≢false (sym is ∙ new))
one_numbering v keys met all others (Meets _ key rest _ new numbers) (Meets _ _ _ _ new' numbers') = one_numbering v (keys ++ key ∷ []) (own_types v key ++ rest) all others numbers numbers'
