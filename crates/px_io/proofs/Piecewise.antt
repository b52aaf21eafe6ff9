-- The texts of the elements of a list, written one after another.
use Rattle.std.proofs.Common.{◌≡◌, ℕ, ◌+◌, ◌<◌, ◌≤◌, List, [], ◌∷◌, ◌++◌, length, take, drop, get_or, Option, Result, Ok, Err, ap, sym, ◌∙◌, append-nil}
use Rattle.std.proofs.lemmas.Grind.{flat_map-append}
use Rattle.std.proofs.lemmas.List.{take-append-drop, take_all, take_more}
use Rattle.std.specs.List.{flat_map}
use Rattle.px_io.specs.Puts.{Puts}
use Rattle.px_io.proofs.Putting.{puts_more, puts_as, puts_err, writing}

-- the first elements and one more
pub each_more : {X : Type 0} (f : X → List ℕ) (xs : List X) (i : ℕ) (d : X) → i < length xs → flat_map f (take (i + 1) xs) ≡ flat_map f (take i xs) ++ f (get_or xs i d)
each_more f xs i d less =
    ap (flat_map f) (take_more xs i d less)
    ∙ flat_map-append f (take i xs) (get_or xs i d ∷ [])
    ∙ ap (λ t. flat_map f (take i xs) ++ t) (append-nil (f (get_or xs i d)))

-- the first elements are all
pub each_all : {X : Type 0} (f : X → List ℕ) (xs : List X) (i : ℕ) → length xs ≤ i → flat_map f (take i xs) ≡ flat_map f xs
each_all f xs i whole = ap (flat_map f) (take_all i xs whole)

-- the first elements and the rest
pub each_split : {X : Type 0} (f : X → List ℕ) (xs : List X) (i : ℕ) → flat_map f xs ≡ flat_map f (take i xs) ++ flat_map f (drop i xs)
each_split f xs i = ap (flat_map f) (sym (take-append-drop i xs)) ∙ flat_map-append f (take i xs) (drop i xs)

-- It stopped within the text of an element, and the answer is that of the `?` behind it.
pub puts_each_err : {O X T E U F : Type 0} {Q : F → Type 0} {written : O → Option (List ℕ)} {faults : O → ℕ} {old mid new : O} (f : X → List ℕ) (xs : List X) (i : ℕ) (d : X) {x : T} {y : E} {r : Result U F}
    → i < length xs → (let s : Result T E = Ok x in Puts written faults old (flat_map f (take i xs)) mid s) → (let s : Result T E = Err y in Puts written faults mid (f (get_or xs i d)) new s)
    → (z : F) × (r ≡ Err z) × Q z → Puts written faults old (flat_map f xs) new r
puts_each_err {T = T} {E = E} {written = written} {faults = faults} {old = old} {mid = mid} {new = new} f xs i d {x = x} {y = y} {r = r} less before here (z, is, _) =
    let through : List ℕ = flat_map f (take i xs) ++ f (get_or xs i d) in
    let rest : List ℕ = flat_map f (drop (i + 1) xs) in
    let whole : through ++ rest ≡ flat_map f xs = ap (λ t. t ++ rest) (sym (each_more f xs i d less)) ∙ sym (each_split f xs (i + 1)) in
    let stopped : Result T E = Err y in
    puts_as written faults old new _ _ r whole
    (puts_err {T = T} {E = E} written faults old new through rest y z r is
    (puts_more written faults old mid new (flat_map f (take i xs)) (f (get_or xs i d)) x stopped before here))

-- what `grind` needs where a loop writes the text of each element, but for its `?`
pub ruleset writing_each = (writing, each_more, each_split, each_all, append-nil)
