-- What is known of each item of a list, taken from what is known of all that the items come to.
use Rattle.std.proofs.Common.{◌≡◌, ℕ, zero, suc, ◌+◌, ◌<◌, List, [], ◌∷◌, ◌++◌, get_or, take, length, map, min, Some, refl, sym, ap, ◌∙◌, subst, arith}
use Rattle.std.specs.Prelude.{slice_get}
use Rattle.std.specs.List.{AllByRecursion, AllZip, flat_map, zip}
use Rattle.std.proofs.lemmas.List.{map_more, take_all, take_more}
use Rattle.std.proofs.lemmas.Option.{slice_get_read}
use Rattle.std.proofs.lemmas.Slice.Zip.{all_zipped_more, get_or-zip, length-zip}
use Rattle.px_link_types.proofs.Closed.{each-back, each-front}

-- of all the lists together, to that of one item
pub each_piece : {X Y : Type 0} (P : Y → Type 0) (f : X → List Y) (xs : List X) (i : ℕ) (d : X) → AllByRecursion P (flat_map f xs) → i < length xs → AllByRecursion P (f (get_or xs i d))
each_piece P f [] i d each less = absurd (omega arith)
each_piece P f (x ∷ xs) zero d each less = each-front P (f x) (flat_map f xs) each
each_piece P f (x ∷ xs) (suc i) d each less = each_piece P f xs i d (each-back P (f x) (flat_map f xs) each) (omega arith)

-- the same, where the item has a name
pub piece_of : {X Y : Type 0} (P : Y → Type 0) (f : X → List Y) (xs : List X) (i : ℕ) (x : X) → AllByRecursion P (flat_map f xs) → i < length xs → x ≡ get_or xs i x → AllByRecursion P (f x)
piece_of P f xs i x each less is = subst (λ y. AllByRecursion P (f y)) (sym is) (each_piece P f xs i x each less)

-- of what each item is mapped to
pub each_mapped : {X Y : Type 0} (P : Y → Type 0) (f : X → Y) (xs : List X) (i : ℕ) (d : X) → AllByRecursion P (map f xs) → i < length xs → P (f (get_or xs i d))
each_mapped P f [] i d each less = absurd (omega arith)
each_mapped P f (x ∷ xs) zero d each less = each.0
each_mapped P f (x ∷ xs) (suc i) d each less = each_mapped P f xs i d each.1 (omega arith)

pub each_item : {X : Type 0} (P : X → Type 0) (xs : List X) (i : ℕ) (d : X) → AllByRecursion P xs → i < length xs → P (get_or xs i d)
each_item P [] i d each less = absurd (omega arith)
each_item P (x ∷ xs) zero d each less = each.0
each_item P (x ∷ xs) (suc i) d each less = each_item P xs i d each.1 (omega arith)

-- one more pair
pub zipped_more : {X Y : Type 0} (R : X → Y → Type 0) (xs : List X) (i : ℕ) (x : X) (ys news : List Y) (y : Y) → AllZip R (take i xs) ys → i < length xs → x ≡ get_or xs i x → R x y → news ≡ ys ++ y ∷ [] → AllZip R (take (i + 1) xs) news
zipped_more R xs i x ys news y are less is holds e =
    subst (λ l. AllZip R (take (i + 1) xs) l) (sym e)
    (subst (λ l. AllZip R l (ys ++ y ∷ [])) (sym (take_more xs i x less))
    (subst (λ z. AllZip R (take i xs ++ z ∷ []) (ys ++ y ∷ [])) is (all_zipped_more R (take i xs) ys x y are holds)))

-- one more item is mapped
pub mapped_more : {X Y : Type 0} (f : X → Y) (xs : List X) (i : ℕ) (d : X) (ys news : List Y) (y : Y) → ys ≡ map f (take i xs) → i < length xs → y ≡ f (get_or xs i d) → news ≡ ys ++ y ∷ [] → news ≡ map f (take (i + 1) xs)
mapped_more f xs i d ys news y are less made e = e ∙ ap (λ l. l ++ y ∷ []) are ∙ ap (λ z. map f (take i xs) ++ z ∷ []) made ∙ sym (map_more f xs i d less)

-- PAIRS

-- the pair at a place of two lists
pub record IsPair {X Y : Type 0} (xs : List X) (ys : List Y) (i : ℕ) (x : X) (y : Y) : Type 0 where
  pub within : i < length (zip xs ys)
  pub is : (x, y) ≡ get_or (zip xs ys) i (x, y)

pub pair_of : {X Y : Type 0} (xs : List X) (ys : List Y) (i : ℕ) (x : X) (y : Y) → i < length xs → i < length ys → x ≡ get_or xs i x → y ≡ get_or ys i y → IsPair xs ys i x y
pair_of xs ys i x y first second x_is y_is = record {
  within = omega (arith, length-zip xs ys);
  is = ap (λ z. (z, y)) x_is ∙ ap (λ z. (get_or xs i x, z)) y_is ∙ sym (get_or-zip xs ys i (x, y) first second);
}

-- all pairs
pub all_pairs : {X Y : Type 0} (xs : List X) (ys : List Y) (n : ℕ) → n ≡ min (length xs) (length ys) → take n (zip xs ys) ≡ zip xs ys
all_pairs xs ys n e = take_all n (zip xs ys) (omega (arith, length-zip xs ys))

-- what stands at a place of the list of pairs stands there in both lists
pub unzipped : {X Y : Type 0} (xs : List X) (ys : List Y) (k : ℕ) (pair : X × Y) → slice_get (zip xs ys) k ≡ Some pair → (slice_get xs k ≡ Some pair.0) × (slice_get ys k ≡ Some pair.1)
unzipped [] ys k pair at = absurd (cc)
unzipped (x ∷ xs) [] k pair at = absurd (cc)
unzipped (x ∷ xs) (y ∷ ys) zero pair at = let same : (x, y) ≡ pair = cc in (ap (λ p. Some p.0) same, ap (λ p. Some p.1) same)
unzipped (x ∷ xs) (y ∷ ys) (suc k) pair at = unzipped xs ys k pair at

-- each of a pair stands in its list
pub pair_at : {X Y : Type 0} (xs : List X) (ys : List Y) (k : ℕ) (x : X) (y : Y) → IsPair xs ys k x y → (slice_get xs k ≡ Some x) × (slice_get ys k ≡ Some y)
pair_at xs ys k x y pair = unzipped xs ys k (x, y) (slice_get_read (zip xs ys) (length (zip xs ys)) k (x, y) refl pair.within pair.is)
