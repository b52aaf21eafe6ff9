-- The ranges of a domain's words.
use Rattle.std.proofs.Common.{ℕ, zero, suc, ◌≤◌, List, [], ◌∷◌, ◌++◌, Bool, true, false, arith, replicate, ◌≡◌, ◌+◌, ◌<◌, sym, ap, ◌∙◌, length, take, get_or, append-nil}
use Rattle.std.specs.List.{AllByRecursion}
use Rattle.std.proofs.lemmas.Grind.{flat_map-append}
use Rattle.std.proofs.lemmas.Int.{ints}
use Rattle.std.proofs.lemmas.List.{take_more}
use Rattle.px_domain.specs.declared.domain.Part.{Part}
use Rattle.px_domain.specs.declared.domain.Part.TheVariants.{Scalar, Array}
use Rattle.px_domain.specs.declared.range.Range.{Range}
use Rattle.px_domain.specs.Domain.{AreParts, IsPart, IsRange, ranges_of, ranges_of_part, shape_range}

both : {X : Type 0} (P : X → Type 0) (xs ys : List X) → AllByRecursion P xs → AllByRecursion P ys → AllByRecursion P (xs ++ ys)
both P [] ys first second = second
both P (x ∷ xs) ys first second = (first.0, both P xs ys first.1 second)

same_times : {X : Type 0} (P : X → Type 0) (n : ℕ) (x : X) → P x → AllByRecursion P (replicate n x)
same_times P zero x is = tt
same_times P (suc n) x is = (is, same_times P n x is)

shape_is : (null : Bool) (from to : ℕ) → from ≤ to → to ≤ 64 → IsRange (shape_range null from to)
shape_is true from to order few = (omega (arith, ints), omega (arith, ints), omega (arith, ints))
shape_is false from to order few = (omega (arith, ints), omega (arith, ints), omega (arith, ints))

part_ranges : (part : Part) → IsPart part → AllByRecursion IsRange (ranges_of_part part)
part_ranges (Scalar place low high) is = (is.1, tt)
part_ranges (Array element null from to low high) is = (shape_is null from to is.0 is.1, same_times IsRange to (record { place = element; low = low; high = high }) is.3)

pub ranges_are : (parts : List Part) → AllByRecursion IsPart parts → AllByRecursion IsRange (ranges_of parts)
ranges_are [] each = tt
ranges_are (part ∷ parts) each = both IsRange (ranges_of_part part) (ranges_of parts) (part_ranges part each.0) (ranges_are parts each.1)

pub all_ranges : (parts : List Part) → AreParts parts → AllByRecursion IsRange (ranges_of parts)
all_ranges parts are = ranges_are parts are.each

-- the ranges of one part more
pub one_part_more : (parts : List Part) (index : ℕ) (d : Part) (old new : List Range) → index < length parts → old ≡ ranges_of (take index parts) → new ≡ old ++ ranges_of_part (get_or parts index d)
    → new ≡ ranges_of (take (index + 1) parts)
one_part_more parts index d old new less so_far pushed =
    let part : Part = get_or parts index d in
    pushed
    ∙ ap (λ (ranges : List Range). ranges ++ ranges_of_part part) so_far
    ∙ sym (ap ranges_of (take_more parts index d less) ∙ flat_map-append ranges_of_part (take index parts) (part ∷ []) ∙ ap (λ (ranges : List Range). ranges_of (take index parts) ++ ranges) (append-nil (ranges_of_part part)))
