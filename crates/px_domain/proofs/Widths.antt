-- How wide a range is.
use Rattle.std.proofs.Common.{ℕ, ◌<◌, ◌≤◌, ◌^◌, arith, ℤ, pos, ◌+ℤ◌, ◌≤ℤ◌}
use Rattle.std.proofs.lemmas.Int.{ints}
use Rattle.px_program.specs.declared.program.Place.{Place}
use Rattle.px_program.specs.declared.program.Place.TheVariants as places
use Rattle.px_domain.specs.declared.range.Range.{Range}
use Rattle.px_domain.specs.Place.{low_end, high_end}
use Rattle.px_domain.specs.Domain.{IsRange, IsShort, range_size, width_of}

short : (place : Place) (low high : ℤ) → low_end place ≤ℤ low → low ≤ℤ high → high ≤ℤ high_end place → IsShort low high
short places.Bool low high a b c = record { first = omega (arith, ints); order = b; last = omega (arith, ints); few = omega (arith, ints) }
short places.Char low high a b c = record { first = omega (arith, ints); order = b; last = omega (arith, ints); few = omega (arith, ints) }
short places.I1 low high a b c = record { first = omega (arith, ints); order = b; last = omega (arith, ints); few = omega (arith, ints) }
short places.U1 low high a b c = record { first = omega (arith, ints); order = b; last = omega (arith, ints); few = omega (arith, ints) }
short places.I2 low high a b c = record { first = omega (arith, ints); order = b; last = omega (arith, ints); few = omega (arith, ints) }
short places.U2 low high a b c = record { first = omega (arith, ints); order = b; last = omega (arith, ints); few = omega (arith, ints) }
short places.I4 low high a b c = record { first = omega (arith, ints); order = b; last = omega (arith, ints); few = omega (arith, ints) }
short places.U4 low high a b c = record { first = omega (arith, ints); order = b; last = omega (arith, ints); few = omega (arith, ints) }
short places.I8 low high a b c = record { first = omega (arith, ints); order = b; last = omega (arith, ints); few = omega (arith, ints) }
short places.U8 low high a b c = record { first = omega (arith, ints); order = b; last = omega (arith, ints); few = omega (arith, ints) }
short places.N low high a b c = record { first = omega (arith, ints); order = b; last = omega (arith, ints); few = omega (arith, ints) }
short places.UN low high a b c = record { first = omega (arith, ints); order = b; last = omega (arith, ints); few = omega (arith, ints) }
short (places.Ref class) low high a b c = record { first = omega (arith, ints); order = b; last = omega (arith, ints); few = omega (arith, ints) }

pub short_range : (range : Range) → IsRange range → IsShort range.low range.high
short_range range is = short range.place range.low range.high is.0 is.1 is.2

pub within_range : (range : Range) (k : ℕ) → IsRange range → k < range_size range → (low_end range.place ≤ℤ (range.low +ℤ pos k)) × ((range.low +ℤ pos k) ≤ℤ high_end range.place)
within_range range k is less =
    let low : low_end range.place ≤ℤ range.low = is.0 in
    let order : range.low ≤ℤ range.high = is.1 in
    let high : range.high ≤ℤ high_end range.place = is.2 in
    (omega (arith, ints), omega (arith, ints))

few_of : (low high : ℤ) → low ≤ℤ high → IsShort low high → width_of low high ≤ 2 ^ 64
few_of low high order short = omega (arith, ints, short.few)

pub size_small : (range : Range) → IsRange range → range_size range ≤ 2 ^ 64
size_small range is = few_of range.low range.high is.1 (short_range range is)
