-- One section header after the other, of `count` that stand from `at` on; `n` of them are behind.
use Rattle.std.proofs.Common.{◌≡◌, ◌<◌, ◌≤◌, ℕ, suc, ◌+◌, ◌-◌, ◌*◌, true, false, List, length, Result, Ok, Err, Some, refl, arith, find}
use Rattle.px_pe.specs.declared.fault.PeFault.{PeFault}
use Rattle.px_pe.specs.Reading.{read_bytes}
use Rattle.px_reading.specs.Reading.{◌>>=◌}
use Rattle.px_pe.specs.Section.{check_section, check_sections, holds, section_in, sections_in}

one_more : (count n : ℕ) → n < count → count - n ≡ suc (count - (n + 1))
one_more count n more = omega arith

next_place : (n at : ℕ) → at + 40 * n + 40 ≡ at + 40 * (n + 1)
next_place n at = omega arith

-- where the first header that is left is sound, the others decide
pub check_more : (count n : ℕ) (file : List ℕ) (at : ℕ) → n < count → check_section file (at + 40 * n) ≡ Ok tt → check_sections (count - n) file (at + 40 * n) ≡ check_sections (count - (n + 1)) file (at + 40 * (n + 1))
check_more count n file at more sound = rw (one_more count n more, sound, next_place n at) refl

-- of two checks that pass, both pass
both : (a b : Result (Unit {0}) PeFault) → (a >>= λ _. b) ≡ Ok tt → (a ≡ Ok tt) × (b ≡ Ok tt)
both (Ok x) b passed = (refl, passed)
both (Err e) b passed = cc

-- where all that are left are sound, so are the first and the others
pub sound_more : (count n : ℕ) (file : List ℕ) (at : ℕ) → n < count → check_sections (count - n) file (at + 40 * n) ≡ Ok tt → (check_section file (at + 40 * n) ≡ Ok tt) × (check_sections (count - (n + 1)) file (at + 40 * (n + 1)) ≡ Ok tt)
sound_more count n file at more sound =
    let parts = both _ _ (rw (one_more count n more) at sound) in (parts.0, rw (next_place n at) at parts.1)

-- a sound header lies within the file, and so does the raw data of its section
pub header_within : (file : List ℕ) (at : ℕ) → check_section file at ≡ Ok tt → at + 40 ≤ length file
unfolding check_section read_bytes
header_within file at sound = grind arith

pub data_within : (file : List ℕ) (at : ℕ) → check_section file at ≡ Ok tt → (section_in file at).place + (section_in file at).size ≤ length file
unfolding check_section read_bytes
data_within file at sound = grind arith

-- a section that doesn't hold the range is passed over; one that does is found
pub find_more : (count n : ℕ) (file : List ℕ) (at rva len : ℕ) → n < count → holds rva len (section_in file (at + 40 * n)) ≡ false → find (holds rva len) (sections_in (count - n) file (at + 40 * n)) ≡ find (holds rva len) (sections_in (count - (n + 1)) file (at + 40 * (n + 1)))
find_more count n file at rva len more not_held = rw (one_more count n more, not_held, next_place n at) refl

pub find_here : (count n : ℕ) (file : List ℕ) (at rva len : ℕ) → n < count → holds rva len (section_in file (at + 40 * n)) ≡ true → find (holds rva len) (sections_in (count - n) file (at + 40 * n)) ≡ Some (section_in file (at + 40 * n))
find_here count n file at rva len more held = rw (one_more count n more, held) refl
