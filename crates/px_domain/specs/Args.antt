-- The text of arguments, read from left to right.
-- Without parameters it is `-`. Else there is a group for each parameter: `(N)` for an integer, and `(null)` or `([N N])` for an array, with single spaces.
-- The first fault is at the first byte of the first group that is out of form, or whose value its part of the domain doesn't have.
use Rattle.std.specs.Prelude.{◌≡◌, ℕ, zero, suc, ◌+◌, ◌-◌, List, [], ◌∷◌, ◌++◌, Bool, if◌then◌else◌, length, drop, replicate, Result, Ok, Err, codes, nat_eq, nat_le}
use Rattle.std.specs.List.{starts_with}
use Rattle.px_reading.specs.Reading.{Read, ◌>>=◌}
use Rattle.px_domain.specs.declared.domain.Part.{Part}
use Rattle.px_domain.specs.declared.domain.Part.TheVariants.{Scalar, Array}
use Rattle.px_domain.specs.declared.range.Range.{Range}
use Rattle.px_domain.specs.declared.fault.ArgsFault.{ArgsFault}
use Rattle.px_domain.specs.declared.fault.ArgsFault.TheVariants as faults
use Rattle.px_domain.specs.Domain.{low_word}
use Rattle.px_domain.specs.Grammar.{end_at, expect, number_at}
use Rattle.px_domain.specs.Place.{word_of}

-- a number of the range, as its word
unfoldable pub word_at : Range → List ℕ → ℕ → Result (Read ℕ) ℕ
word_at range text at = number_at range text at >>= λ number. Ok (record { value = word_of range.place number.value; end = number.end })

-- the same behind a gap
unfoldable pub element_at : Range → List ℕ → List ℕ → ℕ → Result (Read ℕ) ℕ
element_at range gap text at = expect gap text at at >>= λ next. word_at range text next

-- the words of up to so many elements before a `]`: a gap stands before the first, and a space before each other
unfoldable pub elements_at : Range → ℕ → List ℕ → List ℕ → ℕ → Result (Read (List ℕ)) ℕ
elements_at range zero gap text at = Ok (record { value = []; end = at })
elements_at range (suc most) gap text at =
    if starts_with nat_eq (drop at text) (codes "]") then Ok (record { value = []; end = at })
    else element_at range gap text at >>= λ word. elements_at range most (codes " ") text word.end >>= λ rest. Ok (record { value = word.value ∷ rest.value; end = rest.end })

-- the number of the shape that an array of a length has
abbrev pub shape_of : Bool → ℕ → ℕ → ℕ
shape_of null from length = if null then length + 1 - from else length - from

-- the words of an array with these elements: those past its length have their low ends
abbrev pub array_words : Bool → ℕ → ℕ → Range → List ℕ → List ℕ
array_words null from to range elements = shape_of null from (length elements) ∷ (elements ++ replicate (to - length elements) (low_word range))

-- the words of null
abbrev pub null_words : ℕ → Range → List ℕ
null_words to range = 0 ∷ replicate to (low_word range)

-- an array that isn't null, in its brackets
unfoldable pub listed_at : Bool → ℕ → ℕ → Range → List ℕ → ℕ → Result (Read (List ℕ)) ℕ
listed_at null from to range text at =
    expect (codes "([") text at at >>= λ inner. elements_at range to (codes "") text inner >>= λ elements. expect (codes "])") text elements.end at >>= λ end.
    if nat_le from (length elements.value) then Ok (record { value = array_words null from to range elements.value; end = end }) else Err at

-- null, where the array may be
unfoldable pub null_arg_at : Bool → ℕ → Range → List ℕ → ℕ → Result (Read (List ℕ)) ℕ
null_arg_at null to range text at =
    expect (codes "(null)") text at at >>= λ end. if null then Ok (record { value = null_words to range; end = end }) else Err at

-- null or a list
unfoldable pub array_arg_at : Bool → ℕ → ℕ → Range → List ℕ → ℕ → Result (Read (List ℕ)) ℕ
array_arg_at null from to range text at =
    if starts_with nat_eq (drop at text) (codes "(null)") then null_arg_at null to range text at else listed_at null from to range text at

-- an integer in its parentheses
unfoldable pub scalar_arg_at : Range → List ℕ → ℕ → Result (Read (List ℕ)) ℕ
scalar_arg_at range text at =
    expect (codes "(") text at at >>= λ inner. word_at range text inner >>= λ word. expect (codes ")") text word.end at >>= λ end.
    Ok (record { value = word.value ∷ []; end = end })

-- what stands for a part
unfoldable pub value_at : Part → List ℕ → ℕ → Result (Read (List ℕ)) ℕ
value_at (Scalar place low high) text at = scalar_arg_at (record { place = place; low = low; high = high }) text at
value_at (Array element null from to low high) text at = array_arg_at null from to (record { place = element; low = low; high = high }) text at

-- what was read, or a fault at another place
abbrev pub fault_at : {X : Type 0} → ℕ → Result X ℕ → Result X ℕ
fault_at at (Ok read) = Ok read
fault_at at (Err other) = Err at

-- a group: its faults are at its first byte
abbrev pub arg_at : Part → List ℕ → ℕ → Result (Read (List ℕ)) ℕ
arg_at part text at = fault_at at (value_at part text at)

-- the words of a group for each part, and nothing behind the last
unfoldable pub args_at : List Part → List ℕ → ℕ → Result (List ℕ) ℕ
args_at [] text at = end_at text at >>= λ end. Ok []
args_at (part ∷ parts) text at =
    arg_at part text at >>= λ words. args_at parts text words.end >>= λ rest. Ok (words.value ++ rest)

-- the text where there are no parameters
abbrev pub empty_args : List ℕ → Result (List ℕ) ℕ
empty_args text = expect (codes "-") text 0 0 >>= λ next. end_at text next >>= λ end. Ok []

-- the words of a text for the parts of a domain, or the place of the first fault
unfoldable pub args_of : List Part → List ℕ → Result (List ℕ) ℕ
args_of [] text = empty_args text
args_of (part ∷ parts) text = args_at (part ∷ parts) text 0

-- the fault is that of the reading, or want of memory
abbrev pub FailsArgs : ArgsFault → Result (List ℕ) ℕ → Type 0
FailsArgs faults.Memory read = Unit {0}
FailsArgs (faults.Bad at) read = read ≡ Err at

-- What a function returned is what reading gives, unless memory ran out.
abbrev pub GivesArgs : Result (List ℕ) ArgsFault → Result (List ℕ) ℕ → Type 0
GivesArgs (Ok words) read = read ≡ Ok words
GivesArgs (Err fault) read = FailsArgs fault read
