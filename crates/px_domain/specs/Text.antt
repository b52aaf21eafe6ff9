-- How domains and arguments are written.
use Rattle.std.specs.Prelude.{ℕ, ◌+◌, ◌-◌, List, [], ◌∷◌, ◌++◌, ◌==◌, ◌&&◌, Bool, if◌then◌else◌, Option, Some, None, codes, take, drop, ℤ}
use Rattle.std.specs.Fmt.{decimal, signed_decimal}
use Rattle.std.specs.Ordering.{int_eq}
use Rattle.std.specs.List.{flat_map}
use Rattle.px_program.specs.declared.program.Place.{Place}
use Rattle.px_domain.specs.declared.domain.Part.{Part}
use Rattle.px_domain.specs.declared.domain.Part.TheVariants.{Scalar, Array}
use Rattle.px_domain.specs.Domain.{word_count}
use Rattle.px_domain.specs.Place.{low_end, high_end, number_of}

-- the ends of a range, or `*` where it is the whole place
abbrev pub range_text : Place → ℤ → ℤ → List ℕ
range_text place low high =
    if int_eq low (low_end place) && int_eq high (high_end place) then codes "*" ++ []
    else signed_decimal low ++ (codes ".." ++ (signed_decimal high ++ []))

-- a `?` where the array may be null
abbrev pub null_text : Bool → List ℕ
null_text null = if null then codes "?" ++ [] else []

-- the lengths of an array
abbrev pub lengths_text : ℕ → ℕ → List ℕ
lengths_text from to = decimal from ++ (codes ".." ++ (decimal to ++ (codes "x" ++ [])))

abbrev pub part_text : Part → List ℕ
part_text (Scalar place low high) = codes "(" ++ (range_text place low high ++ codes ")")
part_text (Array element null from to low high) = codes "(" ++ (null_text null ++ (lengths_text from to ++ (range_text element low high ++ codes ")")))

-- one after another, or `-` where there are none
abbrev pub domain_text : List Part → List ℕ
domain_text [] = codes "-"
domain_text (part ∷ parts) = part_text part ++ flat_map part_text parts

-- the length that the number of an array's shape stands for, or null
abbrev pub length_in : Bool → ℕ → ℕ → Option ℕ
length_in null from shape = if null then (if shape == 0 then None else Some (from + (shape - 1))) else Some (from + shape)

-- the number of a word, as its place reads it
abbrev pub number_text : Place → ℕ → List ℕ
number_text place word = signed_decimal (number_of place word) ++ []

-- the numbers of some words, with single spaces
abbrev pub numbers_text : Place → List ℕ → List ℕ
numbers_text place [] = []
numbers_text place (word ∷ words) = number_text place word ++ flat_map (λ w. codes " " ++ (signed_decimal (number_of place w) ++ [])) words

-- the elements of an array of a length, or `null`
abbrev pub array_text : Place → Option ℕ → List ℕ → List ℕ
array_text element None elements = codes "(null)" ++ []
array_text element (Some length) elements = codes "([" ++ (numbers_text element (take length elements) ++ codes "])")

-- the argument of a part with these words
abbrev pub arg_text : Part → List ℕ → List ℕ
arg_text part [] = []
arg_text (Scalar place low high) (word ∷ words) = codes "(" ++ (signed_decimal (number_of place word) ++ (codes ")" ++ []))
arg_text (Array element null from to low high) (shape ∷ elements) = array_text element (length_in null from shape) elements

-- one after another, each part with its own words
abbrev pub arg_texts : List Part → List ℕ → List ℕ
arg_texts [] words = []
arg_texts (part ∷ parts) words = arg_text part (take (word_count part) words) ++ arg_texts parts (drop (word_count part) words)

-- the same, or `-` where there are none
abbrev pub args_text : List Part → List ℕ → List ℕ
args_text [] words = codes "-"
args_text (part ∷ parts) words = arg_texts (part ∷ parts) words
