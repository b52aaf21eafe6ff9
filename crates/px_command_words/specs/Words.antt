-- The words of the command line: `explore-raw FILE PARAMS --domain TEXT` and `explore FILE METHOD --domain TEXT`.
use Rattle.std.specs.Prelude.{◌≡◌, ◌≤◌, ℕ, zero, suc, ◌+◌, ◌==◌, ◌&&◌, ◌||◌, not, nat_eq, List, [], ◌∷◌, length, Bool, true, false, if◌then◌else◌, codes, Option, Some, None, is_some, slice_index}
use Rattle.std.specs.List.{AllByRecursion, starts_with, ends_with}
use Rattle.std.specs.Str.{bytes_eq}
use Rattle.px_program.specs.Formed.{IsInteger}
use Rattle.px_program.specs.declared.program.Place.{Place}
use Rattle.px_program.specs.declared.program.Place.TheVariants.{I4}
use Rattle.px_command_words.specs.declared.words.Target.{Target}
use Rattle.px_command_words.specs.declared.words.Target.TheVariants as targets

-- PARAMS: `-`, or one to four names of types with commas
abbrev pub places_by : List ℕ → Option (List Place)
places_by params =
    if bytes_eq params (codes "-") then Some []
    else if bytes_eq params (codes "int32") then Some (I4 ∷ [])
    else if bytes_eq params (codes "int32,int32") then Some (I4 ∷ I4 ∷ [])
    else if bytes_eq params (codes "int32,int32,int32") then Some (I4 ∷ I4 ∷ I4 ∷ [])
    else if bytes_eq params (codes "int32,int32,int32,int32") then Some (I4 ∷ I4 ∷ I4 ∷ I4 ∷ [])
    else None

abbrev pub is_filled : List ℕ → Bool
is_filled [] = false
is_filled (c ∷ cs) = true

-- FILE: it isn't empty and doesn't begin with `-`
abbrev pub is_file : List ℕ → Bool
is_file word = is_filled word && not (slice_index word 0 == 45)

abbrev pub begins_with_pair : List ℕ → Bool
begins_with_pair [] = false
begins_with_pair (c ∷ []) = false
begins_with_pair (c ∷ d ∷ cs) = (c == 58) && (d == 58)

-- how often `::` stands in a word; three colons hold it twice
abbrev pub pairs_in : List ℕ → ℕ
pairs_in [] = 0
pairs_in (c ∷ cs) = (if begins_with_pair (c ∷ cs) then 1 else 0) + pairs_in cs

-- METHOD: it holds `::` once, with something on both sides, and doesn't begin with `-`
abbrev pub is_method : List ℕ → Bool
is_method word = is_file word && ((pairs_in word == 1) && (not (starts_with nat_eq word (codes "::")) && not (ends_with nat_eq word (codes "::"))))

-- a command's name
abbrev pub is_command : List ℕ → Bool
is_command word = bytes_eq word (codes "explore-raw") || bytes_eq word (codes "explore")

-- what stands after FILE: METHOD for `explore`, else PARAMS
abbrev pub is_target : List ℕ → List ℕ → Bool
is_target command word = if bytes_eq command (codes "explore") then is_method word else is_some (places_by word)

-- the word fits its place in the form of a command
abbrev pub fits : List ℕ → ℕ → List ℕ → Bool
fits command zero word = is_command word
fits command (suc zero) word = is_file word
fits command (suc (suc zero)) word = is_target command word
fits command (suc (suc (suc zero))) word = bytes_eq word (codes "--domain")
fits command (suc (suc (suc (suc zero)))) word = is_filled word
fits command (suc (suc (suc (suc (suc n))))) word = false

-- the first word that fits nothing, or the place after the last where one is missing
abbrev pub misfit_from : List ℕ → ℕ → List (List ℕ) → Option ℕ
misfit_from command k [] = if k == 5 then None else Some k
misfit_from command k (word ∷ words) = if fits command k word then misfit_from command (k + 1) words else Some k

-- the command is the first word
abbrev pub command_in : List (List ℕ) → List ℕ
command_in [] = []
command_in (word ∷ words) = word

abbrev pub misfit : List (List ℕ) → Option ℕ
misfit words = misfit_from (command_in words) 0 words

-- the command that explores a raw body, or a method of an assembly
abbrev pub command_of : Target → List ℕ
command_of (targets.Raw params places) = codes "explore-raw"
command_of (targets.Method name) = codes "explore"

-- the word that says which
abbrev pub word_of : Target → List ℕ
word_of (targets.Raw params places) = params.now
word_of (targets.Method name) = name.now

-- the places are those of the parameters' types
abbrev pub IsTyped : Target → Type 0
IsTyped (targets.Raw params places) = places_by params.now ≡ Some places.now
IsTyped (targets.Method name) = Unit {0}

-- the parameters of a raw body are at most sixteen integers
abbrev pub TakesIntegers : Target → Type 0
TakesIntegers (targets.Raw params places) = (length places.now ≤ 16) × AllByRecursion IsInteger places.now
TakesIntegers (targets.Method name) = Unit {0}

-- the words are of the form, and ask for these
pub record AsksFor (words : List (List ℕ)) (file : List ℕ) (target : Target) (text : List ℕ) : Type 0 where
  pub form : words ≡ command_of target ∷ file ∷ word_of target ∷ codes "--domain" ∷ text ∷ []
  pub accepted : misfit words ≡ None
  pub typed : IsTyped target

-- what the words ask for, where they are of the form
pub record Asks (words : List (List ℕ)) : Type 0 where
  pub file : List ℕ
  pub target : Target
  pub text : List ℕ
  pub asked : AsksFor words file target text
