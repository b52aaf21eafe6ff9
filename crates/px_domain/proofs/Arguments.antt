-- Arguments, group after group: the words read so far and the reading of the rest.
use Rattle.std.proofs.Common.{◌≡◌, ℕ, zero, suc, ◌+◌, ◌-◌, ◌<◌, ◌≤◌, List, [], ◌∷◌, ◌++◌, Bool, true, false, refl, sym, ap, ◌∙◌, arith, drop, length, get_or, Result, Ok, Err, append_assoc, append-nil, if◌then◌else◌}
use Rattle.std.specs.Prelude.{codes, nat_eq}
use Rattle.std.specs.List.{starts_with}
use Rattle.std.proofs.lemmas.List.{drop_more, drop_all, length-append}
use Rattle.px_domain.specs.declared.domain.Part.{Part}
use Rattle.px_domain.specs.declared.range.Range.{Range}
use Rattle.px_domain.specs.declared.fault.DomainFault.{DomainFault}
use Rattle.px_domain.specs.declared.fault.DomainFault.TheVariants as faults
use Rattle.px_domain.specs.Args.{arg_at, args_at, args_of, element_at, elements_at, empty_args}
use Rattle.px_domain.specs.Grammar.{end_at}
use Rattle.px_reading.specs.Reading.{◌>>=◌, Read}
use Rattle.px_domain.specs.Reading.{FailsAt, FailsOr}

-- ELEMENTS

-- what reading gives with these words before it
abbrev pub behind_words : List ℕ → Result (Read (List ℕ)) ℕ → Result (Read (List ℕ)) ℕ
behind_words words (Ok read) = Ok (record { value = words ++ read.value; end = read.end })
behind_words words (Err at) = Err at

-- the words of the elements so far and the reading of the rest are the whole reading
pub record IsListing (range : Range) (most index : ℕ) (gap text : List ℕ) (start at : ℕ) (words : List ℕ) : Type 0 where
  pub whole : behind_words words (elements_at range (most - index) gap text at) ≡ elements_at range most (codes "") text start
  pub few : length words ≤ index

pub none_listed : (range : Range) (most : ℕ) (text : List ℕ) (start : ℕ) → IsListing range most 0 (codes "") text start start []
none_listed range most text start = record {
  whole = ap (λ room. behind_words [] (elements_at range room (codes "") text start)) all ∙ nothing (elements_at range most (codes "") text start);
  few = omega arith;
}
  where
    all : most - 0 ≡ most
    all = omega arith

    nothing : (read : Result (Read (List ℕ)) ℕ) → behind_words [] read ≡ read
    nothing (Ok read) = refl
    nothing (Err at) = refl

-- a list with room for one more
roomy : (range : Range) (room : ℕ) (gap text : List ℕ) (at : ℕ) → 0 < room
    → elements_at range room gap text at ≡ (if starts_with nat_eq (drop at text) (codes "]") then Ok (record { value = []; end = at })
    else element_at range gap text at >>= λ word. elements_at range (room - 1) (codes " ") text word.end >>= λ rest. Ok (record { value = word.value ∷ rest.value; end = rest.end }))
unfolding elements_at
roomy range zero gap text at some = absurd (omega arith)
roomy range (suc room) gap text at some = let same : suc room - 1 ≡ room = omega arith in rw same refl

pub closed : (range : Range) (most index : ℕ) (gap text : List ℕ) (start at : ℕ) (words : List ℕ) → index < most → starts_with nat_eq (drop at text) (codes "]") ≡ true
    → IsListing range most index gap text start at words → elements_at range most (codes "") text start ≡ Ok (record { value = words; end = at })
closed range most index gap text start at words less next listing =
    sym listing.whole ∙ ap (behind_words words) (roomy range (most - index) gap text at (omega arith) ∙ ap (λ (b : Bool). if b then Ok (record { value = []; end = at })
    else element_at range gap text at >>= λ word. elements_at range (most - index - 1) (codes " ") text word.end >>= λ rest. Ok (record { value = word.value ∷ rest.value; end = rest.end })) next)
    ∙ ap (λ ws. Ok (record { value = ws; end = at })) (append-nil words)

-- what follows where no `]` is next
open_at : (range : Range) (most index : ℕ) (gap text : List ℕ) (start at : ℕ) (words : List ℕ) → index < most → starts_with nat_eq (drop at text) (codes "]") ≡ false
    → IsListing range most index gap text start at words
    → elements_at range most (codes "") text start ≡ behind_words words (element_at range gap text at >>= λ word. elements_at range (most - index - 1) (codes " ") text word.end >>= λ rest. Ok (record { value = word.value ∷ rest.value; end = rest.end }))
open_at range most index gap text start at words less next listing =
    sym listing.whole ∙ ap (behind_words words) (roomy range (most - index) gap text at (omega arith) ∙ ap (λ (b : Bool). if b then Ok (record { value = []; end = at })
    else element_at range gap text at >>= λ word. elements_at range (most - index - 1) (codes " ") text word.end >>= λ rest. Ok (record { value = word.value ∷ rest.value; end = rest.end })) next)

pub element_failed : (range : Range) (most index : ℕ) (gap text : List ℕ) (start at : ℕ) (words : List ℕ) (fault : DomainFault) → index < most → starts_with nat_eq (drop at text) (codes "]") ≡ false
    → FailsAt fault (element_at range gap text at) → IsListing range most index gap text start at words → FailsOr fault (elements_at range most (codes "") text start)
element_failed range most index gap text start at words faults.Memory less next fails listing = tt
element_failed range most index gap text start at words (faults.Bad place) less next fails listing =
    open_at range most index gap text start at words less next listing
    ∙ ap (λ (read : Result (Read ℕ) ℕ). behind_words words (read >>= λ word. elements_at range (most - index - 1) (codes " ") text word.end >>= λ rest. Ok (record { value = word.value ∷ rest.value; end = rest.end }))) fails

pub element_read : (range : Range) (most index : ℕ) (gap text : List ℕ) (start at end word : ℕ) (words more : List ℕ) → index < most → starts_with nat_eq (drop at text) (codes "]") ≡ false
    → element_at range gap text at ≡ Ok (record { value = word; end = end }) → more ≡ words ++ word ∷ [] → IsListing range most index gap text start at words
    → IsListing range most (index + 1) (codes " ") text start end more
element_read range most index gap text start at end word words more less next read pushed listing = record {
  whole =
      ap (λ ws. behind_words ws (elements_at range (most - (index + 1)) (codes " ") text end)) pushed
      ∙ ap (λ room. behind_words (words ++ word ∷ []) (elements_at range room (codes " ") text end)) room
      ∙ shift (elements_at range (most - index - 1) (codes " ") text end)
      ∙ sym (ap (λ (read : Result (Read ℕ) ℕ). behind_words words (read >>= λ word. elements_at range (most - index - 1) (codes " ") text word.end >>= λ rest. Ok (record { value = word.value ∷ rest.value; end = rest.end }))) read)
      ∙ sym (open_at range most index gap text start at words less next listing);
  few = let long : length more ≡ length words + 1 = ap length pushed ∙ length-append words (word ∷ []) in omega (arith, long, listing.few);
}
  where
    room : most - (index + 1) ≡ most - index - 1
    room = omega arith

    shift : (read : Result (Read (List ℕ)) ℕ) → behind_words (words ++ word ∷ []) read ≡ behind_words words (read >>= λ rest. Ok (record { value = word ∷ rest.value; end = rest.end }))
    shift (Ok read) = ap (λ ws. Ok (record { value = ws; end = read.end })) (append_assoc words (word ∷ []) read.value)
    shift (Err at) = refl

pub all_listed : (range : Range) (most index : ℕ) (gap text : List ℕ) (start at : ℕ) (words : List ℕ) → most ≤ index → IsListing range most index gap text start at words
    → elements_at range most (codes "") text start ≡ Ok (record { value = words; end = at })
unfolding elements_at
all_listed range most index gap text start at words all listing =
    let none : most - index ≡ 0 = omega arith in
    sym listing.whole ∙ ap (λ room. behind_words words (elements_at range room gap text at)) none ∙ ap (λ ws. Ok (record { value = ws; end = at })) (append-nil words)

-- GROUPS

-- what reading gives with these words before it
abbrev pub behind : List ℕ → Result (List ℕ) ℕ → Result (List ℕ) ℕ
behind words (Ok more) = Ok (words ++ more)
behind words (Err at) = Err at

-- the words so far and the reading of the rest are the whole reading
pub record IsReading (parts : List Part) (text : List ℕ) (start index at : ℕ) (words : List ℕ) : Type 0 where
  pub whole : behind words (args_at (drop index parts) text at) ≡ args_at parts text start

pub begun : (parts : List Part) (text : List ℕ) (start : ℕ) → IsReading parts text start 0 start []
begun parts text start = record { whole = nothing (args_at parts text start) }
  where
    nothing : (read : Result (List ℕ) ℕ) → behind [] read ≡ read
    nothing (Ok words) = refl
    nothing (Err at) = refl

one_more : (part : Part) (parts : List Part) (text : List ℕ) (at end : ℕ) (words given : List ℕ) → arg_at part text at ≡ Ok (record { value = given; end = end })
    → behind (words ++ given) (args_at parts text end) ≡ behind words (args_at (part ∷ parts) text at)
unfolding args_at
one_more part parts text at end words given group =
    more (args_at parts text end) ∙ sym (ap (λ (read : Result (Read (List ℕ)) ℕ). behind words (read >>= λ ws. args_at parts text ws.end >>= λ rest. Ok (ws.value ++ rest))) group)
  where
    more : (read : Result (List ℕ) ℕ) → behind (words ++ given) read ≡ behind words (read >>= λ rest. Ok (given ++ rest))
    more (Ok rest) = ap Ok (append_assoc words given rest)
    more (Err at) = refl

failed : (parts : List Part) (text : List ℕ) (start index at fault : ℕ) (words : List ℕ) (d : Part) → index < length parts
    → arg_at (get_or parts index d) text at ≡ Err fault → IsReading parts text start index at words → args_at parts text start ≡ Err fault
unfolding args_at
failed parts text start index at fault words d less group reading =
    sym reading.whole ∙ ap (λ rest. behind words (args_at rest text at)) (drop_more parts index d less) ∙ first (get_or parts index d) (drop (index + 1) parts) group
  where
    first : (part : Part) (rest : List Part) → arg_at part text at ≡ Err fault → behind words (args_at (part ∷ rest) text at) ≡ Err fault
    first part rest group = ap (λ (read : Result (Read (List ℕ)) ℕ). behind words (read >>= λ ws. args_at rest text ws.end >>= λ more. Ok (ws.value ++ more))) group

ended : (parts : List Part) (text : List ℕ) (start index at : ℕ) (words : List ℕ) → length parts ≤ index → IsReading parts text start index at words
    → args_at parts text start ≡ behind words (end_at text at >>= λ end. Ok [])
unfolding args_at
ended parts text start index at words all reading = sym reading.whole ∙ ap (λ rest. behind words (args_at rest text at)) (drop_all index parts all) ∙ last
  where
    last : behind words (args_at [] text at) ≡ behind words (end_at text at >>= λ end. Ok [])
    last = refl

-- a fault of the next group is the whole's
pub group_failed : (parts : List Part) (text read : List ℕ) (start index at : ℕ) (fault : DomainFault) (words : List ℕ) (d : Part) → index < length parts → read ≡ text
    → FailsOr fault (arg_at (get_or parts index d) read at) → IsReading parts text start index at words → FailsOr fault (args_at parts text start)
group_failed parts text read start index at faults.Memory words d less same fails reading = tt
group_failed parts text read start index at (faults.Bad place) words d less same fails reading =
    failed parts text start index at place words d less (ap (λ bs. arg_at (get_or parts index d) bs at) (sym same) ∙ fails) reading

-- and so is a text that goes on
pub end_failed : (parts : List Part) (text read : List ℕ) (start index at : ℕ) (fault : DomainFault) (words : List ℕ) → length parts ≤ index → read ≡ text
    → FailsAt fault (end_at read at) → IsReading parts text start index at words → FailsOr fault (args_at parts text start)
end_failed parts text read start index at faults.Memory words all same fails reading = tt
end_failed parts text read start index at (faults.Bad place) words all same fails reading =
    let end : end_at text at ≡ Err place = ap (λ bs. end_at bs at) (sym same) ∙ fails in
    ended parts text start index at words all reading ∙ ap (λ (read : Result ℕ ℕ). behind words (read >>= λ end. Ok [])) end

pub all_read : (parts : List Part) (text read : List ℕ) (start index at : ℕ) (words : List ℕ) → length parts ≤ index → read ≡ text
    → end_at read at ≡ Ok at → IsReading parts text start index at words → args_at parts text start ≡ Ok words
all_read parts text read start index at words all same end reading =
    let here : end_at text at ≡ Ok at = ap (λ bs. end_at bs at) (sym same) ∙ end in
    ended parts text start index at words all reading ∙ ap (λ (read : Result ℕ ℕ). behind words (read >>= λ end. Ok [])) here ∙ ap Ok (append-nil words)

pub one_on : (parts : List Part) (text read : List ℕ) (start index at end : ℕ) (words more given : List ℕ) (d : Part) → index < length parts → read ≡ text → more ≡ words ++ given
    → arg_at (get_or parts index d) read at ≡ Ok (record { value = given; end = end }) → IsReading parts text start index at words → IsReading parts text start (index + 1) end more
one_on parts text read start index at end words more given d less same pushed group reading =
    let here : arg_at (get_or parts index d) text at ≡ Ok (record { value = given; end = end }) = ap (λ bs. arg_at (get_or parts index d) bs at) (sym same) ∙ group in
    record {
      whole =
          ap (λ ws. behind ws (args_at (drop (index + 1) parts) text end)) pushed
          ∙ one_more (get_or parts index d) (drop (index + 1) parts) text at end words given here
          ∙ ap (λ rest. behind words (args_at rest text at)) (sym (drop_more parts index d less))
          ∙ reading.whole;
    }

pub without_parts : (parts : List Part) (text : List ℕ) → length parts ≡ 0 → args_of parts text ≡ empty_args text
unfolding args_of
without_parts [] text none = refl
without_parts (part ∷ parts) text none = absurd (omega arith)

pub with_parts : (parts : List Part) (text : List ℕ) → 0 < length parts → args_of parts text ≡ args_at parts text 0
unfolding args_of
with_parts [] text some = absurd (omega arith)
with_parts (part ∷ parts) text some = refl
