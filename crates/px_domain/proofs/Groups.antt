-- Groups, one after another: the parts read so far and the reading of the rest.
use Rattle.std.proofs.Common.{◌≡◌, ℕ, zero, suc, ◌+◌, ◌<◌, ◌≤◌, List, [], ◌∷◌, ◌++◌, refl, sym, ap, ◌∙◌, subst, arith, drop, length, get_or, Result, Ok, Err, append_assoc, append-nil}
use Rattle.std.specs.List.{AllByRecursion}
use Rattle.std.proofs.lemmas.List.{drop_more, drop_all}
use Rattle.px_domain.specs.declared.domain.Part.{Part}
use Rattle.px_domain.specs.declared.given.Given.{Given}
use Rattle.px_domain.specs.declared.fault.DomainFault.{DomainFault}
use Rattle.px_domain.specs.declared.fault.DomainFault.TheVariants as faults
use Rattle.px_domain.specs.Domain.{AreParts, word_count}
use Rattle.px_domain.specs.Givens.{IsGiven}
use Rattle.px_domain.specs.Grammar.{Fails, domain_of, empty_domain, end_at, groups_at, part_at}
use Rattle.px_reading.specs.Reading.{◌>>=◌}
use Rattle.px_domain.specs.Reading.{FailsAt}
use Rattle.px_domain.proofs.Ranges.{groups_are, part_is}

-- what reading gives with these parts before it
abbrev pub behind : List Part → Result (List Part) ℕ → Result (List Part) ℕ
behind parts (Ok more) = Ok (parts ++ more)
behind parts (Err at) = Err at

-- what was read so far and the reading of the rest are the whole reading
pub record IsReading (params : List Given) (text : List ℕ) (start index words at : ℕ) (parts : List Part) : Type 0 where
  pub whole : behind parts (groups_at (drop index params) words text at) ≡ groups_at params 0 text start

pub begun : (params : List Given) (text : List ℕ) (start : ℕ) → IsReading params text start 0 0 start []
begun params text start = record { whole = nothing (groups_at params 0 text start) }
  where
    nothing : (read : Result (List Part) ℕ) → behind [] read ≡ read
    nothing (Ok parts) = refl
    nothing (Err at) = refl

one_more : (given : Given) (params : List Given) (words : ℕ) (text : List ℕ) (at end : ℕ) (parts : List Part) (part : Part) → part_at given words text at ≡ Ok (record { value = part; end = end })
    → behind (parts ++ part ∷ []) (groups_at params (words + word_count part) text end) ≡ behind parts (groups_at (given ∷ params) words text at)
unfolding groups_at
one_more given params words text at end parts part group = rw group (more (groups_at params (words + word_count part) text end))
  where
    more : (read : Result (List Part) ℕ) → behind (parts ++ part ∷ []) read ≡ behind parts (read >>= λ rest. Ok (part ∷ rest))
    more (Ok rest) = ap Ok (append_assoc parts (part ∷ []) rest)
    more (Err at) = refl

went_on : (params : List Given) (text : List ℕ) (start index words at end : ℕ) (parts : List Part) (part : Part) (d : Given) → index < length params
    → part_at (get_or params index d) words text at ≡ Ok (record { value = part; end = end }) → IsReading params text start index words at parts
    → IsReading params text start (index + 1) (words + word_count part) end (parts ++ part ∷ [])
went_on params text start index words at end parts part d less group reading = record {
  whole = one_more (get_or params index d) (drop (index + 1) params) words text at end parts part group ∙ ap (λ rest. behind parts (groups_at rest words text at)) (sym (drop_more params index d less)) ∙ reading.whole;
}

failed : (params : List Given) (text : List ℕ) (start index words at fault : ℕ) (parts : List Part) (d : Given) → index < length params
    → part_at (get_or params index d) words text at ≡ Err fault → IsReading params text start index words at parts → groups_at params 0 text start ≡ Err fault
unfolding groups_at
failed params text start index words at fault parts d less group reading =
    sym reading.whole ∙ ap (λ rest. behind parts (groups_at rest words text at)) (drop_more params index d less) ∙ first (get_or params index d) (drop (index + 1) params) group
  where
    first : (given : Given) (rest : List Given) → part_at given words text at ≡ Err fault → behind parts (groups_at (given ∷ rest) words text at) ≡ Err fault
    first given rest group = rw group

ended : (params : List Given) (text : List ℕ) (start index words at : ℕ) (parts : List Part) → length params ≤ index → IsReading params text start index words at parts
    → groups_at params 0 text start ≡ behind parts (end_at text at >>= λ end. Ok [])
unfolding groups_at
ended params text start index words at parts all reading = sym reading.whole ∙ ap (λ rest. behind parts (groups_at rest words text at)) (drop_all index params all) ∙ last
  where
    last : behind parts (groups_at [] words text at) ≡ behind parts (end_at text at >>= λ end. Ok [])
    last = refl

-- a fault of the next group is the whole's
pub group_failed : (params : List Given) (text read : List ℕ) (start index words at : ℕ) (fault : DomainFault) (parts : List Part) (d : Given) → index < length params → read ≡ text
    → FailsAt fault (part_at (get_or params index d) words read at) → IsReading params text start index words at parts → Fails fault (groups_at params 0 text start)
group_failed params text read start index words at faults.Memory parts d less same fails reading = tt
group_failed params text read start index words at (faults.Bad place) parts d less same fails reading =
    failed params text start index words at place parts d less (ap (λ bs. part_at (get_or params index d) words bs at) (sym same) ∙ fails) reading

-- and so is a text that goes on
pub end_failed : (params : List Given) (text read : List ℕ) (start index words at : ℕ) (fault : DomainFault) (parts : List Part) → length params ≤ index → read ≡ text
    → FailsAt fault (end_at read at) → IsReading params text start index words at parts → Fails fault (groups_at params 0 text start)
end_failed params text read start index words at faults.Memory parts all same fails reading = tt
end_failed params text read start index words at (faults.Bad place) parts all same fails reading =
    let end : end_at text at ≡ Err place = ap (λ bs. end_at bs at) (sym same) ∙ fails in
    ended params text start index words at parts all reading ∙ ap (λ read. behind parts (read >>= λ end. Ok [])) end

pub all_read : (params : List Given) (text read : List ℕ) (start index words at : ℕ) (parts : List Part) → length params ≤ index → read ≡ text
    → end_at read at ≡ Ok at → IsReading params text start index words at parts → groups_at params 0 text start ≡ Ok parts
all_read params text read start index words at parts all same end reading =
    let here : end_at text at ≡ Ok at = ap (λ bs. end_at bs at) (sym same) ∙ end in
    ended params text start index words at parts all reading ∙ ap (λ read. behind parts (read >>= λ end. Ok [])) here ∙ ap Ok (append-nil parts)

pub one_on : (params : List Given) (text read : List ℕ) (start index words sum at end : ℕ) (parts more : List Part) (part : Part) (d : Given) → index < length params → read ≡ text → more ≡ parts ++ part ∷ []
    → sum ≡ words + word_count part → part_at (get_or params index d) words read at ≡ Ok (record { value = part; end = end }) → IsReading params text start index words at parts
    → IsReading params text start (index + 1) sum end more
one_on params text read start index words sum at end parts more part d less same pushed counted group reading =
    subst (λ ps. IsReading params text start (index + 1) sum end ps) (sym pushed)
    (subst (λ n. IsReading params text start (index + 1) n end (parts ++ part ∷ [])) (sym counted)
    (went_on params text start index words at end parts part d less (ap (λ bs. part_at (get_or params index d) words bs at) (sym same) ∙ group) reading))

-- the words of a group that was read are within those of a domain
pub words_within : (params : List Given) (read : List ℕ) (index words at end : ℕ) (part : Part) (d : Given) → index < length params → AllByRecursion IsGiven params
    → part_at (get_or params index d) words read at ≡ Ok (record { value = part; end = end }) → words + word_count part ≤ 256
words_within params read index words at end part d less are group = (part_is (get_or params index d) words read at (record { value = part; end = end }) (given_at params index d less are) group).2
  where
    given_at : (params : List Given) (index : ℕ) (d : Given) → index < length params → AllByRecursion IsGiven params → IsGiven (get_or params index d)
    given_at [] index d less are = absurd (omega arith)
    given_at (given ∷ params) zero d less are = are.0
    given_at (given ∷ params) (suc index) d less are = given_at params index d (omega arith) are.1

pub parts_of_groups : (params : List Given) (text : List ℕ) (at : ℕ) (parts : List Part) → AllByRecursion IsGiven params → groups_at params 0 text at ≡ Ok parts → AreParts parts
parts_of_groups params text at parts are read =
    let all = groups_are params 0 text at parts (omega arith) are read in
    record { each = all.each; few = subst (λ n. n ≤ 256) (omega arith) all.few }

pub without_params : (params : List Given) (text : List ℕ) → length params ≡ 0 → domain_of params text ≡ empty_domain text
unfolding domain_of
without_params [] text none = refl
without_params (given ∷ params) text none = absurd (omega arith)

pub with_params : (params : List Given) (text : List ℕ) → 0 < length params → domain_of params text ≡ groups_at params 0 text 0
unfolding domain_of
with_params [] text some = absurd (omega arith)
with_params (given ∷ params) text some = refl
