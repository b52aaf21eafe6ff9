-- The plain run of a program on words of its domain; and paths part only at sites.
use Rattle.std.proofs.Common.{◌≡◌, ℕ, zero, suc, Bool, true, false, if◌then◌else◌, List, [], ◌∷◌, map, lit<, take, Option, Some, None, IsSome, refl, ap, sym, ◌∙◌, subst}
use Rattle.std.specs.List.{slice_get}
use Rattle.px_cells.specs.declared.plain.NoPool.{NoPool}
use Rattle.px_cells.specs.declared.plain.Plain.{Plain}
use Rattle.px_cells.specs.Plain.{LiesIn, plain, plain_algebra, plain_laws}
use Rattle.px_domain.specs.declared.domain.Part.{Part}
use Rattle.px_domain.specs.declared.range.Range.{Range}
use Rattle.px_domain.specs.Domain.{AreIn, InDomain, places_of, ranges_of}
use Rattle.px_domain.specs.Place.{word_bits}
use Rattle.px_program.specs.declared.program.Method.{Method}
use Rattle.px_program.specs.declared.program.Place.{Place}
use Rattle.px_program.specs.declared.program.Place.TheVariants as places
use Rattle.px_program.specs.declared.program.Program.{Program}
use Rattle.px_program.specs.declared.record.Bounds.{Bounds}
use Rattle.px_program.specs.declared.record.End.{End}
use Rattle.px_program.specs.Arguments.{arguments_of, params_in}
use Rattle.px_program.specs.Formed.{all_params, entry_of}
use Rattle.px_simple.specs.Typing.{IsTyped}
use Rattle.px_interp.specs.declared.machine.Seen.{Seen}
use Rattle.px_interp.specs.Run.{course_by, course_in, course_of, no_pool, seen_events, seen_gaps, with_receiver}
use Rattle.px_interp.specs.Shape.{SameEnds, SameNext, SameShape}
use Rattle.px_interp.specs.Table.{first, run}
use Rattle.px_interp.specs.Words.{AreArguments}
use Rattle.px_interp.proofs.Related.{AlikeEnds, Follows, Law, PairsAt, runs_alike}
use Rattle.px_interp.proofs.Steps.{run_ends}
use Rattle.px_interp.proofs.Typed.{typed_names}

-- words of ranges are arguments for their places
words_lie : (ranges : List Range) (words : List ℕ) → AreIn ranges words → AreArguments (LiesIn no_pool) (map (λ (r : Range). r.place) ranges) (map plain words)
words_lie [] [] h = tt
words_lie (range ∷ ranges) (word ∷ words) h = (h.0.0, words_lie ranges words h.1)
words_lie [] (word ∷ words) h = absurd h
words_lie (range ∷ ranges) [] h = absurd h

-- words of a domain are arguments for its places
pub words_stand : (parts : List Part) (words : List ℕ) → InDomain parts words → AreArguments (LiesIn no_pool) (places_of parts) (map plain words)
words_stand parts words h = words_lie (ranges_of parts) words h

-- nothing is asked of two scalars
abbrev AnyScalars : NoPool → ℕ → Plain → Plain → Type 0
AnyScalars p bits x y = Unit {0}

abbrev AnyPools : NoPool → NoPool → Type 0
AnyPools p q = Unit {0}

abbrev AnyNumbers : ℕ → ℕ → Type 0
AnyNumbers m n = Unit {0}

any_law : Law plain_algebra plain_algebra AnyPools AnyScalars AnyNumbers AnyNumbers
any_law = record {
  applied = λ p q o xs ys is po h. (tt, tt);
  stays = λ p o xs bits x y h. tt;
  number = λ p bits x y h. tt;
  gap = λ p compare x x' y y' h h'. tt;
}

arguments_pair : (p q : NoPool) (params : List Place) (xs ys : List Plain) → AreArguments (LiesIn p) params xs → AreArguments (LiesIn q) params ys → PairsAt (AnyScalars p) (map word_bits params) xs ys
arguments_pair p q [] [] [] h k = tt
arguments_pair p q (place ∷ params) (x ∷ xs) (y ∷ ys) h k = (tt, arguments_pair p q params xs ys h.1 k.1)
arguments_pair p q [] (x ∷ xs) ys h k = absurd h
arguments_pair p q [] xs (y ∷ ys) h k = absurd k
arguments_pair p q (place ∷ params) [] ys h k = absurd h
arguments_pair p q (place ∷ params) xs [] h k = absurd k

ends_alike : (x y : Option End) → IsSome x → AlikeEnds AnyNumbers x y → SameEnds x y
ends_alike (Some x) (Some y) some h = h.0
ends_alike None y some h = cc
ends_alike (Some x) None some h = absurd h

next_same : (p q : NoPool) (x y : Option End) (es fs : List (Seen Plain)) (k : ℕ) → IsSome x → Follows plain_algebra plain_algebra AnyPools AnyScalars AnyNumbers AnyNumbers p q x y es fs
    → take k (seen_events es) ≡ take k (seen_events fs) → SameNext (slice_get (seen_events es) k) (slice_get (seen_events fs) k) x y
next_same p q x y [] [] k some h e = ends_alike x y some h.1
next_same p q x y (s ∷ es) (t ∷ fs) zero some h e = h.0.site
next_same p q x y (s ∷ es) (t ∷ fs) (suc k) some h e =
    let side : s.event.side ≡ t.event.side = cc in
    next_same p q x y es fs k some (h.1 side) cc
next_same p q x y [] (t ∷ fs) k some h e = absurd h
next_same p q x y (s ∷ es) [] k some h e = absurd h

shape_of : (method : Method) (number n : ℕ) (v w : List ℕ) (k : ℕ) → IsTyped method → AreArguments (LiesIn no_pool) (all_params method) (map plain (with_receiver method v)) → AreArguments (LiesIn no_pool) (all_params method) (map plain (with_receiver method w))
    → take k (course_in (Some method) number n v).events ≡ take k (course_in (Some method) number n w).events
    → SameNext (slice_get (course_in (Some method) number n v).events k) (slice_get (course_in (Some method) number n w).events k) (course_in (Some method) number n v).end (course_in (Some method) number n w).end
shape_of method number n v w k typed hv hw e =
    let r = run plain_algebra n method number (map plain (with_receiver method v)) (first no_pool) in
    let t = run plain_algebra n method number (map plain (with_receiver method w)) (first no_pool) in
    next_same r.pool t.pool r.end t.end r.seen t.seen k
    (run_ends plain_laws method (map plain (with_receiver method v)) typed number n (first no_pool) (record { pool = tt; stack = tt; arguments = hv; depth = typed.start }))
    (runs_alike plain_algebra plain_algebra AnyPools AnyScalars AnyNumbers AnyNumbers any_law method _ _ (typed_names method typed) number n (first no_pool) (first no_pool)
    (record { at = refl; pool = tt; stack = tt; arguments = arguments_pair no_pool no_pool (all_params method) _ _ hv hw }))
    e

-- with the word 0 for the receiver of an instance method
received : (static : Bool) (owner : ℕ) (params : List Place) (words : List ℕ) → AreArguments (LiesIn no_pool) params (map plain words)
    → AreArguments (LiesIn no_pool) (if static then params else places.Ref owner ∷ params) (map plain (if static then words else 0 ∷ words))
received true owner params words h = h
received false owner params words h = (lit< tt, h)

-- the words of a domain are arguments of the program's entry
pub entry_words : (program : Program) (domain : List Part) (method : Method) (words : List ℕ) → entry_of program ≡ Some method → places_of domain ≡ arguments_of program → InDomain domain words
    → AreArguments (LiesIn no_pool) (all_params method) (map plain (with_receiver method words))
entry_words program domain method words entry places h =
    let F : List Place → Type 0 = λ params. AreArguments (LiesIn no_pool) params (map plain words) in
    let same : places_of domain ≡ method.params = places ∙ ap params_in entry in
    received method.is_static method.owner method.params words (subst F same (words_stand domain words h))

pub same_shapes : (program : Program) (domain : List Part) (method : Method) (bounds : Bounds) → entry_of program ≡ Some method → IsTyped method → places_of domain ≡ arguments_of program → SameShape program domain bounds
same_shapes program domain method bounds entry typed places v w k hv hw =
    let F : Option Method → Type 0 = λ m. take k (course_in m program.entry bounds.steps v).events ≡ take k (course_in m program.entry bounds.steps w).events
    → SameNext (slice_get (course_in m program.entry bounds.steps v).events k) (slice_get (course_in m program.entry bounds.steps w).events k) (course_in m program.entry bounds.steps v).end (course_in m program.entry bounds.steps w).end in
    subst F (sym entry) (shape_of method program.entry bounds.steps v w k typed (entry_words program domain method v entry places hv) (entry_words program domain method w entry places hw))

-- what a run came to is the run of its words
pub run_is : (program : Program) (domain : List Part) (bounds : Bounds) (method : Method) (words : List ℕ) (args : List Plain) (seen : List (Seen Plain)) (end : End) → entry_of program ≡ Some method → args ≡ map plain (with_receiver method words)
    → seen ≡ (run plain_algebra bounds.steps method program.entry args (first no_pool)).seen → (run plain_algebra bounds.steps method program.entry args (first no_pool)).end ≡ Some end
    → course_of program domain bounds words ≡ record { events = seen_events seen; gaps = seen_gaps seen; end = Some end }
run_is program domain bounds method words args seen end entry same seen_is end_is =
    ap (λ m. course_in m program.entry bounds.steps words) entry
    ∙ ap (λ xs. course_by (run plain_algebra bounds.steps method program.entry xs (first no_pool))) (sym same)
    ∙ rw (seen_is, ← end_is) refl
