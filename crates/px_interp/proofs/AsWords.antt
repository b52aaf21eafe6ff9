-- Seen by its words, a run over any scalars is the plain run.
use Rattle.std.proofs.Common.{◌≡◌, ℕ, List, [], ◌∷◌, map, Option, Some, None, refl, ap, sym, ◌∙◌}
use Rattle.px_words.specs.Word.{word_of}
use Rattle.px_cells.specs.Algebra.{Algebra, Laws}
use Rattle.px_cells.specs.Plain.{plain, plain_algebra, plain_word}
use Rattle.px_cells.specs.declared.plain.NoPool.{NoPool}
use Rattle.px_cells.specs.declared.plain.Plain.{Plain}
use Rattle.px_program.specs.declared.instr.Instr.{Instr}
use Rattle.px_program.specs.declared.program.Method.{Method}
use Rattle.px_program.specs.declared.program.Place.{Place}
use Rattle.px_program.specs.declared.record.End.{End}
use Rattle.px_program.specs.declared.record.End.TheVariants as ends
use Rattle.px_program.specs.declared.record.Site.{Site}
use Rattle.px_program.specs.declared.record.Value.{Value}
use Rattle.px_program.specs.declared.record.Value.TheVariants as values
use Rattle.px_program.specs.Formed.{all_params, instr_at}
use Rattle.px_domain.specs.Place.{word_bits}
use Rattle.px_interp.specs.declared.machine.Seen.{Seen}
use Rattle.px_interp.specs.Run.{Course, course_by, no_pool, seen_events, seen_gaps}
use Rattle.px_interp.specs.Shape.{SameValueKind}
use Rattle.px_interp.specs.Table.{first, run}
use Rattle.px_interp.specs.Words.{AreArguments}
use Rattle.px_interp.proofs.Related.{AlikeEnds, Follows, Law, NamesValue, PairsAt, ReturnedNumbers, runs_alike}

abbrev IsSame : ℕ → ℕ → Type 0
IsSame m n = m ≡ n

values_same : (x y : Value) → SameValueKind x y → ReturnedNumbers IsSame (ends.Returned x) (ends.Returned y) → x ≡ y
values_same values.Nothing values.Nothing h n = refl
values_same (values.Number m) (values.Number n) h e = ap values.Number e
values_same values.Null values.Null h n = refl
values_same values.Object values.Object h n = refl
values_same _ _ h n = absurd h

ends_same : (x y : Option End) → AlikeEnds IsSame x y → x ≡ y
ends_same None None h = refl
ends_same (Some (ends.Returned x)) (Some (ends.Returned y)) h = ap (λ v. Some (ends.Returned v)) (values_same x y h.0 h.1)
ends_same (Some (ends.Threw class)) (Some (ends.Threw class')) h = ap (λ c. Some (ends.Threw c)) h.0
ends_same (Some ends.AssertFailed) (Some ends.AssertFailed) h = refl
ends_same (Some ends.Assumed) (Some ends.Assumed) h = refl
ends_same (Some ends.StepBound) (Some ends.StepBound) h = refl
ends_same (Some ends.DepthBound) (Some ends.DepthBound) h = refl
ends_same (Some ends.HeapBound) (Some ends.HeapBound) h = refl
ends_same (Some (ends.Outside m o)) (Some (ends.Outside m' o')) h = rw (h.0.0, h.0.1) refl
ends_same (Some _) (Some _) h = absurd h.0
ends_same _ _ h = absurd h

-- what is seen of a run
abbrev pub course : {W : Type 0} → List (Seen W) → Option End → Course
course seen end = record { events = seen_events seen; gaps = seen_gaps seen; end = end }

behind_one : {V W : Type 0} (e : Seen V) (f : Seen W) (es : List (Seen V)) (fs : List (Seen W)) (x y : Option End) → e.event.site ≡ f.event.site → e.event.side ≡ f.event.side → e.gap ≡ f.gap → course es x ≡ course fs y
    → course (e ∷ es) x ≡ course (f ∷ fs) y
behind_one e f es fs x y site side gap rest =
    let F : Site → ℕ → ℕ → Course → Course = λ site side gap c. record { events = (record { site = site; side = side }) ∷ c.events; gaps = gap ∷ c.gaps; end = c.end } in
    ap (λ s. F s e.event.side e.gap (course es x)) site ∙ ap (λ k. F f.event.site k e.gap (course es x)) side ∙ ap (λ k. F f.event.site f.event.side k (course es x)) gap ∙ ap (F f.event.site f.event.side f.gap) rest

module _ {P W : Type 0} {IsSound : P → Type 0} {StandsIn : P → ℕ → W → Type 0} (a : Algebra P W) (laws : Laws IsSound StandsIn a) where
  -- a scalar beside its word
  abbrev WordIs : P → ℕ → W → Plain → Type 0
  WordIs p bits x y = a.word x ≡ y.word

  abbrev AnyPools : P → NoPool → Type 0
  AnyPools p q = Unit {0}

  words_same : (p : P) (widths : List ℕ) (xs : List W) (ys : List Plain) → PairsAt (WordIs p) widths xs ys → map a.word xs ≡ map plain_word ys
  words_same p [] [] [] h = refl
  words_same p (bits ∷ widths) (x ∷ xs) (y ∷ ys) h = let t = words_same p widths xs ys h.1 in rw (h.0, t) refl
  words_same p _ _ _ h = absurd h

  word_law : Law a plain_algebra AnyPools WordIs IsSame IsSame
  word_law = record {
    applied = λ p q o xs ys is po h. (tt, laws.word_applied p o xs is ∙ ap (word_of o) (words_same p _ xs ys h));
    stays = λ p o xs bits x y h. h;
    number = λ p bits x y h. h;
    gap = λ p compare x x' y y' h h'. rw (h, h') refl;
  }

  follows_same : (p : P) (q : NoPool) (x y : Option End) (es : List (Seen W)) (fs : List (Seen Plain)) → Follows a plain_algebra AnyPools WordIs IsSame IsSame p q x y es fs → course es x ≡ course fs y
  follows_same p q x y [] [] h = ap (course {W = W} []) (ends_same x y h.1)
  follows_same p q x y (e ∷ es) (f ∷ fs) h =
      let side : e.event.side ≡ f.event.side = h.0.word ∙ h.0.side ∙ sym h.0.word' in
      behind_one e f es fs x y h.0.site side h.0.gap (follows_same p q x y es fs (h.1 side))
  follows_same p q x y _ _ h = absurd h

  arguments_same : (p : P) (params : List Place) (args : List W) → AreArguments (StandsIn p) params args → PairsAt (WordIs p) (map word_bits params) args (map (λ x. plain (a.word x)) args)
  arguments_same p [] [] h = tt
  arguments_same p (place ∷ params) (x ∷ args) h = (refl, arguments_same p params args h.1)
  arguments_same p [] (x ∷ args) h = absurd h
  arguments_same p (place ∷ params) [] h = absurd h

  pub run_as_words : (method : Method) → ((at : ℕ) (i : Instr) → instr_at method.code at ≡ Some i → NamesValue method i.code) → (number n : ℕ) (args : List W) (p : P) → AreArguments (StandsIn p) (all_params method) args
      → course (run a n method number args (first p)).seen (run a n method number args (first p)).end ≡ course_by (run plain_algebra n method number (map (λ x. plain (a.word x)) args) (first no_pool))
  run_as_words method known number n args p standing =
      let r = run a n method number args (first p) in
      let t = run plain_algebra n method number (map (λ x. plain (a.word x)) args) (first no_pool) in
      follows_same r.pool t.pool r.end t.end r.seen t.seen
      (runs_alike a plain_algebra AnyPools WordIs IsSame IsSame word_law method args _ known number n (first p) (first no_pool)
      (record { at = refl; pool = tt; stack = tt; arguments = arguments_same p (all_params method) args standing }))
