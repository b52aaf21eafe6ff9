-- A run, one step at a time.
use Rattle.std.proofs.Common.{◌≡◌, ℕ, zero, suc, ◌+◌, ◌-◌, ◌<◌, ◌≤◌, List, [], ◌∷◌, ◌++◌, length, map, true, Some, IsSome, refl, sym, ap, ◌∙◌, subst, append_assoc, append-nil, arith, length-append}
use Rattle.std.specs.List.{slice_get}
use Rattle.px_cells.specs.Algebra.{Algebra, Laws}
use Rattle.px_cells.specs.Plain.{plain, plain_algebra}
use Rattle.px_program.specs.declared.instr.Arithmetic.{Arithmetic}
use Rattle.px_program.specs.declared.instr.Arithmetic.TheVariants as arithmetic
use Rattle.px_program.specs.declared.instr.Code.{Code}
use Rattle.px_program.specs.declared.instr.Code.TheVariants as codes
use Rattle.px_program.specs.declared.instr.Instr.{Instr}
use Rattle.px_program.specs.declared.instr.Move.{Move}
use Rattle.px_program.specs.declared.instr.Move.TheVariants as moves
use Rattle.px_program.specs.declared.program.Method.{Method}
use Rattle.px_program.specs.declared.record.End.{End}
use Rattle.px_program.specs.declared.record.End.TheVariants as ends
use Rattle.px_program.specs.Formed.{all_params, instr_at}
use Rattle.px_simple.specs.Simple.{is_sum}
use Rattle.px_simple.specs.Typing.{Fits, HasValue, IsTyped}
use Rattle.px_interp.specs.declared.machine.Seen.{Seen}
use Rattle.px_interp.specs.Rows.{HasScalar, Needs}
use Rattle.px_interp.specs.Run.{course_by, no_pool}
use Rattle.px_interp.specs.Table.{Outcome, State, Step, Goes, Chooses, Ends, behind, first, operator_of, row, row_at, run}
use Rattle.px_interp.specs.Words.{AreArguments}
use Rattle.px_interp.proofs.AsWords.{course, run_as_words}
use Rattle.px_interp.proofs.Steps.{Ready, ReadyAfter, int32_argument, row_ready}
use Rattle.px_interp.proofs.Typed.{typed_names}

-- what was seen before, and then the rest of the run
abbrev with_seen : {P W : Type 0} → List (Seen W) → Outcome P W → Outcome P W
with_seen es o = record { seen = es ++ o.seen; end = o.end; pool = o.pool }

-- After k of n steps: the state is ready, what was seen and the rest of the run are the whole run, and there is at most one event a step.
pub record Kept {P W : Type 0} (IsSound : P → Type 0) (StandsIn : P → ℕ → W → Type 0) (a : Algebra P W) (method : Method) (number : ℕ) (args : List W) (n : ℕ) (p : P) (k : ℕ) (es : List (Seen W)) (s : State P W) : Type 0 where
  pub ready : Ready IsSound StandsIn method args s
  pub rest : with_seen es (run a (n - k) method number args s) ≡ run a n method number args (first p)
  pub short : length es ≤ k

-- what a run came to: its events, its end and the last pool, and what its words tell
pub record Came {P W : Type 0} (a : Algebra P W) (method : Method) (number : ℕ) (args : List W) (n : ℕ) (p : P) (es : List (Seen W)) (end : End) (q : P) : Type 0 where
  pub seen : es ≡ (run a n method number args (first p)).seen
  pub ended : (run a n method number args (first p)).end ≡ Some end
  pub pool : q ≡ (run a n method number args (first p)).pool
  pub words : course es (Some end) ≡ course_by (run plain_algebra n method number (map (λ x. plain (a.word x)) args) (first no_pool))

inside : {X : Type 0} (xs : List X) (i : ℕ) (x : X) → slice_get xs i ≡ Some x → i < length xs
inside [] i x h = cc
inside (y ∷ xs) zero x h = omega arith
inside (y ∷ xs) (suc i) x h = omega (arith, inside xs i x h)

has_scalar : {X : Type 0} (P : ℕ → X → Type 0) (method : Method) (args : List X) (move : Move) → AreArguments P (all_params method) args → HasValue method move → HasScalar (length args) move
has_scalar P method args (moves.Argument n) ar h = let e = int32_argument P (all_params method) args n h ar in inside args n e.0 e.1
has_scalar P method args (moves.Constant32 pattern) ar h = h
has_scalar P method args _ ar h = absurd h

-- a sum has an operator
sum_operator : (operation : Arithmetic) → is_sum operation ≡ true → IsSome (operator_of operation)
sum_operator arithmetic.Add h = refl
sum_operator arithmetic.Sub h = refl
sum_operator _ h = cc

-- an instruction that fits finds what it needs
fits_needs : {X : Type 0} (P : ℕ → X → Type 0) (method : Method) (args : List X) (next depth : ℕ) (code : Code) → AreArguments P (all_params method) args → Fits method next depth code → Needs (length args) depth code
fits_needs P method args next depth (codes.Nop is_break) ar f = tt
fits_needs P method args next depth (codes.Move move) ar f = has_scalar P method args move ar f.0
fits_needs P method args next depth (codes.Arithmetic operation) ar f = (sum_operator operation f.0, f.1)
fits_needs P method args next depth (codes.Branch target) ar f = tt
fits_needs P method args next depth (codes.BranchTruth when target) ar f = f.0
fits_needs P method args next depth (codes.BranchCompare test signed target) ar f = f.0
fits_needs P method args next depth codes.Return ar f = f
fits_needs P method args next depth _ ar f = absurd f

module _ {P W : Type 0} {IsSound : P → Type 0} {StandsIn : P → ℕ → W → Type 0} {a : Algebra P W} (laws : Laws IsSound StandsIn a) (method : Method) (typed : IsTyped method) (number : ℕ) (args : List W) (n : ℕ) (p : P) (standing : AreArguments (StandsIn p) (all_params method) args) where
  came : (es : List (Seen W)) (end : End) (q : P) → with_seen es (record { seen = []; end = Some end; pool = q }) ≡ run a n method number args (first p) → Came a method number args n p es end q
  came es end q whole =
      let seen : es ≡ (run a n method number args (first p)).seen = sym (append-nil es) ∙ ap (λ o. o.seen) whole in
      let ended : Some end ≡ (run a n method number args (first p)).end = ap (λ o. o.end) whole in
      record {
        seen = seen;
        ended = sym ended;
        pool = ap (λ o. o.pool) whole;
        words = ap (λ es. course es (Some end)) seen ∙ ap (course _) ended ∙ run_as_words a laws method (typed_names method typed) number n args p standing;
      }

  module _ (k : ℕ) (es : List (Seen W)) (s : State P W) (kept : Kept IsSound StandsIn a method number args n p k es s) where
    -- when the steps are used up
    pub kept_bound : n ≤ k → Came a method number args n p es ends.StepBound s.pool
    unfolding run
    kept_bound all =
        let none : 0 ≡ n - k = omega arith in
        came es ends.StepBound s.pool (ap (λ j. with_seen es (run a j method number args s)) none ∙ kept.rest)

    module _ (below : k < n) (i : Instr) (found : instr_at method.code s.at ≡ Some i) where
      fits : Fits method i.next (length s.stack) i.code
      fits = typed.each s.at (length s.stack) i kept.ready.depth found

      pub needed : Needs (length args) (length s.stack) i.code
      needed = fits_needs (StandsIn s.pool) method args i.next (length s.stack) i.code kept.ready.arguments fits

      stepped : (t : Step P W) → t ≡ row a i.code number i.offset i.next args s.stack s.pool → with_seen es (behind a t (run a (n - (k + 1)) method number args)) ≡ run a n method number args (first p)
      unfolding run
      stepped t is =
          let one : n - k ≡ suc (n - (k + 1)) = omega arith in
          let this : t ≡ row_at a (instr_at method.code s.at) number args s = is ∙ sym (ap (λ o. row_at a o number args s) found) in
          ap (λ t. with_seen es (behind a t (run a (n - (k + 1)) method number args))) this ∙ ap (λ j. with_seen es (run a j method number args s)) (sym one) ∙ kept.rest

      ready_after : (t : Step P W) → t ≡ row a i.code number i.offset i.next args s.stack s.pool → ReadyAfter laws method args t
      ready_after t is =
          subst (ReadyAfter laws method args) (sym is) (row_ready laws method args i.code number i.offset i.next s.stack s.pool fits kept.ready.pool kept.ready.stack kept.ready.arguments)

      pub kept_on : (t : State P W) → Goes t ≡ row a i.code number i.offset i.next args s.stack s.pool → Kept IsSound StandsIn a method number args n p (k + 1) es t
      kept_on t is = record { ready = ready_after (Goes t) is; rest = stepped (Goes t) is; short = omega (arith, kept.short) }

      pub kept_event : (e : Seen W) (t : State P W) → Chooses e t ≡ row a i.code number i.offset i.next args s.stack s.pool → Kept IsSound StandsIn a method number args n p (k + 1) (es ++ e ∷ []) t
      kept_event e t is =
          let r : Outcome P W = run a (n - (k + 1)) method number args t in
          record {
            ready = ready_after (Chooses e t) is;
            rest = ap (λ seen. record { seen = seen; end = r.end; pool = r.pool }) (append_assoc es (e ∷ []) r.seen) ∙ stepped (Chooses e t) is;
            short = omega (arith, kept.short, length-append es (e ∷ []));
          }

      pub kept_end : (end : End) (q : P) → Ends end q ≡ row a i.code number i.offset i.next args s.stack s.pool → Came a method number args n p es end q
      kept_end end q is = came es end q (stepped (Ends end q) is)
