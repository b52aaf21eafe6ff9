-- A typed method keeps its states ready, and never gets stuck.
use Rattle.std.proofs.Common.{◌≡◌, ℕ, zero, suc, ◌+◌, ◌-◌, ◌<◌, ◌≤◌, ◌^◌, Bool, true, false, if◌then◌else◌, ◌==◌, List, [], ◌∷◌, length, Option, Some, None, IsSome, refl, arith, subst, lit<}
use Rattle.std.specs.List.{AllByRecursion, slice_get}
use Rattle.px_words.specs.declared.Op.{Op}
use Rattle.px_words.specs.declared.Op.TheVariants as op
use Rattle.px_words.specs.Operator.{bits_of}
use Rattle.px_cells.specs.Algebra.{Algebra, Keeps, Laws, Made}
use Rattle.px_program.specs.declared.instr.Arithmetic.{Arithmetic}
use Rattle.px_program.specs.declared.instr.Arithmetic.TheVariants as arithmetic
use Rattle.px_program.specs.declared.instr.Code.{Code}
use Rattle.px_program.specs.declared.instr.Code.TheVariants as codes
use Rattle.px_program.specs.declared.instr.Compare.{Compare}
use Rattle.px_program.specs.declared.instr.Instr.{Instr}
use Rattle.px_program.specs.declared.instr.Move.{Move}
use Rattle.px_program.specs.declared.instr.Move.TheVariants as moves
use Rattle.px_program.specs.declared.instr.Test.{Test}
use Rattle.px_program.specs.declared.instr.Test.TheVariants as tests
use Rattle.px_program.specs.declared.program.Method.{Method}
use Rattle.px_program.specs.declared.program.Place.{Place}
use Rattle.px_program.specs.declared.program.Place.TheVariants.{I4}
use Rattle.px_program.specs.Formed.{all_params, instr_at}
use Rattle.px_domain.specs.Place.{word_bits}
use Rattle.px_simple.specs.Simple.{is_sum}
use Rattle.px_simple.specs.Typing.{At, Fits, HasValue, IsTyped}
use Rattle.px_interp.specs.Table.{State, Step, Goes, Chooses, Ends, Stuck, Outcome, behind, branched, condition_by, constant, is_zero, landing, on_arithmetic, on_compare, on_move, on_return, on_truth, on_two, operator_of, pushed, compare_of, row, row_at, run, step}
use Rattle.px_interp.specs.Words.{AreArguments}

all_mono : {X : Type 0} (P Q : X → Type 0) → ((x : X) → P x → Q x) → (xs : List X) → AllByRecursion P xs → AllByRecursion Q xs
all_mono P Q f [] h = tt
all_mono P Q f (x ∷ xs) h = (f x h.0, all_mono P Q f xs h.1)

arguments_mono : {X : Type 0} (P Q : ℕ → X → Type 0) → ((bits : ℕ) (x : X) → P bits x → Q bits x) → (params : List Place) (xs : List X) → AreArguments P params xs → AreArguments Q params xs
arguments_mono P Q f [] [] h = tt
arguments_mono P Q f (place ∷ params) (x ∷ xs) h = (f (word_bits place) x h.0, arguments_mono P Q f params xs h.1)
arguments_mono P Q f [] (x ∷ xs) h = absurd h
arguments_mono P Q f (place ∷ params) [] h = absurd h

-- the argument of an int32 parameter
pub int32_argument : {X : Type 0} (P : ℕ → X → Type 0) (params : List Place) (xs : List X) (n : ℕ) → slice_get params n ≡ Some I4 → AreArguments P params xs → (x : X) × (slice_get xs n ≡ Some x) × P 32 x
int32_argument P [] xs n e h = cc
int32_argument P (place ∷ params) (x ∷ xs) zero e h =
    let same : place ≡ I4 = cc in
    (x, refl, subst (λ (place : Place). P (word_bits place) x) same h.0)
int32_argument P (place ∷ params) (x ∷ xs) (suc n) e h = int32_argument P params xs n e h.1
int32_argument P (place ∷ params) [] n e h = absurd h

at_depth : (method : Method) (at d e : ℕ) → d ≡ e → At method at d → At method at e
at_depth method at d e same h = rw (← same) h

at_landing : (method : Method) (next target d : ℕ) → At method next d → At method target d → (side : ℕ) → At method (landing side next target) d
at_landing method next target d h k side = either (side == 0)
  where
    either : (b : Bool) → At method (if b then next else target) d
    either true = h
    either false = k

-- the state finds an instruction with as many operands as it has, and all stand in the pool
pub record Ready {P W : Type 0} (IsSound : P → Type 0) (StandsIn : P → ℕ → W → Type 0) (method : Method) (args : List W) (s : State P W) : Type 0 where
  pub pool : IsSound s.pool
  pub stack : AllByRecursion (StandsIn s.pool 32) s.stack
  pub arguments : AreArguments (StandsIn s.pool) (all_params method) args
  pub depth : At method s.at (length s.stack)

module _ {P W : Type 0} {IsSound : P → Type 0} {StandsIn : P → ℕ → W → Type 0} {a : Algebra P W} (laws : Laws IsSound StandsIn a) where
  -- one scalar is made after another
  then_keeps : (p : P) (u v : ℕ) (m n : Made P W) → Keeps IsSound StandsIn p u m → Keeps IsSound StandsIn m.pool v n → Keeps IsSound StandsIn p v n
  then_keeps p u v m n h k = record { pool = k.pool; result = k.result; others = λ width x stands. k.others width x (h.others width x stands) }

  pub constant_keeps : (p : P) (pattern : ℕ) → pattern < 2 ^ 32 → IsSound p → Keeps IsSound StandsIn p 32 (constant a p pattern)
  constant_keeps p pattern narrow sound = laws.keeps p (op.Const false pattern) [] narrow sound tt

  pub is_zero_keeps : (m : Made P W) → IsSound m.pool → StandsIn m.pool 32 m.scalar → Keeps IsSound StandsIn m.pool 32 (is_zero a m)
  is_zero_keeps m sound stands =
      let z = constant a m.pool 0 in
      let k = constant_keeps m.pool 0 (lit< tt) sound in
      then_keeps m.pool 32 32 z _ k (laws.keeps z.pool (op.Eq false) (m.scalar ∷ z.scalar ∷ []) tt k.pool (k.others 32 m.scalar stands, (k.result, tt)))

  less_keeps : (signed wide : Bool) (p : P) (x y : W) → IsSound p → StandsIn p (bits_of wide) x → StandsIn p (bits_of wide) y → Keeps IsSound StandsIn p 32 (on_two a (if signed then op.LtS wide else op.LtU wide) x y p)
  less_keeps true wide p x y sound h k = laws.keeps p (op.LtS wide) (x ∷ y ∷ []) tt sound (h, (k, tt))
  less_keeps false wide p x y sound h k = laws.keeps p (op.LtU wide) (x ∷ y ∷ []) tt sound (h, (k, tt))

  negated_keeps : (p : P) (m : Made P W) → Keeps IsSound StandsIn p 32 m → Keeps IsSound StandsIn p 32 (is_zero a m)
  negated_keeps p m k = then_keeps p 32 32 m _ k (is_zero_keeps m k.pool k.result)

  pub condition_keeps : (test : Test) (c : Compare) (p : P) (x y : W) → IsSound p → StandsIn p (bits_of c.wide) x → StandsIn p (bits_of c.wide) y → Keeps IsSound StandsIn p 32 (condition_by a test c x y p)
  condition_keeps tests.Eq c p x y sound h k = laws.keeps p (op.Eq c.wide) (x ∷ y ∷ []) tt sound (h, (k, tt))
  condition_keeps tests.Ne c p x y sound h k = negated_keeps p _ (laws.keeps p (op.Eq c.wide) (x ∷ y ∷ []) tt sound (h, (k, tt)))
  condition_keeps tests.Gt c p x y sound h k = less_keeps c.signed c.wide p y x sound k h
  condition_keeps tests.Ge c p x y sound h k = negated_keeps p _ (less_keeps c.signed c.wide p x y sound h k)
  condition_keeps tests.Lt c p x y sound h k = less_keeps c.signed c.wide p x y sound h k
  condition_keeps tests.Le c p x y sound h k = negated_keeps p _ (less_keeps c.signed c.wide p y x sound k h)

  module _ (method : Method) (args : List W) where
    -- a step that gets stuck nowhere, and leaves the next state ready
    abbrev pub ReadyAfter : Step P W → Type 0
    ReadyAfter (Goes s) = Ready IsSound StandsIn method args s
    ReadyAfter (Chooses e s) = Ready IsSound StandsIn method args s
    ReadyAfter (Ends end pool) = Unit {0}
    ReadyAfter (Stuck pool) = ⊥

    pushed_ready : (next : ℕ) (xs : List W) (p : P) (m : Made P W) → Keeps IsSound StandsIn p 32 m → AllByRecursion (StandsIn p 32) xs → AreArguments (StandsIn p) (all_params method) args → At method next (length xs + 1) → ReadyAfter (pushed next xs m)
    pushed_ready next xs p m k st ar d = record {
      pool = k.pool;
      stack = (k.result, all_mono _ _ (k.others 32) xs st);
      arguments = arguments_mono _ _ k.others (all_params method) args ar;
      depth = at_depth method next _ _ (omega arith) d;
    }

    branched_ready : (number offset next target : ℕ) (xs : List W) (c : Compare) (x y : W) (p : P) → IsSound p → StandsIn p (bits_of c.wide) x → StandsIn p (bits_of c.wide) y → AllByRecursion (StandsIn p 32) xs → AreArguments (StandsIn p) (all_params method) args
        → At method next (length xs) → At method target (length xs) → ReadyAfter (branched a number offset next target xs c x y p)
    branched_ready number offset next target xs c x y p sound h k st ar d e =
        let m = condition_keeps c.test c p x y sound h k in
        record {
          pool = m.pool;
          stack = all_mono _ _ (m.others 32) xs st;
          arguments = arguments_mono _ _ m.others (all_params method) args ar;
          depth = at_landing method next target (length xs) d e _;
        }

    move_ready : (move : Move) (next : ℕ) (xs : List W) (p : P) → HasValue method move → At method next (length xs + 1) → IsSound p → AllByRecursion (StandsIn p 32) xs → AreArguments (StandsIn p) (all_params method) args → ReadyAfter (on_move a move args next xs p)
    move_ready (moves.Argument n) next xs p value d sound st ar =
        let e = int32_argument (StandsIn p) (all_params method) args n value ar in
        rw e.1 (record { pool = sound; stack = (e.2, st); arguments = ar; depth = at_depth method next _ _ (omega arith) d })
    move_ready (moves.Constant32 pattern) next xs p value d sound st ar = pushed_ready next xs p _ (constant_keeps p pattern value sound) st ar d
    move_ready _ next xs p value d sound st ar = absurd value

    -- an operator of two 32 bits has one as its result
    two_ready : (o : Op) (next : ℕ) (xs : List W) (p : P) → ((x y : W) → StandsIn p 32 x → StandsIn p 32 y → Keeps IsSound StandsIn p 32 (on_two a o x y p)) → 2 ≤ length xs → At method next (length xs - 1) → AllByRecursion (StandsIn p 32) xs → AreArguments (StandsIn p) (all_params method) args
        → ReadyAfter (on_arithmetic a (Some o) next xs p)
    two_ready o next [] p keeps deep d st ar = absurd (omega arith)
    two_ready o next (y ∷ []) p keeps deep d st ar = absurd (omega arith)
    two_ready o next (y ∷ x ∷ xs) p keeps deep d st ar = pushed_ready next xs p _ (keeps x y st.1.0 st.0) st.1.1 ar (at_depth method next _ _ (omega arith) d)

    arithmetic_ready : (operation : Arithmetic) (next : ℕ) (xs : List W) (p : P) → is_sum operation ≡ true → 2 ≤ length xs → At method next (length xs - 1) → IsSound p → AllByRecursion (StandsIn p 32) xs → AreArguments (StandsIn p) (all_params method) args
        → ReadyAfter (on_arithmetic a (operator_of operation) next xs p)
    arithmetic_ready arithmetic.Add next xs p known deep d sound st ar =
        two_ready (op.Add false) next xs p (λ x y h k. laws.keeps p (op.Add false) (x ∷ y ∷ []) tt sound (h, (k, tt))) deep d st ar
    arithmetic_ready arithmetic.Sub next xs p known deep d sound st ar =
        two_ready (op.Sub false) next xs p (λ x y h k. laws.keeps p (op.Sub false) (x ∷ y ∷ []) tt sound (h, (k, tt))) deep d st ar
    arithmetic_ready _ next xs p known deep d sound st ar = cc

    truth_ready : (test : Test) (number offset next target : ℕ) (xs : List W) (p : P) → 1 ≤ length xs → At method next (length xs - 1) → At method target (length xs - 1) → IsSound p → AllByRecursion (StandsIn p 32) xs → AreArguments (StandsIn p) (all_params method) args
        → ReadyAfter (on_truth a number offset next target (compare_of test true) xs p)
    truth_ready test number offset next target [] p deep d e sound st ar = absurd (omega arith)
    truth_ready test number offset next target (x ∷ xs) p deep d e sound st ar =
        let k = constant_keeps p 0 (lit< tt) sound in
        branched_ready number offset next target xs (compare_of test true) x _ _ k.pool (k.others 32 x st.0) k.result (all_mono _ _ (k.others 32) xs st.1) (arguments_mono _ _ k.others (all_params method) args ar)
        (at_depth method next _ _ (omega arith) d) (at_depth method target _ _ (omega arith) e)

    compare_ready : (test : Test) (signed : Bool) (number offset next target : ℕ) (xs : List W) (p : P) → 2 ≤ length xs → At method next (length xs - 2) → At method target (length xs - 2) → IsSound p → AllByRecursion (StandsIn p 32) xs → AreArguments (StandsIn p) (all_params method) args
        → ReadyAfter (on_compare a number offset next target (compare_of test signed) xs p)
    compare_ready test signed number offset next target [] p deep d e sound st ar = absurd (omega arith)
    compare_ready test signed number offset next target (y ∷ []) p deep d e sound st ar = absurd (omega arith)
    compare_ready test signed number offset next target (y ∷ x ∷ xs) p deep d e sound st ar =
        branched_ready number offset next target xs (compare_of test signed) x y p sound st.1.0 st.0 st.1.1 ar
        (at_depth method next _ _ (omega arith) d) (at_depth method target _ _ (omega arith) e)

    return_ready : (xs : List W) (p : P) → 1 ≤ length xs → ReadyAfter (on_return a xs p)
    return_ready [] p deep = absurd (omega arith)
    return_ready (x ∷ xs) p deep = tt

    -- one case for each row
    pub row_ready : (code : Code) (number offset next : ℕ) (xs : List W) (p : P) → Fits method next (length xs) code → IsSound p → AllByRecursion (StandsIn p 32) xs → AreArguments (StandsIn p) (all_params method) args → ReadyAfter (row a code number offset next args xs p)
    row_ready (codes.Nop is_break) number offset next xs p f sound st ar = record { pool = sound; stack = st; arguments = ar; depth = f }
    row_ready (codes.Move move) number offset next xs p f sound st ar = move_ready move next xs p f.0 f.1 sound st ar
    row_ready (codes.Arithmetic operation) number offset next xs p f sound st ar = arithmetic_ready operation next xs p f.0 f.1 f.2 sound st ar
    row_ready (codes.Branch target) number offset next xs p f sound st ar = record { pool = sound; stack = st; arguments = ar; depth = f }
    row_ready (codes.BranchTruth true target) number offset next xs p f sound st ar = truth_ready tests.Ne number offset next target xs p f.0 f.1 f.2 sound st ar
    row_ready (codes.BranchTruth false target) number offset next xs p f sound st ar = truth_ready tests.Eq number offset next target xs p f.0 f.1 f.2 sound st ar
    row_ready (codes.BranchCompare test signed target) number offset next xs p f sound st ar = compare_ready test signed number offset next target xs p f.0 f.1 f.2 sound st ar
    row_ready codes.Return number offset next xs p f sound st ar = return_ready xs p f
    row_ready _ number offset next xs p f sound st ar = absurd f

    behind_ends : (t : Step P W) (go : State P W → Outcome P W) → ReadyAfter t → ((s : State P W) → Ready IsSound StandsIn method args s → IsSome (go s).end) → IsSome (behind a t go).end
    behind_ends (Goes s) go ready f = f s ready
    behind_ends (Chooses e s) go ready f = f s ready
    behind_ends (Ends end pool) go ready f = refl
    behind_ends (Stuck pool) go ready f = absurd ready

    -- a run of a typed method never gets stuck
    pub run_ends : IsTyped method → (number n : ℕ) (s : State P W) → Ready IsSound StandsIn method args s → IsSome (run a n method number args s).end
    unfolding run
    run_ends typed number zero s ready = refl
    run_ends typed number (suc n) s ready =
        behind_ends (step a method number args s) (run a n method number args) (step_ready (instr_at method.code s.at) refl (typed.there s.at (length s.stack) ready.depth)) (run_ends typed number n)
      where
        step_ready : (o : Option Instr) → instr_at method.code s.at ≡ o → IsSome (instr_at method.code s.at) → ReadyAfter (row_at a o number args s)
        step_ready None is some = let none : IsSome {T = Instr} None = rw is at some in cc
        step_ready (Some i) is some = row_ready i.code number i.offset i.next s.stack s.pool (typed.each s.at (length s.stack) i ready.depth is) ready.pool ready.stack ready.arguments
