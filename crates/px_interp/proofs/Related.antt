-- Two readings of the table of instructions, beside each other: as long as they take the same sides they go the same way.
use Rattle.std.proofs.Common.{◌≡◌, ℕ, zero, suc, ◌<◌, ◌^◌, Bool, true, false, if◌then◌else◌, List, [], ◌∷◌, map, Option, Some, None, refl, ap, subst, lit<}
use Rattle.std.specs.List.{slice_get}
use Rattle.px_words.specs.declared.Op.{Op}
use Rattle.px_words.specs.declared.Op.TheVariants as op
use Rattle.px_words.specs.Operator.{IsOperator, bits_of, result_width, widths_of}
use Rattle.px_cells.specs.Algebra.{Algebra, Made}
use Rattle.px_program.specs.declared.instr.Arithmetic.{Arithmetic}
use Rattle.px_program.specs.declared.instr.Arithmetic.TheVariants as arithmetic
use Rattle.px_program.specs.declared.instr.Code.{Code}
use Rattle.px_program.specs.declared.instr.Code.TheVariants as codes
use Rattle.px_program.specs.declared.instr.Compare.{Compare}
use Rattle.px_program.specs.declared.instr.Instr.{Instr}
use Rattle.px_program.specs.declared.instr.Move.{Move}
use Rattle.px_program.specs.declared.instr.Move.TheVariants as moves
use Rattle.px_program.specs.declared.instr.Test.{Test}
use Rattle.px_program.specs.declared.instr.Test.TheVariants as tests
use Rattle.px_program.specs.declared.program.Method.{Method}
use Rattle.px_program.specs.declared.program.Place.{Place}
use Rattle.px_program.specs.declared.program.Place.TheVariants.{I4}
use Rattle.px_program.specs.declared.record.End.{End}
use Rattle.px_program.specs.declared.record.End.TheVariants as ends
use Rattle.px_program.specs.declared.record.Value.TheVariants as values
use Rattle.px_program.specs.Formed.{all_params, instr_at}
use Rattle.px_rank.specs.Distance.{gap_of}
use Rattle.px_domain.specs.Place.{word_bits}
use Rattle.px_simple.specs.Typing.{HasValue}
use Rattle.px_interp.specs.declared.machine.Seen.{Seen}
use Rattle.px_interp.specs.Shape.{SameEndKind}
use Rattle.px_interp.specs.Table.{State, Step, Goes, Chooses, Ends, Stuck, Outcome, behind, branched, condition_by, constant, is_zero, landing, on_argument, on_arithmetic, on_compare, on_move, on_return, on_truth, on_two, operator_of, pushed, compare_of, truth_compare, row, row_at, run, step}

-- as many of one as of the other, and each pair is related
abbrev pub Pairs : {X Y : Type 0} → (X → Y → Type 0) → List X → List Y → Type 0
Pairs R [] [] = Unit {0}
Pairs R (x ∷ xs) (y ∷ ys) = R x y × Pairs R xs ys
Pairs R _ _ = ⊥

-- a pair for each width, related at it
abbrev pub PairsAt : {X Y : Type 0} → (ℕ → X → Y → Type 0) → List ℕ → List X → List Y → Type 0
PairsAt R [] [] [] = Unit {0}
PairsAt R (bits ∷ widths) (x ∷ xs) (y ∷ ys) = R bits x y × PairsAt R widths xs ys
PairsAt R _ _ _ = ⊥

pub pairs_mono : {X Y : Type 0} (R S : X → Y → Type 0) → ((x : X) (y : Y) → R x y → S x y) → (xs : List X) (ys : List Y) → Pairs R xs ys → Pairs S xs ys
pairs_mono R S f [] [] h = tt
pairs_mono R S f (x ∷ xs) (y ∷ ys) h = (f x y h.0, pairs_mono R S f xs ys h.1)
pairs_mono R S f _ _ h = absurd h

pub pairs_at_mono : {X Y : Type 0} (R S : ℕ → X → Y → Type 0) → ((bits : ℕ) (x : X) (y : Y) → R bits x y → S bits x y) → (widths : List ℕ) (xs : List X) (ys : List Y) → PairsAt R widths xs ys → PairsAt S widths xs ys
pairs_at_mono R S f [] [] [] h = tt
pairs_at_mono R S f (bits ∷ widths) (x ∷ xs) (y ∷ ys) h = (f bits x y h.0, pairs_at_mono R S f widths xs ys h.1)
pairs_at_mono R S f _ _ _ h = absurd h

-- the scalars that an instruction names are there
abbrev pub NamesValue : Method → Code → Type 0
NamesValue method (codes.Move move) = HasValue method move
NamesValue method _ = Unit {0}

-- where both returned a number, the numbers are related
abbrev pub ReturnedNumbers : (ℕ → ℕ → Type 0) → End → End → Type 0
ReturnedNumbers numbers (ends.Returned (values.Number m)) (ends.Returned (values.Number n)) = numbers m n
ReturnedNumbers numbers _ _ = Unit {0}

-- both got stuck, or they ended in the same way
abbrev pub AlikeEnds : (ℕ → ℕ → Type 0) → Option End → Option End → Type 0
AlikeEnds numbers None None = Unit {0}
AlikeEnds numbers (Some x) (Some y) = SameEndKind x y × ReturnedNumbers numbers x y
AlikeEnds numbers _ _ = ⊥

-- A relation of scalars at a width, in the first reading's pool, beside a relation of pools, that operators keep.
pub record Law {P W Q V : Type 0} (a : Algebra P W) (b : Algebra Q V) (pools : P → Q → Type 0) (alike : P → ℕ → W → V → Type 0) (numbers gaps : ℕ → ℕ → Type 0) : Type 0 where
  -- an operator gives alike scalars of alike operands
  pub applied : (p : P) (q : Q) (o : Op) (xs : List W) (ys : List V) → IsOperator o → pools p q → PairsAt (alike p) (widths_of o) xs ys
      → pools (a.applied p o xs).pool (b.applied q o ys).pool × alike (a.applied p o xs).pool (result_width o) (a.applied p o xs).scalar (b.applied q o ys).scalar
  -- what was alike stays so, whatever is applied
  pub stays : (p : P) (o : Op) (xs : List W) (bits : ℕ) (x : W) (y : V) → alike p bits x y → alike (a.applied p o xs).pool bits x y
  -- the words of alike scalars
  pub number : (p : P) (bits : ℕ) (x : W) (y : V) → alike p bits x y → numbers (a.word x) (b.word y)
  -- the gaps of alike operands
  pub gap : (p : P) (compare : Compare) (x x' : W) (y y' : V) → alike p (bits_of compare.wide) x y → alike p (bits_of compare.wide) x' y'
      → gaps (gap_of compare (a.word x) (a.word x')) (gap_of compare (b.word y) (b.word y'))

module _ {P W Q V : Type 0} (a : Algebra P W) (b : Algebra Q V) (pools : P → Q → Type 0) (alike : P → ℕ → W → V → Type 0) (numbers gaps : ℕ → ℕ → Type 0) where
  -- the same place, alike stacks of 32 bits and alike arguments
  pub record AlikeStates (params : List Place) (args : List W) (args' : List V) (s : State P W) (t : State Q V) : Type 0 where
    pub at : s.at ≡ t.at
    pub pool : pools s.pool t.pool
    pub stack : Pairs (alike s.pool 32) s.stack t.stack
    pub arguments : PairsAt (alike s.pool) (map word_bits params) args args'

  -- one event beside another: the same site, alike scalars with the sides for words, and gaps that go together
  pub record AlikeSeen (p : P) (e : Seen W) (f : Seen V) : Type 0 where
    pub site : e.event.site ≡ f.event.site
    pub side : alike p 32 e.side f.side
    pub word : e.event.side ≡ a.word e.side
    pub word' : f.event.side ≡ b.word f.side
    pub gap : gaps e.gap f.gap

  abbrev pub AlikeSteps : List Place → List W → List V → Step P W → Step Q V → Type 0
  AlikeSteps params args args' (Goes s) (Goes t) = AlikeStates params args args' s t
  AlikeSteps params args args' (Chooses e s) (Chooses f t) = AlikeSeen s.pool e f × (e.event.side ≡ f.event.side → AlikeStates params args args' s t)
  AlikeSteps params args args' (Ends x p) (Ends y q) = pools p q × AlikeEnds numbers (Some x) (Some y)
  AlikeSteps params args args' (Stuck p) (Stuck q) = pools p q
  AlikeSteps params args args' _ _ = ⊥

  -- alike events as long as the sides agree, and alike ends where they all do
  abbrev pub Follows : P → Q → Option End → Option End → List (Seen W) → List (Seen V) → Type 0
  Follows p q x y [] [] = pools p q × AlikeEnds numbers x y
  Follows p q x y (e ∷ es) (f ∷ fs) = AlikeSeen p e f × (e.event.side ≡ f.event.side → Follows p q x y es fs)
  Follows p q x y _ _ = ⊥

  abbrev pub AlikeRuns : Outcome P W → Outcome Q V → Type 0
  AlikeRuns o u = Follows o.pool u.pool o.end u.end o.seen u.seen

  -- alike scalars, and the pools that they were made in
  pub record AlikeMade (bits : ℕ) (m : Made P W) (n : Made Q V) : Type 0 where
    pub pool : pools m.pool n.pool
    pub scalar : alike m.pool bits m.scalar n.scalar

  -- what is alike in one pool is alike in the other
  abbrev pub Stays : P → P → Type 0
  Stays p p' = (bits : ℕ) (x : W) (y : V) → alike p bits x y → alike p' bits x y

  module _ (law : Law a b pools alike numbers gaps) where
    two_alike : (o : Op) (p : P) (q : Q) (x x' : W) (y y' : V) → IsOperator o → pools p q → PairsAt (alike p) (widths_of o) (x ∷ x' ∷ []) (y ∷ y' ∷ [])
        → AlikeMade (result_width o) (on_two a o x x' p) (on_two b o y y' q)
    two_alike o p q x x' y y' is po h =
        let r = law.applied p q o (x ∷ x' ∷ []) (y ∷ y' ∷ []) is po h in record { pool = r.0; scalar = r.1 }

    constant_alike : (wide : Bool) (pattern : ℕ) (p : P) (q : Q) → pattern < 2 ^ bits_of wide → pools p q
        → AlikeMade (bits_of wide) (a.applied p (op.Const wide pattern) []) (b.applied q (op.Const wide pattern) [])
    constant_alike wide pattern p q narrow po =
        let r = law.applied p q (op.Const wide pattern) [] [] narrow po tt in record { pool = r.0; scalar = r.1 }

    zero_alike : (p : P) (q : Q) → pools p q → AlikeMade 32 (constant a p 0) (constant b q 0)
    zero_alike p q po = constant_alike false 0 p q (lit< tt) po

    is_zero_alike : (m : Made P W) (n : Made Q V) → AlikeMade 32 m n → AlikeMade 32 (is_zero a m) (is_zero b n)
    is_zero_alike m n h =
        let z = zero_alike m.pool n.pool h.pool in
        two_alike (op.Eq false) _ _ _ _ _ _ tt z.pool (law.stays m.pool (op.Const false 0) [] 32 m.scalar n.scalar h.scalar, (z.scalar, tt))

    less_alike : (signed wide : Bool) (p : P) (q : Q) (x x' : W) (y y' : V) → pools p q → alike p (bits_of wide) x y → alike p (bits_of wide) x' y'
        → AlikeMade 32 (on_two a (if signed then op.LtS wide else op.LtU wide) x x' p) (on_two b (if signed then op.LtS wide else op.LtU wide) y y' q)
    less_alike true wide p q x x' y y' po h h' = two_alike (op.LtS wide) p q x x' y y' tt po (h, (h', tt))
    less_alike false wide p q x x' y y' po h h' = two_alike (op.LtU wide) p q x x' y y' tt po (h, (h', tt))

    -- one case for each test
    condition_alike : (test : Test) (compare : Compare) (p : P) (q : Q) (x x' : W) (y y' : V) → pools p q → alike p (bits_of compare.wide) x y → alike p (bits_of compare.wide) x' y'
        → AlikeMade 32 (condition_by a test compare x x' p) (condition_by b test compare y y' q)
    condition_alike tests.Eq c p q x x' y y' po h h' = two_alike (op.Eq c.wide) p q x x' y y' tt po (h, (h', tt))
    condition_alike tests.Ne c p q x x' y y' po h h' = is_zero_alike _ _ (two_alike (op.Eq c.wide) p q x x' y y' tt po (h, (h', tt)))
    condition_alike tests.Gt c p q x x' y y' po h h' = less_alike c.signed c.wide p q x' x y' y po h' h
    condition_alike tests.Ge c p q x x' y y' po h h' = is_zero_alike _ _ (less_alike c.signed c.wide p q x x' y y' po h h')
    condition_alike tests.Lt c p q x x' y y' po h h' = less_alike c.signed c.wide p q x x' y y' po h h'
    condition_alike tests.Le c p q x x' y y' po h h' = is_zero_alike _ _ (less_alike c.signed c.wide p q x' x y' y po h' h)

    stays_zero : (m : Made P W) → Stays m.pool (is_zero a m).pool
    stays_zero m bits x y h =
        let z = constant a m.pool 0 in law.stays z.pool (op.Eq false) (m.scalar ∷ z.scalar ∷ []) bits x y (law.stays m.pool (op.Const false 0) [] bits x y h)

    stays_condition : (test : Test) (compare : Compare) (p : P) (x x' : W) → Stays p (condition_by a test compare x x' p).pool
    stays_condition tests.Eq c p x x' bits u v h = law.stays p _ _ bits u v h
    stays_condition tests.Ne c p x x' bits u v h = stays_zero _ bits u v (law.stays p _ _ bits u v h)
    stays_condition tests.Gt c p x x' bits u v h = law.stays p _ _ bits u v h
    stays_condition tests.Ge c p x x' bits u v h = stays_zero _ bits u v (law.stays p _ _ bits u v h)
    stays_condition tests.Lt c p x x' bits u v h = law.stays p _ _ bits u v h
    stays_condition tests.Le c p x x' bits u v h = stays_zero _ bits u v (law.stays p _ _ bits u v h)

    module _ (method : Method) (args : List W) (args' : List V) where
      go_alike : (next : ℕ) (p : P) (q : Q) (xs : List W) (ys : List V) → pools p q → PairsAt (alike p) (map word_bits (all_params method)) args args' → Pairs (alike p 32) xs ys
          → AlikeStates (all_params method) args args' (record { at = next; stack = xs; pool = p }) (record { at = next; stack = ys; pool = q })
      go_alike next p q xs ys po ar h = record { at = refl; pool = po; stack = h; arguments = ar }

      -- a scalar more on the stack, made in a later pool
      pushed_alike : (next : ℕ) (p : P) (m : Made P W) (n : Made Q V) (xs : List W) (ys : List V) → Stays p m.pool → AlikeMade 32 m n → PairsAt (alike p) (map word_bits (all_params method)) args args' → Pairs (alike p 32) xs ys
          → AlikeSteps (all_params method) args args' (pushed next xs m) (pushed next ys n)
      pushed_alike next p m n xs ys stays made ar h =
          go_alike next m.pool n.pool _ _ made.pool (pairs_at_mono _ _ stays _ args args' ar) (made.scalar, pairs_mono _ _ (stays 32) xs ys h)

      branched_alike : (number offset next target : ℕ) (compare : Compare) (p : P) (q : Q) (x x' : W) (y y' : V) (xs : List W) (ys : List V) → pools p q → alike p (bits_of compare.wide) x y → alike p (bits_of compare.wide) x' y'
          → PairsAt (alike p) (map word_bits (all_params method)) args args' → Pairs (alike p 32) xs ys
          → AlikeSteps (all_params method) args args' (branched a number offset next target xs compare x x' p) (branched b number offset next target ys compare y y' q)
      branched_alike number offset next target compare p q x x' y y' xs ys po h h' ar st =
          let made = condition_alike compare.test compare p q x x' y y' po h h' in
          let stays = stays_condition compare.test compare p x x' in (
            record { site = refl; side = made.scalar; word = refl; word' = refl; gap = law.gap p compare x x' y y' h h' },
            λ same. record {
              at = ap (λ side. landing side next target) same;
              pool = made.pool;
              stack = pairs_mono _ _ (stays 32) xs ys st;
              arguments = pairs_at_mono _ _ stays _ args args' ar;
            },
          )

      argument_alike : (next : ℕ) (p : P) (q : Q) (xs : List W) (ys : List V) (params : List Place) (us : List W) (vs : List V) (n : ℕ) → slice_get params n ≡ Some I4 → PairsAt (alike p) (map word_bits params) us vs
          → pools p q → PairsAt (alike p) (map word_bits (all_params method)) args args' → Pairs (alike p 32) xs ys
          → AlikeSteps (all_params method) args args' (on_argument a (slice_get us n) next xs p) (on_argument b (slice_get vs n) next ys q)
      argument_alike next p q xs ys [] us vs n e h po ar st = cc
      argument_alike next p q xs ys (place ∷ params) (u ∷ us) (v ∷ vs) zero e h po ar st =
          let same : place ≡ I4 = cc in
          let F : Place → Type 0 = λ (place : Place). alike p (word_bits place) u v in
          go_alike next p q _ _ po ar (subst F same h.0, st)
      argument_alike next p q xs ys (place ∷ params) (u ∷ us) (v ∷ vs) (suc n) e h po ar st = argument_alike next p q xs ys params us vs n e h.1 po ar st
      argument_alike next p q xs ys (place ∷ params) [] vs n e h po ar st = absurd h
      argument_alike next p q xs ys (place ∷ params) (u ∷ us) [] n e h po ar st = absurd h

      move_alike : (move : Move) (next : ℕ) (p : P) (q : Q) (xs : List W) (ys : List V) → HasValue method move → pools p q → PairsAt (alike p) (map word_bits (all_params method)) args args' → Pairs (alike p 32) xs ys
          → AlikeSteps (all_params method) args args' (on_move a move args next xs p) (on_move b move args' next ys q)
      move_alike (moves.Argument n) next p q xs ys known po ar st = argument_alike next p q xs ys (all_params method) args args' n known ar po ar st
      move_alike (moves.Constant32 pattern) next p q xs ys known po ar st =
          pushed_alike next p _ _ xs ys (law.stays p (op.Const false pattern) []) (constant_alike false pattern p q known po) ar st
      move_alike _ next p q xs ys known po ar st = absurd known

      -- an operator of two 32 bits that has one as its result
      abbrev TwoAlike : Op → P → Q → Type 0
      TwoAlike o p q = (x x' : W) (y y' : V) → alike p 32 x y → alike p 32 x' y' → AlikeMade 32 (on_two a o x x' p) (on_two b o y y' q)

      operator_alike : (o : Op) (next : ℕ) (p : P) (q : Q) (xs : List W) (ys : List V) → TwoAlike o p q → pools p q → PairsAt (alike p) (map word_bits (all_params method)) args args' → Pairs (alike p 32) xs ys
          → AlikeSteps (all_params method) args args' (on_arithmetic a (Some o) next xs p) (on_arithmetic b (Some o) next ys q)
      operator_alike o next p q [] [] two po ar st = po
      operator_alike o next p q (x ∷ []) (y ∷ []) two po ar st = po
      operator_alike o next p q (x' ∷ x ∷ xs) (y' ∷ y ∷ ys) two po ar st = pushed_alike next p _ _ xs ys (law.stays p _ _) (two x x' y y' st.1.0 st.0) ar st.1.1
      operator_alike o next p q [] (y ∷ ys) two po ar st = absurd st
      operator_alike o next p q (x ∷ xs) [] two po ar st = absurd st
      operator_alike o next p q (x' ∷ []) (y' ∷ y ∷ ys) two po ar st = absurd st.1
      operator_alike o next p q (x' ∷ x ∷ xs) (y' ∷ []) two po ar st = absurd st.1

      arithmetic_alike : (operation : Arithmetic) (next : ℕ) (p : P) (q : Q) (xs : List W) (ys : List V) → pools p q → PairsAt (alike p) (map word_bits (all_params method)) args args' → Pairs (alike p 32) xs ys
          → AlikeSteps (all_params method) args args' (on_arithmetic a (operator_of operation) next xs p) (on_arithmetic b (operator_of operation) next ys q)
      arithmetic_alike arithmetic.Add next p q xs ys po ar st =
          operator_alike (op.Add false) next p q xs ys (λ x x' y y' h h'. two_alike (op.Add false) p q x x' y y' tt po (h, (h', tt))) po ar st
      arithmetic_alike arithmetic.Sub next p q xs ys po ar st =
          operator_alike (op.Sub false) next p q xs ys (λ x x' y y' h h'. two_alike (op.Sub false) p q x x' y y' tt po (h, (h', tt))) po ar st
      arithmetic_alike _ next p q xs ys po ar st = po

      truth_alike : (test : Test) (number offset next target : ℕ) (p : P) (q : Q) (xs : List W) (ys : List V) → pools p q → PairsAt (alike p) (map word_bits (all_params method)) args args' → Pairs (alike p 32) xs ys
          → AlikeSteps (all_params method) args args' (on_truth a number offset next target (compare_of test true) xs p) (on_truth b number offset next target (compare_of test true) ys q)
      truth_alike test number offset next target p q [] [] po ar st = po
      truth_alike test number offset next target p q (x ∷ xs) (y ∷ ys) po ar st =
          let z = zero_alike p q po in
          let stays = law.stays p (op.Const false 0) [] in
          branched_alike number offset next target (compare_of test true) _ _ x _ y _ xs ys z.pool (stays 32 x y st.0) z.scalar
          (pairs_at_mono _ _ stays _ args args' ar) (pairs_mono _ _ (stays 32) xs ys st.1)
      truth_alike test number offset next target p q [] (y ∷ ys) po ar st = absurd st
      truth_alike test number offset next target p q (x ∷ xs) [] po ar st = absurd st

      compare_alike : (test : Test) (signed : Bool) (number offset next target : ℕ) (p : P) (q : Q) (xs : List W) (ys : List V) → pools p q → PairsAt (alike p) (map word_bits (all_params method)) args args' → Pairs (alike p 32) xs ys
          → AlikeSteps (all_params method) args args' (on_compare a number offset next target (compare_of test signed) xs p) (on_compare b number offset next target (compare_of test signed) ys q)
      compare_alike test signed number offset next target p q [] [] po ar st = po
      compare_alike test signed number offset next target p q (x ∷ []) (y ∷ []) po ar st = po
      compare_alike test signed number offset next target p q (x' ∷ x ∷ xs) (y' ∷ y ∷ ys) po ar st =
          branched_alike number offset next target (compare_of test signed) p q x x' y y' xs ys po st.1.0 st.0 ar st.1.1
      compare_alike test signed number offset next target p q [] (y ∷ ys) po ar st = absurd st
      compare_alike test signed number offset next target p q (x ∷ xs) [] po ar st = absurd st
      compare_alike test signed number offset next target p q (x' ∷ []) (y' ∷ y ∷ ys) po ar st = absurd st.1
      compare_alike test signed number offset next target p q (x' ∷ x ∷ xs) (y' ∷ []) po ar st = absurd st.1

      return_alike : (p : P) (q : Q) (xs : List W) (ys : List V) → pools p q → Pairs (alike p 32) xs ys
          → AlikeSteps (all_params method) args args' (on_return a xs p) (on_return b ys q)
      return_alike p q [] [] po st = po
      return_alike p q (x ∷ xs) (y ∷ ys) po st = (po, (tt, law.number p 32 x y st.0))
      return_alike p q [] (y ∷ ys) po st = absurd st
      return_alike p q (x ∷ xs) [] po st = absurd st

      -- ONE CASE FOR EACH ROW
      pub row_alike : (code : Code) (number offset next : ℕ) (p : P) (q : Q) (xs : List W) (ys : List V) → NamesValue method code → pools p q → PairsAt (alike p) (map word_bits (all_params method)) args args' → Pairs (alike p 32) xs ys
          → AlikeSteps (all_params method) args args' (row a code number offset next args xs p) (row b code number offset next args' ys q)
      row_alike (codes.Nop is_break) number offset next p q xs ys known po ar st = go_alike next p q xs ys po ar st
      row_alike (codes.Move move) number offset next p q xs ys known po ar st = move_alike move next p q xs ys known po ar st
      row_alike (codes.Arithmetic operation) number offset next p q xs ys known po ar st = arithmetic_alike operation next p q xs ys po ar st
      row_alike (codes.Branch target) number offset next p q xs ys known po ar st = go_alike target p q xs ys po ar st
      row_alike (codes.BranchTruth true target) number offset next p q xs ys known po ar st = truth_alike tests.Ne number offset next target p q xs ys po ar st
      row_alike (codes.BranchTruth false target) number offset next p q xs ys known po ar st = truth_alike tests.Eq number offset next target p q xs ys po ar st
      row_alike (codes.BranchCompare test signed target) number offset next p q xs ys known po ar st = compare_alike test signed number offset next target p q xs ys po ar st
      row_alike codes.Return number offset next p q xs ys known po ar st = return_alike p q xs ys po st
      row_alike (codes.Outside name opcode) number offset next p q xs ys known po ar st = (po, ((refl, refl), tt))
      row_alike _ number offset next p q xs ys known po ar st = po

      -- a rest of the run in which alike scalars stay so
      abbrev pub KeepsPool : (State P W → Outcome P W) → Type 0
      KeepsPool go = (s : State P W) → Stays s.pool (go s).pool

      kept : (p : P) → Stays p p
      kept p bits u v h = h

      through : (p p' p'' : P) → Stays p p' → Stays p' p'' → Stays p p''
      through p p' p'' f g bits u v h = g bits u v (f bits u v h)

      stays_branched : (number offset next target : ℕ) (xs : List W) (compare : Compare) (x x' : W) (p : P) (go : State P W → Outcome P W) → KeepsPool go → Stays p (behind a (branched a number offset next target xs compare x x' p) go).pool
      stays_branched number offset next target xs compare x x' p go f = through p _ _ (stays_condition compare.test compare p x x') (f _)

      stays_argument : (o : Option W) (next : ℕ) (xs : List W) (p : P) (go : State P W → Outcome P W) → KeepsPool go → Stays p (behind a (on_argument a o next xs p) go).pool
      stays_argument None next xs p go f = kept p
      stays_argument (Some x) next xs p go f = f _

      stays_move : (move : Move) (next : ℕ) (xs : List W) (p : P) (go : State P W → Outcome P W) → KeepsPool go → Stays p (behind a (on_move a move args next xs p) go).pool
      stays_move (moves.Argument n) next xs p go f = stays_argument (slice_get args n) next xs p go f
      stays_move (moves.Constant32 pattern) next xs p go f = through p _ _ (law.stays p _ _) (f _)
      stays_move (moves.Constant64 pattern) next xs p go f = through p _ _ (law.stays p _ _) (f _)
      stays_move _ next xs p go f = kept p

      stays_arithmetic : (o : Option Op) (next : ℕ) (xs : List W) (p : P) (go : State P W → Outcome P W) → KeepsPool go → Stays p (behind a (on_arithmetic a o next xs p) go).pool
      stays_arithmetic (Some o) next [] p go f = kept p
      stays_arithmetic (Some o) next (x' ∷ []) p go f = kept p
      stays_arithmetic (Some o) next (x' ∷ x ∷ xs) p go f = through p _ _ (law.stays p _ _) (f _)
      stays_arithmetic None next xs p go f = kept p

      stays_truth : (number offset next target : ℕ) (compare : Compare) (xs : List W) (p : P) (go : State P W → Outcome P W) → KeepsPool go → Stays p (behind a (on_truth a number offset next target compare xs p) go).pool
      stays_truth number offset next target compare [] p go f = kept p
      stays_truth number offset next target compare (x ∷ xs) p go f =
          let z = constant a p 0 in through p z.pool _ (law.stays p _ _) (stays_branched number offset next target xs compare x z.scalar z.pool go f)

      stays_compare : (number offset next target : ℕ) (compare : Compare) (xs : List W) (p : P) (go : State P W → Outcome P W) → KeepsPool go → Stays p (behind a (on_compare a number offset next target compare xs p) go).pool
      stays_compare number offset next target compare [] p go f = kept p
      stays_compare number offset next target compare (x' ∷ []) p go f = kept p
      stays_compare number offset next target compare (x' ∷ x ∷ xs) p go f = stays_branched number offset next target xs compare x x' p go f

      stays_return : (xs : List W) (p : P) (go : State P W → Outcome P W) → Stays p (behind a (on_return a xs p) go).pool
      stays_return [] p go = kept p
      stays_return (x ∷ xs) p go = kept p

      -- what was alike stays so in the last pool, whatever the run does: one case for each row
      stays_row : (code : Code) (number offset next : ℕ) (xs : List W) (p : P) (go : State P W → Outcome P W) → KeepsPool go → Stays p (behind a (row a code number offset next args xs p) go).pool
      stays_row (codes.Nop is_break) number offset next xs p go f = f _
      stays_row (codes.Move move) number offset next xs p go f = stays_move move next xs p go f
      stays_row (codes.Arithmetic operation) number offset next xs p go f = stays_arithmetic (operator_of operation) next xs p go f
      stays_row (codes.Branch target) number offset next xs p go f = f _
      stays_row (codes.BranchTruth when target) number offset next xs p go f = stays_truth number offset next target (truth_compare when) xs p go f
      stays_row (codes.BranchCompare test signed target) number offset next xs p go f = stays_compare number offset next target (compare_of test signed) xs p go f
      stays_row codes.Return number offset next xs p go f = stays_return xs p go
      stays_row (codes.Outside name opcode) number offset next xs p go f = kept p
      stays_row _ number offset next xs p go f = kept p

      stays_step : (i : Option Instr) (number : ℕ) (s : State P W) (go : State P W → Outcome P W) → KeepsPool go → Stays s.pool (behind a (row_at a i number args s) go).pool
      stays_step None number s go f = kept s.pool
      stays_step (Some i) number s go f = stays_row i.code number i.offset i.next s.stack s.pool go f

      pub stays_run : (number n : ℕ) → KeepsPool (run a n method number args)
      unfolding run
      stays_run number zero s = kept s.pool
      stays_run number (suc n) s = stays_step (instr_at method.code s.at) number s (run a n method number args) (stays_run number n)

      moved : (m : Step P W) (m' : Step Q V) (go : State P W → Outcome P W) (go' : State Q V → Outcome Q V) → KeepsPool go
          → ((s : State P W) (t : State Q V) → AlikeStates (all_params method) args args' s t → AlikeRuns (go s) (go' t))
          → AlikeSteps (all_params method) args args' m m' → AlikeRuns (behind a m go) (behind b m' go')
      moved (Goes s) (Goes t) go go' stays on h = on s t h
      moved (Chooses e s) (Chooses f t) go go' stays on h =
          (record { site = h.0.site; side = stays s 32 e.side f.side h.0.side; word = h.0.word; word' = h.0.word'; gap = h.0.gap }, λ same. on s t (h.1 same))
      moved (Ends x p) (Ends y q) go go' stays on h = h
      moved (Stuck p) (Stuck q) go go' stays on h = (h, tt)
      moved _ _ go go' stays on h = absurd h

      step_alike : (i : Option Instr) (number : ℕ) (s : State P W) (t : State Q V) → ((j : Instr) → i ≡ Some j → NamesValue method j.code) → AlikeStates (all_params method) args args' s t
          → AlikeSteps (all_params method) args args' (row_at a i number args s) (row_at b i number args' t)
      step_alike None number s t known h = h.pool
      step_alike (Some i) number s t known h = row_alike i.code number i.offset i.next s.pool t.pool s.stack t.stack (known i refl) h.pool h.arguments h.stack

      -- THE LAW OF WHOLE RUNS
      pub runs_alike : ((at : ℕ) (i : Instr) → instr_at method.code at ≡ Some i → NamesValue method i.code) → (number n : ℕ) (s : State P W) (t : State Q V) → AlikeStates (all_params method) args args' s t
          → AlikeRuns (run a n method number args s) (run b n method number args' t)
      unfolding run
      runs_alike known number zero s t h = (h.pool, (tt, tt))
      runs_alike known number (suc n) s t h =
          let F : ℕ → Type 0 = λ (at : ℕ). AlikeSteps (all_params method) args args' (step a method number args s) (row_at b (instr_at method.code at) number args' t) in
          moved (step a method number args s) (step b method number args' t) (run a n method number args) (run b n method number args')
          (stays_run number n)
          (λ u w k. runs_alike known number n u w k)
          (subst F h.at (step_alike (instr_at method.code s.at) number s t (known s.at) h))
