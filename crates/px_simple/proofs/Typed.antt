-- In a method that was accepted each instruction finds what it needs, and leads to such an instruction.
use Rattle.std.proofs.Common.{◌≡◌, ◌≢◌, ℕ, zero, suc, ◌+◌, ◌-◌, ◌<◌, ◌≤◌, List, [], ◌∷◌, Bool, true, false, Option, Some, None, refl, sym, ap, ◌∙◌, subst, arith}
use Rattle.std.specs.Prelude.{find, slice_get, not, ◌||◌, ◌==◌, if◌then◌else◌, IsSome}
use Rattle.std.specs.List.{AllByRecursion, list_any, list_all}
use Rattle.px_program.specs.declared.instr.Code.{Code}
use Rattle.px_program.specs.declared.instr.Code.TheVariants as codes
use Rattle.px_program.specs.declared.instr.Instr.{Instr}
use Rattle.px_program.specs.declared.instr.Move.{Move}
use Rattle.px_program.specs.declared.instr.Move.TheVariants as moves
use Rattle.px_program.specs.declared.program.Method.{Method}
use Rattle.px_program.specs.declared.program.Place.{Place}
use Rattle.px_program.specs.declared.program.Place.TheVariants as places
use Rattle.px_program.specs.declared.program.Program.{Program}
use Rattle.px_program.specs.Formed.{all_params, instr_at, Follow, targets_of, is_start, IsFormed, IsFormedIn, HasMethod, HasCode, CanBegin, entry_of}
use Rattle.px_simple.specs.Simple.{taken, is_turn, is_last, is_int32, has_value, is_known, is_target, after, is_fine, has_more, fault_from, fault_in, IsSimple}
use Rattle.px_simple.specs.Typing.{depth_from, At, HasValue, Fits, IsTyped}

-- Tests and equations.

-- cases on a test, with its outcome
by_test : {A : Type 0} (test : Bool) → (test ≡ true → A) → (test ≡ false → A) → A
by_test true holds fails = holds refl
by_test false holds fails = fails refl

same_number : (m n : ℕ) → m ≡ n → (m == n) ≡ true
same_number m n e = grind arith

other_number : (m n : ℕ) → m < n → (m == n) ≡ false
other_number m n h = grind arith

number_of : (m n : ℕ) → (m == n) ≡ true → m ≡ n
number_of m n h = grind arith

some_same : {A : Type 0} (x y : A) → Some x ≡ Some y → x ≡ y
some_same x y e = cc

-- What is found in a list is an element of it.

-- what holds of each element holds of the one at an index
all_get : {X : Type 0} (P : X → Type 0) (xs : List X) (n : ℕ) (x : X) → AllByRecursion P xs → slice_get xs n ≡ Some x → P x
all_get P [] n x all h = absurd (cc)
all_get P (y ∷ ys) zero x all h = subst P (some_same y x h) all.0
all_get P (y ∷ ys) (suc n) x all h = all_get P ys n x all.1 h

-- it passes what all pass
all_found : (p q : Instr → Bool) (xs : List Instr) (x : Instr) → list_all p xs ≡ true → find q xs ≡ Some x → p x ≡ true
all_found p q [] x all h = absurd (cc)
all_found p q (y ∷ ys) x all h =
    by_test (q y)
    (λ e. subst (λ z. p z ≡ true) (some_same y x (rw e at h)) (grind arith))
    (λ e. all_found p q ys x (grind arith) (rw e at h))

-- and what it passes, some element does
any_found : (p q : Instr → Bool) (xs : List Instr) (x : Instr) → p x ≡ true → find q xs ≡ Some x → list_any p xs ≡ true
any_found p q [] x here h = absurd (cc)
any_found p q (y ∷ ys) x here h =
    by_test (q y)
    (λ e. let first : p y ≡ true = ap p (some_same y x (rw e at h)) ∙ here in rw first refl)
    (λ e. let later : list_any p ys ≡ true = any_found p q ys x here (rw e at h) in grind arith)

-- a number that stands in a list passes what all pass
all_at : (p : ℕ → Bool) (xs : List ℕ) (n : ℕ) → list_all p xs ≡ true → list_any (λ x. x == n) xs ≡ true → p n ≡ true
all_at p [] n all h = absurd (cc)
all_at p (x ∷ xs) n all h =
    by_test (x == n)
    (λ e. subst (λ y. p y ≡ true) (number_of x n e) (grind arith))
    (λ e. all_at p xs n (grind arith) (rw e at h))

-- What the test of an instruction says.

pub record Fine (method : Method) (code : Code) (offset depth : ℕ) (more : Bool) : Type 0 where
  pub known : is_known method code ≡ true
  pub operands : taken code ≤ depth
  pub turn : (not (is_turn code) || (after depth code == 0)) ≡ true
  pub last : (more || is_last code) ≡ true
  pub target : ((depth == 0) || not (is_target method.code offset)) ≡ true

fine_says : (method : Method) (i : Instr) (depth : ℕ) (more : Bool)
    → is_fine method i depth more ≡ true → Fine method i.code i.offset depth more
unfolding is_fine
fine_says method i depth more h = grind arith

-- where no fault is given, the test held and none comes later
guard : (test : Bool) (later : Option ℕ) (here : ℕ)
    → (if test then later else Some here) ≡ None → (test ≡ true) × (later ≡ None)
guard true later here h = (refl, h)
guard false later here h = absurd (cc)

-- The walk of a list that nothing is refused in.

-- it comes to an offset with so many operands: an instruction stands there and is fine, and the walk goes on behind it
pub record Comes (method : Method) (from depth : ℕ) (code : List Instr) (at here : ℕ) : Type 0 where
  pub instr : Instr
  pub more : Bool
  pub found : instr_at code at ≡ Some instr
  pub stands : instr.offset ≡ at
  pub behind : from ≤ at
  pub rises : at < instr.next
  pub fine : is_fine method instr here more ≡ true
  pub next : more ≡ true → depth_from depth code instr.next ≡ Some (after here instr.code)

-- behind the first instruction the walk comes to the next one
next_here : (from depth : ℕ) (i : Instr) (rest : List Instr)
    → Follow from (i ∷ rest) → has_more rest ≡ true → depth_from depth (i ∷ rest) i.next ≡ Some (after depth i.code)
next_here from depth i [] follow more = absurd (cc)
next_here from depth i (j ∷ rest) follow more =
    let apart : (i.offset == i.next) ≡ false = other_number i.offset i.next (omega (arith, follow.0, follow.1)) in
    rw (apart, same_number j.offset i.next follow.2.0) refl

-- the walk's first instruction is there
comes_here : (method : Method) (from depth : ℕ) (i : Instr) (rest : List Instr) (at here : ℕ)
    → Follow from (i ∷ rest) → is_fine method i depth (has_more rest) ≡ true → (i.offset == at) ≡ true
    → depth_from depth (i ∷ rest) at ≡ Some here → Comes method from depth (i ∷ rest) at here
comes_here method from depth i rest at here follow fine e h =
    let stands : i.offset ≡ at = number_of i.offset at e in
    let same : depth ≡ here = some_same depth here (rw e at h) in
    record {
      instr = i;
      more = has_more rest;
      found = rw e refl;
      stands = stands;
      behind = omega (arith, follow.0);
      rises = omega (arith, follow.0, follow.1);
      fine = subst (λ d. is_fine method i d (has_more rest) ≡ true) same fine;
      next = λ more. next_here from depth i rest follow more ∙ ap (λ d. Some (after d i.code)) same;
    }

-- a later one is
comes_later : (method : Method) (from depth : ℕ) (i : Instr) (rest : List Instr) (at here : ℕ)
    → Follow from (i ∷ rest) → (i.offset == at) ≡ false
    → Comes method i.next (after depth i.code) rest at here → Comes method from depth (i ∷ rest) at here
comes_later method from depth i rest at here follow e c =
    let apart : (i.offset == c.instr.next) ≡ false =
    other_number i.offset c.instr.next (omega (arith, follow.0, follow.1, c.behind, c.rises)) in
    record {
      instr = c.instr;
      more = c.more;
      found = rw e c.found;
      stands = c.stands;
      behind = omega (arith, follow.1, c.behind);
      rises = c.rises;
      fine = c.fine;
      next = λ more. rw apart (c.next more);
    }

comes : (method : Method) (from depth : ℕ) (code : List Instr) (at here : ℕ)
    → Follow from code → fault_from method depth code ≡ None → depth_from depth code at ≡ Some here
    → Comes method from depth code at here
comes method from depth [] at here follow fine h = absurd (cc)
comes method from depth (i ∷ rest) at here follow fine h =
    let behind = after depth i.code in
    let both : (is_fine method i depth (has_more rest) ≡ true) × (fault_from method behind rest ≡ None) =
    guard (is_fine method i depth (has_more rest)) (fault_from method behind rest) i.offset fine in
    by_test (i.offset == at)
    (λ e. comes_here method from depth i rest at here follow both.0 e h)
    (λ e. comes_later method from depth i rest at here follow e (comes method i.next behind rest at here follow.2 both.1 (rw e at h)))

-- it comes to each start
started : (depth : ℕ) (code : List Instr) (at : ℕ)
    → is_start code at ≡ true → (here : ℕ) × (depth_from depth code at ≡ Some here)
started depth [] at h = absurd (cc)
started depth (i ∷ rest) at h =
    by_test (i.offset == at)
    (λ e. (depth, rw e refl))
    (λ e. let later : (here : ℕ) × (depth_from (after depth i.code) rest at ≡ Some here) =
    started (after depth i.code) rest at (rw e at h) in (later.0, rw e later.1))

-- it begins with no operands
begun : (code : List Instr) → code ≢ [] → Follow 0 code → depth_from 0 code 0 ≡ Some 0
begun [] some follow = absurd (some refl)
begun (i ∷ rest) some follow = rw (same_number i.offset 0 follow.0) refl

-- What an instruction that is fine finds, and where it leads.

int32_place : (place : Option Place) → is_int32 place ≡ true → place ≡ Some places.I4
int32_place None h = absurd (cc)
int32_place (Some places.I4) h = refl
int32_place (Some _) h = absurd (cc)

-- what passes the test of a move is there
valued : (method : Method) (move : Move) → has_value method move ≡ true → HasValue method move
valued method (moves.Argument n) h = int32_place (slice_get (all_params method) n) h
valued method (moves.Constant32 pattern) h = grind arith
valued method _ h = absurd (cc)

-- along an equation of depths
at_depth : (method : Method) (at m n : ℕ) → m ≡ n → At method at m → At method at n
at_depth method at m n e h = h ∙ ap (λ d. Some d) e

-- a target that is fine has no operands
zero_there : (depth : ℕ) (target : Bool) → ((depth == 0) || not target) ≡ true → target ≡ true → depth ≡ 0
zero_there depth target h e = grind arith

module _ (method : Method) (offset next depth : ℕ) (more : Bool) where
  -- the walk goes on to the next instruction, and it comes to each target with no operands
  pub record Leads (code : Code) : Type 0 where
    pub goes : more ≡ true → At method next (after depth code)
    pub jumps : (target : ℕ) → list_any (λ t. t == target) (targets_of code) ≡ true → At method target 0

  -- what doesn't end the flow goes on
  goes_on : (code : Code) (behind : ℕ) → Fine method code offset depth more → Leads code
      → is_last code ≡ false → after depth code ≡ behind → At method next behind
  goes_on code behind fine leads ends e = at_depth method next (after depth code) behind e (leads.goes (grind (arith, fine.last)))

  -- a branch leaves nothing
  jumps_to : (code : Code) (target behind : ℕ) → Leads code
      → list_any (λ t. t == target) (targets_of code) ≡ true → 0 ≡ behind → At method target behind
  jumps_to code target behind leads aimed e = at_depth method target 0 behind e (leads.jumps target aimed)

  -- a branch aims at its target
  aims : (target : ℕ) → list_any (λ t. t == target) (target ∷ []) ≡ true
  aims target = rw (same_number target target refl) refl

  -- no other instruction may stand
  unknown : false ≡ true → ⊥
  unknown h = cc

  -- a case for each row
  fits : (code : Code) → Fine method code offset depth more → Leads code → Fits method next depth code
  fits (codes.Nop is_break) fine leads = goes_on (codes.Nop is_break) depth fine leads refl (omega arith)
  fits (codes.Move move) fine leads =
      (valued method move fine.known, goes_on (codes.Move move) (depth + 1) fine leads refl (omega arith))
  fits (codes.Arithmetic operation) fine leads =
      (fine.known, fine.operands, goes_on (codes.Arithmetic operation) (depth - 1) fine leads refl (omega (arith, fine.operands)))
  fits (codes.Branch target) fine leads = jumps_to (codes.Branch target) target depth leads (aims target) (grind (arith, fine.turn))
  fits (codes.BranchTruth when target) fine leads =
      let code = codes.BranchTruth when target in (
        fine.operands,
        goes_on code (depth - 1) fine leads refl (omega arith),
        jumps_to code target (depth - 1) leads (aims target) (grind (arith, fine.turn)),
      )
  fits (codes.BranchCompare test signed target) fine leads =
      let code = codes.BranchCompare test signed target in (
        fine.operands,
        goes_on code (depth - 2) fine leads refl (omega arith),
        jumps_to code target (depth - 2) leads (aims target) (grind (arith, fine.turn)),
      )
  fits codes.Return fine leads = fine.operands
  fits _ fine leads = absurd (unknown fine.known)

-- Methods that were accepted.

module _ (method : Method) (some : method.code ≢ []) (formed : IsFormed method) (accepted : fault_from method 0 method.code ≡ None) where
  -- the walk of the whole code
  comes_to : (at depth : ℕ) → At method at depth → Comes method 0 0 method.code at depth
  comes_to at depth h = comes method 0 0 method.code at depth formed.follow accepted h

  fine_at : (at depth : ℕ) (c : Comes method 0 0 method.code at depth) → Fine method c.instr.code c.instr.offset depth c.more
  fine_at at depth c = fine_says method c.instr depth c.more c.fine

  -- a target has no operands
  jump : (at : ℕ) (i : Instr) (target : ℕ) → instr_at method.code at ≡ Some i
      → list_any (λ t. t == target) (targets_of i.code) ≡ true → At method target 0
  jump at i target found aims =
      let starts : list_all (is_start method.code) (targets_of i.code) ≡ true =
      all_found (λ j. list_all (is_start method.code) (targets_of j.code)) (λ j. j.offset == at) method.code i formed.lead found in
      let there : (here : ℕ) × At method target here =
      started 0 method.code target (all_at (is_start method.code) (targets_of i.code) target starts aims) in
      let c : Comes method 0 0 method.code target there.0 = comes_to target there.0 there.1 in
      let aimed : is_target method.code target ≡ true =
      any_found (λ j. list_any (λ t. t == target) (targets_of j.code)) (λ j. j.offset == at) method.code i aims found in
      let none : there.0 ≡ 0 =
      zero_there there.0 (is_target method.code c.instr.offset) (fine_at target there.0 c).target (ap (is_target method.code) c.stands ∙ aimed) in
      at_depth method target there.0 0 none there.1

  -- each instruction finds what it needs, and leads on
  each : (at depth : ℕ) (i : Instr) → At method at depth → instr_at method.code at ≡ Some i → Fits method i.next depth i.code
  each at depth i h found =
      let c : Comes method 0 0 method.code at depth = comes_to at depth h in
      let leads : Leads method c.instr.offset c.instr.next depth c.more c.instr.code =
      record { goes = c.next; jumps = λ target aims. jump at c.instr target c.found aims } in
      let here : Fits method c.instr.next depth c.instr.code =
      fits method c.instr.offset c.instr.next depth c.more c.instr.code (fine_at at depth c) leads in
      subst (λ j. Fits method j.next depth j.code) (some_same c.instr i (sym c.found ∙ found)) here

  typed : IsTyped method
  typed = record {
    start = begun method.code some formed.follow;
    there = λ at depth h. subst (λ o. IsSome o) (sym (comes_to at depth h).found) refl;
    each = each;
  }

-- the entry of a program that was accepted
pub entry_typed : (program : Program) (entry : Method) → IsSimple program → entry_of program ≡ Some entry → IsTyped entry
entry_typed program entry simple found =
    let begins : HasMethod (CanBegin program) program program.entry = simple.formed.entry in
    let same : begins.method ≡ entry = some_same begins.method entry (sym begins.at ∙ found) in
    let formed : IsFormedIn program entry = all_get (IsFormedIn program) program.methods program.entry entry simple.formed.methods found in
    typed entry (subst HasCode same begins.is.code) formed.formed (ap fault_in (sym found) ∙ simple.fine)
