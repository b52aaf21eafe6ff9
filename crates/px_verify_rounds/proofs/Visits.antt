-- What visits do to a table and a worklist, and how rounds end.
use Rattle.std.proofs.Common.{◌≡◌, ℕ, zero, suc, ◌+◌, ◌<◌, ◌≤◌, ◌⊎◌, inl, inr, true, false, List, [], ◌∷◌, length, drop, Option, Some, None, Ok, refl, ap, sym, ◌∙◌, subst, arith, add-one, drop-cons}
use Rattle.std.specs.Prelude.{IsTrue, slice_index}
use Rattle.std.specs.BTreeSet.{BTreeSet, btree_set_len}
use Rattle.std.specs.BTreeMap.{is_at}
use Rattle.std.specs.List.{AllByRecursion, list_any}
use Rattle.std.specs.Ordering.{nat_cmp}
use Rattle.std.proofs.lemmas.Bool.Decides.{eqb_tells}
use Rattle.std.proofs.lemmas.Bool.{cases_lt}
use Rattle.px_program.specs.Formed.{AreTypes, Follow, instr_at}
use Rattle.px_program.specs.declared.instr.Instr.{Instr}
use Rattle.px_program.specs.declared.program.Method.{Method}
use Rattle.px_program.specs.declared.program.Program.{Program}
use Rattle.px_program.specs.declared.program.TypeInfo.{TypeInfo}
use Rattle.px_verify_kinds.specs.Stacks.{kinds_of}
use Rattle.px_verify_kinds.specs.declared.kind.Kind.{Kind}
use Rattle.px_verify_kinds.specs.declared.stacks.Cell.{Cell}
use Rattle.px_verify_kinds.specs.declared.stacks.Stack.{Stack}
use Rattle.px_verify_flow.specs.Leaving.{successors}
use Rattle.px_verify_rounds.specs.Rounds.{Awaits, Begun, Between, Gave, Gives, InRound, IsIn, IsLow, IsOver, Keeps, Moves, Puts, Rounds, Spreads, Takes, Visits, Waits, highest, one_in, sweep_from, to_do}
use Rattle.px_verify_rounds.specs.Table.{IsQuiet, IsTable, Table, begun, give_all, give_outcome, one, outcome_at, round, stack_at}
use Rattle.px_verify_rounds.specs.Typings.{GivesAs}
use Rattle.px_verify_rounds.specs.declared.typing.Given.TheVariants as givens
use Rattle.px_verify_rounds.specs.declared.worklist.Worklist.{Worklist}
use Rattle.px_verify_rounds.proofs.Begins.{outcome_low}
use Rattle.px_verify_rounds.proofs.Gives.{Laws, stack_apart}
use Rattle.px_verify_rounds.proofs.Sweeps.{each_maps, follow_from, none_left, pass_over, quiet_itself, quiet_other, round_left, rounds_more, visit_none, visit_one}

-- MOVES

pub keeps_itself : (from : ℕ) (work : Worklist) → Keeps from work work
keeps_itself from work = record { now = λ at is. is; later = λ at is. is; behind = λ at is. inl is }

pub keeps_on : (from : ℕ) (old between new : Worklist) → Keeps from old between → Keeps from between new → Keeps from old new
keeps_on from old between new first second = record {
  now = λ at is. second.now at (first.now at is);
  later = λ at is. second.later at (first.later at is);
  behind = λ at is. elim (second.behind at is) [ inl before ↦ first.behind at before | inr behind ↦ inr behind ];
}

pub waits_on : (from at : ℕ) (old new : Worklist) → Keeps from old new → Waits from old at → Waits from new at
waits_on from at old new keeps waits = (λ behind. keeps.now at (waits.0 behind), λ before. keeps.later at (waits.1 before))

pub moves_itself : (types : List TypeInfo) (most from : ℕ) (table : Table) (work : Worklist) → Moves types most from table work table work
moves_itself types most from table work = record { marks = λ at. inl refl; keeps = keeps_itself from work; no_more = omega arith }

pub moves_on : (types : List TypeInfo) (most from : ℕ) (old between new : Table) (work mid after : Worklist) → Moves types most from old work between mid → Moves types most from between mid new after → Moves types most from old work new after
moves_on types most from old between new work mid after first second = record {
  marks = λ at. elim (second.marks at) [
    | inl same ↦ elim (first.marks at) [ inl before ↦ inl (same ∙ before) | inr waits ↦ inr (waits_on from at mid after second.keeps waits) ]
    | inr waits ↦ inr waits
  ];
  keeps = keeps_on from work mid after first.keeps second.keeps;
  no_more = omega (arith, first.no_more, second.no_more);
}

-- GIFTS

-- one that changes what stands at an offset
pub spread_changed : (types : List TypeInfo) (from at : ℕ) (given : List Kind) (old new : Table) (work after : Worklist) → Gave types given at old new true → Puts from at work after → Spreads types from given (at ∷ []) old work new after
spread_changed types from at given old new work after gave puts = record {
  table = gave.table;
  moves = λ most low. record {
    marks = λ q. elim (eqb_tells q at) [
      | inl same ↦ inr (subst (Waits from after) (sym same.1) puts.waits)
      | inr apart ↦ inl (ap (λ t. stack_at t q) gave.table ∙ stack_apart types given old at q apart.1)
    ];
    keeps = puts.keeps;
    no_more = elim low [
      | inl less ↦ omega (arith, gave.falls refl most less, puts.few)
      | inr none ↦ absurd (cc)
    ];
  };
}

-- one that doesn't
pub spread_still : (types : List TypeInfo) (from at : ℕ) (given : List Kind) (old new : Table) (work : Worklist) → Gave types given at old new false → Spreads types from given (at ∷ []) old work new work
spread_still types from at given old new work gave = record {
  table = gave.table;
  moves = λ most low. subst (λ (t : Table). Moves types most from old work t work) (sym (gave.still refl)) (moves_itself types most from old work);
}

-- after the first so many
pub record Spreading (types : List TypeInfo) (from : ℕ) (given : List Kind) (to : List ℕ) (old : Table) (work : Worklist) (index : ℕ) (table : Table) (left : Worklist) : Type 0 where
  pub rest : give_all types given table (drop index to) ≡ give_all types given old to
  pub moves : (most : ℕ) → IsLow types given to most → Moves types most from old work table left

pub spreading_start : (types : List TypeInfo) (from : ℕ) (given : List Kind) (to : List ℕ) (old : Table) (work : Worklist) → Spreading types from given to old work 0 old work
spreading_start types from given to old work = record { rest = refl; moves = λ most low. moves_itself types most from old work }

pub spreading_step : (types : List TypeInfo) (from : ℕ) (given : List Kind) (to : List ℕ) (old table new : Table) (work left after : Worklist) (index : ℕ) → index < length to
    → Spreading types from given to old work index table left → Spreads types from given (slice_index to index ∷ []) table left new after → Spreading types from given to old work (index + 1) new after
spreading_step types from given to old table new work left after index within before spreads = record {
  rest = let e : give_all types given table (drop index to) ≡ give_all types given new (drop (index + 1) to) = rw (drop-cons to index 0 within, spreads.table, add-one) refl in sym e ∙ before.rest;
  moves = λ most low.
      let lower : IsLow types given (slice_index to index ∷ []) most = elim low [
        | inl less ↦ inl less
        | inr none ↦ absurd (omega (arith, ap length none))
      ] in
      moves_on types most from old table new work left after (before.moves most low) (spreads.moves most lower);
}

drop_all : {X : Type 0} (xs : List X) → drop (length xs) xs ≡ []
drop_all [] = refl
drop_all (x ∷ xs) = drop_all xs

pub spreading_end : (types : List TypeInfo) (from : ℕ) (given : List Kind) (to : List ℕ) (old table : Table) (work left : Worklist) (index : ℕ) → length to ≤ index → index ≤ length to
    → Spreading types from given to old work index table left → Spreads types from given to old work table left
spreading_end types from given to old table work left index past within all =
    let is : index ≡ length to = omega arith in
    let none : drop index to ≡ [] = ap (λ n. drop n to) is ∙ drop_all to in
    record { table = sym (ap (give_all types given table) none) ∙ all.rest; moves = all.moves }

-- VISITS

gives_stack : (program : Program) (method : Method) (i : Instr) (given : List Kind) (old new : Table) (work after : Worklist) → IsLow program.types given (successors i) (highest program.types method)
    → outcome_at program method old i ≡ Some (Ok given) → Spreads program.types i.offset given (successors i) old work new after → Gives program method i old work new after
gives_stack program method i given old new work after low e spreads = record {
  table = spreads.table ∙ sym (ap (give_outcome program.types old (successors i)) e);
  moves = spreads.moves (highest program.types method) low;
}

-- the same, seen where the stack stands behind other cells
pub gives_given : (program : Program) (method : Method) (i : Instr) (cells : List Cell) (given : Stack) (to : List ℕ) (old seen new : Table) (work after : Worklist) → Laws → AreTypes program.types
    → GivesAs cells (givens.Stack given) (outcome_at program method old i) → seen ≡ old → to ≡ successors i → Spreads program.types i.offset (kinds_of cells given) to seen work new after → Gives program method i old work new after
gives_given program method i cells given to old seen new work after laws are gives same is spreads =
    gives_stack program method i (kinds_of cells given) old new work after (outcome_low program method old i (kinds_of cells given) laws are gives.0) gives.0
    (subst (λ (t : Table). Spreads program.types i.offset (kinds_of cells given) (successors i) t work new after) same
    (subst (λ (xs : List ℕ). Spreads program.types i.offset (kinds_of cells given) xs seen work new after) is spreads))

offset_at : (code : List Instr) (at : ℕ) (i : Instr) → instr_at code at ≡ Some i → i.offset ≡ at
offset_at [] at i e = absurd (cc)
offset_at (x ∷ more) at i e = elim (eqb_tells x.offset at) [
  | inl same ↦ let here : Some x ≡ Some i = rw same.0 at e in let is : x ≡ i = cc in ap (λ (y : Instr). y.offset) (sym is) ∙ same.1
  | inr apart ↦ offset_at more at i (rw apart.0 at e)
]

pub visits_one : (program : Program) (method : Method) (at : ℕ) (i : Instr) (old new : Table) (work after : Worklist) → Some i ≡ instr_at method.code at → Gives program method i old work new after → Visits program method at old work new after
visits_one program method at i old new work after e gives = record {
  table = gives.table ∙ ap (one_in program method old) e;
  moves = subst (λ n. Moves program.types (highest program.types method) n old work new after) (offset_at method.code at i (sym e)) gives.moves;
}

pub visits_none : (program : Program) (method : Method) (at : ℕ) (table : Table) (work : Worklist) → None ≡ instr_at method.code at → Visits program method at table work table work
visits_none program method at table work e = record {
  table = ap (one_in program method table) e;
  moves = moves_itself program.types (highest program.types method) at table work;
}

-- ROUNDS

all_both : {X : Type 0} (P Q R : X → Type 0) (xs : List X) → ((x : X) → P x → Q x → R x) → AllByRecursion P xs → AllByRecursion Q xs → AllByRecursion R xs
all_both P Q R [] f first second = tt
all_both P Q R (x ∷ xs) f first second = (f x first.0 second.0, all_both P Q R xs f first.1 second.1)

-- each instruction is the one that stands at its offset
pub each_at : (start : ℕ) (code : List Instr) → Follow start code → AllByRecursion (λ i. instr_at code i.offset ≡ Some i) code
each_at start [] follow = tt
each_at start (x ∷ more) follow = (
  elim (eqb_tells x.offset x.offset) [ inl same ↦ rw same.0 refl | inr apart ↦ absurd (apart.1 refl) ],
  all_both (λ i. x.next ≤ i.offset) (λ i. instr_at more i.offset ≡ Some i) (λ i. instr_at (x ∷ more) i.offset ≡ Some i) more
      (λ i behind at. elim (eqb_tells x.offset i.offset) [
        | inl same ↦ absurd (omega (arith, follow.0, follow.1, same.1, behind))
        | inr apart ↦ rw apart.0 at
      ])
      (follow_from x.next more follow.2) (each_at x.next more follow.2),
)

pub round_start : (program : Program) (method : Method) (table : Table) (work : Worklist) → Begun program method table work → InRound program method table work table work
round_start program method table work begins = record {
  from = 0;
  rest = round_left program method table;
  ahead = each_maps (Awaits program method table work.now) (λ i. 0 ≤ i.offset → Awaits program method table work.now i) method.code (λ i awaits le. awaits) begins.waits;
  done = each_maps (Awaits program method table work.now) (λ i. i.offset < 0 → Awaits program method table work.later i) method.code (λ i awaits less. absurd (omega arith)) begins.waits;
  behind = λ at is. omega arith;
  no_more = omega arith;
  less = inl begins.some;
}

-- one that was quiet and whose stack stays is so after a visit
still_quiet : (program : Program) (method : Method) (table : Table) (at : Option Instr) (j : Instr) → Laws → AreTypes program.types
    → stack_at (one_in program method table at) j.offset ≡ stack_at table j.offset → IsQuiet program method table j → IsQuiet program method (one_in program method table at) j
still_quiet program method table None j laws are same quiet = quiet
still_quiet program method table (Some i) j laws are same quiet = quiet_other program method table i j laws are same quiet

module _ (program : Program) (method : Method) (start : Table) (work : Worklist) (table new : Table) (left popped after : Worklist) (at : ℕ)
    (laws : Laws) (are : AreTypes program.types) (follow : Follow 0 method.code)
    (before : InRound program method start work table left) (takes : Takes left popped at) (visits : Visits program method at table popped new after) where
  -- what a visit leaves of the round
  rest_visited : (stands : Option Instr) → instr_at method.code at ≡ stands → sweep_from program method at table method.code ≡ sweep_from program method (at + 1) (one_in program method table stands) method.code
  rest_visited None e = visit_none program method at table 0 method.code follow e
  rest_visited (Some i) e = visit_one program method at table 0 method.code i follow e

  -- an instruction that stays quiet or waits, by where it stands
  marked : (j : Instr) → IsQuiet program method table j → IsQuiet program method new j ⊎ Waits at after j.offset
  marked j quiet = elim (visits.moves.marks j.offset) [
    | inl same ↦ inl (subst (λ (t : Table). IsQuiet program method t j) (sym visits.table)
        (still_quiet program method table (instr_at method.code at) j laws are (subst (λ (t : Table). stack_at t j.offset ≡ stack_at table j.offset) visits.table same) quiet))
    | inr waits ↦ inr waits
  ]

  marked_itself : (j : Instr) → instr_at method.code at ≡ Some j → j.offset ≡ at → IsQuiet program method new j ⊎ Waits at after j.offset
  marked_itself j e is =
      let gives : new ≡ one program method table j = visits.table ∙ ap (one_in program method table) e in
      elim (visits.moves.marks j.offset) [
        | inl same ↦ inl (subst (λ (t : Table). IsQuiet program method t j) (sym gives)
            (quiet_itself program method table j laws are (subst (λ (t : Table). stack_at t j.offset ≡ stack_at table j.offset) gives same)))
        | inr waits ↦ inr waits
      ]

  -- those between are quiet
  passed : (j : Instr) → (before.from ≤ j.offset → Awaits program method table left.now j) → before.from ≤ j.offset → j.offset < at → IsQuiet program method table j
  passed j ahead from less = elim (ahead from) [
    | inl waits ↦ elim (takes.now.others j.offset waits) [
      | inl is ↦ absurd (omega arith)
      | inr later ↦ absurd (omega (arith, takes.now.behind j.offset later))
    ]
    | inr quiet ↦ quiet
  ]

  ahead_after : (j : Instr) → (before.from ≤ j.offset → Awaits program method table left.now j) → at + 1 ≤ j.offset → Awaits program method new after.now j
  ahead_after j ahead behind =
      let first : before.from ≤ at = before.behind at takes.now.there in
      let further : at < j.offset = omega arith in
      elim (ahead (omega arith)) [
        | inl waits ↦ elim (takes.now.others j.offset waits) [
          | inl is ↦ absurd (omega arith)
          | inr later ↦ inl (visits.moves.keeps.now j.offset later)
        ]
        | inr quiet ↦ elim (marked j quiet) [
          | inl still ↦ inr still
          | inr waits ↦ inl (waits.0 further)
        ]
      ]

  settled : (j : Instr) → j.offset ≤ at → IsQuiet program method new j ⊎ Waits at after j.offset → Awaits program method new after.later j
  settled j le (inl quiet) = inr quiet
  settled j le (inr waits) = inl (waits.1 le)

  done_after : (j : Instr) → (before.from ≤ j.offset → Awaits program method table left.now j) → (j.offset < before.from → Awaits program method table left.later j) → instr_at method.code j.offset ≡ Some j
      → j.offset < at + 1 → Awaits program method new after.later j
  done_after j ahead done stands less =
      let within : j.offset ≤ at = omega arith in
      elim (cases_lt j.offset before.from) [
        | inl sooner ↦ elim (done sooner) [
          | inl waits ↦ inl (visits.moves.keeps.later j.offset (subst (λ (set : BTreeSet ℕ). IsIn set j.offset) (sym takes.later) waits))
          | inr quiet ↦ settled j within (marked j quiet)
        ]
        | inr behind ↦ elim (cases_lt j.offset at) [
          | inl between ↦ settled j within (marked j (passed j ahead behind between))
          | inr past ↦
              let is : j.offset ≡ at = omega arith in
              settled j within (marked_itself j (ap (instr_at method.code) (sym is) ∙ stands) is)
        ]
      ]

  -- a visit within a round
  pub round_step : InRound program method start work new after
  round_step =
      let first : before.from ≤ at = before.behind at takes.now.there in
      let taken : to_do program.types (highest program.types method) table popped + 1 ≡ to_do program.types (highest program.types method) table left =
      omega (arith, takes.now.one, ap btree_set_len takes.later) in
      record {
        from = at + 1;
        rest =
            ap (λ (t : Table). sweep_from program method (at + 1) t method.code) visits.table
            ∙ sym (rest_visited (instr_at method.code at) refl)
            ∙ sym (pass_over program method before.from at table 0 method.code follow first
            (each_maps (λ j. before.from ≤ j.offset → Awaits program method table left.now j) (λ j. before.from ≤ j.offset → j.offset < at → IsQuiet program method table j) method.code passed before.ahead))
            ∙ before.rest;
        ahead = each_maps (λ j. before.from ≤ j.offset → Awaits program method table left.now j) (λ j. at + 1 ≤ j.offset → Awaits program method new after.now j) method.code ahead_after before.ahead;
        done = all_both (λ j. (before.from ≤ j.offset → Awaits program method table left.now j) × (j.offset < before.from → Awaits program method table left.later j)) (λ j. instr_at method.code j.offset ≡ Some j)
            (λ j. j.offset < at + 1 → Awaits program method new after.later j) method.code
            (λ j known stands. done_after j known.0 known.1 stands)
            (all_both (λ j. before.from ≤ j.offset → Awaits program method table left.now j) (λ j. j.offset < before.from → Awaits program method table left.later j)
            (λ j. (before.from ≤ j.offset → Awaits program method table left.now j) × (j.offset < before.from → Awaits program method table left.later j)) method.code
            (λ j ahead done. (ahead, done)) before.ahead before.done)
            (each_at 0 method.code follow);
        behind = λ q is. elim (visits.moves.keeps.behind q is) [
          | inl waits ↦ omega (arith, takes.now.behind q waits)
          | inr behind ↦ omega arith
        ];
        no_more = omega (arith, visits.moves.no_more, taken, before.no_more);
        less = inr (omega (arith, visits.moves.no_more, taken, before.no_more));
      }

-- the measure of a round falls
pub round_falls : (program : Program) (method : Method) (at : ℕ) (table new : Table) (left popped after : Worklist) → Takes left popped at → Visits program method at table popped new after
    → to_do program.types (highest program.types method) new after < to_do program.types (highest program.types method) table left
round_falls program method at table new left popped after takes visits =
    let taken : to_do program.types (highest program.types method) table popped + 1 ≡ to_do program.types (highest program.types method) table left =
    omega (arith, takes.now.one, ap btree_set_len takes.later) in
    omega (arith, visits.moves.no_more, taken)

-- where none of a round waits any more, it is over
pub round_end : (program : Program) (method : Method) (start : Table) (work : Worklist) (table : Table) (left after : Worklist) → InRound program method start work table left → IsOver left after → Rounds program method start work table after
round_end program method start work table left after all over = record {
  swept = sym (none_left program method all.from table method.code
      (each_maps (λ j. all.from ≤ j.offset → Awaits program method table left.now j) (λ j. all.from ≤ j.offset → IsQuiet program method table j) method.code
      (λ j ahead behind. elim (ahead behind) [ inl waits ↦ absurd (over.nothing j.offset waits) | inr quiet ↦ quiet ]) all.ahead))
      ∙ all.rest;
  waits = all_both (λ j. all.from ≤ j.offset → Awaits program method table left.now j) (λ j. j.offset < all.from → Awaits program method table left.later j) (Awaits program method table after.later) method.code
      (λ j ahead done. elim (cases_lt j.offset all.from) [
        | inl sooner ↦ subst (λ (set : BTreeSet ℕ). Awaits program method table set j) (sym over.later) (done sooner)
        | inr behind ↦ elim (ahead behind) [ inl waits ↦ absurd (over.nothing j.offset waits) | inr quiet ↦ inr quiet ]
      ]) all.ahead all.done;
  none = over.none;
  less = elim all.less [
    | inl some ↦ absurd (omega (arith, over.was, some))
    | inr less ↦ omega (arith, less, ap btree_set_len over.later, over.none)
  ];
}

-- BETWEEN ROUNDS

pub some_left : (n : ℕ) → (n ≡ 0 → IsTrue false) → 0 < n
some_left zero h = absurd (cc (h refl))
some_left (suc n) h = omega arith

-- what waits for the next round is swapped with what waits in none
pub next_begins : (program : Program) (method : Method) (table : Table) (work swapped : Worklist) → Between program method table work → swapped.now ≡ work.later → 0 < btree_set_len work.later → Begun program method table swapped
next_begins program method table work swapped between now some = record {
  waits = each_maps (Awaits program method table work.later) (Awaits program method table swapped.now) method.code (λ j awaits. subst (λ (set : BTreeSet ℕ). Awaits program method table set j) (sym now) awaits) between.waits;
  some = subst (λ (set : BTreeSet ℕ). 0 < btree_set_len set) (sym now) some;
}

pub next_between : (program : Program) (method : Method) (table new : Table) (work swapped after : Worklist) → Between program method table work → Rounds program method table swapped new after → Between program method new after
next_between program method table new work swapped after between one = record {
  count = suc between.count;
  reached = rounds_more program method between.count (begun program method) ∙ ap (round program method) between.reached ∙ sym one.swept;
  waits = one.waits;
  none = one.none;
}

-- where nothing waits, the table is the method's
pub all_settled : (program : Program) (method : Method) (table : Table) (work : Worklist) → Between program method table work → btree_set_len work.later ≡ 0 → IsTable program method table
all_settled program method table work between none = record {
  count = between.count;
  reached = between.reached;
  quiet = each_maps (Awaits program method table work.later) (IsQuiet program method table) method.code (λ j awaits. elim awaits [ inl waits ↦ absurd (none_in work.later.keys j.offset none waits) | inr quiet ↦ quiet ]) between.waits;
}
  where
    none_in : (keys : List ℕ) (at : ℕ) → length keys ≡ 0 → list_any (is_at (nat_cmp at)) keys ≡ true → ⊥
    none_in [] at none is = absurd (cc)
    none_in (x ∷ keys) at none is = absurd (omega arith)

-- the measure falls from round to round
pub rounds_fall : (program : Program) (method : Method) (table new : Table) (work swapped after : Worklist) → swapped.now ≡ work.later → swapped.later ≡ work.now → Rounds program method table swapped new after
    → to_do program.types (highest program.types method) new after < to_do program.types (highest program.types method) table work
rounds_fall program method table new work swapped after now later one = omega (arith, one.less, ap btree_set_len now, ap btree_set_len later)
