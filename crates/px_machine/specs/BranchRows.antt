-- Rows of comparisons, branches and checks (Partition III, 3).
use Rattle.std.specs.Prelude.{ℕ, suc, ◌==◌, ◌&&◌, not, Bool, true, false, if◌then◌else◌, List, [], ◌∷◌, length, Option, Some, None}
use Rattle.px_words.specs.declared.Op.TheVariants as op
use Rattle.px_cells.specs.Algebra.{Algebra, Made}
use Rattle.px_rank.specs.Distance.{gap_of}
use Rattle.px_program.specs.declared.instr.Check.{Check}
use Rattle.px_program.specs.declared.instr.Check.TheVariants as checks
use Rattle.px_program.specs.declared.instr.Compare.{Compare}
use Rattle.px_program.specs.declared.instr.Test.{Test}
use Rattle.px_program.specs.declared.instr.Test.TheVariants as tests
use Rattle.px_program.specs.declared.record.End.{End}
use Rattle.px_program.specs.declared.record.End.TheVariants as ends
use Rattle.px_program.specs.declared.record.SiteKind.{SiteKind}
use Rattle.px_program.specs.declared.record.SiteKind.TheVariants as sites
use Rattle.px_machine.specs.Numbers.{is_wide}
use Rattle.px_machine.specs.declared.entry.Entry.{Entry}
use Rattle.px_machine.specs.declared.entry.Entry.TheVariants as entry
use Rattle.px_machine.specs.declared.entry.NumberKind.TheVariants.{I}
use Rattle.px_machine.specs.State.{Here, Step, Ends}
use Rattle.px_machine.specs.Parts.{compare_at, landing, nth_target, same_reference, is_null}
use Rattle.px_machine.specs.Scalars.{constant, on_two, condition}
use Rattle.px_machine.specs.Steps.{goes_to, goes_on, pushes, comes_to, on_entry, on_number, on_pair}

module _ {P W : Type 0} (a : Algebra P W) where
  -- COMPARISONS

  -- what a comparison of references says: `ceq` whether they are one, and `cgt.un` whether the first is another one and not null
  abbrev pub reference_test : Test → Bool → Bool → Bool
  reference_test tests.Eq first_null one = one
  reference_test _ first_null one = not first_null && not one

  abbrev pub compare_numbers : Here W → Test → Bool → Entry W → Entry W → List (Entry W) → P → Step P W
  compare_numbers here test signed x y rest pool = on_pair a (y ∷ x ∷ rest) pool (λ kind first second below.
      pushes a here I below (condition a (compare_at test signed (is_wide kind)) first second.scalar second.pool))

  abbrev pub compare_entries : Here W → Test → Bool → Option Bool → Entry W → Entry W → List (Entry W) → P → Step P W
  compare_entries here test signed None x y rest pool = compare_numbers here test signed x y rest pool
  compare_entries here test signed (Some one) x y rest pool = pushes a here I rest (constant a false (if reference_test test (is_null x) one then 1 else 0) pool)

  abbrev pub compare_row : Here W → Test → Bool → List (Entry W) → P → Step P W
  compare_row here test signed stack pool = on_entry a stack pool (λ y below. on_entry a below pool (λ x rest. compare_entries here test signed (same_reference x y) x y rest pool))

  -- BRANCHES

  -- a branch where the comparison of two numbers holds, with the distance from its other side
  abbrev pub branches : Here W → ℕ → Compare → W → Made P W → List (Entry W) → Step P W
  branches here target compare x y rest =
      comes_to a here sites.Branch 2 (gap_of compare (a.word x) (a.word y.scalar)) (condition a compare x y.scalar y.pool) (λ side pool. goes_to a here (landing side here.next target) rest pool)

  -- a branch that is known, as one on references
  abbrev pub known_branch : Here W → ℕ → Bool → List (Entry W) → P → Step P W
  known_branch here target jumps rest pool = comes_to a here sites.Branch 2 1 (constant a false (if jumps then 1 else 0) pool) (λ side after. goes_to a here (landing side here.next target) rest after)

  abbrev pub truth_test : Bool → Test
  truth_test true = tests.Ne
  truth_test false = tests.Eq

  abbrev pub truth_entry : Here W → Bool → ℕ → Entry W → List (Entry W) → P → Step P W
  truth_entry here when target (entry.Number kind x) rest pool = branches here target (compare_at (truth_test when) true (is_wide kind)) x (constant a (is_wide kind) 0 pool) rest
  truth_entry here when target entry.Null rest pool = known_branch here target (not when) rest pool
  truth_entry here when target (entry.Cell number) rest pool = known_branch here target when rest pool

  abbrev pub truth_row : Here W → Bool → ℕ → List (Entry W) → P → Step P W
  truth_row here when target stack pool = on_entry a stack pool (λ x rest. truth_entry here when target x rest pool)

  abbrev pub is_equal : Test → Bool → Bool
  is_equal tests.Eq one = one
  is_equal _ one = not one

  abbrev pub branch_entries : Here W → Test → Bool → ℕ → Option Bool → Entry W → Entry W → List (Entry W) → P → Step P W
  branch_entries here test signed target None x y rest pool = on_pair a (y ∷ x ∷ rest) pool (λ kind first second below. branches here target (compare_at test signed (is_wide kind)) first second below)
  branch_entries here test signed target (Some one) x y rest pool = known_branch here target (is_equal test one) rest pool

  abbrev pub branch_row : Here W → Test → Bool → ℕ → List (Entry W) → P → Step P W
  branch_row here test signed target stack pool = on_entry a stack pool (λ y below. on_entry a below pool (λ x rest. branch_entries here test signed target (same_reference x y) x y rest pool))

  -- side 0 where the number, read unsigned, has no target, and else the target's number, counted from 1
  abbrev pub switch_side : ℕ → W → P → Made P W
  switch_side count x pool =
      let inside = on_two a (op.LtU false) x (constant a false count pool) in
      let one = constant a false 1 inside.pool in
      let next = on_two a (op.Add false) x one in
      let none = constant a false 0 next.pool in
      a.applied none.pool (op.Ite false) (inside.scalar ∷ next.scalar ∷ none.scalar ∷ [])

  abbrev pub switch_row : Here W → List ℕ → List (Entry W) → P → Step P W
  switch_row here targets stack pool = on_number a stack pool (λ kind x rest.
      comes_to a here sites.Switch (suc (length targets)) 1 (switch_side (length targets) x pool) (λ side after. goes_to a here (nth_target here.next targets side) rest after))

  -- the two checks fail where their argument is 0
  abbrev pub check_site : Check → SiteKind
  check_site checks.Assume = sites.Assume
  check_site checks.Assert = sites.Assert

  abbrev pub check_end : Check → End
  check_end checks.Assume = ends.Assumed
  check_end checks.Assert = ends.AssertFailed

  abbrev pub check_row : Here W → Check → List (Entry W) → P → Step P W
  check_row here check stack pool = on_number a stack pool (λ kind x rest.
      comes_to a here (check_site check) 2 1 (on_two a (op.Eq false) x (constant a false 0 pool)) (λ side after. if side == 0 then goes_on a here rest after else Ends (check_end check) after))
