-- Findings that are not sound, so that no exploration may answer them.
use Rattle.std.proofs.Common.{◌≡◌, [], ◌∷◌, true, true≢false, ℕ, pos, ap, ⊎_elim, lit<}
use Rattle.px_program.specs.declared.instr.Test.TheVariants.{Eq}
use Rattle.px_program.specs.declared.program.Place.TheVariants.{I4}
use Rattle.px_program.specs.declared.program.Program.{Program}
use Rattle.px_program.specs.declared.record.Bounds.{Bounds}
use Rattle.px_program.specs.declared.record.End.TheVariants.{Returned}
use Rattle.px_program.specs.declared.record.Event.{Event}
use Rattle.px_program.specs.declared.record.Record.{Record}
use Rattle.px_program.specs.declared.record.SiteKind.TheVariants.{Branch}
use Rattle.px_program.specs.declared.record.Value.TheVariants.{Number}
use Rattle.px_program.specs.Alone.{alone}
use Rattle.px_program.specs.Paths.{Path, path_eq}
use Rattle.px_rank.specs.Distance.{distance_of, gap_of}
use Rattle.px_words.specs.Word.{word}
use Rattle.px_domain.specs.declared.domain.Part.TheVariants.{Scalar}
use Rattle.px_interp.specs.Table.{run}
use Rattle.px_tests.specs.declared.findings.Findings.{Findings}
use Rattle.px_tests.specs.Sound.{Sound}
use Rattle.px_facts_run.proofs.Methods.{branch_on, laid_from, ldarg, ldc, method_of, ret}

-- whether the argument is 7
abbrev is_seven : Program
is_seven =
    let code = laid_from 0 ((1, ldarg 0) ∷ (1, ldc 7) ∷ (2, branch_on Eq true 6) ∷ (1, ldc 0) ∷ (1, ret) ∷ (1, ldc 1) ∷ (1, ret) ∷ []) in
    alone [] (method_of (I4 ∷ []) code)

abbrev bounds : Bounds
bounds = record { steps = 2000; depth = 128; length = 16 }

abbrev branch : ℕ → Event
branch side = record { site = record { method = 0; offset = 2; kind = Branch; arity = 2 }; side = side }

-- the run of another number than 7, with its gap
abbrev other : ℕ → ℕ → Record
other word gap = record { words = word ∷ []; events = branch 0 ∷ []; gaps = gap ∷ []; end = Returned (Number 0) }

-- numbers from one to another, and one record, with one side that leads nowhere
abbrev one_record : ℕ → ℕ → Record → Findings
one_record low high r = record {
  domain = Scalar I4 (pos low) (pos high) ∷ [];
  bounds = bounds;
  limits = record { runs = 1000; spent = 64; conflicts = 1000 };
  records = r ∷ [];
  refuted = 1;
}

-- no run of another number has the path of 7
paths_differ : branch 0 ∷ [] ≡ branch 1 ∷ [] → ⊥
paths_differ e = true≢false (ap (λ (path : Path). path_eq (branch 0 ∷ []) path) e)

-- A body that leaves out the first tuple of (7..8) finds only 8.
first_tuple_left_out : Sound is_seven (one_record 7 8 (other 8 1)) → ⊥
unfolding run word gap_of distance_of
first_tuple_left_out s = ⊎_elim paths_differ (λ h. h) (s.complete (7 ∷ []) ((lit< tt, record { le = tt }, record { le = tt }), tt))

-- A body that passes over a new path, that of the tuple of number 7, finds only 0 in (0..7).
new_path_passed_over : Sound is_seven (one_record 0 7 (other 0 7)) → ⊥
unfolding run word gap_of distance_of
new_path_passed_over s = ⊎_elim paths_differ (λ h. h) (s.complete (7 ∷ []) ((lit< tt, record { le = tt }, record { le = tt }), tt))
