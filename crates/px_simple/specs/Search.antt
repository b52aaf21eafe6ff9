-- Ordered lists of the targets of branches, which are searched.
use Rattle.std.specs.Prelude.{◌≡◌, ℕ, List, ◌==◌}
use Rattle.std.specs.List.{flat_map, list_any}
use Rattle.std.specs.List.Sorted.{IsNonDecreasing}
use Rattle.px_program.specs.declared.instr.Instr.{Instr}
use Rattle.px_program.specs.Formed.{targets_of}
use Rattle.px_simple.specs.Simple.{is_target}

-- the targets of all branches, in the order of the code
abbrev pub all_targets : List Instr → List ℕ
all_targets code = flat_map (λ i. targets_of i.code) code

-- the numbers rise, and they are those to which some branch leads
pub record AreTargets (code : List Instr) (targets : List ℕ) : Type 0 where
  pub rise : IsNonDecreasing targets
  pub same : (at : ℕ) → list_any (λ target. target == at) targets ≡ is_target code at
