-- A program runs whole exactly where the test says so.
use Rattle.std.proofs.Common.{◌≡◌, Bool, true, List, [], ◌∷◌, refl}
use Rattle.std.specs.Prelude.{◌↔◌}
use Rattle.std.specs.List.{AllByRecursion, list_all}
use Rattle.std.proofs.lemmas.Bool.{and_parts}
use Rattle.px_program.specs.declared.instr.Instr.{Instr}
use Rattle.px_program.specs.declared.program.Method.{Method}
use Rattle.px_program.specs.declared.program.Program.{Program}
use Rattle.px_asm_law_relink.specs.Linked.{RunsWhole, is_run}
use Rattle.px_asm.specs.Whole.{are_all_run, is_all_run}

each_passes : {X : Type 0} (test : X → Bool) (P : X → Type 0) → ((x : X) → test x ≡ true → P x) → (xs : List X) → list_all test xs ≡ true → AllByRecursion P xs
each_passes test P to [] all = tt
each_passes test P to (x ∷ xs) all = let parts = and_parts (test x) (list_all test xs) all in (to x parts.0, each_passes test P to xs parts.1)

all_pass : {X : Type 0} (test : X → Bool) (P : X → Type 0) → ((x : X) → P x → test x ≡ true) → (xs : List X) → AllByRecursion P xs → list_all test xs ≡ true
all_pass test P from [] each = refl
all_pass test P from (x ∷ xs) each = rw (from x each.0, all_pass test P from xs each.1) refl

Runs : Method → Type 0
Runs method = AllByRecursion (λ (instr : Instr). is_run instr.code ≡ true) method.code

pub all_run : (p : Program) → (are_all_run p.methods ≡ true) ↔ RunsWhole p
unfolding Runs
all_run p = (
  each_passes (λ (method : Method). is_all_run method.code) Runs (λ method. each_passes (λ (instr : Instr). is_run instr.code) _ (λ instr is. is) method.code) p.methods,
  all_pass (λ (method : Method). is_all_run method.code) Runs (λ method. all_pass (λ (instr : Instr). is_run instr.code) _ (λ instr is. is) method.code) p.methods,
)
