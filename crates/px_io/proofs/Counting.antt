-- What it leaves to count a fetch by its answer.
use Rattle.std.proofs.Common.{◌≡◌, ◌≤◌, Result, arith}
use Rattle.std.specs.Prelude.{IfOk, IfErr}
use Rattle.px_io.specs.Counts.{Rose}
use Rattle.px_io.specs.Files.{IsMiss, counts_after}
use Rattle.px_io.specs.declared.shelf.FetchCounts.{FetchCounts}
use Rattle.px_io.specs.declared.shelf.Fetched.{Fetched}
use Rattle.px_io.specs.declared.shelf.FetchFault.{FetchFault}
use Rattle.px_io.specs.declared.shelf.FetchFault.TheVariants.{Failed}

-- a miss is counted
pub missed_after : (answer : Result Fetched FetchFault) (old new : FetchCounts) → new ≡ counts_after old answer → IfOk answer (λ found. IsMiss found → Rose old.misses new.misses)
missed_after answer old new after = grind arith

-- a fault is counted
pub failed_after : (answer : Result Fetched FetchFault) (old new : FetchCounts) → new ≡ counts_after old answer → IfErr answer (λ e. e ≡ Failed → Rose old.faults new.faults)
failed_after answer old new after = grind arith

-- no count falls
pub faults_after : (answer : Result Fetched FetchFault) (old new : FetchCounts) → new ≡ counts_after old answer → old.faults ≤ new.faults
faults_after answer old new after = grind arith

pub misses_after : (answer : Result Fetched FetchFault) (old new : FetchCounts) → new ≡ counts_after old answer → old.misses ≤ new.misses
misses_after answer old new after = grind arith
