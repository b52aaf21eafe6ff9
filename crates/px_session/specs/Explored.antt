-- What running every tuple of a domain found.
use Rattle.std.specs.Prelude.{◌≢◌, ℕ, ◌+◌, ◌*◌, ◌<◌, ◌≤◌, ◌^◌, List, [], length}
use Rattle.std.specs.List.{AllByRecursion}
use Rattle.px_domain.specs.declared.domain.Part.{Part}
use Rattle.px_domain.specs.Domain.{InDomain}
use Rattle.px_interp.specs.Run.{Stands, path_of}
use Rattle.px_program.specs.declared.program.Program.{Program}
use Rattle.px_program.specs.declared.record.Bounds.{Bounds}
use Rattle.px_program.specs.declared.record.Record.{Record}
use Rattle.px_tree.specs.Tree.{AreDistinct, HasPath, paths_of}

-- There is a record; the records stand, their paths are distinct, and every words of the domain have one of the paths.
pub record IsExplored (program : Program) (domain : List Part) (bounds : Bounds) (records : List Record) : Type 0 where
  pub some : records ≢ []
  pub stand : AllByRecursion (Stands program domain bounds) records
  pub distinct : AreDistinct (paths_of records)
  pub complete : (words : List ℕ) → InDomain domain words → HasPath (paths_of records) (path_of program domain bounds words)
  pub few : length records < 2 ^ 32
  pub short : AllByRecursion (λ r. length r.events ≤ 2 * bounds.steps + 16) records
