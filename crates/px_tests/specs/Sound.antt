-- What a report promises.
use Rattle.std.specs.Prelude.{◌≡◌, ◌≢◌, ℕ, List, [], length}
use Rattle.std.specs.List.{AllByRecursion}
use Rattle.px_domain.specs.Domain.{InDomain}
use Rattle.px_interp.specs.Run.{NoWay, Stands, path_of}
use Rattle.px_program.specs.declared.program.Program.{Program}
use Rattle.px_tests.specs.declared.findings.Findings.{Findings}
use Rattle.px_tree.specs.declared.side.Side.{Side}
use Rattle.px_tree.specs.Tree.{AreDistinct, HasPath, node_of, paths_of, untaken_of}

-- no words of the domain go the way of a side
abbrev pub LeadsNowhere : Program → Findings → Side → Type 0
LeadsNowhere program f side = NoWay program f.domain f.bounds (node_of (paths_of f.records) side) side.side

-- A report of these findings is sound.
pub record Sound (program : Program) (f : Findings) : Type 0 where
  -- there is a test
  pub some : f.records ≢ []
  -- each test is the run of its words, which are in the domain
  pub stand : AllByRecursion (Stands program f.domain f.bounds) f.records
  -- no two tests have one path
  pub distinct : AreDistinct (paths_of f.records)
  -- every words of the domain have the path of a test
  pub complete : (words : List ℕ) → InDomain f.domain words → HasPath (paths_of f.records) (path_of program f.domain f.bounds words)
  -- each side of the tests' tree that no test takes leads nowhere
  pub nowhere : AllByRecursion (LeadsNowhere program f) (untaken_of (paths_of f.records))
  -- and these are the sides that are counted as refuted
  pub counted : f.refuted ≡ length (untaken_of (paths_of f.records))
