-- Which nodes of a path other paths pass, and the sides that it adds.
use Rattle.std.specs.Prelude.{◌≡◌, ℕ, suc, ◌<◌, Bool, false, List, [], ◌∷◌, if◌then◌else◌, length, take}
use Rattle.std.specs.List.{list_any}
use Rattle.px_program.specs.Paths.{Path, event_eq}
use Rattle.px_tree.specs.declared.side.Side.{Side}
use Rattle.px_tree.specs.Tree.{path_at, passes, sides_of_path}

-- how many nodes of a path another one passes: its first ones, up to where they part
abbrev pub passed_nodes : Path → Path → ℕ
passed_nodes [] path = 0
passed_nodes (a ∷ maker) [] = 0
passed_nodes (a ∷ maker) (b ∷ path) = if event_eq b a then suc (passed_nodes maker path) else 1

-- an earlier path passes the node of a path at a depth
abbrev pub is_old : List Path → ℕ → ℕ → Bool
is_old paths n depth = list_any (passes (path_at paths n) depth) (take n paths)

-- the sides that a path adds
abbrev pub made_by : List Path → ℕ → List Side
made_by paths n = sides_of_path paths n (length (path_at paths n))

-- the side is one of a node that its path makes
pub record IsMade (paths : List Path) (side : Side) : Type 0 where
  pub within : side.depth < length (path_at paths side.maker)
  pub fresh : is_old paths side.maker side.depth ≡ false
