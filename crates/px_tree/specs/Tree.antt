-- The tree of the paths of records. Its nodes are the proper prefixes of the paths; each has the sides of the site that follows it.
use Rattle.std.specs.Prelude.{◌≡◌, ℕ, zero, suc, List, [], ◌∷◌, ◌++◌, ◌&&◌, ◌⊎◌, not, nat_lt, Bool, if◌then◌else◌, Option, Some, None, length, take, slice_get, map, filter}
use Rattle.std.specs.List.{list_any}
use Rattle.px_program.specs.declared.record.Event.{Event}
use Rattle.px_program.specs.declared.record.Record.{Record}
use Rattle.px_program.specs.Paths.{Path, has_side, path_eq}
use Rattle.px_tree.specs.declared.side.Side.{Side}

abbrev pub paths_of : List Record → List Path
paths_of records = map (λ r. r.events) records

-- one of the paths is this one
abbrev pub HasPath : List Path → Path → Type 0
HasPath [] path = ⊥
HasPath (p ∷ paths) path = (p ≡ path) ⊎ HasPath paths path

-- no two paths are one
abbrev pub AreDistinct : List Path → Type 0
AreDistinct [] = Unit {0}
AreDistinct (p ∷ paths) = (HasPath paths p → ⊥) × AreDistinct paths

-- the numbers below n
abbrev pub below : ℕ → List ℕ
below zero = []
below (suc n) = below n ++ n ∷ []

-- the path begins with the first events of another and goes on
abbrev pub passes : Path → ℕ → Path → Bool
passes other depth path = nat_lt depth (length path) && path_eq (take depth path) (take depth other)

-- the path does so and takes the side
abbrev pub takes : Path → ℕ → ℕ → Path → Bool
takes other depth side path = passes other depth path && has_side (slice_get path depth) side

abbrev pub arity_of : Option Event → ℕ
arity_of None = 0
arity_of (Some event) = event.site.arity

abbrev pub path_in : Option Path → Path
path_in None = []
path_in (Some path) = path

abbrev pub path_at : List Path → ℕ → Path
path_at paths n = path_in (slice_get paths n)

-- a side of the node of a path at a depth
abbrev pub side_at : ℕ → ℕ → ℕ → Side
side_at maker depth side = record { maker = maker; depth = depth; side = side }

-- the sides of the node of a path at a depth, where no earlier path passes the node
abbrev pub new_sides : List Path → ℕ → ℕ → List Side
new_sides paths n depth =
    if list_any (passes (path_at paths n) depth) (take n paths) then []
    else map (side_at n depth) (below (arity_of (slice_get (path_at paths n) depth)))

-- the sides that a path adds at its first depths
abbrev pub sides_of_path : List Path → ℕ → ℕ → List Side
sides_of_path paths n zero = []
sides_of_path paths n (suc depth) = sides_of_path paths n depth ++ new_sides paths n depth

-- the sides that the first n paths add
abbrev pub sides_below : List Path → ℕ → List Side
sides_below paths zero = []
sides_below paths (suc n) = sides_below paths n ++ sides_of_path paths n (length (path_at paths n))

-- the sides of the tree, by number
unfoldable pub sides_of : List Path → List Side
sides_of paths = sides_below paths (length paths)

-- the events before a side
abbrev pub node_of : List Path → Side → Path
node_of paths side = take side.depth (path_at paths side.maker)

-- some path takes the side
abbrev pub is_taken : List Path → Side → Bool
is_taken paths side = list_any (takes (path_at paths side.maker) side.depth side.side) paths

abbrev pub is_untaken : List Path → Side → Bool
is_untaken paths side = not (is_taken paths side)

-- the sides that no path takes, by number
abbrev pub untaken_of : List Path → List Side
untaken_of paths = filter (is_untaken paths) (sides_of paths)
