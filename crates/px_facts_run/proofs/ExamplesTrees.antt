-- The sides of small trees, found by hand: all of them, and those that no path takes.
use Rattle.std.proofs.Common.{◌≡◌, List, [], ◌∷◌, map, ℕ, refl}
use Rattle.px_program.specs.declared.record.End.TheVariants.{Returned}
use Rattle.px_program.specs.declared.record.Event.{Event}
use Rattle.px_program.specs.declared.record.Record.{Record}
use Rattle.px_program.specs.declared.record.SiteKind.TheVariants.{Branch}
use Rattle.px_program.specs.declared.record.Value.TheVariants.{Nothing}
use Rattle.px_program.specs.Paths.{Path}
use Rattle.px_tree.specs.declared.side.Side.{Side}
use Rattle.px_tree.specs.Tree.{paths_of, sides_of, untaken_of}

-- a side of a site of the offset and with so many sides
abbrev event : ℕ → ℕ → ℕ → Event
event offset arity side = record { site = record { method = 0; offset = offset; kind = Branch; arity = arity }; side = side }

-- sides of the sites A and B, which have two, C, which has three, and Z, which has none
abbrev a : ℕ → Event
a side = event 65 2 side

abbrev b : ℕ → Event
b side = event 66 2 side

abbrev c : ℕ → Event
c side = event 67 3 side

abbrev z : ℕ → Event
z side = event 90 0 side

abbrev record_of : Path → Record
record_of path = record { words = []; events = path; gaps = []; end = Returned Nothing }

-- records of these paths
abbrev found : List Path → List Record
found paths = map record_of paths

-- the side of the node that a record makes at a depth
abbrev side : ℕ → ℕ → ℕ → Side
side maker depth n = record { maker = maker; depth = depth; side = n }

-- TREES OF ONE PATH

-- Without events there are no sides.
no_path : sides_of (paths_of (found [])) ≡ []
unfolding sides_of
no_path = refl

no_path_untaken : untaken_of (paths_of (found [])) ≡ []
unfolding sides_of
no_path_untaken = refl

an_empty_path : sides_of (paths_of (found ([] ∷ []))) ≡ []
unfolding sides_of
an_empty_path = refl

an_empty_path_untaken : untaken_of (paths_of (found ([] ∷ []))) ≡ []
unfolding sides_of
an_empty_path_untaken = refl

-- A node has all sides of its site.
-- A body that leaves out the first side has the second alone, and one whose first record makes nothing has none.
two_sides : sides_of (paths_of (found ((a 0 ∷ []) ∷ []))) ≡ side 0 0 0 ∷ side 0 0 1 ∷ []
unfolding sides_of
two_sides = refl

two_sides_untaken : untaken_of (paths_of (found ((a 0 ∷ []) ∷ []))) ≡ side 0 0 1 ∷ []
unfolding sides_of
two_sides_untaken = refl

three_sides : sides_of (paths_of (found ((c 1 ∷ []) ∷ []))) ≡ side 0 0 0 ∷ side 0 0 1 ∷ side 0 0 2 ∷ []
unfolding sides_of
three_sides = refl

three_sides_untaken : untaken_of (paths_of (found ((c 1 ∷ []) ∷ []))) ≡ side 0 0 0 ∷ side 0 0 2 ∷ []
unfolding sides_of
three_sides_untaken = refl

no_sides : sides_of (paths_of (found ((z 0 ∷ []) ∷ []))) ≡ []
unfolding sides_of
no_sides = refl

no_sides_untaken : untaken_of (paths_of (found ((z 0 ∷ []) ∷ []))) ≡ []
unfolding sides_of
no_sides_untaken = refl

-- Each event of the path has a node before it.
-- A body that gives each node the sides of the first site has two of depth 1, too.
no_sides_between : sides_of (paths_of (found ((a 0 ∷ z 0 ∷ b 1 ∷ []) ∷ []))) ≡ side 0 0 0 ∷ side 0 0 1 ∷ side 0 2 0 ∷ side 0 2 1 ∷ []
unfolding sides_of
no_sides_between = refl

no_sides_between_untaken : untaken_of (paths_of (found ((a 0 ∷ z 0 ∷ b 1 ∷ []) ∷ []))) ≡ side 0 0 1 ∷ side 0 2 0 ∷ []
unfolding sides_of
no_sides_between_untaken = refl

-- TREES OF MORE

-- A node that two paths pass is made by the first of them.
-- A body that doesn't look at the last record finds that no path takes the side 1.
both_sides : sides_of (paths_of (found ((a 0 ∷ []) ∷ (a 1 ∷ []) ∷ []))) ≡ side 0 0 0 ∷ side 0 0 1 ∷ []
unfolding sides_of
both_sides = refl

both_sides_untaken : untaken_of (paths_of (found ((a 0 ∷ []) ∷ (a 1 ∷ []) ∷ []))) ≡ []
unfolding sides_of
both_sides_untaken = refl

one_path_twice : sides_of (paths_of (found ((a 0 ∷ []) ∷ (a 0 ∷ []) ∷ []))) ≡ side 0 0 0 ∷ side 0 0 1 ∷ []
unfolding sides_of
one_path_twice = refl

one_path_twice_untaken : untaken_of (paths_of (found ((a 0 ∷ []) ∷ (a 0 ∷ []) ∷ []))) ≡ side 0 0 1 ∷ []
unfolding sides_of
one_path_twice_untaken = refl

-- A body that makes the node again at which paths part has the sides 0 and 1 of record 1 at depth 0, too.
a_shorter_path : sides_of (paths_of (found ((a 0 ∷ b 1 ∷ []) ∷ (a 1 ∷ []) ∷ [])))
    ≡ side 0 0 0 ∷ side 0 0 1 ∷ side 0 1 0 ∷ side 0 1 1 ∷ []
unfolding sides_of
a_shorter_path = refl

a_shorter_path_untaken : untaken_of (paths_of (found ((a 0 ∷ b 1 ∷ []) ∷ (a 1 ∷ []) ∷ []))) ≡ side 0 1 0 ∷ []
unfolding sides_of
a_shorter_path_untaken = refl

-- Paths that part at their second events.
parted_at_depth_1 : sides_of (paths_of (found ((a 0 ∷ b 0 ∷ c 2 ∷ []) ∷ (a 0 ∷ b 1 ∷ []) ∷ [])))
    ≡ side 0 0 0 ∷ side 0 0 1 ∷ side 0 1 0 ∷ side 0 1 1 ∷ side 0 2 0 ∷ side 0 2 1 ∷ side 0 2 2 ∷ []
unfolding sides_of
parted_at_depth_1 = refl

parted_at_depth_1_untaken : untaken_of (paths_of (found ((a 0 ∷ b 0 ∷ c 2 ∷ []) ∷ (a 0 ∷ b 1 ∷ []) ∷ [])))
    ≡ side 0 0 1 ∷ side 0 2 0 ∷ side 0 2 1 ∷ []
unfolding sides_of
parted_at_depth_1_untaken = refl

-- One path is a front of the other.
a_front_first : sides_of (paths_of (found ((a 0 ∷ []) ∷ (a 0 ∷ b 1 ∷ []) ∷ [])))
    ≡ side 0 0 0 ∷ side 0 0 1 ∷ side 1 1 0 ∷ side 1 1 1 ∷ []
unfolding sides_of
a_front_first = refl

a_front_first_untaken : untaken_of (paths_of (found ((a 0 ∷ []) ∷ (a 0 ∷ b 1 ∷ []) ∷ []))) ≡ side 0 0 1 ∷ side 1 1 0 ∷ []
unfolding sides_of
a_front_first_untaken = refl

a_front_last : sides_of (paths_of (found ((a 0 ∷ b 1 ∷ []) ∷ (a 0 ∷ []) ∷ [])))
    ≡ side 0 0 0 ∷ side 0 0 1 ∷ side 0 1 0 ∷ side 0 1 1 ∷ []
unfolding sides_of
a_front_last = refl

a_front_last_untaken : untaken_of (paths_of (found ((a 0 ∷ b 1 ∷ []) ∷ (a 0 ∷ []) ∷ []))) ≡ side 0 0 1 ∷ side 0 1 0 ∷ []
unfolding sides_of
a_front_last_untaken = refl

-- Both sides of the first site go on.
both_go_on : sides_of (paths_of (found ((a 0 ∷ b 0 ∷ []) ∷ (a 0 ∷ b 1 ∷ []) ∷ (a 1 ∷ c 0 ∷ []) ∷ [])))
    ≡ side 0 0 0 ∷ side 0 0 1 ∷ side 0 1 0 ∷ side 0 1 1 ∷ side 2 1 0 ∷ side 2 1 1 ∷ side 2 1 2 ∷ []
unfolding sides_of
both_go_on = refl

both_go_on_untaken : untaken_of (paths_of (found ((a 0 ∷ b 0 ∷ []) ∷ (a 0 ∷ b 1 ∷ []) ∷ (a 1 ∷ c 0 ∷ []) ∷ [])))
    ≡ side 2 1 1 ∷ side 2 1 2 ∷ []
unfolding sides_of
both_go_on_untaken = refl

both_come_to_one_site : sides_of (paths_of (found ((a 0 ∷ b 0 ∷ []) ∷ (a 1 ∷ b 1 ∷ []) ∷ [])))
    ≡ side 0 0 0 ∷ side 0 0 1 ∷ side 0 1 0 ∷ side 0 1 1 ∷ side 1 1 0 ∷ side 1 1 1 ∷ []
unfolding sides_of
both_come_to_one_site = refl

-- A body that looks below where paths part takes the first of these for taken by record 1.
both_come_to_one_site_untaken : untaken_of (paths_of (found ((a 0 ∷ b 0 ∷ []) ∷ (a 1 ∷ b 1 ∷ []) ∷ []))) ≡ side 0 1 1 ∷ side 1 1 0 ∷ []
unfolding sides_of
both_come_to_one_site_untaken = refl

-- A loop that is left ever earlier, and one that is left ever later.
left_earlier : sides_of (paths_of (found ((a 0 ∷ a 0 ∷ a 1 ∷ []) ∷ (a 0 ∷ a 1 ∷ []) ∷ (a 1 ∷ []) ∷ [])))
    ≡ side 0 0 0 ∷ side 0 0 1 ∷ side 0 1 0 ∷ side 0 1 1 ∷ side 0 2 0 ∷ side 0 2 1 ∷ []
unfolding sides_of
left_earlier = refl

left_earlier_untaken : untaken_of (paths_of (found ((a 0 ∷ a 0 ∷ a 1 ∷ []) ∷ (a 0 ∷ a 1 ∷ []) ∷ (a 1 ∷ []) ∷ []))) ≡ side 0 2 0 ∷ []
unfolding sides_of
left_earlier_untaken = refl

left_later : sides_of (paths_of (found ((a 1 ∷ []) ∷ (a 0 ∷ a 1 ∷ []) ∷ (a 0 ∷ a 0 ∷ a 1 ∷ []) ∷ [])))
    ≡ side 0 0 0 ∷ side 0 0 1 ∷ side 1 1 0 ∷ side 1 1 1 ∷ side 2 2 0 ∷ side 2 2 1 ∷ []
unfolding sides_of
left_later = refl

left_later_untaken : untaken_of (paths_of (found ((a 1 ∷ []) ∷ (a 0 ∷ a 1 ∷ []) ∷ (a 0 ∷ a 0 ∷ a 1 ∷ []) ∷ []))) ≡ side 2 2 0 ∷ []
unfolding sides_of
left_later_untaken = refl

-- TREES THAT NO PROGRAM HAS

-- Two sites follow one front: the node has the sides of the first.
two_sites_after_one_front : sides_of (paths_of (found ((a 0 ∷ b 0 ∷ []) ∷ (a 0 ∷ c 1 ∷ []) ∷ [])))
    ≡ side 0 0 0 ∷ side 0 0 1 ∷ side 0 1 0 ∷ side 0 1 1 ∷ []
unfolding sides_of
two_sites_after_one_front = refl

two_sites_after_one_front_untaken : untaken_of (paths_of (found ((a 0 ∷ b 0 ∷ []) ∷ (a 0 ∷ c 1 ∷ []) ∷ []))) ≡ side 0 0 1 ∷ []
unfolding sides_of
two_sites_after_one_front_untaken = refl

two_first_sites : sides_of (paths_of (found ((a 0 ∷ []) ∷ (c 1 ∷ b 0 ∷ []) ∷ (a 1 ∷ []) ∷ [])))
    ≡ side 0 0 0 ∷ side 0 0 1 ∷ side 1 1 0 ∷ side 1 1 1 ∷ []
unfolding sides_of
two_first_sites = refl

two_first_sites_untaken : untaken_of (paths_of (found ((a 0 ∷ []) ∷ (c 1 ∷ b 0 ∷ []) ∷ (a 1 ∷ []) ∷ []))) ≡ side 1 1 1 ∷ []
unfolding sides_of
two_first_sites_untaken = refl
