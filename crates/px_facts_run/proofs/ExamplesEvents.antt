-- When events and paths are one.
use Rattle.std.proofs.Common.{◌≡◌, List, [], ◌∷◌, Bool, false, true, ℕ, map, refl}
use Rattle.px_program.specs.declared.record.Event.{Event}
use Rattle.px_program.specs.declared.record.SiteKind.{SiteKind}
use Rattle.px_program.specs.declared.record.SiteKind.TheVariants.{Shape, Branch, Switch, Bounds, Zero, Overflow, Length, Index, Assume, Assert}
use Rattle.px_program.specs.Paths.{event_eq, path_eq}

abbrev event : ℕ → ℕ → SiteKind → ℕ → ℕ → Event
event method offset kind arity side = record { site = record { method = method; offset = offset; kind = kind; arity = arity }; side = side }

-- EVENTS

-- a side of a branch, which others are compared with
abbrev branch : Event
branch = event 1 2 Branch 2 1

-- Events are one only where each part is the same.
an_event_is_itself : event_eq branch branch ≡ true
an_event_is_itself = refl

another_method : event_eq branch (event 0 2 Branch 2 1) ≡ false
another_method = refl

another_offset : event_eq branch (event 1 3 Branch 2 1) ≡ false
another_offset = refl

another_kind : event_eq branch (event 1 2 Switch 2 1) ≡ false
another_kind = refl

-- A body that takes a greater arity for the same says that they are one.
a_greater_arity : event_eq branch (event 1 2 Branch 3 1) ≡ false
a_greater_arity = refl

a_lesser_side : event_eq branch (event 1 2 Branch 2 0) ≡ false
a_lesser_side = refl

-- A body that takes a greater side for the same says that they are one.
a_greater_side : event_eq branch (event 1 2 Branch 2 2) ≡ false
a_greater_side = refl

abbrev every_kind : List SiteKind
every_kind = Shape ∷ Branch ∷ Switch ∷ Bounds ∷ Zero ∷ Overflow ∷ Length ∷ Index ∷ Assume ∷ Assert ∷ []

-- for each kind in order, whether an event of that kind is the same as one of this kind
abbrev same_as : SiteKind → List Bool
same_as kind = map (λ other. event_eq (event 0 0 kind 1 0) (event 0 0 other 1 0)) every_kind

-- No kind is another. A body that gives `Assume` and `Assert` one number takes them for one.
like_shape : same_as Shape ≡ true ∷ false ∷ false ∷ false ∷ false ∷ false ∷ false ∷ false ∷ false ∷ false ∷ []
like_shape = refl

like_branch : same_as Branch ≡ false ∷ true ∷ false ∷ false ∷ false ∷ false ∷ false ∷ false ∷ false ∷ false ∷ []
like_branch = refl

like_switch : same_as Switch ≡ false ∷ false ∷ true ∷ false ∷ false ∷ false ∷ false ∷ false ∷ false ∷ false ∷ []
like_switch = refl

like_bounds : same_as Bounds ≡ false ∷ false ∷ false ∷ true ∷ false ∷ false ∷ false ∷ false ∷ false ∷ false ∷ []
like_bounds = refl

like_zero : same_as Zero ≡ false ∷ false ∷ false ∷ false ∷ true ∷ false ∷ false ∷ false ∷ false ∷ false ∷ []
like_zero = refl

like_overflow : same_as Overflow ≡ false ∷ false ∷ false ∷ false ∷ false ∷ true ∷ false ∷ false ∷ false ∷ false ∷ []
like_overflow = refl

like_length : same_as Length ≡ false ∷ false ∷ false ∷ false ∷ false ∷ false ∷ true ∷ false ∷ false ∷ false ∷ []
like_length = refl

like_index : same_as Index ≡ false ∷ false ∷ false ∷ false ∷ false ∷ false ∷ false ∷ true ∷ false ∷ false ∷ []
like_index = refl

like_assume : same_as Assume ≡ false ∷ false ∷ false ∷ false ∷ false ∷ false ∷ false ∷ false ∷ true ∷ false ∷ []
like_assume = refl

like_assert : same_as Assert ≡ false ∷ false ∷ false ∷ false ∷ false ∷ false ∷ false ∷ false ∷ false ∷ true ∷ []
like_assert = refl

-- PATHS

abbrev first : Event
first = event 0 2 Branch 2 0

abbrev second : Event
second = event 0 6 Branch 2 1

-- Paths are one only where they have the same events in the same order.
empty_paths_are_one : path_eq [] [] ≡ true
empty_paths_are_one = refl

a_path_is_itself : path_eq (first ∷ second ∷ []) (first ∷ second ∷ []) ≡ true
a_path_is_itself = refl

-- A body that only refuses a longer first path says that they are one.
a_front_is_another_path : path_eq (first ∷ []) (first ∷ second ∷ []) ≡ false
a_front_is_another_path = refl

a_longer_path_is_another : path_eq (first ∷ second ∷ []) (first ∷ []) ≡ false
a_longer_path_is_another = refl

another_order_is_another_path : path_eq (first ∷ second ∷ []) (second ∷ first ∷ []) ≡ false
another_order_is_another_path = refl
