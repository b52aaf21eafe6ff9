-- Paths: lists of events.
use Rattle.std.specs.Prelude.{◌≡◌, ℕ, List, ◌==◌, ◌&&◌, Bool, true, false, Option, Some, None, length, take, slice_get}
use Rattle.std.specs.Cmp.Lexicographic.{pointwise}
use Rattle.px_program.specs.declared.record.SiteKind.{SiteKind}
use Rattle.px_program.specs.declared.record.SiteKind.TheVariants as kinds
use Rattle.px_program.specs.declared.record.Site.{Site}
use Rattle.px_program.specs.declared.record.Event.{Event}

abbrev pub Path : Type 0
Path = List Event

abbrev pub kind_number : SiteKind → ℕ
kind_number kinds.Shape = 0
kind_number kinds.Branch = 1
kind_number kinds.Switch = 2
kind_number kinds.Bounds = 3
kind_number kinds.Zero = 4
kind_number kinds.Overflow = 5
kind_number kinds.Length = 6
kind_number kinds.Index = 7
kind_number kinds.Assume = 8
kind_number kinds.Assert = 9

abbrev pub site_eq : Site → Site → Bool
site_eq a b = (a.method == b.method) && (a.offset == b.offset) && (kind_number a.kind == kind_number b.kind) && (a.arity == b.arity)

abbrev pub event_eq : Event → Event → Bool
event_eq a b = site_eq a.site b.site && (a.side == b.side)

abbrev pub path_eq : Path → Path → Bool
path_eq = pointwise event_eq

-- there is an event, and it has the side
abbrev pub has_side : Option Event → ℕ → Bool
has_side None side = false
has_side (Some event) side = event.side == side

-- the path begins with these events and then takes the side
pub record Takes (path node : Path) (side : ℕ) : Type 0 where
  pub begins : take (length node) path ≡ node
  pub goes : has_side (slice_get path (length node)) side ≡ true
