-- The plain run of a program on argument words, and what is said of runs.
use Rattle.std.specs.Prelude.{◌≡◌, ℕ, List, [], ◌∷◌, if◌then◌else◌, map, Option, Some, None}
use Rattle.px_cells.specs.declared.plain.NoPool.{NoPool}
use Rattle.px_cells.specs.declared.plain.Plain.{Plain}
use Rattle.px_cells.specs.Plain.{plain, plain_algebra}
use Rattle.px_domain.specs.declared.domain.Part.{Part}
use Rattle.px_domain.specs.Domain.{InDomain}
use Rattle.px_program.specs.declared.program.Method.{Method}
use Rattle.px_program.specs.declared.program.Program.{Program}
use Rattle.px_program.specs.declared.record.Bounds.{Bounds}
use Rattle.px_program.specs.declared.record.End.{End}
use Rattle.px_program.specs.declared.record.Event.{Event}
use Rattle.px_program.specs.declared.record.Record.{Record}
use Rattle.px_program.specs.Formed.{entry_of}
use Rattle.px_program.specs.Paths.{Path, Takes}
use Rattle.px_interp.specs.declared.machine.Seen.{Seen}
use Rattle.px_interp.specs.Table.{Outcome, first, run}

-- the events of a run, their gaps, and how it ended (none where it got stuck)
pub record Course : Type 0 where
  pub events : List Event
  pub gaps : List ℕ
  pub end : Option End

abbrev pub no_pool : NoPool
no_pool = record {}

abbrev pub seen_events : {W : Type 0} → List (Seen W) → List Event
seen_events seen = map (λ s. s.event) seen

abbrev pub seen_gaps : {W : Type 0} → List (Seen W) → List ℕ
seen_gaps seen = map (λ s. s.gap) seen

abbrev pub course_by : Outcome NoPool Plain → Course
course_by o = record { events = seen_events o.seen; gaps = seen_gaps o.seen; end = o.end }

-- the words of a method's arguments: a receiver, which no simple method reads, has the word 0
abbrev pub with_receiver : Method → List ℕ → List ℕ
with_receiver method words = if method.is_static then words else 0 ∷ words

abbrev pub course_in : Option Method → ℕ → ℕ → List ℕ → Course
course_in None number steps words = record { events = []; gaps = []; end = None }
course_in (Some method) number steps words = course_by (run plain_algebra steps method number (map plain (with_receiver method words)) (first no_pool))

-- the run of a program on words of a domain under bounds: a scalar is the word itself
abbrev pub course_of : Program → List Part → Bounds → List ℕ → Course
course_of program domain bounds words = course_in (entry_of program) program.entry bounds.steps words

-- the path that the words take
abbrev pub path_of : Program → List Part → Bounds → List ℕ → Path
path_of program domain bounds words = (course_of program domain bounds words).events

-- the record is the run of its words
abbrev pub IsRun : Program → List Part → Bounds → Record → Type 0
IsRun program domain bounds r = course_of program domain bounds r.words ≡ record { events = r.events; gaps = r.gaps; end = Some r.end }

-- the record stands: its words are in the domain, and it is their run
pub record Stands (program : Program) (domain : List Part) (bounds : Bounds) (r : Record) : Type 0 where
  pub within : InDomain domain r.words
  pub is_run : IsRun program domain bounds r

-- no words of the domain have a path that begins with these events and then takes the side
abbrev pub NoWay : Program → List Part → Bounds → Path → ℕ → Type 0
NoWay program domain bounds node side = (words : List ℕ) → InDomain domain words → Takes (path_of program domain bounds words) node side → ⊥
