-- A program that is linked is well formed, and its arguments are what can be given.
use Rattle.std.proofs.Common.{ℕ, ◌<◌, ◌^◌, List, length}
use Rattle.std.specs.List.{AllByRecursion}
use Rattle.px_pe.specs.Image as pe
use Rattle.px_program.specs.Arguments.{AreGiven, arguments_of}
use Rattle.px_program.specs.Formed.{AreTypes, IsWellFormed}
use Rattle.px_program.specs.declared.program.Program.{Program}
use Rattle.px_link_reach.specs.Met.{IsOwned}
use Rattle.px_link_reach.proofs.Reaching.{calls_met, first_start, overriders_met, starts_met}
use Rattle.px_tables.specs.Metadata.{View}
use Rattle.px_link.specs.Link.{Reads, maker_of, rows_of, starts_of}
use Rattle.px_link.proofs.Given.{reads_given}
use Rattle.px_link.proofs.Reached.{distinct}
use Rattle.px_link.proofs.ReadsFormed.{AreAllMet, reads_well_formed}

all_met : (v : View) (image : pe.View) (name : List ℕ) (program : Program) → (r : Reads v image name program) → AreAllMet v image r.lists r.method (starts_of v r.method r.sig) r.reached
all_met v image name program r = record {
  begun = starts_met r.is_reached;
  first = first_start r.method (rows_of (maker_of v r.method r.sig)) r.is_reached;
  calls = calls_met r.is_reached;
  overriders = overriders_met r.is_reached;
  once = distinct v image r.lists (starts_of v r.method r.sig) r.reached r.is_reached;
}

pub well_formed : (v : View) (image : pe.View) (name : List ℕ) (program : Program) → (r : Reads v image name program) → AreTypes r.types.bare → length r.reached.rows < 2 ^ 32 → AllByRecursion (IsOwned v) r.reached.rows → IsWellFormed program
well_formed v image name program r types few owned = reads_well_formed v image name program r types few owned (all_met v image name program r)

pub given : (v : View) (image : pe.View) (name : List ℕ) (program : Program) → Reads v image name program → AreGiven program.types (arguments_of program)
given v image name program r = reads_given v image name program r (all_met v image name program r).first
