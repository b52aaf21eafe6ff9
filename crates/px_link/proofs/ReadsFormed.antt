-- A linked program is well formed.
use Rattle.std.proofs.Common.{◌≡◌, ℕ, ◌^◌, ◌<◌, true, List, length, Some}
use Rattle.std.specs.Prelude.{◌==◌, Ok, slice_get}
use Rattle.std.specs.List.{AllByRecursion, IsDistinct}
use Rattle.px_code.specs.declared.body.RawInstr.{RawInstr}
use Rattle.px_meta.specs.Rows.{is_in}
use Rattle.px_link_methods.specs.Codes.{place_of}
use Rattle.px_pe.specs.Image as pe
use Rattle.px_program.specs.Formed.{AreTypes, IsWellFormed}
use Rattle.px_program.specs.declared.program.Program.{Program}
use Rattle.px_link_reach.specs.Bodies.{whole_at}
use Rattle.px_link_reach.specs.Met.{IsOwned, calls_of}
use Rattle.px_link_reach.specs.declared.body.Whole.{Whole}
use Rattle.px_link_reach.specs.declared.methods.Reached.{Reached}
use Rattle.px_tables.specs.Metadata.{View}
use Rattle.px_link.specs.Link.{Reads, starts_of}
use Rattle.px_link.specs.Overrides.{in_order}
use Rattle.px_link.proofs.InOrder.{rising_in_order, types_by_first}
use Rattle.px_link.proofs.LinkedEntry.{entry_begins}
use Rattle.px_link.proofs.LinkedOverrides.{HaveOverriders, overrides_formed}
use Rattle.px_link.proofs.LinkedProgram.{IsClosedByInstr, closed_by_instr, numbering_of, well_formed_by}
use Rattle.px_link_methods.proofs.RowPlaces.{at_place_of, one_of_each}

-- all that the bodies of some rows call is among them
abbrev pub HaveCalls : View → pe.View → List (List ℕ) → List ℕ → Type 0
HaveCalls v image lists rows =
    (k row : ℕ) (whole : Whole) (j : ℕ) (raw : RawInstr) → slice_get rows k ≡ Some row → whole_at v image row ≡ Ok whole → slice_get whole.body.code j ≡ Some raw → AllByRecursion (λ called. is_in rows called ≡ true) (calls_of v lists raw)

-- The methods that a program starts with are met, the first of them as number 0, and so is all that they call and all that overrides what a `callvirt` names,
-- each once.
pub record AreAllMet (v : View) (image : pe.View) (lists : List (List ℕ)) (entry : ℕ) (starts : List ℕ) (reached : Reached) : Type 0 where
  pub begun : AllByRecursion (λ row. is_in reached.rows row ≡ true) starts
  pub first : slice_get reached.rows 0 ≡ Some entry
  pub calls : HaveCalls v image lists reached.rows
  pub overriders : HaveOverriders lists reached.rows reached.virtual_targets
  pub once : IsDistinct (λ row other. row == other) reached.rows

closed_by_place : (v : View) (image : pe.View) (lists : List (List ℕ)) (rows : List ℕ) → HaveCalls v image lists rows → IsClosedByInstr v image lists rows
closed_by_place v image lists rows have row whole k raw target there read at called =
    one_of_each (λ other. is_in rows other ≡ true) (calls_of v lists raw) target (have (place_of rows row) row whole k raw (at_place_of rows row there) read at) called

-- A program of an assembly is well formed, where its types are without their overrides, and all its methods are met.
pub reads_well_formed : (v : View) (image : pe.View) (name : List ℕ) (program : Program) → (r : Reads v image name program) → AreTypes r.types.bare → length r.reached.rows < 2 ^ 32 → AllByRecursion (IsOwned v) r.reached.rows
    → AreAllMet v image r.lists r.method (starts_of v r.method r.sig) r.reached → IsWellFormed program
reads_well_formed v image name program r types few owned met =
    well_formed_by v image name program r types few (closed_by_instr v image r.lists r.reached.rows r.reached.bodies r.is_reached.bodies (closed_by_place v image r.lists r.reached.rows met.calls))
    (entry_begins v image name program r met.first met.begun) (overrides_formed v image name program r owned met.overriders)
    (types_by_first v (numbering_of r) r.lists (in_order r.reached.rows r.reached.virtual_targets) program.types r.types (rising_in_order r.reached.rows r.reached.virtual_targets met.once))
