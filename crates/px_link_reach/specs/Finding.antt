-- What is kept while methods are met: those that are met so far, and the methods that `callvirt` named.
use Rattle.std.specs.Prelude.{◌≡◌, ℕ, ◌<◌, ◌≤◌, ◌^◌, ◌==◌, ◌||◌, Bool, List, true, length, position, take, Some, Err, slice_get}
use Rattle.std.specs.BTreeMap.{get}
use Rattle.std.specs.List.{AllByRecursion, AllZip, flat_map}
use Rattle.std.specs.Ordering.{nat_cmp}
use Rattle.px_code.specs.declared.body.BodyFault.{BodyFault}
use Rattle.px_code.specs.declared.body.BodyFault.TheVariants as bodies
use Rattle.px_code.specs.Reading.{PlacedFault}
use Rattle.px_meta.specs.Rows.{cell, is_in, methods}
use Rattle.px_pe.specs.Image as pe
use Rattle.px_tables.specs.Metadata.{View}
use Rattle.px_link_reach.specs.Bodies.{whole_at}
use Rattle.px_link_reach.specs.Met.{AreMet, IsBody, IsOwned, add_new, calls_at, each_once, virtual_targets_at, with_overriders}
use Rattle.px_link_reach.specs.declared.known.Known.{Known}
use Rattle.px_link_reach.specs.declared.methods.ReachFault.{ReachFault}
use Rattle.px_link_reach.specs.declared.methods.ReachFault.TheVariants as faults

-- `call`, `callvirt` and `newobj`
abbrev pub is_call : ℕ → Bool
is_call opcode = (opcode == 0x28) || (opcode == 0x6F) || (opcode == 0x73)

-- all of some rows are among others
abbrev pub AreIn : List ℕ → List ℕ → Type 0
AreIn rows more = AllByRecursion (λ row. is_in rows row ≡ true) more

-- each method that `callvirt` named is met, and so is each that overrides it
abbrev pub AreFollowed : List (List ℕ) → List ℕ → List ℕ → Type 0
AreFollowed lists rows targets = AllByRecursion (λ target. AreIn rows (with_overriders lists target)) targets

-- what is kept from one call to the next
pub record AreKept (v : View) (lists : List (List ℕ)) (rows targets : List ℕ) : Type 0 where
  pub owned : AllByRecursion (IsOwned v) rows
  pub few : length rows < 2 ^ 32
  pub followed : AreFollowed lists rows targets

-- an address stands at the number of a method
abbrev pub AreWithin : Known → Type 0
AreWithin known = (at number : ℕ) → get nat_cmp known.firsts at ≡ Some number → number < length known.bodies

-- what is known of methods: their bodies, and by address the number of the first of them that has it
pub record IsKnown (v : View) (image : pe.View) (rows : List ℕ) (known : Known) : Type 0 where
  pub bodies : AllZip (IsBody v image) rows known.bodies
  pub firsts : (at : ℕ) → get nat_cmp known.firsts at ≡ position (λ method. cell v methods method 0 == at) rows

-- all that some methods call is met
pub record AreCalled (v : View) (image : pe.View) (lists : List (List ℕ)) (callers rows targets : List ℕ) : Type 0 where
  pub calls : AreIn rows (flat_map (calls_at v image lists) callers)
  pub virtual_targets : AreIn targets (flat_map (virtual_targets_at v image) callers)

-- the method of a number is looked at: what it calls is met
pub record Visits (v : View) (image : pe.View) (lists : List (List ℕ)) (rows targets : List ℕ) (n : ℕ) (after after_targets : List ℕ) : Type 0 where
  pub method : ℕ
  pub at : slice_get rows n ≡ Some method
  pub met : after ≡ add_new rows (calls_at v image lists method)
  pub targets_met : after_targets ≡ add_new targets (virtual_targets_at v image method)

-- the body of the method of a number is refused
pub record Refuses (v : View) (image : pe.View) (rows : List ℕ) (n number : ℕ) (fault : PlacedFault) : Type 0 where
  pub number_is : number ≡ n
  pub method : ℕ
  pub at : slice_get rows n ≡ Some method
  pub refused : whole_at v image method ≡ Err fault

abbrev pub IsRefused : View → pe.View → List ℕ → ℕ → ReachFault → Type 0
IsRefused v image rows n faults.Memory = Unit {0}
IsRefused v image rows n (faults.Bad kind at number) = Refuses v image rows n number (kind, at)

-- the fault of the body of a method, by the method's number
abbrev pub refused_by : BodyFault → ℕ → ReachFault
refused_by bodies.Memory number = faults.Memory
refused_by (bodies.Bad kind at) number = faults.Bad kind at number

-- the first so many methods are looked at
pub record AreUnderWay (v : View) (image : pe.View) (lists : List (List ℕ)) (starts : List ℕ) (n : ℕ) (rows targets : List ℕ) (known : Known) : Type 0 where
  pub within : n ≤ length rows
  pub met : AreMet v image lists starts n rows
  pub known_is : IsKnown v image (take n rows) known
  pub targets_are : targets ≡ each_once (flat_map (virtual_targets_at v image) (take n rows))
  pub kept : AreKept v lists rows targets
