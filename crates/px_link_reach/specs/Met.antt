-- The methods that a program has: those that it starts with, and all that calls and overriding reach.
use Rattle.std.specs.Prelude.{◌≡◌, ◌≢◌, ℕ, ◌<◌, ◌%◌, ◌^◌, ◌==◌, true, if◌then◌else◌, List, [], ◌∷◌, ◌++◌, length, take, Option, Some, Result, Ok, Err, IsOk, slice_get}
use Rattle.std.specs.List.{AllZip, flat_map}
use Rattle.px_code.specs.Body.{IsFormed}
use Rattle.px_code.specs.Reading.{PlacedFault}
use Rattle.px_code.specs.declared.body.RawInstr.{RawInstr}
use Rattle.px_meta.specs.Members.{owner_of}
use Rattle.px_meta.specs.Rows.{IsRow, cell, is_in, methods}
use Rattle.px_link_tokens.specs.Operands.{operand_of}
use Rattle.px_link_tokens.specs.declared.operand.Operand.{Operand}
use Rattle.px_link_tokens.specs.declared.operand.Operand.TheVariants as operand
use Rattle.px_pe.specs.Image as pe
use Rattle.px_tables.specs.Metadata.{View}
use Rattle.px_link_reach.specs.Bodies.{whole_at}
use Rattle.px_link_reach.specs.Overriders.{overriders_in}
use Rattle.px_link_reach.specs.declared.body.Whole.{Whole}
use Rattle.px_link_reach.specs.declared.methods.ReachFault.{ReachFault}
use Rattle.px_link_reach.specs.declared.methods.ReachFault.TheVariants as faults
use Rattle.px_link_reach.specs.declared.methods.Reached.{Reached}

-- LISTS WITHOUT REPEATS

-- those of some rows that aren't there yet, each once, behind what is there
abbrev pub add_new : List ℕ → List ℕ → List ℕ
add_new met [] = met
add_new met (row ∷ rows) = if is_in met row then add_new met rows else add_new (met ++ row ∷ []) rows

-- each once, where it comes first
abbrev pub each_once : List ℕ → List ℕ
each_once rows = add_new [] rows

-- CALLS

-- what the token of an instruction names
abbrev pub operand_at : View → RawInstr → Option Operand
operand_at v raw = operand_of v raw.opcode (raw.operand % 2 ^ 32)

abbrev pub method_in : Option Operand → List ℕ
method_in (Some (operand.Method row)) = row ∷ []
method_in _ = []

-- the method that an instruction calls, or makes an object with
abbrev pub target_of : View → RawInstr → List ℕ
target_of v raw = method_in (operand_at v raw)

-- the method that a `callvirt` names
abbrev pub virtual_target_of : View → RawInstr → List ℕ
virtual_target_of v raw = if raw.opcode == 0x6F then target_of v raw else []

-- the method that a `callvirt` names is followed by those that override it
abbrev pub with_overriders : List (List ℕ) → ℕ → List ℕ
with_overriders lists method = method ∷ overriders_in lists method

abbrev pub calls_of : View → List (List ℕ) → RawInstr → List ℕ
calls_of v lists raw = if raw.opcode == 0x6F then flat_map (with_overriders lists) (target_of v raw) else target_of v raw

-- what is found in the instructions of a body that is read
abbrev pub in_body : (RawInstr → List ℕ) → Result Whole PlacedFault → List ℕ
in_body find (Ok whole) = flat_map find whole.body.code
in_body find (Err fault) = []

-- the methods that a method calls, by the offsets of its calls
abbrev pub calls_at : View → pe.View → List (List ℕ) → ℕ → List ℕ
calls_at v image lists method = in_body (calls_of v lists) (whole_at v image method)

abbrev pub virtual_targets_at : View → pe.View → ℕ → List ℕ
virtual_targets_at v image method = in_body (virtual_target_of v) (whole_at v image method)

-- THE METHODS IN ORDER

-- The methods that are met where the first so many are looked at, each once and as it comes first: those to start with, and then what the calls name,
-- by the method that calls and by offset. Each is one to start with or called by one before it.
pub record AreMet (v : View) (image : pe.View) (lists : List (List ℕ)) (starts : List ℕ) (n : ℕ) (rows : List ℕ) : Type 0 where
  pub same : rows ≡ each_once (starts ++ flat_map (calls_at v image lists) (take n rows))
  pub earlier : (k row : ℕ) → slice_get rows k ≡ Some row → is_in (starts ++ flat_map (calls_at v image lists) (take k (take n rows))) row ≡ true

-- the body of a method as it is read; one that the file has is well formed
pub record IsBody (v : View) (image : pe.View) (method : ℕ) (whole : Whole) : Type 0 where
  pub read : whole_at v image method ≡ Ok whole
  pub formed : cell v methods method 0 ≢ 0 → IsFormed whole.body

-- all methods that are met, with their bodies, and the methods that `callvirt` names in them, each once and as it comes first
pub record IsReached (v : View) (image : pe.View) (lists : List (List ℕ)) (starts : List ℕ) (reached : Reached) : Type 0 where
  pub met : AreMet v image lists starts (length reached.rows) reached.rows
  pub bodies : AllZip (IsBody v image) reached.rows reached.bodies
  pub virtual_targets : reached.virtual_targets ≡ each_once (flat_map (virtual_targets_at v image) reached.rows)

-- a method that some type has
pub record IsOwned (v : View) (method : ℕ) : Type 0 where
  pub row : IsRow v methods method
  pub owned : owner_of v methods method ≢ 0

-- the first method that is met whose body is refused, by its number, and the fault
pub record IsFirstRefused (v : View) (image : pe.View) (lists : List (List ℕ)) (starts : List ℕ) (number : ℕ) (fault : PlacedFault) : Type 0 where
  pub rows : List ℕ
  pub met : AreMet v image lists starts number rows
  pub method : ℕ
  pub at : slice_get rows number ≡ Some method
  pub refused : whole_at v image method ≡ Err fault
  pub first : (k other : ℕ) → k < number → slice_get rows k ≡ Some other → IsOk (whole_at v image other)

abbrev pub Blames : View → pe.View → List (List ℕ) → List ℕ → ReachFault → Type 0
Blames v image lists starts faults.Memory = Unit {0}
Blames v image lists starts (faults.Bad kind at method) = IsFirstRefused v image lists starts method (kind, at)
