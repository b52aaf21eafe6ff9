-- The methods of a program are those that some type has.
use Rattle.std.proofs.Common.{◌≡◌, ℕ, ◌%◌, ◌^◌, List, [], ◌∷◌, ◌++◌, Option, Some, None, Result, Ok, Err, length, take, refl, sym, subst}
use Rattle.std.specs.Prelude.{◌==◌}
use Rattle.std.specs.List.{AllByRecursion, flat_map}
use Rattle.std.proofs.lemmas.Bool.{cond_both}
use Rattle.px_code.specs.Reading.{PlacedFault}
use Rattle.px_code.specs.declared.body.RawInstr.{RawInstr}
use Rattle.px_link.specs.Link.{Reads, maker_of, starts_of}
use Rattle.px_link.proofs.Entries.{starts_owned}
use Rattle.px_link.proofs.Finding.{item_at}
use Rattle.px_meta.specs.Rows.{methods}
use Rattle.px_link_tokens.specs.declared.operand.Operand.{Operand}
use Rattle.px_link_tokens.specs.declared.operand.Operand.TheVariants as operand
use Rattle.px_pe.specs.Image as pe
use Rattle.px_program.proofs.Types.{each-append, each-weaken}
use Rattle.px_program.specs.declared.program.Program.{Program}
use Rattle.px_link_reach.proofs.Owned.{overriders_owned, owned_operand}
use Rattle.px_link_reach.proofs.Sets.{added_each}
use Rattle.px_link_reach.specs.Bodies.{whole_at}
use Rattle.px_link_reach.specs.Met.{IsOwned, calls_at, calls_of, in_body, method_in, operand_at, target_of, with_overriders}
use Rattle.px_link_reach.specs.Overriders.{AreLists, AreOverriders, overriders_in}
use Rattle.px_link_reach.specs.declared.body.Whole.{Whole}
use Rattle.px_tables.specs.Metadata.{View}
use Rattle.px_link_methods.proofs.RowPlaces.{each_of_all}

each_joined : {X Y : Type 0} (P : Y → Type 0) (f : X → List Y) (xs : List X) → AllByRecursion (λ x. AllByRecursion P (f x)) xs → AllByRecursion P (flat_map f xs)
each_joined P f [] each = tt
each_joined P f (x ∷ xs) each = each-append P (f x) (flat_map f xs) each.0 (each_joined P f xs each.1)

-- what an instruction names
named_owned : (v : View) (raw : RawInstr) (named : Option Operand) → operand_at v raw ≡ named → AllByRecursion (IsOwned v) (method_in named)
named_owned v raw None e = tt
named_owned v raw (Some (operand.Text units)) e = tt
named_owned v raw (Some (operand.Type key)) e = tt
named_owned v raw (Some (operand.Field row)) e = tt
named_owned v raw (Some (operand.Method row)) e = (owned_operand v raw.opcode (raw.operand % 2 ^ 32) row e, tt)
named_owned v raw (Some (operand.Constructor class params)) e = tt
named_owned v raw (Some (operand.Check check)) e = tt

module _ (v : View) (lists : List (List ℕ)) (are : AreLists v lists) where
  overriders_too : (target : ℕ) → IsOwned v target → AllByRecursion (IsOwned v) (with_overriders lists target)
  overriders_too target owned = (owned, overriders_owned v target (overriders_in lists target) (item_at AreOverriders v methods lists target [] are owned.row))

  calls_owned : (raw : RawInstr) → AllByRecursion (IsOwned v) (calls_of v lists raw)
  calls_owned raw =
      let targets : AllByRecursion (IsOwned v) (target_of v raw) = named_owned v raw (operand_at v raw) refl in
      cond_both (raw.opcode == 0x6F) (flat_map (with_overriders lists) (target_of v raw)) (target_of v raw) (AllByRecursion (IsOwned v))
      (λ virtual. each_joined (IsOwned v) (with_overriders lists) (target_of v raw) (each-weaken (IsOwned v) (λ target. AllByRecursion (IsOwned v) (with_overriders lists target)) overriders_too (target_of v raw) targets))
      (λ other. targets)

  body_owned : (read : Result Whole PlacedFault) → AllByRecursion (IsOwned v) (in_body (calls_of v lists) read)
  body_owned (Ok whole) = each_joined (IsOwned v) (calls_of v lists) whole.body.code (each_of_all (λ raw. AllByRecursion (IsOwned v) (calls_of v lists raw)) calls_owned whole.body.code)
  body_owned (Err fault) = tt

-- what is reached some type has
pub rows_owned : (v : View) (image : pe.View) (name : List ℕ) (program : Program) → (r : Reads v image name program) → AllByRecursion (IsOwned v) r.reached.rows
rows_owned v image name program r =
    let starts = starts_of v r.method r.sig in
    let looked_at = take (length r.reached.rows) r.reached.rows in
    let begun : AllByRecursion (IsOwned v) starts = starts_owned v name (record { method = r.method; maker = maker_of v r.method r.sig }) (record { sig = r.sig; is = r.entry; maker = refl }) in
    let called : AllByRecursion (IsOwned v) (flat_map (calls_at v image r.lists) looked_at) =
    each_joined (IsOwned v) (calls_at v image r.lists) looked_at (each_of_all (λ row. AllByRecursion (IsOwned v) (calls_at v image r.lists row)) (λ row. body_owned v r.lists r.overriding (whole_at v image row)) looked_at) in
    subst (AllByRecursion (IsOwned v)) (sym r.is_reached.met.same)
    (added_each (IsOwned v) [] (starts ++ flat_map (calls_at v image r.lists) looked_at) tt (each-append (IsOwned v) starts (flat_map (calls_at v image r.lists) looked_at) begun called))
