use Rattle.std.proofs.Common.{Bool, sym, ap, ◌∙◌, subst}
use Rattle.std.specs.Prelude.{slice_get}
use Rattle.std.specs.List.{AllByRecursion, flat_map}
use Rattle.px_program.specs.Formed.{FitsPlace}
use Rattle.px_program.specs.declared.program.Place.{Place}
use Rattle.px_asm_law_written.specs.Tokens.{fields_in, fields_of}
use Rattle.px_asm_rows.proofs.TableFacts.{table_fields_fit}
use Rattle.px_asm_rows.proofs.fields.field_defs.Goals as goal

pub field_rows-requires : goal.field_rows-requires
field_rows-requires c =
    let p = c.args.rows.now in
    let same = c.program-program.ensures.same in
    let types = c.as_slice.ensures ∙ ap (λ q. q.types) same in
    let numbers = c.as_slice-2.ensures ∙ ap (λ q. q.layout.types) same in
    let all = c.deref.ensures.value ∙ c.in_ok-fields.ensures ∙ ap (λ l. flat_map (λ number. fields_in (slice_get l number)) c.as_slice-2.result.now) types ∙ ap (fields_of p) numbers in
    subst (AllByRecursion (λ (field : Bool × Place). FitsPlace p.types field.1)) (sym all) (table_fields_fit p c.program-program.ensures.room.writable)
