-- What the tokens of instructions name stays what it is, whatever is added to the store.
use Rattle.std.proofs.Common.{ℕ, List, [], ◌∷◌}
use Rattle.std.specs.List.{AllZip}
use Rattle.px_code.specs.declared.body.RawInstr.{RawInstr}
use Rattle.px_program.specs.declared.instr.Callee.{Callee}
use Rattle.px_program.specs.declared.instr.Callee.TheVariants as callees
use Rattle.px_program.specs.declared.instr.Code.{Code}
use Rattle.px_program.specs.declared.instr.Code.TheVariants as code
use Rattle.px_program.specs.declared.instr.ElementForm.TheVariants as form
use Rattle.px_program.specs.declared.instr.Instr.{Instr}
use Rattle.px_program.specs.declared.instr.Move.TheVariants as move
use Rattle.px_program.specs.declared.program.Program.{Program}
use Rattle.px_asm_store.proofs.StoreStays.{constructor_stays, text_stays}
use Rattle.px_asm_law_written.specs.Holds.{IsInstrIn}
use Rattle.px_asm_law_written.specs.Store.{Store, StoreGrows}
use Rattle.px_asm_law_written.specs.Tokens.{CalleeHas, HasTokenIn}

module _ (p : Program) (old new : Store) (g : StoreGrows old new) where
  callee_stays : (callee : Callee) (at : ℕ) → CalleeHas p old callee at → CalleeHas p new callee at
  callee_stays (callees.Method method) at has = has
  callee_stays (callees.Constructor class params) at has = constructor_stays p old new class params at g has

  -- the token of an instruction stays its token
  pub token_stays : (made : Code) (at : ℕ) → HasTokenIn p old made at → HasTokenIn p new made at
  token_stays (code.Move (move.Text units)) at has = record { table = has.table; stands = text_stays old.texts new.texts g.texts _ units has.stands }
  token_stays (code.Call callee) at has = callee_stays callee at has
  token_stays (code.NewObject callee) at has = callee_stays callee at has
  token_stays (code.NewArray array) at has = has
  token_stays (code.Element store (form.Typed place)) at has = has
  token_stays (code.Cast throws class) at has = has
  token_stays (code.Field store field) at has = has
  token_stays (code.Static store field) at has = has
  token_stays (code.CallVirtual method) at has = has
  token_stays (code.Check check) at has = has
  token_stays _ at has = tt

  pub instrs_stay : (instrs : List Instr) (raws : List RawInstr) → AllZip (IsInstrIn p old) instrs raws → AllZip (IsInstrIn p new) instrs raws
  instrs_stay [] [] are = tt
  instrs_stay [] (raw ∷ raws) are = absurd are
  instrs_stay (instr ∷ instrs) [] are = absurd are
  instrs_stay (instr ∷ instrs) (raw ∷ raws) are =
      (record { token = are.0.token; fits = are.0.fits; is = are.0.is; has = token_stays instr.code are.0.token are.0.has }, instrs_stay instrs raws are.1)
