-- What a typed method names and needs at each of its instructions.
use Rattle.std.proofs.Common.{◌≡◌, ℕ, Bool, true, false, ◌==◌, if◌then◌else◌, List, [], ◌∷◌, Some, refl}
use Rattle.px_program.specs.declared.instr.Code.{Code}
use Rattle.px_program.specs.declared.instr.Code.TheVariants as codes
use Rattle.px_program.specs.declared.instr.Instr.{Instr}
use Rattle.px_program.specs.declared.program.Method.{Method}
use Rattle.px_program.specs.Formed.{instr_at}
use Rattle.px_simple.specs.Simple.{after}
use Rattle.px_simple.specs.Typing.{Fits, IsTyped, depth_from}
use Rattle.px_interp.proofs.Related.{NamesValue}

-- where an instruction is there is a depth
depth_there : (code : List Instr) (depth at : ℕ) (i : Instr) → instr_at code at ≡ Some i → (d : ℕ) × (depth_from depth code at ≡ Some d)
depth_there [] depth at i h = cc
depth_there (j ∷ rest) depth at i h = pick (j.offset == at) (depth_there rest (after depth j.code) at i) h
  where
    pick : (b : Bool) → (instr_at rest at ≡ Some i → (d : ℕ) × (depth_from (after depth j.code) rest at ≡ Some d)) → (if b then Some j else instr_at rest at) ≡ Some i
        → (d : ℕ) × ((if b then Some depth else depth_from (after depth j.code) rest at) ≡ Some d)
    pick true f e = (depth, refl)
    pick false f e = f e

fits_names : (method : Method) (next depth : ℕ) (code : Code) → Fits method next depth code → NamesValue method code
fits_names method next depth (codes.Move move) f = f.0
fits_names method next depth _ f = tt

-- the scalars that the instructions of a typed method name are there
pub typed_names : (method : Method) → IsTyped method → (at : ℕ) (i : Instr) → instr_at method.code at ≡ Some i → NamesValue method i.code
typed_names method typed at i h =
    let d = depth_there method.code 0 at i h in fits_names method i.next d.0 i.code (typed.each at d.0 i d.1 h)
