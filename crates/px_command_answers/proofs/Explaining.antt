-- Why the answers come.
use Rattle.std.proofs.Common.{◌≡◌, ℕ, List, subst, Ok, refl, sym, ◌∙◌}
use Rattle.px_code.specs.declared.body.Body.{Body}
use Rattle.px_code.specs.Body.{body_of}
use Rattle.px_link.specs.Link.{Reads}
use Rattle.px_link.specs.Raw.{ReadsRaw, program_of}
use Rattle.px_pe.specs.Image as pe
use Rattle.px_program.specs.declared.program.Place.{Place}
use Rattle.px_program.specs.declared.program.Program.{Program}
use Rattle.px_tables.specs.Metadata.{View}
use Rattle.px_command_answers.specs.declared.answer.Answer.{Answer}
use Rattle.px_command_answers.specs.declared.answer.Answer.TheVariants as answers
use Rattle.px_command_answers.specs.declared.answer.Refusal.{Refusal}
use Rattle.px_command_answers.specs.declared.answer.Refusal.TheVariants as refusals
use Rattle.px_command_answers.specs.Answers.{Explored, ExplainsMethod, ExplainsNamed, ExplainsRaw, HasCause, IsAssembly, RefusesMethod, RefusesNamed, RefusesProgram, RefusesRaw, no_arrays}

-- what a linked program gives is what the bytes of its body give
refuses_raw : (bytes : List ℕ) (places : List Place) (text : List ℕ) (program : Program) (why : Refusal) → ReadsRaw bytes places (no_arrays places) program → RefusesProgram program text why → RefusesRaw bytes places text why
refuses_raw bytes places text program (refusals.Verify method offset stack kind) reads h = (program, reads, h)
refuses_raw bytes places text program (refusals.Domain at) reads h = (program, reads, h)
refuses_raw bytes places text program refusals.Unsupported reads h = (program, reads, h)
refuses_raw bytes places text program _ reads h = absurd h

pub explains_raw : (bytes : List ℕ) (places : List Place) (text : List ℕ) (body : Body) (program : Program) (answer : Answer)
    → body_of bytes ≡ Ok body → body.locals_token ≡ 0 → program_of body places (no_arrays places) ≡ program → HasCause program text answer → ExplainsRaw bytes places text answer
explains_raw bytes places text body program (answers.Found linked f) is none same h = (record { body = body; read = is; no_locals = none; same = same ∙ sym h.0 }, subst (λ p. Explored p text f) (sym h.0) h.1)
explains_raw bytes places text body program (answers.Refused why) is none same h = refuses_raw bytes places text program why (record { body = body; read = is; no_locals = none; same = same }) h
explains_raw bytes places text body program answers.Memory is none same h = tt

-- what a program gives is what the method of its name gives
refuses_named : (v : View) (image : pe.View) (name text : List ℕ) (program : Program) (why : Refusal) → Reads v image name program → RefusesProgram program text why → RefusesNamed v image name text why
refuses_named v image name text program (refusals.Verify method offset stack kind) reads h = (program, reads, h)
refuses_named v image name text program (refusals.Domain at) reads h = (program, reads, h)
refuses_named v image name text program refusals.Unsupported reads h = (program, reads, h)
refuses_named v image name text program _ reads h = absurd h

pub explains_named : (v : View) (image : pe.View) (name text : List ℕ) (program : Program) (answer : Answer) → Reads v image name program → HasCause program text answer → ExplainsNamed v image name text answer
explains_named v image name text program (answers.Found linked f) reads h = (let P : Program → Type 0 = λ p. Reads v image name p × Explored p text f in subst P (sym h.0) (reads, h.1))
explains_named v image name text program (answers.Refused why) reads h = refuses_named v image name text program why reads h
explains_named v image name text program answers.Memory reads h = tt

-- what a method gives is what the bytes of its assembly give
refuses_method : (bytes name text : List ℕ) (image : pe.View) (v : View) (why : Refusal)
    → IsAssembly bytes image v → RefusesNamed v image name text why → RefusesMethod bytes name text why
refuses_method bytes name text image v (refusals.Pe fault) a h = absurd h.2
refuses_method bytes name text image v (refusals.Tables fault) a h = absurd h.2
refuses_method bytes name text image v (refusals.Meta kind token) a h = absurd h.2
refuses_method bytes name text image v _ a h = (image, v, a, h)

pub explains_method : (bytes name text : List ℕ) (image : pe.View) (v : View) (answer : Answer)
    → IsAssembly bytes image v → ExplainsNamed v image name text answer → ExplainsMethod bytes name text answer
explains_method bytes name text image v (answers.Found program f) a h = (image, v, a, h)
explains_method bytes name text image v (answers.Refused why) a h = refuses_method bytes name text image v why a h
explains_method bytes name text image v answers.Memory a h = tt
