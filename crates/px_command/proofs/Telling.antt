-- What is said by the answers.
use Rattle.std.proofs.Common.{◌≡◌, ℕ, List, [], ◌∷◌, Option, Some, None, refl, sym, ap, inl}
use Rattle.std.specs.Prelude.{Vec}
use Rattle.std.specs.declared.alloc.Global.{Global}
use Rattle.std.specs.List.{AllByRecursion}
use Rattle.px_domain.specs.declared.domain.Part.{Part}
use Rattle.px_domain.specs.Domain.{InDomain}
use Rattle.px_interp.specs.Run.{Stands}
use Rattle.px_io.specs.Files.{Files, Gives, GivesOf, file_of}
use Rattle.px_io.specs.declared.shelf.Fetched.TheVariants as found
use Rattle.px_program.specs.declared.program.Program.{Program}
use Rattle.px_program.specs.declared.record.Bounds.{Bounds}
use Rattle.px_program.specs.declared.record.Record.{Record}
use Rattle.px_command_answers.specs.declared.answer.Answer.{Answer}
use Rattle.px_command_answers.specs.declared.answer.Answer.TheVariants as answers
use Rattle.px_command_answers.specs.declared.answer.Refusal.{Refusal}
use Rattle.px_command_words.specs.declared.words.Target.{Target}
use Rattle.px_command_words.specs.declared.words.Target.TheVariants as targets
use Rattle.px_command.specs.Says.{Fetching, IsAbsent, IsContent, IsLong, IsTooLong, IsWritable, Says, answer_text, input_of, status_of}
use Rattle.px_command_words.specs.Words.{AsksFor}
use Rattle.px_tests.specs.declared.findings.Findings.{Findings}
use Rattle.px_command_answers.specs.Answers.{Explains, Explores, Refuses}

-- records that stand are in the domain
within : (program : Program) (parts : List Part) (bounds : Bounds) (records : List Record) → AllByRecursion (Stands program parts bounds) records → AllByRecursion (λ r. InDomain parts r.words) records
within program parts bounds [] h = tt
within program parts bounds (r ∷ records) h = (h.0.within, within program parts bounds records h.1)

pub writable : (bytes : List ℕ) (target : Target) (text : List ℕ) (answer : Answer) → Explains bytes target text answer → IsWritable answer
writable bytes (targets.Raw params places) text (answers.Found program f) h = within program f.domain f.bounds f.records h.1.finds.sound.stand
writable bytes (targets.Method name) text (answers.Found program f) h = within program f.domain f.bounds f.records h.3.1.finds.sound.stand
writable bytes target text (answers.Refused why) h = tt
writable bytes target text answers.Memory h = tt

-- what explains an answer is what its report, or its refusal, promises
explored : (bytes text : List ℕ) (program : Program) (f : Findings) (target : Target) → Explains bytes target text (answers.Found program f) → Explores bytes target text program f
explored bytes text program f (targets.Raw params places) h = h
explored bytes text program f (targets.Method name) h = (h.0, h.1, h.2, h.3.0, h.3.1)

refused : (bytes text : List ℕ) (why : Refusal) (target : Target) → Explains bytes target text (answers.Refused why) → Refuses bytes target text why
refused bytes text why (targets.Raw params places) h = h
refused bytes text why (targets.Method name) h = h

module _ (words : List (List ℕ)) (seen : Fetching) (file : List ℕ) (target : Target) (text bytes : List ℕ) (asked : AsksFor words file target text) (content : IsContent seen.files file bytes) where
  -- an answer is said by its status and its text
  pub says_answer : (answer : Answer) → Explains bytes target text answer → Says words seen (status_of answer) (answer_text (input_of target) answer)
  says_answer (answers.Found program f) h = record { asks = record { file = file; target = target; text = text; asked = asked }; bytes = bytes; content = content; program = program; findings = f; explored = explored bytes text program f target h; text_is = refl }
  says_answer (answers.Refused why) h = inl (record { asks = record { file = file; target = target; text = text; asked = asked }; bytes = bytes; content = content; why = why; cause = refused bytes text why target h; text_is = refl })
  says_answer answers.Memory h = refl

-- what a fetch found is so of the file
gave_bytes : (o : Option (List ℕ)) (limit : ℕ) (v : Vec ℕ Global) → Gives o limit (found.Bytes v) → o ≡ Some v.items
gave_bytes None limit v h = absurd h
gave_bytes (Some content) limit v h = ap (λ s. Some s) (sym h.0)

pub is_content : (files : Option Files) (name : List ℕ) (limit : ℕ) (v : Vec ℕ Global) → GivesOf files name limit (found.Bytes v) → IsContent files name v.items
is_content None name limit v h = tt
is_content (Some files) name limit v h = gave_bytes (file_of files name) limit v h

gave_absent : (o : Option (List ℕ)) (limit : ℕ) → Gives o limit found.Absent → o ≡ None
gave_absent None limit h = refl
gave_absent (Some content) limit h = absurd h

pub is_absent : (files : Option Files) (name : List ℕ) (limit : ℕ) → GivesOf files name limit found.Absent → IsAbsent files name
is_absent None name limit h = tt
is_absent (Some files) name limit h = gave_absent (file_of files name) limit h

gave_long : (o : Option (List ℕ)) → Gives o 16777216 found.TooLong → IsLong o
gave_long None h = absurd h
gave_long (Some content) h = h

pub is_too_long : (files : Option Files) (name : List ℕ) → GivesOf files name 16777216 found.TooLong → IsTooLong files name
is_too_long None name h = tt
is_too_long (Some files) name h = gave_long (file_of files name) h
