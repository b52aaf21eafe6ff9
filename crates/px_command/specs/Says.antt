-- What each status says, and the text that it writes.
use Rattle.std.specs.Prelude.{◌≡◌, ℕ, ◌<◌, List, [], length, Option, Some, None, ◌⊎◌}
use Rattle.std.specs.List.{AllByRecursion}
use Rattle.px_domain.specs.Domain.{InDomain}
use Rattle.px_io.specs.Counts.{Rose}
use Rattle.px_io.specs.Files.{Files, file_of}
use Rattle.px_io.specs.Puts.{GrewByFront, extended}
use Rattle.px_tests.specs.declared.findings.Input.{Input}
use Rattle.px_tests.specs.declared.findings.Input.TheVariants.{Raw, Method}
use Rattle.px_tests.specs.Text.{text_of}
use Rattle.px_command_answers.specs.declared.answer.Answer.{Answer}
use Rattle.px_command_answers.specs.declared.answer.Answer.TheVariants as answers
use Rattle.px_command.specs.declared.top.Reply.{Reply}
use Rattle.px_command.specs.declared.top.Reply.TheVariants as replies
use Rattle.px_command.specs.declared.top.Status.{Status}
use Rattle.px_command.specs.declared.top.Status.TheVariants as statuses
use Rattle.px_command_answers.specs.Answers.{Explores, Refuses}
use Rattle.px_command_answers.specs.declared.answer.Refusal.{Refusal}
use Rattle.px_program.specs.declared.program.Program.{Program}
use Rattle.px_tests.specs.declared.findings.Findings.{Findings}
use Rattle.px_command_words.specs.declared.words.Target.{Target}
use Rattle.px_command_words.specs.declared.words.Target.TheVariants as targets
use Rattle.px_command.specs.Lines.{no_file_line, read_fault_line, refusal_line, too_long_line, usage_line}
use Rattle.px_command_words.specs.Words.{Asks, misfit}

-- What a call saw of its shelf: the files, where they are told, and the counts before and after it.
pub record Fetching : Type 0 where
  pub files : Option Files
  pub misses : ℕ
  pub misses_after : ℕ
  pub faults : ℕ
  pub faults_after : ℕ

-- the bytes are the file's, where files are told
abbrev pub IsContent : Option Files → List ℕ → List ℕ → Type 0
IsContent None name bytes = Unit {0}
IsContent (Some files) name bytes = file_of files name ≡ Some bytes

-- the file isn't there, where files are told
abbrev pub IsAbsent : Option Files → List ℕ → Type 0
IsAbsent None name = Unit {0}
IsAbsent (Some files) name = file_of files name ≡ None

-- a told file has more than 16 MiB
abbrev pub IsLong : Option (List ℕ) → Type 0
IsLong None = ⊥
IsLong (Some bytes) = 16777216 < length bytes

abbrev pub IsTooLong : Option Files → List ℕ → Type 0
IsTooLong None name = Unit {0}
IsTooLong (Some files) name = IsLong (file_of files name)

-- what a report tells of its input
abbrev pub input_of : Target → Input
input_of (targets.Raw params places) = Raw params.now
input_of (targets.Method name) = Method name.now

-- the text of an answer; want of memory writes nothing
abbrev pub answer_text : Input → Answer → List ℕ
answer_text input (answers.Found program f) = text_of program input f
answer_text input (answers.Refused why) = refusal_line why
answer_text input answers.Memory = []

-- the status of an answer
abbrev pub status_of : Answer → Status
status_of (answers.Found program f) = statuses.Done
status_of (answers.Refused why) = statuses.Refused
status_of answers.Memory = statuses.NoMemory

-- each test of a report is one of its domain
abbrev pub IsWritable : Answer → Type 0
IsWritable (answers.Found program f) = AllByRecursion (λ r. InDomain f.domain r.words) f.records
IsWritable (answers.Refused why) = Unit {0}
IsWritable answers.Memory = Unit {0}

-- the text of a reply; want of memory writes nothing
abbrev pub reply_text : Reply → List ℕ
reply_text (replies.Misfit place) = usage_line place
reply_text (replies.NoFile name) = no_file_line name.now
reply_text replies.TooLong = too_long_line
reply_text (replies.ReadFault name) = read_fault_line name.now
reply_text (replies.Answered input answer) = answer_text input answer
reply_text replies.NoMemory = []

-- the status of a reply
abbrev pub reply_status : Reply → Status
reply_status (replies.Misfit place) = statuses.Usage
reply_status (replies.NoFile name) = statuses.NoFile
reply_status replies.TooLong = statuses.Refused
reply_status (replies.ReadFault name) = statuses.ReadFault
reply_status (replies.Answered input answer) = status_of answer
reply_status replies.NoMemory = statuses.NoMemory

-- a reply that holds a report has one whose tests are in its domain
abbrev pub IsSayable : Reply → Type 0
IsSayable (replies.Misfit place) = Unit {0}
IsSayable (replies.NoFile name) = Unit {0}
IsSayable replies.TooLong = Unit {0}
IsSayable (replies.ReadFault name) = Unit {0}
IsSayable (replies.Answered input answer) = IsWritable answer
IsSayable replies.NoMemory = Unit {0}

-- the exit status of the program
abbrev pub exit_status : Status → ℕ
exit_status statuses.Done = 0
exit_status statuses.Usage = 3
exit_status statuses.Refused = 4
exit_status statuses.NoFile = 5
exit_status statuses.ReadFault = 6
exit_status statuses.WriteFault = 7
exit_status statuses.NoMemory = 8

-- The words ask for a file, its bytes stand for a program that was explored, and the text is the report of what was found.
pub record Reports (words : List (List ℕ)) (seen : Fetching) (text : List ℕ) : Type 0 where
  pub asks : Asks words
  pub bytes : List ℕ
  pub content : IsContent seen.files asks.file bytes
  pub program : Program
  pub findings : Findings
  pub explored : Explores bytes asks.target asks.text program findings
  pub text_is : text ≡ text_of program (input_of asks.target) findings

-- The words ask for a file, its bytes are refused, and the text is the line of the reason.
pub record IsRefused (words : List (List ℕ)) (seen : Fetching) (text : List ℕ) : Type 0 where
  pub asks : Asks words
  pub bytes : List ℕ
  pub content : IsContent seen.files asks.file bytes
  pub why : Refusal
  pub cause : Refuses bytes asks.target asks.text why
  pub text_is : text ≡ refusal_line why

pub record Misses (words : List (List ℕ)) (seen : Fetching) (text : List ℕ) : Type 0 where
  pub asks : Asks words
  pub absent : IsAbsent seen.files asks.file
  pub rose : Rose seen.misses seen.misses_after
  pub text_is : text ≡ no_file_line asks.file

pub record Overruns (words : List (List ℕ)) (seen : Fetching) (text : List ℕ) : Type 0 where
  pub asks : Asks words
  pub too_long : IsTooLong seen.files asks.file
  pub rose : Rose seen.misses seen.misses_after
  pub text_is : text ≡ too_long_line

pub record Breaks (words : List (List ℕ)) (seen : Fetching) (text : List ℕ) : Type 0 where
  pub asks : Asks words
  pub rose : Rose seen.faults seen.faults_after
  pub text_is : text ≡ read_fault_line asks.file

pub record Misfits (words : List (List ℕ)) (text : List ℕ) : Type 0 where
  pub place : ℕ
  pub first : misfit words ≡ Some place
  pub text_is : text ≡ usage_line place

-- THE PROMISE: when a status comes, and the text that it writes.
-- Done: the words are of the form and the text is that of a sound report of the file's program under the domain of the words.
abbrev pub Says : List (List ℕ) → Fetching → Status → List ℕ → Type 0
Says words seen statuses.Done text = Reports words seen text
Says words seen statuses.Usage text = Misfits words text
Says words seen statuses.Refused text = IsRefused words seen text ⊎ Overruns words seen text
Says words seen statuses.NoFile text = Misses words seen text
Says words seen statuses.ReadFault text = Breaks words seen text
Says words seen statuses.WriteFault text = ⊥
Says words seen statuses.NoMemory text = text ≡ []

-- a text that some status says
pub record SaysSome (words : List (List ℕ)) (seen : Fetching) (text : List ℕ) : Type 0 where
  pub status : Status
  pub says : Says words seen status text

abbrev pub fetching : Option Files → ℕ → ℕ → ℕ → ℕ → Fetching
fetching files misses misses_after faults faults_after = record { files = files; misses = misses; misses_after = misses_after; faults = faults; faults_after = faults_after }

-- the text that the status says was written, where what is written is told
pub record Wrote (words : List (List ℕ)) (seen : Fetching) (status : Status) (old new : Option (List ℕ)) : Type 0 where
  pub text : List ℕ
  pub says : Says words seen status text
  pub written : new ≡ extended old text

-- a proper prefix of a text that some status says was written
pub record WroteFront (words : List (List ℕ)) (seen : Fetching) (old new : Option (List ℕ)) : Type 0 where
  pub text : List ℕ
  pub says : SaysSome words seen text
  pub front : GrewByFront old text new
