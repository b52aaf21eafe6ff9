-- What the bytes of a file and the text of a domain give, before anything is written.
use Rattle.std.specs.Prelude.{◌≡◌, ◌≢◌, ℕ, ◌<◌, List, length, reverse, take, drop, Option, Some, None, Ok, Err, ◌⊎◌, map, true, false, Bool, ◌&&◌, nat_le}
use Rattle.std.specs.List.{list_all}
use Rattle.px_code.specs.declared.body.Body.{Body}
use Rattle.px_code.specs.declared.body.BodyFault.TheVariants as body_faults
use Rattle.px_code.specs.Body.{body_of}
use Rattle.px_domain.specs.declared.domain.Part.{Part}
use Rattle.px_domain.specs.Domain.{ranges_of, size_of}
use Rattle.px_domain.specs.Givens.{givens_of}
use Rattle.px_domain.specs.Grammar.{domain_of}
use Rattle.px_link.specs.declared.fault.LinkFault.TheVariants as faults
use Rattle.px_link.specs.Link.{Blames, Reads}
use Rattle.px_link.specs.Raw.{ReadsRaw}
use Rattle.px_meta.specs.Faults.{IsFaultless, IsFirstFault}
use Rattle.px_pe.specs.Image as pe
use Rattle.px_pe.specs.Image.{image_of}
use Rattle.px_program.specs.Formed.{entry_of}
use Rattle.px_program.specs.declared.program.Method.{Method}
use Rattle.px_program.specs.declared.program.Place.{Place}
use Rattle.px_program.specs.declared.program.Place.TheVariants as places
use Rattle.px_program.specs.declared.program.Program.{Program}
use Rattle.px_program.specs.declared.record.Bounds.{Bounds}
use Rattle.px_program.specs.declared.record.Limits.{Limits}
use Rattle.px_tables.specs.Metadata.{View, metadata_of}
use Rattle.px_tests.specs.declared.findings.Findings.{Findings}
use Rattle.px_tests.specs.Sound.{Sound}
use Rattle.px_simple.specs.Simple.{fault_of}
use Rattle.px_verify.specs.Verdict.{IsRefused, IsTyped}
use Rattle.px_command_answers.specs.declared.answer.Answer.{Answer}
use Rattle.px_command_answers.specs.declared.answer.Answer.TheVariants as answers
use Rattle.px_command_answers.specs.declared.answer.Refusal.{Refusal}
use Rattle.px_command_answers.specs.declared.answer.Refusal.TheVariants as refusals
use Rattle.px_command_words.specs.declared.words.Target.{Target}
use Rattle.px_command_words.specs.declared.words.Target.TheVariants as targets

abbrev pub default_bounds : Bounds
default_bounds = record { steps = 2000; depth = 128; length = 16 }

abbrev pub default_limits : Limits
default_limits = record { runs = 1000; spent = 64; conflicts = 1000 }

-- The findings are a sound report of the program under the text's domain and the defaults.
pub record Finds (program : Program) (text : List ℕ) (f : Findings) : Type 0 where
  pub domain : domain_of (givens_of program) text ≡ Ok f.domain
  pub bounds : f.bounds ≡ default_bounds
  pub limits : f.limits ≡ default_limits
  pub sound : Sound program f

abbrev pub is_int32 : Place → Bool
is_int32 places.I4 = true
is_int32 _ = false

abbrev pub returns_int32 : Option Place → Bool
returns_int32 None = false
returns_int32 (Some place) = is_int32 place

abbrev pub is_explored_method : Option Method → Bool
is_explored_method None = false
is_explored_method (Some method) = method.is_static && list_all is_int32 method.params && nat_le (length method.params) 4 && returns_int32 method.ret

-- the entry is a static method of at most four int32 that returns one: the form that is explored so far
abbrev pub is_explored : Program → Bool
is_explored program = is_explored_method (entry_of program)

-- the entry is of another form, or isn't simple
abbrev pub IsOther : Program → Type 0
IsOther program = (is_explored program ≡ false) ⊎ ((at : ℕ) × (fault_of program ≡ Some at))

-- The program, or the domain, is of a form that isn't explored yet: the domain has more than 1,000 tuples.
pub record IsUnsupported (program : Program) (text : List ℕ) : Type 0 where
  pub parts : List Part
  pub domain : domain_of (givens_of program) text ≡ Ok parts
  pub beyond : IsOther program ⊎ (1000 < size_of (ranges_of parts))

-- The program is typed and of the form that is explored, and the findings are its report.
pub record Explored (program : Program) (text : List ℕ) (f : Findings) : Type 0 where
  pub typed : IsTyped program
  pub form : is_explored program ≡ true
  pub finds : Finds program text f

-- why a program that was linked is refused: what its typing refuses first, then the text of the domain, and then its form
abbrev pub RefusesProgram : Program → List ℕ → Refusal → Type 0
RefusesProgram program text (refusals.Verify method offset stack kind) = IsRefused program method offset (reverse stack) kind
RefusesProgram program text (refusals.Domain at) = IsTyped program × (domain_of (givens_of program) text ≡ Err at)
RefusesProgram program text refusals.Unsupported = IsTyped program × IsUnsupported program text
RefusesProgram program text _ = ⊥

-- why an answer comes for a program that was linked
abbrev pub HasCause : Program → List ℕ → Answer → Type 0
HasCause program text (answers.Found linked f) = (linked ≡ program) × Explored program text f
HasCause program text (answers.Refused why) = RefusesProgram program text why
HasCause program text answers.Memory = Unit {0}

-- no parameter of a raw method is an array
abbrev pub no_arrays : List Place → List Bool
no_arrays places = map (λ place. false) places

-- why the bytes of a raw body are refused: the first of these that fits
abbrev pub RefusesRaw : List ℕ → List Place → List ℕ → Refusal → Type 0
RefusesRaw bytes places text (refusals.Body kind at method) = (body_of bytes ≡ Err (kind, at)) × (method ≡ 0)
RefusesRaw bytes places text refusals.RawLocals = (body : Body) × (body_of bytes ≡ Ok body) × (body.locals_token ≢ 0)
RefusesRaw bytes places text why = (program : Program) × ReadsRaw bytes places (no_arrays places) program × RefusesProgram program text why

-- why an answer comes for the bytes of a raw body, with parameters of these places
abbrev pub ExplainsRaw : List ℕ → List Place → List ℕ → Answer → Type 0
ExplainsRaw bytes places text (answers.Found program f) = ReadsRaw bytes places (no_arrays places) program × Explored program text f
ExplainsRaw bytes places text (answers.Refused why) = RefusesRaw bytes places text why
ExplainsRaw bytes places text answers.Memory = Unit {0}

-- why a method of resolved metadata is refused, by its name: the first of these that fits
abbrev pub RefusesNamed : View → pe.View → List ℕ → List ℕ → Refusal → Type 0
RefusesNamed v image name text refusals.NoMethod = Blames v image name faults.NoMethod
RefusesNamed v image name text refusals.Ambiguous = Blames v image name faults.Ambiguous
RefusesNamed v image name text refusals.NoBody = Blames v image name faults.NoBody
RefusesNamed v image name text (refusals.BadParameter number) = Blames v image name (faults.BadParameter number)
RefusesNamed v image name text refusals.NoMaker = Blames v image name faults.NoMaker
RefusesNamed v image name text (refusals.Body kind at method) = Blames v image name (faults.BadBody (body_faults.Bad kind at) method)
RefusesNamed v image name text why = (program : Program) × Reads v image name program × RefusesProgram program text why

-- why an answer comes for a method of resolved metadata, by its name
abbrev pub ExplainsNamed : View → pe.View → List ℕ → List ℕ → Answer → Type 0
ExplainsNamed v image name text (answers.Found program f) = Reads v image name program × Explored program text f
ExplainsNamed v image name text (answers.Refused why) = RefusesNamed v image name text why
ExplainsNamed v image name text answers.Memory = Unit {0}

-- the bytes of an image's metadata
abbrev pub metadata_in : pe.View → List ℕ
metadata_in image = take image.metadata.len (drop image.metadata.start image.bytes)

-- an assembly: the image of the bytes, and what is known of its metadata, in which no row has a fault
pub record IsAssembly (bytes : List ℕ) (image : pe.View) (v : View) : Type 0 where
  pub image_is : image_of bytes ≡ Ok image
  pub tables : metadata_of (metadata_in image) ≡ Ok v
  pub faultless : IsFaultless v

-- the bytes are an image, and this is so of its metadata
abbrev pub HasMetadata : List ℕ → (List ℕ → Type 0) → Type 0
HasMetadata bytes Is = (image : pe.View) × (image_of bytes ≡ Ok image) × Is (metadata_in image)

-- why the bytes of an assembly are refused, with a method by its name: the image, the tables, the rows, and then the method
abbrev pub RefusesMethod : List ℕ → List ℕ → List ℕ → Refusal → Type 0
RefusesMethod bytes name text (refusals.Pe fault) = image_of bytes ≡ Err fault
RefusesMethod bytes name text (refusals.Tables fault) = HasMetadata bytes (λ metadata. metadata_of metadata ≡ Err fault)
RefusesMethod bytes name text (refusals.Meta kind token) = HasMetadata bytes (λ metadata. (v : View) × (metadata_of metadata ≡ Ok v) × IsFirstFault v kind token)
RefusesMethod bytes name text why = (image : pe.View) × (v : View) × IsAssembly bytes image v × RefusesNamed v image name text why

-- why an answer comes for the bytes of an assembly, with a method by its name
abbrev pub ExplainsMethod : List ℕ → List ℕ → List ℕ → Answer → Type 0
ExplainsMethod bytes name text (answers.Found program f) = (image : pe.View) × (v : View) × IsAssembly bytes image v × ExplainsNamed v image name text (answers.Found program f)
ExplainsMethod bytes name text (answers.Refused why) = RefusesMethod bytes name text why
ExplainsMethod bytes name text answers.Memory = Unit {0}

-- the findings are a sound report of the program that the bytes of a file stand for, with what is explored of the file
abbrev pub Explores : List ℕ → Target → List ℕ → Program → Findings → Type 0
Explores bytes (targets.Raw params places) text program f = ReadsRaw bytes places.now (no_arrays places.now) program × Explored program text f
Explores bytes (targets.Method name) text program f =
    (image : pe.View) × (v : View) × IsAssembly bytes image v × Reads v image name.now program × Explored program text f

-- why the bytes of a file are refused, with what would be explored of it
abbrev pub Refuses : List ℕ → Target → List ℕ → Refusal → Type 0
Refuses bytes (targets.Raw params places) text why = RefusesRaw bytes places.now text why
Refuses bytes (targets.Method name) text why = RefusesMethod bytes name.now text why

-- why an answer comes for the bytes of a file, with what is explored of it
abbrev pub Explains : List ℕ → Target → List ℕ → Answer → Type 0
Explains bytes (targets.Raw params places) text answer = ExplainsRaw bytes places.now text answer
Explains bytes (targets.Method name) text answer = ExplainsMethod bytes name.now text answer
