-- What the parts of the reader promise each other.
use Rattle.std.specs.Prelude.{◌≡◌, ℕ, zero, suc, ◌+◌, ◌==◌, Bool, length, if◌then◌else◌, List, [], ◌∷◌, Result, Ok, Err}
use Rattle.px_sig.specs.Reading.{Fails}
use Rattle.px_reading.specs.Reading.{Read, ◌>>=◌}
use Rattle.px_sig.specs.Grammar.{Front, is_callee_kind, is_kind, plain_type, shape_at, type_at, type_behind}
use Rattle.px_sig.specs.declared.cursor.Callee.{Callee}
use Rattle.px_sig.specs.declared.cursor.Callee.TheVariants as callees
use Rattle.px_sig.specs.declared.cursor.Front as front
use Rattle.px_sig.specs.declared.fault.SigFault.{SigFault}
use Rattle.px_sig.specs.declared.fault.SigFault.TheVariants as faults
use Rattle.px_sig.specs.declared.form.Form.{Form}
use Rattle.px_sig.specs.declared.form.Form.TheVariants as forms
use Rattle.px_sig.specs.declared.form.Owes.{Owes}
use Rattle.px_sig.specs.declared.sig.SigLeaf.{SigLeaf}
use Rattle.px_sig.specs.declared.sig.SigType.{SigType}

-- the fault is that of the reading, and never want of memory
abbrev pub FailsAt : {X : Type 0} → SigFault → Result X ℕ → Type 0
FailsAt faults.Memory read = ⊥
FailsAt (faults.Bad at) read = read ≡ Err at

-- what was returned, and the place behind it, are what reading gives
abbrev pub Reads : {X : Type 0} → Result X SigFault → ℕ → Result (Read X) ℕ → Type 0
Reads (Ok x) end read = read ≡ Ok (record { value = x; end = end })
Reads (Err fault) end read = FailsAt fault read

-- the same where memory may run out
abbrev pub Makes : {X : Type 0} → Result X SigFault → ℕ → Result (Read X) ℕ → Type 0
Makes (Ok x) end read = read ≡ Ok (record { value = x; end = end })
Makes (Err fault) end read = Fails fault read

-- which bytes a signature may begin with
abbrev pub kinds : Callee → ℕ → Bool
kinds callees.Method = is_kind
kinds callees.Pointer = is_callee_kind

-- what was returned of a type that is no array
abbrev pub plain : Result SigLeaf SigFault → Result SigType SigFault
plain (Ok leaf) = Ok (plain_type leaf)
plain (Err fault) = Err fault

-- what was returned of a method's front, in the grammar's words
abbrev pub shown : Result front.Front SigFault → Result Front SigFault
shown (Ok f) = Ok (record { has_this = f.has_this; plain = f.plain; count = f.count })
shown (Err fault) = Err fault

-- the place behind what is read
abbrev pub behind : {X : Type 0} → Result (Read X) ℕ → Result ℕ ℕ
behind read = read >>= λ it. Ok it.end

-- the place up to which something was passed over
abbrev pub Passes : {X : Type 0} → Result X SigFault → ℕ → Result ℕ ℕ → Type 0
Passes (Ok x) end read = read ≡ Ok end
Passes (Err fault) end read = FailsAt fault read

-- the same where memory may run out
abbrev pub MayPass : {X : Type 0} → Result X SigFault → ℕ → Result ℕ ℕ → Type 0
MayPass (Ok x) end read = read ≡ Ok end
MayPass (Err fault) end read = Fails fault read

-- the end of the blob
abbrev pub end_at : List ℕ → ℕ → Result ℕ ℕ
end_at blob at = if at == length blob then Ok at else Err at

-- so many of what is passed over, one behind the other
abbrev pub times : (ℕ → Result ℕ ℕ) → ℕ → ℕ → Result ℕ ℕ
times pass zero at = Ok at
times pass (suc count) at = pass at >>= times pass count

-- the place behind a type
abbrev pub behind_type : List ℕ → ℕ → Result ℕ ℕ
behind_type blob at = behind (type_at blob at)

-- the place behind so many types, and perhaps the shape of an array
unfoldable pub behind_owed : List ℕ → Owes → ℕ → Result ℕ ℕ
behind_owed blob owes at = times (behind_type blob) owes.types at >>= λ end. if owes.shape then shape_at blob end else Ok end

-- the place behind all that is owed, the last first
abbrev pub behind_all : List ℕ → List Owes → ℕ → Result ℕ ℕ
behind_all blob [] at = Ok at
behind_all blob (owes ∷ others) at = behind_all blob others at >>= behind_owed blob owes

-- the place behind what is owed first, and then all the others
abbrev pub behind_both : List ℕ → Owes → List Owes → ℕ → Result ℕ ℕ
behind_both blob first others at = behind_owed blob first at >>= behind_all blob others

-- what is owed leads to the end of a reading
abbrev pub Leads : {X : Type 0} → List ℕ → Result Owes SigFault → ℕ → Result (Read X) ℕ → Type 0
Leads blob (Ok owes) at read = behind read ≡ behind_owed blob owes at
Leads blob (Err fault) at read = FailsAt fault read

-- so many arrays around a type
abbrev pub arrays_of : ℕ → SigType → SigType
arrays_of count type = record { depth = type.depth + count; leaf = type.leaf }

-- so many arrays around the type that is read
abbrev pub within : ℕ → Result (Read SigType) ℕ → Result (Read SigType) ℕ
within count read = read >>= λ type. Ok (record { value = arrays_of count type.value; end = type.end })

-- a form that is no modifier and no array
abbrev pub IsInner : Form → Type 0
IsInner forms.Modifier = ⊥
IsInner forms.Pinned = ⊥
IsInner forms.Array = ⊥
IsInner form = Unit {0}

-- so many arrays, and the form of the type in them, lead to the type that is read
abbrev pub LeadsIn : List ℕ → Result (ℕ × Form) SigFault → ℕ → Result (Read SigType) ℕ → Type 0
LeadsIn blob (Ok found) at read = IsInner found.1 × (read ≡ within found.0 (type_behind (type_at blob) blob found.1 at))
LeadsIn blob (Err fault) at read = FailsAt fault read

-- what is left to be passed over leads to the same place
abbrev pub Goes : {X : Type 0} → List ℕ → Result X SigFault → List Owes → ℕ → Result ℕ ℕ → Type 0
Goes blob (Ok x) owed at read = read ≡ behind_all blob owed at
Goes blob (Err fault) owed at read = Fails fault read
