-- Which clause an exception meets, and which one a jump out of ranges runs (Partition I, 12.4.2).
use Rattle.std.specs.Prelude.{ℕ, suc, ◌&&◌, not, nat_le, nat_lt, Bool, true, false, if◌then◌else◌, List, [], ◌∷◌, Option, Some, None}
use Rattle.px_program.specs.Formed.{method_at}
use Rattle.px_program.specs.declared.program.Clause.{Clause}
use Rattle.px_program.specs.declared.program.ClauseKind.{ClauseKind}
use Rattle.px_program.specs.declared.program.ClauseKind.TheVariants as kinds
use Rattle.px_program.specs.declared.program.Method.{Method}
use Rattle.px_program.specs.declared.program.Program.{Program}
use Rattle.px_program.specs.declared.program.TypeInfo.{TypeInfo}
use Rattle.px_verify_kinds.specs.Kinds.{is_kind_of}

-- the clause's range holds an offset
abbrev pub holds : Clause → ℕ → Bool
holds clause at = nat_le clause.from at && nat_lt at clause.to

-- a catch is for a class that an object of the other one is of; one for no known class is for nothing
abbrev pub catches : List TypeInfo → ℕ → Option ℕ → Bool
catches types class None = false
catches types class (Some caught) = is_kind_of types class caught

abbrev pub meets_kind : List TypeInfo → ℕ → Option ℕ → ClauseKind → Bool
meets_kind types class caught kinds.Catch = catches types class caught
meets_kind types class caught kinds.Filter = true
meets_kind types class caught kinds.Finally = true
meets_kind types class caught kinds.Fault = true

-- an exception of the class that is thrown at an offset meets the clause
abbrev pub meets : List TypeInfo → ℕ → ℕ → Clause → Bool
meets types at class clause = holds clause at && meets_kind types class clause.class clause.kind

abbrev pub is_finally : ClauseKind → Bool
is_finally kinds.Finally = true
is_finally _ = false

-- a jump leads out of the range of a finally clause
abbrev pub exits : ℕ → ℕ → Clause → Bool
exits from to clause = is_finally clause.kind && holds clause from && not (holds clause to)

-- the first clause that passes a test, by its number, of those from a number on
abbrev pub first_from : (Clause → Bool) → ℕ → ℕ → List Clause → Option ℕ
first_from test after number [] = None
first_from test after number (clause ∷ clauses) = if nat_le after number && test clause then Some number else first_from test after (suc number) clauses

abbrev pub clauses_of : Option Method → List Clause
clauses_of None = []
clauses_of (Some method) = method.clauses

-- the first clause of a method, from a number on, that an exception of the class meets where it is thrown at an offset
abbrev pub handler_in : Program → ℕ → ℕ → ℕ → ℕ → Option ℕ
handler_in program method at after class = first_from (meets program.types at class) after 0 (clauses_of (method_at program method))

-- the first finally clause of a method, from a number on, out of whose range a jump leads
abbrev pub exit_in : Method → ℕ → ℕ → ℕ → Option ℕ
exit_in method from to after = first_from (exits from to) after 0 method.clauses
