-- Steps of single instructions, and runs of whole methods, by the table of instructions over plain words.
use Rattle.std.proofs.Common.{◌≡◌, List, [], ◌∷◌, ◌++◌, ℕ, Bool, true, false, Option, Some, None, refl}
use Rattle.px_words.specs.Word.{word}
use Rattle.px_cells.specs.Plain.{plain, plain_algebra}
use Rattle.px_cells.specs.declared.plain.NoPool.{NoPool}
use Rattle.px_cells.specs.declared.plain.Plain.{Plain}
use Rattle.px_cells.specs.declared.slot.Slot.{Slot}
use Rattle.px_cells.specs.declared.slot.Slot.TheVariants as slots
use Rattle.px_rank.specs.Distance.{distance_of, gap_of}
use Rattle.px_program.specs.Alone.{no_layout}
use Rattle.px_program.specs.Library.{library_types}
use Rattle.px_program.specs.declared.instr.Arithmetic.TheVariants as arithmetic
use Rattle.px_program.specs.declared.instr.Callee.TheVariants as callees
use Rattle.px_program.specs.declared.instr.Check.TheVariants.{Assert, Assume}
use Rattle.px_program.specs.declared.instr.Checked.TheVariants as checked
use Rattle.px_program.specs.declared.instr.Code.{Code}
use Rattle.px_program.specs.declared.instr.Code.TheVariants.{Arithmetic, BranchCompare, BranchTruth, Call, Check, Checked, Compare, Convert, ConvertChecked, Divide, DivideUnsigned, Move, Return, Shift, Switch, Unary}
use Rattle.px_program.specs.declared.instr.Division.TheVariants.{Quotient, Remainder}
use Rattle.px_program.specs.declared.instr.IntegerType.TheVariants as integers
use Rattle.px_program.specs.declared.instr.Move.TheVariants as moves
use Rattle.px_program.specs.declared.instr.Shift.TheVariants.{Left, Right, RightUnsigned}
use Rattle.px_program.specs.declared.instr.Test.TheVariants.{Eq, Gt, Lt}
use Rattle.px_program.specs.declared.instr.Unary.TheVariants.{Complement, Negate}
use Rattle.px_program.specs.declared.program.Method.{Method}
use Rattle.px_program.specs.declared.program.Place.{Place}
use Rattle.px_program.specs.declared.program.Place.TheVariants as places
use Rattle.px_program.specs.declared.program.Program.{Program}
use Rattle.px_program.specs.declared.record.Bounds.{Bounds}
use Rattle.px_program.specs.declared.record.End.{End}
use Rattle.px_program.specs.declared.record.End.TheVariants as ends
use Rattle.px_program.specs.declared.record.SiteKind.{SiteKind}
use Rattle.px_program.specs.declared.record.SiteKind.TheVariants as sites
use Rattle.px_program.specs.declared.record.Value.TheVariants as values
use Rattle.px_machine.specs.Run.{run, run_of}
use Rattle.px_machine.specs.State.{Here, Object, Outcome, Shared, Step, Goes, Sees, Ends, Zeros}
use Rattle.px_machine.specs.Table.{row}
use Rattle.px_machine.specs.declared.entry.Choice.{Choice}
use Rattle.px_machine.specs.declared.entry.Entry.{Entry}
use Rattle.px_machine.specs.declared.entry.Entry.TheVariants as entry
use Rattle.px_machine.specs.declared.entry.NumberKind.TheVariants.{I, L, N}
use Rattle.px_facts_run.proofs.Methods.{Sized, laid_from, method_of}

abbrev pool : NoPool
pool = record {}

-- STEPS

abbrev int32 : ℕ → Entry Plain
int32 n = entry.Number I (plain n)

abbrev int64 : ℕ → Entry Plain
int64 n = entry.Number L (plain n)

abbrev native : ℕ → Entry Plain
native n = entry.Number N (plain n)

abbrev zeros : Zeros Plain
zeros = record { narrow = plain 0; wide = plain 0 }

-- nothing was made yet
abbrev unmade : Shared Plain
unmade = record { zeros = zeros; heap = []; statics = []; texts = []; later = [] }

abbrev bounds : Bounds
bounds = record { steps = 2000; depth = 128; length = 16 }

abbrev program_of : List Method → Program
program_of methods = record { types = library_types; methods = methods; entry = 0; maker = None; layout = no_layout }

-- at the offset 5 of a method without instructions, on a stack
abbrev here : List (Entry Plain) → Here Plain
here stack = record {
  program = program_of (method_of [] [] ∷ []);
  bounds = bounds;
  shared = unmade;
  frame = record { method = 0; offset = 5; arguments = []; locals = []; stack = stack; blocks = [] };
  callers = [];
  next = 6;
}

abbrev does : Code → List (Entry Plain) → Step NoPool Plain
does code stack = row plain_algebra (here stack) code stack pool

-- goes on at an offset with a stack
abbrev at : ℕ → List (Entry Plain) → Step NoPool Plain
at offset stack = Goes (record { pool = pool; shared = unmade; frames = record { method = 0; offset = offset; arguments = []; locals = []; stack = stack; blocks = [] } ∷ [] })

abbrev leaves : List (Entry Plain) → Step NoPool Plain
leaves stack = at 6 stack

-- takes a side at a site
abbrev takes : SiteKind → ℕ → ℕ → ℕ → Step NoPool Plain → Step NoPool Plain
takes kind arity side gap rest = Sees (record { event = record { site = record { method = 0; offset = 5; kind = kind; arity = arity }; side = side }; gap = gap; side = plain side }) rest

abbrev throws : ℕ → Step NoPool Plain
throws class = Ends (ends.Threw class) pool

-- NUMBERS

sum_wraps : does (Arithmetic arithmetic.Add) (int32 1 ∷ int32 0xffff_ffff ∷ []) ≡ leaves (int32 0 ∷ [])
unfolding word
sum_wraps = refl

difference_is_of_the_first : does (Arithmetic arithmetic.Sub) (int64 1 ∷ int64 3 ∷ []) ≡ leaves (int64 2 ∷ [])
unfolding word
difference_is_of_the_first = refl

-- An int32 beside a native number is extended by its sign.
mixed : does (Arithmetic arithmetic.Add) (native 1 ∷ int32 0xffff_ffff ∷ []) ≡ leaves (native 0 ∷ [])
unfolding word
mixed = refl

mixed_second : does (Arithmetic arithmetic.Add) (int32 0xffff_fffe ∷ native 1 ∷ []) ≡ leaves (native 0xffff_ffff_ffff_ffff ∷ [])
unfolding word
mixed_second = refl

-- Division rounds towards 0, behind its two checks; a body that rounds down gives 0xffff_fffc.
quotient : does (Divide Quotient) (int32 2 ∷ int32 0xffff_fff9 ∷ []) ≡ takes sites.Zero 2 0 1 (takes sites.Overflow 2 0 1 (leaves (int32 0xffff_fffd ∷ [])))
unfolding word
quotient = refl

remainder : does (Divide Remainder) (int64 2 ∷ int64 0xffff_ffff_ffff_fff9 ∷ []) ≡ takes sites.Zero 2 0 1 (takes sites.Overflow 2 0 1 (leaves (int64 0xffff_ffff_ffff_ffff ∷ [])))
unfolding word
remainder = refl

by_0 : does (Divide Quotient) (int32 0 ∷ int32 7 ∷ []) ≡ takes sites.Zero 2 1 1 (throws 4)
unfolding word
by_0 = refl

least_by_minus_1 : does (Divide Remainder) (int64 0xffff_ffff_ffff_ffff ∷ int64 0x8000_0000_0000_0000 ∷ []) ≡ takes sites.Zero 2 0 1 (takes sites.Overflow 2 1 1 (throws 5))
unfolding word
least_by_minus_1 = refl

-- An unsigned division has one check.
unsigned_quotient : does (DivideUnsigned Quotient) (int32 0xffff_ffff ∷ int32 0x8000_0000 ∷ []) ≡ takes sites.Zero 2 0 1 (leaves (int32 0 ∷ []))
unfolding word
unsigned_quotient = refl

sum_overflows : does (Checked checked.Add true) (int32 1 ∷ int32 0x7fff_ffff ∷ []) ≡ takes sites.Overflow 2 1 1 (throws 5)
unfolding word
sum_overflows = refl

sum_that_fits_unsigned : does (Checked checked.Add false) (int32 1 ∷ int32 0x7fff_ffff ∷ []) ≡ takes sites.Overflow 2 0 1 (leaves (int32 0x8000_0000 ∷ []))
unfolding word
sum_that_fits_unsigned = refl

difference_below_0 : does (Checked checked.Sub false) (int64 2 ∷ int64 1 ∷ []) ≡ takes sites.Overflow 2 1 1 (throws 5)
unfolding word
difference_below_0 = refl

product_overflows : does (Checked checked.Mul true) (int64 2 ∷ int64 0x4000_0000_0000_0000 ∷ []) ≡ takes sites.Overflow 2 1 1 (throws 5)
unfolding word
product_overflows = refl

-- The count of a shift is taken modulo the width; a body that doesn't gives 0.
shift_past_the_width : does (Shift Left) (int32 33 ∷ int32 1 ∷ []) ≡ leaves (int32 2 ∷ [])
unfolding word
shift_past_the_width = refl

-- The count of a shift of 64 bits is extended by zeros.
shift_by_an_int32 : does (Shift RightUnsigned) (int32 0xffff_ffff ∷ int64 0x8000_0000_0000_0000 ∷ []) ≡ leaves (int64 1 ∷ [])
unfolding word
shift_by_an_int32 = refl

shift_of_the_sign : does (Shift Right) (native 0x1_0000_0001 ∷ int32 0x8000_0000 ∷ []) ≡ leaves (int32 0xc000_0000 ∷ [])
unfolding word
shift_of_the_sign = refl

negated : does (Unary Negate) (int32 1 ∷ []) ≡ leaves (int32 0xffff_ffff ∷ [])
unfolding word
negated = refl

complement : does (Unary Complement) (native 0 ∷ []) ≡ leaves (native 0xffff_ffff_ffff_ffff ∷ [])
unfolding word
complement = refl

-- CONVERSIONS

to_int8 : does (Convert integers.I1) (int32 0x180 ∷ []) ≡ leaves (int32 0xffff_ff80 ∷ [])
unfolding word
to_int8 = refl

to_uint8 : does (Convert integers.U1) (int64 0x1_0000_01ff ∷ []) ≡ leaves (int32 0xff ∷ [])
unfolding word
to_uint8 = refl

to_int32 : does (Convert integers.I4) (int64 0x1_8000_0000 ∷ []) ≡ leaves (int32 0x8000_0000 ∷ [])
unfolding word
to_int32 = refl

to_int64 : does (Convert integers.I8) (int32 0xffff_ffff ∷ []) ≡ leaves (int64 0xffff_ffff_ffff_ffff ∷ [])
unfolding word
to_int64 = refl

-- A body that extends by the sign gives all ones.
to_uint64 : does (Convert integers.U8) (int32 0xffff_ffff ∷ []) ≡ leaves (int64 0xffff_ffff ∷ [])
unfolding word
to_uint64 = refl

to_native : does (Convert integers.UN) (int64 0xffff_ffff_ffff_ffff ∷ []) ≡ leaves (native 0xffff_ffff_ffff_ffff ∷ [])
unfolding word
to_native = refl

checked_at_both_ends : does (ConvertChecked integers.I1 true) (int32 0xffff_ff80 ∷ []) ≡ takes sites.Overflow 2 0 1 (leaves (int32 0xffff_ff80 ∷ []))
unfolding word
checked_at_both_ends = refl

checked_past_the_end : does (ConvertChecked integers.I1 true) (int32 0x80 ∷ []) ≡ takes sites.Overflow 2 1 1 (throws 5)
unfolding word
checked_past_the_end = refl

checked_before_the_first : does (ConvertChecked integers.I2 true) (int64 0xffff_ffff_ffff_7fff ∷ []) ≡ takes sites.Overflow 2 1 1 (throws 5)
unfolding word
checked_before_the_first = refl

checked_negative : does (ConvertChecked integers.U8 true) (int32 0xffff_ffff ∷ []) ≡ takes sites.Overflow 2 1 1 (throws 5)
unfolding word
checked_negative = refl

-- What was read unsigned is extended by zeros.
checked_unsigned : does (ConvertChecked integers.N false) (int32 0xffff_ffff ∷ []) ≡ takes sites.Overflow 2 0 1 (leaves (native 0xffff_ffff ∷ []))
unfolding word
checked_unsigned = refl

checked_unsigned_past_the_end : does (ConvertChecked integers.I8 false) (int64 0x8000_0000_0000_0000 ∷ []) ≡ takes sites.Overflow 2 1 1 (throws 5)
unfolding word
checked_unsigned_past_the_end = refl

-- COMPARISONS AND BRANCHES

less_signed : does (Compare Lt true) (int32 1 ∷ int32 0xffff_ffff ∷ []) ≡ leaves (int32 1 ∷ [])
unfolding word
less_signed = refl

less_unsigned : does (Compare Lt false) (int32 1 ∷ int32 0xffff_ffff ∷ []) ≡ leaves (int32 0 ∷ [])
unfolding word
less_unsigned = refl

greater_mixed : does (Compare Gt true) (int32 0xffff_ffff ∷ native 0 ∷ []) ≡ leaves (int32 1 ∷ [])
unfolding word
greater_mixed = refl

one_reference : does (Compare Eq true) (entry.Cell 3 ∷ entry.Cell 3 ∷ []) ≡ leaves (int32 1 ∷ [])
unfolding word
one_reference = refl

another_reference : does (Compare Gt false) (entry.Null ∷ entry.Cell 3 ∷ []) ≡ leaves (int32 1 ∷ [])
unfolding word
another_reference = refl

null_is_no_other : does (Compare Gt false) (entry.Cell 3 ∷ entry.Null ∷ []) ≡ leaves (int32 0 ∷ [])
unfolding word
null_is_no_other = refl

-- 0 is 2^32 away.
jumps : does (BranchTruth true 9) (int64 0x1_0000_0000 ∷ []) ≡ takes sites.Branch 2 1 0x1_0000_0000 (at 9 [])
unfolding word gap_of distance_of
jumps = refl

-- From the side that was taken it is 4 to the other one.
falls_through : does (BranchCompare Lt true 9) (int32 2 ∷ int32 5 ∷ []) ≡ takes sites.Branch 2 0 4 (at 6 [])
unfolding word gap_of distance_of
falls_through = refl

jumps_unsigned : does (BranchCompare Gt false 9) (int32 2 ∷ int32 0xffff_ffff ∷ []) ≡ takes sites.Branch 2 1 0xffff_fffd (at 9 [])
unfolding word gap_of distance_of
jumps_unsigned = refl

null_falls_through : does (BranchTruth true 9) (entry.Null ∷ []) ≡ takes sites.Branch 2 0 1 (at 6 [])
unfolding word
null_falls_through = refl

first_target : does (Switch (20 ∷ 30 ∷ [])) (int32 0 ∷ []) ≡ takes sites.Switch 3 1 1 (at 20 [])
unfolding word
first_target = refl

last_target : does (Switch (20 ∷ 30 ∷ [])) (int32 1 ∷ []) ≡ takes sites.Switch 3 2 1 (at 30 [])
unfolding word
last_target = refl

-- The number is read unsigned.
no_target : does (Switch (20 ∷ 30 ∷ [])) (int32 0xffff_ffff ∷ []) ≡ takes sites.Switch 3 0 1 (at 6 [])
unfolding word
no_target = refl

assumed : does (Check Assume) (int32 0 ∷ []) ≡ takes sites.Assume 2 1 1 (Ends ends.Assumed pool)
unfolding word
assumed = refl

asserted : does (Check Assert) (int32 2 ∷ []) ≡ takes sites.Assert 2 0 1 (leaves [])
unfolding word
asserted = refl

-- RUNS

-- what a run of the first method comes to: its events' sides and its end
abbrev ended : Outcome NoPool Plain → Option End
ended outcome = outcome.end

abbrev method : List Place → Option Place → List Place → List Sized → Method
method params ret locals code = record { name = []; owner = 0; is_static = true; params = params; ret = ret; locals = locals; max_stack = 8; code = laid_from 0 code; clauses = [] }

abbrev runs : Bounds → List Method → List (Slot Plain) → Option End
runs within methods arguments = ended (run_of plain_algebra (program_of methods) within 0 arguments pool)

abbrev returned : ℕ → Option End
returned n = Some (ends.Returned (values.Number n))

-- n times what the method gives for n - 1, and 1 for 0
abbrev factorial : Method
factorial = method (places.I4 ∷ []) (Some places.I4) [] (
    (1, Move (moves.Argument 0))
    ∷ (2, BranchTruth true 5)
    ∷ (1, Move (moves.Constant32 1))
    ∷ (1, Return)
    ∷ (1, Move (moves.Argument 0))
    ∷ (1, Move (moves.Argument 0))
    ∷ (1, Move (moves.Constant32 1))
    ∷ (1, Arithmetic arithmetic.Sub)
    ∷ (5, Call (callees.Method 0))
    ∷ (1, Arithmetic arithmetic.Mul)
    ∷ (1, Return)
    ∷ [])

-- A body that gives the callee the caller's stack, or takes it from the caller, is stuck or gives another number.
recursion : runs bounds (factorial ∷ []) (slots.Number (plain 5) ∷ []) ≡ returned 120
unfolding run word
recursion = refl

-- A call in the 128th frame is one too deep.
abbrev shallow : Bounds
shallow = record { steps = 2000; depth = 3; length = 16 }

as_deep_as_allowed : runs shallow (factorial ∷ []) (slots.Number (plain 2) ∷ []) ≡ returned 2
unfolding run word
as_deep_as_allowed = refl

too_deep : runs shallow (factorial ∷ []) (slots.Number (plain 3) ∷ []) ≡ Some ends.DepthBound
unfolding run word
too_deep = refl

-- The steps are used up before the return.
abbrev hasty : Bounds
hasty = record { steps = 3; depth = 128; length = 16 }

cut : runs hasty (factorial ∷ []) (slots.Number (plain 0) ∷ []) ≡ Some ends.StepBound
unfolding run word
cut = refl

-- A small return type keeps its bits: 0x1ff as an int8 is -1.
abbrev small : Method
small = method [] (Some places.I1) [] ((5, Move (moves.Constant32 0x1ff)) ∷ (1, Return) ∷ [])

truncated : runs bounds (small ∷ []) [] ≡ returned 0xffff_ffff
unfolding run word
truncated = refl

-- and so do a small local and parameter
abbrev stores : Method
stores = method [] (Some places.I4) (places.U2 ∷ []) ((5, Move (moves.Constant32 0x1_0002)) ∷ (1, Move (moves.SetLocal 0)) ∷ (1, Move (moves.Local 0)) ∷ (1, Return) ∷ [])

stored : runs bounds (stores ∷ []) [] ≡ returned 2
unfolding run word
stored = refl

abbrev hands : Method
hands = method [] (Some places.I4) [] ((5, Move (moves.Constant32 0xff)) ∷ (5, Call (callees.Method 1)) ∷ (1, Return) ∷ [])

abbrev takes_a_byte : Method
takes_a_byte = method (places.I1 ∷ []) (Some places.I4) [] ((1, Move (moves.Argument 0)) ∷ (1, Return) ∷ [])

handed : runs bounds (hands ∷ takes_a_byte ∷ []) [] ≡ returned 0xffff_ffff
unfolding run word
handed = refl

-- Locals start as 0, each frame's anew.
abbrev counts : Method
counts = method [] (Some places.I8) (places.I8 ∷ []) ((1, Move (moves.Local 0)) ∷ (1, Return) ∷ [])

zero_local : runs bounds (counts ∷ []) [] ≡ returned 0
unfolding run word
zero_local = refl

-- Parameters are in order, the last on top of the stack.
abbrev second_less_first : Method
second_less_first = method (places.I4 ∷ places.I4 ∷ []) (Some places.I4) [] ((1, Move (moves.Argument 1)) ∷ (1, Move (moves.Argument 0)) ∷ (1, Arithmetic arithmetic.Sub) ∷ (1, Return) ∷ [])

abbrev calls_it : Method
calls_it = method [] (Some places.I4) [] ((1, Move (moves.Constant32 2)) ∷ (1, Move (moves.Constant32 9)) ∷ (5, Call (callees.Method 1)) ∷ (1, Return) ∷ [])

in_order : runs bounds (calls_it ∷ second_less_first ∷ []) [] ≡ returned 7
unfolding run word
in_order = refl
