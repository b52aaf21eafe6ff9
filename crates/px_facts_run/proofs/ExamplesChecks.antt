-- What the check of simple methods answers: nothing, or the offset of the first instruction that may not stand.
use Rattle.std.proofs.Common.{◌≡◌, List, [], ◌∷◌, ◌++◌, true, ℕ, zero, suc, ◌*◌, ◌^◌, Some, None, refl}
use Rattle.px_program.specs.declared.instr.Code.TheVariants as codes
use Rattle.px_program.specs.declared.instr.Instr.{Instr}
use Rattle.px_program.specs.declared.instr.Move.TheVariants.{Constant64}
use Rattle.px_program.specs.declared.instr.Test.TheVariants.{Lt}
use Rattle.px_program.specs.declared.program.Place.TheVariants.{I4, I8}
use Rattle.px_program.specs.declared.program.Program.{Program}
use Rattle.px_program.specs.Alone.{alone}
use Rattle.px_program.specs.Formed.{instr_at}
use Rattle.px_simple.specs.Simple.{fault_of, is_fine}
use Rattle.px_facts_run.proofs.Methods as methods
use Rattle.px_facts_run.proofs.Methods.{Sized, instance_of, laid_from, method_of}

-- THE PROGRAMS
-- Each instruction has the size of its shortest form.

abbrev nop : Sized
nop = (1, methods.nop)

abbrev ldarg : ℕ → Sized
ldarg n = (1, methods.ldarg n)

abbrev ldc : ℕ → Sized
ldc pattern = (1, methods.ldc pattern)

-- a constant of 64 bits
abbrev ldc_wide : ℕ → Sized
ldc_wide pattern = (9, codes.Move (Constant64 pattern))

abbrev add : Sized
add = (1, methods.add)

abbrev sub : Sized
sub = (1, methods.sub)

abbrev br : ℕ → Sized
br target = (2, methods.br target)

abbrev brtrue : ℕ → Sized
brtrue target = (2, methods.brtrue target)

abbrev brfalse : ℕ → Sized
brfalse target = (2, methods.brfalse target)

abbrev blt : ℕ → Sized
blt target = (2, methods.branch_on Lt true target)

abbrev ret : Sized
ret = (1, methods.ret)

-- an instruction that isn't run
abbrev outside : Sized
outside = (2, codes.Outside [] 0xfe00)

-- the program of a method with the parameters `int32`, `int32` and `int64`
abbrev program_of : List Sized → Program
program_of rows = alone (I4 ∷ []) (method_of (I4 ∷ I4 ∷ I8 ∷ []) (laid_from 0 rows))

-- the program of an instance method of `String` with the parameters `int32` and `int64`
abbrev in_string : List Sized → Program
in_string rows = alone [] (instance_of 17 (I4 ∷ I8 ∷ []) (laid_from 0 rows))

-- METHODS THAT ARE SIMPLE

an_argument : fault_of (program_of (ldarg 0 ∷ ret ∷ [])) ≡ None
unfolding is_fine
an_argument = refl

a_branch_to_itself : fault_of (program_of (br 0 ∷ [])) ≡ None
unfolding is_fine
a_branch_to_itself = refl

a_branch_to_the_next : fault_of (program_of (br 2 ∷ ldc 1 ∷ ret ∷ [])) ≡ None
unfolding is_fine
a_branch_to_the_next = refl

a_choice : fault_of (program_of (ldarg 0 ∷ ldc 7 ∷ blt 6 ∷ ldc 0 ∷ ret ∷ ldc 1 ∷ ret ∷ [])) ≡ None
unfolding is_fine
a_choice = refl

-- A body to which `brtrue` takes two operands refuses it at 1.
brtrue_back : fault_of (program_of (ldarg 1 ∷ brtrue 0 ∷ ldc 0 ∷ ret ∷ [])) ≡ None
unfolding is_fine
brtrue_back = refl

brfalse_on : fault_of (program_of (ldarg 1 ∷ brfalse 5 ∷ ldc 0 ∷ ret ∷ br 0 ∷ [])) ≡ None
unfolding is_fine
brfalse_on = refl

nops : fault_of (program_of (nop ∷ ldarg 1 ∷ nop ∷ ret ∷ [])) ≡ None
unfolding is_fine
nops = refl

a_difference : fault_of (program_of (ldarg 0 ∷ ldarg 1 ∷ sub ∷ ret ∷ [])) ≡ None
unfolding is_fine
a_difference = refl

code_after_a_return : fault_of (program_of (ldc 0 ∷ ret ∷ ldc 1 ∷ ret ∷ [])) ≡ None
unfolding is_fine
code_after_a_return = refl

the_last_pattern : fault_of (program_of (ldc 0xffff_ffff ∷ ret ∷ [])) ≡ None
unfolding is_fine
the_last_pattern = refl

eight_operands : fault_of (program_of
    (ldc 1 ∷ ldc 2 ∷ ldc 3 ∷ ldc 4 ∷ ldc 5 ∷ ldc 6 ∷ ldc 7 ∷ ldc 8 ∷ add ∷ add ∷ add ∷ add ∷ add ∷ add ∷ add ∷ ret ∷ [])) ≡ None
unfolding is_fine
eight_operands = refl

-- METHODS THAT AREN'T

-- What an instruction names is of 32 bits.
-- A body that counts one argument more accepts it.
an_argument_past_the_last : fault_of (program_of (ldarg 3 ∷ ret ∷ [])) ≡ Some 0
unfolding is_fine
an_argument_past_the_last = refl

an_argument_of_64_bits : fault_of (program_of (nop ∷ ldarg 2 ∷ ret ∷ [])) ≡ Some 1
unfolding is_fine
an_argument_of_64_bits = refl

a_wide_constant : fault_of (program_of (ldc_wide 5 ∷ ret ∷ [])) ≡ Some 0
unfolding is_fine
a_wide_constant = refl

a_pattern_of_33_bits : fault_of (program_of (ldc_wide (2 ^ 32) ∷ ret ∷ [])) ≡ Some 0
unfolding is_fine
a_pattern_of_33_bits = refl

-- An instance method's receiver is its first argument, and no `int32`.
-- A body that leaves it out of the count accepts this, and refuses the next at 0.
the_receiver : fault_of (in_string (ldarg 0 ∷ ret ∷ [])) ≡ Some 0
unfolding is_fine
the_receiver = refl

an_argument_after_the_receiver : fault_of (in_string (ldarg 1 ∷ ret ∷ [])) ≡ None
unfolding is_fine
an_argument_after_the_receiver = refl

an_argument_of_64_bits_after_the_receiver : fault_of (in_string (ldarg 2 ∷ ret ∷ [])) ≡ Some 0
unfolding is_fine
an_argument_of_64_bits_after_the_receiver = refl

past_the_last_after_the_receiver : fault_of (in_string (ldarg 3 ∷ ret ∷ [])) ≡ Some 0
unfolding is_fine
past_the_last_after_the_receiver = refl

-- Some instructions aren't run.
-- A body that accepts this one refuses the `ret` at 3, which finds no operand.
what_is_not_run : fault_of (program_of (nop ∷ outside ∷ ret ∷ [])) ≡ Some 1
unfolding is_fine
what_is_not_run = refl

what_is_not_run_alone : fault_of (program_of (outside ∷ [])) ≡ Some 0
unfolding is_fine
what_is_not_run_alone = refl

-- An instruction finds its operands.
add_on_one : fault_of (program_of (ldc 1 ∷ add ∷ ret ∷ [])) ≡ Some 1
unfolding is_fine
add_on_one = refl

sub_on_none : fault_of (program_of (sub ∷ ret ∷ [])) ≡ Some 0
unfolding is_fine
sub_on_none = refl

brtrue_on_none : fault_of (program_of (brtrue 0 ∷ ldc 1 ∷ ret ∷ [])) ≡ Some 0
unfolding is_fine
brtrue_on_none = refl

blt_on_one : fault_of (program_of (ldc 1 ∷ blt 0 ∷ ldc 1 ∷ ret ∷ [])) ≡ Some 1
unfolding is_fine
blt_on_one = refl

ret_on_none : fault_of (program_of (ret ∷ [])) ≡ Some 0
unfolding is_fine
ret_on_none = refl

-- A return or a branch leaves none on the stack, and there are eight at most.
ret_on_two : fault_of (program_of (ldc 1 ∷ ldc 2 ∷ ret ∷ [])) ≡ Some 2
unfolding is_fine
ret_on_two = refl

nine_operands : fault_of (program_of (ldc 1 ∷ ldc 1 ∷ ldc 1 ∷ ldc 1 ∷ ldc 1 ∷ ldc 1 ∷ ldc 1 ∷ ldc 1 ∷ ldc 1 ∷ [])) ≡ Some 8
unfolding is_fine
nine_operands = refl

one_left_by_br : fault_of (program_of (ldc 1 ∷ br 0 ∷ [])) ≡ Some 1
unfolding is_fine
one_left_by_br = refl

one_left_by_brfalse : fault_of (program_of (ldc 1 ∷ ldc 2 ∷ brfalse 0 ∷ br 0 ∷ [])) ≡ Some 2
unfolding is_fine
one_left_by_brfalse = refl

one_left_by_blt : fault_of (program_of (ldc 1 ∷ ldc 2 ∷ ldc 3 ∷ blt 0 ∷ br 0 ∷ [])) ≡ Some 3
unfolding is_fine
one_left_by_blt = refl

-- Where a branch leads to, none is on the stack.
-- A body that looks for the offset after the instruction's accepts it.
one_at_a_target : fault_of (program_of (ldc 1 ∷ ldc 2 ∷ add ∷ ret ∷ br 1 ∷ [])) ≡ Some 1
unfolding is_fine
one_at_a_target = refl

one_at_a_target_of_blt : fault_of (program_of (ldc 1 ∷ ret ∷ ldc 1 ∷ ldc 2 ∷ blt 3 ∷ br 0 ∷ [])) ≡ Some 3
unfolding is_fine
one_at_a_target_of_blt = refl

-- The last instruction is a return or a branch.
a_constant_at_the_end : fault_of (program_of (ldc 1 ∷ [])) ≡ Some 0
unfolding is_fine
a_constant_at_the_end = refl

nop_at_the_end : fault_of (program_of (ldc 1 ∷ ret ∷ nop ∷ [])) ≡ Some 2
unfolding is_fine
nop_at_the_end = refl

brtrue_at_the_end : fault_of (program_of (ldarg 0 ∷ brtrue 0 ∷ [])) ≡ Some 1
unfolding is_fine
brtrue_at_the_end = refl

-- The first fault counts, also in code that no run comes to.
two_faults : fault_of (program_of (ldc 1 ∷ add ∷ outside ∷ [])) ≡ Some 1
unfolding is_fine
two_faults = refl

a_fault_after_a_return : fault_of (program_of (ldc 1 ∷ ret ∷ ret ∷ [])) ≡ Some 2
unfolding is_fine
a_fault_after_a_return = refl

-- A TARGET AMONG MANY

-- branches to each other in falling order, the last of them to 0
abbrev falling : ℕ → List Sized
falling zero = []
falling (suc k) = br (2 * k) ∷ falling k

-- a hundred branches, two constants with their sum and a return, and last a branch to the target
abbrev among_many : ℕ → Program
among_many target = program_of (falling 100 ++ (ldc 1 ∷ ldc 2 ∷ add ∷ ret ∷ br target ∷ []))

to_the_first_branch : fault_of (among_many 0) ≡ None
unfolding is_fine
to_the_first_branch = refl

to_the_last_of_many : fault_of (among_many 198) ≡ None
unfolding is_fine
to_the_last_of_many = refl

to_no_operand : fault_of (among_many 200) ≡ None
unfolding is_fine
to_no_operand = refl

to_one_operand : fault_of (among_many 201) ≡ Some 201
unfolding is_fine
to_one_operand = refl

to_two_operands : fault_of (among_many 202) ≡ Some 202
unfolding is_fine
to_two_operands = refl

to_a_sum : fault_of (among_many 203) ≡ Some 203
unfolding is_fine
to_a_sum = refl

to_itself : fault_of (among_many 204) ≡ None
unfolding is_fine
to_itself = refl

-- THE INSTRUCTION AT AN OFFSET

-- an addition, by the names of its instructions
abbrev addition : List Instr
addition = laid_from 0 (ldarg 0 ∷ ldarg 1 ∷ add ∷ br 5 ∷ ret ∷ [])

-- A body that gives the instruction after it has `add` here.
instr_at_1 : instr_at addition 1 ≡ Some (record { offset = 1; next = 2; code = methods.ldarg 1 })
instr_at_1 = refl

instr_at_3 : instr_at addition 3 ≡ Some (record { offset = 3; next = 5; code = methods.br 5 })
instr_at_3 = refl

-- Nothing starts inside of an instruction, or after the last.
inside_the_branch : instr_at addition 4 ≡ None
inside_the_branch = refl

instr_at_5 : instr_at addition 5 ≡ Some (record { offset = 5; next = 6; code = methods.ret })
instr_at_5 = refl

after_the_last : instr_at addition 6 ≡ None
after_the_last = refl
