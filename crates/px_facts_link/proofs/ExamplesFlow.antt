-- Instructions that lead away, by their opcodes and targets, and the names of what isn't run.
use Rattle.std.proofs.Common.{◌≡◌, ℕ, List, [], ◌∷◌, refl, map, true, false}
use Rattle.std.specs.Prelude.{◌++◌, codes, replicate}
use Rattle.px_program.specs.declared.instr.Code.{Code}
use Rattle.px_program.specs.declared.instr.Code.TheVariants.{Branch, BranchTruth, BranchCompare, Leave, Outside, Switch}
use Rattle.px_program.specs.declared.instr.Test.TheVariants.{Eq, Ge, Gt, Le, Lt, Ne}
use Rattle.px_facts_link.proofs.InstrWords.{alone, does, leading_to, opcodes, with_number}

-- what each of some opcodes does that lead to a target
abbrev each : ℕ → List ℕ → List Code
each target numbers = map (λ opcode. does (leading_to opcode (target ∷ []))) numbers

abbrev alone_each : List ℕ → List Code
alone_each numbers = map (λ opcode. does (alone opcode)) numbers

-- BRANCHES on two values, from `beq` to `blt`, and from `bne.un` to `blt.un`

short_branches_by_signed_numbers : each 2 (0x2E ∷ 0x2F ∷ 0x30 ∷ 0x31 ∷ 0x32 ∷ [])
    ≡ map (λ test. BranchCompare test true 2) (Eq ∷ Ge ∷ Gt ∷ Le ∷ Lt ∷ [])
unfolding opcodes
short_branches_by_signed_numbers = refl

-- a body that reads all numbers signed gives BranchCompare Ne true 2 for the first
short_branches_by_unsigned_numbers : each 2 (0x33 ∷ 0x34 ∷ 0x35 ∷ 0x36 ∷ 0x37 ∷ [])
    ≡ map (λ test. BranchCompare test false 2) (Ne ∷ Ge ∷ Gt ∷ Le ∷ Lt ∷ [])
unfolding opcodes
short_branches_by_unsigned_numbers = refl

a_branch_back : does (leading_to 0x37 (0 ∷ [])) ≡ BranchCompare Lt false 0
unfolding opcodes
a_branch_back = refl

-- a body that takes a long branch for the one behind it gives Ge for the first
long_branches_by_signed_numbers : each 5 (0x3B ∷ 0x3C ∷ 0x3D ∷ 0x3E ∷ 0x3F ∷ [])
    ≡ map (λ test. BranchCompare test true 5) (Eq ∷ Ge ∷ Gt ∷ Le ∷ Lt ∷ [])
unfolding opcodes
long_branches_by_signed_numbers = refl

long_branches_by_unsigned_numbers : each 5 (0x40 ∷ 0x41 ∷ 0x42 ∷ 0x43 ∷ 0x44 ∷ [])
    ≡ map (λ test. BranchCompare test false 5) (Ne ∷ Ge ∷ Gt ∷ Le ∷ Lt ∷ [])
unfolding opcodes
long_branches_by_unsigned_numbers = refl

-- WHAT ELSE LEADS AWAY: `br`, `brfalse`, `brtrue`, `leave` and `switch`

branches : does (leading_to 0x2B (2 ∷ [])) ≡ Branch 2
unfolding opcodes
branches = refl

long_branches : does (leading_to 0x38 (0 ∷ [])) ≡ Branch 0
unfolding opcodes
long_branches = refl

branches_on_one_value : each 2 (0x2C ∷ 0x2D ∷ []) ≡ BranchTruth false 2 ∷ BranchTruth true 2 ∷ []
unfolding opcodes
branches_on_one_value = refl

long_branches_on_one_value : each 5 (0x39 ∷ 0x3A ∷ []) ≡ BranchTruth false 5 ∷ BranchTruth true 5 ∷ []
unfolding opcodes
long_branches_on_one_value = refl

leaves : each 5 (0xDD ∷ 0xDE ∷ []) ≡ Leave 5 ∷ Leave 5 ∷ []
unfolding opcodes
leaves = refl

a_short_leave_back : does (leading_to 0xDE (0 ∷ [])) ≡ Leave 0
unfolding opcodes
a_short_leave_back = refl

a_switch : does (leading_to 0x45 (13 ∷ 0 ∷ [])) ≡ Switch (13 ∷ 0 ∷ [])
unfolding opcodes
a_switch = refl

-- a switch of 128 targets is run, and one of 129 isn't
a_switch_of_128_targets : does (leading_to 0x45 (replicate 128 517)) ≡ Switch (replicate 128 517)
unfolding opcodes
a_switch_of_128_targets = refl

a_switch_of_129_targets : does (leading_to 0x45 (replicate 129 521)) ≡ Outside (codes "opcode-45") 0x45
unfolding opcodes
a_switch_of_129_targets = refl

-- WHAT ISN'T RUN, by its name and its number

-- an instruction that isn't run, by the hexadecimal digits of its opcode, and by its opcode
abbrev unknown : List ℕ → ℕ → Code
unknown digits opcode = Outside (codes "opcode-" ++ digits) opcode

addresses_of_slots : map (λ opcode. does (with_number opcode 1)) (0x0F ∷ 0x12 ∷ 0xFE0A ∷ [])
    ≡ unknown (codes "0F") 0x0F ∷ unknown (codes "12") 0x12 ∷ unknown (codes "FE-0A") 0xFE0A ∷ []
unfolding opcodes
addresses_of_slots = refl

constants_of_floats : map (λ opcode. does (with_number opcode 0)) (0x22 ∷ 0x23 ∷ []) ≡ unknown (codes "22") 0x22 ∷ unknown (codes "23") 0x23 ∷ []
unfolding opcodes
constants_of_floats = refl

through_addresses : alone_each (0x46 ∷ 0x57 ∷ 0xDF ∷ []) ≡ unknown (codes "46") 0x46 ∷ unknown (codes "57") 0x57 ∷ unknown (codes "DF") 0xDF ∷ []
unfolding opcodes
through_addresses = refl

conversions_to_floats : alone_each (0x6B ∷ 0x6C ∷ 0x76 ∷ 0xC3 ∷ [])
    ≡ unknown (codes "6B") 0x6B ∷ unknown (codes "6C") 0x6C ∷ unknown (codes "76") 0x76 ∷ unknown (codes "C3") 0xC3 ∷ []
unfolding opcodes
conversions_to_floats = refl

elements_that_are_floats : alone_each (0x98 ∷ 0x99 ∷ 0xA0 ∷ 0xA1 ∷ [])
    ≡ unknown (codes "98") 0x98 ∷ unknown (codes "99") 0x99 ∷ unknown (codes "A0") 0xA0 ∷ unknown (codes "A1") 0xA1 ∷ []
unfolding opcodes
elements_that_are_floats = refl

-- as long as no token is known: `jmp` and `call`, `ldstr`, `newarr`, `ldelem` with a type
tokens_of_methods : map (λ opcode. does (with_number opcode 0x0600_0001)) (0x27 ∷ 0x28 ∷ 0xFE06 ∷ [])
    ≡ unknown (codes "27") 0x27 ∷ unknown (codes "28") 0x28 ∷ unknown (codes "FE-06") 0xFE06 ∷ []
unfolding opcodes
tokens_of_methods = refl

the_token_of_a_text : does (with_number 0x72 0x7000_0001) ≡ unknown (codes "72") 0x72
unfolding opcodes
the_token_of_a_text = refl

tokens_of_types : map (λ opcode. does (with_number opcode 0x0100_0001)) (0x8D ∷ 0xA3 ∷ 0xFE1C ∷ [])
    ≡ unknown (codes "8D") 0x8D ∷ unknown (codes "A3") 0xA3 ∷ unknown (codes "FE-1C") 0xFE1C ∷ []
unfolding opcodes
tokens_of_types = refl

others_of_two_bytes : alone_each (0xFE00 ∷ 0xFE11 ∷ 0xFE1E ∷ [])
    ≡ unknown (codes "FE-00") 0xFE00 ∷ unknown (codes "FE-11") 0xFE11 ∷ unknown (codes "FE-1E") 0xFE1E ∷ []
unfolding opcodes
others_of_two_bytes = refl
