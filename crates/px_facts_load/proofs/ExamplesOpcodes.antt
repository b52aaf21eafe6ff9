-- Each opcode with the size of its operand, and each number that is no opcode.
use Rattle.std.proofs.Common.{◌≡◌, ℕ, ◌+◌, ◌-◌, List, [], ◌∷◌, ◌++◌, map, replicate, Option, Some, None, Result, Ok, Err, refl}
use Rattle.std.specs.Prelude.{nat_lt, if◌then◌else◌, length}
use Rattle.std.specs.List.{range_with_len}
use Rattle.px_code.specs.Body.{body_of}
use Rattle.px_code.specs.Reading.{PlacedFault}
use Rattle.px_code.specs.declared.body.Body.{Body}
use Rattle.px_code.specs.declared.body.BodyKind.TheVariants.{BadOpcode}
use Rattle.px_code.specs.declared.body.RawInstr.{RawInstr}
use Rattle.px_facts_load.proofs.BodyWords.{parts}

-- the numbers from one to another
abbrev from_to : ℕ → ℕ → List ℕ
from_to first last = range_with_len first (last + 1 - first)

-- thirteen bytes of code that begin with an opcode and go on with zeros, which stand for nop
abbrev beginning_with : ℕ → List ℕ
beginning_with opcode = if nat_lt opcode 0x100 then 0x36 ∷ opcode ∷ replicate 12 0 else 0x36 ∷ 0xFE ∷ (opcode - 0xFE00) ∷ replicate 11 0

-- the first instruction by its opcode, the offset after it, and how many others follow it
abbrev first_of_code : List RawInstr → Option (ℕ × ℕ × ℕ)
first_of_code [] = None
first_of_code (first ∷ others) = Some (first.opcode, first.next, length others)

abbrev first_of : Result Body PlacedFault → Option (ℕ × ℕ × ℕ)
first_of (Ok body) = first_of_code body.code
first_of (Err fault) = None

-- an instruction ends after its opcode and its operand, and the rest of the thirteen bytes are others
abbrev with_operand : ℕ → ℕ → Option (ℕ × ℕ × ℕ)
with_operand size opcode = let end = size + (if nat_lt opcode 0x100 then 1 else 2) in Some (opcode, end, 13 - end)

-- after each of these opcodes so many bytes are its operand
abbrev Have : ℕ → List ℕ → Type 0
Have size opcodes = map (λ opcode. first_of (body_of (beginning_with opcode))) opcodes ≡ map (with_operand size) opcodes

-- none of these is an opcode, which is seen at its last byte
abbrev AreNone : List ℕ → Type 0
AreNone opcodes = map (λ opcode. body_of (beginning_with opcode)) opcodes ≡ map (λ opcode. Err (BadOpcode, if nat_lt opcode 0x100 then 1 else 2)) opcodes

-- OPCODES OF ONE BYTE

nop_to_stloc_3 : Have 0 (from_to 0x00 0x0D)
unfolding parts
nop_to_stloc_3 = refl

ldarg_s_to_stloc_s : Have 1 (from_to 0x0E 0x13)
unfolding parts
ldarg_s_to_stloc_s = refl

ldnull_to_ldc_i4_8 : Have 0 (from_to 0x14 0x1E)
unfolding parts
ldnull_to_ldc_i4_8 = refl

ldc_i4_s : Have 1 (0x1F ∷ [])
unfolding parts
ldc_i4_s = refl

ldc_i4 : Have 4 (0x20 ∷ [])
unfolding parts
ldc_i4 = refl

ldc_i8 : Have 8 (0x21 ∷ [])
unfolding parts
ldc_i8 = refl

ldc_r4 : Have 4 (0x22 ∷ [])
unfolding parts
ldc_r4 = refl

ldc_r8 : Have 8 (0x23 ∷ [])
unfolding parts
ldc_r8 = refl

dup_and_pop : Have 0 (from_to 0x25 0x26)
unfolding parts
dup_and_pop = refl

jmp_call_and_calli : Have 4 (from_to 0x27 0x29)
unfolding parts
jmp_call_and_calli = refl

ret : Have 0 (0x2A ∷ [])
unfolding parts
ret = refl

br_s_to_blt_un_s : Have 1 (from_to 0x2B 0x37)
unfolding parts
br_s_to_blt_un_s = refl

br_to_blt_un_and_switch : Have 4 (from_to 0x38 0x45)
unfolding parts
br_to_blt_un_and_switch = refl

ldind_i1_to_conv_u8 : Have 0 (from_to 0x46 0x6E)
unfolding parts
ldind_i1_to_conv_u8 = refl

callvirt_to_isinst : Have 4 (from_to 0x6F 0x75)
unfolding parts
callvirt_to_isinst = refl

conv_r_un : Have 0 (0x76 ∷ [])
unfolding parts
conv_r_un = refl

unbox : Have 4 (0x79 ∷ [])
unfolding parts
unbox = refl

throw : Have 0 (0x7A ∷ [])
unfolding parts
throw = refl

ldfld_to_stobj : Have 4 (from_to 0x7B 0x81)
unfolding parts
ldfld_to_stobj = refl

conv_ovf_i1_un_to_conv_ovf_u_un : Have 0 (from_to 0x82 0x8B)
unfolding parts
conv_ovf_i1_un_to_conv_ovf_u_un = refl

box_and_newarr : Have 4 (from_to 0x8C 0x8D)
unfolding parts
box_and_newarr = refl

ldlen : Have 0 (0x8E ∷ [])
unfolding parts
ldlen = refl

ldelema : Have 4 (0x8F ∷ [])
unfolding parts
ldelema = refl

ldelem_i1_to_stelem_ref : Have 0 (from_to 0x90 0xA2)
unfolding parts
ldelem_i1_to_stelem_ref = refl

ldelem_stelem_and_unbox_any : Have 4 (from_to 0xA3 0xA5)
unfolding parts
ldelem_stelem_and_unbox_any = refl

conv_ovf_i1_to_conv_ovf_u8 : Have 0 (from_to 0xB3 0xBA)
unfolding parts
conv_ovf_i1_to_conv_ovf_u8 = refl

refanyval : Have 4 (0xC2 ∷ [])
unfolding parts
refanyval = refl

ckfinite : Have 0 (0xC3 ∷ [])
unfolding parts
ckfinite = refl

mkrefany : Have 4 (0xC6 ∷ [])
unfolding parts
mkrefany = refl

ldtoken : Have 4 (0xD0 ∷ [])
unfolding parts
ldtoken = refl

conv_u2_to_endfinally : Have 0 (from_to 0xD1 0xDC)
unfolding parts
conv_u2_to_endfinally = refl

leave : Have 4 (0xDD ∷ [])
unfolding parts
leave = refl

leave_s : Have 1 (0xDE ∷ [])
unfolding parts
leave_s = refl

stind_i_and_conv_u : Have 0 (from_to 0xDF 0xE0)
unfolding parts
stind_i_and_conv_u = refl

no_opcodes_of_one_byte : AreNone ((0x24 ∷ []) ++ (0x77 ∷ 0x78 ∷ []) ++ from_to 0xA6 0xB2 ++ from_to 0xBB 0xC1 ++ (0xC4 ∷ 0xC5 ∷ []) ++ from_to 0xC7 0xCF ++ from_to 0xE1 0xFD ++ (0xFF ∷ []))
unfolding parts
no_opcodes_of_one_byte = refl

-- OPCODES OF TWO BYTES, the first of which is 0xFE

arglist_to_clt_un : Have 0 (from_to 0xFE00 0xFE05)
unfolding parts
arglist_to_clt_un = refl

ldftn_and_ldvirtftn : Have 4 (from_to 0xFE06 0xFE07)
unfolding parts
ldftn_and_ldvirtftn = refl

ldarg_to_stloc : Have 2 (from_to 0xFE09 0xFE0E)
unfolding parts
ldarg_to_stloc = refl

localloc : Have 0 (0xFE0F ∷ [])
unfolding parts
localloc = refl

endfilter : Have 0 (0xFE11 ∷ [])
unfolding parts
endfilter = refl

unaligned : Have 1 (0xFE12 ∷ [])
unfolding parts
unaligned = refl

volatile_and_tail : Have 0 (from_to 0xFE13 0xFE14)
unfolding parts
volatile_and_tail = refl

initobj_and_constrained : Have 4 (from_to 0xFE15 0xFE16)
unfolding parts
initobj_and_constrained = refl

cpblk_and_initblk : Have 0 (from_to 0xFE17 0xFE18)
unfolding parts
cpblk_and_initblk = refl

no : Have 1 (0xFE19 ∷ [])
unfolding parts
no = refl

rethrow : Have 0 (0xFE1A ∷ [])
unfolding parts
rethrow = refl

sizeof : Have 4 (0xFE1C ∷ [])
unfolding parts
sizeof = refl

refanytype_and_readonly : Have 0 (from_to 0xFE1D 0xFE1E)
unfolding parts
refanytype_and_readonly = refl

no_opcodes_of_two_bytes : AreNone ((0xFE08 ∷ []) ++ (0xFE10 ∷ []) ++ (0xFE1B ∷ []) ++ from_to 0xFE1F 0xFEFF)
unfolding parts
no_opcodes_of_two_bytes = refl
