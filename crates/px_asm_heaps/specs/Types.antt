-- Types as they are written (Partition II, 23.2.12).
use Rattle.std.specs.Prelude.{ℕ, ◌+◌, ◌*◌, ◌/◌, ◌%◌, ◌^◌, ◌==◌, if◌then◌else◌, List, [], ◌∷◌, ◌++◌, replicate}
use Rattle.px_sig.specs.declared.sig.Integer.{Integer}
use Rattle.px_sig.specs.declared.sig.Integer.TheVariants as integers
use Rattle.px_sig.specs.declared.sig.SigLeaf.{SigLeaf}
use Rattle.px_sig.specs.declared.sig.SigLeaf.TheVariants.{Void, Int, Str, Object, Class, Other}
use Rattle.px_sig.specs.declared.sig.SigType.{SigType}
use Rattle.px_asm_heaps.specs.Numbers.{number_bytes}

abbrev pub integer_code : Integer → ℕ
integer_code integers.Bool = 0x02
integer_code integers.Char = 0x03
integer_code integers.I1 = 0x04
integer_code integers.U1 = 0x05
integer_code integers.I2 = 0x06
integer_code integers.U2 = 0x07
integer_code integers.I4 = 0x08
integer_code integers.U4 = 0x09
integer_code integers.I8 = 0x0A
integer_code integers.U8 = 0x0B
integer_code integers.N = 0x18
integer_code integers.UN = 0x19

-- the low bits of a coded index: 0 for TypeDef, 1 for TypeRef, 2 for TypeSpec
abbrev pub tag_of : ℕ → ℕ
tag_of table = if table == 0x02 then 0 else if table == 0x01 then 1 else 2

-- the token of a class as a coded index
unfoldable pub index_of : ℕ → ℕ
index_of token = token % 2 ^ 24 * 4 + tag_of (token / 2 ^ 24)

-- the bytes of a type that is no array
abbrev pub leaf_bytes : SigLeaf → List ℕ
leaf_bytes Void = 0x01 ∷ []
leaf_bytes (Int integer) = integer_code integer ∷ []
leaf_bytes Str = 0x0E ∷ []
leaf_bytes Object = 0x1C ∷ []
leaf_bytes (Class token) = 0x12 ∷ number_bytes (index_of token)
leaf_bytes Other = []

-- the bytes of a type of a form that is written: a byte for each array around the leaf, and the leaf
abbrev pub type_bytes : SigType → List ℕ
type_bytes type = replicate type.depth 0x1D ++ leaf_bytes type.leaf
