-- How the facts write types and signatures.
use Rattle.std.specs.Prelude.{true, false, ℕ, List}
use Rattle.px_sig.specs.Grammar.{byte_at, byte_where, form_at, form_of, front_at, generic_at, method_at, number_at, numbers_at, plain_type, shape_at, token_at, token_of, type_behind}
use Rattle.px_sig.specs.declared.sig.Integer.TheVariants as integers
use Rattle.px_sig.specs.declared.sig.MethodSig.{MethodSig}
use Rattle.px_sig.specs.declared.sig.SigLeaf.TheVariants as leaves
use Rattle.px_sig.specs.declared.sig.SigType.{SigType}

abbrev pub void : SigType
void = plain_type leaves.Void

abbrev pub string : SigType
string = plain_type leaves.Str

abbrev pub object : SigType
object = plain_type leaves.Object

abbrev pub other_type : SigType
other_type = plain_type leaves.Other

abbrev pub bool : SigType
bool = plain_type (leaves.Int integers.Bool)

abbrev pub char : SigType
char = plain_type (leaves.Int integers.Char)

abbrev pub int8 : SigType
int8 = plain_type (leaves.Int integers.I1)

abbrev pub uint8 : SigType
uint8 = plain_type (leaves.Int integers.U1)

abbrev pub int16 : SigType
int16 = plain_type (leaves.Int integers.I2)

abbrev pub uint16 : SigType
uint16 = plain_type (leaves.Int integers.U2)

abbrev pub int32 : SigType
int32 = plain_type (leaves.Int integers.I4)

abbrev pub uint32 : SigType
uint32 = plain_type (leaves.Int integers.U4)

abbrev pub int64 : SigType
int64 = plain_type (leaves.Int integers.I8)

abbrev pub uint64 : SigType
uint64 = plain_type (leaves.Int integers.U8)

abbrev pub nint : SigType
nint = plain_type (leaves.Int integers.N)

abbrev pub nuint : SigType
nuint = plain_type (leaves.Int integers.UN)

-- a class by its token
abbrev pub class : ℕ → SigType
class token = plain_type (leaves.Class token)

-- in rows of TypeRef and TypeDef
abbrev pub reference_2 : SigType
reference_2 = class 0x0100_0002

abbrev pub definition_1 : SigType
definition_1 = class 0x0200_0001

abbrev pub definition_2 : SigType
definition_2 = class 0x0200_0002

-- the signature of a method without a receiver, by its return type and its parameters
abbrev pub static : SigType → List SigType → MethodSig
static ret params = record { has_this = false; plain = true; ret = ret; params = params }

-- that of a method with a receiver
abbrev pub instance : SigType → List SigType → MethodSig
instance ret params = record { has_this = true; plain = true; ret = ret; params = params }

-- the same where it has type parameters or a variable list of arguments, or states the receiver's type
abbrev pub special : MethodSig → MethodSig
special sig = record sig { plain = false }

-- all readings of the grammar: a fact that opens it computes with each of them
unfoldable pub grammar : Type 0
unfolding byte_at byte_where form_at form_of front_at generic_at method_at number_at numbers_at shape_at token_at token_of type_behind
grammar = Unit {0}
