-- How the facts write types of signatures.
use Rattle.std.specs.Prelude.{ℕ}
use Rattle.px_sig.specs.Grammar.{byte_at, byte_where, form_at, form_of, front_at, generic_at, method_at, number_at, numbers_at, plain_type, shape_at, token_at, token_of, type_behind}
use Rattle.px_sig.specs.declared.sig.Integer.TheVariants as integers
use Rattle.px_sig.specs.declared.sig.SigLeaf.TheVariants as leaves
use Rattle.px_sig.specs.declared.sig.SigType.{SigType}

abbrev pub void : SigType
void = plain_type leaves.Void

abbrev pub string : SigType
string = plain_type leaves.Str

abbrev pub object : SigType
object = plain_type leaves.Object

abbrev pub other_type : SigType
other_type = plain_type leaves.Other

abbrev pub bool : SigType
bool = plain_type (leaves.Int integers.Bool)

abbrev pub int32 : SigType
int32 = plain_type (leaves.Int integers.I4)

abbrev pub int64 : SigType
int64 = plain_type (leaves.Int integers.I8)

-- a class by its token
abbrev pub class : ℕ → SigType
class token = plain_type (leaves.Class token)

-- all readings of the grammar: a fact that opens it computes with each of them
unfoldable pub grammar : Type 0
unfolding byte_at byte_where form_at form_of front_at generic_at method_at number_at numbers_at shape_at token_at token_of type_behind
grammar = Unit {0}
