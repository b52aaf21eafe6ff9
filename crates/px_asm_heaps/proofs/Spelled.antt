-- A type is read where its bytes stand.
use Rattle.std.proofs.Common.{◌≡◌, ℕ, zero, suc, ◌+◌, true, List, [], ◌∷◌, ◌++◌, length, drop, Some, Ok, Result, refl, sym, ap, ◌∙◌, arith}
use Rattle.px_reading.specs.Reading.{Read, ◌>>=◌}
use Rattle.px_sig.specs.Grammar.{array_of, form_of, plain_type, type_at, type_behind}
use Rattle.px_sig.specs.declared.form.Form.TheVariants as forms
use Rattle.px_sig.specs.declared.sig.Integer.{Integer}
use Rattle.px_sig.specs.declared.sig.Integer.TheVariants as integers
use Rattle.px_sig.specs.declared.sig.SigLeaf.{SigLeaf}
use Rattle.px_sig.specs.declared.sig.SigLeaf.TheVariants.{Void, Int, Str, Object, Class, Other}
use Rattle.px_sig.specs.declared.sig.SigType.{SigType}
use Rattle.px_sig.proofs.Inner.{by_form}
use Rattle.px_asm_heaps.specs.Numbers.{number_bytes}
use Rattle.px_asm_heaps.specs.Spelling.{is_leaf_spelled, is_spelled}
use Rattle.px_asm_heaps.specs.Types.{index_of, integer_code, leaf_bytes, type_bytes}
use Rattle.px_asm_heaps.proofs.Stands.{behind}
use Rattle.px_asm_heaps.proofs.Parts.{form_there, token_there}

-- a type, and the place behind it
abbrev pub read_to : SigType → ℕ → Result (Read SigType) ℕ
read_to type end = Ok (record { value = type; end = end })

-- a type of a form that is written is read wherever its bytes stand
abbrev pub IsRead : SigType → Type 0
IsRead type = is_spelled type ≡ true → (blob rest : List ℕ) (at : ℕ) → drop at blob ≡ type_bytes type ++ rest → type_at blob at ≡ read_to type (at + length (type_bytes type))

-- the same of a leaf alone
abbrev IsLeafRead : SigLeaf → Type 0
IsLeafRead leaf = is_leaf_spelled leaf ≡ true → (blob rest : List ℕ) (at : ℕ) → drop at blob ≡ leaf_bytes leaf ++ rest → type_at blob at ≡ read_to (plain_type leaf) (at + length (leaf_bytes leaf))

alone : (leaf : SigLeaf) (code : ℕ) → leaf_bytes leaf ≡ code ∷ [] → form_of code ≡ Some (forms.Alone leaf) → IsLeafRead leaf
unfolding type_behind
alone leaf code bytes form spelled blob rest at there =
    by_form blob at (forms.Alone leaf) (at + 1) (form_there blob rest at code (forms.Alone leaf) (there ∙ ap (λ b. b ++ rest) bytes) form)
    ∙ ap (λ (b : List ℕ). read_to (plain_type leaf) (at + length b)) (sym bytes)

integer_form : (integer : Integer) → form_of (integer_code integer) ≡ Some (forms.Alone (Int integer))
unfolding form_of
integer_form integers.Bool = refl
integer_form integers.Char = refl
integer_form integers.I1 = refl
integer_form integers.U1 = refl
integer_form integers.I2 = refl
integer_form integers.U2 = refl
integer_form integers.I4 = refl
integer_form integers.U4 = refl
integer_form integers.I8 = refl
integer_form integers.U8 = refl
integer_form integers.N = refl
integer_form integers.UN = refl

void_form : form_of 0x01 ≡ Some (forms.Alone Void)
unfolding form_of
void_form = refl

str_form : form_of 0x0E ≡ Some (forms.Alone Str)
unfolding form_of
str_form = refl

object_form : form_of 0x1C ≡ Some (forms.Alone Object)
unfolding form_of
object_form = refl

class_form : form_of 0x12 ≡ Some forms.Class
unfolding form_of
class_form = refl

array_form : form_of 0x1D ≡ Some forms.Array
unfolding form_of
array_form = refl

-- what follows the first byte of some bytes
next : (code at : ℕ) (blob bytes rest : List ℕ) → drop at blob ≡ (code ∷ bytes) ++ rest → drop (at + 1) blob ≡ bytes ++ rest
next code at blob bytes rest there = behind at blob (code ∷ []) (bytes ++ rest) there

-- the place after them
ends : (type : SigType) (code at : ℕ) (bytes : List ℕ) → read_to type (at + 1 + length bytes) ≡ read_to type (at + length (code ∷ bytes))
ends type code at bytes = let size : at + 1 + length bytes ≡ at + length (code ∷ bytes) = omega arith in ap (read_to type) size

class_read : (token : ℕ) → IsLeafRead (Class token)
unfolding type_behind
class_read token spelled blob rest at there =
    let bytes = number_bytes (index_of token) in
    by_form blob at forms.Class (at + 1) (form_there blob (bytes ++ rest) at 0x12 forms.Class there class_form)
    ∙ ap (λ (r : Result (Read ℕ) ℕ). r >>= λ t. Ok (record { value = plain_type (Class t.value); end = t.end })) (token_there blob rest (at + 1) token (next 0x12 at blob bytes rest there) spelled)
    ∙ ends (plain_type (Class token)) 0x12 at bytes

leaf_read : (leaf : SigLeaf) → IsLeafRead leaf
leaf_read Void = alone Void 0x01 refl void_form
leaf_read (Int integer) = alone (Int integer) (integer_code integer) refl (integer_form integer)
leaf_read Str = alone Str 0x0E refl str_form
leaf_read Object = alone Object 0x1C refl object_form
leaf_read (Class token) = class_read token
leaf_read Other = λ spelled. absurd (cc)

array_read : (element : SigType) → IsRead element → IsRead (array_of element)
unfolding type_behind
array_read element inner spelled blob rest at there =
    let bytes = type_bytes element in
    by_form blob at forms.Array (at + 1) (form_there blob (bytes ++ rest) at 0x1D forms.Array there array_form)
    ∙ ap (λ (r : Result (Read SigType) ℕ). r >>= λ e. Ok (record { value = array_of e.value; end = e.end })) (inner spelled blob rest (at + 1) (next 0x1D at blob bytes rest there))
    ∙ ends (array_of element) 0x1D at bytes

-- so many arrays around a leaf
arrays_read : (depth : ℕ) (leaf : SigLeaf) → IsRead (record { depth = depth; leaf = leaf })
arrays_read zero leaf = leaf_read leaf
arrays_read (suc depth) leaf = array_read (record { depth = depth; leaf = leaf }) (arrays_read depth leaf)

pub type_read : (type : SigType) → IsRead type
type_read type = arrays_read type.depth type.leaf
