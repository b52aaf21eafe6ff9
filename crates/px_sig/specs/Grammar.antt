-- The grammar of signatures, read from left to right, and the place of the first fault: Partition II, 23.2.
-- A reading from a place of the blob gives what stands there and the place behind it, or the place of the first fault:
-- that of a byte, of the first byte of a number or token, or the length where something is missing.
use Rattle.std.specs.Prelude.{ℕ, zero, suc, ◌+◌, ◌*◌, ◌/◌, ◌%◌, ◌^◌, ◌==◌, ◌&&◌, ◌||◌, not, nat_lt, bit_and, if◌then◌else◌, Bool, List, [], ◌∷◌, length, slice_index, Option, Some, None, Result, Ok, Err}
use Rattle.px_blobs.specs.Items.{Compressed, compressed_at}
use Rattle.px_reading.specs.Reading.{Read, ◌>>=◌}
use Rattle.px_sig.specs.declared.form.Form.{Form}
use Rattle.px_sig.specs.declared.form.Form.TheVariants as forms
use Rattle.px_sig.specs.declared.sig.Integer.TheVariants as integers
use Rattle.px_sig.specs.declared.sig.SigLeaf.{SigLeaf}
use Rattle.px_sig.specs.declared.sig.SigLeaf.TheVariants.{Void, Int, Str, Object, Class, Other}
use Rattle.px_sig.specs.declared.sig.SigType.{SigType}
use Rattle.px_sig.specs.declared.sig.MethodSig.{MethodSig}

-- a type that is no array
abbrev pub plain_type : SigLeaf → SigType
plain_type leaf = record { depth = zero; leaf = leaf }

-- the array of elements of a type
abbrev pub array_of : SigType → SigType
array_of element = record { depth = suc element.depth; leaf = element.leaf }

-- the form of the types that begin with a code; no type begins with any other byte
unfoldable pub form_of : ℕ → Option Form
form_of code =
    if code == 0x01 then Some (forms.Alone Void)
    else if code == 0x02 then Some (forms.Alone (Int integers.Bool))
    else if code == 0x03 then Some (forms.Alone (Int integers.Char))
    else if code == 0x04 then Some (forms.Alone (Int integers.I1))
    else if code == 0x05 then Some (forms.Alone (Int integers.U1))
    else if code == 0x06 then Some (forms.Alone (Int integers.I2))
    else if code == 0x07 then Some (forms.Alone (Int integers.U2))
    else if code == 0x08 then Some (forms.Alone (Int integers.I4))
    else if code == 0x09 then Some (forms.Alone (Int integers.U4))
    else if code == 0x0A then Some (forms.Alone (Int integers.I8))
    else if code == 0x0B then Some (forms.Alone (Int integers.U8))
    else if (code == 0x0C) || (code == 0x0D) || (code == 0x16) then Some (forms.Alone Other)
    else if code == 0x0E then Some (forms.Alone Str)
    else if (code == 0x0F) || (code == 0x10) || (code == 0x41) then Some forms.Outer
    else if code == 0x11 then Some forms.Value
    else if code == 0x12 then Some forms.Class
    else if (code == 0x13) || (code == 0x1E) then Some forms.Variable
    else if code == 0x14 then Some forms.General
    else if code == 0x15 then Some forms.Instance
    else if code == 0x18 then Some (forms.Alone (Int integers.N))
    else if code == 0x19 then Some (forms.Alone (Int integers.UN))
    else if code == 0x1B then Some forms.Function
    else if code == 0x1C then Some (forms.Alone Object)
    else if code == 0x1D then Some forms.Array
    else if (code == 0x1F) || (code == 0x20) then Some forms.Modifier
    else if code == 0x45 then Some forms.Pinned
    else None

-- what is known, up to its end, or a fault at its place
abbrev pub known : {X : Type 0} → Option X → ℕ → ℕ → Result (Read X) ℕ
known None end at = Err at
known (Some x) end at = Ok (record { value = x; end = end })

-- a byte
unfoldable pub byte_at : List ℕ → ℕ → Result (Read ℕ) ℕ
byte_at blob at = if nat_lt at (length blob) then Ok (record { value = slice_index blob at; end = at + 1 }) else Err at

-- the form of a type, by its first byte
unfoldable pub form_at : List ℕ → ℕ → Result (Read Form) ℕ
form_at blob at = byte_at blob at >>= λ code. known (form_of code.value) code.end at

-- a byte that passes a test
unfoldable pub byte_where : (ℕ → Bool) → List ℕ → ℕ → Result (Read ℕ) ℕ
byte_where test blob at = byte_at blob at >>= λ byte. if test byte.value then Ok byte else Err at

abbrev pub number_behind : Option Compressed → ℕ → Result (Read ℕ) ℕ
number_behind None at = Err at
number_behind (Some c) at = Ok (record { value = c.number; end = at + c.used })

-- a compressed number
unfoldable pub number_at : List ℕ → ℕ → Result (Read ℕ) ℕ
number_at blob at = number_behind (compressed_at blob at) at

-- the token of a row of TypeDef, TypeRef or TypeSpec, by the low two bits of a coded index; a token has room for rows of 24 bits
unfoldable pub token_of : ℕ → Option ℕ
token_of index =
    let row = index / 4 in
    if not (nat_lt row (2 ^ 24)) then None
    else if index % 4 == 0 then Some (0x02 * 2 ^ 24 + row)
    else if index % 4 == 1 then Some (0x01 * 2 ^ 24 + row)
    else if index % 4 == 2 then Some (0x1B * 2 ^ 24 + row)
    else None

-- a token, spelled as a coded index
unfoldable pub token_at : List ℕ → ℕ → Result (Read ℕ) ℕ
token_at blob at = number_at blob at >>= λ index. known (token_of index.value) index.end at

-- so many of what a reading gives, one behind the other
abbrev pub many : {X : Type 0} → (ℕ → Result (Read X) ℕ) → ℕ → ℕ → Result (Read (List X)) ℕ
many read zero at = Ok (record { value = []; end = at })
many read (suc count) at = read at >>= λ first. many read count first.end >>= λ others. Ok (record { value = first.value ∷ others.value; end = others.end })

-- a count, and so many numbers
unfoldable pub numbers_at : List ℕ → ℕ → Result (Read (List ℕ)) ℕ
numbers_at blob at = number_at blob at >>= λ count. many (number_at blob) count.value count.end

-- the shape of a general array, with the place behind it: its rank, its sizes and its lower bounds
unfoldable pub shape_at : List ℕ → ℕ → Result ℕ ℕ
shape_at blob at = number_at blob at >>= λ rank. numbers_at blob rank.end >>= λ sizes. numbers_at blob sizes.end >>= λ bounds. Ok bounds.end

-- The first byte of a method's signature: 0x20 for a receiver, 0x40 where its type is stated, 0x10 for type parameters,
-- and in the low four bits 0, or 5 for a variable list of arguments.
abbrev pub is_kind : ℕ → Bool
is_kind byte = (bit_and byte 0x80 == 0) && ((bit_and byte 0x0F == 0) || (bit_and byte 0x0F == 5))

-- The same for what a function pointer points to: the low four bits may also be one of the calling conventions of unmanaged code,
-- 1 to 4 for C, STDCALL, THISCALL and FASTCALL, and 9 for any: Partition II, 23.2.1 and 23.2.3.
abbrev pub is_callee_kind : ℕ → Bool
is_callee_kind byte = (bit_and byte 0x80 == 0) && (nat_lt (bit_and byte 0x0F) 6 || (bit_and byte 0x0F == 9))

abbrev pub has_this : ℕ → Bool
has_this kind = not (bit_and kind 0x20 == 0)

abbrev pub is_generic : ℕ → Bool
is_generic kind = not (bit_and kind 0x10 == 0)

abbrev pub is_plain : ℕ → Bool
is_plain kind = (kind == 0x00) || (kind == 0x20)

-- the place behind the count of type parameters, where there are any
unfoldable pub generic_at : ℕ → List ℕ → ℕ → Result ℕ ℕ
generic_at kind blob at = if is_generic kind then (number_at blob at >>= λ count. Ok count.end) else Ok at

-- what stands before the return type of a method
pub record Front : Type 0 where
  pub has_this : Bool
  pub plain : Bool
  pub count : ℕ

-- the kind of a method, a byte that passes the test, and the count of its parameters
unfoldable pub front_at : (ℕ → Bool) → List ℕ → ℕ → Result (Read Front) ℕ
front_at test blob at =
    byte_where test blob at >>= λ kind. generic_at kind.value blob kind.end >>= λ start. number_at blob start >>= λ count.
    Ok (record { value = record { has_this = has_this kind.value; plain = is_plain kind.value; count = count.value }; end = count.end })

-- the signature of a method: its front, whose kind passes the test, its return type and its parameters
unfoldable pub method_at : (ℕ → Bool) → (ℕ → Result (Read SigType) ℕ) → List ℕ → ℕ → Result (Read MethodSig) ℕ
method_at test type blob at =
    front_at test blob at >>= λ front. type front.end >>= λ ret. many type front.value.count ret.end >>= λ params.
    Ok (record { value = record { has_this = front.value.has_this; plain = front.value.plain; ret = ret.value; params = params.value }; end = params.end })

-- a generic type is a class or a value type
abbrev pub is_named : ℕ → Bool
is_named code = (code == 0x11) || (code == 0x12)

abbrev pub other : ℕ → Result (Read SigType) ℕ
other end = Ok (record { value = plain_type Other; end = end })

-- what stands behind the first byte of a type, by its form; `type` reads the types in it
unfoldable pub type_behind : (ℕ → Result (Read SigType) ℕ) → List ℕ → Form → ℕ → Result (Read SigType) ℕ
type_behind type blob (forms.Alone itself) at = Ok (record { value = plain_type itself; end = at })
type_behind type blob forms.Class at = token_at blob at >>= λ token. Ok (record { value = plain_type (Class token.value); end = token.end })
type_behind type blob forms.Value at = token_at blob at >>= λ token. other token.end
type_behind type blob forms.Variable at = number_at blob at >>= λ number. other number.end
type_behind type blob forms.Modifier at = token_at blob at >>= λ token. type token.end
type_behind type blob forms.Pinned at = type at
type_behind type blob forms.Array at = type at >>= λ element. Ok (record { value = array_of element.value; end = element.end })
type_behind type blob forms.Outer at = type at >>= λ inner. other inner.end
type_behind type blob forms.General at = type at >>= λ element. shape_at blob element.end >>= λ end. other end
type_behind type blob forms.Instance at =
    byte_where is_named blob at >>= λ code. token_at blob code.end >>= λ token. number_at blob token.end >>= λ count.
    many type count.value count.end >>= λ arguments. other arguments.end
type_behind type blob forms.Function at = method_at is_callee_kind type blob at >>= λ method. other method.end

-- a type in which types lie at most so deep in each other
abbrev pub nested_type_at : ℕ → List ℕ → ℕ → Result (Read SigType) ℕ
nested_type_at zero blob at = Err at
nested_type_at (suc depth) blob at = form_at blob at >>= λ form. type_behind (nested_type_at depth blob) blob form.value form.end

-- a type: each that lies in it has a first byte of its own, so none is nested deeper than the blob is long
abbrev pub type_at : List ℕ → ℕ → Result (Read SigType) ℕ
type_at blob at = nested_type_at (length blob) blob at

-- what was read, if the blob ends behind it
abbrev pub whole : {X : Type 0} → List ℕ → Read X → Result X ℕ
whole blob read = if read.end == length blob then Ok read.value else Err read.end

-- the signature of a method
abbrev pub method_sig : List ℕ → Result MethodSig ℕ
method_sig blob = method_at is_kind (type_at blob) blob 0 >>= whole blob

-- the signature of a field: 0x06 and a type
abbrev pub field_sig : List ℕ → Result SigType ℕ
field_sig blob = byte_where (λ byte. byte == 0x06) blob 0 >>= λ first. type_at blob first.end >>= whole blob

-- the type that a blob is
abbrev pub type_sig : List ℕ → Result SigType ℕ
type_sig blob = type_at blob 0 >>= whole blob

-- the signature of locals: 0x07, their count and their types
abbrev pub locals_sig : List ℕ → Result (List SigType) ℕ
locals_sig blob = byte_where (λ byte. byte == 0x07) blob 0 >>= λ first. number_at blob first.end >>= λ count. many (type_at blob) count.value count.end >>= whole blob
