-- Whole signatures are read as they were written.
use Rattle.std.proofs.Common.{◌≡◌, ℕ, ◌+◌, ◌^◌, ◌<◌, Bool, true, false, List, [], ◌∷◌, ◌++◌, length, drop, Ok, Result, refl, sym, ap, ◌∙◌, arith, append_assoc, eq-eqb, length-append}
use Rattle.std.specs.Prelude.{◌==◌, ◌&&◌, if◌then◌else◌}
use Rattle.std.specs.List.{flat_map, list_all}
use Rattle.std.proofs.lemmas.List.{append-nil}
use Rattle.px_reading.specs.Reading.{Read, ◌>>=◌}
use Rattle.px_sig.specs.Grammar.{field_sig, front_at, generic_at, is_kind, locals_sig, many, method_at, method_sig, number_at, type_at, type_sig, whole}
use Rattle.px_sig.specs.declared.sig.MethodSig.{MethodSig}
use Rattle.px_sig.specs.declared.sig.SigType.{SigType}
use Rattle.px_asm_heaps.specs.Numbers.{number_bytes}
use Rattle.px_asm_heaps.specs.Spelling.{IsSpelledSig, is_spelled}
use Rattle.px_asm_heaps.specs.Types.{type_bytes}
use Rattle.px_asm_heaps.proofs.Stands.{behind}
use Rattle.px_asm_heaps.proofs.Parts.{number_there, where_there}
use Rattle.px_asm_heaps.proofs.Spelled.{type_read}

-- the bytes of types, one behind the other
abbrev pub types_bytes : List SigType → List ℕ
types_bytes types = flat_map type_bytes types

both : (a b : Bool) → (a && b) ≡ true → (a ≡ true) × (b ≡ true)
both true b is = (refl, is)
both false b is = absurd (cc)

pub types_read : (types : List SigType) → list_all is_spelled types ≡ true → (blob rest : List ℕ) (at : ℕ) → drop at blob ≡ types_bytes types ++ rest
    → many (type_at blob) (length types) at ≡ Ok (record { value = types; end = at + length (types_bytes types) })
types_read [] spelled blob rest at there = let none : at + 0 ≡ at = omega arith in rw none refl
types_read (type ∷ types) spelled blob rest at there =
    let tests = both (is_spelled type) (list_all is_spelled types) spelled in
    let first : drop at blob ≡ type_bytes type ++ (types_bytes types ++ rest) = there ∙ append_assoc (type_bytes type) (types_bytes types) rest in
    let later = behind at blob (type_bytes type) (types_bytes types ++ rest) first in
    let size : at + length (type_bytes type) + length (types_bytes types) ≡ at + length (types_bytes (type ∷ types)) = omega (arith, length-append (type_bytes type) (types_bytes types)) in
    rw (type_read type tests.0 blob (types_bytes types ++ rest) at first, types_read types tests.1 blob rest (at + length (type_bytes type)) later)
    (ap (λ (end : ℕ). Ok (record { value = type ∷ types; end = end })) size)

whole_of : {X : Type 0} (blob : List ℕ) (x : X) (end : ℕ) → end ≡ length blob → whole blob (record { value = x; end = end }) ≡ Ok x
whole_of blob x end is = rw (eq-eqb end (length blob) is) refl

-- THE SIGNATURES

pub type_written : (blob : List ℕ) (item : SigType) → blob ≡ type_bytes item → is_spelled item ≡ true → type_sig blob ≡ Ok item
type_written blob item is spelled =
    let end : 0 + length (type_bytes item) ≡ length blob = rw is (omega arith) in
    ap (λ (r : Result (Read SigType) ℕ). r >>= whole blob) (type_read item spelled blob [] 0 (is ∙ sym (append-nil (type_bytes item))))
    ∙ whole_of blob item (0 + length (type_bytes item)) end

pub field_written : (blob : List ℕ) (item : SigType) → blob ≡ 0x06 ∷ type_bytes item → is_spelled item ≡ true → field_sig blob ≡ Ok item
field_written blob item is spelled =
    let bytes = type_bytes item in
    let later : drop 1 blob ≡ bytes ++ [] = ap (drop 1) is ∙ sym (append-nil bytes) in
    let end : 1 + length bytes ≡ length blob = rw is (omega arith) in
    ap (λ (r : Result (Read ℕ) ℕ). r >>= λ first. type_at blob first.end >>= whole blob) (where_there (λ byte. byte == 0x06) blob bytes 0 0x06 is refl)
    ∙ ap (λ (r : Result (Read SigType) ℕ). r >>= whole blob) (type_read item spelled blob [] 1 later)
    ∙ whole_of blob item (1 + length bytes) end

pub locals_written : (blob : List ℕ) (locals : List SigType) → blob ≡ (0x07 ∷ number_bytes (length locals)) ++ types_bytes locals → length locals < 2 ^ 29 → list_all is_spelled locals ≡ true
    → locals_sig blob ≡ Ok locals
locals_written blob locals is few spelled =
    let count = number_bytes (length locals) in
    let bytes = types_bytes locals in
    let start : drop 1 blob ≡ count ++ bytes = ap (drop 1) is in
    let later : drop (1 + length count) blob ≡ bytes ++ [] = behind 1 blob count bytes start ∙ sym (append-nil bytes) in
    let end : 1 + length count + length bytes ≡ length blob = rw is (omega (arith, length-append count bytes)) in
    ap (λ (r : Result (Read ℕ) ℕ). r >>= λ first. number_at blob first.end >>= λ count. many (type_at blob) count.value count.end >>= whole blob)
    (where_there (λ byte. byte == 0x07) blob (count ++ bytes) 0 0x07 is refl)
    ∙ ap (λ (r : Result (Read ℕ) ℕ). r >>= λ count. many (type_at blob) count.value count.end >>= whole blob) (number_there blob bytes 1 (length locals) start few)
    ∙ ap (λ (r : Result (Read (List SigType)) ℕ). r >>= whole blob) (types_read locals spelled blob [] (1 + length count) later)
    ∙ whole_of blob locals (1 + length count + length bytes) end

-- the first byte of a method's signature
abbrev pub kind_of : Bool → ℕ
kind_of has_this = if has_this then 0x20 else 0x00

front_read : (has_this : Bool) (blob rest : List ℕ) (count : ℕ) → blob ≡ kind_of has_this ∷ (number_bytes count ++ rest) → count < 2 ^ 29
    → front_at is_kind blob 0 ≡ Ok (record { value = record { has_this = has_this; plain = true; count = count }; end = 1 + length (number_bytes count) })
unfolding front_at generic_at
front_read true blob rest count is few = rw (where_there is_kind blob (number_bytes count ++ rest) 0 0x20 is refl, number_there blob rest 1 count (ap (drop 1) is) few) refl
front_read false blob rest count is few = rw (where_there is_kind blob (number_bytes count ++ rest) 0 0x00 is refl, number_there blob rest 1 count (ap (drop 1) is) few) refl

pub method_written : (blob : List ℕ) (sig : MethodSig) (kind : ℕ) → kind ≡ kind_of sig.has_this
    → blob ≡ ((kind ∷ number_bytes (length sig.params)) ++ type_bytes sig.ret) ++ types_bytes sig.params → length sig.params < 2 ^ 29 → IsSpelledSig sig → method_sig blob ≡ Ok sig
unfolding method_at
method_written blob sig kind kind_is is few spelled =
    let count = number_bytes (length sig.params) in
    let ret = type_bytes sig.ret in
    let params = types_bytes sig.params in
    let grouped : blob ≡ kind ∷ (count ++ (ret ++ params)) = is ∙ append_assoc (kind ∷ count) ret params in
    let start : blob ≡ kind_of sig.has_this ∷ (count ++ (ret ++ params)) = grouped ∙ ap (λ k. k ∷ (count ++ (ret ++ params))) kind_is in
    let at_ret : drop (1 + length count) blob ≡ ret ++ params = behind 1 blob count (ret ++ params) (ap (drop 1) start) in
    let at_params : drop (1 + length count + length ret) blob ≡ params ++ [] = behind (1 + length count) blob ret params at_ret ∙ sym (append-nil params) in
    let end : 1 + length count + length ret + length params ≡ length blob = rw grouped (omega (arith, length-append count (ret ++ params), length-append ret params)) in
    let made : Bool → MethodSig = λ plain. record { has_this = sig.has_this; plain = plain; ret = sig.ret; params = sig.params } in
    rw (
      front_read sig.has_this blob (ret ++ params) (length sig.params) start few,
      type_read sig.ret spelled.ret blob params (1 + length count) at_ret,
      types_read sig.params spelled.params blob [] (1 + length count + length ret) at_params,
    )
    (whole_of blob (made true) (1 + length count + length ret + length params) end ∙ ap (λ (p : Bool). Ok (made p)) (sym spelled.plain))
