-- Equal and unequal signatures: all types of other forms count as one.
use Rattle.std.proofs.Common.{◌≡◌, ◌≢◌, ℕ, List, [], ◌∷◌, Ok, refl, ap, arith}
use Rattle.px_sig.specs.declared.sig.MethodSig.{MethodSig}
use Rattle.px_sig.specs.Grammar.{array_of, method_sig}
use Rattle.px_facts_load.proofs.SignatureWords.{grammar, class, void, int32, uint32, definition_2, reference_2, instance, special, static}

abbrev sample : MethodSig
sample = instance void (array_of int32 ∷ definition_2 ∷ [])

-- the blob is a signature that differs from the sample
abbrev IsOther : List ℕ → MethodSig → Type 0
IsOther blob sig = (method_sig blob ≡ Ok sig) × (sig ≢ sample)

-- a class is known by its token
same_tokens : (token other : ℕ) → class token ≡ class other → token ≡ other
same_tokens token other same = let leaf = ap (λ type. type.leaf) same in cc

equal : method_sig (0x20 ∷ 0x02 ∷ 0x01 ∷ 0x1D ∷ 0x08 ∷ 0x12 ∷ 0x08 ∷ []) ≡ Ok sample
unfolding grammar
equal = refl

equal_in_a_longer_spelling : method_sig (0x20 ∷ 0x80 ∷ 0x02 ∷ 0x01 ∷ 0x45 ∷ 0x1D ∷ 0x08 ∷ 0x12 ∷ 0x08 ∷ []) ≡ Ok sample
unfolding grammar
equal_in_a_longer_spelling = refl

unequal_without_a_receiver : IsOther (0x00 ∷ 0x02 ∷ 0x01 ∷ 0x1D ∷ 0x08 ∷ 0x12 ∷ 0x08 ∷ []) (static void (array_of int32 ∷ definition_2 ∷ []))
unfolding grammar
unequal_without_a_receiver = (refl, λ same. let has_this = ap (λ sig. sig.has_this) same in cc)

unequal_with_a_variable_list : IsOther (0x25 ∷ 0x02 ∷ 0x01 ∷ 0x1D ∷ 0x08 ∷ 0x12 ∷ 0x08 ∷ []) (special (instance void (array_of int32 ∷ definition_2 ∷ [])))
unfolding grammar
unequal_with_a_variable_list = (refl, λ same. let plain = ap (λ sig. sig.plain) same in cc)

unequal_by_the_return_type : IsOther (0x20 ∷ 0x02 ∷ 0x08 ∷ 0x1D ∷ 0x08 ∷ 0x12 ∷ 0x08 ∷ []) (instance int32 (array_of int32 ∷ definition_2 ∷ []))
unfolding grammar
unequal_by_the_return_type = (refl, λ same. let leaf = ap (λ sig. sig.ret.leaf) same in cc)

unequal_by_a_missing_parameter : IsOther (0x20 ∷ 0x01 ∷ 0x01 ∷ 0x1D ∷ 0x08 ∷ []) (instance void (array_of int32 ∷ []))
unfolding grammar
unequal_by_a_missing_parameter = (refl, λ same. let params = ap (λ sig. sig.params) same in cc)

unequal_by_the_element_of_an_array : IsOther (0x20 ∷ 0x02 ∷ 0x01 ∷ 0x1D ∷ 0x09 ∷ 0x12 ∷ 0x08 ∷ []) (instance void (array_of uint32 ∷ definition_2 ∷ []))
unfolding grammar
unequal_by_the_element_of_an_array = (
  refl,
  λ same. let params = ap (λ sig. sig.params) same in
      let arrays : array_of uint32 ≡ array_of int32 = cc in
      let leaf = ap (λ type. type.leaf) arrays in
      cc,
)

-- a reader that compares tokens by their order takes this one, before the sample, for equal
unequal_by_the_table_of_a_class : IsOther (0x20 ∷ 0x02 ∷ 0x01 ∷ 0x1D ∷ 0x08 ∷ 0x12 ∷ 0x09 ∷ []) (instance void (array_of int32 ∷ reference_2 ∷ []))
unfolding grammar
unequal_by_the_table_of_a_class = (
  refl,
  λ same. let params = ap (λ sig. sig.params) same in
      let classes : reference_2 ≡ definition_2 = cc in
      let tokens = same_tokens 0x0100_0002 0x0200_0002 classes in
      omega (arith, tokens),
)
