-- The parts of signatures are read where they stand.
use Rattle.std.proofs.Common.{◌≡◌, ℕ, ◌+◌, ◌^◌, ◌<◌, Bool, true, List, ◌∷◌, ◌++◌, length, get_or, drop, Some, Ok, refl, sym, ap, ◌∙◌, arith, length-drop}
use Rattle.std.proofs.lemmas.Bool.{lt-ltb}
use Rattle.std.proofs.lemmas.Bool.Decides.{nat_tests}
use Rattle.std.proofs.lemmas.List.{get_or-drop}
use Rattle.px_sig.specs.Grammar.{byte_at, byte_where, form_at, form_of, number_at, token_at, token_of}
use Rattle.px_sig.specs.declared.form.Form.{Form}
use Rattle.px_asm_heaps.specs.Numbers.{number_bytes}
use Rattle.px_asm_heaps.specs.Spelling.{is_class_token}
use Rattle.px_asm_heaps.specs.Types.{index_of}
use Rattle.px_asm_heaps.proofs.Numbers.{number_read}

inside : (blob rest : List ℕ) (at byte : ℕ) → drop at blob ≡ byte ∷ rest → at < length blob
inside blob rest at byte there = let left = length-drop at blob in let more = ap length there in omega (arith, left, more)

first : (blob rest : List ℕ) (at byte : ℕ) → drop at blob ≡ byte ∷ rest → get_or blob at 0 ≡ byte
first blob rest at byte there =
    let same : at + 0 ≡ at = omega arith in
    sym (ap (λ i. get_or blob i 0) same) ∙ sym (get_or-drop at blob 0 0) ∙ ap (λ (bytes : List ℕ). get_or bytes 0 0) there

pub byte_there : (blob rest : List ℕ) (at byte : ℕ) → drop at blob ≡ byte ∷ rest → byte_at blob at ≡ Ok (record { value = byte; end = at + 1 })
unfolding byte_at
byte_there blob rest at byte there = rw (lt-ltb at (length blob) (inside blob rest at byte there), first blob rest at byte there) refl

pub where_there : (test : ℕ → Bool) (blob rest : List ℕ) (at byte : ℕ) → drop at blob ≡ byte ∷ rest → test byte ≡ true → byte_where test blob at ≡ Ok (record { value = byte; end = at + 1 })
unfolding byte_where
where_there test blob rest at byte there passes = rw (byte_there blob rest at byte there, passes) refl

pub form_there : (blob rest : List ℕ) (at code : ℕ) (form : Form) → drop at blob ≡ code ∷ rest → form_of code ≡ Some form → form_at blob at ≡ Ok (record { value = form; end = at + 1 })
unfolding form_at
form_there blob rest at code form there is = rw (byte_there blob rest at code there, is) refl

pub number_there : (blob rest : List ℕ) (at n : ℕ) → drop at blob ≡ number_bytes n ++ rest → n < 2 ^ 29 → number_at blob at ≡ Ok (record { value = n; end = at + length (number_bytes n) })
unfolding number_at
number_there blob rest at n there few = rw (there, number_read n rest few) refl

-- the token that a coded index names
named : (token : ℕ) → is_class_token token ≡ true → token_of (index_of token) ≡ Some token
unfolding token_of index_of
named token is = grind (arith, nat_tests)

few_indexes : (token : ℕ) → index_of token < 2 ^ 29
unfolding index_of
few_indexes token = grind (arith, nat_tests)

pub token_there : (blob rest : List ℕ) (at token : ℕ) → drop at blob ≡ number_bytes (index_of token) ++ rest → is_class_token token ≡ true
    → token_at blob at ≡ Ok (record { value = token; end = at + length (number_bytes (index_of token)) })
unfolding token_at
token_there blob rest at token there is = rw (number_there blob rest at (index_of token) there (few_indexes token), named token is) refl
