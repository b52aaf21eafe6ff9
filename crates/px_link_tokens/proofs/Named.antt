-- Integers by their names.
use Rattle.std.proofs.Common.{◌≡◌, ℕ, zero, suc, ◌+◌, ◌≤◌, Bool, List, [], ◌∷◌, length, drop, Some, None, refl, ap, ◌∙◌, arith}
use Rattle.std.specs.Prelude.{if◌then◌else◌, slice_get}
use Rattle.std.specs.Str.{bytes_eq}
use Rattle.std.proofs.lemmas.List.{at_drop_all}
use Rattle.px_sig.specs.declared.sig.Integer.{Integer}
use Rattle.px_link_tokens.specs.Named.{integer_from, integer_names}
use Rattle.px_link_tokens.specs.Operands.{integer_named}

pub all_named : (name : List ℕ) → integer_named name ≡ integer_from integer_names name
unfolding integer_names integer_from
all_named name = refl

pub twelve : length integer_names ≡ 12
unfolding integer_names
twelve = refl

by_test : (entry : List ℕ × Integer) (entries : List (List ℕ × Integer)) (name : List ℕ) (b : Bool) → bytes_eq name entry.0 ≡ b → integer_from (entry ∷ entries) name ≡ (if b then Some entry.1 else integer_from entries name)
unfolding integer_from
by_test entry entries name b is = ap (λ t. if t then Some entry.1 else integer_from entries name) is

from_place : (entries : List (List ℕ × Integer)) (n : ℕ) (entry : List ℕ × Integer) → slice_get entries n ≡ Some entry → drop n entries ≡ entry ∷ drop (n + 1) entries
from_place [] n entry is = absurd (cc)
from_place (x ∷ xs) zero entry is = let same : x ≡ entry = cc in ap (λ e. e ∷ xs) same
from_place (x ∷ xs) (suc n) entry is = let one : suc (n + 1) ≡ suc n + 1 = omega arith in from_place xs n entry is ∙ ap (λ k. entry ∷ drop k (x ∷ xs)) one

-- the search at an entry
pub here_or_on : (n : ℕ) (name : List ℕ) (entry : List ℕ × Integer) (b : Bool) → slice_get integer_names n ≡ Some entry → bytes_eq name entry.0 ≡ b
    → integer_from (drop n integer_names) name ≡ (if b then Some entry.1 else integer_from (drop (n + 1) integer_names) name)
here_or_on n name entry b at is = ap (λ es. integer_from es name) (from_place integer_names n entry at) ∙ by_test entry (drop (n + 1) integer_names) name b is

nowhere : (name : List ℕ) → integer_from [] name ≡ None
unfolding integer_from
nowhere name = refl

pub at_end : (n : ℕ) (name : List ℕ) → 12 ≤ n → integer_from (drop n integer_names) name ≡ None
at_end n name all = at_drop_all (λ es. integer_from es name) integer_names n (omega (arith, twelve)) ∙ nowhere name
