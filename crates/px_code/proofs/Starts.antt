-- A search over the offsets of instructions finds the one that starts at an offset.
use Rattle.std.proofs.Common.{◌≡◌, ℕ, suc, zero, ◌<◌, ◌≤◌, List, [], ◌∷◌, length, get_or, true, false, Result, Ok, Err, sym, arith, nat_cmp, inl, inr}
use Rattle.std.specs.Prelude.{◌==◌, is_ok}
use Rattle.std.proofs.lemmas.Bool.{cases_lt}
use Rattle.std.specs.List.Sorted.{IsBinarySearchResult, IsSearchInRange}
use Rattle.std.specs.Ordering.{ordering_index}
use Rattle.std.specs.declared.cmp.Ordering.TheVariants.{Less, Equal, Greater}
use Rattle.std.proofs.lemmas.Bool.Decides.{nat_tests}
use Rattle.std.proofs.lemmas.List.Folds.{list_any_at, list_any_none}
use Rattle.px_code.specs.Body.{is_start, Follow}
use Rattle.px_code.specs.declared.body.RawInstr.{RawInstr}

-- no instruction starts before the first
from : (at : ℕ) (xs : List RawInstr) → Follow at xs → (k : ℕ) (d : RawInstr) → k < length xs → at ≤ (get_or xs k d).offset
from at [] follow k d h = absurd (omega arith)
from at (x ∷ xs) follow zero d h = omega (arith, follow.0)
from at (x ∷ xs) follow (suc k) d h =
    let later : x.next ≤ (get_or xs k d).offset = from x.next xs follow.2 k d (omega arith) in omega (arith, follow.1, later)

ascends : (at : ℕ) (xs : List RawInstr) → Follow at xs → (i j : ℕ) (d : RawInstr) → i ≤ j → j < length xs → (get_or xs i d).offset ≤ (get_or xs j d).offset
ascends at [] follow i j d le h = absurd (omega arith)
ascends at (x ∷ xs) follow zero j d le h = let first : at ≤ (get_or (x ∷ xs) j d).offset = from at (x ∷ xs) follow j d h in omega (arith, follow.0, first)
ascends at (x ∷ xs) follow (suc i) zero d le h = absurd (omega arith)
ascends at (x ∷ xs) follow (suc i) (suc j) d le h = ascends x.next xs follow.2 i j d (omega arith) (omega arith)

index_rises : (a b x : ℕ) → a ≤ b → ordering_index (nat_cmp a x) ≤ ordering_index (nat_cmp b x)
index_rises a b x le = grind (arith, nat_tests)

equal : (a x : ℕ) → nat_cmp a x ≡ Equal → (a == x) ≡ true
equal a x e = grind (arith, nat_tests)

less : (a x : ℕ) → nat_cmp a x ≡ Less → (a == x) ≡ false
less a x e = grind (arith, nat_tests)

greater : (a x : ℕ) → nat_cmp a x ≡ Greater → (a == x) ≡ false
greater a x e = grind (arith, nat_tests)

none : RawInstr
none = record { offset = 0; next = 0; opcode = 0; operand = 0; targets = [] }

pub found : (xs : List RawInstr) (at : ℕ) (r : Result ℕ ℕ) → Follow 0 xs → IsSearchInRange r (length xs) → IsBinarySearchResult (λ i. nat_cmp i.offset at) xs r → is_ok r ≡ is_start xs at
found xs at (Ok k) follow range here = sym (list_any_at (λ i. i.offset == at) xs k none range (equal (get_or xs k none).offset at (here none)))
found xs at (Err k) follow range split =
    let parts = split (λ i j d le h. index_rises (get_or xs i d).offset (get_or xs j d).offset at (ascends 0 xs follow i j d le h)) in
    sym (list_any_none (λ i. i.offset == at) xs
    (λ j d h. elim (cases_lt j k) [
      | inl before ↦ less (get_or xs j d).offset at (parts.0 j d (omega arith) before)
      | inr behind ↦ greater (get_or xs j d).offset at (parts.1 j d behind h)
    ]))
