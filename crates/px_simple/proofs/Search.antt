-- A search over the rising offsets of instructions, or over rising targets, answers what a scan does.
use Rattle.std.proofs.Common.{◌≡◌, ℕ, suc, zero, ◌<◌, ◌≤◌, List, [], ◌∷◌, length, get_or, Bool, true, false, Option, Some, None, Result, Ok, Err, refl, sym, ap, ◌∙◌, arith, nat_cmp, inl, inr}
use Rattle.std.specs.Prelude.{◌==◌, ◌||◌, find, is_ok, slice_get}
use Rattle.std.specs.List.{All, list_any}
use Rattle.std.specs.List.Sorted.{IsBinarySearchResult, IsPermutation, IsPartitionPoint, IsSearchInRange, IsSorted}
use Rattle.std.specs.Ordering.{ordering_index}
use Rattle.std.specs.declared.cmp.Ordering.TheVariants.{Less, Equal, Greater}
use Rattle.std.proofs.lemmas.Bool.{cases_lt}
use Rattle.std.proofs.lemmas.Bool.Decides.{nat_tests}
use Rattle.std.proofs.lemmas.List.Folds.{list_any_at, list_any_none, list_any-append}
use Rattle.std.proofs.lemmas.List.Sorted.{IsNonDecreasingBy-from_sort, list_any-IsPermutation}
use Rattle.std.proofs.lemmas.Option.{slice_get-get_or}
use Rattle.px_program.specs.declared.instr.Code.TheVariants as codes
use Rattle.px_program.specs.declared.instr.Instr.{Instr}
use Rattle.px_program.specs.Formed.{Follow, instr_at, targets_of}
use Rattle.px_simple.specs.Search.{AreTargets, all_targets}
use Rattle.px_simple.specs.Simple.{is_target}

-- Comparisons.

index_rises : (a b x : ℕ) → a ≤ b → ordering_index (nat_cmp a x) ≤ ordering_index (nat_cmp b x)
index_rises a b x le = grind (arith, nat_tests)

equal : (a x : ℕ) → nat_cmp a x ≡ Equal → (a == x) ≡ true
equal a x e = grind (arith, nat_tests)

same : (a x : ℕ) → nat_cmp a x ≡ Equal → a ≡ x
same a x e = grind (arith, nat_tests)

less : (a x : ℕ) → nat_cmp a x ≡ Less → (a == x) ≡ false
less a x e = grind (arith, nat_tests)

greater : (a x : ℕ) → nat_cmp a x ≡ Greater → (a == x) ≡ false
greater a x e = grind (arith, nat_tests)

-- A place between what is less and what is greater has the element nowhere.
none_by : {X : Type 0} (key : X → ℕ) (xs : List X) (at k : ℕ)
    → IsPartitionPoint (λ x. nat_cmp (key x) at ≡ Less) (λ x. nat_cmp (key x) at ≡ Greater) xs k
    → All (λ x. (key x == at) ≡ false) xs
none_by key xs at k parts j d h = elim (cases_lt j k) [
  | inl before ↦ less (key (get_or xs j d)) at (parts.0 j d (omega arith) before)
  | inr behind ↦ greater (key (get_or xs j d)) at (parts.1 j d behind h)
]

-- Instructions that follow each other.

-- none starts before the first
from : (at : ℕ) (code : List Instr) → Follow at code → (k : ℕ) (d : Instr) → k < length code → at ≤ (get_or code k d).offset
from at [] follow k d h = absurd (omega arith)
from at (i ∷ rest) follow zero d h = omega (arith, follow.0)
from at (i ∷ rest) follow (suc k) d h =
    let later : i.next ≤ (get_or rest k d).offset = from i.next rest follow.2 k d (omega arith) in omega (arith, follow.1, later)

ascends : (at : ℕ) (code : List Instr) → Follow at code → (i j : ℕ) (d : Instr) → i ≤ j → j < length code → (get_or code i d).offset ≤ (get_or code j d).offset
ascends at [] follow i j d le h = absurd (omega arith)
ascends at (x ∷ rest) follow zero j d le h =
    let first : at ≤ (get_or (x ∷ rest) j d).offset = from at (x ∷ rest) follow j d h in omega (arith, follow.0, first)
ascends at (x ∷ rest) follow (suc i) zero d le h = absurd (omega arith)
ascends at (x ∷ rest) follow (suc i) (suc j) d le h = ascends x.next rest follow.2 i j d (omega arith) (omega arith)

-- for a place of a list that is past its end
nothing : Instr
nothing = record { offset = 0; next = 0; code = codes.Return }

-- a number that is less is another
apart : (m n : ℕ) → m < n → (m == n) ≡ false
apart m n h = grind arith

-- the one that starts at an offset is the first that does
first_at : (start : ℕ) (code : List Instr) → Follow start code → (k : ℕ) (d : Instr) (at : ℕ)
    → k < length code → ((get_or code k d).offset == at) ≡ true → (get_or code k d).offset ≡ at → instr_at code at ≡ Some (get_or code k d)
first_at start [] follow k d at h e o = absurd (omega arith)
first_at start (i ∷ rest) follow zero d at h e o = rw e refl
first_at start (i ∷ rest) follow (suc k) d at h e o =
    let later : i.next ≤ (get_or rest k d).offset = from i.next rest follow.2 k d (omega arith) in
    let other : (i.offset == at) ≡ false = apart i.offset at (omega (arith, follow.0, follow.1, later, o)) in
    rw other (first_at i.next rest follow.2 k d at (omega arith) e o)

-- where none passes, none is found
found_none : {X : Type 0} (p : X → Bool) (xs : List X) → All (λ x. p x ≡ false) xs → find p xs ≡ None
found_none p [] all = refl
found_none p (x ∷ xs) all =
    let here : p x ≡ false = all 0 x (omega arith) in
    rw here (found_none p xs (λ k d h. all (suc k) d (omega arith)))

-- what a search over the offsets says
pub offset_found : (code : List Instr) (at k : ℕ) (found : Option Instr) → Follow 0 code
    → IsSearchInRange (Ok k) (length code) → IsBinarySearchResult (λ i. nat_cmp i.offset at) code (Ok k)
    → found ≡ slice_get code k → found ≡ instr_at code at
offset_found code at k found follow range here e =
    let d : Instr = nothing in
    e ∙ slice_get-get_or code k d range ∙ sym (first_at 0 code follow k d at range (equal (get_or code k d).offset at (here d)) (same (get_or code k d).offset at (here d)))

pub offset_missing : (code : List Instr) (at k : ℕ) → Follow 0 code
    → IsBinarySearchResult (λ i. nat_cmp i.offset at) code (Err k) → instr_at code at ≡ None
offset_missing code at k follow split =
    found_none (λ i. i.offset == at) code (none_by (λ i. i.offset) code at k
    (split (λ i j d le h. index_rises (get_or code i d).offset (get_or code j d).offset at (ascends 0 code follow i j d le h))))

-- Targets.

-- the scan of the code asks each of them
all_asked : (code : List Instr) (at : ℕ) → list_any (λ target. target == at) (all_targets code) ≡ is_target code at
all_asked [] at = refl
all_asked (i ∷ rest) at =
    list_any-append (λ target. target == at) (targets_of i.code) (all_targets rest)
    ∙ ap (λ b. list_any (λ target. target == at) (targets_of i.code) || b) (all_asked rest at)

pub sorted : (code : List Instr) (targets after : List ℕ) → targets ≡ all_targets code
    → IsPermutation targets after → IsSorted nat_cmp after → AreTargets code after
sorted code targets after e moved rises = record {
  rise = IsNonDecreasingBy-from_sort (λ x. x) after rises;
  same = λ at. sym (list_any-IsPermutation (λ target. target == at) targets after moved) ∙ ap (list_any (λ target. target == at)) e ∙ all_asked code at;
}

-- what a search over the targets says
pub target_found : (code : List Instr) (targets : List ℕ) (at : ℕ) (r : Result ℕ ℕ) → AreTargets code targets
    → IsSearchInRange r (length targets) → IsBinarySearchResult (λ x. nat_cmp x at) targets r → is_ok r ≡ is_target code at
target_found code targets at (Ok k) are range here =
    sym (list_any_at (λ target. target == at) targets k 0 range (equal (get_or targets k 0) at (here 0))) ∙ are.same at
target_found code targets at (Err k) are range split =
    sym (list_any_none (λ target. target == at) targets (none_by (λ x. x) targets at k
    (split (λ i j d le h. index_rises (get_or targets i d) (get_or targets j d) at (are.rise i j d le h))))) ∙ are.same at
