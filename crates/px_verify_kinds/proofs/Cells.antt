-- What a stack holds, by its cells.
use Rattle.std.proofs.Common.{◌≡◌, ℕ, zero, suc, ◌+◌, ◌-◌, ◌<◌, ◌≤◌, List, [], ◌∷◌, ◌++◌, Some, true, refl, sym, ap, ◌∙◌, subst, arith, length}
use Rattle.std.specs.Prelude.{◌==◌, if◌then◌else◌, reverse, slice_get, slice_index_or}
use Rattle.std.proofs.lemmas.Option.{slice_get_read}
use Rattle.std.proofs.lemmas.List.{length-reverse, reverse-append}
use Rattle.px_verify_kinds.specs.Stacks.{AreLinked, AreStacks, Extends, held}
use Rattle.px_verify_kinds.specs.declared.stacks.Cell.{Cell}
use Rattle.px_verify_kinds.proofs.Lines.{by_bool, is_same, same_is}

-- the empty stack
pub held_zero : (cells : List Cell) → held cells 0 ≡ []
held_zero [] = refl
held_zero (cell ∷ older) = by_bool (λ b. (if b then cell.kind ∷ held older cell.below else held older 0) ≡ []) (0 == suc (length older)) (λ same. let wrong = same_is 0 (suc (length older)) same in absurd (omega arith)) (λ apart. held_zero older)

above : (newer : Cell) (older : List Cell) (n : ℕ) → n ≤ length older → held (newer ∷ older) n ≡ held older n
above newer older n within = by_bool (λ b. (if b then newer.kind ∷ held older newer.below else held older n) ≡ held older n) (n == suc (length older)) (λ same. let wrong = same_is n (suc (length older)) same in absurd (omega arith)) (λ apart. refl)

length_more : (newer cells : List Cell) → length (newer ++ cells) ≡ length newer + length cells
length_more [] cells = omega arith
length_more (cell ∷ newer) cells = let rest = length_more newer cells in omega arith

-- newer cells leave what a stack holds
held_above : (newer cells : List Cell) (n : ℕ) → n ≤ length cells → held (newer ++ cells) n ≡ held cells n
held_above [] cells n within = refl
held_above (cell ∷ newer) cells n within = above cell (newer ++ cells) n (omega (arith, length_more newer cells)) ∙ held_above newer cells n within

first_held : (cell : Cell) (older : List Cell) → held (cell ∷ older) (suc (length older)) ≡ cell.kind ∷ held older cell.below
first_held cell older = let same : (suc (length older) == suc (length older)) ≡ true = is_same (suc (length older)) (suc (length older)) refl in ap (λ b. if b then cell.kind ∷ held older cell.below else held older (suc (length older))) same

assoc : (a b c : List Cell) → (a ++ b) ++ c ≡ a ++ (b ++ c)
assoc [] b c = refl
assoc (x ∷ a) b c = ap (λ l. x ∷ l) (assoc a b c)

length_one_more : (xs : List Cell) (x : Cell) → length (xs ++ x ∷ []) ≡ suc (length xs)
length_one_more [] x = refl
length_one_more (y ∷ xs) x = ap suc (length_one_more xs x)

-- where a cell lies among all
pub record Lies (cells : List Cell) (k : ℕ) (cell : Cell) : Type 0 where
  pub newer : List Cell
  pub older : List Cell
  pub all : cells ≡ newer ++ cell ∷ older
  pub age : length older ≡ k

lies : (items : List Cell) (k : ℕ) (cell : Cell) → slice_get items k ≡ Some cell → Lies (reverse items) k cell
lies [] k cell is = absurd (cc)
lies (x ∷ items) zero cell is =
    let same : x ≡ cell = cc in
    record { newer = reverse items; older = []; all = reverse-append (x ∷ []) items ∙ ap (λ y. reverse items ++ y ∷ []) same; age = refl }
lies (x ∷ items) (suc k) cell is =
    let rest = lies items k cell is in
    record {
      newer = rest.newer;
      older = rest.older ++ x ∷ [];
      all = reverse-append (x ∷ []) items ∙ ap (λ l. l ++ x ∷ []) rest.all ∙ assoc rest.newer (cell ∷ rest.older) (x ∷ []);
      age = length_one_more rest.older x ∙ ap suc rest.age;
    }

linked_below : (newer cells : List Cell) → AreLinked (newer ++ cells) → AreLinked cells
linked_below [] cells linked = linked
linked_below (cell ∷ newer) cells linked = linked_below newer cells linked.2

-- what the cell on top of a stack tells
pub record Top (cells : List Cell) (number : ℕ) (cell : Cell) : Type 0 where
  pub kinds : held cells number ≡ cell.kind ∷ held cells cell.below
  pub within : cell.below ≤ length cells
  pub height : cell.height ≡ length (held cells number)

top_of : (cells : List Cell) (k : ℕ) (cell : Cell) → AreLinked cells → Lies cells k cell → Top cells (suc k) cell
top_of cells k cell linked at =
    let whole : AreLinked (at.newer ++ cell ∷ at.older) = subst AreLinked at.all linked in
    let mine : AreLinked (cell ∷ at.older) = linked_below at.newer (cell ∷ at.older) whole in
    let lengths : length cells ≡ length at.newer + length (cell ∷ at.older) = ap length at.all ∙ length_more at.newer (cell ∷ at.older) in
    let number : suc k ≡ suc (length at.older) = ap suc (sym at.age) in
    let here : held cells (suc k) ≡ cell.kind ∷ held at.older cell.below =
    ap (λ n. held cells n) number ∙ ap (λ all. held all (suc (length at.older))) at.all
    ∙ held_above at.newer (cell ∷ at.older) (suc (length at.older)) (omega arith) ∙ first_held cell at.older in
    let below : held cells cell.below ≡ held at.older cell.below =
    ap (λ all. held all cell.below) at.all ∙ held_above at.newer (cell ∷ at.older) cell.below (omega (arith, mine.0)) ∙ above cell at.older cell.below mine.0 in
    record {
      kinds = here ∙ ap (λ rest. cell.kind ∷ rest) (sym below);
      within = omega (arith, mine.0, lengths);
      height = mine.1 ∙ sym (ap length here);
    }

-- the cell of a stack's number, counted from 1
pub top_is : (items : List Cell) (number : ℕ) (cell : Cell) → AreLinked (reverse items) → 0 < number → slice_get items (number - 1) ≡ Some cell → Top (reverse items) number cell
top_is items number cell linked some is =
    let same : suc (number - 1) ≡ number = omega arith in
    subst (λ n. Top (reverse items) n cell) same (top_of (reverse items) (number - 1) cell linked (lies items (number - 1) cell is))

-- no stack is higher than there are cells
pub held_short : (cells : List Cell) (n : ℕ) → AreLinked cells → length (held cells n) ≤ length cells
held_short [] n linked = omega arith
held_short (cell ∷ older) n linked = by_bool (λ b. length (if b then cell.kind ∷ held older cell.below else held older n) ≤ suc (length older)) (n == suc (length older))
    (λ same. let rest = held_short older cell.below linked.2 in omega arith)
    (λ apart. let rest = held_short older n linked.2 in omega arith)

pub extends_one : (cell : Cell) (older : List Cell) → Extends older (cell ∷ older)
extends_one cell older = record { more = omega arith; same = λ number within. above cell older number within }

pub extends_itself : (cells : List Cell) → Extends cells cells
extends_itself cells = record { more = omega arith; same = λ number within. refl }

pub extends_through : (old between new : List Cell) → Extends old between → Extends between new → Extends old new
extends_through old between new first second = record { more = omega (arith, first.more, second.more); same = λ number within. second.same number (omega (arith, within, first.more)) ∙ first.same number within }

number_some : (n : ℕ) → (n ≡ 0 → ⊥) → 0 < n
number_some zero some = absurd (some refl)
number_some (suc n) some = omega arith

-- the cell that is read at a stack's number
pub stack_top : (items cells : List Cell) (number : ℕ) (cell : Cell) → reverse items ≡ cells → AreStacks items → number ≤ length cells → (number ≡ 0 → ⊥) → cell ≡ slice_index_or items (number - 1) cell → Top cells number cell
stack_top items cells number cell view are within some read =
    let lengths : length cells ≡ length items = sym (ap length view) ∙ length-reverse items in
    let positive : 0 < number = number_some number some in
    let there : slice_get items (number - 1) ≡ Some cell = slice_get_read items (length items) (number - 1) cell refl (omega (arith, within, lengths, positive)) read in
    subst (λ all. Top all number cell) view (top_is items number cell are.linked positive there)

pub nothing_held : (cells : List Cell) (number : ℕ) → number ≡ 0 → held cells number ≡ []
nothing_held cells number none = ap (λ n. held cells n) none ∙ held_zero cells

pub height_short : (items cells : List Cell) → reverse items ≡ cells → AreStacks items → (number : ℕ) → length (held cells number) ≤ length items
height_short items cells view are number =
    let short : length (held (reverse items) number) ≤ length (reverse items) = held_short (reverse items) number are.linked in
    let same : length (held cells number) ≡ length (held (reverse items) number) = ap (λ all. length (held all number)) (sym view) in
    omega (arith, short, same, length-reverse items)

pub seen_pushed : (items items2 cells cells2 : List Cell) (cell : Cell) → reverse items ≡ cells → items2 ≡ items ++ cell ∷ [] → reverse items2 ≡ cells2 → cells2 ≡ cell ∷ cells
seen_pushed items items2 cells cells2 cell view more view2 = sym view2 ∙ ap reverse more ∙ reverse-append items (cell ∷ []) ∙ ap (λ all. cell ∷ all) view

pub are_pushed : (items items2 cells : List Cell) (cell : Cell) → reverse items ≡ cells → AreStacks items → items2 ≡ items ++ cell ∷ [] → cell.below ≤ length cells → cell.height ≡ suc (length (held cells cell.below)) → length items < 4294967295 → AreStacks items2
are_pushed items items2 cells cell view are more below height few =
    let linked : AreLinked (cell ∷ cells) = (below, height, subst AreLinked view are.linked) in
    let seen : reverse items2 ≡ cell ∷ cells = ap reverse more ∙ reverse-append items (cell ∷ []) ∙ ap (λ all. cell ∷ all) view in
    let lengths : length items2 ≡ suc (length items) = ap length more ∙ length_one_more items cell in
    record { linked = subst AreLinked (sym seen) linked; few = omega (arith, few, lengths) }
