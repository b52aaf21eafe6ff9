-- The clause that a table of marks, one for each literal, stands for.
use Rattle.std.specs.Prelude.{◌≡◌, ℕ, ◌+◌, ◌*◌, ◌<◌, List, [], ◌∷◌, Bool, true, false, not, ◌&&◌, ◌||◌, if◌then◌else◌, length, Option, Some, None, MatchOption}
use Rattle.std.specs.List.{AllByRecursion}
use Rattle.px_chain.specs.Clause.{has}
use Rattle.px_chain.specs.Resolution.{positive, negative}

-- the literals that are marked, where the first mark is that of a literal
abbrev pub marked_from : ℕ → List Bool → List ℕ
marked_from l [] = []
marked_from l (mark ∷ marks) = if mark then l ∷ marked_from (l + 1) marks else marked_from (l + 1) marks

-- the clause of the literals that are marked
unfoldable pub marked : List Bool → List ℕ
marked marks = marked_from 0 marks

-- a clause in the making, over variables below a number
pub record Marked : Type 0 where
  pub vars : ℕ
  pub clause : List ℕ

abbrev pub marked_of : ℕ → List Bool → Marked
marked_of vars marks = record { vars = vars; clause = marked marks }

-- there is a mark for each literal, and the literals of a list are among them and have every one that is marked
pub record IsMarked (vars : ℕ) (marks : List Bool) (touched : List ℕ) : Type 0 where
  pub size : length marks ≡ 2 * vars
  pub within : AllByRecursion (λ l. l < length marks) touched
  pub listed : (l : ℕ) → has (marked marks) l ≡ true → has touched l ≡ true

-- The marks of some literals are taken away, and the literals that were marked are put out.
pub record Unmarks (old new : List Bool) (literals before after : List ℕ) : Type 0 where
  pub left : (l : ℕ) → has (marked new) l ≡ (has (marked old) l && not (has literals l))
  pub out : (l : ℕ) → has after l ≡ (has before l || (has (marked old) l && has literals l))

-- the literals on which two clauses resolve: the first clause's, and the other's
abbrev pub pivot_of : List ℕ → ℕ → List ℕ → Option (ℕ × ℕ)
pivot_of a variable c =
    if has a (positive variable) && has c (negative variable) then Some (positive variable, negative variable)
    else if has a (negative variable) && has c (positive variable) then Some (negative variable, positive variable)
    else None

-- whether clauses resolve, and to which
abbrev pub Resolves : Option (List ℕ) → Bool → List ℕ → Type 0
Resolves resolvent found clause = MatchOption resolvent (found ≡ false) (λ r. (found ≡ true) × (clause ≡ r))
