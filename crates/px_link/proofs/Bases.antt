-- Chains of bases.
use Rattle.std.proofs.Common.{◌≡◌, ℕ, suc, ◌<◌, List, [], ◌∷◌, ◌++◌, append_assoc, append-nil, Some, None, sym, ap, subst, arith}
use Rattle.std.specs.Prelude.{◌/◌, ◌%◌, ◌^◌, ◌==◌, IfSome}
use Rattle.std.proofs.lemmas.Bool.{cond_both}
use Rattle.px_meta.specs.Chains.{Ends, GoesOn, IsChain, base_in}
use Rattle.px_meta.specs.Faults.{Bases, IsFaultless}
use Rattle.px_meta.specs.Rows.{IsRow, cell, count_of, some_row, type_defs}
use Rattle.px_meta.specs.declared.fault.MetaKind.TheVariants.{CycleOfBases}
use Rattle.px_tables.specs.Metadata.{View}
use Rattle.px_link_types.proofs.Ends.{LeadsBelow, fewer_left, has_end, steps_left}
use Rattle.px_link_types.proofs.There.{row_there}
use Rattle.px_link.specs.Parts.{IsLine}

pub base_is_row : (v : View) (row base : ℕ) → base_in v row ≡ Some base → IsRow v type_defs base
base_is_row v row base is =
    let index = cell v type_defs row 3 in
    subst (λ o. IfSome o (IsRow v type_defs)) is
    (cond_both (index % 2 ^ 2 == 0) (some_row v type_defs (index / 2 ^ 2)) None (λ o. IfSome o (IsRow v type_defs)) (λ e. row_there v type_defs (index / 2 ^ 2)) (λ e. tt))

pub bases_below : (v : View) → LeadsBelow (suc (count_of v type_defs)) (base_in v)
bases_below v row base is = let there = base_is_row v row base is in omega (arith, there.few)

-- how many types stand behind a type
abbrev pub bases_left : View → ℕ → ℕ
bases_left v row = steps_left (base_in v) (suc (count_of v type_defs)) row

pub fewer_bases : (v : View) (row base : ℕ) → IsFaultless v → IsRow v type_defs row → base_in v row ≡ Some base → bases_left v base < bases_left v row
fewer_bases v row base faultless is on =
    let bound = suc (count_of v type_defs) in
    fewer_left (base_in v) bound row base (bases_below v) (has_end (base_in v) bound row (bases_below v) (λ none. faultless CycleOfBases type_defs row (Bases row is none))) on

-- A walk of bases is at a type: whatever chain begins there goes on behind those that were met.
pub record IsWalk (v : View) (row : ℕ) (line : List ℕ) (at : ℕ) : Type 0 where
  pub there : IsRow v type_defs at
  pub goes : (rest : List ℕ) → IsChain (base_in v) at rest → IsLine v row (line ++ rest)

pub walk_begun : (v : View) (row : ℕ) (line : List ℕ) → line ≡ row ∷ [] → IsRow v type_defs row → IsWalk v row line row
walk_begun v row line one is = record { there = is; goes = λ rest chain. record { behind = rest; chain = chain; is = ap (λ l. l ++ rest) one } }

pub walk_on : (v : View) (row : ℕ) (line news : List ℕ) (at base : ℕ) → IsWalk v row line at → base_in v at ≡ Some base → news ≡ line ++ base ∷ [] → IsWalk v row news base
walk_on v row line news at base walk on e =
    subst (λ l. IsWalk v row l base) (sym e) (record {
      there = base_is_row v at base on;
      goes = λ rest chain. subst (IsLine v row) (sym (append_assoc line (base ∷ []) rest)) (walk.goes (base ∷ rest) (GoesOn at base rest on chain));
    })

pub walk_ended : (v : View) (row : ℕ) (line : List ℕ) (at : ℕ) → IsWalk v row line at → base_in v at ≡ None → IsLine v row line
walk_ended v row line at walk none = subst (IsLine v row) (append-nil line) (walk.goes [] (Ends at none))
