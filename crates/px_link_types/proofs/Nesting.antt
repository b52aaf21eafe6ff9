-- Chains of outer types, and the names that they make.
use Rattle.std.proofs.Common.{◌≡◌, ℕ, zero, suc, ◌+◌, ◌-◌, ◌<◌, List, [], ◌∷◌, ◌++◌, length, get_or, drop, append_assoc, append-nil, Option, Some, None, refl, sym, ap, ◌∙◌, subst, arith}
use Rattle.std.specs.Prelude.{IfSome, codes}
use Rattle.std.specs.List.{AllByRecursion}
use Rattle.std.proofs.lemmas.Option.{slice_get-get_or}
use Rattle.px_meta.specs.Chains.{Ends, GoesOn, IsChain, encloser, nesting_in, outer_of}
use Rattle.px_meta.specs.Faults.{IsFaultless, Outers}
use Rattle.px_meta.specs.FullNames.{own_name, type_name}
use Rattle.px_meta.specs.Members.{IsType}
use Rattle.px_meta.specs.Rows.{IsRow, cell, count_of, nested_classes, rows_in, type_defs}
use Rattle.px_meta.specs.Tokens.{AreRows}
use Rattle.px_meta.specs.declared.fault.MetaKind.TheVariants.{CycleOfBases}
use Rattle.px_meta.specs.declared.meta.MetaType.{MetaType}
use Rattle.px_tables.specs.Metadata.{View}
use Rattle.px_link_types.proofs.Ends.{LeadsBelow, fewer_left, has_end, steps_left}
use Rattle.px_link_types.proofs.There.{row_there}

enclosed : (v : View) (nesting : Option ℕ) → IfSome (encloser v nesting) (IsRow v type_defs)
enclosed v None = tt
enclosed v (Some n) = row_there v type_defs (cell v nested_classes n 1)

pub outer_there : (v : View) (row : ℕ) → IfSome (outer_of v row) (IsRow v type_defs)
outer_there v row = enclosed v (nesting_in v (rows_in v nested_classes) row)

pub outer_is_row : (v : View) (row outer : ℕ) → outer_of v row ≡ Some outer → IsRow v type_defs outer
outer_is_row v row outer is = subst (λ o. IfSome o (IsRow v type_defs)) is (outer_there v row)

outers_below : (v : View) → LeadsBelow (suc (count_of v type_defs)) (outer_of v)
outers_below v row outer is = let there = outer_is_row v row outer is in omega (arith, there.few)

-- how many types a type is nested in
abbrev pub outers_left : View → ℕ → ℕ
outers_left v row = steps_left (outer_of v) (suc (count_of v type_defs)) row

pub fewer_outers : (v : View) (row outer : ℕ) → IsFaultless v → IsRow v type_defs row → outer_of v row ≡ Some outer → outers_left v outer < outers_left v row
fewer_outers v row outer faultless is on =
    let bound = suc (count_of v type_defs) in
    fewer_left (outer_of v) bound row outer (outers_below v) (has_end (outer_of v) bound row (outers_below v) (λ none. faultless CycleOfBases type_defs row (Outers row is none))) on

-- A walk of outer types is at a type: whatever chain begins there goes on behind those that were met.
pub record IsWalk (v : View) (row : ℕ) (outers : List ℕ) (at : ℕ) : Type 0 where
  pub there : IsRow v type_defs at
  pub met : AllByRecursion (IsRow v type_defs) outers
  pub goes : (rest : List ℕ) → IsChain (outer_of v) at rest → IsChain (outer_of v) row (outers ++ rest)

pub walk_begun : (v : View) (row : ℕ) (outers : List ℕ) → outers ≡ [] → IsRow v type_defs row → IsWalk v row outers row
walk_begun v row outers none is = subst (λ os. IsWalk v row os row) (sym none) (record { there = is; met = tt; goes = λ rest chain. chain })

each-push : {X : Type 0} (P : X → Type 0) (xs : List X) (x : X) → AllByRecursion P xs → P x → AllByRecursion P (xs ++ x ∷ [])
each-push P [] x each is = (is, tt)
each-push P (y ∷ ys) x each is = (each.0, each-push P ys x each.1 is)

pub walk_on : (v : View) (row : ℕ) (outers news : List ℕ) (at outer : ℕ) → IsWalk v row outers at → outer_of v at ≡ Some outer → news ≡ outers ++ outer ∷ [] → IsWalk v row news outer
walk_on v row outers news at outer walk on e =
    subst (λ os. IsWalk v row os outer) (sym e) (record {
      there = outer_is_row v at outer on;
      met = each-push (IsRow v type_defs) outers outer walk.met (outer_is_row v at outer on);
      goes = λ rest chain. subst (IsChain (outer_of v) row) (sym (append_assoc outers (outer ∷ []) rest)) (walk.goes (outer ∷ rest) (GoesOn at outer rest on chain));
    })

pub walk_ended : (v : View) (row : ℕ) (outers : List ℕ) (at : ℕ) → IsWalk v row outers at → outer_of v at ≡ None → IsChain (outer_of v) row outers
walk_ended v row outers at walk none = subst (IsChain (outer_of v) row) (append-nil outers) (walk.goes [] (Ends at none))

-- the names of outer types, each with its slash, the outermost first
abbrev pub names_before : View → List ℕ → List ℕ
names_before v [] = []
names_before v (outer ∷ outers) = (names_before v outers ++ own_name v outer) ++ codes "/"

pub named : (v : View) (row : ℕ) (outers : List ℕ) → names_before v outers ++ own_name v row ≡ type_name v row outers
named v row [] = refl
named v row (outer ∷ outers) = ap (λ text. text ++ codes "/" ++ own_name v row) (named v outer outers)

-- one more outer type's name
pub one_more_name : (v : View) (outers : List ℕ) (n outer : ℕ) (text : List ℕ) → n < length outers → outer ≡ get_or outers n 0 → text ≡ names_before v (drop (suc n) outers)
    → (text ++ own_name v outer) ++ codes "/" ≡ names_before v (drop n outers)
one_more_name v [] n outer text less is e = absurd (omega arith)
one_more_name v (o ∷ outers) zero outer text less is e = let same : outer ≡ o = is in ap (λ t. (t ++ own_name v outer) ++ codes "/") e ∙ ap (λ r. (names_before v outers ++ own_name v r) ++ codes "/") same
one_more_name v (o ∷ outers) (suc n) outer text less is e = one_more_name v outers n outer text (omega arith) is e

pub type_outer : (v : View) (row : ℕ) (types : List MetaType) (d : MetaType) → AreRows IsType v type_defs types → IsRow v type_defs row → (get_or types (row - 1) d).outer ≡ outer_of v row
type_outer v row types d are is =
    let same : (row - 1) + 1 ≡ row = omega (arith, is.some) in
    let there = slice_get-get_or types (row - 1) d (omega (arith, are.count, is.some, is.few)) in
    (subst (λ r. IsType v r (get_or types (row - 1) d)) same (are.each (row - 1) (get_or types (row - 1) d) there)).outer
