-- Lists of all variables below a number.
use Rattle.std.proofs.Common.{ℕ, ◌+◌, ◌<◌, eqb, List, [], ◌∷◌, ◌++◌, length, get_or, sym, ◌∙◌, arith}
use Rattle.std.specs.List.Sorted.{IsPermutation}
use Rattle.std.proofs.lemmas.Bool.{ltb-true}
use Rattle.std.proofs.lemmas.Bool.Decides.{nat_tests}
use Rattle.std.proofs.lemmas.List.Sorted.{list_any-IsPermutation}
use Rattle.px_chain.proofs.Members.{has-append}
use Rattle.px_trail.proofs.Scans.{has_at}
use Rattle.px_sat.specs.Order.{HasAllBelow, IsOrder}

pub all-none : HasAllBelow 0 []
all-none variable = grind (arith, nat_tests)

-- one variable more
pub all-push : (n : ℕ) (variables : List ℕ) → HasAllBelow n variables → HasAllBelow (n + 1) (variables ++ n ∷ [])
all-push n variables is variable = grind (arith, nat_tests, has-append variables (n ∷ []) variable, is variable)

-- the variables in another order
pub IsOrder-moved : (n : ℕ) (xs ys : List ℕ) → IsPermutation xs ys → IsOrder n xs → IsOrder n ys
IsOrder-moved n xs ys moved is = record {
  few = is.few;
  all = λ variable. sym (list_any-IsPermutation (λ m. eqb m variable) xs ys moved) ∙ is.all variable;
}

-- each variable of the list is below the number
pub below_at : (vars : ℕ) (variables : List ℕ) (i : ℕ) → HasAllBelow vars variables → i < length variables → get_or variables i 0 < vars
below_at vars variables i all lt = ltb-true (get_or variables i 0) vars (sym (all (get_or variables i 0)) ∙ has_at variables i lt)
