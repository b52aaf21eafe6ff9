-- The search for the nearest namesake.
use Rattle.std.proofs.Common.{◌≡◌, ◌≢◌, ◌⊎◌, ℕ, ◌+◌, ◌≤◌, Some, None, refl, subst, inl, inr, ⊎_elim, true}
use Rattle.px_tables.specs.Metadata.{View}
use Rattle.px_meta.specs.Chains.{HasEnd, base_in}
use Rattle.px_meta.specs.Overriding.{Behind, Derives, Directly, Here, IsFirstNamesake, IsNamesake, IsNearest, Through, is_virtual}
use Rattle.px_meta.specs.Members.{owner_of}
use Rattle.px_meta.specs.Rows.{IsRow, count_of, methods, type_defs}
use Rattle.px_meta.proofs.Deriving.{IsLeft, left_begun, left_more, left_none}

pub derives_on : (v : View) (type at base : ℕ) → Derives v type at → base_in v at ≡ Some base → Derives v type base
derives_on v type at base (Directly _ _ on) is = Through type at base on (Directly at base is)
derives_on v type at base (Through _ between _ on derives) is = Through type between base on (derives_on v between at base derives is)

-- the search is at a type whose bases haven't been looked at
pub record IsSearching (v : View) (method owner turn at : ℕ) : Type 0 where
  pub left : IsLeft v turn at
  pub above : (at ≡ owner) ⊎ Derives v owner at
  pub there : (other : ℕ) → IsNearest v method at other → IsNearest v method owner other
  pub back : (other : ℕ) → IsNearest v method owner other → IsNearest v method at other

pub search_begun : (v : View) (method owner : ℕ) → IsRow v type_defs owner → HasEnd (base_in v) owner → IsSearching v method owner 0 owner
search_begun v method owner is e = record { left = left_begun v owner is e; above = inl refl; there = λ o n. n; back = λ o n. n }

pub search_derives : (v : View) (method owner turn at base : ℕ) → IsSearching v method owner turn at → base_in v at ≡ Some base → Derives v owner base
search_derives v method owner turn at base s is =
    ⊎_elim (λ e. Directly owner base (subst (λ n. base_in v n ≡ Some base) e is)) (λ d. derives_on v owner at base d is) s.above

nearest_behind : (v : View) (method at base other : ℕ) → base_in v at ≡ Some base → ((o : ℕ) → IsNamesake v method base o → ⊥) → IsNearest v method at other → IsNearest v method base other
nearest_behind v method at base other is none (Here _ b _ on first) = absurd (none other (subst (λ n. IsNamesake v method n other) (let e : b ≡ base = cc in e) first.namesake))
nearest_behind v method at base other is none (Behind _ b _ on nobody later) = subst (λ n. IsNearest v method n other) (let e : b ≡ base = cc in e) later

pub search_more : (v : View) (method owner turn at base : ℕ) → IsSearching v method owner turn at → base_in v at ≡ Some base → ((o : ℕ) → IsNamesake v method base o → ⊥) → IsSearching v method owner (turn + 1) base
search_more v method owner turn at base s is none = record {
  left = left_more v turn at base s.left is;
  above = inr (search_derives v method owner turn at base s is);
  there = λ o n. s.there o (Behind at base o is none n);
  back = λ o n. nearest_behind v method at base o is none (s.back o n);
}

pub search_found : (v : View) (method owner turn at base other : ℕ) → IsSearching v method owner turn at → base_in v at ≡ Some base → IsFirstNamesake v method base other → IsNearest v method owner other
search_found v method owner turn at base other s is first = s.there other (Here at base other is first)

none_nearest : (v : View) (method at other : ℕ) → base_in v at ≡ None → IsNearest v method at other → ⊥
none_nearest v method at other none (Here _ b _ on first) = cc
none_nearest v method at other none (Behind _ b _ on nobody later) = cc

pub search_ended : (v : View) (method owner turn at : ℕ) → IsSearching v method owner turn at → base_in v at ≡ None → (other : ℕ) → IsNearest v method owner other → ⊥
search_ended v method owner turn at s none other n = none_nearest v method at other none (s.back other n)

pub search_over : (v : View) (method owner turn at : ℕ) → IsSearching v method owner turn at → count_of v type_defs ≤ turn → (other : ℕ) → IsNearest v method owner other → ⊥
search_over v method owner turn at s all = search_ended v method owner turn at s (left_none v turn at s.left all)

-- a method that has a namesake has an owner
pub nearest_owned : (v : View) (method type other : ℕ) → IsNearest v method type other → owner_of v methods method ≢ 0
nearest_owned v method type other (Here _ b _ on first) = first.namesake.may.owned
nearest_owned v method type other (Behind _ b _ on nobody later) = nearest_owned v method b other later

pub nearest_virtual : (v : View) (method type other : ℕ) → IsNearest v method type other → is_virtual v method ≡ true
nearest_virtual v method type other (Here _ b _ on first) = first.namesake.may.virtual
nearest_virtual v method type other (Behind _ b _ on nobody later) = nearest_virtual v method b other later
