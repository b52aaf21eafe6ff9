-- Which method another overrides (Partition II, 10.3 and 22.27).
use Rattle.std.specs.Prelude.{◌≡◌, ◌≢◌, ◌⊎◌, ℕ, ◌<◌, Bool, true, false, Some}
use Rattle.px_sig.specs.declared.sig.MethodSig.{MethodSig}
use Rattle.px_tables.specs.Counts.{has_bit}
use Rattle.px_tables.specs.Metadata.{View}
use Rattle.px_meta.specs.Chains.{base_in}
use Rattle.px_meta.specs.Members.{flags_in, method_sig_at, owner_of}
use Rattle.px_meta.specs.Rows.{IsRow, cell, method_impls, methods, row_by, text_at}

-- the method's flag that it is virtual, and the one that it begins a new slot
abbrev pub is_virtual : View → ℕ → Bool
is_virtual v method = has_bit (flags_in (cell v methods method 2)) 6

abbrev pub is_new_slot : View → ℕ → Bool
is_new_slot v method = has_bit (flags_in (cell v methods method 2)) 8

-- a type derives from its base, and from what its base derives from
pub data Derives (v : View) : ℕ → ℕ → Type 0 where
  Directly : (type base : ℕ) → base_in v type ≡ Some base → Derives v type base
  Through : (type between base : ℕ) → base_in v type ≡ Some between → Derives v between base → Derives v type base

-- A method may override another where both are virtual instance methods with one signature, and its owner derives from the other's.
pub record MayOverride (v : View) (method other : ℕ) : Type 0 where
  pub row : IsRow v methods method
  pub other_row : IsRow v methods other
  pub virtual : is_virtual v method ≡ true
  pub other_virtual : is_virtual v other ≡ true
  pub sig : MethodSig
  pub has_sig : method_sig_at v (cell v methods method 4) ≡ Some sig
  pub other_has_sig : method_sig_at v (cell v methods other 4) ≡ Some sig
  pub instance : sig.has_this ≡ true
  pub owned : owner_of v methods method ≢ 0
  pub derives : Derives v (owner_of v methods method) (owner_of v methods other)

-- a row of MethodImpl that says so; where the one may not override the other, the row says nothing
pub record IsSaid (v : View) (row method other : ℕ) : Type 0 where
  pub there : IsRow v method_impls row
  pub body : row_by v methods 1 (cell v method_impls row 1) ≡ Some method
  pub declaration : row_by v methods 1 (cell v method_impls row 2) ≡ Some other
  pub may : MayOverride v method other

-- by the first row that says so
pub record IsFirstSaid (v : View) (method other : ℕ) : Type 0 where
  pub row : ℕ
  pub said : IsSaid v row method other
  pub first : (r o : ℕ) → r < row → IsSaid v r method o → ⊥

-- a method of a type that has the method's name, and which it may override
pub record IsNamesake (v : View) (method type other : ℕ) : Type 0 where
  pub owner : owner_of v methods other ≡ type
  pub name : text_at v (cell v methods other 3) ≡ text_at v (cell v methods method 3)
  pub may : MayOverride v method other

pub record IsFirstNamesake (v : View) (method type other : ℕ) : Type 0 where
  pub namesake : IsNamesake v method type other
  pub first : (o : ℕ) → o < other → IsNamesake v method type o → ⊥

-- the first namesake in the nearest base of a type that has one
pub data IsNearest (v : View) (method : ℕ) : ℕ → ℕ → Type 0 where
  Here : (type base other : ℕ) → base_in v type ≡ Some base → IsFirstNamesake v method base other → IsNearest v method type other
  Behind : (type base other : ℕ) → base_in v type ≡ Some base → ((o : ℕ) → IsNamesake v method base o → ⊥) → IsNearest v method base other → IsNearest v method type other

-- by its name, in the nearest base of its owner
pub record IsByName (v : View) (method other : ℕ) : Type 0 where
  pub nobody_says : (row o : ℕ) → IsSaid v row method o → ⊥
  pub old_slot : is_new_slot v method ≡ false
  pub nearest : IsNearest v method (owner_of v methods method) other

-- The method that a method overrides: by the first row that says so, and where none does and it begins no new slot, by its name.
abbrev pub Overrides : View → ℕ → ℕ → Type 0
Overrides v method other = IsFirstSaid v method other ⊎ IsByName v method other
