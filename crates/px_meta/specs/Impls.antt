-- What is kept of MethodImpl, and what the parts that look for overridden methods promise each other.
use Rattle.std.specs.Prelude.{◌≡◌, ℕ, Option, MatchOption, false, true}
use Rattle.px_tables.specs.Counts.{has_bit}
use Rattle.px_tables.specs.Metadata.{View}
use Rattle.px_meta.specs.Overriding.{IsFirstSaid, IsNearest, IsSaid, is_new_slot}
use Rattle.px_meta.specs.Members.{owner_of}
use Rattle.px_meta.specs.Rows.{methods}
use Rattle.px_meta.specs.declared.meta.MetaMethod.{MetaMethod}

-- both are virtual instance methods with one signature
pub record IsMatch (method other : MetaMethod) : Type 0 where
  pub virtual : has_bit method.flags 6 ≡ true
  pub other_virtual : has_bit other.flags 6 ≡ true
  pub instance : method.sig.has_this ≡ true
  pub sig : method.sig ≡ other.sig

-- the method that the first row of MethodImpl says, where one does
abbrev pub IsDeclared : View → ℕ → Option ℕ → Type 0
IsDeclared v method declared = MatchOption declared ((row other : ℕ) → IsSaid v row method other → ⊥) (IsFirstSaid v method)

-- a method with the name of another, which it may override, where it is of the type
pub record IsAlike (type : ℕ) (method other : MetaMethod) : Type 0 where
  pub owner : other.owner ≡ type
  pub name : other.name.now ≡ method.name.now
  pub matched : IsMatch method other

-- by its name, whatever rows say
pub record IsNamed (v : View) (method other : ℕ) : Type 0 where
  pub old_slot : is_new_slot v method ≡ false
  pub nearest : IsNearest v method (owner_of v methods method) other
