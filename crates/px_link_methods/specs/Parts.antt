-- What the parts promise each other.
use Rattle.std.specs.Prelude.{◌≡◌, ◌≢◌, ◌⊎◌, ℕ, ◌<◌, ◌==◌, ◌||◌, if◌then◌else◌, Bool, true, false, List, [], ◌∷◌, ◌++◌, Option, Some, None, IfSome}
use Rattle.std.specs.BTreeMap.{BTreeMap, get}
use Rattle.std.specs.BTreeSet.{BTreeSet, contains}
use Rattle.std.specs.List.{AllByRecursion}
use Rattle.std.specs.Ordering.{nat_cmp, ordering_then}
use Rattle.std.specs.declared.cmp.Ordering.{Ordering}
use Rattle.px_meta.specs.Members.{method_sig_at, owner_of}
use Rattle.px_meta.specs.Rows.{cell, fields, is_in, methods}
use Rattle.px_program.specs.Alike.{renamed}
use Rattle.px_program.specs.declared.program.Method.{Method}
use Rattle.px_sig.specs.declared.sig.MethodSig.{MethodSig}
use Rattle.px_link_tokens.specs.Parts.{IsThere}
use Rattle.px_link_tokens.specs.declared.operand.Operand.{Operand}
use Rattle.px_link_tokens.specs.declared.operand.Operand.TheVariants as operand
use Rattle.px_link_reach.specs.Met.{method_in}
use Rattle.px_link_reach.specs.declared.body.Whole.{Whole}
use Rattle.px_tables.specs.Metadata.{View}
use Rattle.px_link_types.specs.Keys.{IsKey}
use Rattle.px_link_types.specs.Making.{AreNumberedIn}
use Rattle.px_link_types.specs.Numbers.{Numbers, instance_fields, is_integer, static_fields}
use Rattle.px_link_types.specs.declared.key.Key.{Key}
use Rattle.px_link_methods.specs.Codes.{Numbering, owner_number}
use Rattle.px_link_methods.specs.Methods.{IsMethodName, keys_of_body, keys_of_operand, keys_of_sig, met_by, sig_at}
use Rattle.px_link_methods.specs.declared.met.Passed.{Passed}

-- each of some rows is among those that have numbers
abbrev pub AreAmong : List ℕ → List ℕ → Type 0
AreAmong rows some = AllByRecursion (λ row. is_in rows row ≡ true) some

-- keys that were added, each of which is there
pub record IsAdded (v : View) (before more after : List Key) : Type 0 where
  pub is : after ≡ before ++ more
  pub there : AllByRecursion (IsKey v) more

-- the one kind of fields of a type or the other
abbrev pub fields_by : View → Bool → ℕ → List ℕ
fields_by v true owner = static_fields v owner
fields_by v false owner = instance_fields v owner

-- an instruction names the place of elements, which may be an integer
abbrev pub is_element : ℕ → Bool
is_element opcode = (opcode == 0xA3) || (opcode == 0xA4)

-- what an instruction can name: a class of the library, a field that some type has, and a type that isn't an integer alone, or the place of elements
abbrev pub Fits : View → ℕ → Operand → Type 0
Fits v opcode (operand.Type key) = is_element opcode ≡ false → is_integer key ≡ false
Fits v opcode (operand.Field field) = owner_of v fields field ≢ 0
Fits v opcode (operand.Constructor class params) = class < 18
Fits v opcode _ = Unit {0}

-- what an instruction names, which is there
pub record IsNamed (v : View) (opcode : ℕ) (operand : Operand) : Type 0 where
  pub there : IsThere v operand
  pub fits : Fits v opcode operand

-- what an instruction names, and what has numbers of it
pub record IsLinked (v : View) (n : Numbering) (opcode : ℕ) (operand : Operand) : Type 0 where
  pub named : IsNamed v opcode operand
  pub types : AreNumberedIn n.keys (keys_of_operand v (Some operand))
  pub methods : AreAmong n.rows (method_in (Some operand))

-- TYPES THAT WERE MET BEFORE

-- what the signature at a place meets
abbrev pub sig_keys : View → ℕ → List Key
sig_keys v at = keys_of_sig v (method_sig_at v at)

-- what the body at an address meets
abbrev pub body_keys : View → (ℕ → Whole) → ℕ → List Key
body_keys v body at = keys_of_body v (body at)

-- what the things at these places meet has numbers
abbrev pub ArePassed : List Key → (ℕ → List Key) → BTreeSet ℕ → Type 0
ArePassed keys met passed = (at : ℕ) → contains nat_cmp passed at ≡ true → AreNumberedIn keys (met at)

-- what the thing at a place meets got numbers
pub record IsPassed (v : View) (met : ℕ → List Key) (at : ℕ) (before after : List Key) (places : BTreeSet ℕ) : Type 0 where
  pub numbers : Numbers v before (met at) after
  pub passed : ArePassed after met places

-- what a method meets got numbers
pub record IsMet (v : View) (body : ℕ → Whole) (method : ℕ × Whole) (before after : List Key) (passed : Passed) : Type 0 where
  pub numbers : Numbers v before (met_by v method) after
  pub sigs : ArePassed after (sig_keys v) passed.sigs
  pub bodies : ArePassed after (body_keys v body) passed.bodies

-- METHODS THAT ARE ALIKE

abbrev pub receiver_by : Option MethodSig → ℕ → ℕ
receiver_by None owner = 0
receiver_by (Some sig) owner = if sig.has_this then owner else 0

-- what methods have in common that share all but their names: the address of the body, the place of the signature, and the receiver's type, if there is one
abbrev pub likeness : View → ℕ → ℕ × ℕ × ℕ
likeness v row = (cell v methods row 0, cell v methods row 4, receiver_by (sig_at v row) (owner_of v methods row))

abbrev pub by_likeness : ℕ × ℕ × ℕ → ℕ × ℕ × ℕ → Ordering
by_likeness one other = ordering_then (ordering_then (nat_cmp one.0 other.0) (nat_cmp one.1 other.1)) (nat_cmp one.2 other.2)

-- the first method of a likeness, if there is one, by its number; else the next one is the first
pub record IsFirstLike (before after : BTreeMap (ℕ × ℕ × ℕ) ℕ) (like : ℕ × ℕ × ℕ) (next : ℕ) (first : Option ℕ) : Type 0 where
  pub found : IfSome first (λ number. get by_likeness before like ≡ Some number)
  pub kept : (other : ℕ × ℕ × ℕ) (number : ℕ) → get by_likeness after other ≡ Some number → (get by_likeness before other ≡ Some number) ⊎ ((other ≡ like) × (number ≡ next))

-- a method was added by its own name and owner, and all else of another
pub record IsRenamed (v : View) (keys : List Key) (row : ℕ) (method : Method) (before after : List Method) : Type 0 where
  pub name : List ℕ
  pub name_is : IsMethodName v row name
  pub is : after ≡ before ++ renamed method name (owner_number v keys (owner_of v methods row)) ∷ []
