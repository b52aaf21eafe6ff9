-- The program of a method of an assembly.
use Rattle.std.specs.Prelude.{◌≡◌, ◌≢◌, ◌⊎◌, ℕ, ◌+◌, ◌==◌, ◌&&◌, ◌||◌, not, nat_le, Bool, true, false, if◌then◌else◌, List, [], ◌∷◌, codes, Option, Some, None, find}
use Rattle.std.specs.Str.{bytes_eq}
use Rattle.px_code.specs.declared.body.Body.{Body}
use Rattle.px_code.specs.declared.body.BodyFault.{BodyFault}
use Rattle.px_code.specs.declared.body.BodyFault.TheVariants as body_faults
use Rattle.px_code.specs.Reading.{PlacedFault}
use Rattle.px_meta.specs.Members.{IsMethod, owner_of}
use Rattle.px_meta.specs.Rows.{cell, methods, rows_in, text_at}
use Rattle.px_meta.specs.declared.meta.MetaMethod.{MetaMethod}
use Rattle.px_link_methods.specs.Codes.{place_of}
use Rattle.px_link_methods.specs.Methods.{AreMethods, met_by_all, sig_at}
use Rattle.px_link_tokens.specs.Operands.{is_there, is_void}
use Rattle.px_pe.specs.Image as pe
use Rattle.px_program.specs.declared.program.Program.{Program}
use Rattle.px_link_reach.specs.Met.{IsFirstRefused, IsReached}
use Rattle.px_link_reach.specs.Overriders.{AreLists}
use Rattle.px_link_reach.specs.declared.methods.Reached.{Reached}
use Rattle.px_sig.specs.declared.sig.MethodSig.{MethodSig}
use Rattle.px_sig.specs.declared.sig.SigType.{SigType}
use Rattle.px_sig.specs.declared.sig.SigLeaf.{SigLeaf}
use Rattle.px_sig.specs.declared.sig.SigLeaf.TheVariants.{Int}
use Rattle.px_tables.specs.Metadata.{View}
use Rattle.px_link_types.specs.Keys.{is_class}
use Rattle.px_link_types.specs.Numbers.{Numbers, library_keys}
use Rattle.px_link_types.specs.declared.key.Key.{Key}
use Rattle.px_link.specs.declared.fault.LinkFault.{LinkFault}
use Rattle.px_link.specs.declared.fault.LinkFault.TheVariants as faults
use Rattle.px_link.specs.declared.fault.RawFault.{RawFault}
use Rattle.px_link.specs.declared.fault.RawFault.TheVariants as raw_faults
use Rattle.px_link.specs.Layout.{IsLayout}
use Rattle.px_link.specs.Names.{IsNamed, IsOnly}
use Rattle.px_link.specs.Overrides.{AreLinkedTypes, in_order}

-- THE ENTRY

-- the method of the one row that has the name
pub record IsTheMethod (v : View) (name : List ℕ) (method : MetaMethod) : Type 0 where
  pub row : ℕ
  pub only : IsOnly v name row
  pub is : IsMethod v row method

-- the one method of a name, with a plain signature and a body
pub record IsFound (v : View) (name : List ℕ) (method : ℕ) (sig : MethodSig) : Type 0 where
  pub only : IsOnly v name method
  pub has_sig : sig_at v method ≡ Some sig
  pub plain : sig.plain ≡ true
  pub has_body : cell v methods method 0 ≢ 0

abbrev pub is_integer : SigLeaf → Bool
is_integer (Int integer) = true
is_integer _ = false

-- what a domain can be given for: an integer, or an array of integers
abbrev pub is_argument : SigType → Bool
is_argument type = nat_le type.depth 1 && is_integer type.leaf

-- the first parameter that can't be given, counted on from a number; sixteen can be
abbrev pub unfit_from : ℕ → List SigType → Option ℕ
unfit_from k [] = None
unfit_from k (type ∷ types) = if (k == 16) || not (is_argument type) then Some k else unfit_from (k + 1) types

abbrev pub first_unfit : List SigType → Option ℕ
first_unfit types = unfit_from 0 types

-- THE MAKER

abbrev pub is_nil : {X : Type 0} → List X → Bool
is_nil [] = true
is_nil (x ∷ xs) = false

-- a plain signature of an instance method that takes nothing and returns nothing
abbrev pub takes_nothing : Option MethodSig → Bool
takes_nothing None = false
takes_nothing (Some sig) = sig.has_this && sig.plain && is_void sig.ret && is_nil sig.params

-- a constructor of a type that takes nothing, and has a body
abbrev pub is_maker : View → ℕ → ℕ → Bool
is_maker v type method =
    (owner_of v methods method == type) && bytes_eq (text_at v (cell v methods method 3)) (codes ".ctor") && not (cell v methods method 0 == 0)
    && takes_nothing (sig_at v method)

-- the first such constructor of a class
abbrev pub maker_in : View → ℕ → Option ℕ
maker_in v type = if is_class v type then find (is_maker v type) (rows_in v methods) else None

-- a static method needs no object
abbrev pub maker_of : View → ℕ → MethodSig → Option ℕ
maker_of v method sig = if sig.has_this then maker_in v (owner_of v methods method) else None

abbrev pub rows_of : Option ℕ → List ℕ
rows_of None = []
rows_of (Some row) = row ∷ []

abbrev pub maker_number : List ℕ → Option ℕ → Option ℕ
maker_number rows None = None
maker_number rows (Some row) = Some (place_of rows row)

-- an instance method has a maker
abbrev pub has_maker : View → ℕ → MethodSig → Bool
has_maker v method sig = not sig.has_this || is_there (maker_of v method sig)

-- THE PROGRAM

-- what is linked: the method of a name whose parameters can be given, with its maker where it needs one
pub record IsEntry (v : View) (name : List ℕ) (method : ℕ) (sig : MethodSig) : Type 0 where
  pub found : IsFound v name method sig
  pub fit : first_unfit sig.params ≡ None
  pub made : has_maker v method sig ≡ true

-- the methods that a program starts with: its entry, and its maker
abbrev pub starts_of : View → ℕ → MethodSig → List ℕ
starts_of v method sig = method ∷ rows_of (maker_of v method sig)

-- The program is that of the method of this name: with its maker and all methods that calls and overriding reach, all types that these meet, and how the
-- assembly has them.
pub record Reads (v : View) (image : pe.View) (name : List ℕ) (program : Program) : Type 0 where
  pub method : ℕ
  pub sig : MethodSig
  pub entry : IsEntry v name method sig
  pub lists : List (List ℕ)
  pub overriding : AreLists v lists
  pub reached : Reached
  pub is_reached : IsReached v image lists (starts_of v method sig) reached
  pub keys : List Key
  pub numbers : Numbers v library_keys (met_by_all v reached.rows reached.bodies) keys
  pub types : AreLinkedTypes v (record { keys = keys; rows = reached.rows }) lists (in_order reached.rows reached.virtual_targets) program.types
  pub methods : AreMethods v (record { keys = keys; rows = reached.rows }) reached.bodies program.methods
  pub entry_is : program.entry ≡ 0
  pub maker_is : program.maker ≡ maker_number reached.rows (maker_of v method sig)
  pub layout : IsLayout v (record { keys = keys; rows = reached.rows }) program.layout

-- REFUSALS

-- the one method of a name has no body, or its signature isn't plain
pub record HasNoBody (v : View) (name : List ℕ) : Type 0 where
  pub method : ℕ
  pub sig : MethodSig
  pub only : IsOnly v name method
  pub has_sig : sig_at v method ≡ Some sig
  pub no_body : (cell v methods method 0 ≡ 0) ⊎ (sig.plain ≡ false)

-- the first parameter of the method that can't be given has this number
pub record HasBadParameter (v : View) (name : List ℕ) (number : ℕ) : Type 0 where
  pub method : ℕ
  pub sig : MethodSig
  pub found : IsFound v name method sig
  pub unfit : first_unfit sig.params ≡ Some number

-- an instance method whose class has no constructor that takes nothing and has a body
pub record HasNoMaker (v : View) (name : List ℕ) : Type 0 where
  pub method : ℕ
  pub sig : MethodSig
  pub found : IsFound v name method sig
  pub fit : first_unfit sig.params ≡ None
  pub no_maker : has_maker v method sig ≡ false

-- the first method of the program whose body is refused, by its number
pub record HasBadBody (v : View) (image : pe.View) (name : List ℕ) (fault : PlacedFault) (number : ℕ) : Type 0 where
  pub method : ℕ
  pub sig : MethodSig
  pub entry : IsEntry v name method sig
  pub lists : List (List ℕ)
  pub overriding : AreLists v lists
  pub refused : IsFirstRefused v image lists (starts_of v method sig) number fault

-- two methods of one name
pub record AreTwo (v : View) (name : List ℕ) : Type 0 where
  pub first : ℕ
  pub second : ℕ
  pub named : IsNamed v name first
  pub named_too : IsNamed v name second
  pub apart : first ≢ second

abbrev pub BlamesBody : View → pe.View → List ℕ → BodyFault → ℕ → Type 0
BlamesBody v image name body_faults.Memory number = ⊥
BlamesBody v image name (body_faults.Bad kind at) number = HasBadBody v image name (kind, at) number

-- why a method isn't linked
abbrev pub Blames : View → pe.View → List ℕ → LinkFault → Type 0
Blames v image name faults.Memory = Unit {0}
Blames v image name faults.NoMethod = (method : ℕ) → IsNamed v name method → ⊥
Blames v image name faults.Ambiguous = AreTwo v name
Blames v image name faults.NoBody = HasNoBody v name
Blames v image name (faults.BadParameter number) = HasBadParameter v name number
Blames v image name faults.NoMaker = HasNoMaker v name
Blames v image name (faults.BadBody fault number) = BlamesBody v image name fault number

-- why a raw body isn't linked
abbrev pub BlamesRaw : Body → RawFault → Type 0
BlamesRaw body raw_faults.Memory = Unit {0}
BlamesRaw body raw_faults.RawLocals = body.locals_token ≢ 0
