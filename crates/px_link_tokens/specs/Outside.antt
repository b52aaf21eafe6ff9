-- The names of what isn't run: that of a member, `Namespace.Outer/Inner::Member`, where the token names one of another assembly, a method without a body,
-- or the method of a `callvirt`; and else that of the opcode.
use Rattle.std.specs.Prelude.{◌≡◌, ℕ, ◌/◌, ◌%◌, ◌==◌, Bool, true, false, ◌||◌, if◌then◌else◌, List, [], ◌∷◌, ◌++◌, codes, Option, Some, None}
use Rattle.px_code.specs.Body.{is_among, with_token}
use Rattle.px_meta.specs.FullNames.{IsTypeName, with_namespace}
use Rattle.px_meta.specs.Members.{owner_of}
use Rattle.px_meta.specs.Rows.{cell, is_in, member_refs, methods, some_row, text_at, type_defs, type_refs}
use Rattle.px_meta.specs.Tokens.{row_in, table_in}
use Rattle.px_link_opcodes.specs.Opcodes.{opcode_name}
use Rattle.px_tables.specs.Metadata.{View}
use Rattle.px_link_tokens.specs.declared.member.Parent.{Parent}
use Rattle.px_link_tokens.specs.declared.member.Parent.TheVariants.{Defined, Referred}

-- a member: the type that has it, and its own name
pub record Member : Type 0 where
  pub parent : Parent
  pub name : List ℕ

-- TYPES OF OTHER ASSEMBLIES

-- the reference that a reference to a type is nested in
abbrev pub scope_of : View → ℕ → Option ℕ
scope_of v row = if cell v type_refs row 0 % 4 == 3 then some_row v type_refs (cell v type_refs row 0 / 4) else None

-- the references around a reference, the innermost first; where they come back to one that was there, they stop before it
pub data AreScopes (v : View) : List ℕ → ℕ → List ℕ → Type 0 where
  Ends : (seen : List ℕ) (row : ℕ) → scope_of v row ≡ None → AreScopes v seen row []
  ComesBack : (seen : List ℕ) (row scope : ℕ) → scope_of v row ≡ Some scope → is_in (row ∷ seen) scope ≡ true → AreScopes v seen row []
  GoesOn : (seen : List ℕ) (row scope : ℕ) (rest : List ℕ) → scope_of v row ≡ Some scope → is_in (row ∷ seen) scope ≡ false → AreScopes v (row ∷ seen) scope rest → AreScopes v seen row (scope ∷ rest)

abbrev pub own_ref_name : View → ℕ → List ℕ
own_ref_name v row = with_namespace (text_at v (cell v type_refs row 2)) (text_at v (cell v type_refs row 1))

abbrev pub nested_name : View → ℕ → List ℕ → List ℕ
nested_name v row [] = own_ref_name v row
nested_name v row (scope ∷ scopes) = nested_name v scope scopes ++ codes "/" ++ own_ref_name v row

pub record IsRefName (v : View) (row : ℕ) (text : List ℕ) : Type 0 where
  pub scopes : List ℕ
  pub around : AreScopes v [] row scopes
  pub is : text ≡ nested_name v row scopes

-- MEMBERS

abbrev pub IsParentName : View → Parent → List ℕ → Type 0
IsParentName v (Defined row) text = IsTypeName v row text
IsParentName v (Referred row) text = IsRefName v row text

pub record IsMemberName (v : View) (member : Member) (name : List ℕ) : Type 0 where
  pub type : List ℕ
  pub type_is : IsParentName v member.parent type
  pub is : name ≡ type ++ codes "::" ++ member.name

-- a member that some type has
abbrev pub owned_member : ℕ → List ℕ → Option Member
owned_member owner name = if owner == 0 then None else Some (record { parent = Defined owner; name = name })

-- a method of the assembly gives its name where it has no body, and to a `callvirt`
abbrev pub gives_name : View → ℕ → ℕ → Bool
gives_name v opcode row = (opcode == 0x6F) || (cell v methods row 0 == 0)

abbrev pub method_member : View → ℕ → Option ℕ → Option Member
method_member v opcode None = None
method_member v opcode (Some row) = if gives_name v opcode row then owned_member (owner_of v methods row) (text_at v (cell v methods row 3)) else None

abbrev pub parent_defined : Option ℕ → Option Parent
parent_defined None = None
parent_defined (Some row) = Some (Defined row)

abbrev pub parent_referred : Option ℕ → Option Parent
parent_referred None = None
parent_referred (Some row) = Some (Referred row)

-- the type that is the parent of a reference to a member, by the coded index in its first column
abbrev pub parent_type : View → ℕ → Option Parent
parent_type v index =
    if index % 8 == 0 then parent_defined (some_row v type_defs (index / 8))
    else if index % 8 == 1 then parent_referred (some_row v type_refs (index / 8))
    else None

abbrev pub member_with : Option Parent → List ℕ → Option Member
member_with None name = None
member_with (Some parent) name = Some (record { parent = parent; name = name })

abbrev pub reference_member : View → Option ℕ → Option Member
reference_member v None = None
reference_member v (Some row) = member_with (parent_type v (cell v member_refs row 0)) (text_at v (cell v member_refs row 1))

-- the member that gives its name to an instruction of an opcode, by the token
abbrev pub member_at : View → ℕ → ℕ → Option Member
member_at v opcode at =
    if table_in at == methods then method_member v opcode (some_row v methods (row_in at))
    else if table_in at == member_refs then reference_member v (some_row v member_refs (row_in at))
    else None

-- THE NAME

abbrev pub IsNameBy : View → ℕ → Option Member → List ℕ → Type 0
IsNameBy v opcode None name = name ≡ opcode_name opcode
IsNameBy v opcode (Some member) name = IsMemberName v member name

-- the name of an instruction that isn't run, by its opcode and its token, where it has one
abbrev pub IsOutsideName : View → ℕ → ℕ → List ℕ → Type 0
IsOutsideName v opcode at name = IsNameBy v opcode (if is_among with_token opcode then member_at v opcode at else None) name
