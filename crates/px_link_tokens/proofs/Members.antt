-- Members of types, by their rows.
use Rattle.std.proofs.Common.{◌≡◌, ℕ, List, Option, Some, None, true, false, sym, ap, ◌∙◌, subst}
use Rattle.std.specs.Prelude.{◌==◌, if◌then◌else◌, IfSome}
use Rattle.std.proofs.lemmas.Bool.{cond_both, eqb-false}
use Rattle.px_meta.specs.Members.{owner_of}
use Rattle.px_meta.specs.Rows.{cell, methods, text_at}
use Rattle.px_meta.proofs.Alike.{owner_row}
use Rattle.px_tables.specs.Metadata.{View}
use Rattle.px_link_tokens.specs.Naming.{IsParent, said}
use Rattle.px_link_tokens.specs.Outside.{Member, gives_name, method_member, owned_member}
use Rattle.px_link_tokens.specs.declared.member.Parent.TheVariants.{Defined}
use Rattle.px_link_tokens.specs.declared.member.TypeMember.{TypeMember}

-- the name in a column of a row
pub name_at : (v t : View) (table row column at : ℕ) (name : List ℕ) → t ≡ v → at ≡ cell t table row column → name ≡ text_at t at → name ≡ text_at v (cell v table row column)
name_at v t table row column at name same place is = is ∙ ap (text_at t) place ∙ ap (λ w. text_at w (cell w table row column)) same

owned_by : (owner other : ℕ) (name text : List ℕ) → owner ≡ other → name ≡ text → owned_member owner name ≡ owned_member other text
owned_by owner other name text o n = ap (λ k. owned_member k name) o ∙ ap (owned_member other) n

-- a method that gives its name
pub method_by : (v t : View) (opcode : ℕ) (asked : Option ℕ) (row owner : ℕ) (name : List ℕ) (member : Option Member) → asked ≡ Some row → t ≡ v → gives_name t opcode row ≡ true
    → owner ≡ owner_of v methods row → name ≡ text_at v (cell v methods row 3) → member ≡ owned_member owner name → member ≡ method_member v opcode asked
method_by v t opcode asked row owner name member is same gives o n e =
    e ∙ owned_by owner (owner_of v methods row) name _ o n ∙ sym (ap (λ g. if g then owned_member (owner_of v methods row) (text_at v (cell v methods row 3)) else None) (ap (λ w. gives_name w opcode row) (sym same) ∙ gives))
    ∙ sym (ap (method_member v opcode) is)

-- and one that doesn't
pub no_method_by : (v t : View) (opcode : ℕ) (asked : Option ℕ) (row : ℕ) → asked ≡ Some row → t ≡ v → gives_name t opcode row ≡ false → None ≡ method_member v opcode asked
no_method_by v t opcode asked row is same gives =
    sym (ap (λ g. if g then owned_member (owner_of v methods row) (text_at v (cell v methods row 3)) else None) (ap (λ w. gives_name w opcode row) (sym same) ∙ gives))
    ∙ sym (ap (method_member v opcode) is)

owned_there : (v : View) (table member owner : ℕ) (name : List ℕ) → owner ≡ owner_of v table member → IfSome (owned_member owner name) (λ m. IsParent v m.parent)
owned_there v table member owner name is =
    cond_both (owner == 0) None (Some (record { parent = Defined owner; name = name })) (λ o. IfSome o (λ m. IsParent v m.parent)) (λ none. tt)
    (λ some. owner_row v table member owner (sym is) (eqb-false owner 0 some))

said_there : (v : View) (member : Option TypeMember) → IfSome (said member) (λ m. IsParent v m.parent) → IfSome member (λ m. IsParent v m.parent)
said_there v None is = tt
said_there v (Some m) is = is

-- the type that has a member is there
pub parent_there : (v : View) (table row owner : ℕ) (name : List ℕ) (member : Option TypeMember) → owner ≡ owner_of v table row → said member ≡ owned_member owner name → IfSome member (λ m. IsParent v m.parent)
parent_there v table row owner name member is e = said_there v member (subst (λ o. IfSome o (λ m. IsParent v m.parent)) (sym e) (owned_there v table row owner name is))
