-- The full names of methods, read again.
use Rattle.std.proofs.Common.{◌≡◌, ℕ, List, ◌++◌, Some, sym, ap, ◌∙◌, subst, arith}
use Rattle.std.specs.Prelude.{codes, slice_get}
use Rattle.std.proofs.lemmas.List.{append_cancel_left}
use Rattle.std.proofs.lemmas.Option.{same_Some}
use Rattle.px_link.proofs.LinkedProgram.{owner_defined}
use Rattle.px_link.specs.Link.{maker_of, rows_of}
use Rattle.px_link.specs.Names.{IsNamed, IsOnly}
use Rattle.px_link.proofs.OneName.{one_name}
use Rattle.px_meta.specs.FullNames.{IsTypeName}
use Rattle.px_meta.specs.Members.{owner_of}
use Rattle.px_meta.specs.Rows.{cell, methods, text_at}
use Rattle.px_link_methods.specs.Codes.{place_of}
use Rattle.px_program.specs.declared.program.Method.{Method}
use Rattle.px_program.specs.declared.program.TypeInfo.{TypeInfo}
use Rattle.px_link_reach.proofs.Reaching.{first_start, rows_apart, starts_met}
use Rattle.px_tables.specs.Metadata.{View}
use Rattle.px_asm_law_relink.specs.Again.{Again, method_for}
use Rattle.px_asm_law_relink.specs.Linked.{entry_name, name_in}
use Rattle.px_asm_law_relink.proofs.MethodStands.{owner_name_again}
use Rattle.px_asm_law_relink.proofs.ReachedMaps.{place_at}
use Rattle.px_asm_law_relink.proofs.Standing.{HasMethodFor, IsReachedRow, all_stand, method_stands}

-- THE NAMES OF A METHOD

-- what the name of a method is made of, in the one assembly and in the other
pub record HasNames (a : Again) (row : ℕ) (method : Method) : Type 0 where
  pub type : List ℕ
  pub first_type : IsTypeName a.first (owner_of a.first methods row) type
  pub type_is : IsTypeName a.v (owner_of a.v methods (method_for a row)) type
  pub text : text_at a.v (cell a.v methods (method_for a row) 3) ≡ text_at a.first (cell a.first methods row 3)
  pub name : method.name ≡ type ++ codes "::" ++ text_at a.first (cell a.first methods row 3)

pub names_again : (a : Again) (row : ℕ) → IsReachedRow a row → (has : HasMethodFor a row) → HasNames a row has.method
names_again a row reached has =
    let defined = owner_defined a.first a.from a.name a.p a.reads row reached in
    let owner = has.is.name in
    let first = has.is_method.name in
    let at : Some owner.owner ≡ Some defined.type = sym owner.at ∙ ap (slice_get a.p.types) has.is_method.owner ∙ defined.at in
    let same : owner.owner ≡ defined.type = same_Some owner.owner defined.type at in
    let name : first.type ≡ owner.owner.name =
    one_name a.first (owner_of a.first methods row) first.type defined.type.name first.type_is defined.name ∙ ap (λ (t : TypeInfo). t.name) (sym same) in
    let of_first : has.method.name ≡ owner.owner.name ++ codes "::" ++ text_at a.first (cell a.first methods row 3) = first.is ∙ ap (λ n. n ++ codes "::" ++ text_at a.first (cell a.first methods row 3)) name in
    record {
      type = owner.owner.name;
      first_type = subst (IsTypeName a.first (owner_of a.first methods row)) name first.type_is;
      type_is = owner_name_again a row has;
      text = append_cancel_left (owner.owner.name ++ codes "::") (text_at a.v (cell a.v methods (method_for a row) 3)) (text_at a.first (cell a.first methods row 3)) (sym owner.is ∙ of_first);
      name = of_first;
    }

-- THE ENTRY

named_again : (a : Again) (row : ℕ) → (has : HasMethodFor a row) → HasNames a row has.method → IsNamed a.v has.method.name (method_for a row)
named_again a row has names = record {
  row = has.there;
  owned = λ none. let owner = has.owner in omega (arith, owner, none);
  type = names.type;
  type_is = names.type_is;
  is = names.name ∙ ap (λ text. names.type ++ codes "::" ++ text) (sym names.text);
}

named_first : (a : Again) (row : ℕ) → (has : HasMethodFor a row) → HasNames a row has.method → IsNamed a.first has.method.name row
named_first a row has names = record { row = has.owned.row; owned = has.owned.owned; type = names.type; type_is = names.first_type; is = names.name }

-- a row has one name
same_name : (v : View) (row : ℕ) (one other : List ℕ) → IsNamed v one row → IsNamed v other row → one ≡ other
same_name v row one other is also =
    is.is ∙ ap (λ type. type ++ codes "::" ++ text_at v (cell v methods row 3)) (one_name v (owner_of v methods row) is.type also.type is.type_is also.type_is) ∙ sym also.is

-- the entry has the first number
pub entry_reached : (a : Again) → IsReachedRow a a.reads.method
entry_reached a = (starts_met a.reads.is_reached).0

pub entry_name_is : (a : Again) → (has : HasMethodFor a a.reads.method) → entry_name a.p ≡ has.method.name
entry_name_is a has =
    let rows = a.reads.reached.rows in
    let first = first_start a.reads.method (rows_of (maker_of a.first a.reads.method a.reads.sig)) a.reads.is_reached in
    let place : place_of rows a.reads.method ≡ 0 = place_at rows 0 a.reads.method (rows_apart a.reads.is_reached) first in
    ap name_in (ap (slice_get a.p.methods) (a.reads.entry_is ∙ sym place) ∙ has.at)

only_again : (a : Again) (has : HasMethodFor a a.reads.method) → HasNames a a.reads.method has.method → (other : ℕ) → IsNamed a.v has.method.name other → other ≡ method_for a a.reads.method
only_again a has names other named =
    let stands = all_stand a other named.row in
    let its = method_stands a stands.other stands.reached in
    let its_names = names_again a stands.other stands.reached its in
    let same : its.method.name ≡ has.method.name =
    same_name a.v (method_for a stands.other) its.method.name has.method.name (named_again a stands.other its its_names) (subst (IsNamed a.v has.method.name) stands.is named) in
    let entry = a.reads.entry.found.only in
    let entry_is : its.method.name ≡ a.name = same ∙ same_name a.first a.reads.method has.method.name a.name (named_first a a.reads.method has names) entry.named in
    let one : stands.other ≡ a.reads.method = entry.only stands.other (subst (λ name. IsNamed a.first name stands.other) entry_is (named_first a stands.other its its_names)) in
    stands.is ∙ ap (method_for a) one

pub only_entry : (a : Again) → (has : HasMethodFor a a.reads.method) → IsOnly a.v (entry_name a.p) (method_for a a.reads.method)
only_entry a has =
    let names = names_again a a.reads.method (entry_reached a) has in
    subst (λ name. IsOnly a.v name (method_for a a.reads.method)) (sym (entry_name_is a has))
    (record { named = named_again a a.reads.method has names; only = only_again a has names })
