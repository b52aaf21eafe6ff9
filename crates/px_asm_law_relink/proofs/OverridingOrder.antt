-- Methods come before each other in the other assembly as they did in the first.
use Rattle.std.proofs.Common.{◌≡◌, ℕ, ◌<◌, List, [], sym, ap, ◌∙◌, subst}
use Rattle.std.specs.Cmp.Lexicographic.{slice_cmp}
use Rattle.std.specs.Ordering.{MatchOrdering, nat_cmp}
use Rattle.std.specs.declared.cmp.Ordering.{Ordering}
use Rattle.std.specs.declared.cmp.Ordering.TheVariants.{Less, Equal, Greater}
use Rattle.std.proofs.lemmas.Option.{same_Some}
use Rattle.px_link.proofs.LinkedProgram.{owner_defined}
use Rattle.px_link.proofs.OneName.{one_name}
use Rattle.px_meta.specs.Chains.{Ends}
use Rattle.px_meta.specs.FullNames.{IsTypeName}
use Rattle.px_meta.specs.Members.{owner_of}
use Rattle.px_meta.specs.Rows.{methods}
use Rattle.px_program.specs.declared.program.TypeInfo.{TypeInfo}
use Rattle.px_link_reach.specs.Overriders.{IsBefore}
use Rattle.px_asm_law_relink.specs.Again.{Again, method_for, type_for}
use Rattle.px_asm_law_relink.proofs.Standing.{IsReachedRow, method_stands, methods_rise}
use Rattle.px_asm_law_relink.proofs.TypesAgain.{type_stands}

module _ (a : Again) where
  -- the owner of a method has the name that it had
  pub same_name : (row : ℕ) (name : List ℕ) → IsReachedRow a row → IsTypeName a.first (owner_of a.first methods row) name → IsTypeName a.v (owner_of a.v methods (method_for a row)) name
  same_name row name reached is =
      let stands = method_stands a row reached in
      let type = owner_of a.first methods row in
      let made = type_stands a type stands.owner_met in
      let named = owner_defined a.first a.from a.name a.p a.reads row reached in
      let same : made.info ≡ named.type = same_Some made.info named.type (sym made.at ∙ named.at) in
      let level : made.info.name ≡ name = ap (λ (t : TypeInfo). t.name) same ∙ one_name a.first type named.type.name name named.name is in
      let has : IsTypeName a.v (type_for a type) name = record { outers = []; chain = Ends (type_for a type) made.is.not_nested; is = sym (made.is.name ∙ level) } in
      subst (λ r. IsTypeName a.v r name) (sym stands.owner) has

  as_before : (order : Ordering) (P Q : Type 0) → (P → Q) → MatchOrdering order (Unit {0}) P ⊥ → MatchOrdering order (Unit {0}) Q ⊥
  as_before Less P Q goes before = tt
  as_before Equal P Q goes before = goes before
  as_before Greater P Q goes before = before

  pub before_again : (row other : ℕ) → IsReachedRow a row → IsReachedRow a other → IsBefore a.first row other → IsBefore a.v (method_for a row) (method_for a other)
  before_again row other reached other_reached before = record {
    type = before.type;
    other_type = before.other_type;
    type_is = same_name row before.type reached before.type_is;
    other_type_is = same_name other before.other_type other_reached before.other_type_is;
    before = as_before (slice_cmp nat_cmp before.type before.other_type) (row < other) (method_for a row < method_for a other) (methods_rise a row other reached other_reached) before.before;
  }
