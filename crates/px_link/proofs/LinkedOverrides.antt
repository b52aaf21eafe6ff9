-- Each method that takes the place of another in a type of a linked program may.
use Rattle.std.proofs.Common.{◌≡◌, inl, inr, ℕ, zero, suc, ◌+◌, ◌-◌, true, List, [], ◌∷◌, Option, Some, None, refl, sym, ap, ◌∙◌, subst, arith, eqb-true, eq-eqb}
use Rattle.std.specs.Prelude.{◌==◌, slice_get}
use Rattle.std.specs.List.{AllByRecursion}
use Rattle.std.proofs.lemmas.Bool.{or_left, or_right}
use Rattle.std.proofs.lemmas.Option.{same_Some, slice_get_within}
use Rattle.px_meta.specs.Chains.{IsChain, base_in as base_row}
use Rattle.px_meta.specs.Members.{owner_of}
use Rattle.px_meta.specs.Overriding.{Behind, Derives, Directly, Here, IsNearest, MayOverride, Overrides as OverridesInTables, Through}
use Rattle.px_meta.specs.Rows.{IsRow, is_in, methods}
use Rattle.px_link_methods.specs.Codes.{owner_number, place_of}
use Rattle.px_link_methods.specs.Methods.{return_place, sig_at}
use Rattle.px_pe.specs.Image as pe
use Rattle.px_program.specs.Formed.{DerivesFrom, IsKindOf, Overrides}
use Rattle.px_program.specs.declared.program.Program.{Program}
use Rattle.px_program.specs.declared.program.TypeInfo.{TypeInfo}
use Rattle.px_link_reach.specs.Met.{IsOwned, with_overriders}
use Rattle.px_link_reach.specs.Overriders.{AreLists, AreOverriders, Directly as Once, OverridesThrough, Through as On, overriders_in}
use Rattle.px_sig.specs.declared.sig.MethodSig.{MethodSig}
use Rattle.px_tables.specs.Metadata.{View}
use Rattle.px_link_types.specs.declared.key.Key.{Key}
use Rattle.px_link_types.specs.declared.key.Leaf.{Leaf}
use Rattle.px_link_types.specs.declared.key.Leaf.TheVariants.{Number, Library, Defined}
use Rattle.px_link_types.specs.Keys.{alone}
use Rattle.px_link_types.specs.Numbers.{has_key}
use Rattle.px_link_types.proofs.Formed.{at_place}
use Rattle.px_link_types.proofs.Known.{has_at}
use Rattle.px_link.specs.Link.{Reads}
use Rattle.px_link.specs.Overrides.{AreOverrides, HasOverrides, IsLinkedType, first_of, in_order, nearest, or_later, pair_of}
use Rattle.px_link.proofs.InOrder.{named_in_order}
use Rattle.px_link.proofs.LinkedBases.{all_apart, derives_from, kind_of, number_at}
use Rattle.px_link.proofs.LinkedEntry.{params_are}
use Rattle.px_link.proofs.LinkedOperands.{HasLinked, is_instance, same_sig}
use Rattle.px_link.proofs.LinkedProgram.{has_numbered, numbering_of, owner_numbered}
use Rattle.px_link_methods.proofs.RowPlaces.{at_index, each_led_to, found_in, found_passes, one_of_each}

-- OVERRIDING

-- two instance methods of one signature, the owner of the one derived from that of the other
record AreOfOneSig (v : View) (method other : ℕ) : Type 0 where
  pub sig : MethodSig
  pub has_sig : sig_at v method ≡ Some sig
  pub other_has_sig : sig_at v other ≡ Some sig
  pub instance : sig.has_this ≡ true
  pub derives : Derives v (owner_of v methods method) (owner_of v methods other)

by_may : (v : View) (method other : ℕ) → MayOverride v method other → AreOfOneSig v method other
by_may v method other may = record { sig = may.sig; has_sig = may.has_sig; other_has_sig = may.other_has_sig; instance = may.instance; derives = may.derives }

by_nearest : (v : View) (method type other : ℕ) → IsNearest v method type other → AreOfOneSig v method other
by_nearest v method type other (Here _ base _ is first) = by_may v method other first.namesake.may
by_nearest v method type other (Behind _ base _ is none behind) = by_nearest v method base other behind

by_one : (v : View) (method other : ℕ) → OverridesInTables v method other → AreOfOneSig v method other
by_one v method other (inl said) = by_may v method other said.said.may
by_one v method other (inr named) = by_nearest v method (owner_of v methods method) other named.nearest

derives_on : (v : View) (type between base : ℕ) → Derives v type between → Derives v between base → Derives v type base
derives_on v type between base (Directly _ _ is) behind = Through type between base is behind
derives_on v type between base (Through _ next _ is rest) behind = Through type next base is (derives_on v next between base rest behind)

by_two : (v : View) (method between other : ℕ) → AreOfOneSig v method between → AreOfOneSig v between other → AreOfOneSig v method other
by_two v method between other first second =
    let same : second.sig ≡ first.sig = same_Some second.sig first.sig (sym second.has_sig ∙ first.other_has_sig) in
    record {
      sig = first.sig;
      has_sig = first.has_sig;
      other_has_sig = second.other_has_sig ∙ ap (λ s. Some s) same;
      instance = first.instance;
      derives = derives_on v (owner_of v methods method) (owner_of v methods between) (owner_of v methods other) first.derives second.derives;
    }

-- so are a method and another that it overrides through any more
of_one_sig : (v : View) (method other : ℕ) → OverridesThrough v method other → AreOfOneSig v method other
of_one_sig v method other (Once _ _ overrides) = by_one v method other overrides
of_one_sig v method other (On _ between _ overrides rest) = by_two v method between other (by_one v method between overrides) (of_one_sig v between other rest)

-- THE NEAREST

-- one of some methods, which one of some types has
record IsOneOf (v : View) (types overriders : List ℕ) (method : ℕ) : Type 0 where
  pub owned : is_in types (owner_of v methods method) ≡ true
  pub among : is_in overriders method ≡ true

first_or_later : (v : View) (type : ℕ) (types overriders : List ℕ) (method : ℕ) (first : Option ℕ) → first_of v type overriders ≡ first → or_later first (nearest v types overriders) ≡ Some method
    → (nearest v types overriders ≡ Some method → IsOneOf v types overriders method) → IsOneOf v (type ∷ types) overriders method
first_or_later v type types overriders method None none is later =
    let rest = later is in
    record { owned = or_right (type == owner_of v methods method) (is_in types (owner_of v methods method)) rest.owned; among = rest.among }
first_or_later v type types overriders method (Some first) found is later =
    let passes = found ∙ is in
    let owner = owner_of v methods method in
    let same : owner ≡ type = eqb-true owner type (found_passes (λ m. owner_of v methods m == type) overriders method passes) in
    record { owned = or_left (type == owner) (is_in types owner) (eq-eqb type owner (sym same)); among = found_in (λ m. owner_of v methods m == type) overriders method passes }

nearest_is : (v : View) (types overriders : List ℕ) (method : ℕ) → nearest v types overriders ≡ Some method → IsOneOf v types overriders method
nearest_is v [] overriders method is = absurd (cc)
nearest_is v (type ∷ types) overriders method is = first_or_later v type types overriders method (first_of v type overriders) refl is (nearest_is v types overriders method)

-- what is among the overriders of a row overrides it
overriders_are : (v : View) (lists : List (List ℕ)) (target : ℕ) → AreLists v lists → IsRow v methods target → (method : ℕ) → is_in (overriders_in lists target) method ≡ true → OverridesThrough v method target
overriders_are v lists target are row method there =
    let stands = at_index lists (target - 1) method there in
    let same : (target - 1) + 1 ≡ target = omega (arith, row.some) in
    let list : AreOverriders v target (overriders_in lists target) = subst (λ m. AreOverriders v m (overriders_in lists target)) same (are.each (target - 1) (overriders_in lists target) stands) in
    one_of_each (λ other. OverridesThrough v other target) (overriders_in lists target) method list.each there

-- PAIRS

-- each method that a `callvirt` names is among the rows, and so is each that overrides it
abbrev pub HaveOverriders : List (List ℕ) → List ℕ → List ℕ → Type 0
HaveOverriders lists rows targets = (target : ℕ) → is_in targets target ≡ true → AllByRecursion (λ row. is_in rows row ≡ true) (with_overriders lists target)

module _ (v : View) (image : pe.View) (name : List ℕ) (program : Program) (r : Reads v image name program) (owned : AllByRecursion (IsOwned v) r.reached.rows) (met : HaveOverriders r.lists r.reached.rows r.reached.virtual_targets) where
  -- those methods that a `callvirt` names, by their numbers
  abbrev named_rows : List ℕ
  named_rows = in_order r.reached.rows r.reached.virtual_targets

  linked_at : (row : ℕ) → is_in r.reached.rows row ≡ true → HasLinked v image (numbering_of r) program row
  linked_at row there = (has_numbered v image name program r).methods row there

  -- where one overrides another, it takes its place in a type that has it
  may_replace : (type target method : ℕ) → is_in r.reached.rows target ≡ true → is_in r.reached.rows method ≡ true → IsKindOf program.types type (owner_number v r.keys (owner_of v methods method)) → AreOfOneSig v method target
      → Overrides program type (place_of r.reached.rows target, place_of r.reached.rows method)
  may_replace type target method target_there method_there kind both =
      let n = numbering_of r in
      let first = linked_at target target_there in
      let second = linked_at method method_there in
      let this = both.instance in
      let owner = owner_number v r.keys (owner_of v methods method) in
      record {
        first = first.method;
        second = second.method;
        first_at = first.at;
        second_at = second.at;
        instance = is_instance v n method second.whole second.method both.sig second.is both.has_sig this;
        returns =
            second.is.ret ∙ ap (λ (s : MethodSig). return_place v r.keys s.ret) (same_sig v n method second.whole second.method both.sig second.is both.has_sig ∙ sym (same_sig v n target first.whole first.method both.sig first.is both.other_has_sig))
            ∙ sym first.is.ret;
        params =
            params_are v n method second.whole second.method both.sig second.is both.has_sig ∙ sym (params_are v n target first.whole first.method both.sig first.is both.other_has_sig);
        owned = subst (IsKindOf program.types type) (sym second.is.owner) kind;
        derives =
            subst (λ k. DerivesFrom program.types k first.method.owner) (sym second.is.owner)
            (subst (DerivesFrom program.types owner) (sym first.is.owner)
            (derives_from v _ r.keys program.types r.numbers (has_numbered v image name program r).types (owner_of v methods method) (owner_of v methods target) (owner_numbered v image name program r method method_there) both.derives));
      }

  one_pair : (row : ℕ) (behind : List ℕ) → has_key r.keys (alone (Defined row)) ≡ true → IsChain (base_row v) row behind → (target : ℕ) → is_in named_rows target ≡ true
      → (found : Option ℕ) → nearest v (row ∷ behind) (overriders_in r.lists target) ≡ found → AllByRecursion (Overrides program (owner_number v r.keys row)) (pair_of (numbering_of r) target found)
  one_pair row behind has chain target named None is = tt
  one_pair row behind has chain target named (Some method) is =
      let rows = r.reached.rows in
      let In : ℕ → Type 0 = λ other. is_in rows other ≡ true in
      let one = nearest_is v (row ∷ behind) (overriders_in r.lists target) method is in
      let there = met target (named_in_order rows r.reached.virtual_targets target named) in
      let is_row = (one_of_each (IsOwned v) rows target owned there.0).row in
      let kind = kind_of v _ r.keys program.types r.numbers (has_numbered v image name program r).types row behind has chain (owner_of v methods method) one.owned in
      let both = of_one_sig v method target (overriders_are v r.lists target r.overriding is_row method one.among) in
      (may_replace (owner_number v r.keys row) target method there.0 (one_of_each In (overriders_in r.lists target) method there.1 one.among) kind both, tt)

  all_pairs : (row : ℕ) (pairs : List (ℕ × ℕ)) → has_key r.keys (alone (Defined row)) ≡ true → HasOverrides v (numbering_of r) r.lists named_rows row pairs → AllByRecursion (Overrides program (owner_number v r.keys row)) pairs
  all_pairs row pairs has is =
      let P = Overrides program (owner_number v r.keys row) in
      let chain = row ∷ is.behind in
      let pairs_for : ℕ → List (ℕ × ℕ) = λ target. pair_of (numbering_of r) target (nearest v chain (overriders_in r.lists target)) in
      subst (AllByRecursion P) (sym is.are)
      (each_led_to P pairs_for named_rows (λ target named. one_pair row is.behind has is.chain target named (nearest v chain (overriders_in r.lists target)) refl))

  of_key : (type depth : ℕ) (leaf : Leaf) (pairs : List (ℕ × ℕ)) → slice_get r.keys type ≡ Some (record { depth = depth; leaf = leaf }) → AreOverrides v (numbering_of r) r.lists named_rows depth leaf pairs
      → AllByRecursion (Overrides program type) pairs
  of_key type zero (Number integer) pairs at is = subst (AllByRecursion (Overrides program type)) (sym is) tt
  of_key type zero (Library number) pairs at is = subst (AllByRecursion (Overrides program type)) (sym is) tt
  of_key type zero (Defined row) pairs at is =
      subst (λ k. AllByRecursion (Overrides program k) pairs) (number_at r.keys type (alone (Defined row)) (all_apart r.numbers) at) (all_pairs row pairs (has_at r.keys type (alone (Defined row)) at) is)
  of_key type (suc depth) leaf pairs at is = subst (AllByRecursion (Overrides program type)) (sym is) tt

  of_linked : (type : ℕ) (key : Key) (bare info : TypeInfo) → slice_get r.keys type ≡ Some key → IsLinkedType v (numbering_of r) r.lists named_rows key bare info → AllByRecursion (Overrides program type) info.overrides
  of_linked type key bare info at is =
      let same : info.overrides ≡ is.pairs = ap (λ (t : TypeInfo). t.overrides) is.is in
      subst (AllByRecursion (Overrides program type)) (sym same) (of_key type key.depth key.leaf is.pairs at is.overrides)

  pub overrides_formed : (type : ℕ) (info : TypeInfo) → slice_get program.types type ≡ Some info → AllByRecursion (Overrides program type) info.overrides
  overrides_formed type info at =
      let within = slice_get_within program.types type info at in
      let bare = at_place r.types.bare type (omega (arith, r.types.count, within)) in
      let key = at_place r.keys type (omega (arith, r.types.count, r.types.infos.count, within)) in
      of_linked type key.0 bare.0 info key.1 (r.types.each type key.0 bare.0 info key.1 bare.1 at)
