-- Types with the methods that take the place of others in them.
use Rattle.std.proofs.Common.{◌≡◌, ◌≢◌, ℕ, zero, suc, ◌+◌, ◌<◌, ◌≤◌, true, List, [], ◌∷◌, Option, Some, length, get_or, slice_set, refl, sym, ap, ◌∙◌, subst, ⊎_elim, arith, rules}
use Rattle.std.specs.Prelude.{◌==◌, slice_get}
use Rattle.std.specs.List.{AllByRecursion}
use Rattle.std.proofs.lemmas.Bool.{cases_eq, eqb-true}
use Rattle.std.proofs.lemmas.Option.{slice_get-get_or, slice_get_within}
use Rattle.px_meta.specs.Chains.{base_in}
use Rattle.px_meta.specs.Faults.{Bases, IsFaultless}
use Rattle.px_meta.specs.Rows.{count_of, type_defs}
use Rattle.px_meta.specs.declared.fault.MetaKind.TheVariants.{CycleOfBases}
use Rattle.px_link_methods.specs.Codes.{Numbering}
use Rattle.px_program.proofs.Types.{each_at}
use Rattle.px_program.specs.Formed.{AreTypes}
use Rattle.px_program.specs.Library.{library_types}
use Rattle.px_program.specs.declared.program.TypeInfo.{TypeInfo}
use Rattle.px_tables.specs.Metadata.{IsSound, View}
use Rattle.px_link_types.specs.Infos.{AreInfos, IsInfoOf}
use Rattle.px_link_types.specs.Keys.{IsKey, IsLeaf}
use Rattle.px_link_types.specs.Making.{AreKnown}
use Rattle.px_link_types.specs.Parts.{IsKept}
use Rattle.px_link_types.specs.declared.key.Key.{Key}
use Rattle.px_link_types.specs.declared.key.Leaf.{Leaf}
use Rattle.px_link_types.specs.declared.key.Leaf.TheVariants.{Number, Library, Defined}
use Rattle.px_link_types.proofs.Ends.{has_end}
use Rattle.px_link_types.proofs.Known.{known_at, known_by, listed_known}
use Rattle.px_link.specs.Overrides.{AreLinkedTypes, AreOverrides, IsLinkedType, with_overrides}
use Rattle.px_link.specs.Parts.{HasTypes}
use Rattle.px_link.proofs.Bases.{bases_below}

-- a key that has a number is there
pub key_there : (v w : View) (keys listed : List Key) (n : ℕ) (d : Key) → w ≡ v → IsSound v → IsKept w keys → listed ≡ keys → n < length listed → IsKey v (get_or listed n d)
key_there v w keys listed n d same sound kept listed_is less =
    (listed_known v keys listed n d (known_by v keys sound (subst (λ x. IsKept x keys) same kept)) listed_is less).there

-- NO OVERRIDES

library_bare : AllByRecursion (λ (t : TypeInfo). t.overrides ≡ []) library_types
library_bare = search rules

bare_by : (v : View) (keys : List Key) (depth : ℕ) (leaf : Leaf) (info : TypeInfo) → IsInfoOf v keys depth leaf info → info.overrides ≡ []
bare_by v keys zero (Number integer) info is = absurd is
bare_by v keys zero (Library number) info is = each_at (λ (t : TypeInfo). t.overrides ≡ []) library_types library_bare number info is
bare_by v keys zero (Defined row) info is = is.no_overrides
bare_by v keys (suc depth) leaf info is = ap (λ (t : TypeInfo). t.overrides) is

none_by : (v : View) (n : Numbering) (lists : List (List ℕ)) → IsFaultless v → (depth : ℕ) (leaf : Leaf) → IsLeaf v leaf → AreOverrides v n lists [] depth leaf []
none_by v n lists faultless zero (Number integer) is = refl
none_by v n lists faultless zero (Library number) is = refl
none_by v n lists faultless zero (Defined row) is =
    let end = has_end (base_in v) (suc (count_of v type_defs)) row (bases_below v) (λ none. faultless CycleOfBases type_defs row (Bases row is none)) in
    record { behind = end.behind; chain = end.chain; are = refl }
none_by v n lists faultless (suc depth) leaf is = refl

as_it_is : (info : TypeInfo) → info.overrides ≡ [] → info ≡ with_overrides info []
as_it_is info none = ap (with_overrides info) none

same_info : (info type : TypeInfo) (o : Option TypeInfo) → o ≡ Some info → o ≡ Some type → type ≡ info
same_info info type o is is_too = cc

bare_linked : (v : View) (n : Numbering) (lists : List (List ℕ)) (infos : List TypeInfo) → IsFaultless v → AreKnown v n.keys → AreInfos v n.keys infos → AreLinkedTypes v n lists [] infos
bare_linked v n lists infos faultless known are = record {
  bare = infos;
  infos = are;
  count = refl;
  each = λ k key info type key_is info_is type_is. record {
    pairs = [];
    overrides = none_by v n lists faultless key.depth key.leaf (known_at v n.keys known k key key_is).there;
    is = same_info info type (slice_get infos k) info_is type_is ∙ as_it_is info (bare_by v n.keys key.depth key.leaf info (are.each k key info key_is info_is));
  };
}

-- where no method is called virtually, no method takes the place of another
pub bare_types : (v w : View) (n : Numbering) (lists : List (List ℕ)) (targets : List ℕ) (infos : List TypeInfo) → w ≡ v → IsSound v → IsFaultless v → IsKept w n.keys → targets ≡ [] → AreInfos w n.keys infos → AreTypes infos
    → HasTypes v n lists targets infos
unfolding bare_linked
bare_types v w n lists targets infos same sound faultless kept none are formed =
    subst (λ ts. HasTypes v n lists ts infos) (sym none)
    (record { linked = bare_linked v n lists infos faultless (known_by v n.keys sound (subst (λ x. IsKept x n.keys) same kept)) (subst (λ x. AreInfos x n.keys infos) same are); formed = formed })

-- ONE TYPE AFTER ANOTHER

-- the first types have their overrides, and the others are as they were
pub record AreSoFar (v : View) (n : Numbering) (lists : List (List ℕ)) (targets : List ℕ) (bare : List TypeInfo) (k : ℕ) (types : List TypeInfo) : Type 0 where
  pub count : length types ≡ length bare
  pub done : (j : ℕ) (key : Key) (info type : TypeInfo) → j < k → slice_get n.keys j ≡ Some key → slice_get bare j ≡ Some info → slice_get types j ≡ Some type → IsLinkedType v n lists targets key info type
  pub left : (j : ℕ) → k ≤ j → slice_get types j ≡ slice_get bare j

pub so_far_begun : (v : View) (n : Numbering) (lists : List (List ℕ)) (targets : List ℕ) (bare : List TypeInfo) → AreSoFar v n lists targets bare 0 bare
so_far_begun v n lists targets bare = record { count = refl; done = λ j key info type less a b c. absurd (omega arith); left = λ j past. refl }

pub no_targets : (targets : List ℕ) → (length targets == 0) ≡ true → targets ≡ []
no_targets [] e = refl
no_targets (target ∷ targets) e = absurd (let none = eqb-true (suc (length targets)) 0 e in omega (arith, none))

pub all_linked : (v w : View) (n : Numbering) (lists : List (List ℕ)) (targets : List ℕ) (bare types : List TypeInfo) (k : ℕ) → w ≡ v → AreSoFar v n lists targets bare k types → AreInfos w n.keys bare → AreTypes bare → length n.keys ≤ k
    → HasTypes v n lists targets types
all_linked v w n lists targets bare types k same so_far are formed all = record {
  linked = record {
    bare = bare;
    infos = subst (λ x. AreInfos x n.keys bare) same are;
    count = so_far.count;
    each = λ j key info type key_is info_is type_is. so_far.done j key info type (let less = slice_get_within n.keys j key key_is in omega (arith, less, all)) key_is info_is type_is;
  };
  formed = formed;
}

set_same : (types : List TypeInfo) (i : ℕ) (type : TypeInfo) → i < length types → slice_get (slice_set types i type) i ≡ Some type
set_same [] i type less = absurd (omega arith)
set_same (t ∷ types) zero type less = refl
set_same (t ∷ types) (suc i) type less = set_same types i type (omega arith)

set_other : (types : List TypeInfo) (i j : ℕ) (type : TypeInfo) → j ≢ i → slice_get (slice_set types i type) j ≡ slice_get types j
set_other [] i j type other = refl
set_other (t ∷ types) zero zero type other = absurd (other refl)
set_other (t ∷ types) zero (suc j) type other = refl
set_other (t ∷ types) (suc i) zero type other = refl
set_other (t ∷ types) (suc i) (suc j) type other = set_other types i j type (λ e. other (ap suc e))

set_length : (types : List TypeInfo) (i : ℕ) (type : TypeInfo) → length (slice_set types i type) ≡ length types
set_length [] i type = refl
set_length (t ∷ types) zero type = refl
set_length (t ∷ types) (suc i) type = ap suc (set_length types i type)

same_key : (o : Option Key) (a b : Key) → o ≡ Some a → o ≡ Some b → a ≡ b
same_key o a b is is_too = cc

linked_here : (v : View) (n : Numbering) (lists : List (List ℕ)) (targets : List ℕ) (bare types : List TypeInfo) (k : ℕ) (key other : Key) (old info type : TypeInfo) (pairs : List (ℕ × ℕ)) → slice_get types k ≡ slice_get bare k → k < length types
    → slice_get n.keys k ≡ Some key → slice_get n.keys k ≡ Some other → old ≡ get_or types k old → AreOverrides v n lists targets key.depth key.leaf pairs → slice_get bare k ≡ Some info → slice_get (slice_set types k (with_overrides old pairs)) k ≡ Some type
    → IsLinkedType v n lists targets other info type
linked_here v n lists targets bare types k key other old info type pairs left less key_is other_is old_is overrides info_is type_is =
    let info_too : slice_get bare k ≡ Some old = sym left ∙ slice_get-get_or types k old less ∙ ap (λ t. Some t) (sym old_is) in
    record {
      pairs = pairs;
      overrides = subst (λ (x : Key). AreOverrides v n lists targets x.depth x.leaf pairs) (same_key (slice_get n.keys k) key other key_is other_is) overrides;
      is = same_info (with_overrides old pairs) type (slice_get (slice_set types k (with_overrides old pairs)) k) (set_same types k (with_overrides old pairs) less) type_is
          ∙ ap (λ t. with_overrides t pairs) (same_info info old (slice_get bare k) info_is info_too);
    }

pub so_far_on : (v : View) (n : Numbering) (lists : List (List ℕ)) (targets : List ℕ) (bare types : List TypeInfo) (k : ℕ) (key : Key) (old : TypeInfo) (pairs : List (ℕ × ℕ)) → AreSoFar v n lists targets bare k types → k < length types → slice_get n.keys k ≡ Some key
    → old ≡ get_or types k old → AreOverrides v n lists targets key.depth key.leaf pairs → AreSoFar v n lists targets bare (k + 1) (slice_set types k (with_overrides old pairs))
so_far_on v n lists targets bare types k key old pairs so_far less key_is old_is overrides =
    let type_of = with_overrides old pairs in
    record {
      count = set_length types k type_of ∙ so_far.count;
      done = λ j other info type before other_is info_is type_is.
          ⊎_elim
          (λ same. linked_here v n lists targets bare types k key other old info type pairs (so_far.left k (omega arith)) less key_is (subst (λ i. slice_get n.keys i ≡ Some other) same other_is) old_is overrides
          (subst (λ i. slice_get bare i ≡ Some info) same info_is) (subst (λ i. slice_get (slice_set types k type_of) i ≡ Some type) same type_is))
          (λ apart. so_far.done j other info type (omega (arith, before, apart)) other_is info_is (sym (set_other types k j type_of apart) ∙ type_is))
          (cases_eq j k);
      left = λ j past. set_other types k j type_of (λ e. omega (arith, past, e)) ∙ so_far.left j (omega (arith, past));
    }
