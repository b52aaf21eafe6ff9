-- What a program says of its types is one.
use Rattle.std.proofs.Common.{◌≡◌, ℕ, zero, suc, ◌<◌, List, ◌∷◌, length, get_or, sym, ap, ◌∙◌, arith}
use Rattle.std.specs.Prelude.{slice_get}
use Rattle.std.proofs.lemmas.Option.{same_Some, slice_get-get_or, slice_get_within}
use Rattle.px_meta.specs.Chains.{base_in}
use Rattle.px_program.specs.declared.program.TypeInfo.{TypeInfo}
use Rattle.px_link_methods.specs.Codes.{Numbering}
use Rattle.px_link_types.specs.Infos.{AreInfos, IsDefined, IsInfoOf}
use Rattle.px_link_types.specs.Keys.{object}
use Rattle.px_link_types.specs.declared.key.Key.{Key}
use Rattle.px_link_types.specs.declared.key.Leaf.{Leaf}
use Rattle.px_link_types.specs.declared.key.Leaf.TheVariants.{Number, Library, Defined}
use Rattle.px_tables.specs.Metadata.{View}
use Rattle.px_link.specs.Overrides.{AreLinkedTypes, AreOverrides, IsLinkedType, pairs_of, with_overrides}
use Rattle.px_link.proofs.OneLists.{same_by_items}
use Rattle.px_link.proofs.OneName.{one_chain, one_name}

-- BEFORE THEIR OVERRIDES

same_info : (one other : TypeInfo) → one.name ≡ other.name → one.base ≡ other.base → one.element ≡ other.element → one.fields ≡ other.fields → one.statics ≡ other.statics → one.overrides ≡ other.overrides → one ≡ other
same_info one other name base element fields statics overrides = λ i. record { name = name i; base = base i; element = element i; fields = fields i; statics = statics i; overrides = overrides i }

one_defined : (v : View) (keys : List Key) (row : ℕ) (one other : TypeInfo) → IsDefined v keys row one → IsDefined v keys row other → one ≡ other
one_defined v keys row one other is also =
    same_info one other (one_name v row one.name other.name is.name also.name) (is.base ∙ sym also.base) (is.element ∙ sym also.element) (is.fields ∙ sym also.fields) (is.statics ∙ sym also.statics) (is.no_overrides ∙ sym also.no_overrides)

pub one_info : (v : View) (keys : List Key) (depth : ℕ) (leaf : Leaf) (one other : TypeInfo) → IsInfoOf v keys depth leaf one → IsInfoOf v keys depth leaf other → one ≡ other
one_info v keys zero (Number integer) one other is also = absurd is
one_info v keys zero (Library number) one other is also = same_Some one other (sym is ∙ also)
one_info v keys zero (Defined row) one other is also = one_defined v keys row one other is also
one_info v keys (suc depth) leaf one other is also = is ∙ sym also

pub one_infos : (v : View) (keys : List Key) (some others : List TypeInfo) → AreInfos v keys some → AreInfos v keys others → some ≡ others
one_infos v keys some others are others_are =
    same_by_items some others (are.count ∙ sym others_are.count)
    (λ k one other at other_at.
    let within : k < length keys = let few = slice_get_within some k one at in omega (arith, are.count) in
    let key = get_or keys k object in
    let key_at = slice_get-get_or keys k object within in
    one_info v keys key.depth key.leaf one other (are.each k key one key_at at) (others_are.each k key other key_at other_at))

-- WITH THEIR OVERRIDES

one_overrides : (v : View) (n : Numbering) (lists : List (List ℕ)) (targets : List ℕ) (depth : ℕ) (leaf : Leaf) (pairs others : List (ℕ × ℕ))
    → AreOverrides v n lists targets depth leaf pairs → AreOverrides v n lists targets depth leaf others → pairs ≡ others
one_overrides v n lists targets zero (Number integer) pairs others are also = are ∙ sym also
one_overrides v n lists targets zero (Library number) pairs others are also = are ∙ sym also
one_overrides v n lists targets zero (Defined type) pairs others are also =
    are.are ∙ ap (λ behind. pairs_of v n lists targets (type ∷ behind)) (one_chain (base_in v) type are.behind also.behind are.chain also.chain) ∙ sym also.are
one_overrides v n lists targets (suc depth) leaf pairs others are also = are ∙ sym also

pub one_linked_type : (v : View) (n : Numbering) (lists : List (List ℕ)) (targets : List ℕ) (key : Key) (info one other : TypeInfo)
    → IsLinkedType v n lists targets key info one → IsLinkedType v n lists targets key info other → one ≡ other
one_linked_type v n lists targets key info one other is also =
    is.is ∙ ap (with_overrides info) (one_overrides v n lists targets key.depth key.leaf is.pairs also.pairs is.overrides also.overrides) ∙ sym also.is

pub one_linked_types : (v : View) (n : Numbering) (lists : List (List ℕ)) (targets : List ℕ) (types others : List TypeInfo)
    → AreLinkedTypes v n lists targets types → AreLinkedTypes v n lists targets others → types ≡ others
one_linked_types v n lists targets types others are also =
    let bare : are.bare ≡ also.bare = one_infos v n.keys are.bare also.bare are.infos also.infos in
    same_by_items types others (are.count ∙ ap length bare ∙ sym also.count)
    (λ k one other at other_at.
    let info_within : k < length are.bare = let few = slice_get_within types k one at in omega (arith, are.count) in
    let within : k < length n.keys = omega (arith, are.infos.count) in
    let key = get_or n.keys k object in
    let info = get_or are.bare k one in
    let key_at = slice_get-get_or n.keys k object within in
    let info_at = slice_get-get_or are.bare k one info_within in
    one_linked_type v n lists targets key info one other (are.each k key info one key_at info_at at) (also.each k key info other key_at (ap (λ l. slice_get l k) (sym bare) ∙ info_at) other_at))
