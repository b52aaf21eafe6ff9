-- An assembly that describes a program is linked to it.
use Rattle.std.proofs.Common.{◌≡◌, ℕ, ◌+◌, Bool, true, List, [], ◌∷◌, map, Option, Some, None, refl, sym, ap, ◌∙◌, subst}
use Rattle.std.specs.Prelude.{◌==◌, if◌then◌else◌, slice_get}
use Rattle.std.specs.List.{AllByRecursion}
use Rattle.std.specs.Option.{option_map}
use Rattle.std.proofs.lemmas.Option.{same_Some, slice_get-map}
use Rattle.px_link_methods.proofs.RowPlaces.{each_in}
use Rattle.px_link.specs.Link.{Reads, maker_number, maker_of, rows_of, starts_of}
use Rattle.px_link.specs.Overrides.{AreLinkedTypes, IsLinkedType}
use Rattle.px_meta.specs.Rows.{is_in}
use Rattle.px_link_methods.specs.Codes.{place_of}
use Rattle.px_program.specs.declared.program.TypeInfo.{TypeInfo}
use Rattle.px_link_reach.proofs.Reaching.{starts_met}
use Rattle.px_link_reach.specs.Finding.{AreIn}
use Rattle.px_link_reach.specs.Met.{IsReached}
use Rattle.px_link_types.proofs.Known.{has_at}
use Rattle.px_link_types.specs.Numbers.{Numbers, library_keys}
use Rattle.px_link_types.specs.declared.key.Key.{Key}
use Rattle.px_asm_law_relink.specs.Again.{Again, key_for, keys_for, method_for, methods_for, numbers_for}
use Rattle.px_asm_law_relink.specs.Laws.{DescribedIsLinked}
use Rattle.px_asm_law_relink.specs.Linked.{entry_name}
use Rattle.px_asm_law_relink.proofs.EntryAgain.{HasEntry, entry_again}
use Rattle.px_asm_law_relink.proofs.MethodsAgain.{met_again, methods_again, reached_again, reached_for}
use Rattle.px_asm_law_relink.proofs.OverridingAgain.{are_lists, layout_again, lists_for, overrides_again, targets_again, targets_of}
use Rattle.px_asm_law_relink.proofs.ReachedMaps.{test_by}
use Rattle.px_asm_law_relink.proofs.Standing.{IsReachedRow}
use Rattle.px_asm_law_relink.proofs.TypesAgain.{infos_again, numbers_again}
use Rattle.px_asm_law_relink.proofs.Writing.{linked_is_writable}

-- WHAT A PROGRAM STARTS WITH

rows-map : (f : ℕ → ℕ) (o : Option ℕ) → rows_of (option_map f o) ≡ map f (rows_of o)
rows-map f None = refl
rows-map f (Some row) = refl

starts_again : (a : Again) → (entry : HasEntry a) → starts_of a.v (method_for a a.reads.method) entry.sig ≡ methods_for a (starts_of a.first a.reads.method a.reads.sig)
starts_again a entry =
    ap (λ o. method_for a a.reads.method ∷ rows_of o) entry.maker ∙ ap (λ l. method_for a a.reads.method ∷ l) (rows-map (method_for a) (maker_of a.first a.reads.method a.reads.sig))

is_reached : (a : Again) → (entry : HasEntry a) → IsReached a.v a.image (lists_for a) (starts_of a.v (method_for a a.reads.method) entry.sig) (reached_for a)
is_reached a entry = subst (λ l. IsReached a.v a.image (lists_for a) l (reached_for a)) (sym (starts_again a entry)) (reached_again a)

-- what stands for a method has its number
place_for : (a : Again) (rows : List ℕ) (row : ℕ) → AreIn a.reads.reached.rows rows → IsReachedRow a row → place_of (methods_for a rows) (method_for a row) ≡ place_of rows row
place_for a [] row all reached = refl
place_for a (other ∷ rows) row all reached =
    ap (λ (b : Bool). if b then 0 else 1 + place_of (methods_for a rows) (method_for a row)) (test_by a other row (other == row) refl all.0 reached)
    ∙ ap (λ n. if other == row then 0 else 1 + n) (place_for a rows row all.1 reached)

maker_by : (a : Again) (maker : Option ℕ) → AllByRecursion (IsReachedRow a) (rows_of maker) → maker_number (methods_for a a.reads.reached.rows) (option_map (method_for a) maker) ≡ maker_number a.reads.reached.rows maker
maker_by a None reached = refl
maker_by a (Some row) reached =
    ap (λ n. Some n) (place_for a a.reads.reached.rows row (each_in (λ r. is_in a.reads.reached.rows r ≡ true) a.reads.reached.rows (λ r there. there)) reached.0)

maker_again : (a : Again) → (entry : HasEntry a) → a.p.maker ≡ maker_number (methods_for a a.reads.reached.rows) (maker_of a.v (method_for a a.reads.method) entry.sig)
maker_again a entry =
    let maker = maker_of a.first a.reads.method a.reads.sig in
    a.reads.maker_is ∙ sym (maker_by a maker (starts_met a.reads.is_reached).1) ∙ ap (maker_number (methods_for a a.reads.reached.rows)) (sym entry.maker)

-- TYPES

type_by : (a : Again) (k : ℕ) (key : Key) (first : Option Key) (info type : TypeInfo) → slice_get a.reads.keys k ≡ first → option_map (key_for a) first ≡ Some key
    → slice_get a.reads.types.bare k ≡ Some info → slice_get a.p.types k ≡ Some type → IsLinkedType a.v (numbers_for a) (lists_for a) (methods_for a (targets_of a)) key info type
type_by a k key None info type at same info_at type_at = absurd (cc)
type_by a k key (Some first) info type at same info_at type_at =
    let linked = a.reads.types.each k first info type at info_at type_at in
    subst (λ other. IsLinkedType a.v (numbers_for a) (lists_for a) (methods_for a (targets_of a)) other info type) (same_Some (key_for a first) key same)
    (record {
      pairs = linked.pairs;
      overrides = overrides_again a first.depth first.leaf linked.pairs (has_at a.reads.keys k first at) linked.overrides;
      is = linked.is;
    })

types_again : (a : Again) → AreLinkedTypes a.v (numbers_for a) (lists_for a) (methods_for a (targets_of a)) a.p.types
types_again a = record {
  bare = a.reads.types.bare;
  infos = infos_again a;
  count = a.reads.types.count;
  each = λ k key info type at info_at type_at. type_by a k key (slice_get a.reads.keys k) info type refl (sym (slice_get-map (key_for a) a.reads.keys k) ∙ at) info_at type_at;
}

-- THE PROGRAM

pub links_again : (a : Again) → Reads a.v a.image (entry_name a.p) a.p
links_again a =
    let entry = entry_again a in
    record {
      method = method_for a a.reads.method;
      sig = entry.sig;
      entry = entry.is;
      lists = lists_for a;
      overriding = are_lists a;
      reached = reached_for a;
      is_reached = is_reached a entry;
      keys = keys_for a a.reads.keys;
      numbers = subst (λ met. Numbers a.v library_keys met (keys_for a a.reads.keys)) (sym (met_again a)) (numbers_again a);
      types = subst (λ targets. AreLinkedTypes a.v (numbers_for a) (lists_for a) targets a.p.types) (sym (targets_again a)) (types_again a);
      methods = methods_again a;
      entry_is = a.reads.entry_is;
      maker_is = maker_again a entry;
      layout = layout_again a;
    }

pub described_is_linked : DescribedIsLinked
described_is_linked p v image linked runs describes =
    links_again (record {
      p = p;
      first = linked.assembly.v;
      from = linked.assembly.image;
      name = linked.name;
      resolved = linked.assembly.resolved;
      sound = linked.sound;
      reads = linked.assembly.reads;
      runs = runs;
      writable = linked_is_writable p linked runs;
      v = v;
      image = image;
      describes = describes;
    })
