-- An assembly of names: types and members of this assembly and of others. Neither the first field nor the first method is of a type.
use Rattle.std.specs.Prelude.{[], ◌∷◌, codes}
use Rattle.px_tables.specs.Metadata.{View}
use Rattle.px_facts_link.proofs.TableWords.{blobs, field, halves, member_ref, method, parent_def, parent_ref, texts, type_def, type_ref, view_of}

abbrev pub names : View
names = view_of (record {
  type_refs =
      type_ref 0 0x01 0x06  -- 1: Far.Host
      ∷ type_ref 0x07 0x0A 0  -- 2: Guest in Host
      ∷ type_ref 0x13 0x10 0x06  -- 3: Far.One in Two
      ∷ type_ref 0x0F 0x14 0  -- 4: Two in One
      ∷ [];
  type_defs =
      type_def 1 0x18 0x1E 0 2 2  -- 1: Near.Outer with field 2
      ∷ type_def 1 0x23 0 0 3 2  -- 2: Inner in Outer with method 2
      ∷ [];
  fields = field 6 0x29 5 ∷ field 6 0x2E 5 ∷ [];  -- lost, which no type has, and count
  methods = method 0 0x10 0x34 1 ∷ method 0 0x10 0x39 1 ∷ [];  -- Lost, which no type has, and Run
  member_refs =
      member_ref (parent_ref 2) 0x3D 1  -- 1: Visit of Guest
      ∷ member_ref (parent_ref 3) 0x43 1  -- 2: Turn of One
      ∷ member_ref 0x0C 0x48 1  -- 3: Get of a TypeSpec
      ∷ member_ref (parent_def 1) 0x4C 1  -- 4: Walk of Outer
      ∷ [];
  locals = [];
  impls = [];
  type_specs = halves (8 ∷ []) ∷ [];  -- an array of int32
  nested = halves (2 ∷ 1 ∷ []) ∷ [];  -- Inner in Outer
  -- Host at 0x01, Far at 0x06, Guest at 0x0A, One at 0x10, Two at 0x14, Outer at 0x18, Near at 0x1E, Inner at 0x23, lost at 0x29, count at 0x2E,
  -- Lost at 0x34, Run at 0x39, Visit at 0x3D, Turn at 0x43, Get at 0x48, Walk at 0x4C
  strings = texts (codes "Host" ∷ codes "Far" ∷ codes "Guest" ∷ codes "One" ∷ codes "Two" ∷ codes "Outer" ∷ codes "Near" ∷ codes "Inner" ∷ codes "lost"
      ∷ codes "count" ∷ codes "Lost" ∷ codes "Run" ∷ codes "Visit" ∷ codes "Turn" ∷ codes "Get" ∷ codes "Walk" ∷ []);
  user_strings = [];
  -- a method at 1, a field at 5, a type at 8
  blob = blobs ((0 ∷ 0 ∷ 1 ∷ []) ∷ (6 ∷ 8 ∷ []) ∷ (0x1D ∷ 8 ∷ []) ∷ []);
})
