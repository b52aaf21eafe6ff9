-- An assembly of calls: Calls with members of its own, IThing, which is an interface, and Late, which has an initialiser.
use Rattle.std.specs.Prelude.{[], ◌∷◌, codes}
use Rattle.px_tables.specs.Metadata.{View}
use Rattle.px_facts_link.proofs.TableWords.{base_ref, blobs, field, halves, member_ref, method, parent_ref, texts, type_def, type_ref, view_of}

abbrev pub calls : View
calls = view_of (record {
  type_refs =
      type_ref 0 0x01 0x08  -- 1: System.Object
      ∷ type_ref 0 0x0F 0x08  -- 2: System.Exception
      ∷ type_ref 0 0x19 0x08  -- 3: System.Int32
      ∷ type_ref 0 0x1F 0x25  -- 4: Other.Thing
      ∷ type_ref 0 0x2B 0x35  -- 5: Microsoft.Pex.Framework.PexAssume
      ∷ [];
  type_defs =
      type_def 1 0x4D 0 (base_ref 1) 1 1  -- 1: Calls on Object, with the fields 1 and 2 and the methods 1 to 4
      ∷ type_def 0x21 0x53 0 0 3 5  -- 2: IThing, an interface
      ∷ type_def 1 0x5A 0 (base_ref 1) 3 5  -- 3: Late on Object, with the fields 3 and 4 and the methods 5 to 7
      ∷ [];
  fields =
      field 6 0x5F 9  -- 1: an int32 of Calls
      ∷ field 0x16 0x5F 9  -- 2: a static one
      ∷ field 6 0x5F 9  -- 3: an int32 of Late
      ∷ field 0x16 0x5F 9  -- 4: a static one
      ∷ [];
  methods =
      method 0x2050 0x16 0x61 1  -- 1: of Calls, a static one
      ∷ method 0 0x16 0x61 1  -- 2: a static one without a body
      ∷ method 0 0x446 0x61 5  -- 3: one of instances without a body
      ∷ method 0x2060 0x1806 0x63 5  -- 4: a constructor
      ∷ method 0x2070 0x1811 0x69 1  -- 5: of Late, its initialiser
      ∷ method 0x2080 0x16 0x61 1  -- 6: a static one
      ∷ method 0x2090 0x06 0x61 31  -- 7: one of instances that takes an int32 and a float, and returns a float
      ∷ [];
  member_refs =
      member_ref (parent_ref 2) 0x63 12  -- 1: a constructor of Exception that takes a string
      ∷ member_ref (parent_ref 1) 0x63 12  -- 2: one of Object that takes a string
      ∷ member_ref (parent_ref 4) 0x63 5  -- 3: one of Thing
      ∷ member_ref (parent_ref 5) 0x70 17  -- 4: PexAssume::IsTrue
      ∷ [];
  locals = [];
  impls = [];
  type_specs =
      halves (22 ∷ [])  -- 1: an array of int32
      ∷ halves (25 ∷ [])  -- 2: an int32
      ∷ halves (27 ∷ [])  -- 3: an array of Thing
      ∷ [];
  nested = [];
  -- Object at 0x01, System at 0x08, Exception at 0x0F, Int32 at 0x19, Thing at 0x1F, Other at 0x25, PexAssume at 0x2B, Microsoft.Pex.Framework at 0x35,
  -- Calls at 0x4D, IThing at 0x53, Late at 0x5A, f at 0x5F, m at 0x61, .ctor at 0x63, .cctor at 0x69, IsTrue at 0x70
  strings = texts (codes "Object" ∷ codes "System" ∷ codes "Exception" ∷ codes "Int32" ∷ codes "Thing" ∷ codes "Other" ∷ codes "PexAssume"
      ∷ codes "Microsoft.Pex.Framework" ∷ codes "Calls" ∷ codes "IThing" ∷ codes "Late" ∷ codes "f" ∷ codes "m" ∷ codes ".ctor"
      ∷ codes ".cctor" ∷ codes "IsTrue" ∷ []);
  -- Hi with the byte behind it, and without
  user_strings = blobs ((0x48 ∷ 0 ∷ 0x69 ∷ 0 ∷ 0 ∷ []) ∷ (0x48 ∷ 0 ∷ 0x69 ∷ 0 ∷ []) ∷ []);
  -- methods at 1 and 5, a field at 9, methods at 12 and 17, types at 22, 25 and 27, a method at 31
  blob = blobs ((0 ∷ 0 ∷ 1 ∷ []) ∷ (0x20 ∷ 0 ∷ 1 ∷ []) ∷ (6 ∷ 8 ∷ []) ∷ (0x20 ∷ 1 ∷ 1 ∷ 0x0E ∷ []) ∷ (0 ∷ 1 ∷ 1 ∷ 2 ∷ [])
      ∷ (0x1D ∷ 8 ∷ []) ∷ (8 ∷ []) ∷ (0x1D ∷ 0x12 ∷ 0x11 ∷ []) ∷ (0x20 ∷ 2 ∷ 0x0C ∷ 8 ∷ 0x0C ∷ []) ∷ []);
})
