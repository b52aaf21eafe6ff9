-- An assembly of names: three types with six methods.
use Rattle.std.specs.Prelude.{[], ◌∷◌, codes}
use Rattle.px_tables.specs.Metadata.{View}
use Rattle.px_facts_link.proofs.TableWords.{blobs, halves, method, texts, type_def, view_of}

abbrev pub demo : View
demo = view_of (record {
  type_refs = [];
  type_defs =
      type_def 1 0x06 0x01 0 1 1  -- 1: Demo.T with the methods 1 to 4
      ∷ type_def 2 0x08 0 0 1 5  -- 2: U in T, with method 5
      ∷ type_def 3 0x0A 0 0 1 6  -- 3: V with method 6
      ∷ [];
  fields = [];
  methods =
      method 0x2050 0x10 0x0C 1  -- 1: F of T, of an int32
      ∷ method 0 0x10 0x0E 1  -- 2: G of T, without a body
      ∷ method 0x2050 0x10 0x10 1  -- 3: H of T
      ∷ method 0x2050 0x10 0x10 6  -- 4: H of T
      ∷ method 0x2050 0x10 0x0C 6  -- 5: F of U, without a parameter
      ∷ method 0x2050 0 0x0C 10  -- 6: F of V, of an instance
      ∷ [];
  member_refs = [];
  locals = [];
  impls = [];
  type_specs = [];
  nested = halves (2 ∷ 1 ∷ []) ∷ [];  -- U in T
  -- Demo at 0x01, T at 0x06, U at 0x08, V at 0x0A, F at 0x0C, G at 0x0E, H at 0x10
  strings = texts (codes "Demo" ∷ codes "T" ∷ codes "U" ∷ codes "V" ∷ codes "F" ∷ codes "G" ∷ codes "H" ∷ []);
  user_strings = [];
  -- static methods of an int32 and of nothing at 1 and 6, one of instances at 10
  blob = blobs ((0 ∷ 1 ∷ 8 ∷ 8 ∷ []) ∷ (0 ∷ 0 ∷ 8 ∷ []) ∷ (0x20 ∷ 0 ∷ 8 ∷ []) ∷ []);
})
