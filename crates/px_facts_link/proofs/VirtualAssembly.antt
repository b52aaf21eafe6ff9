-- An assembly of virtual methods: five types with nine methods.
use Rattle.std.specs.Prelude.{[], ◌∷◌, codes}
use Rattle.px_tables.specs.Metadata.{View}
use Rattle.px_facts_link.proofs.TableWords.{base_def, blobs, halves, method, texts, type_def, view_of}

abbrev pub virtuals : View
virtuals = view_of (record {
  type_refs = [];
  type_defs =
      type_def 1 0x01 0 0 1 1  -- 1: A, without a base
      ∷ type_def 1 0x05 0x0B (base_def 1) 1 3  -- 2: N.C, whose base is A
      ∷ type_def 1 0x09 0 (base_def 2) 1 5  -- 3: E, whose base is C
      ∷ type_def 1 0x03 0 (base_def 1) 1 7  -- 4: B, whose base is A
      ∷ type_def 1 0x07 0 (base_def 1) 1 8  -- 5: D, whose base is A
      ∷ [];
  fields = [];
  methods =
      method 0 0x146 0x0D 1  -- 1: m of A without a parameter
      ∷ method 0 0x146 0x0F 5  -- 2: k of A with one
      ∷ method 0 0x46 0x0D 1  -- 3: m of C without a parameter
      ∷ method 0 0x46 0x0D 5  -- 4: m of C with one
      ∷ method 0 0x46 0x0D 1  -- 5: m of E
      ∷ method 0 0x46 0x13 1  -- 6: q of E
      ∷ method 0 0x46 0x0D 1  -- 7: m of B
      ∷ method 0 0x146 0x0D 1  -- 8: m of D, in a new slot
      ∷ method 0 0x46 0x11 5  -- 9: p of D, with a parameter
      ∷ [];
  member_refs = [];
  locals = [];
  impls = halves (3 ∷ 12 ∷ 6 ∷ []) ∷ halves (5 ∷ 18 ∷ 4 ∷ []) ∷ [];  -- q of E stands for m of C, and p of D for k of A
  type_specs = [];
  nested = [];
  -- A at 0x01, B at 0x03, C at 0x05, D at 0x07, E at 0x09, N at 0x0B, m at 0x0D, k at 0x0F, p at 0x11, q at 0x13
  strings = texts (codes "A" ∷ codes "B" ∷ codes "C" ∷ codes "D" ∷ codes "E" ∷ codes "N" ∷ codes "m" ∷ codes "k" ∷ codes "p" ∷ codes "q" ∷ []);
  user_strings = [];
  -- methods of instances at 1 and 5, the second with an int32
  blob = blobs ((0x20 ∷ 0 ∷ 1 ∷ []) ∷ (0x20 ∷ 1 ∷ 1 ∷ 8 ∷ []) ∷ []);
})
