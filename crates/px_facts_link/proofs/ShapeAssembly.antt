-- An assembly of types alone: Shape on Base, Inner in Base, Point, which is a struct, IThing, which is an interface, and Text on String.
use Rattle.std.specs.Prelude.{ℕ, [], ◌∷◌, codes}
use Rattle.px_tables.specs.Metadata.{View}
use Rattle.px_link_types.specs.declared.key.Key.{Key}
use Rattle.px_link_types.specs.declared.key.Leaf.{Leaf}
use Rattle.px_facts_link.proofs.TableWords.{base_def, base_ref, blobs, field, halves, texts, type_def, type_ref, view_of}

abbrev pub shapes : View
shapes = view_of (record {
  type_refs =
      type_ref 0 0x08 0x01  -- 1: System.Object
      ∷ type_ref 0 0x0F 0x01  -- 2: System.Exception
      ∷ type_ref 0 0x19 0x01  -- 3: System.ValueType
      ∷ type_ref 0 0x29 0x23  -- 4: Other.Thing
      ∷ type_ref 0 0x2F 0x01  -- 5: System.String
      ∷ type_ref 0x13 0x0F 0x01  -- 6: System.Exception in Other.Thing
      ∷ type_ref 2 0x0F 0x01  -- 7: System.Exception of another assembly
      ∷ [];
  type_defs =
      type_def 1 0x3B 0x36 (base_def 2) 1 1  -- 1: Demo.Shape on Base, with the fields 1 to 5
      ∷ type_def 1 0x41 0x36 (base_ref 1) 6 1  -- 2: Demo.Base on Object, with the fields 6 and 7
      ∷ type_def 2 0x46 0 (base_ref 2) 8 1  -- 3: Inner on Exception, with the field 8
      ∷ type_def 1 0x4C 0x36 (base_ref 3) 9 1  -- 4: Demo.Point on ValueType, with the field 9
      ∷ type_def 0x21 0x52 0x36 0 10 1  -- 5: Demo.IThing, an interface
      ∷ type_def 1 0x59 0x36 (base_ref 5) 10 1  -- 6: Demo.Text on String
      ∷ [];
  fields =
      field 0x16 0x5E 1  -- 1: of Shape, static, an array of arrays of int32
      ∷ field 6 0x5E 6  -- 2: an Inner
      ∷ field 6 0x5E 10  -- 3: a Thing
      ∷ field 6 0x5E 14  -- 4: an array of string
      ∷ field 6 0x5E 18  -- 5: a Point
      ∷ field 6 0x5E 22  -- 6: of Base, an IThing
      ∷ field 6 0x5E 26  -- 7: a Shape
      ∷ field 6 0x5E 30  -- 8: of Inner, an int32
      ∷ field 6 0x5E 30  -- 9: of Point, an int32
      ∷ [];
  methods = [];
  member_refs = [];
  locals = [];
  impls = [];
  type_specs = [];
  nested = halves (3 ∷ 2 ∷ []) ∷ [];  -- Inner in Base
  -- System at 0x01, Object at 0x08, Exception at 0x0F, ValueType at 0x19, Other at 0x23, Thing at 0x29, String at 0x2F, Demo at 0x36, Shape at 0x3B,
  -- Base at 0x41, Inner at 0x46, Point at 0x4C, IThing at 0x52, Text at 0x59, f at 0x5E
  strings = texts (codes "System" ∷ codes "Object" ∷ codes "Exception" ∷ codes "ValueType" ∷ codes "Other" ∷ codes "Thing" ∷ codes "String" ∷ codes "Demo"
      ∷ codes "Shape" ∷ codes "Base" ∷ codes "Inner" ∷ codes "Point" ∷ codes "IThing" ∷ codes "Text" ∷ codes "f" ∷ []);
  user_strings = [];
  -- at 1, 6, 10, 14, 18, 22, 26 and 30
  blob = blobs ((6 ∷ 0x1D ∷ 0x1D ∷ 8 ∷ []) ∷ (6 ∷ 0x12 ∷ 0x0C ∷ []) ∷ (6 ∷ 0x12 ∷ 0x11 ∷ []) ∷ (6 ∷ 0x1D ∷ 0x0E ∷ []) ∷ (6 ∷ 0x11 ∷ 0x10 ∷ [])
      ∷ (6 ∷ 0x12 ∷ 0x14 ∷ []) ∷ (6 ∷ 0x12 ∷ 4 ∷ []) ∷ (6 ∷ 8 ∷ []) ∷ []);
})

-- arrays in arrays, so many, of a leaf
abbrev pub arrays : ℕ → Leaf → Key
arrays depth leaf = record { depth = depth; leaf = leaf }
