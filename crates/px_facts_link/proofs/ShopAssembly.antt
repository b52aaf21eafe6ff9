-- An assembly of a class with a virtual method, one that derives from it and overrides the method, and one that makes an object and calls the method.
use Rattle.std.specs.Prelude.{ℕ, List, [], ◌∷◌, ◌++◌, codes}
use Rattle.px_link_methods.specs.Codes.{Numbering}
use Rattle.px_link_types.specs.Keys.{alone}
use Rattle.px_link_types.specs.Numbers.{library_keys}
use Rattle.px_link_types.specs.declared.key.Leaf.TheVariants.{Defined}
use Rattle.px_tables.specs.Metadata.{View}
use Rattle.px_facts_link.proofs.TableWords.{base_def, base_ref, blobs, method, texts, type_def, type_ref, view_of}

-- the constructor of App has this address
abbrev pub shop_with : ℕ → View
shop_with address = view_of (record {
  type_refs = type_ref 0 0x01 0x08 ∷ [];  -- 1: System.Object
  type_defs =
      type_def 0 0x14 0x0F (base_ref 1) 1 1  -- 1: Shop.Base on Object, with the methods 1 and 2
      ∷ type_def 0 0x19 0x0F (base_def 1) 1 3  -- 2: Shop.Derived on Base, with the methods 3 and 4
      ∷ type_def 0 0x21 0x0F (base_ref 1) 1 5  -- 3: Shop.App on Object, with the others
      ∷ [];
  fields = [];
  methods =
      method 0x21A4 0x1806 0x25 1  -- 1: .ctor of Base
      ∷ method 0x21A6 0x1C6 0x2B 5  -- 2: M of Base, virtual in a new slot
      ∷ method 0x21A9 0x1806 0x25 1  -- 3: .ctor of Derived
      ∷ method 0x21B1 0xC6 0x2B 5  -- 4: M of Derived, virtual
      ∷ method 0x21B4 0x16 0x2D 9  -- 5: Run of App, static
      ∷ method address 0x1806 0x25 1  -- 6: .ctor of App
      ∷ method 0x21C2 0x06 0x31 5  -- 7: Go of App
      ∷ [];
  member_refs = [];
  locals = [];
  impls = [];
  type_specs = [];
  nested = [];
  -- Object at 0x01, System at 0x08, Shop at 0x0F, Base at 0x14, Derived at 0x19, App at 0x21, .ctor at 0x25, M at 0x2B, Run at 0x2D, Go at 0x31
  strings = texts (codes "Object" ∷ codes "System" ∷ codes "Shop" ∷ codes "Base" ∷ codes "Derived" ∷ codes "App" ∷ codes ".ctor"
      ∷ codes "M" ∷ codes "Run" ∷ codes "Go" ∷ []);
  user_strings = [];
  -- methods of instances that return nothing and an int32 at 1 and 5, a static one at 9
  blob = blobs ((0x20 ∷ 0 ∷ 1 ∷ []) ∷ (0x20 ∷ 0 ∷ 8 ∷ []) ∷ (0 ∷ 0 ∷ 8 ∷ []) ∷ []);
})

abbrev pub shop : View
shop = shop_with 0x21C0

-- the program of Run: App, Derived and Base behind the library, and the methods Run, .ctor of Derived, M of Base, M of Derived, .ctor of Base
abbrev pub numbers : Numbering
numbers = record { keys = library_keys ++ alone (Defined 3) ∷ alone (Defined 2) ∷ alone (Defined 1) ∷ []; rows = 5 ∷ 3 ∷ 2 ∷ 4 ∷ 1 ∷ [] }

-- what overrides each method: M of Derived that of Base
abbrev pub overriders : List (List ℕ)
overriders = [] ∷ (4 ∷ []) ∷ [] ∷ [] ∷ [] ∷ [] ∷ [] ∷ []
