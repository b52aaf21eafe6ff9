-- An assembly with bodies: Square, which derives from Shape.
use Rattle.std.specs.Prelude.{ℕ, List, [], ◌∷◌, ◌++◌, codes, length}
use Rattle.px_code.specs.Body as code
use Rattle.px_link_tokens.specs.Operands.{operand_of}
use Rattle.px_pe.specs.Image as pe
use Rattle.px_tables.specs.Metadata.{View}
use Rattle.px_facts_link.proofs.SigWords.{grammar}
use Rattle.px_facts_link.proofs.TableWords.{base_def, blobs, halves, method, tables, texts, type_def, view_of}

-- the methods, where Area of Square has this address
abbrev methods_with : ℕ → List (List ℕ)
methods_with area =
    method area 0x46 0x0E 1  -- 1: Area of Square
    ∷ method 0x2050 0x16 0x13 5  -- 2: Main of Shape, static
    ∷ method 0x2058 0x16 0x18 5  -- 3: Sum, static
    ∷ method 0 0x546 0x0E 1  -- 4: Area of Shape, which has no body
    ∷ method 0x2050 0x16 0x1C 5  -- 5: Other, static, which none calls
    ∷ method 0x2040 0x16 0x22 5  -- 6: Make, static
    ∷ method 0x2048 0x1806 0x27 14  -- 7: a constructor
    ∷ []

abbrev pub squares_with : ℕ → View
squares_with area = view_of (record {
  type_refs = [];
  type_defs =
      type_def 1 0x07 0 (base_def 2) 1 1  -- 1: Square on Shape with the first method
      ∷ type_def 0x81 0x01 0 0 1 2  -- 2: Shape with the others
      ∷ [];
  fields = [];
  methods = methods_with area;
  member_refs = [];
  locals = halves (9 ∷ []) ∷ halves (5 ∷ []) ∷ [];  -- of locals, and of a method
  impls = [];
  type_specs = [];
  nested = [];
  -- Shape at 0x01, Square at 0x07, Area at 0x0E, Main at 0x13, Sum at 0x18, Other at 0x1C, Make at 0x22, .ctor at 0x27
  strings = texts (codes "Shape" ∷ codes "Square" ∷ codes "Area" ∷ codes "Main" ∷ codes "Sum" ∷ codes "Other" ∷ codes "Make" ∷ codes ".ctor" ∷ []);
  user_strings = [];
  -- methods at 1 and 5, locals at 9, a constructor at 14
  blob = blobs ((0x20 ∷ 0 ∷ 8 ∷ []) ∷ (0 ∷ 0 ∷ 1 ∷ []) ∷ (7 ∷ 2 ∷ 8 ∷ 0x0E ∷ []) ∷ (0x20 ∷ 0 ∷ 1 ∷ []) ∷ []);
})

abbrev pub squares : View
squares = squares_with 0x206C

-- BODIES, one behind the other

-- Make makes a Shape
abbrev make : List ℕ
make = 0x1A ∷ 0x73 ∷ 7 ∷ 0 ∷ 0 ∷ 6 ∷ 0x2A ∷ 0 ∷ []

-- its constructor returns
abbrev constructor : List ℕ
constructor = 0x06 ∷ 0x2A ∷ 0 ∷ 0 ∷ 0 ∷ 0 ∷ 0 ∷ 0 ∷ []

-- Main calls Sum
abbrev main : List ℕ
main = 0x1A ∷ 0x28 ∷ 3 ∷ 0 ∷ 0 ∷ 6 ∷ 0x2A ∷ 0 ∷ []

-- Sum calls itself, and twice the method of a Shape; it ends with this byte
abbrev sum : ℕ → List ℕ
sum last = 0x4A ∷ 0x28 ∷ 3 ∷ 0 ∷ 0 ∷ 6 ∷ 0x14 ∷ 0x6F ∷ 4 ∷ 0 ∷ 0 ∷ 6 ∷ 0x14 ∷ 0x6F ∷ 4 ∷ 0 ∷ 0 ∷ 6 ∷ last ∷ 0 ∷ []

-- Area of a Square has the locals that a token names by its row and its table, and calls itself
abbrev area : ℕ → ℕ → List ℕ
area row table = 3 ∷ 0x30 ∷ 8 ∷ 0 ∷ 6 ∷ 0 ∷ 0 ∷ 0 ∷ row ∷ 0 ∷ 0 ∷ table ∷ 0x6F ∷ 1 ∷ 0 ∷ 0 ∷ 6 ∷ 0x2A ∷ []

-- an image with these bodies in one section at the address 0x2040, which ends with the last of them
abbrev image_of : List ℕ → pe.View
image_of bodies = record {
  bytes = bodies;
  sections = record { address = 0x2040; size = length bodies; place = 0 } ∷ [];
  metadata = record { start = 0; len = 0 };
}

abbrev pub image_with : ℕ → ℕ → ℕ → pe.View
image_with last row table = image_of (make ++ constructor ++ main ++ sum last ++ area row table)

abbrev pub image : pe.View
image = image_with 0x2A 1 0x11

-- what overrides each method: the method of Square that of Shape
abbrev pub overriders : List (List ℕ)
overriders = [] ∷ [] ∷ [] ∷ (1 ∷ []) ∷ [] ∷ [] ∷ [] ∷ []

-- all readings of bodies and tokens: a fact that opens it computes with each of them
unfoldable pub bodies : Type 0
unfolding tables grammar operand_of code.body_of code.instr_at code.instrs_from code.operand_of code.sections_from
bodies = Unit {0}
