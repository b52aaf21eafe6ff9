-- The bodies of methods with their locals, and the methods that calls and overriding reach.
use Rattle.std.proofs.Common.{◌≡◌, [], ◌∷◌, refl, map, false, Ok, Err}
use Rattle.px_code.specs.declared.body.BodyKind.TheVariants.{BadHeader, BadOpcode, Cut}
use Rattle.px_link_reach.specs.Bodies.{whole_at}
use Rattle.px_link_reach.specs.Met.{calls_at, virtual_targets_at}
use Rattle.px_facts_link.proofs.SigWords.{int32, string}
use Rattle.px_facts_link.proofs.SquareAssembly.{bodies, image, image_with, overriders, squares, squares_with}

-- BODIES with the types of their locals

-- a body that reads one byte less gives Err (Cut, 17), since the section ends there
area_of_square : whole_at squares image 1 ≡ Ok (record {
  body = record {
    max_stack = 8;
    init_locals = false;
    locals_token = 0x1100_0001;
    code =
        record { offset = 0; next = 5; opcode = 0x6F; operand = 0x0600_0001; targets = [] }
        ∷ record { offset = 5; next = 6; opcode = 0x2A; operand = 0; targets = [] }
        ∷ [];
    clauses = [];
  };
  locals = int32 ∷ string ∷ [];
})
unfolding bodies
area_of_square = refl

area_of_shape_has_no_body : whole_at squares image 4
    ≡ Ok (record { body = record { max_stack = 0; init_locals = false; locals_token = 0; code = []; clauses = [] }; locals = [] })
unfolding bodies
area_of_shape_has_no_body = refl

pub sum_ends_with_no_opcode : whole_at squares (image_with 0x24 1 0x11) 3 ≡ Err (BadOpcode, 18)
unfolding bodies
sum_ends_with_no_opcode = refl

-- a body that takes the signature of a method for one without locals gives a body
pub locals_of_a_method_signature : whole_at squares (image_with 0x2A 2 0x11) 1 ≡ Err (BadHeader, 8)
unfolding bodies
locals_of_a_method_signature = refl

pub locals_of_no_row : whole_at squares (image_with 0x2A 3 0x11) 1 ≡ Err (BadHeader, 8)
unfolding bodies
locals_of_no_row = refl

pub locals_of_a_method : whole_at squares (image_with 0x2A 1 0x06) 1 ≡ Err (BadHeader, 8)
unfolding bodies
locals_of_a_method = refl

-- a body that takes any table above it gives locals for the token of TypeSpec
locals_of_a_type_spec : whole_at squares (image_with 0x2A 1 0x1B) 1 ≡ Err (BadHeader, 8)
unfolding bodies
locals_of_a_type_spec = refl

pub no_section_holds_area : whole_at (squares_with 0x0100_206C) image 1 ≡ Err (Cut, 0)
unfolding bodies
no_section_holds_area = refl

-- CALLS, by their offsets

pub main_calls_sum : calls_at squares image overriders 2 ≡ 3 ∷ []
unfolding bodies
main_calls_sum = refl

-- a body that leaves out what overrides gives 3 ∷ 4 ∷ 4 ∷ [], and so does one that adds it to plain calls
pub sum_calls_itself_and_all_areas : calls_at squares image overriders 3 ≡ 3 ∷ 4 ∷ 1 ∷ 4 ∷ 1 ∷ []
unfolding bodies
sum_calls_itself_and_all_areas = refl

pub area_of_square_calls_itself : calls_at squares image overriders 1 ≡ 1 ∷ []
unfolding bodies
area_of_square_calls_itself = refl

-- a body that passes over new objects gives []
make_calls_a_constructor : calls_at squares image overriders 6 ≡ 7 ∷ []
unfolding bodies
make_calls_a_constructor = refl

pub what_has_no_body_calls_nothing : calls_at squares image overriders 4 ≡ []
unfolding bodies
what_has_no_body_calls_nothing = refl

only_virtual_calls_name_targets : map (virtual_targets_at squares image) (1 ∷ 2 ∷ 3 ∷ 6 ∷ []) ≡ (1 ∷ []) ∷ [] ∷ (4 ∷ 4 ∷ []) ∷ [] ∷ []
unfolding bodies
only_virtual_calls_name_targets = refl
