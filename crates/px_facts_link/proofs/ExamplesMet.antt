-- Which methods are met from some, in their order, and which body is the first that is refused.
use Rattle.std.proofs.Common.{◌≡◌, ℕ, List, [], ◌∷◌, ◌++◌, ◌<◌, length, refl, true, arith}
use Rattle.std.specs.Prelude.{Err, IsOk, map, take}
use Rattle.std.specs.List.{flat_map}
use Rattle.px_code.specs.Reading.{PlacedFault}
use Rattle.px_code.specs.declared.body.BodyKind.TheVariants.{BadHeader, BadOpcode, Cut}
use Rattle.px_link_reach.specs.Bodies.{whole_at}
use Rattle.px_link_reach.specs.Met.{AreMet, Blames, IsFirstRefused, calls_at, each_once, in_body, virtual_targets_at}
use Rattle.px_link_reach.specs.declared.methods.ReachFault.TheVariants.{Bad}
use Rattle.px_meta.specs.Rows.{is_in}
use Rattle.px_pe.specs.Image as pe
use Rattle.px_tables.specs.Metadata.{View}
use Rattle.px_facts_link.proofs.ExamplesReach as reach
use Rattle.px_facts_link.proofs.ListWords.{AtEach, at_each}
use Rattle.px_facts_link.proofs.SquareAssembly.{bodies, image, image_with, overriders, squares, squares_with}

-- METHODS THAT ARE MET: Area of Square is 1, Main 2, Sum 3, and Area of Shape 4

-- a method is one to start with, or called by one before it, of so many that are looked at
abbrev IsEarlier : (ℕ → List ℕ) → List ℕ → ℕ → List ℕ → ℕ → ℕ → Type 0
IsEarlier calls starts n rows k row = is_in (starts ++ flat_map calls (take k (take n rows))) row ≡ true

-- methods that are met by what each calls
abbrev IsMet : (ℕ → List ℕ) → List ℕ → ℕ → List ℕ → Type 0
IsMet calls starts n rows = (rows ≡ each_once (starts ++ flat_map calls (take n rows))) × AtEach (IsEarlier calls starts n rows) rows

are_met : (v : View) (file : pe.View) (starts : List ℕ) (n : ℕ) (rows : List ℕ) → IsMet (calls_at v file overriders) starts n rows
    → AreMet v file overriders starts n rows
are_met v file starts n rows is = record { same = is.0; earlier = at_each (IsEarlier (calls_at v file overriders) starts n rows) rows is.1 }

-- what the three methods before Area of Square call
record AreCalls (calls : ℕ → List ℕ) : Type 0 where
  pub main : calls 2 ≡ 3 ∷ []
  pub sum : calls 3 ≡ 3 ∷ 4 ∷ 1 ∷ 4 ∷ 1 ∷ []
  pub shape : calls 4 ≡ []

in_squares : AreCalls (calls_at squares image overriders)
in_squares = record { main = reach.main_calls_sum; sum = reach.sum_calls_itself_and_all_areas; shape = reach.what_has_no_body_calls_nothing }

by_main : (calls : ℕ → List ℕ) → AreCalls calls → calls 1 ≡ 1 ∷ [] → IsMet calls (2 ∷ []) 4 (2 ∷ 3 ∷ 4 ∷ 1 ∷ [])
by_main calls are square =
    (simp (are.main, are.sum, are.shape, square) refl, (refl, (simp are.main refl, (simp (are.main, are.sum) refl, (simp (are.main, are.sum) refl, tt)))))

main_reaches_all_but_others : AreMet squares image overriders (2 ∷ []) 4 (2 ∷ 3 ∷ 4 ∷ 1 ∷ [])
main_reaches_all_but_others = are_met _ _ _ _ _ (by_main (calls_at squares image overriders) in_squares reach.area_of_square_calls_itself)

by_area_and_main : (calls : ℕ → List ℕ) → AreCalls calls → calls 1 ≡ 1 ∷ [] → IsMet calls (4 ∷ 4 ∷ 2 ∷ []) 4 (4 ∷ 2 ∷ 3 ∷ 1 ∷ [])
by_area_and_main calls are square =
    (simp (are.main, are.sum, are.shape, square) refl, (refl, (refl, (simp (are.main, are.shape) refl, (simp (are.main, are.sum, are.shape) refl, tt)))))

each_is_met_once : AreMet squares image overriders (4 ∷ 4 ∷ 2 ∷ []) 4 (4 ∷ 2 ∷ 3 ∷ 1 ∷ [])
each_is_met_once = are_met _ _ _ _ _ (by_area_and_main (calls_at squares image overriders) in_squares reach.area_of_square_calls_itself)

by_square : (calls : ℕ → List ℕ) → calls 1 ≡ 1 ∷ [] → IsMet calls (1 ∷ []) 1 (1 ∷ [])
by_square calls square = (simp square refl, (refl, tt))

area_of_square_calls_itself_alone : AreMet squares image overriders (1 ∷ []) 1 (1 ∷ [])
area_of_square_calls_itself_alone = are_met _ _ _ _ _ (by_square (calls_at squares image overriders) reach.area_of_square_calls_itself)

by_shape : (calls : ℕ → List ℕ) → AreCalls calls → IsMet calls (4 ∷ []) 1 (4 ∷ [])
by_shape calls are = (simp are.shape refl, (refl, tt))

what_has_no_body_is_met : AreMet squares image overriders (4 ∷ []) 1 (4 ∷ [])
what_has_no_body_is_met = are_met _ _ _ _ _ (by_shape (calls_at squares image overriders) in_squares)

-- what virtual calls name, each once
targets_from_main : each_once (flat_map (virtual_targets_at squares image) (2 ∷ 3 ∷ 4 ∷ 1 ∷ [])) ≡ 4 ∷ 1 ∷ []
unfolding bodies
targets_from_main = refl

targets_from_both_areas : each_once (flat_map (virtual_targets_at squares image) (4 ∷ 2 ∷ 3 ∷ 1 ∷ [])) ≡ 4 ∷ 1 ∷ []
unfolding bodies
targets_from_both_areas = refl

targets_from_the_area_of_square : each_once (flat_map (virtual_targets_at squares image) (1 ∷ [])) ≡ 1 ∷ []
unfolding bodies
targets_from_the_area_of_square = refl

what_has_no_body_names_no_targets : each_once (flat_map (virtual_targets_at squares image) (4 ∷ [])) ≡ []
unfolding bodies
what_has_no_body_names_no_targets = refl

-- how many instructions each has
counts_of_instructions : map (λ row. length (in_body (λ raw. 1 ∷ []) (whole_at squares image row))) (2 ∷ 3 ∷ 4 ∷ 1 ∷ []) ≡ 2 ∷ 6 ∷ 0 ∷ 2 ∷ []
unfolding bodies
counts_of_instructions = refl

-- BODIES THAT ARE REFUSED, by the numbers of their methods

-- the bodies of all methods before a number are read
abbrev IsRead : View → pe.View → ℕ → ℕ → ℕ → Type 0
IsRead v file number k row = k < number → IsOk (whole_at v file row)

by_main_alone : (calls : ℕ → List ℕ) → calls 2 ≡ 3 ∷ [] → IsMet calls (2 ∷ []) 1 (2 ∷ 3 ∷ [])
by_main_alone calls main = (simp main refl, (refl, (simp main refl, tt)))

-- Sum is the second method, whatever is wrong with the fourth
refused_second : (v : View) (file : pe.View) (fault : PlacedFault) → calls_at v file overriders 2 ≡ 3 ∷ [] → IsOk (whole_at v file 2)
    → whole_at v file 3 ≡ Err fault → IsFirstRefused v file overriders (2 ∷ []) 1 fault
refused_second v file fault main read refused = record {
  rows = 2 ∷ 3 ∷ [];
  met = are_met _ _ _ _ _ (by_main_alone (calls_at v file overriders) main);
  method = 3;
  at = refl;
  refused = refused;
  first = λ k other less at. at_each (IsRead v file 1) (2 ∷ 3 ∷ []) ((λ less. read), ((λ less. absurd (omega arith)), tt)) k other at less;
}

-- a body that names the row of the method gives 3
sum_is_the_second_method : Blames squares (image_with 0x24 1 0x11) overriders (2 ∷ []) (Bad BadOpcode 18 1)
unfolding bodies
sum_is_the_second_method = refused_second squares (image_with 0x24 1 0x11) (BadOpcode, 18) refl refl reach.sum_ends_with_no_opcode

sum_comes_before_area : Blames (squares_with 0x0100_206C) (image_with 0x24 1 0x11) overriders (2 ∷ []) (Bad BadOpcode 18 1)
unfolding bodies
sum_comes_before_area = refused_second (squares_with 0x0100_206C) (image_with 0x24 1 0x11) (BadOpcode, 18) refl refl refl

by_three : (calls : ℕ → List ℕ) → AreCalls calls → IsMet calls (2 ∷ []) 3 (2 ∷ 3 ∷ 4 ∷ 1 ∷ [])
by_three calls are =
    (simp (are.main, are.sum, are.shape) refl, (refl, (simp are.main refl, (simp (are.main, are.sum) refl, (simp (are.main, are.sum) refl, tt)))))

-- Area of Square is the fourth method
refused_fourth : (v : View) (file : pe.View) (fault : PlacedFault) → AreCalls (calls_at v file overriders) → IsOk (whole_at v file 2)
    → IsOk (whole_at v file 3) → IsOk (whole_at v file 4) → whole_at v file 1 ≡ Err fault → IsFirstRefused v file overriders (2 ∷ []) 3 fault
refused_fourth v file fault are main sum shape refused = record {
  rows = 2 ∷ 3 ∷ 4 ∷ 1 ∷ [];
  met = are_met _ _ _ _ _ (by_three (calls_at v file overriders) are);
  method = 1;
  at = refl;
  refused = refused;
  first = λ k other less at. at_each (IsRead v file 3) (2 ∷ 3 ∷ 4 ∷ 1 ∷ [])
      ((λ less. main), ((λ less. sum), ((λ less. shape), ((λ less. absurd (omega arith)), tt)))) k other at less;
}

locals_of_a_method_signature : Blames squares (image_with 0x2A 2 0x11) overriders (2 ∷ []) (Bad BadHeader 8 3)
unfolding bodies
locals_of_a_method_signature =
    refused_fourth squares (image_with 0x2A 2 0x11) (BadHeader, 8) (record { main = refl; sum = refl; shape = refl })
    refl refl refl reach.locals_of_a_method_signature

locals_of_no_row : Blames squares (image_with 0x2A 3 0x11) overriders (2 ∷ []) (Bad BadHeader 8 3)
unfolding bodies
locals_of_no_row =
    refused_fourth squares (image_with 0x2A 3 0x11) (BadHeader, 8) (record { main = refl; sum = refl; shape = refl })
    refl refl refl reach.locals_of_no_row

locals_of_a_method : Blames squares (image_with 0x2A 1 0x06) overriders (2 ∷ []) (Bad BadHeader 8 3)
unfolding bodies
locals_of_a_method =
    refused_fourth squares (image_with 0x2A 1 0x06) (BadHeader, 8) (record { main = refl; sum = refl; shape = refl })
    refl refl refl reach.locals_of_a_method

no_section_holds_area : Blames (squares_with 0x0100_206C) image overriders (2 ∷ []) (Bad Cut 0 3)
unfolding bodies
no_section_holds_area =
    refused_fourth (squares_with 0x0100_206C) image (Cut, 0) (record { main = refl; sum = refl; shape = refl })
    refl refl refl reach.no_section_holds_area
