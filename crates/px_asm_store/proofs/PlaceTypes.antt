-- The types of places that hold no array.
use Rattle.std.proofs.Common.{◌≡◌, ◌≢◌, inl, inr, ℕ, zero, suc, ◌+◌, ◌*◌, ◌<◌, ◌≤◌, ◌^◌, true, false, List, [], ◌∷◌, Some, None, length, take, ⊎_elim, arith, eq-eqb}
use Rattle.std.specs.Prelude.{◌==◌, ◌||◌, ◌/◌, nat_lt, slice_get}
use Rattle.std.proofs.lemmas.Bool.{cases_Bool, cond_both, lt-ltb, ltb-true, or_left, or_right}
use Rattle.px_asm_heaps.specs.Spelling.{is_class_token}
use Rattle.px_program.specs.declared.program.Place.TheVariants as places
use Rattle.px_program.specs.declared.program.Program.{Program}
use Rattle.px_program.specs.declared.program.TypeInfo.{TypeInfo}
use Rattle.px_program.proofs.Types.{each_at}
use Rattle.px_asm_described.specs.Describes.{IsClass, class_token, type_row}
use Rattle.px_link_types.proofs.Formed.{at_place}
use Rattle.px_asm_store.specs.Elements.{IsLeaf}
use Rattle.px_asm_store.specs.Rows.{HasRoom, IsLaid, IsTyped}
use Rattle.px_asm_store.proofs.RowCounts.{few_type_row}

-- CLASSES

-- a type that is no array is one of the library or of the assembly
pub typed : (p : Program) (class : ℕ) → HasRoom p → IsLeaf p (places.Ref class) → IsTyped p class
typed p class room (inl less) = inl less
typed p class room (inr is) =
    ⊎_elim
    (λ less. inl (ltb-true class 18 less))
    (λ more. inr (room.writable.all_types class is.info (let le : 18 ≤ class = grind (arith, lt-ltb) in le) is.at is.no_element))
    (cases_Bool (nat_lt class 18))

in_front : {X : Type 0} (n : ℕ) (xs : List X) (k : ℕ) (x : X) → k < n → slice_get xs k ≡ Some x → slice_get (take n xs) k ≡ Some x
in_front zero xs k x less at = absurd (omega arith)
in_front (suc n) [] k x less at = absurd (cc)
in_front (suc n) (y ∷ xs) zero x less at = at
in_front (suc n) (y ∷ xs) (suc k) x less at = in_front n xs k x (omega arith) at

-- those of the library but `String` are no arrays
pub is_class : (p : Program) (class : ℕ) → HasRoom p → class ≢ 17 → class < length p.types → IsLeaf p (places.Ref class) → IsClass p class
is_class p class room other within (inr is) = is
is_class p class room other within (inl less) =
    let found = at_place p.types class within in
    let few : class < 17 = omega (arith, other, less) in
    record {
      info = found.0;
      at = found.1;
      no_element = each_at (λ (t : TypeInfo). t.element ≡ None) (take 17 p.types) room.writable.formed.types.no_arrays class found.0 (in_front 17 p.types class found.0 few found.1);
    }

-- TOKENS

table_of : (table row : ℕ) → row < 2 ^ 24 → (table * 2 ^ 24 + row) / 2 ^ 24 ≡ table
table_of table row few = omega arith

ref_spelled : (row : ℕ) → row < 2 ^ 24 → is_class_token (0x01 * 2 ^ 24 + row) ≡ true
ref_spelled row few =
    let at = 0x01 * 2 ^ 24 + row in
    or_left ((at / 2 ^ 24 == 0x01) || (at / 2 ^ 24 == 0x02)) (at / 2 ^ 24 == 0x1B) (or_left (at / 2 ^ 24 == 0x01) (at / 2 ^ 24 == 0x02) (eq-eqb (at / 2 ^ 24) 0x01 (table_of 0x01 row few)))

def_spelled : (row : ℕ) → row < 2 ^ 24 → is_class_token (0x02 * 2 ^ 24 + row) ≡ true
def_spelled row few =
    let at = 0x02 * 2 ^ 24 + row in
    or_left ((at / 2 ^ 24 == 0x01) || (at / 2 ^ 24 == 0x02)) (at / 2 ^ 24 == 0x1B) (or_right (at / 2 ^ 24 == 0x01) (at / 2 ^ 24 == 0x02) (eq-eqb (at / 2 ^ 24) 0x02 (table_of 0x02 row few)))

behind_library : (p : Program) (class : ℕ) → nat_lt class 18 ≡ false → IsTyped p class → IsLaid p class
behind_library p class more (inl less) = absurd (let same = lt-ltb class 18 less in cc)
behind_library p class more (inr laid) = laid

-- the token of a class is one that a signature can have
pub class_spelled : (p : Program) (class : ℕ) → HasRoom p → IsTyped p class → is_class_token (class_token p class) ≡ true
class_spelled p class room is =
    cond_both (nat_lt class 18) (0x01 * 2 ^ 24 + (class + 1)) (0x02 * 2 ^ 24 + type_row p class) (λ at. is_class_token at ≡ true)
    (λ less. ref_spelled (class + 1) (omega (arith, ltb-true class 18 less)))
    (λ more. def_spelled (type_row p class) (few_type_row p room class (behind_library p class more is)))
