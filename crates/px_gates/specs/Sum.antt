-- The sum of two numbers and a carry, with one full adder for each bit: the bit of lowest weight first.
use Rattle.std.specs.Prelude.{ℕ, zero, suc, ◌+◌, List, [], ◌∷◌}
use Rattle.px_chain.specs.Resolution.{positive}
use Rattle.px_gates.specs.declared.gate.Gate.TheVariants.{Xor, Majority}
use Rattle.px_gates.specs.Circuit.{Node, Output}

-- The circuit whose first gate has the variable n: at each place the exclusive or of both bits; that with the carry, which is the place's bit;
-- and the majority of both bits and the carry, which is the carry of the next place.
abbrev pub sum_circuit : ℕ → List ℕ → List ℕ → ℕ → List Node
sum_circuit n [] ys carry = []
sum_circuit n (x ∷ xs) [] carry = []
sum_circuit n (x ∷ xs) (y ∷ ys) carry =
    Output (Xor x y) ∷ Output (Xor (positive n) carry) ∷ Output (Majority x y carry) ∷ sum_circuit (n + 3) xs ys (positive (n + 2))

-- its bits, for numbers of so many bits
abbrev pub sum_bits : ℕ → ℕ → List ℕ
sum_bits n zero = []
sum_bits n (suc width) = positive (n + 1) ∷ sum_bits (n + 3) width

-- its last carry
abbrev pub sum_carry : ℕ → ℕ → ℕ → ℕ
sum_carry n zero carry = carry
sum_carry n (suc width) carry = sum_carry (n + 3) width (positive (n + 2))
