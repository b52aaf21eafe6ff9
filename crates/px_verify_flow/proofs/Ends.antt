-- Where the code of a method ends.
use Rattle.std.proofs.Common.{◌≡◌, suc, ◌-◌, List, [], ◌∷◌, length, get_or, Some, refl, sym, ap, ◌∙◌, arith}
use Rattle.std.specs.List.{slice_get}
use Rattle.std.proofs.lemmas.Option.{get_or_from_slice_get}
use Rattle.px_program.specs.Formed.{end_of}
use Rattle.px_program.specs.declared.instr.Instr.{Instr}

-- the end is behind the last one
last_ends : (x : Instr) (xs : List Instr) (d : Instr) → (get_or (x ∷ xs) (length xs) d).next ≡ end_of (x ∷ xs)
last_ends x [] d = refl
last_ends x (y ∷ rest) d = last_ends y rest d

pub end_is : (xs : List Instr) (last : Instr) → slice_get xs (length xs - 1) ≡ Some last → last.next ≡ end_of xs
end_is [] last is = absurd (cc)
end_is (x ∷ xs) last is =
    let place : suc (length xs) - 1 ≡ length xs = omega arith in
    let same : get_or (x ∷ xs) (length xs) last ≡ last = get_or_from_slice_get (x ∷ xs) (length xs) last last (rw place at is) in
    sym (ap (λ i. i.next) same) ∙ last_ends x xs last
