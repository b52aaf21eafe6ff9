-- Where instructions that follow each other end.
use Rattle.std.proofs.Common.{◌≡◌, ℕ, suc, ◌-◌, ◌<◌, ◌≤◌, List, [], ◌∷◌, length, get_or, Some, Bool, true, false, refl, sym, ap, ◌∙◌, ◌⊎◌, arith, inl, inr}
use Rattle.std.specs.Prelude.{◌==◌, ◌||◌, ◌&&◌, nat_lt}
use Rattle.std.specs.List.{slice_get}
use Rattle.std.proofs.lemmas.Option.{get_or_from_slice_get}
use Rattle.std.proofs.lemmas.Bool.{and_right, eqb-true, le-ltb, ne_eqb, or_cases}
use Rattle.px_code.specs.Body.{end_of, is_range, is_start, Follow}
use Rattle.px_code.specs.declared.body.RawInstr.{RawInstr}

-- the end is behind the last one
last_ends : (x : RawInstr) (xs : List RawInstr) (d : RawInstr) → (get_or (x ∷ xs) (length xs) d).next ≡ end_of (x ∷ xs)
last_ends x [] d = refl
last_ends x (y ∷ rest) d = last_ends y rest d

pub end_is : (xs : List RawInstr) (last : RawInstr) → slice_get xs (length xs - 1) ≡ Some last → last.next ≡ end_of xs
end_is [] last is = absurd (cc)
end_is (x ∷ xs) last is =
    let place : suc (length xs) - 1 ≡ length xs = omega arith in
    let same : get_or (x ∷ xs) (length xs) last ≡ last = get_or_from_slice_get (x ∷ xs) (length xs) last last (rw place at is) in
    sym (ap (λ i. i.next) same) ∙ last_ends x xs last

end_later : (at : ℕ) (xs : List RawInstr) → Follow at xs → 0 < length xs → at < end_of xs
end_later at [] follow some = absurd (omega arith)
end_later at (x ∷ []) follow some = follow.1
end_later at (x ∷ y ∷ rest) follow some = omega (arith, follow.1, end_later x.next (y ∷ rest) follow.2 (omega arith))

-- an instruction starts before the end
pub starts_before : (at : ℕ) (xs : List RawInstr) (offset : ℕ) → Follow at xs → is_start xs offset ≡ true → offset < end_of xs
starts_before at [] offset follow start = absurd (cc)
starts_before at (x ∷ []) offset follow start = elim (or_cases (x.offset == offset) false start) [
  | inl here ↦ omega (arith, follow.0, follow.1, eqb-true x.offset offset here)
  | inr none ↦ absurd (cc)
]
starts_before at (x ∷ y ∷ rest) offset follow start = elim (or_cases (x.offset == offset) (is_start (y ∷ rest) offset) start) [
  | inl here ↦ omega (arith, follow.0, follow.1, eqb-true x.offset offset here, end_later x.next (y ∷ rest) follow.2 (omega arith))
  | inr later ↦ starts_before x.next (y ∷ rest) offset follow.2 later
]

-- no range is empty, or passes the end
pub no_range : (xs : List RawInstr) (from to : ℕ) → Follow 0 xs → (to ≤ from) ⊎ (end_of xs < to) → false ≡ is_range xs from to
no_range xs from to follow (inl empty) = rw (le-ltb from to empty) refl
no_range xs from to follow (inr past) = by_start (is_start xs to) refl (and_right (nat_lt from to && is_start xs from))
  where
    by_start : (b : Bool) → is_start xs to ≡ b → ((y : Bool) → y ≡ false → ((nat_lt from to && is_start xs from) && y) ≡ false) → false ≡ is_range xs from to
    by_start true e right = let less : to < end_of xs = starts_before 0 xs to follow e in absurd (omega (arith, less, past))
    by_start false e right = sym (right (is_start xs to || (to == end_of xs)) (rw (e, ne_eqb to (end_of xs) (λ same. omega (arith, same, past))) refl))
