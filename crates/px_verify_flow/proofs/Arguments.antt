-- How the arguments of a call are taken from the stack.
use Rattle.std.proofs.Common.{◌≡◌, ℕ, zero, suc, ◌-◌, ◌<◌, ◌≤◌, true, false, List, [], ◌∷◌, ◌++◌, Option, Some, None, refl, sym, ap, ◌∙◌, subst, arith, length, take, drop, get_or, reverse, length-drop}
use Rattle.std.specs.Prelude.{◌&&◌, Result, Ok, Err}
use Rattle.std.proofs.Math.Bool.{and_assoc}
use Rattle.std.proofs.Math.Seq.{drop-nil, take-suc}
use Rattle.std.proofs.lemmas.List.{length-reverse, reverse-append}
use Rattle.px_program.specs.declared.program.Place.{Place}
use Rattle.px_program.specs.declared.program.TypeInfo.{TypeInfo}
use Rattle.px_verify_kinds.specs.Kinds.{fits_kind, kind_of}
use Rattle.px_verify_kinds.specs.Stacks.{kinds_of}
use Rattle.px_verify_kinds.specs.declared.kind.Kind.{Kind}
use Rattle.px_verify_kinds.specs.declared.stacks.Cell.{Cell}
use Rattle.px_verify_kinds.specs.declared.stacks.Stack.{Stack}
use Rattle.px_verify_flow.specs.Calls.{Takes, listed}
use Rattle.px_verify_flow.specs.Rows.{fit_places}
use Rattle.px_verify_flow.specs.declared.fault.Stop.{Stop}

-- two lists of places fit where the first fits and the second fits what is left
fit_append : (types : List TypeInfo) (ys zs : List Place) (stack : List Kind) → length ys ≤ length stack → fit_places types (ys ++ zs) stack ≡ (fit_places types ys stack && fit_places types zs (drop (length ys) stack))
fit_append types [] zs stack high = refl
fit_append types (y ∷ ys) zs [] high = absurd (omega arith)
fit_append types (y ∷ ys) zs (k ∷ below) high =
    ap (λ b. fits_kind types k (kind_of y) && b) (fit_append types ys zs below (omega arith))
    ∙ sym (and_assoc (fits_kind types k (kind_of y)) (fit_places types ys below) (fit_places types zs (drop (length ys) below)))

drop_one : {X : Type 0} (n : ℕ) (xs : List X) → drop 1 (drop n xs) ≡ drop (suc n) xs
drop_one zero xs = refl
drop_one (suc n) [] = refl
drop_one (suc n) (x ∷ xs) = drop_one n xs

-- the first of the places is asked last
fit_first : (types : List TypeInfo) (r : Place) (ps : List Place) (stack : List Kind) → length ps ≤ length stack → fit_places types (reverse (r ∷ ps)) stack ≡ (fit_places types (reverse ps) stack && fit_places types (r ∷ []) (drop (length ps) stack))
fit_first types r ps stack high =
    let turned : reverse (r ∷ ps) ≡ reverse ps ++ (r ∷ []) = reverse-append (r ∷ []) ps in
    let long : length (reverse ps) ≡ length ps = length-reverse ps in
    rw turned (subst (λ n. fit_places types (reverse ps ++ (r ∷ [])) stack ≡ (fit_places types (reverse ps) stack && fit_places types (r ∷ []) (drop n stack))) long
    (fit_append types (reverse ps) (r ∷ []) stack (omega arith)))

-- arguments that don't fit don't with a receiver either
pub takes_none : (types : List TypeInfo) (receiver : Option Place) (ps : List Place) (cells : List Cell) (stack : Stack) (stop : Stop) → length (listed receiver ++ ps) ≤ length (kinds_of cells stack) → Takes types ps cells stack (Err stop) → Takes types (listed receiver ++ ps) cells stack (Err stop)
takes_none types None ps cells stack stop high takes = takes
takes_none types (Some r) ps cells stack stop high takes =
    let no : fit_places types (reverse ps) (kinds_of cells stack) ≡ false = takes.0 in
    (fit_first types r ps (kinds_of cells stack) (omega arith) ∙ ap (λ b. b && fit_places types (r ∷ []) (drop (length ps) (kinds_of cells stack))) no, takes.1)

-- the receiver is taken behind the arguments
pub takes_all : (types : List TypeInfo) (receiver : Option Place) (ps : List Place) (cells : List Cell) (stack rest : Stack) (result : Result Stack Stop) → length (listed receiver ++ ps) ≤ length (kinds_of cells stack) → Takes types ps cells stack (Ok rest) → Takes types (listed receiver) cells rest result → Takes types (listed receiver ++ ps) cells stack result
takes_all types None ps cells stack rest (Ok below) high first second = (first.0, second.1 ∙ first.1, second.2)
takes_all types None ps cells stack rest (Err stop) high first second = let wrong : true ≡ false = second.0 in absurd (cc)
takes_all types (Some r) ps cells stack rest (Ok below) high first second =
    let whole : fit_places types (reverse (r ∷ ps)) (kinds_of cells stack) ≡ (fit_places types (reverse ps) (kinds_of cells stack) && fit_places types (r ∷ []) (drop (length ps) (kinds_of cells stack))) = fit_first types r ps (kinds_of cells stack) (omega arith) in
    let fit : fit_places types (reverse (r ∷ ps)) (kinds_of cells stack) ≡ true = rw (whole, first.0, ← first.1) second.0 in
    let left : kinds_of cells below ≡ drop (suc (length ps)) (kinds_of cells stack) = second.1 ∙ ap (drop 1) first.1 ∙ drop_one (length ps) (kinds_of cells stack) in
    (fit, left, second.2)
takes_all types (Some r) ps cells stack rest (Err stop) high first second =
    let whole : fit_places types (reverse (r ∷ ps)) (kinds_of cells stack) ≡ (fit_places types (reverse ps) (kinds_of cells stack) && fit_places types (r ∷ []) (drop (length ps) (kinds_of cells stack))) = fit_first types r ps (kinds_of cells stack) (omega arith) in
    (rw (whole, first.0, ← first.1) second.0, second.1)

drop_behind : {X : Type 0} (n : ℕ) (xs : List X) → drop n (drop 1 xs) ≡ drop (suc n) xs
drop_behind n [] = drop-nil n
drop_behind n (x ∷ xs) = refl

-- the last of the places is asked first
fit_last : (types : List TypeInfo) (ps : List Place) (n : ℕ) (d : Place) (stack : List Kind) → n < length ps → 0 < length stack → fit_places types (reverse (take (suc n) ps)) stack ≡ (fit_places types (get_or ps n d ∷ []) stack && fit_places types (reverse (take n ps)) (drop 1 stack))
fit_last types ps n d stack there some =
    rw (take-suc ps n d there, reverse-append (take n ps) (get_or ps n d ∷ []))
    (fit_append types (get_or ps n d ∷ []) (reverse (take n ps)) stack (omega arith))

-- where the last one fits, so many places fit as one fewer fit what is below
pub fit_on : (types : List TypeInfo) (ps : List Place) (n : ℕ) (d : Place) (stack below : List Kind) → 0 < n → n ≤ length ps → n ≤ length stack → fit_places types (get_or ps (n - 1) d ∷ []) stack ≡ true → below ≡ drop 1 stack → fit_places types (reverse (take (n - 1) ps)) below ≡ fit_places types (reverse (take n ps)) stack
fit_on types ps n d stack below some few high fits is =
    let same : suc (n - 1) ≡ n = omega arith in
    let last : fit_places types (reverse (take (suc (n - 1)) ps)) stack ≡ (fit_places types (get_or ps (n - 1) d ∷ []) stack && fit_places types (reverse (take (n - 1) ps)) (drop 1 stack)) = fit_last types ps (n - 1) d stack (omega arith) (omega arith) in
    let all : fit_places types (reverse (take n ps)) stack ≡ fit_places types (reverse (take (n - 1) ps)) (drop 1 stack) =
    subst (λ k. fit_places types (reverse (take k ps)) stack ≡ fit_places types (reverse (take (n - 1) ps)) (drop 1 stack)) same
    (last ∙ ap (λ b. b && fit_places types (reverse (take (n - 1) ps)) (drop 1 stack)) fits) in
    rw is (sym all)

-- where the last one doesn't fit, they don't
pub fit_none : (types : List TypeInfo) (ps : List Place) (n : ℕ) (d : Place) (stack : List Kind) → 0 < n → n ≤ length ps → n ≤ length stack → fit_places types (get_or ps (n - 1) d ∷ []) stack ≡ false → fit_places types (reverse (take n ps)) stack ≡ false
fit_none types ps n d stack some few high fits =
    let same : suc (n - 1) ≡ n = omega arith in
    let last : fit_places types (reverse (take (suc (n - 1)) ps)) stack ≡ (fit_places types (get_or ps (n - 1) d ∷ []) stack && fit_places types (reverse (take (n - 1) ps)) (drop 1 stack)) = fit_last types ps (n - 1) d stack (omega arith) (omega arith) in
    subst (λ k. fit_places types (reverse (take k ps)) stack ≡ false) same (last ∙ ap (λ b. b && fit_places types (reverse (take (n - 1) ps)) (drop 1 stack)) fits)

-- what one fewer leave of what is below
pub left_on : (n : ℕ) (stack below : List Kind) → 0 < n → below ≡ drop 1 stack → drop (n - 1) below ≡ drop n stack
left_on n stack below some is =
    let same : suc (n - 1) ≡ n = omega arith in
    rw is (subst (λ k. drop (n - 1) (drop 1 stack) ≡ drop k stack) same (drop_behind (n - 1) stack))

pub high_on : (n : ℕ) (stack below : List Kind) → n ≤ length stack → below ≡ drop 1 stack → n - 1 ≤ length below
high_on n stack below high is = rw is (simp length-drop (omega arith))
