-- For each offset the number of the instruction that starts there.
use Rattle.std.proofs.Common.{◌≡◌, ◌≢◌, inl, inr, ℕ, zero, suc, ◌+◌, ◌-◌, ◌^◌, ◌<◌, ◌≤◌, Bool, true, false, ◌==◌, cond, List, [], ◌∷◌, ◌++◌, length, take, replicate, Option, Some, None, Result, Ok, Err, refl, ap, sym, ◌∙◌, subst, arith}
use Rattle.std.specs.Prelude.{IfOk, find, get_or, slice_get, slice_set}
use Rattle.std.specs.declared.alloc.AllocError.{AllocError}
use Rattle.std.proofs.Math.Seq.{take-length}
use Rattle.std.proofs.lemmas.Bool.Decides.{eqb_tells}
use Rattle.std.proofs.lemmas.List.{length-replicate, length-set}
use Rattle.std.proofs.lemmas.Option.{slice_get-get_or, slice_get_within}
use Rattle.px_program.specs.Alike.{AreAlike}
use Rattle.px_program.specs.Formed.{Follow, end_of, instr_at}
use Rattle.px_program.specs.declared.instr.Instr.{Instr}
use Rattle.px_program.specs.declared.program.Method.{Method}
use Rattle.px_program.proofs.Likeness.{length_pushed, pushed_cases}
use Rattle.px_verify.proofs.Finding.{by_bool}
use Rattle.px_verify_rounds.proofs.Gives.{get_set, get_set_other}
use Rattle.px_verify.specs.Numbering.{ArePlaced, ArePlaces, AreTables, AreTabled, IsPlace, at_place, instr_by}

-- OFFSETS RISE

-- the code is at least as long as it has instructions
short_code : (i : Instr) (rest : List Instr) (at : ℕ) → Follow at (i ∷ rest) → at + length (i ∷ rest) ≤ end_of (i ∷ rest)
short_code i [] at follow = omega (arith, follow.1)
short_code i (j ∷ rest) at follow = let later : i.next + length (j ∷ rest) ≤ end_of (j ∷ rest) = short_code j rest i.next follow.2 in omega (arith, later, follow.1)

pub count_within : (code : List Instr) → Follow 0 code → length code ≤ end_of code
count_within [] follow = omega arith
count_within (i ∷ rest) follow = let all : 0 + length (i ∷ rest) ≤ end_of (i ∷ rest) = short_code i rest 0 follow in omega (arith, all)

at_least : (code : List Instr) (at number : ℕ) (i : Instr) → Follow at code → slice_get code number ≡ Some i → at ≤ i.offset
at_least [] at number i follow is = absurd (cc)
at_least (j ∷ rest) at zero i follow is = let same : j ≡ i = cc (is) in let first : j.offset ≡ at = follow.0 in let here : i.offset ≡ at = sym (ap (λ (k : Instr). k.offset) same) ∙ first in omega (arith, here)
at_least (j ∷ rest) at (suc number) i follow is = let later : j.next ≤ i.offset = at_least rest j.next number i follow.2 is in omega (arith, later, follow.1)

pub offset_within : (code : List Instr) (at number : ℕ) (i : Instr) → Follow at code → slice_get code number ≡ Some i → i.offset < end_of code
offset_within [] at number i follow is = absurd (cc)
offset_within (j ∷ []) at zero i follow is = let same : j ≡ i = cc (is) in subst (λ (k : Instr). k.offset < end_of (j ∷ [])) same (omega (arith, follow.0, follow.1))
offset_within (j ∷ []) at (suc number) i follow is = absurd (cc)
offset_within (j ∷ k ∷ rest) at zero i follow is =
    let same : j ≡ i = cc (is) in
    let later : k.offset < end_of (k ∷ rest) = offset_within (k ∷ rest) j.next 0 k follow.2 refl in
    subst (λ (it : Instr). it.offset < end_of (j ∷ k ∷ rest)) same (omega (arith, later, follow.0, follow.1, follow.2.0))
offset_within (j ∷ k ∷ rest) at (suc number) i follow is = offset_within (k ∷ rest) j.next number i follow.2 is

-- WHAT IS FOUND

abbrev or_else : {X : Type 0} → Option X → Option X → Option X
or_else None later = later
or_else (Some x) later = Some x

-- what is found among one more
one_more : {X : Type 0} (test : X → Bool) (xs : List X) (number : ℕ) (x : X) → slice_get xs number ≡ Some x → find test (take (suc number) xs) ≡ or_else (find test (take number xs)) (cond (test x) (Some x) None)
one_more test [] number x is = absurd (cc)
one_more test (y ∷ ys) zero x is = let same : y ≡ x = cc (is) in subst (λ z. cond (test y) (Some y) None ≡ cond (test z) (Some z) None) same refl
one_more test (y ∷ ys) (suc number) x is =
    by_bool (λ b. cond b (Some y) (find test (take (suc number) ys)) ≡ or_else (cond b (Some y) (find test (take number ys))) (cond (test x) (Some x) None)) (test y)
    (λ _. refl) (λ _. one_more test ys number x is)

same_test : (a b : ℕ) → a ≡ b → (a == b) ≡ true
same_test a b same = elim (eqb_tells a b) [
  | inl is ↦ is.0
  | inr apart ↦ absurd (apart.1 same)
]

apart_test : (a b : ℕ) → a ≢ b → (a == b) ≡ false
apart_test a b differ = elim (eqb_tells a b) [
  | inl is ↦ absurd (differ is.1)
  | inr apart ↦ apart.0
]

-- none of those before an instruction starts at its offset
fresh : (code : List Instr) (at number : ℕ) (i : Instr) → Follow at code → slice_get code number ≡ Some i → instr_at (take number code) i.offset ≡ None
fresh [] at number i follow is = absurd (cc)
fresh (j ∷ rest) at zero i follow is = refl
fresh (j ∷ rest) at (suc number) i follow is =
    let later : j.next ≤ i.offset = at_least rest j.next number i follow.2 is in
    let none : instr_at (take number rest) i.offset ≡ None = fresh rest j.next number i follow.2 is in
    let apart : (j.offset == i.offset) ≡ false = apart_test j.offset i.offset (λ same. absurd (omega (arith, same, later, follow.0, follow.1))) in
    rw apart none

abbrev starts_at : ℕ → Instr → Bool
starts_at at i = i.offset == at

found_here : (code : List Instr) (number : ℕ) (i : Instr) → Follow 0 code → slice_get code number ≡ Some i → instr_at (take (suc number) code) i.offset ≡ Some i
found_here code number i follow is =
    let none : find (starts_at i.offset) (take number code) ≡ None = fresh code 0 number i follow is in
    let here : (i.offset == i.offset) ≡ true = same_test i.offset i.offset refl in
    one_more (starts_at i.offset) code number i is ∙ ap (λ o. or_else o (cond (i.offset == i.offset) (Some i) None)) none ∙ ap (λ b. cond b (Some i) None) here

none_found : {X : Type 0} (o : Option X) → or_else o None ≡ o
none_found None = refl
none_found (Some x) = refl

found_before : (code : List Instr) (number at : ℕ) (i : Instr) → slice_get code number ≡ Some i → i.offset ≢ at → instr_at (take (suc number) code) at ≡ instr_at (take number code) at
found_before code number at i is differ =
    let other : (i.offset == at) ≡ false = apart_test i.offset at differ in
    one_more (starts_at at) code number i is ∙ ap (λ b. or_else (instr_at (take number code) at) (cond b (Some i) None)) other ∙ none_found (instr_at (take number code) at)

-- WHAT IS READ

taken_here : {X : Type 0} (xs : List X) (number : ℕ) (x : X) → slice_get xs number ≡ Some x → slice_get (take (suc number) xs) number ≡ Some x
taken_here [] number x is = absurd (cc)
taken_here (y ∷ ys) zero x is = is
taken_here (y ∷ ys) (suc number) x is = taken_here ys number x is

taken_before : {X : Type 0} (xs : List X) (number place : ℕ) → place < number → slice_get (take (suc number) xs) place ≡ slice_get (take number xs) place
taken_before xs zero place less = absurd (omega arith)
taken_before [] (suc number) place less = refl
taken_before (y ∷ ys) (suc number) zero less = refl
taken_before (y ∷ ys) (suc number) (suc place) less = taken_before ys number place (omega arith)

taken_past : {X : Type 0} (xs : List X) (number place : ℕ) → number ≤ place → slice_get (take number xs) place ≡ None
taken_past xs zero place past = refl
taken_past [] (suc number) place past = refl
taken_past (y ∷ ys) (suc number) zero past = absurd (omega arith)
taken_past (y ∷ ys) (suc number) (suc place) past = taken_past ys number place (omega arith)

read_more : (code : List Instr) (number : ℕ) (o : Option ℕ) → number < 2 ^ 32 - 1 → ((place : ℕ) → o ≡ Some place → IsPlace number place) → at_place (take (suc number) code) o ≡ at_place (take number code) o
read_more code number None few places = refl
read_more code number (Some place) few places = elim (places place refl) [
  | inl earlier ↦ taken_before code number place earlier
  | inr nowhere ↦ taken_past code (suc number) place (omega (arith, nowhere, few)) ∙ sym (taken_past code number place (omega (arith, nowhere, few)))
]

-- PLACES

nowhere_at : (size at place : ℕ) → slice_get (replicate size (2 ^ 32 - 1)) at ≡ Some place → place ≡ 2 ^ 32 - 1
nowhere_at zero at place is = absurd (cc)
nowhere_at (suc size) zero place is = let same : 2 ^ 32 - 1 ≡ place = cc (is) in sym same
nowhere_at (suc size) (suc at) place is = nowhere_at size at place is

no_place : (o : Option ℕ) → at_place [] o ≡ None
no_place None = refl
no_place (Some place) = refl

pub none_placed : (code : List Instr) (size : ℕ) → size ≡ end_of code → ArePlaced code 0 (replicate size (2 ^ 32 - 1))
none_placed code size is = record {
  size = length-replicate size (2 ^ 32 - 1) ∙ is;
  numbers = λ at place read. inr (nowhere_at size at place read);
  found = λ at. no_place (slice_get (replicate size (2 ^ 32 - 1)) at);
}

same_number : (a b : ℕ) → Some a ≡ Some b → a ≡ b
same_number a b same = cc

place_on : (number place : ℕ) → IsPlace number place → IsPlace (suc number) place
place_on number place (inl less) = inl (omega arith)
place_on number place (inr nowhere) = inr nowhere

-- the place of one instruction more
pub placed_more : (code : List Instr) (number : ℕ) (i : Instr) (places : List ℕ) → Follow 0 code → number < 2 ^ 32 - 1 → slice_get code number ≡ Some i → ArePlaced code number places → ArePlaced code (suc number) (slice_set places i.offset number)
placed_more code number i places follow few is placed =
    let within : i.offset < length places = omega (arith, placed.size, offset_within code 0 number i follow is) in
    let set : slice_get (slice_set places i.offset number) i.offset ≡ Some number = get_set places i.offset (get_or places i.offset 0) number (slice_get-get_or places i.offset 0 within) in
    record {
      size = length-set places i.offset number ∙ placed.size;
      numbers = λ at place read. elim (eqb_tells at i.offset) [
        | inl same ↦ let its : place ≡ number = sym (same_number number place (sym set ∙ ap (slice_get (slice_set places i.offset number)) (sym same.1) ∙ read)) in inl (omega (arith, its))
        | inr apart ↦ place_on number place (placed.numbers at place (sym (get_set_other places i.offset at number apart.1) ∙ read))
      ];
      found = λ at. elim (eqb_tells i.offset at) [
        | inl same ↦ subst (λ o. instr_by (take (suc number) code) (slice_set places i.offset number) o ≡ instr_at (take (suc number) code) o) same.1
            (ap (at_place (take (suc number) code)) set ∙ taken_here code number i is ∙ sym (found_here code number i follow is))
        | inr apart ↦
            let other : slice_get (slice_set places i.offset number) at ≡ slice_get places at = get_set_other places i.offset at number (λ same. apart.1 (sym same)) in
            ap (at_place (take (suc number) code)) other ∙ read_more code number (slice_get places at) few (λ place read. placed.numbers at place read) ∙ placed.found at ∙ sym (found_before code number at i is apart.1)
      ];
    }

pub all_placed : (code : List Instr) (count : ℕ) (places : List ℕ) → count ≡ length code → ArePlaced code count places → ArePlaces code places
all_placed code count places all placed = subst (λ it. ArePlaces it places) (ap (λ n. take n code) all ∙ take-length code) placed.found

-- TABLES

taken_at : {X : Type 0} (xs : List X) (number place : ℕ) → place < number → slice_get (take number xs) place ≡ slice_get xs place
taken_at xs zero place less = absurd (omega arith)
taken_at [] (suc number) place less = refl
taken_at (y ∷ ys) (suc number) zero less = refl
taken_at (y ∷ ys) (suc number) (suc place) less = taken_at ys number place (omega arith)

length_more : {X : Type 0} (xs : List X) (number : ℕ) → number < length xs → length (take (suc number) xs) ≡ suc (length (take number xs))
length_more [] number less = absurd (omega arith)
length_more (y ∷ ys) zero less = refl
length_more (y ∷ ys) (suc number) less = ap suc (length_more ys number (omega arith))

length_taken : {X : Type 0} (xs : List X) (number : ℕ) → number ≤ length xs → length (take number xs) ≡ number
length_taken xs zero less = refl
length_taken [] (suc number) less = absurd (omega arith)
length_taken (y ∷ ys) (suc number) less = ap suc (length_taken ys number (omega arith))

pub no_tables : (methods : List Method) → AreTabled methods 0 []
no_tables methods = record { count = refl; each = λ number method places at is. absurd (cc) }

same_method : (a b : Method) → Some a ≡ Some b → a ≡ b
same_method a b same = cc

-- the list of one method more
pub tabled_more : (methods : List Method) (number : ℕ) (method : Method) (tables : List (List ℕ)) (places : List ℕ) → slice_get methods number ≡ Some method → AreTabled methods number tables → ArePlaces method.code places → AreTabled methods (suc number) (tables ++ places ∷ [])
tabled_more methods number method tables places is tabled are =
    let within : number < length methods = slice_get_within methods number method is in
    let size : length tables ≡ number = tabled.count ∙ length_taken methods number (omega (arith, within)) in
    record {
      count = length_pushed tables places ∙ ap suc tabled.count ∙ sym (length_more methods number within);
      each = λ k other others at read. elim (pushed_cases tables places k others read) [
        | inl there ↦
            let earlier : k < number = omega (arith, size, slice_get_within tables k others there) in
            tabled.each k other others (sym (taken_before methods number k earlier) ∙ at) there
        | inr last ↦
            let here : k ≡ number = last.0 ∙ size in
            let its : method ≡ other = same_method method other (sym (taken_here methods number method is) ∙ sym (ap (slice_get (take (suc number) methods)) here) ∙ at) in
            subst (λ it. ArePlaces it.code others) its (subst (ArePlaces method.code) last.1 are)
      ];
    }

-- a method that is like an earlier one has its list
pub places_shared : (methods : List Method) (number first : ℕ) (method : Method) (tables : List (List ℕ)) (places : List ℕ) → AreTabled methods number tables → number < length methods → first < number → slice_get methods number ≡ Some method
    → ((one other : Method) → slice_get methods first ≡ Some one → slice_get methods number ≡ Some other → AreAlike one other) → slice_get tables first ≡ Some places → ArePlaces method.code places
places_shared methods number first method tables places tabled within earlier is alike read =
    let one : Method = get_or methods first method in
    let one_at : slice_get methods first ≡ Some one = slice_get-get_or methods first method (omega (arith, earlier, within)) in
    let are : ArePlaces one.code places = tabled.each first one places (taken_at methods number first earlier ∙ one_at) read in
    subst (λ code. ArePlaces code places) (alike one method one_at is).code are

pub all_tabled : (methods : List Method) (count : ℕ) (tables : List (List ℕ)) → count ≡ length methods → AreTabled methods count tables → AreTables methods tables
all_tabled methods count tables all tabled = subst (λ it. AreTables it tables) (ap (λ n. take n methods) all ∙ take-length methods) tabled

-- WHILE THEY ARE MADE

pub item_at : (code : List Instr) (number : ℕ) (i : Instr) → number < length code → i ≡ get_or code number i → slice_get code number ≡ Some i
item_at code number i within is = slice_get-get_or code number i within ∙ ap Some (sym is)

shared_ok : (result : Result (List ℕ) AllocError) (places : List ℕ) (P : List ℕ → Type 0) → IfOk result (λ it. it ≡ places) → P places → IfOk result P
shared_ok (Ok it) places P same holds = subst P (sym same) holds
shared_ok (Err fault) places P same holds = tt

-- the list of an earlier method, shared
pub places_handed : (methods : List Method) (number first : ℕ) (method : Method) (tables : List (List ℕ)) (places : List ℕ) (result : Result (List ℕ) AllocError) → AreTabled methods number tables → first < number → slice_get methods number ≡ Some method
    → ((one other : Method) → slice_get methods first ≡ Some one → slice_get methods number ≡ Some other → AreAlike one other) → places ≡ get_or tables first places → IfOk result (λ it. it ≡ places) → IfOk result (ArePlaces method.code)
places_handed methods number first method tables places result tabled earlier is alike read same =
    let within : number < length methods = slice_get_within methods number method is in
    let size : length tables ≡ number = tabled.count ∙ length_taken methods number (omega (arith, within)) in
    let at : slice_get tables first ≡ Some places = slice_get-get_or tables first places (omega (arith, size, earlier)) ∙ ap Some (sym read) in
    shared_ok result places (ArePlaces method.code) same (places_shared methods number first method tables places tabled within earlier is alike at)

pub placed_next : (code : List Instr) (number : ℕ) (i : Instr) (places : List ℕ) → Follow 0 code → number < 2 ^ 32 - 1 → slice_get code number ≡ Some i → ArePlaced code number places → ArePlaced code (number + 1) (slice_set places i.offset number)
placed_next code number i places follow few is placed =
    let next : suc number ≡ number + 1 = omega arith in
    subst (λ n. ArePlaced code n (slice_set places i.offset number)) next (placed_more code number i places follow few is placed)
