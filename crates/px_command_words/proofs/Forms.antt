-- Words of the form.
use Rattle.std.proofs.Common.{◌≡◌, ℕ, suc, ◌+◌, ◌<◌, List, [], ◌∷◌, length, drop, get_or, Bool, true, false, Option, Some, None, refl, sym, ap, ◌∙◌, add-one, drop-cons, arith}
use Rattle.std.specs.Prelude.{codes, if◌then◌else◌, ◌||◌}
use Rattle.std.specs.Str.{bytes_eq}
use Rattle.std.proofs.lemmas.Slice.Eq.{bytes_eq-Decides}
use Rattle.px_command_words.specs.declared.words.Target.{Target}
use Rattle.px_command_words.specs.Words.{AsksFor, IsTyped, command_in, command_of, fits, is_command, is_target, misfit, misfit_from, word_of}

-- the next word: it fits and the rest is looked at, or it is the misfit
pub misfit_step : (command : List ℕ) (words : List (List ℕ)) (k : ℕ) (word : List ℕ) → k < length words → word ≡ get_or words k word
    → misfit_from command k (drop k words) ≡ (if fits command k word then misfit_from command (k + 1) (drop (k + 1) words) else Some k)
misfit_step command words k word h is =
    ap (λ ws. misfit_from command k ws) (drop-cons words k word h)
    ∙ ap (λ w. misfit_from command k (w ∷ drop (suc k) words)) (sym is)
    ∙ ap (λ n. if fits command k word then misfit_from command (k + 1) (drop n words) else Some k) (sym (add-one k))

-- where there is no misfit, the first word fits and the rest has none
step : (b : Bool) (k : ℕ) (rest : Option ℕ) → (if b then rest else Some k) ≡ None → (b ≡ true) × (rest ≡ None)
step true k rest h = (refl, h)
step false k rest h = absurd (cc)

pub equal : (xs ys : List ℕ) → bytes_eq xs ys ≡ true → xs ≡ ys
equal xs ys h = (bytes_eq-Decides xs ys).0 h

pub first_word : (words : List (List ℕ)) (d : List ℕ) → 0 < length words → get_or words 0 d ≡ command_in words
first_word [] d h = absurd (omega arith)
first_word (word ∷ words) d h = refl

-- Words without a misfit: they are five, and each fits.
record Five (words : List (List ℕ)) : Type 0 where
  a : List ℕ
  b : List ℕ
  c : List ℕ
  d : List ℕ
  e : List ℕ
  same : words ≡ a ∷ b ∷ c ∷ d ∷ e ∷ []
  command : is_command a ≡ true
  target : is_target a c ≡ true
  option : bytes_eq d (codes "--domain") ≡ true

five : (words : List (List ℕ)) → misfit words ≡ None → Five words
five [] h = absurd (cc)
five (a ∷ []) h = let s = step (fits a 0 a) 0 _ h in let f = s.1 in absurd (cc)
five (a ∷ b ∷ []) h = let s = step (fits a 0 a) 0 _ h in let t = step (fits a 1 b) 1 _ s.1 in let f = t.1 in absurd (cc)
five (a ∷ b ∷ c ∷ []) h =
    let s = step (fits a 0 a) 0 _ h in let t = step (fits a 1 b) 1 _ s.1 in let u = step (fits a 2 c) 2 _ t.1 in let f = u.1 in absurd (cc)
five (a ∷ b ∷ c ∷ d ∷ []) h =
    let s = step (fits a 0 a) 0 _ h in let t = step (fits a 1 b) 1 _ s.1 in let u = step (fits a 2 c) 2 _ t.1 in
    let v = step (fits a 3 d) 3 _ u.1 in let f = v.1 in absurd (cc)
five (a ∷ b ∷ c ∷ d ∷ e ∷ []) h =
    let s = step (fits a 0 a) 0 _ h in let t = step (fits a 1 b) 1 _ s.1 in let u = step (fits a 2 c) 2 _ t.1 in let v = step (fits a 3 d) 3 _ u.1 in
    record { a = a; b = b; c = c; d = d; e = e; same = refl; command = s.0; target = u.0; option = v.0 }
five (a ∷ b ∷ c ∷ d ∷ e ∷ f ∷ words) h =
    let s = step (fits a 0 a) 0 _ h in let t = step (fits a 1 b) 1 _ s.1 in let u = step (fits a 2 c) 2 _ t.1 in
    let v = step (fits a 3 d) 3 _ u.1 in let w = step (fits a 4 e) 4 _ v.1 in let g = w.1 in absurd (cc)

pub five_long : (words : List (List ℕ)) → misfit words ≡ None → length words ≡ 5
five_long words h = let f = five words h in ap (λ ws. length ws) f.same

-- the first of five words that fit is a command
pub first_commands : (words : List (List ℕ)) (command d : List ℕ) → misfit words ≡ None → command ≡ get_or words 0 d → is_command command ≡ true
first_commands words command d h is =
    let f = five words h in
    let e : command ≡ f.a = is ∙ ap (λ ws. get_or ws 0 d) f.same in
    ap (λ w. is_command w) e ∙ f.command

-- and the third says what is explored
pub third_tells : (words : List (List ℕ)) (command word d0 d2 : List ℕ) → misfit words ≡ None → command ≡ get_or words 0 d0 → word ≡ get_or words 2 d2 → is_target command word ≡ true
third_tells words command word d0 d2 h is_first is_third =
    let f = five words h in
    let a : command ≡ f.a = is_first ∙ ap (λ ws. get_or ws 0 d0) f.same in
    let c : word ≡ f.c = is_third ∙ ap (λ ws. get_or ws 2 d2) f.same in
    ap (λ w. is_target w word) a ∙ ap (λ w. is_target f.a w) c ∙ f.target

-- what five words that fit ask for
pub asks_for : (words : List (List ℕ)) (command file word text : List ℕ) (target : Target) (d0 d1 d2 d4 : List ℕ) → misfit words ≡ None
    → command ≡ get_or words 0 d0 → file ≡ get_or words 1 d1 → word ≡ get_or words 2 d2 → text ≡ get_or words 4 d4
    → command ≡ command_of target → word ≡ word_of target → IsTyped target → AsksFor words file target text
asks_for words command file word text target d0 d1 d2 d4 h is_first is_file is_third is_text commands names typed =
    let f = five words h in
    let a : command_of target ≡ f.a = sym commands ∙ is_first ∙ ap (λ ws. get_or ws 0 d0) f.same in
    let b : file ≡ f.b = is_file ∙ ap (λ ws. get_or ws 1 d1) f.same in
    let c : word_of target ≡ f.c = sym names ∙ is_third ∙ ap (λ ws. get_or ws 2 d2) f.same in
    let d : f.d ≡ codes "--domain" = equal f.d (codes "--domain") f.option in
    let e : text ≡ f.e = is_text ∙ ap (λ ws. get_or ws 4 d4) f.same in
    record {
      form = f.same ∙ ap (λ w. w ∷ f.b ∷ f.c ∷ f.d ∷ f.e ∷ []) (sym a) ∙ ap (λ w. command_of target ∷ w ∷ f.c ∷ f.d ∷ f.e ∷ []) (sym b)
          ∙ ap (λ w. command_of target ∷ file ∷ w ∷ f.d ∷ f.e ∷ []) (sym c) ∙ ap (λ w. command_of target ∷ file ∷ word_of target ∷ w ∷ f.e ∷ []) d
          ∙ ap (λ w. command_of target ∷ file ∷ word_of target ∷ codes "--domain" ∷ w ∷ []) (sym e);
      accepted = h;
      typed = typed;
    }

left : (a b : Bool) → (a || b) ≡ true → b ≡ false → a ≡ true
left true b h differs = refl
left false b h differs = absurd (cc)

-- a command of the two that isn't the one is the other
pub other_command : (command : List ℕ) → is_command command ≡ true → bytes_eq command (codes "explore") ≡ false → command ≡ codes "explore-raw"
other_command command h differs = equal command (codes "explore-raw") (left (bytes_eq command (codes "explore-raw")) (bytes_eq command (codes "explore")) h differs)
