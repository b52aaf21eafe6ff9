-- Texts of a first element and of the rest.
use Rattle.std.proofs.Common.{◌≡◌, ℕ, ◌-◌, ◌<◌, List, [], ◌∷◌, ◌++◌, length, take, drop, get_or, ap, ◌∙◌, arith}
use Rattle.std.proofs.lemmas.List.{take_rest}
use Rattle.std.specs.List.{flat_map}
use Rattle.px_domain.specs.declared.domain.Part.{Part}
use Rattle.px_domain.specs.Domain.{word_count}
use Rattle.px_domain.specs.Text.{arg_text, arg_texts, domain_text, number_text, numbers_text, part_text}
use Rattle.px_program.specs.declared.program.Place.{Place}
use Rattle.px_program.specs.declared.record.Event.{Event}
use Rattle.px_tests.specs.Numbers.{spaced_text}
use Rattle.px_tests.specs.Text.{comma_event_text, event_text, path_text}

pub path_first : (events : List Event) (d : Event) → 0 < length events → event_text (get_or events 0 d) ++ flat_map comma_event_text (take (length events - 1) (drop 1 events)) ≡ path_text events
path_first [] d h = absurd (omega arith)
path_first (e ∷ es) d h = ap (λ rest. event_text e ++ flat_map comma_event_text rest) (take_rest (e ∷ es) 1)

pub domain_first : (parts : List Part) (d : Part) → 0 < length parts → part_text (get_or parts 0 d) ++ flat_map part_text (take (length parts - 1) (drop 1 parts)) ≡ domain_text parts
domain_first [] d h = absurd (omega arith)
domain_first (p ∷ ps) d h = ap (λ rest. part_text p ++ flat_map part_text rest) (take_rest (p ∷ ps) 1)

pub numbers_first : (place : Place) (words : List ℕ) (d : ℕ) → 0 < length words → number_text place (get_or words 0 d) ++ flat_map (spaced_text place) (take (length words - 1) (drop 1 words)) ≡ numbers_text place words
numbers_first place [] d h = absurd (omega arith)
numbers_first place (w ∷ ws) d h = ap (λ rest. number_text place w ++ flat_map (spaced_text place) rest) (take_rest (w ∷ ws) 1)

pub arg_first : (part : Part) (words : List ℕ) (d : ℕ) → 0 < length words → arg_text part (get_or words 0 d ∷ take (length words - 1) (drop 1 words)) ≡ arg_text part words
arg_first part [] d h = absurd (omega arith)
arg_first part (w ∷ ws) d h = ap (λ rest. arg_text part (w ∷ rest)) (take_rest (w ∷ ws) 1)

pub args_first : (parts : List Part) (words : List ℕ) (d : Part) → 0 < length parts
    → arg_text (get_or parts 0 d) (take (word_count (get_or parts 0 d)) words) ++ arg_texts (take (length parts - 1) (drop 1 parts)) (drop (word_count (get_or parts 0 d)) words) ≡ arg_texts parts words
args_first [] words d h = absurd (omega arith)
args_first (p ∷ ps) words d h = ap (λ rest. arg_text p (take (word_count p) words) ++ arg_texts rest (drop (word_count p) words)) (take_rest (p ∷ ps) 1)

-- the same, with the words that are split off
pub args_split : (parts : List Part) (words own others : List ℕ) (d : Part) (n : ℕ) → 0 < length parts → n ≡ word_count (get_or parts 0 d) → own ≡ take n words → others ≡ drop n words
    → arg_text (get_or parts 0 d) own ++ arg_texts (take (length parts - 1) (drop 1 parts)) others ≡ arg_texts parts words
args_split parts words own others d n some is front back =
    ap (λ ws. arg_text (get_or parts 0 d) ws ++ arg_texts (take (length parts - 1) (drop 1 parts)) others) (front ∙ ap (λ k. take k words) is)
    ∙ ap (λ ws. arg_text (get_or parts 0 d) (take (word_count (get_or parts 0 d)) words) ++ arg_texts (take (length parts - 1) (drop 1 parts)) ws) (back ∙ ap (λ k. drop k words) is)
    ∙ args_first parts words d some
