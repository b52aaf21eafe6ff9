-- The words of domains for programs of the form that is explored: one int32 each.
use Rattle.std.proofs.Common.{◌≡◌, ℕ, ◌<◌, ◌≤◌, ◌⊎◌, inl, inr, arith, Ok, subst, List, [], ◌∷◌, Option, Some, None, Bool, true, false, length, refl, ap, sym, ◌∙◌}
use Rattle.std.specs.Prelude.{◌&&◌, map, nat_le}
use Rattle.std.specs.List.{list_all}
use Rattle.px_domain.specs.Domain.{places_of, ranges_of, size_of}
use Rattle.px_domain.specs.Givens.{AreFor, given_in, given_of, givens_of}
use Rattle.px_domain.specs.Grammar.{domain_of}
use Rattle.px_domain.specs.declared.domain.Part.{Part}
use Rattle.px_domain.specs.declared.domain.Part.TheVariants.{Array, Scalar}
use Rattle.px_domain.specs.declared.given.Given.{Given}
use Rattle.px_domain.specs.declared.given.Given.TheVariants as givens
use Rattle.px_program.specs.Arguments.{arguments_of, params_in}
use Rattle.px_program.specs.Formed.{entry_of}
use Rattle.px_program.specs.declared.program.Method.{Method}
use Rattle.px_program.specs.declared.program.Place.{Place}
use Rattle.px_program.specs.declared.program.Place.TheVariants as places
use Rattle.px_program.specs.declared.program.Program.{Program}
use Rattle.px_program.specs.declared.program.TypeInfo.{TypeInfo}
use Rattle.px_simple.specs.Simple.{fault_of}
use Rattle.px_verify.specs.Verdict.{IsTyped}
use Rattle.px_command_answers.specs.Answers.{IsUnsupported, is_explored, is_explored_method, is_int32, returns_int32}

left : (a b : Bool) → (a && b) ≡ true → a ≡ true
left true b h = refl
left false b h = absurd (cc)

right : (a b : Bool) → (a && b) ≡ true → b ≡ true
right true b h = h
right false b h = absurd (cc)

the_int32 : (place : Place) → is_int32 place ≡ true → place ≡ places.I4
the_int32 places.I4 h = refl
the_int32 places.Bool h = absurd (cc)
the_int32 places.Char h = absurd (cc)
the_int32 places.I1 h = absurd (cc)
the_int32 places.U1 h = absurd (cc)
the_int32 places.I2 h = absurd (cc)
the_int32 places.U2 h = absurd (cc)
the_int32 places.U4 h = absurd (cc)
the_int32 places.I8 h = absurd (cc)
the_int32 places.U8 h = absurd (cc)
the_int32 places.N h = absurd (cc)
the_int32 places.UN h = absurd (cc)
the_int32 (places.Ref type) h = absurd (cc)

-- the form's parts, which stand in pairs from the left
int32s : (m : Method) → is_explored_method (Some m) ≡ true → list_all is_int32 m.params ≡ true
int32s m h =
    let three = left (m.is_static && list_all is_int32 m.params && nat_le (length m.params) 4) (returns_int32 m.ret) h in
    let two = left (m.is_static && list_all is_int32 m.params) (nat_le (length m.params) 4) three in
    right m.is_static (list_all is_int32 m.params) two

int32s_in : (entry : Option Method) → is_explored_method entry ≡ true → list_all is_int32 (params_in entry) ≡ true
int32s_in None h = absurd (cc)
int32s_in (Some m) h = int32s m h

-- a part for an int32 has one word, which is one
one_word : (part : Part) (types : List TypeInfo) (place : Place) (rest : List Part) → place ≡ places.I4 → given_in part ≡ given_of types place → places_of (part ∷ rest) ≡ place ∷ places_of rest
one_word (Scalar own low high) types place rest int32 is =
    let same : given_of types place ≡ givens.Integer places.I4 = ap (given_of types) int32 in
    let both : givens.Integer own ≡ givens.Integer places.I4 = is ∙ same in
    let own_is : own ≡ places.I4 = cc in
    ap (λ p. p ∷ places_of rest) (own_is ∙ sym int32)
one_word (Array element null from to low high) types place rest int32 is =
    let same : given_of types place ≡ givens.Integer places.I4 = ap (given_of types) int32 in
    let both : givens.Array element ≡ givens.Integer places.I4 = is ∙ same in
    absurd (cc)

each_word : (types : List TypeInfo) (parts : List Part) (all : List Place) → list_all is_int32 all ≡ true → map given_in parts ≡ map (given_of types) all → places_of parts ≡ all
each_word types [] [] int32 is = refl
each_word types [] (place ∷ all) int32 is = absurd (cc)
each_word types (part ∷ parts) [] int32 is = absurd (cc)
each_word types (part ∷ parts) (place ∷ all) int32 is =
    let head : given_in part ≡ given_of types place = cc in
    let tail : map given_in parts ≡ map (given_of types) all = cc in
    one_word part types place parts (the_int32 place (left (is_int32 place) (list_all is_int32 all) int32)) head
    ∙ ap (λ rest. place ∷ rest) (each_word types parts all (right (is_int32 place) (list_all is_int32 all) int32) tail)

pub places_are : (program : Program) (parts : List Part) → is_explored program ≡ true → AreFor program parts → places_of parts ≡ arguments_of program
places_are program parts form are = each_word program.types parts (arguments_of program) (int32s_in (entry_of program) form) are

-- WHAT ISN'T EXPLORED YET

pub unsupported_form : (program seen : Program) (parts : List Part) (answer : Bool) → IsTyped program → seen ≡ program → answer ≡ is_explored seen → answer ≡ false
    → (text : List ℕ) → domain_of (givens_of program) text ≡ Ok parts → IsTyped program × IsUnsupported program text
unsupported_form program seen parts answer typed same tells none text domain =
    (typed, record { parts = parts; domain = domain; beyond = inl (inl (subst (λ p. is_explored p ≡ false) same (sym tells ∙ none))) })

more_than : (size : ℕ) → (size ≤ 1000 → ⊥) → 1000 < size
more_than size many = grind (arith, many)

pub unsupported_size : (program : Program) (parts : List Part) → IsTyped program → (size_of (ranges_of parts) ≤ 1000 → ⊥)
    → (text : List ℕ) → domain_of (givens_of program) text ≡ Ok parts → IsTyped program × IsUnsupported program text
unsupported_size program parts typed many text domain = (typed, record { parts = parts; domain = domain; beyond = inr (more_than (size_of (ranges_of parts)) many) })

pub unsupported_code : (program : Program) (parts : List Part) (at : ℕ) → IsTyped program → fault_of program ≡ Some at
    → (text : List ℕ) → domain_of (givens_of program) text ≡ Ok parts → IsTyped program × IsUnsupported program text
unsupported_code program parts at typed fault text domain = (typed, record { parts = parts; domain = domain; beyond = inl (inr (at, fault)) })
