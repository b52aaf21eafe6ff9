-- What answers whether a catch is for a class.
use Rattle.std.proofs.Common.{◌≡◌, ℕ, List, Option, Some, Bool, true, false, refl, sym, ap, ◌∙◌}
use Rattle.std.specs.Prelude.{◌↔◌, IsTrue}
use Rattle.px_program.specs.Formed.{AreTypes, IsKindOf}
use Rattle.px_program.specs.declared.program.TypeInfo.{TypeInfo}
use Rattle.px_verify_kinds.specs.Kinds.{is_kind_of}
use Rattle.px_verify_kinds.proofs.Lines.{by_bool, is_kind, kind_is}
use Rattle.px_unwind.specs.Clauses.{catches}

-- what answers the question is the test
kind_answer : (types : List TypeInfo) → AreTypes types → (type other : ℕ) (answer : Bool) → (IsTrue answer ↔ IsKindOf types type other) → answer ≡ is_kind_of types type other
kind_answer types are type other true tells = sym (is_kind types are type other (tells.0 refl))
kind_answer types are type other false tells = by_bool (λ b. is_kind_of types type other ≡ b → false ≡ b) (is_kind_of types type other)
    (λ kind h. tells.1 (kind_is types are type other kind))
    (λ apart h. refl)
    refl

pub catch_answer : (types : List TypeInfo) → AreTypes types → (class : ℕ) (caught : Option ℕ) (other : ℕ) (answer : Bool) → caught ≡ Some other → (IsTrue answer ↔ IsKindOf types class other) → answer ≡ catches types class caught
catch_answer types are class caught other answer for tells = kind_answer types are class other answer tells ∙ sym (ap (catches types class) for)
