-- The text of a stack's bottom and of the rest.
use Rattle.std.proofs.Common.{◌≡◌, ℕ, ◌-◌, ◌<◌, List, [], ◌∷◌, ◌++◌, length, take, drop, get_or, ap, arith}
use Rattle.std.proofs.lemmas.List.{take_rest}
use Rattle.std.specs.List.{flat_map}
use Rattle.px_verify_kinds.specs.declared.kind.Kind.{Kind}
use Rattle.px_command.specs.Lines.{kind_text, other_text, stack_text}

pub stack_first : (kinds : List Kind) (d : Kind) → 0 < length kinds → kind_text (get_or kinds 0 d) ++ flat_map other_text (take (length kinds - 1) (drop 1 kinds)) ≡ stack_text kinds
stack_first [] d h = absurd (omega arith)
stack_first (kind ∷ above) d h = ap (λ rest. kind_text kind ++ flat_map other_text rest) (take_rest (kind ∷ above) 1)
