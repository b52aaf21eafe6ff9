use Rattle.std.proofs.Common.{◌≡◌, ◌++◌, List, ℕ, suc, length, vec_len, Some}
use Rattle.px_program.specs.Fields.{fields_along}
use Rattle.px_program.specs.Formed.{base_of}
use Rattle.px_program.proofs.Slots.{IsFrom}
use Rattle.px_program.proofs.Walks.{steps_left}
use Rattle.px_program.proofs.program.Program.all_fields.Given as goal

-- with what follows they are the class and its bases
abbrev pub invariant-loop-at : goal.invariant-loop-at
invariant-loop-at l = (rest : List ℕ) → IsFrom (base_of l.self.types) l.at rest → IsFrom (base_of l.self.types) (Some l.class) (l.chain.items ++ rest)

abbrev pub decreases-loop-at : goal.decreases-loop-at
decreases-loop-at l = steps_left (base_of l.self.types) (suc (length l.self.types)) l.at

-- with the fields of what is left they are the fields of all
abbrev pub invariant-loop-type_number : goal.invariant-loop-type_number
invariant-loop-type_number l = l.fields.items ++ fields_along l.self.types l.chain.items ≡ fields_along l.self.types l.initial.chain.items

abbrev pub decreases-loop-type_number : goal.decreases-loop-type_number
decreases-loop-type_number l = vec_len l.chain
