-- What the checkers answer.
use Rattle.std.specs.Prelude.{◌≡◌, ℕ, ◌-◌, List, Option, Some, length, slice_get, option_map}
use Rattle.px_chain.specs.declared.chain.Chain.{Chain}
use Rattle.px_chain.specs.declared.chain.ChainFault.{ChainFault}
use Rattle.px_chain.specs.declared.chain.ChainFault.TheVariants as chain_faults
use Rattle.px_chain.specs.declared.chain.LogEntry.{LogEntry}
use Rattle.px_chain.specs.declared.chain.LogFault.{LogFault}
use Rattle.px_chain.specs.declared.chain.LogFault.TheVariants as log_faults
use Rattle.px_chain.specs.Clause.{Formula}
use Rattle.px_chain.specs.Propagation.{FirstBad, IsGenuineLog}
use Rattle.px_chain.specs.Resolution.{Refutes, first_fault}

-- the claim of the last chain
abbrev pub last_claim : List Chain → Option (List ℕ)
last_claim chains = option_map (λ (chain : Chain). chain.claim) (slice_get chains (length chains - 1))

-- the first chain that fails, with its reason; and the chains are no refutation
abbrev pub Blames : List (List ℕ) → List Chain → ChainFault → Type 0
Blames clauses chains chain_faults.Memory = Unit {0}
Blames clauses chains (chain_faults.BadStep step why) = (first_fault 0 clauses chains ≡ Some (step, why)) × (Refutes clauses chains → ⊥)

-- the first entry that is no genuine conflict; and the log isn't genuine
abbrev pub BlamesEntry : Formula → List LogEntry → LogFault → Type 0
BlamesEntry f log log_faults.Memory = Unit {0}
BlamesEntry f log (log_faults.BadEntry entry) = FirstBad 0 f.vars f.clauses log entry × (IsGenuineLog f log → ⊥)
