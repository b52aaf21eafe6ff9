-- What stops the check of a chain.
use Rattle.std.specs.Prelude.{◌≡◌, ℕ, List, Option, Some, Result, Err}
use Rattle.px_chain.specs.declared.chain.ChainFault.{ChainFault}
use Rattle.px_chain.specs.declared.chain.ChainFault.TheVariants as chain_faults
use Rattle.px_chain.specs.declared.chain.Why.{Why}
use Rattle.px_chain.specs.declared.fault.Fault.{Fault}
use Rattle.px_chain.specs.declared.fault.Fault.TheVariants as faults

-- a fault of the chain is the one that the definition has
abbrev pub IsFaultOf : Result (List ℕ) Why → Fault → Type 0
IsFaultOf r faults.Memory = Unit {0}
IsFaultOf r (faults.Chain why) = r ≡ Err why

-- the same of a chain with its claim
abbrev pub IsBlamed : Option Why → Fault → Type 0
IsBlamed fault faults.Memory = Unit {0}
IsBlamed fault (faults.Chain why) = fault ≡ Some why

-- a fault with the number of its chain
abbrev pub blamed : ℕ → Fault → ChainFault
blamed step faults.Memory = chain_faults.Memory
blamed step (faults.Chain why) = chain_faults.BadStep step why
