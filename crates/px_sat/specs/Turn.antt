-- What a turn of the search comes to.
use Rattle.std.specs.Prelude.{◌≡◌, []}
use Rattle.px_chain.specs.Propagation.{IsGenuine}
use Rattle.px_chain.specs.Resolution.{Derives}
use Rattle.px_trail.specs.Trail.{IsQuiet, View}
use Rattle.px_sat.specs.declared.turn.Turn.{Turn}
use Rattle.px_sat.specs.declared.turn.Turn.TheVariants.{Met, Refuted, Learnt}
use Rattle.px_sat.specs.Descent.{IsWhole}
use Rattle.px_sat.specs.Search.{AreValues}

-- the values of a whole assignment of which nothing more follows; a chain to the empty clause; or an entry that is genuine over the clauses
abbrev pub TurnsTo : View → Turn → Type 0
TurnsTo v (Met values) = IsQuiet v × IsWhole v × AreValues v values
TurnsTo v (Refuted chain) = Derives v.clauses chain × (chain.claim ≡ [])
TurnsTo v (Learnt entry) = IsGenuine v.vars v.clauses entry
