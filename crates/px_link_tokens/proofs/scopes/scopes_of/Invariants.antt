use Rattle.px_link_tokens.proofs.Around.{IsAround, scopes_left}
use Rattle.px_link_tokens.proofs.scopes.scopes_of.Given as goal

abbrev pub invariant-loop-scope : goal.invariant-loop-scope
invariant-loop-scope l = IsAround l.tables l.fn.row l.scopes.items l.at

abbrev pub decreases-loop-scope : goal.decreases-loop-scope
decreases-loop-scope l = scopes_left l.tables l.scopes.items
