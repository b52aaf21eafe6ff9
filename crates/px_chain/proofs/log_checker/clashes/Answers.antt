use Rattle.std.proofs.Common.{◌∷◌}
use Rattle.px_chain.proofs.log_checker.clashes.Goals as goal

pub returns : goal.returns
returns c =
    let clauses = c.args.premises.now.clauses in let decisions = c.args.entry.now.decisions in
    let quiet = (c.is_quiet.ensures c.requires.closure).0 c.if-not-is_quiet.false in
    let clash = (rw c.as_slice.ensures at c.is_clash.ensures) (c.args.entry.now.last ∷ decisions) (c.decide.ensures decisions c.requires.closure) in
    (λ yes. (quiet, clash.0 yes), λ both. clash.1 both.1)
