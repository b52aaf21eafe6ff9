use Rattle.px_verify.proofs.One.{fault_one, not_both}
use Rattle.px_verify.proofs.law.verdict_is_one.Goals as goal

pub returns-clause-apart : goal.returns-clause-apart
returns-clause-apart c = not_both

pub returns-clause-first : goal.returns-clause-first
returns-clause-first c = fault_one
