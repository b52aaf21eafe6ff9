use Rattle.px_verify_kinds.proofs.Merging.{absorbs_on, common_above, fits_are_ordered, given_is_absorbed, height_is_bounded, merges_fall}
use Rattle.px_verify_kinds.proofs.law.merges_settle.Goals as goal

pub returns-clause-falls : goal.returns-clause-falls
returns-clause-falls c = merges_fall

pub returns-clause-absorbed : goal.returns-clause-absorbed
returns-clause-absorbed c = given_is_absorbed

pub returns-clause-on : goal.returns-clause-on
returns-clause-on c = absorbs_on

pub returns-clause-bounded : goal.returns-clause-bounded
returns-clause-bounded c = height_is_bounded

pub returns-clause-above : goal.returns-clause-above
returns-clause-above c = common_above

pub returns-clause-ordered : goal.returns-clause-ordered
returns-clause-ordered c = fits_are_ordered
