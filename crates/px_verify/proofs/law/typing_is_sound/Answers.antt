use Rattle.px_verify_kinds.proofs.Merging.{absorbs_on, common_above, given_is_absorbed}
use Rattle.px_verify.proofs.Soundness.{typing_sound}
use Rattle.px_verify.proofs.law.typing_is_sound.Goals as goal

pub returns : goal.returns
returns c = typing_sound given_is_absorbed absorbs_on common_above
