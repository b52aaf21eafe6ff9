-- The laws of merges.
use Rattle.px_verify_kinds.proofs.Merging.{absorbs_on, given_is_absorbed, height_is_bounded, merges_fall}
use Rattle.px_verify_rounds.proofs.Gives.{Laws}

pub laws : Laws
laws = record { falls = merges_fall; given = given_is_absorbed; on = absorbs_on; bounded = height_is_bounded }
