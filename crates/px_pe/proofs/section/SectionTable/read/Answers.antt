use Rattle.std.proofs.Common.{◌∙◌, sym}
use Rattle.px_pe.proofs.Steps.{check_more}
use Rattle.px_pe.proofs.section.SectionTable.read.Goals as goal

pub loop-n-preserved : goal.loop-n-preserved
loop-n-preserved c =
    let sound = rw c.from.ensures at (sym c.check_section.ensures ∙ c.in_ok-check_section.was) in
    c.loop-n.invariant ∙ check_more _ _ _ _ c.loop-n-test.true sound
