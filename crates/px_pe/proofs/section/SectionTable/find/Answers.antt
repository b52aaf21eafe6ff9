use Rattle.std.proofs.Common.{◌∙◌, sym}
use Rattle.px_pe.proofs.Steps.{data_within, find_here, find_more, header_within, sound_more}
use Rattle.px_pe.proofs.section.SectionTable.find.Goals as goal

pub section_in-section-requires : goal.section_in-section-requires
section_in-section-requires c =
    let sound = sound_more _ _ _ _ c.loop-n-test.true c.loop-n.invariant.sound in rw c.from.ensures (header_within _ _ sound.0)

pub returns-then-holds-clause-first : goal.returns-then-holds-clause-first
returns-then-holds-clause-first c =
    let held = rw (c.section_in-section.ensures, c.from.ensures) at (sym c.holds.ensures ∙ c.if-holds.true) in
    rw (c.section_in-section.ensures, c.from.ensures, ← c.self.view_is) (sym (c.loop-n.invariant.first ∙ find_here _ _ _ _ _ _ c.loop-n-test.true held))

pub returns-then-holds-clause-lies : goal.returns-then-holds-clause-lies
returns-then-holds-clause-lies c =
    let sound = sound_more _ _ _ _ c.loop-n-test.true c.loop-n.invariant.sound in
    rw (c.section_in-section.ensures, c.from.ensures, ← c.self.view_is) (data_within _ _ sound.0)

pub loop-n-preserved : goal.loop-n-preserved
loop-n-preserved c =
    let sound = sound_more _ _ _ _ c.loop-n-test.true c.loop-n.invariant.sound in
    let not_held = rw (c.section_in-section.ensures, c.from.ensures) at (sym c.holds.ensures ∙ c.if-holds.false) in
    record { sound = sound.1; first = c.loop-n.invariant.first ∙ find_more _ _ _ _ _ _ c.loop-n-test.true not_held }
