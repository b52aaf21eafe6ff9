use Rattle.std.proofs.Common.{◌≡◌, ◌+◌, ◌*◌, ◌-◌}
use Rattle.px_pe.specs.Section.{check_sections}
use Rattle.px_pe.proofs.section.SectionTable.read.Given as goal

-- the headers that are left decide
abbrev pub invariant-loop-n : goal.invariant-loop-n
invariant-loop-n l =
    check_sections l.count l.file l.at ≡ check_sections (l.count - l.n) l.file (l.at + 40 * l.n)
