use Rattle.std.proofs.Common.{◌≡◌, ◌+◌, ◌*◌, ◌-◌, find, Ok}
use Rattle.px_pe.specs.Section.{check_sections, holds, sections_in}
use Rattle.px_pe.proofs.section.SectionTable.find.Given as goal

-- the headers that are left are sound, and one of them is the first if there is one
abbrev pub invariant-loop-n : goal.invariant-loop-n
invariant-loop-n l =
    let file = l.self-inside.file.now in let at = l.self-inside.at in let count = l.self-inside.count in
    record {
      sound : check_sections (count - l.n) file (at + 40 * l.n) ≡ Ok tt;
      first : find (holds l.rva l.len) (sections_in count file at) ≡ find (holds l.rva l.len) (sections_in (count - l.n) file (at + 40 * l.n));
    }
