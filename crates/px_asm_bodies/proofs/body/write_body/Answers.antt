use Rattle.std.proofs.Common.{◌++◌, ◌%◌, length, sym, ◌∙◌, ap, subst, arith}
use Rattle.std.specs.List.{All}
use Rattle.px_code.specs.Body.{body_of}
use Rattle.px_asm_bodies.specs.Bytes.{code_bytes, section_bytes}
use Rattle.px_asm_bodies.specs.Parts.{HasRanges, IsNarrow}
use Rattle.px_asm_bodies.proofs.Bodies.{body_aligned, body_pushed, body_read, header_aligned}
use Rattle.px_asm_bodies.proofs.Clauses.{all_ranges}
use Rattle.px_asm_bodies.proofs.body.write_body.Goals as goal

pub push_code-requires-clause-aligned : goal.push_code-requires-clause-aligned
push_code-requires-clause-aligned c = header_aligned c.new-out.result.items c.push_header.new.out.items c.args.body.now c.new-out.ensures.items c.in_ok-push_header.ensures.pushed

pub push_section-requires-clause-ranges : goal.push_section-requires-clause-ranges
push_section-requires-clause-ranges c = subst (λ l. All HasRanges l) (sym c.as_slice-clauses.ensures) (all_ranges c.args.body.now.code c.args.body.now.clauses c.requires.formed.ranges)

pub returns-clause-read : goal.returns-clause-read
returns-clause-read c = λ rest.
    let body = c.args.body.now in
    let whole = body_pushed body c.new-out.result.items c.push_header.new.out.items c.push_code.new.out.items c.push_section.new.out.items c.new-out.ensures.items c.in_ok-push_header.ensures.pushed
    (c.in_ok-push_code.ensures ∙ ap (λ l. c.push_header.new.out.items ++ code_bytes l) c.as_slice.ensures)
    (c.in_ok-push_section.ensures.pushed ∙ ap (λ l. c.push_code.new.out.items ++ section_bytes l) c.as_slice-clauses.ensures) in
    let narrow = subst (λ l. All IsNarrow l) c.as_slice-clauses.ensures c.in_ok-push_section.ensures.narrow in
    ap (λ l. body_of (l ++ rest)) whole
    ∙ body_read body rest c.requires.formed c.requires.code c.in_ok-push_header.ensures.fits narrow (omega (arith, ap length c.as_slice-clauses.ensures))

pub returns-clause-aligned : goal.returns-clause-aligned
returns-clause-aligned c =
    let body = c.args.body.now in
    let whole = body_pushed body c.new-out.result.items c.push_header.new.out.items c.push_code.new.out.items c.push_section.new.out.items c.new-out.ensures.items c.in_ok-push_header.ensures.pushed
    (c.in_ok-push_code.ensures ∙ ap (λ l. c.push_header.new.out.items ++ code_bytes l) c.as_slice.ensures)
    (c.in_ok-push_section.ensures.pushed ∙ ap (λ l. c.push_code.new.out.items ++ section_bytes l) c.as_slice-clauses.ensures) in
    ap (λ l. length l % 4) whole ∙ body_aligned body
