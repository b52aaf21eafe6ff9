use Rattle.std.proofs.Common.{sym, ◌∙◌, length}
use Rattle.std.proofs.lemmas.Bool.{not-false, not-true}
use Rattle.std.proofs.lemmas.Result.{err_from_is_err_and}
use Rattle.px_code.specs.Body.{clauses_in, sections_from}
use Rattle.px_code.proofs.Front.{fails_on, onto_nothing}
use Rattle.px_code.proofs.Sections.{all_left, last_section, left, one_section, section_cut, section_refused}
use Rattle.px_code.proofs.section.sections_from.Goals as goal

pub loop-at-init : goal.loop-at-init
loop-at-init c =
    let a = c.args in
    record {
      near = c.requires.near;
      front = rw c.new-clauses.ensures.items (onto_nothing (left a.instrs.now a.bytes.now a.from) ∙ all_left a.instrs.now a.bytes.now a.from c.requires.behind c.requires.some);
    }

pub returns-then-bytes-at : goal.returns-then-bytes-at
returns-then-bytes-at c =
    let a = c.args in
    let l = c.loop-at in
    rw c.at.ensures (sym l.invariant.front ∙ section_cut l.clauses.items a.instrs.now a.bytes.now l.at c.if-bytes-at.true)

pub returns-in_err-more : goal.returns-in_err-more
returns-in_err-more c =
    let a = c.args in
    let l = c.loop-at in
    let p = err_from_is_err_and c.from_residual.result c.from_residual.ensures.1 in
    rw (p.1, p.2)
    (fails_on c.in_err-more.field-0.0 (clauses_in a.instrs.now a.bytes.now l.at) (sections_from (length a.bytes.now) a.instrs.now a.bytes.now a.from) c.in_err-more.ensures
    (λ f is. sym l.invariant.front ∙ section_refused l.clauses.items a.instrs.now a.bytes.now l.at f c.if-bytes-at.false is))

pub returns-then-not-section : goal.returns-then-not-section
returns-then-not-section c =
    let a = c.args in
    let l = c.loop-at in
    let last = sym c.read-section.ensures.has_next ∙ not-true c.read-section.result.has_next c.if-not-section.true in
    sym l.invariant.front
    ∙ rw c.in_ok-append.ensures.items (last_section l.clauses.items a.instrs.now a.bytes.now l.at c.in_ok-more.more.items c.if-bytes-at.false c.in_ok-more.ensures last)

pub loop-at-preserved : goal.loop-at-preserved
loop-at-preserved c =
    let a = c.args in
    let l = c.loop-at in
    let next = sym c.read-section.ensures.has_next ∙ not-false c.read-section.result.has_next c.if-not-section.false in
    record {
      near = c.section_behind-at.ensures.near;
      front = rw (c.in_ok-append.ensures.items, c.section_behind-at.ensures.exact)
          (sym (one_section l.clauses.items a.instrs.now a.bytes.now l.at c.in_ok-more.more.items c.if-bytes-at.false c.in_ok-more.ensures next) ∙ l.invariant.front);
    }
