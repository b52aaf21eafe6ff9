use Rattle.std.proofs.Common.{sym, ap, ◌∙◌, ◌++◌}
use Rattle.px_link_types.specs.Parts.{Passed}
use Rattle.px_link_types.proofs.Visiting.{added}
use Rattle.px_link_types.proofs.numbers.number_next.Goals as goal

pub returns-then-is_numbered-clause-visits : goal.returns-then-is_numbered-clause-visits
returns-then-is_numbered-clause-visits c = Passed _ _ _ (sym c.is_numbered.ensures ∙ c.if-is_numbered.true)

pub returns-clause-visits : goal.returns-clause-visits
returns-clause-visits c =
    let own = c.in_ok-own.ensures in
    let pushed = c.in_ok-extend_from_slice.ensures in
    let inserted = c.in_ok-insert.ensures in
    added c.args.meta.now c.args.keys.now.keys c.insert.new.self.keys c.args.key c.args.pending.now.items c.in_ok-own.own.items c.extend_from_slice.new.self.items
    (sym c.is_numbered.ensures ∙ c.if-is_numbered.false) inserted.keys own.keys own.there (pushed.items ∙ ap (λ l. c.args.pending.now.items ++ l) (c.deref.ensures.value ∙ c.reverse.ensures.items))
