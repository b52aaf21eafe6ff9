use Rattle.std.proofs.Common.{◌∙◌, ap}
use Rattle.px_code.specs.Body.{end_of}
use Rattle.px_asm_bodies.proofs.Pushed.{follows, header_pushed}
use Rattle.px_asm_bodies.proofs.body.push_header.Goals as goal

pub returns-clause-pushed : goal.returns-clause-pushed
returns-clause-pushed c =
    follows _ _ c.push_number-3.result
    (λ last. header_pushed c.args.body.now c.header_flags.result c.from.result c.from-2.result c.from-3.result c.args.out.now.items c.push.new.self.items c.push-2.new.self.items
    c.push_number.new.out.items c.push_number-2.new.out.items _ c.header_flags.ensures c.from.ensures (c.from-2.ensures ∙ c.end_of.ensures ∙ ap end_of c.as_slice.ensures) c.from-3.ensures
    c.in_ok-push.ensures.items c.in_ok-push-2.ensures.items c.in_ok-push_number.ensures c.in_ok-push_number-2.ensures last)
    c.push_number-3.ensures
