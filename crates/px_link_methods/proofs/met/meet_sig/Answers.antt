use Rattle.std.proofs.Common.{◌++◌, Some, sym, ap, ◌∙◌}
use Rattle.px_link_methods.specs.Methods.{keys_of_sig}
use Rattle.px_link_methods.specs.Parts.{sig_keys}
use Rattle.px_link_methods.proofs.Passing.{passed_before, passed_now}
use Rattle.px_link_methods.proofs.met.meet_sig.Goals as goal

pub returns-then-contains-clause-passed : goal.returns-then-contains-clause-passed
returns-then-contains-clause-passed c =
    passed_before c.args.meta.now (sig_keys c.args.meta.now) c.args.at c.args.types.now.keys c.args.passed.now (sym c.contains.ensures ∙ c.if-contains.true) c.requires.passed

pub returns-clause-passed : goal.returns-clause-passed
returns-clause-passed c =
    let v = c.args.meta.now in
    let is = c.deref.ensures.value ∙ c.in_ok-push_sig.ensures.is ∙ ap (λ l. l ++ keys_of_sig v (Some c.args.sig.now)) c.new-keys.ensures.items ∙ ap (keys_of_sig v) (sym c.requires.sig) in
    passed_now c.args.types.now.tables v (sig_keys v) c.args.at c.args.types.now.keys c.deref.result.now c.meet.new.self.keys c.args.passed.now c.insert.new.self c.requires.tables is c.in_ok-meet.ensures.numbers c.requires.passed c.in_ok-insert.ensures.updates
