use Rattle.std.proofs.Common.{◌++◌, sym, ap, ◌∙◌}
use Rattle.px_link_methods.specs.Methods.{keys_of_body}
use Rattle.px_link_methods.specs.Parts.{body_keys}
use Rattle.px_link_methods.proofs.Passing.{passed_before, passed_now}
use Rattle.px_link_methods.proofs.met.meet_body.Goals as goal

pub returns-then-contains-clause-passed : goal.returns-then-contains-clause-passed
returns-then-contains-clause-passed c = λ body whole are.
    passed_before c.args.tokens.now (body_keys c.args.tokens.now body) c.args.at c.args.types.now.keys c.args.passed.now (sym c.contains.ensures ∙ c.if-contains.true) are

pub returns-clause-passed : goal.returns-clause-passed
returns-clause-passed c = λ body whole are.
    let v = c.args.tokens.now in
    let is = c.deref.ensures.value ∙ c.in_ok-push_body.ensures.is ∙ ap (λ l. l ++ keys_of_body v c.args.whole.now) c.new-keys.ensures.items ∙ ap (keys_of_body v) (sym whole) in
    passed_now c.args.types.now.tables v (body_keys v body) c.args.at c.args.types.now.keys c.deref.result.now c.meet.new.self.keys c.args.passed.now c.insert.new.self c.requires is c.in_ok-meet.ensures.numbers are c.in_ok-insert.ensures.updates
