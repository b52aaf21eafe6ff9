use Rattle.std.proofs.Common.{◌≡◌, ◌∷◌, [], ap, ◌∙◌}
use Rattle.std.proofs.lemmas.Result.{IfOk-weaker}
use Rattle.px_verify_kinds.specs.Stacks.{kinds_of}
use Rattle.px_verify_kinds.specs.declared.kind.Kind.TheVariants.{Ref}
use Rattle.px_verify_rounds.proofs.Entries.{all_there, read_same}
use Rattle.px_verify_rounds.proofs.typing.Typing.caught.Goals as goal

pub returns-clause-kinds : goal.returns-clause-kinds
returns-clause-kinds c =
    IfOk-weaker c.push.result (λ s. kinds_of c.push.new.self s ≡ Ref c.args.class ∷ kinds_of c.args.self.now.stacks c.empty.result) (λ s. kinds_of c.push.new.self s ≡ Ref c.args.class ∷ [])
    (λ s e. e ∙ ap (λ kinds. Ref c.args.class ∷ kinds) (c.empty.ensures.kinds c.args.self.now.stacks)) c.push.ensures.pushed

pub returns-clause-same : goal.returns-clause-same
returns-clause-same c = read_same c.args.self.now.stacks c.push.new.self c.args.self.now.entries.items c.push.ensures.kept c.requires

pub returns-clause-valid : goal.returns-clause-valid
returns-clause-valid c = all_there c.args.self.now.stacks c.push.new.self c.args.self.now.entries.items c.push.ensures.kept c.requires
