use Rattle.px_verify_kinds.specs.Stacks.{kinds_of}
use Rattle.std.proofs.Common.{Some, ap, ◌∙◌}
use Rattle.px_verify_rounds.proofs.Entries.{gave_first, gave_nowhere, none_at, seen_at}
use Rattle.px_verify_rounds.proofs.typing.Typing.give.Goals as goal

pub returns-in-Some-None-clause-gave : goal.returns-in-Some-None-clause-gave
returns-in-Some-None-clause-gave c =
    gave_first c.args.program.now.types c.args.at c.args.self.now.stacks c.args.self.now.entries.items c.args.given
    (seen_at c.args.self.now.entries.items c.deref.result.now c.args.at c.in-Some-None.field-0.now c.deref.ensures.value c.in-Some-None.ensures.lookup.0 c.in-Some-None.ensures.lookup.1 ∙ ap Some c.in-Some-None.field-0-is)

pub returns-in-None-clause-gave : goal.returns-in-None-clause-gave
returns-in-None-clause-gave c =
    gave_nowhere c.args.program.now.types (kinds_of c.args.self.now.stacks c.args.given) c.args.at c.args.self.now.stacks c.args.self.now.entries.items
    (none_at c.args.self.now.entries.items c.deref.result.now c.args.at c.deref.ensures.value c.in-None.ensures.lookup.0)
