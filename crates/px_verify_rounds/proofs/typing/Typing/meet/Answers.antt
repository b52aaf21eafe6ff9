use Rattle.std.proofs.Common.{◌≡◌, Some, arith, ap, ◌∙◌, sym}
use Rattle.px_verify_kinds.specs.Stacks.{kinds_of}
use Rattle.px_verify_rounds.proofs.Entries.{all_there, gave_clash, gave_merged, gave_still, other_kinds, same_stack, set_there}
use Rattle.px_verify_rounds.proofs.Laws.{laws}
use Rattle.px_verify_rounds.proofs.typing.Typing.meet.Goals as goal

pub returns-in-None-clause-gave : goal.returns-in-None-clause-gave
returns-in-None-clause-gave c =
    gave_clash c.args.program.now.types c.args.at c.args.self.now.stacks c.merge.new.self c.args.self.now.entries.items c.args.standing c.args.given c.merge.ensures.kept c.requires.valid c.requires.standing
    (sym (rw c.in-None.is at c.in_ok-merge.ensures.merged))

pub returns-in-None-clause-valid : goal.returns-in-None-clause-valid
returns-in-None-clause-valid c = all_there c.args.self.now.stacks c.merge.new.self c.args.self.now.entries.items c.merge.ensures.kept c.requires.valid

pub returns-then-eq-clause-gave : goal.returns-then-eq-clause-gave
returns-then-eq-clause-gave c =
    let same : c.in-Some.merged ≡ c.args.standing = same_stack c.in-Some.merged c.args.standing (grind (arith, c.if-eq.ensures)) in
    gave_still c.args.program.now.types c.args.at c.args.self.now.stacks c.merge.new.self c.args.self.now.entries.items c.args.standing c.args.given c.merge.ensures.kept c.requires.valid c.requires.standing
    (sym (rw c.in-Some.is at c.in_ok-merge.ensures.merged) ∙ ap (λ s. Some (kinds_of c.merge.new.self s)) same)

pub returns-then-eq-clause-valid : goal.returns-then-eq-clause-valid
returns-then-eq-clause-valid c = all_there c.args.self.now.stacks c.merge.new.self c.args.self.now.entries.items c.merge.ensures.kept c.requires.valid

pub returns-else-eq-clause-gave : goal.returns-else-eq-clause-gave
returns-else-eq-clause-gave c =
    gave_merged c.args.program.now.types c.args.at c.args.self.now.stacks c.merge.new.self c.args.self.now.entries.items c.args.standing c.args.given c.in-Some.merged laws c.requires.types c.merge.ensures.kept c.requires.valid c.requires.standing
    (sym (rw c.in-Some.is at c.in_ok-merge.ensures.merged))
    (other_kinds c.args.self.now.stacks c.merge.new.self c.in-Some.merged c.args.standing (rw c.in-Some.is at c.in_ok-merge.ensures.same) (sym c.eq.ensures ∙ c.if-eq.false))

pub returns-else-eq-clause-valid : goal.returns-else-eq-clause-valid
returns-else-eq-clause-valid c =
    set_there c.merge.new.self c.args.self.now.entries.items c.args.at (Some c.in-Some.merged) (all_there c.args.self.now.stacks c.merge.new.self c.args.self.now.entries.items c.merge.ensures.kept c.requires.valid)
    (rw c.in-Some.is at c.in_ok-merge.ensures.there)
