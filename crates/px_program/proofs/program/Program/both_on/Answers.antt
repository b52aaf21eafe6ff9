use Rattle.std.proofs.Common.{inl, inr, subst, sym}
use Rattle.px_program.specs.Bases.{HasBases}
use Rattle.px_program.proofs.Leaps.{bases_on, leap_over, leaps_on, none_shared}
use Rattle.px_program.proofs.program.Program.both_on.Goals as goal

pub returns-in_default : goal.returns-in_default
returns-in_default c =
    let has = c.step.ensures.depth in
    λ base. none_shared c.args.self.now.types c.args.one c.args.other base c.step.result.depth c.requires.apart has (c.requires.even c.step.result.depth has) (inl (sym c.in_default.ensures))

pub returns-in_default-base_of : goal.returns-in_default-base_of
returns-in_default-base_of c =
    let has = c.step.ensures.depth in
    λ base. none_shared c.args.self.now.types c.args.one c.args.other base c.step.result.depth c.requires.apart has (c.requires.even c.step.result.depth has) (inr (sym c.in_default-base_of.ensures))

pub returns-then-step : goal.returns-then-step
returns-then-step c =
    let types = c.args.self.now.types in
    let has = c.step.ensures.depth in
    let beside_has = subst (HasBases types c.step-2.result.jump) (sym c.if-step.true) c.step-then-jump-other_jump-2.ensures.depth in
    leaps_on types c.args.one c.args.other c.step.result.jump c.step-2.result.jump c.step.result.depth c.step-then-jump-other_jump.result.depth c.if-jump-other_jump.true has (c.requires.even c.step.result.depth has)
    (leap_over types c.args.one c.in-Some.base c.step.result c.step.ensures (sym c.in-Some.ensures)) (leap_over types c.args.other c.in-Some-base_of.other_base c.step-2.result c.step-2.ensures (sym c.in-Some-base_of.ensures)) c.step-then-jump-other_jump.ensures.depth beside_has

pub returns-else-jump-other_jump : goal.returns-else-jump-other_jump
returns-else-jump-other_jump c =
    let has = c.step.ensures.depth in
    bases_on c.args.self.now.types c.args.one c.args.other c.in-Some.base c.in-Some-base_of.other_base c.step.result.depth c.requires.apart has (c.requires.even c.step.result.depth has) (sym c.in-Some.ensures) (sym c.in-Some-base_of.ensures)
