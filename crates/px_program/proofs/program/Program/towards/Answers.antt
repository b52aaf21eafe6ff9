use Rattle.std.proofs.Common.{◌≡◌, None, Some, arith}
use Rattle.px_program.specs.Lines.{base_of}
use Rattle.px_program.proofs.Leaps.{deep_base, deep_step, has_base, leap_derives}
use Rattle.px_program.proofs.program.Program.towards.Goals as goal

pub returns-in-Some-clause-deep : goal.returns-in-Some-clause-deep
returns-in-Some-clause-deep c =
    let types = c.args.self.now.types in
    let goes : base_of types c.args.type_number ≡ Some c.in-Some.base = cc in
    let all = c.step-jump.ensures.depth in
    deep_base types c.args.type_number c.in-Some.base c.args.depth c.step-jump.result.depth goes all (c.requires c.step-jump.result.depth all)

pub returns-in_default-clause-deep : goal.returns-in_default-clause-deep
returns-in_default-clause-deep c = deep_step c.args.self.now.types c.step-jump.result.jump c.args.depth c.step.result c.step.ensures (λ less. omega (arith, less, c.if-step-depth.false))

pub returns-in_default-2-clause-derives : goal.returns-in_default-2-clause-derives
returns-in_default-2-clause-derives c = leap_derives c.args.self.now.types c.args.type_number c.args.depth c.step-jump.result c.step-jump.ensures c.requires

pub returns-in_default-2-clause-deep : goal.returns-in_default-2-clause-deep
returns-in_default-2-clause-deep c =
    let types = c.args.self.now.types in
    let none : base_of types c.args.type_number ≡ None = cc in
    let all = c.step-jump.ensures.depth in
    absurd (has_base types c.args.type_number c.args.depth c.step-jump.result.depth all (c.requires c.step-jump.result.depth all) none)
