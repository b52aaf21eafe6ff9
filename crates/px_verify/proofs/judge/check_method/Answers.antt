use Rattle.std.proofs.Common.{sym, ◌∙◌}
use Rattle.px_program.specs.Formed.{IsFormedIn}
use Rattle.px_program.proofs.Types.{each_at}
use Rattle.px_verify.proofs.Judging.{empty_where, typed_alone}
use Rattle.px_verify.proofs.judge.check_method.Goals as goal

pub returns-then-is_empty : goal.returns-then-is_empty
returns-then-is_empty c =
    typed_alone c.args.program.now c.args.method.now (sym c.as_slice.ensures ∙ empty_where c.as_slice.result.now (sym c.is_empty.ensures ∙ c.if-is_empty.true))

pub typing_of-requires-clause-formed : goal.typing_of-requires-clause-formed
typing_of-requires-clause-formed c = (each_at (IsFormedIn c.args.program.now) c.args.program.now.methods c.requires.formed.methods c.args.number c.args.method.now c.requires.at).formed
