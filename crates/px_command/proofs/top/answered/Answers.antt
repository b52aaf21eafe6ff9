use Rattle.std.proofs.Common.{sym, subst}
use Rattle.px_tests.specs.declared.findings.Input.{Input}
use Rattle.px_command.specs.Says.{Says, answer_text, status_of}
use Rattle.px_command.proofs.Telling.{says_answer, writable}
use Rattle.px_command.proofs.top.answered.Goals as goal

pub returns-in-Ok-clause-says : goal.returns-in-Ok-clause-says
returns-in-Ok-clause-says c = λ words seen asked content.
    let P : Input → Type 0 = λ input. Says words seen (status_of c.answer_of-answer.result) (answer_text input c.answer_of-answer.result) in
    subst P (sym c.in-Ok.ensures)
    (says_answer words seen c.args.asked.now.file.now c.args.asked.now.target c.args.asked.now.text.now c.args.bytes.now asked content c.answer_of-answer.result c.answer_of-answer.ensures)

pub returns-in-Ok-clause-sayable : goal.returns-in-Ok-clause-sayable
returns-in-Ok-clause-sayable c = writable c.args.bytes.now c.args.asked.now.target c.args.asked.now.text.now c.answer_of-answer.result c.answer_of-answer.ensures
