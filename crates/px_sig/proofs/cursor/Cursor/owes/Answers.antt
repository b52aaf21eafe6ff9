use Rattle.px_sig.proofs.Owed.{instance_owed, function_owed}
use Rattle.px_sig.proofs.cursor.Cursor.owes.Goals as goal

pub returns-in_ok-count-in-Instance-clause-leads : goal.returns-in_ok-count-in-Instance-clause-leads
returns-in_ok-count-in-Instance-clause-leads c =
    rw (c.in-Instance.is, c.types-in-Instance.ensures, c.from.ensures)
    (instance_owed c.args.self.now.blob.now c.args.self.now.at _ _ _ c.in_ok-named-in-Instance.ensures.reads (rw c.named.ensures.blob at c.in_ok-token-in-Instance.ensures.reads)
    (rw (c.token-in-Instance.ensures.blob, c.named.ensures.blob) at c.in_ok-count-in-Instance.ensures.reads))

pub returns-in_ok-front-in-Function-clause-leads : goal.returns-in_ok-front-in-Function-clause-leads
returns-in_ok-front-in-Function-clause-leads c =
    rw (c.in-Function.is, c.types-in-Function.ensures, c.from-in-Function.ensures)
    (function_owed c.args.self.now.blob.now c.args.self.now.at _ c.in_ok-front-in-Function.ensures.reads)
