use Rattle.px_chain.proofs.Learning.{learnt-differ, learnt-no_variable_twice}
use Rattle.px_chain.proofs.laws.learnt_clauses_differ.Goals as goal

pub returns-clause-differ : goal.returns-clause-differ
returns-clause-differ c = λ f log is. learnt-differ f.vars f.clauses log is

pub returns-clause-no_variable_twice : goal.returns-clause-no_variable_twice
returns-clause-no_variable_twice c = λ f log is. learnt-no_variable_twice f.vars f.clauses log is
