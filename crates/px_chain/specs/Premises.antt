-- A formula's clauses with those that were derived from them.
use Rattle.std.specs.Prelude.{◌++◌}
use Rattle.px_chain.specs.Clause.{Formula}

-- the derived clauses are numbered after the formula's
abbrev pub premises_of : Formula → Formula → Formula
premises_of formula derived = record { vars = formula.vars; clauses = formula.clauses ++ derived.clauses }
