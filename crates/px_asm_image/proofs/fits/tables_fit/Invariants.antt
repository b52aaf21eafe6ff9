use Rattle.std.proofs.Common.{◌≡◌, drop}
use Rattle.px_asm_image.specs.Fitting.{tables_fit}
use Rattle.px_asm_image.proofs.fits.tables_fit.Given as goal

-- the tables that are left decide
abbrev pub invariant-loop-table : goal.invariant-loop-table
invariant-loop-table l = tables_fit l.counts l.table (drop l.table l.tables) ≡ tables_fit l.counts 0 l.tables
