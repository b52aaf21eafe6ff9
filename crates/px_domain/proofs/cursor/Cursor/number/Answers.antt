use Rattle.std.proofs.Common.{◌∙◌, sym}
use Rattle.px_domain.proofs.Numerals.{within_ends}
use Rattle.px_domain.proofs.cursor.Cursor.number.Goals as goal

pub returns-in-Some-clause-within : goal.returns-in-Some-clause-within
returns-in-Some-clause-within c = within_ends c.args.range.now _ (sym c.includes.ensures ∙ c.if-includes.true)
