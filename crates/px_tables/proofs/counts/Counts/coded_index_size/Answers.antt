use Rattle.px_tables.proofs.Sizes.{limit_is, not_wide}
use Rattle.px_tables.proofs.counts.Counts.coded_index_size.Goals as goal

pub returns : goal.returns
returns c = rw (c.index_size.ensures, c.have_few_rows.ensures, limit_is c.tag_bits.result c.tag_bits.ensures.few, c.tag_bits.ensures.bits, c.tables.ensures) (not_wide _)
