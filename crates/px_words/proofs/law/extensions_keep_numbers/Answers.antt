use Rattle.px_words.proofs.Numbers.{low_keeps_signed, low_keeps_unsigned, low_reads_low, sign_extension_reads_low, widening_keeps_signed, widening_keeps_unsigned, zero_extension_reads_low}
use Rattle.px_words.proofs.law.extensions_keep_numbers.Goals as goal

pub returns-clause-sign : goal.returns-clause-sign
returns-clause-sign c = sign_extension_reads_low

pub returns-clause-zero : goal.returns-clause-zero
returns-clause-zero c = zero_extension_reads_low

pub returns-clause-signed_widening : goal.returns-clause-signed_widening
returns-clause-signed_widening c = widening_keeps_signed

pub returns-clause-unsigned_widening : goal.returns-clause-unsigned_widening
returns-clause-unsigned_widening c = widening_keeps_unsigned

pub returns-clause-low : goal.returns-clause-low
returns-clause-low c = low_reads_low

pub returns-clause-signed_low : goal.returns-clause-signed_low
returns-clause-signed_low c = low_keeps_signed

pub returns-clause-unsigned_low : goal.returns-clause-unsigned_low
returns-clause-unsigned_low c = low_keeps_unsigned
