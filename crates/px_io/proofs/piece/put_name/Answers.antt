use Rattle.std.proofs.Common.{arith}
use Rattle.std.proofs.lemmas.Result.{err_from_is_err_and}
use Rattle.px_io.specs.Pieces.{byte_text}
use Rattle.px_io.proofs.Piecewise.{puts_each_err}
use Rattle.px_io.proofs.piece.put_name.Goals as goal

pub returns-in_err-put_byte : goal.returns-in_err-put_byte
returns-in_err-put_byte g c =
    puts_each_err byte_text _ c.loop-byte.byte-index _ (omega arith) c.loop-byte.invariant c.in_err-put_byte.ensures (err_from_is_err_and _ c.from_residual.ensures.1)
