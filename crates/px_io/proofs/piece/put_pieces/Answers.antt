use Rattle.std.proofs.Common.{arith}
use Rattle.std.proofs.lemmas.Result.{err_from_is_err_and}
use Rattle.px_io.specs.Pieces.{piece_text}
use Rattle.px_io.proofs.Piecewise.{puts_each_err}
use Rattle.px_io.proofs.piece.put_pieces.Goals as goal

pub returns-in_err-put_piece : goal.returns-in_err-put_piece
returns-in_err-put_piece g c =
    puts_each_err piece_text _ c.loop-piece.piece-index _ (omega arith) c.loop-piece.invariant c.in_err-put_piece.ensures (err_from_is_err_and _ c.from_residual.ensures.1)
