use Rattle.std.proofs.Common.{rules}
use Rattle.xt_top.proofs.Pieces.{cut_at}
use Rattle.xt_top.proofs.note.write_pieces.Goals as goal

pub returns-in-Failed-clause-cut : goal.returns-in-Failed-clause-cut
returns-in-Failed-clause-cut g c _ = cut_at _ _ _ c.args.pieces.now c.loop-piece.piece-index _ c.loop-piece-test.true c.loop-piece.invariant.written (c.in-Failed.ensures.failed (search rules))
