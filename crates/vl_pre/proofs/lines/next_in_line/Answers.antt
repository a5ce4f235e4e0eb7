use Rattle.std.proofs.Common.{rules}
use Rattle.vl_pre.specs.Cursors.{left, seen}
use Rattle.vl_pre.proofs.LineLemmas.{line_first, line_goes}
use Rattle.vl_pre.proofs.lines.next_in_line.Goals as goal

pub returns-clause-some : goal.returns-clause-some
returns-clause-some c =
    rw (c.piece_or_blank.ensures.piece, c.piece_or_blank.ensures.left) (line_first (left c.args.text.now c.args.cursor.now) _ (seen c.in_ok-piece.piece) c.in_ok-piece.ensures.some (search rules))

pub returns-clause-goes : goal.returns-clause-goes
returns-clause-goes c =
    line_goes (left c.args.text.now c.args.cursor.now) _ _ (seen c.in_ok-piece.piece) c.in_ok-piece.ensures.some (search rules) c.piece_or_blank.ensures.left
