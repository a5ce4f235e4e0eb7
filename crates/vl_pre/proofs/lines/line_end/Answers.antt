use Rattle.std.proofs.Common.{rules, arith}
use Rattle.vl_pre.specs.Cursors.{left, seen}
use Rattle.vl_pre.proofs.LineLemmas.{line_end_found}
use Rattle.vl_pre.proofs.lines.line_end.Goals as goal

pub returns-in-Some : goal.returns-in-Some
returns-in-Some c =
    let found = line_end_found (left c.args.text.now c.args.cursor) _ _ (seen c.in-Some.piece) c.skip.ensures.left c.in-Some.ensures.some (search rules) in
    (found.0, found.1, c.in-Some.ensures.within, omega (arith, c.skip.ensures.forward, c.in-Some.ensures.forward))
