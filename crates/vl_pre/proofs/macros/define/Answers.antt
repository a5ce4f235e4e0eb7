use Rattle.vl_pre.specs.Cursors.{left}
use Rattle.vl_pre.proofs.LineLemmas.{goes_further}
use Rattle.vl_pre.proofs.DefineLemmas.{line_taken}
use Rattle.vl_pre.proofs.macros.define.Goals as goal

pub returns-clause-left : goal.returns-clause-left
returns-clause-left c =
    line_taken (left c.args.text.now c.args.cursor.now) _ (goes_further _ _ _ (goes_further _ _ _ c.in_ok-name.ensures.goes c.in_ok-formals.ensures.goes) c.in_ok-text.ensures.goes) c.in_ok-text.ensures.ended
