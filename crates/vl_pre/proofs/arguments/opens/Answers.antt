use Rattle.std.proofs.Common.{◌∙◌, sym}
use Rattle.std.specs.List.{prefix_len}
use Rattle.vl_pre.specs.Cursors.{left, seen}
use Rattle.vl_pre.specs.Pieces.{is_space}
use Rattle.vl_pre.proofs.OperandLemmas.{behind_first}
use Rattle.vl_pre.proofs.arguments.opens.Goals as goal

pub returns-in-Some-clause-left : goal.returns-in-Some-clause-left
returns-in-Some-clause-left c = λ _. behind_first (left c.args.text.now c.args.cursor.now) _ (prefix_len is_space (left c.args.text.now c.args.cursor.now)) (seen c.in-Some.piece) (sym c.skip.ensures.left ∙ c.in-Some.ensures.some)
