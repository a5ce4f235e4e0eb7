use Rattle.std.proofs.Common.{◌≡◌, take}
use Rattle.vl_expr.specs.Terminals.{terminals_of}
use Rattle.vl_expr.proofs.words.classified.Given as goal

abbrev pub invariant-loop-token : goal.invariant-loop-token
invariant-loop-token l = l.all.items ≡ terminals_of l.text (take l.token-index l.tokens)
