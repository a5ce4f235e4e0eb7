use Rattle.std.proofs.Common.{arith}
use Rattle.vl_lex.proofs.Values.{wrapped_next}
use Rattle.vl_lex.proofs.digits.wrapped_value.Goals as goal

pub loop-byte-preserved : goal.loop-byte-preserved
loop-byte-preserved c = wrapped_next c.args.radix c.args.digits.now c.loop-byte.byte-index 0 c.loop-byte.value _ (omega arith) c.loop-byte.invariant c.wrapped_more-value.ensures
