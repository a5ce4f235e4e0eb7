-- what is there with what is left is what was there with all
use Rattle.std.proofs.Common.{◌≡◌, ◌++◌, map, drop}
use Rattle.el_design.specs.View.{statement_of, seq_of, arm_of}
use Rattle.ck_call.specs.inner.Lines.{lines, arms_lines}
use Rattle.ck_call.proofs.lines.+lines.Given as goal

abbrev pub invariant-put_block-loop-stmt : goal.invariant-put_block-loop-stmt
invariant-put_block-loop-stmt l =
    l.fn.into ++ lines (seq_of (map statement_of l.stmts))
    ≡ l.into ++ lines (seq_of (map statement_of (drop l.stmt-index l.stmts)))

abbrev pub invariant-put_arms-loop-arm : goal.invariant-put_arms-loop-arm
invariant-put_arms-loop-arm l =
    l.fn.into ++ arms_lines (map arm_of l.arms)
    ≡ l.into ++ arms_lines (map arm_of (drop l.arm-index l.arms))
