-- what is there with what is left is what was there with all
use Rattle.std.proofs.Common.{◌≡◌, ◌++◌, map, drop}
use Rattle.vl_names.specs.Declarations.{each, stmt_declares, arm_declares}
use Rattle.vl_names.proofs.declare.+declare.Given as goal

abbrev pub invariant-put_stmts-loop-stmt : goal.invariant-put_stmts-loop-stmt
invariant-put_stmts-loop-stmt l =
    l.fn.into.items ++ each (map stmt_declares l.stmts) l.scope
    ≡ l.into.items ++ each (map stmt_declares (drop l.stmt-index l.stmts)) l.scope

abbrev pub invariant-put_arms-loop-arm : goal.invariant-put_arms-loop-arm
invariant-put_arms-loop-arm l =
    l.fn.into.items ++ each (map arm_declares l.arms) l.scope
    ≡ l.into.items ++ each (map arm_declares (drop l.arm-index l.arms)) l.scope
