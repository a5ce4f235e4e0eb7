-- what is there with what is left is what was there with all
use Rattle.std.proofs.Common.{◌≡◌, ◌++◌, map, drop}
use Rattle.vl_names.specs.Mentions.{each, stmt_names, arm_names}
use Rattle.vl_names.proofs.mentions.+stmts.Given as goal

abbrev pub invariant-put_stmts-loop-stmt : goal.invariant-put_stmts-loop-stmt
invariant-put_stmts-loop-stmt l = l.fn.into.items ++ each (map stmt_names l.stmts) l.scope ≡ l.into.items ++ each (map stmt_names (drop l.stmt-index l.stmts)) l.scope

abbrev pub invariant-put_arms-loop-arm : goal.invariant-put_arms-loop-arm
invariant-put_arms-loop-arm l = l.fn.into.items ++ each (map arm_names l.arms) l.scope ≡ l.into.items ++ each (map arm_names (drop l.arm-index l.arms)) l.scope
