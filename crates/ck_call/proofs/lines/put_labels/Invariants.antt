-- what is there with what is left is what was there with all
use Rattle.std.proofs.Common.{◌≡◌, ◌++◌, map, drop}
use Rattle.el_design.specs.View.{arm_of}
use Rattle.ck_call.specs.inner.Nodes.{arms_named}
use Rattle.ck_call.proofs.lines.put_labels.Given as goal

abbrev pub invariant-loop-arm : goal.invariant-loop-arm
invariant-loop-arm l = l.fn.into ++ arms_named (map arm_of l.arms) ≡ l.into ++ arms_named (map arm_of (drop l.arm-index l.arms))
