-- the statements so far are assigned where the process comes to them
use Rattle.std.proofs.Common.{if◌then◌else◌, [], take}
use Rattle.xt_bits.specs.Operators.{any_of}
use Rattle.nt_core.specs.NodeValue.{node_value}
use Rattle.xt_compile.specs.first.Machine.{statements_of}
use Rattle.xt_compile.specs.first.Nodes.{Assigns}
use Rattle.xt_compile.proofs.first.compile.process.assign_all.Given as goal

abbrev pub invariant-loop-statement : goal.invariant-loop-statement
invariant-loop-statement l =
    Assigns l.design l.fn.builder l.builder l.map l.fn.nexts.items l.nexts.items
    (λ s. if any_of (node_value l.fn.builder s l.here) then statements_of (take l.statement-index l.statements) else [])
