-- the walk has come through the statements so far
use Rattle.std.proofs.Common.{take}
use Rattle.xt_compile.specs.first.Machine.{statements_of}
use Rattle.xt_compile.proofs.first_form.Walks.{WalkedTo}
use Rattle.xt_compile.proofs.first.compile.process.after_waits.Given as goal

abbrev pub invariant-loop-statement : goal.invariant-loop-statement
invariant-loop-statement l =
    WalkedTo l.design l.fn.builder l.builder l.map l.state l.fn.nexts.items l.nexts.items l.point l.here (statements_of (take l.statement-index l.statements))
