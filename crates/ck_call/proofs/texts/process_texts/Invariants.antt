-- what is there with what is left is all
use Rattle.std.proofs.Common.{◌≡◌, ◌++◌, map, drop}
use Rattle.el_design.specs.View.{proc_of}
use Rattle.ck_call.specs.inner.Lines.{lines}
use Rattle.ck_call.proofs.texts.process_texts.Given as goal

abbrev pub invariant-loop-proc : goal.invariant-loop-proc
invariant-loop-proc l = map (λ p. lines p.body) (map proc_of l.procs) ≡ l.all ++ map (λ p. lines p.body) (map proc_of (drop l.proc-index l.procs))
