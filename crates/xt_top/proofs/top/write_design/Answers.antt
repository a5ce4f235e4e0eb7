use Rattle.std.proofs.Common.{rules, subst}
use Rattle.nt_core.specs.Text.{text_of}
use Rattle.xt_top.specs.Ends.{stream}
use Rattle.xt_top.specs.declared.status.Status.TheVariants.{Done, Memory, WriteFault}
use Rattle.xt_top.specs.inner.Works.{PutsText}
use Rattle.xt_top.proofs.top.write_design.Goals as goal

pub returns-in-Written-clause-writes : goal.returns-in-Written-clause-writes
returns-in-Written-clause-writes g c = λ n e.
    subst (λ m. PutsText (text_of m) (stream (g.S.Sink.written c.args.out.now) (g.S.Sink.faults c.args.out.now)) (stream (g.S.Sink.written c.write.new.out) (g.S.Sink.faults c.write.new.out)) Done) e (search rules)

pub returns-in-WriteFault-clause-writes : goal.returns-in-WriteFault-clause-writes
returns-in-WriteFault-clause-writes g c = λ n e.
    subst (λ m. PutsText (text_of m) (stream (g.S.Sink.written c.args.out.now) (g.S.Sink.faults c.args.out.now)) (stream (g.S.Sink.written c.write.new.out) (g.S.Sink.faults c.write.new.out)) WriteFault) e (search rules)

pub returns-in-Memory-clause-writes : goal.returns-in-Memory-clause-writes
returns-in-Memory-clause-writes g c = λ n e.
    subst (λ m. PutsText (text_of m) (stream (g.S.Sink.written c.args.out.now) (g.S.Sink.faults c.args.out.now)) (stream (g.S.Sink.written c.write.new.out) (g.S.Sink.faults c.write.new.out)) Memory) e (search rules)
