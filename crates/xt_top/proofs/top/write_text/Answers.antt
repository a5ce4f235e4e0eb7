use Rattle.std.proofs.Common.{◌≡◌, refl}
use Rattle.xt_top.specs.Ends.{stream}
use Rattle.xt_top.specs.declared.answer.Answer.{Answer}
use Rattle.xt_top.specs.declared.answer.Answer.TheVariants.{Design}
use Rattle.xt_top.specs.inner.Works.{PutsText, text_in}
use Rattle.xt_top.proofs.top.write_text.Goals as goal

pub returns-clause-writes : goal.returns-clause-writes
returns-clause-writes g c = go c.args.answer.now refl where
  go : (a : Answer) → c.args.answer.now ≡ a → PutsText (text_in a) (stream (g.S.Sink.written c.args.out.now) (g.S.Sink.faults c.args.out.now)) (stream (g.S.Sink.written c.write_design.new.out) (g.S.Sink.faults c.write_design.new.out)) c.write_design.result
  go (Design n) e = c.write_design.ensures.writes n (rw e refl)
