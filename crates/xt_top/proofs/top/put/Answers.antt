use Rattle.std.proofs.Common.{subst, sym}
use Rattle.xt_top.specs.Ends.{stream}
use Rattle.xt_top.specs.Note.{line_of, status_of}
use Rattle.xt_top.specs.inner.Works.{Puts, Tells}
use Rattle.xt_top.proofs.Ending.{puts_text, puts_note}
use Rattle.xt_top.proofs.top.put.Goals as goal

pub returns-in-Ok-clause-puts : goal.returns-in-Ok-clause-puts
returns-in-Ok-clause-puts g c =
    let out = stream (g.S.Sink.written c.args.out.now) (g.S.Sink.faults c.args.out.now) in
    let out' = stream (g.S.Sink.written c.write_text.new.out) (g.S.Sink.faults c.write_text.new.out) in
    let notes = stream (g.S.Sink.written c.args.notes.now) (g.S.Sink.faults c.args.notes.now) in
    subst (λ answer. Puts answer out out' notes notes c.write_text.result) (sym c.in-Ok.is) (puts_text c.in-Ok.answer out out' notes c.write_text.result c.write_text.ensures.writes)

pub returns-in-Err-Note-clause-puts : goal.returns-in-Err-Note-clause-puts
returns-in-Err-Note-clause-puts g c =
    let out = stream (g.S.Sink.written c.args.out.now) (g.S.Sink.faults c.args.out.now) in
    let notes = stream (g.S.Sink.written c.args.notes.now) (g.S.Sink.faults c.args.notes.now) in
    let notes' = stream (g.S.Sink.written c.tell.new.notes) (g.S.Sink.faults c.tell.new.notes) in
    subst (λ answer. Puts answer out out notes notes' c.tell.result) (sym c.in-Err-Note.is)
    (puts_note c.in-Err-Note.field-0 c.in-Err-Note.note c.in-Err-Note.field-0-is out notes notes' c.tell.result
    (subst (λ n. Tells (status_of n) (line_of n) notes notes' c.tell.result) c.in-Err-Note.note-is c.tell.ensures.tells))
