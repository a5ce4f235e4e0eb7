use Rattle.xt_top.specs.Ends.{file_state, outside, stream}
use Rattle.xt_top.proofs.Ending.{ended}
use Rattle.xt_top.proofs.top.xtc.Goals as goal

pub returns : goal.returns
returns g c =
    let files = file_state (g.F.Files.held c.args.files.now) (g.F.Files.asked c.args.files.now) (g.F.Files.faults c.args.files.now) in
    let out = stream (g.S.Sink.written c.args.out.now) (g.S.Sink.faults c.args.out.now) in
    let notes = stream (g.S.Sink.written c.args.notes.now) (g.S.Sink.faults c.args.notes.now) in
    let files' = file_state (g.F.Files.held c.answer_of-answer.new.files) (g.F.Files.asked c.answer_of-answer.new.files) (g.F.Files.faults c.answer_of-answer.new.files) in
    let out' = stream (g.S.Sink.written c.put.new.out) (g.S.Sink.faults c.put.new.out) in
    let notes' = stream (g.S.Sink.written c.put.new.notes) (g.S.Sink.faults c.put.new.notes) in
    record {
      ends = ended c.args.words.now (outside files out notes) (outside files' out' notes') c.put.result c.answer_of-answer.result c.answer_of-answer.ensures.finds c.put.ensures.puts;
      loads = c.answer_of-answer.ensures.loads;
      counts = record { files = c.answer_of-answer.ensures.never_falls; out = c.put.ensures.output_never_falls; notes = c.put.ensures.notes_never_falls };
    }
