use Rattle.std.proofs.Common.{length, refl, rules}
use Rattle.std.proofs.lemmas.Option.{slice_get_read}
use Rattle.xt_graph.proofs.Compressed.{noted_row}
use Rattle.xt_graph.proofs.graph.note.Goals as goal

pub returns-in_ok-push : goal.returns-in_ok-push
returns-in_ok-push c =
    let rows = c.args.rows.now.items in
    noted_row rows c.args.node c.args.target c.in-Some.row.now c.push.new.self (slice_get_read rows (length rows) c.args.target c.in-Some.row.now refl c.in-Some.ensures.item.3.0 c.in-Some.ensures.value) (search rules)
