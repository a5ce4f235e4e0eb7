use Rattle.std.proofs.Common.{◌∙◌, sym}
use Rattle.vl_expr.proofs.Tables.{listed_map}
use Rattle.vl_expr.proofs.words.entry.Goals as goal

pub returns : goal.returns
returns c = c.first_entry.ensures ∙ sym (listed_map c.args.table.now c.args.bytes.now)
