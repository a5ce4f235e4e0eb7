-- The tokens of a text stand in it, and are at most as many as its bytes.
use Rattle.vl_expr.proofs.Spans.{spans_along, counted, sized}
use Rattle.vl_expr.proofs.words.terminals.Goals as goal

pub classified-requires : goal.classified-requires
classified-requires c = spans_along c.bytes.ensures.bytes c.list.ensures c.requires

pub returns-clause-count : goal.returns-clause-count
returns-clause-count c = counted c.bytes.ensures.bytes c.list.ensures c.classified.result c.classified.ensures

pub returns-clause-size : goal.returns-clause-size
returns-clause-size c = sized c.bytes.ensures.bytes c.list.ensures c.requires c.bytes.ensures.size c.classified.result c.classified.ensures
