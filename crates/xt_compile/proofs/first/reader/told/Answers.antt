use Rattle.std.proofs.Common.{refl}
use Rattle.vl_expr.proofs.Spans.{spans_along}
use Rattle.xt_compile.proofs.first.reader.told.Goals as goal

pub new-lexed-requires : goal.new-lexed-requires
new-lexed-requires c = spans_along refl c.list-2.ensures c.requires
