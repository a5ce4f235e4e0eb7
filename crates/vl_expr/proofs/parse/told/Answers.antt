use Rattle.std.proofs.Common.{◌∙◌, sym, ap}
use Rattle.vl_expr.specs.Reading.{whole_of}
use Rattle.vl_expr.proofs.parse.told.Goals as goal

pub returns-in-Ok : goal.returns-in-Ok
returns-in-Ok c = (
  c.in-Ok.found.depth,
  ap (λ ls. whole_of ls c.args.depth c.args.at) (sym (c.as_slice.ensures.value ∙ c.in_ok-terminals.ensures.each)) ∙ c.in-Ok.ensures,
)
