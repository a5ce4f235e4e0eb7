use Rattle.std.proofs.Common.{◌∙◌, ap, Ok}
use Rattle.nt_read.proofs.Refusals.{only}
use Rattle.nt_read.proofs.read.Goals as goal

pub returns-in-Ok-Some-clause-only : goal.returns-in-Ok-Some-clause-only
returns-in-Ok-Some-clause-only c = λ n net same. only c.netlist.result c.args.bytes.now c.in-Ok-Some.netlist n _ c.netlist.ensures (c.in-Ok-Some.is ∙ ap (λ o. Ok o) c.in-Ok-Some.field-0-is) net same
