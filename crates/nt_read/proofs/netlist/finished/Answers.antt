use Rattle.std.proofs.Common.{◌∙◌, ap}
use Rattle.nt_core.specs.Text.{text_of}
use Rattle.nt_read.proofs.Distinct.{never}
use Rattle.nt_read.proofs.netlist.finished.Goals as goal

pub returns-else-branch : goal.returns-else-branch
returns-else-branch c = λ shell same. never _ c.if-branch.false (c.in_ok-is_text_of.ensures.1 (ap text_of c.with_nodes-netlist.ensures ∙ same))
