use Rattle.el_design.proofs.laws.functions_end.Goals as goal
use Rattle.el_design.proofs.FunctionEnds as law

pub returns : goal.returns
returns c d order checked = law.functions_end d checked.sound checked.clean
