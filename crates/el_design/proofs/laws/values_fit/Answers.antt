use Rattle.el_design.proofs.laws.values_fit.Goals as goal
use Rattle.el_design.proofs.FitValues as law

pub returns : goal.returns
returns c = λ d sound s e f h. law.value_word d s f e h
