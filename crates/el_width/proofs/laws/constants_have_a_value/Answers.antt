use Rattle.el_width.proofs.laws.constants_have_a_value.Goals as goal
use Rattle.el_width.proofs.FormLayers as law

pub returns : goal.returns
returns c = λ d env context e l names h. law.has_value d env context l e names h
