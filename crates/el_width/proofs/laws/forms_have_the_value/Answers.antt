use Rattle.std.specs.Prelude.{false}
use Rattle.el_width.proofs.laws.forms_have_the_value.Goals as goal
use Rattle.el_width.proofs.FormLayers as law

pub returns : goal.returns
returns c = λ d env context e l names h s fits. (law.context_form d env context l e names false h).is s fits
