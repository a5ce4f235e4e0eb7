use Rattle.el_width.proofs.laws.forms_have_their_length.Goals as goal
use Rattle.el_width.proofs.Sized as law

pub returns : goal.returns
returns c = λ env e w signed. law.forms_have env e w signed
