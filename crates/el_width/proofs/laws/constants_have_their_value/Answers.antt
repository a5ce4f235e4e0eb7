use Rattle.el_width.proofs.laws.constants_have_their_value.Goals as goal
use Rattle.el_width.proofs.Constants as law

pub returns : goal.returns
returns c = λ env e d s w signed x h. law.is_told env d s e w signed x h
