use Rattle.ck_call.proofs.Caps.{concat_weight}
use Rattle.ck_call.proofs.targets.+weight.Goals as goal

pub target_weight-returns-in-Concat : goal.target_weight-returns-in-Concat
target_weight-returns-in-Concat t c = concat_weight _ _ _ _ _ c.in-Concat.is c.as_slice.ensures c.parts_weight.ensures c.add.ensures
