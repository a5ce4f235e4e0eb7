use Rattle.ck_call.proofs.Counts.{nowhere_is}
use Rattle.ck_call.proofs.targets.is_nowhere.Goals as goal

pub returns-in-Concat : goal.returns-in-Concat
returns-in-Concat c = nowhere_is _ _ _ c.in-Concat.is c.is_empty.ensures
