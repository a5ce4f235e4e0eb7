use Rattle.ck_call.proofs.Reaching.{reach_result}
use Rattle.ck_call.proofs.reach.reached_tasks.Goals as goal

pub returns : goal.returns
returns c = reach_result _ _ _ _ _ _ c.in_ok-marks.ensures c.deref.ensures.value c.len.ensures c.marked.ensures
