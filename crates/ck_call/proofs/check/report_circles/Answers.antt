use Rattle.ck_call.proofs.Whole.{circles_listed}
use Rattle.ck_call.proofs.check.report_circles.Goals as goal

pub returns : goal.returns
returns c = circles_listed _ _ _ _ _ _ _ _ c.requires.texts c.requires.graph c.requires.circle c.in_ok-labels.ensures c.deref.ensures.value c.report_recursion.ensures
