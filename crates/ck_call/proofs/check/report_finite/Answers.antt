use Rattle.std.proofs.Common.{refl}
use Rattle.ck_call.proofs.Whole.{finite_listed}
use Rattle.ck_call.proofs.check.report_finite.Goals as goal

pub returns : goal.returns
returns c =
    finite_listed _ _ _ _ _ _ _ c.args.design.now.procs _ _ _ c.requires.sound c.requires.texts c.requires.graph c.requires.order c.in_ok-reaches.ensures c.as_slice.ensures refl c.in_ok-report_places.ensures c.report_nesting.ensures
