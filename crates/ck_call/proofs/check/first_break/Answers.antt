use Rattle.el_design.specs.View.{flat_of}
use Rattle.ck_call.proofs.Whole.{found}
use Rattle.ck_call.proofs.check.first_break.Goals as goal

pub returns : goal.returns
returns c = found (flat_of c.args.design.now) _ _ _ _ _ c.in_ok-texts.ensures c.new-finder.ensures c.in_ok-report_impure.ensures c.report_misfits.ensures c.in_ok-report_uses.ensures
