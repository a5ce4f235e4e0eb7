use Rattle.std.proofs.Common.{◌∙◌}
use Rattle.ck_call.proofs.Reports.{function_reported}
use Rattle.ck_call.proofs.purity.report_function.Goals as goal

pub returns : goal.returns
returns c = function_reported c.args.design.now c.args.func.now _ _ _ _ _ _ _ (c.as_slice.ensures ∙ c.in_ok-own.ensures) c.in_ok-text.ensures c.len.ensures c.report_text.ensures c.in_ok-broken.ensures c.report_result.ensures
