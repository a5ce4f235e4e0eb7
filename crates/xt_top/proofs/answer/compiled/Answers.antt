use Rattle.std.proofs.Common.{rules, subst}
use Rattle.xt_top.specs.Command.{source_asked}
use Rattle.xt_top.specs.Ends.{file_state}
use Rattle.xt_top.specs.inner.Works.{IsRefusal}
use Rattle.xt_base.specs.declared.refusals.Fail.TheVariants as fails
use Rattle.xt_top.proofs.Finding.{fault_stops, refusal_stops, design_done, handed_to, loaded}
use Rattle.xt_top.proofs.answer.compiled.Goals as goal

pub returns-in_err-text-clause-finds : goal.returns-in_err-text-clause-finds
returns-in_err-text-clause-finds g c = λ words asked.
    handed_to words (g.F.Files.held c.args.files.now) (g.F.Files.faults c.args.files.now) (g.F.Files.faults c.expand.new.files) c.from_residual.result c.in_err-text.field-0.0 c.from_residual.ensures.1
    (λ stop is. fault_stops words (source_asked c.args.source.now) asked (g.F.Files.held c.args.files.now) (g.F.Files.faults c.args.files.now) (g.F.Files.faults c.expand.new.files)
    c.in_err-text.field-0.0 stop c.in_err-text.ensures.never_falls c.in_err-text.ensures.fault is)

pub returns-in-Ok-clause-finds : goal.returns-in-Ok-clause-finds
returns-in-Ok-clause-finds g c = λ words asked.
    let (source, accepts, is) = c.in-Ok.ensures.netlist in (
      design_done words (source_asked c.args.source.now) asked (g.F.Files.held c.args.files.now) (g.F.Files.faults c.args.files.now) (g.F.Files.faults c.expand.new.files) c.in_ok-text.text c.in_ok-text.ensures.text c.in_ok-text.ensures.counted
          _ source accepts is,
      c.in_ok-text.ensures.counted,
    )

pub returns-in-Err-Refused-clause-finds : goal.returns-in-Err-Refused-clause-finds
returns-in-Err-Refused-clause-finds g c = λ words asked.
    let is : IsRefusal c.in_ok-text.text (source_asked c.args.source.now) (fails.Refused c.in-Err-Refused.refusal) = subst (IsRefusal c.in_ok-text.text (source_asked c.args.source.now)) c.in-Err-Refused.field-0-is c.in-Err-Refused.ensures.refusal in
    refusal_stops words (source_asked c.args.source.now) asked (g.F.Files.held c.args.files.now) (g.F.Files.faults c.args.files.now) (g.F.Files.faults c.expand.new.files) c.in_ok-text.text c.in_ok-text.ensures.text c.in_ok-text.ensures.counted
    c.in-Err-Refused.refusal c.file_name.result.now c.refused.result is.0 (search rules) c.refused.ensures

pub returns-in-Ok-clause-loads : goal.returns-in-Ok-clause-loads
returns-in-Ok-clause-loads g c =
    loaded (source_asked c.args.source.now) (file_state (g.F.Files.held c.args.files.now) (g.F.Files.asked c.args.files.now) (g.F.Files.faults c.args.files.now))
    (file_state (g.F.Files.held c.expand.new.files) (g.F.Files.asked c.expand.new.files) (g.F.Files.faults c.expand.new.files)) c.in_ok-text.ensures.asked c.in_ok-text.ensures.held
