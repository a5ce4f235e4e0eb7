use Rattle.std.proofs.Common.{rules}
use Rattle.vl_pre.specs.Sources.{include_in, outer_of}
use Rattle.std.specs.Prelude.{length}
use Rattle.vl_pre.proofs.SourceLemmas.{err_same}
use Rattle.vl_pre.proofs.TurnLemmas.{step_fault, err_match, include_asked, source_asked, leave_asked}
use Rattle.vl_pre.proofs.source.Source.turn.Goals as goal

pub returns-in_err-step-clause-fault : goal.returns-in_err-step-clause-fault
returns-in_err-step-clause-fault g c =
    err_same _ c.in_err-step.field-0.0 _ c.from_residual.ensures.1
    (step_fault c.in_err-step.field-0.0 (g.F.Files.held c.args.files.now) c.args.self.now (g.F.Files.faults c.args.files.now) c.in_err-step.ensures.exact)

pub returns-in_err-step-clause-asked : goal.returns-in_err-step-clause-asked
returns-in_err-step-clause-asked g c = λ h start e asked. err_match c.from_residual.result _ _ c.from_residual.ensures.0 (source_asked h c.args.self.now start _ asked)

pub returns-in_err-include-in-Includes-clause-asked :
    goal.returns-in_err-include-in-Includes-clause-asked
returns-in_err-include-in-Includes-clause-asked g c = λ h start e asked.
    err_match c.from_residual-in_err-include-in-Includes.result _ _ c.from_residual-in_err-include-in-Includes.ensures.0
    (include_asked _ h c.args.self.now c.step.new.state c.step.new.input c.in_ok-step.field-0 c.in-Includes.included start _ _ c.in-Includes.is (c.in_ok-step.ensures.exact (include_in h (length (outer_of c.args.self.now)))) asked
    c.in_ok-step.ensures.loads (c.in_err-include-in-Includes.ensures.asked (search (rules, e))))

pub returns-in-Ends-clause-asked : goal.returns-in-Ends-clause-asked
returns-in-Ends-clause-asked g c = λ h start e asked.
    leave_asked c.leave.result start _ c.step.new.state.loads _ _ c.leave.ensures.loads (search (rules, asked, c.in_ok-step.ensures.loads)) (source_asked h c.args.self.now start _ asked)
