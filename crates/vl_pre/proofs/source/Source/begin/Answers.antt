use Rattle.std.proofs.Common.{rules}
use Rattle.vl_pre.specs.Readings.{reading_seen}
use Rattle.vl_pre.specs.Sources.{include_in}
use Rattle.vl_pre.proofs.SourceLemmas.{err_same, first_fault, first_refused, first_source}
use Rattle.vl_pre.proofs.source.Source.begin.Goals as goal

pub returns-in_err-bytes-clause-fault : goal.returns-in_err-bytes-clause-fault
returns-in_err-bytes-clause-fault g c =
    err_same _ c.in_err-bytes.field-0.0 _ c.from_residual.ensures.1
    (first_fault c.args.name.now c.args.defines.now c.in_err-bytes.field-0.0 (g.F.Files.held c.args.files.now) (g.F.Files.faults c.args.files.now) (g.F.Files.faults c.load.new.files) c.in_err-bytes.ensures.fault)

pub returns-in_err-new-clause-fault : goal.returns-in_err-new-clause-fault
returns-in_err-new-clause-fault g c =
    err_same _ c.in_err-new.field-0.0 _ c.from_residual-in_err-new.ensures.1
    (first_refused c.in_err-new.field-0.0 (g.F.Files.held c.args.files.now) c.args.name.now c.args.defines.now c.in_ok-bytes.bytes.items (reading_seen c.in_ok-state.state) (g.F.Files.faults c.args.files.now) (g.F.Files.faults c.load.new.files)
    c.in_ok-bytes.ensures.size c.in_ok-bytes.ensures.counted (search (rules, c.in_ok-state.ensures.ok)) (λ include. search (rules, c.in_err-new.ensures.exact include (reading_seen c.in_ok-state.state))) c.in_ok-bytes.ensures.bytes)

pub returns-clause-rest : goal.returns-clause-rest
returns-clause-rest g c = λ h e.
    first_source h c.args.name.now c.args.defines.now c.in_ok-bytes.bytes.items (record { state = c.in_ok-state.state; input = c.in_ok-new.field-0; outer = c.new-2.result }) c.in_ok-bytes.ensures.size (c.in_ok-bytes.ensures.bytes h e)
    (search (rules, c.in_ok-state.ensures.ok)) c.new-2.ensures.items (search (rules, c.in_ok-new.ensures.exact (include_in h 0) (reading_seen c.in_ok-state.state)))
