use Rattle.std.proofs.Common.{rules}
use Rattle.std.specs.Prelude.{string_bytes}
use Rattle.vl_pre.proofs.SourceLemmas.{err_same, included_deep, included_full, included_fault, included_opened, opened_source, inner_of}
use Rattle.vl_pre.proofs.source.Source.include.Goals as goal

pub returns-then-len-ge-INCLUDES_LIMIT-clause-fault :
    goal.returns-then-len-ge-INCLUDES_LIMIT-clause-fault
returns-then-len-ge-INCLUDES_LIMIT-clause-fault g c =
    included_deep c.refuse.result (g.F.Files.held c.args.files.now) c.args.self.now c.args.included (g.F.Files.faults c.args.files.now) (search rules) (search (rules, c.refuse.ensures))

pub returns-then-len-ge-LOADS_LIMIT-clause-fault :
    goal.returns-then-len-ge-LOADS_LIMIT-clause-fault
returns-then-len-ge-LOADS_LIMIT-clause-fault g c =
    included_full c.refuse-then-len-ge-LOADS_LIMIT.result (g.F.Files.held c.args.files.now) c.args.self.now c.args.included (g.F.Files.faults c.args.files.now) (search rules) (search rules) (search (rules, c.refuse-then-len-ge-LOADS_LIMIT.ensures))

pub returns-in_err-input-clause-fault : goal.returns-in_err-input-clause-fault
returns-in_err-input-clause-fault g c =
    err_same _ c.in_err-input.field-0.0 _ c.from_residual.ensures.1
    (included_fault c.in_err-input.field-0.0 (g.F.Files.held c.args.files.now) c.args.self.now c.args.included (g.F.Files.faults c.args.files.now) (g.F.Files.faults c.open.new.files) (search rules) (search rules)
    (λ include. search (rules, c.in_err-input.ensures.fault include)))

pub returns-clause-source : goal.returns-clause-source
returns-clause-source g c = opened_source c.args.self.now (record { state = c.open.new.state; input = c.replace-outer.new.dest; outer = c.push.new.self }) (string_bytes c.args.included.name) c.requires (search rules) (search rules) (search rules) c.in_ok-input.ensures.loads c.in_ok-input.ensures.names c.in_ok-input.ensures.bytes (search rules)

pub returns-clause-rest : goal.returns-clause-rest
returns-clause-rest g c = λ h e. included_opened h c.args.self.now (record { state = c.open.new.state; input = c.replace-outer.new.dest; outer = c.push.new.self }) c.args.included (search rules) (search rules) (search rules) (search (rules, c.in_ok-input.ensures.rest h (inner_of h c.args.self.now) e))
