-- One host after another.
use Rattle.std.proofs.Common.{arith, sym, ◌∙◌}
use Rattle.nt_core.specs.Ports.{request_up}
use Rattle.nt_run.proofs.Hosts.{any_at, any_more, any_none, no_host}
use Rattle.nt_run.proofs.ports.has_request.Goals as goal

pub returns-then-is_asking : goal.returns-then-is_asking
returns-then-is_asking c =
    sym (any_at (λ h. request_up c.args.netlist.now c.args.values.now h.0) c.args.netlist.now.hosts c.loop-host.host no_host (omega (arith, c.requires.ports.count))
    (sym c.is_asking.ensures ∙ c.if-is_asking.true))

pub loop-host-preserved : goal.loop-host-preserved
loop-host-preserved c =
    any_more (λ h. request_up c.args.netlist.now c.args.values.now h.0) c.args.netlist.now.hosts c.loop-host.host no_host (omega (arith, c.requires.ports.count))
    c.loop-host.invariant (sym c.is_asking.ensures ∙ c.if-is_asking.false)

pub returns : goal.returns
returns c =
    sym (any_none (λ h. request_up c.args.netlist.now c.args.values.now h.0) c.args.netlist.now.hosts c.loop-host.host (omega (arith, c.requires.ports.count)) c.loop-host.invariant)
