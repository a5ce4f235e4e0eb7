use Rattle.std.proofs.Common.{◌↔◌, drop}
use Rattle.std.specs.Prelude.{flat_map}
use Rattle.nt_core.specs.Conditions.{Drive, host_port_widths}
use Rattle.nt_core.proofs.conditions.drive_hosts.Given as goal

abbrev pub invariant-loop-host : goal.invariant-loop-host
invariant-loop-host l = Drive l.nodes l.drives (flat_map host_port_widths l.hosts) ↔ Drive l.nodes l.rest (flat_map host_port_widths (drop l.host-index l.hosts))
