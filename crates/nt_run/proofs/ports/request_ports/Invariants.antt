use Rattle.std.proofs.Common.{◌≡◌, ℕ, ◌<◌, length}
use Rattle.std.specs.Prelude.{slice_index}
use Rattle.nt_core.specs.Ports.{request_port}
use Rattle.nt_run.proofs.ports.request_ports.Given as goal

abbrev pub invariant-loop-host : goal.invariant-loop-host
invariant-loop-host l = record {
  count : length l.ports.items ≡ l.host-index;
  each : (h : ℕ) → h < l.host-index → slice_index l.ports.items h ≡ request_port l.netlist h;
  port : l.port ≡ request_port l.netlist l.host-index;
}
