-- An edge ends, and so there is a trace; more ticks than are needed change nothing, and so there is one alone.
use Rattle.nt_core.proofs.Traces.{trace_exists, one_trace}
use Rattle.nt_core.proofs.laws.has_one_trace.Goals as goal

pub returns : goal.returns
returns c = record {
  some = trace_exists c.args.netlist.now;
  one = one_trace c.args.netlist.now;
}
