-- A checked design always shows the trace of any one run.
use Rattle.std.proofs.Common.{ℕ, List}
use Rattle.xt_bits.specs.Stimulus.{Stimulus}
use Rattle.xt_bits.specs.Trace.{Trace}
use Rattle.el_design.specs.Checked.{IsChecked}
use Rattle.el_design.specs.Plain.{Flat}
use Rattle.el_design.specs.Queue.{Event}
use Rattle.el_design.specs.Run.{Runs}
use Rattle.el_design.proofs.OrderLaws.{every_order, every_edge_ends}
use Rattle.xt_compile.specs.Hardware.{AlwaysShows}

pub shows : (d : Flat) (order : List ℕ) → IsChecked d order → (x : Stimulus) (t : Trace) (plays : List (List Event)) → Runs d x plays t → AlwaysShows d x t
shows d order checked x t plays runs = record {
  some_order = (plays, runs);
  each_order = λ others other h. every_order d order checked x others plays other t h runs;
  no_endless = λ rows begin begins. (every_edge_ends d order checked x rows begin begins).0;
}
