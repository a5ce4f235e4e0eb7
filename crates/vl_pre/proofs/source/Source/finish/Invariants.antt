use Rattle.std.proofs.Common.{◌≡◌, ◌++◌, List, ℕ, Some}
use Rattle.xt_base.specs.Outside.{Held}
use Rattle.vl_pre.specs.Sources.{IsSource, source_rest, left_to_read}
use Rattle.vl_pre.proofs.source.Source.finish.Given as goal

abbrev pub invariant-loop-source : goal.invariant-loop-source
invariant-loop-source g l = record {
  source : IsSource l.source;
  held : g.F.Files.held l.files ≡ g.F.Files.held l.fn.files;
  counted : g.F.Files.faults l.files ≡ g.F.Files.faults l.fn.files;
  rest : (h : Held) → g.F.Files.held l.fn.files ≡ Some h → source_rest h l.fn.self ≡ source_rest h l.source;
  asked : (start : List (List ℕ)) (h : Held) → g.F.Files.held l.fn.files ≡ Some h → g.F.Files.asked l.fn.files ≡ start ++ l.fn.self.state.loads → g.F.Files.asked l.files ≡ start ++ l.source.state.loads;
}

abbrev pub decreases-loop-source : goal.decreases-loop-source
decreases-loop-source g l = left_to_read l.source
