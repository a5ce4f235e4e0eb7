-- what is there with what is left is all
use Rattle.std.proofs.Common.{◌≡◌, ◌++◌, map, drop}
use Rattle.std.specs.Prelude.{flat_map}
use Rattle.el_design.specs.View.{net_of}
use Rattle.ck_call.specs.inner.Texts.{net_lines}
use Rattle.ck_call.proofs.texts.net_lines.Given as goal

abbrev pub invariant-loop-net : goal.invariant-loop-net
invariant-loop-net l = flat_map net_lines (map net_of l.nets) ≡ l.all ++ flat_map net_lines (map net_of (drop l.net-index l.nets))
