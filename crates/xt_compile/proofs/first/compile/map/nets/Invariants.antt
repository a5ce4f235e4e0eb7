-- each net so far has its node
use Rattle.el_design.specs.Queue.{pin_value}
use Rattle.el_design.specs.View.{flat_of}
use Rattle.xt_compile.specs.first.Form.{net_widths}
use Rattle.xt_compile.proofs.first_form.Maps.{EachSoFar}
use Rattle.xt_compile.proofs.first.compile.map.nets.Given as goal

abbrev pub invariant-loop-place : goal.invariant-loop-place
invariant-loop-place l = EachSoFar l.design l.fn.builder l.builder l.nodes.items (net_widths l.design) l.place (λ s x. pin_value (flat_of l.design) s.inputs.row x.0 x.1)
