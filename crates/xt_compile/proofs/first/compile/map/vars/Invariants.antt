-- each variable so far has its node
use Rattle.std.proofs.Common.{get_or}
use Rattle.xt_bits.specs.Word.{word}
use Rattle.xt_compile.specs.first.Form.{var_widths}
use Rattle.xt_compile.proofs.first_form.Maps.{EachSoFar}
use Rattle.xt_compile.proofs.first.compile.map.vars.Given as goal

abbrev pub invariant-loop-place : goal.invariant-loop-place
invariant-loop-place l = EachSoFar l.design l.fn.builder l.builder l.nodes.items (var_widths l.design) l.place (λ s x. get_or s.state.registers x.0 (word x.1 0))
