-- Where the pins are apart, both lists are.
use Rattle.std.proofs.Common.{◌≡◌, true, ◌∙◌}
use Rattle.nt_core.proofs.Apart.{apart_left, apart_right}
use Rattle.nt_core.proofs.conditions.are_distinct.Goals as goal
use Rattle.nt_core.proofs.conditions.are_distinct.Goals.{then-are_apart, else-are_apart}

pub returns-else-are_apart-2 : goal.returns-else-are_apart-2
returns-else-are_apart-2 c = (
  λ h. cc,
  λ apart. elim c.if-are_apart.branch [
    | then-are_apart w ↦ w.value-is ∙ w.are_apart-then-are_apart.ensures.1 (apart_right c.args.inputs.now c.args.outputs.now apart)
    | else-are_apart w ↦ let up : c.are_apart.result ≡ true = c.are_apart.ensures.1 (apart_left c.args.inputs.now c.args.outputs.now apart) in cc
  ],
)
