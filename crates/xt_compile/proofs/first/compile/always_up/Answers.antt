use Rattle.std.proofs.Common.{ap}
use Rattle.xt_bits.specs.Word.{Word}
use Rattle.xt_compile.proofs.first_form.Growing.{added_means}
use Rattle.xt_compile.proofs.first_form.Sums.{if_ok}
use Rattle.xt_compile.proofs.first.compile.always_up.Goals as goal

pub returns : goal.returns
returns c = if_ok _ _ _ (λ i is. added_means c.args.design.now _ _ _ i 1 _ is tt (ap (λ (k : Word). k.width) c.new.ensures) (λ s. c.new.ensures)) c.node.ensures.ok
