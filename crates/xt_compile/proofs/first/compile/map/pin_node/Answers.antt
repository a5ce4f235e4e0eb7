use Rattle.std.proofs.Common.{ℕ, Some, refl, sym, ap, get_or, map, subst, ◌≡◌}
use Rattle.std.specs.Prelude.{slice_get}
use Rattle.xt_bits.specs.Word.{word}
use Rattle.xt_compile.specs.Hardware.{input_pins}
use Rattle.xt_compile.proofs.first_form.Growing.{added_means}
use Rattle.xt_compile.proofs.first_form.Sums.{if_ok}
use Rattle.xt_compile.proofs.first.compile.map.pin_node.Goals as goal

pub returns : goal.returns
returns c =
    if_ok _ _ _ (λ i is.
    added_means c.args.design.now _ _ _ i c.args.width _ is
    (subst (λ (k : ℕ). slice_get (map (λ i. i.width) (input_pins c.args.design.now)) k ≡ Some c.args.width) (sym c.in_ok-pin.ensures) c.requires.there) refl
    (λ s. ap (λ (k : ℕ). get_or s.inputs.row k (word c.args.width 0)) c.in_ok-pin.ensures))
    c.node.ensures.ok
