use Rattle.std.proofs.Common.{◌≡◌, ◌+◌, ◌++◌, arith, cond, drop, get_or, ◌∷◌}
use Rattle.std.proofs.lemmas.List.{take_rest}
use Rattle.vl_pre.specs.Cleaning.{IsStep}
use Rattle.vl_pre.specs.Clean.{cleaned}
use Rattle.std.specs.Option.{option_to_list}
use Rattle.vl_pre.proofs.CleanLemmas.{step_told, step_inside, length_kept, size_positive}
use Rattle.vl_pre.proofs.clean.clean.Goals as goal

pub loop-at-preserved : goal.loop-at-preserved
loop-at-preserved c =
    let is : IsStep c.in_ok-step.step c.loop-at.line (drop (c.loop-at.at + 1) c.args.bytes.now) (cleaned c.loop-at.within 0 c.loop-at.line (get_or c.args.bytes.now c.loop-at.at 0 ∷ drop (c.loop-at.at + 1) c.args.bytes.now)) = rw take_rest at c.in_ok-step.ensures in
    let items : c.keep.new.text.items ≡ c.loop-at.text.items ++ option_to_list c.in_ok-step.step.kept = c.in_ok-keep.ensures.ok in
    let size : c.size-at.result ≡ cond c.in_ok-step.step.more 2 1 = c.size-at.ensures in
    record {
      inside = rw size (step_inside _ _ _ _ _ c.loop-at-test.true is);
      line = omega (arith, is.line_is, size_positive c.in_ok-step.step.more);
      size = rw (items, size) (omega (arith, length_kept c.loop-at.text.items c.in_ok-step.step.kept, size_positive c.in_ok-step.step.more));
      told = rw (items, size) (step_told _ _ _ _ _ _ _ c.loop-at-test.true is c.loop-at.invariant.told);
    }
