-- The values are those of a settling.
use Rattle.std.proofs.Common.{◌≡◌, ◌∙◌, arith, length}
use Rattle.std.proofs.lemmas.List.{with_items_is}
use Rattle.nt_run.proofs.KeptLemmas.{kept_settled}
use Rattle.nt_run.proofs.runner.Runner.settle.Goals as goal

pub invariant_of-self : goal.invariant_of-self
invariant_of-self c =
    let old = c.self.inside in
    let size : length c.evaluate.new.values ≡ old.values.len = omega (arith, c.evaluate.auto.values, c.deref_mut.ensures.len) in
    kept_settled _ _ _ _ old.values.items _ _ _ _ c.self.invariant (with_items_is old.values c.evaluate.new.values size ∙ c.evaluate.ensures)
