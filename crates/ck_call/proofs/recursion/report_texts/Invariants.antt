-- what was found with what is left is what is found with all
use Rattle.std.proofs.Common.{◌≡◌, ◌+◌, drop}
use Rattle.std.specs.Prelude.{fold}
use Rattle.xt_base.specs.First.{sooner}
use Rattle.ck_call.specs.inner.Routines.{circle_breaks}
use Rattle.ck_call.proofs.recursion.report_texts.Given as goal

abbrev pub invariant-loop-text : goal.invariant-loop-text
invariant-loop-text l = record {
  number : l.from ≡ l.first + l.text-index;
  found :
      fold sooner l.fn.finder.first (circle_breaks l.labels l.counts.tasks l.counts.funcs l.first l.texts)
      ≡ fold sooner l.finder.first (circle_breaks l.labels l.counts.tasks l.counts.funcs l.from (drop l.text-index l.texts));
}
