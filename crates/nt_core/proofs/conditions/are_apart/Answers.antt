-- A pin is compared with those after it.
use Rattle.std.proofs.Common.{sym, ◌∙◌}
use Rattle.nt_core.proofs.Apart.{later_differ, differs_more}
use Rattle.nt_core.proofs.conditions.are_apart.Goals as goal

pub returns-then-not-differs : goal.returns-then-not-differs
returns-then-not-differs c = (
  λ h. cc,
  λ apart. sym c.if-not-differs.true ∙ c.differs.ensures.1 (later_differ c.args.pins.now c.loop-i.i c.index-pins-i.result c.loop-i-test.true c.index-pins-i.is apart),
)

pub loop-i-preserved : goal.loop-i-preserved
loop-i-preserved c =
    differs_more c.args.pins.now c.loop-i.i c.index-pins-i.result c.loop-i-test.true c.index-pins-i.is c.loop-i.invariant
    (c.differs.ensures.0 c.if-not-differs.false)
