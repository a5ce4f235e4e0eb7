-- The loop's facts are those of the lists.
use Rattle.std.proofs.Common.{refl, arith}
use Rattle.nt_core.proofs.Drives.{drive_all}
use Rattle.nt_core.proofs.conditions.drive_widths.Goals as goal

pub returns : goal.returns
returns c = (
  λ h. drive_all c.args.nodes.now c.args.drives.now c.args.widths.now (omega arith) (λ k l. c.loop-i.invariant k (omega arith)),
  λ d. refl,
)
