-- They are few, and each follows those before it.
use Rattle.std.proofs.Common.{rules}
use Rattle.nt_core.proofs.conditions.are_nodes.Goals as goal

pub returns-then-is_numbered : goal.returns-then-is_numbered
returns-then-is_numbered c = (λ h. record { few = search rules; each = c.all_follow.ensures.0 h }, λ are. c.all_follow.ensures.1 are.each)
