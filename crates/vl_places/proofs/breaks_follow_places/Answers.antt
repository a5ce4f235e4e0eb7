use Rattle.vl_places.proofs.Breaks.{not_behind_same, breaks_in_order, rules_in_order}
use Rattle.vl_places.proofs.breaks_follow_places.Goals as goal

pub returns-clause-same : goal.returns-clause-same
returns-clause-same c = not_behind_same

pub returns-clause-breaks : goal.returns-clause-breaks
returns-clause-breaks c = breaks_in_order

pub returns-clause-rules : goal.returns-clause-rules
returns-clause-rules c = rules_in_order
