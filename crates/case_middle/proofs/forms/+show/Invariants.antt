use Rattle.std.proofs.Common.{◌*◌, ◌+◌}
use Rattle.case_middle.proofs.forms.+show.Given as goal

abbrev pub decreases-show : goal.decreases-show
decreases-show l = 4 * l.levels

abbrev pub decreases-show_all : goal.decreases-show_all
decreases-show_all l = 4 * l.levels + 1

abbrev pub decreases-show_pick : goal.decreases-show_pick
decreases-show_pick l = 4 * l.levels + 1

abbrev pub decreases-show_one : goal.decreases-show_one
decreases-show_one l = 4 * l.levels + 1

abbrev pub decreases-show_kind : goal.decreases-show_kind
decreases-show_kind l = 4 * l.levels + 3

abbrev pub decreases-show_operator : goal.decreases-show_operator
decreases-show_operator l = 4 * l.levels + 2
