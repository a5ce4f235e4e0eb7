use Rattle.std.proofs.Common.{◌*◌, ◌+◌}
use Rattle.case_front.proofs.expressions.+show.Given as goal

abbrev pub decreases-show : goal.decreases-show
decreases-show l = 4 * l.levels

abbrev pub decreases-show_pair : goal.decreases-show_pair
decreases-show_pair l = 4 * l.levels + 1

abbrev pub decreases-show_all : goal.decreases-show_all
decreases-show_all l = 4 * l.levels + 1

abbrev pub decreases-show_select : goal.decreases-show_select
decreases-show_select l = 4 * l.levels + 2

abbrev pub decreases-show_other : goal.decreases-show_other
decreases-show_other l = 4 * l.levels + 3
