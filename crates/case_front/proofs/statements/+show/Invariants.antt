use Rattle.std.proofs.Common.{◌*◌, ◌+◌}
use Rattle.case_front.proofs.statements.+show.Given as goal

abbrev pub decreases-show : goal.decreases-show
decreases-show l = 4 * l.levels

abbrev pub decreases-show_all : goal.decreases-show_all
decreases-show_all l = 4 * l.levels + 1

abbrev pub decreases-show_citems : goal.decreases-show_citems
decreases-show_citems l = 4 * l.levels + 1

abbrev pub decreases-show_in : goal.decreases-show_in
decreases-show_in l = 4 * l.levels + 1

abbrev pub decreases-show_if : goal.decreases-show_if
decreases-show_if l = 4 * l.levels + 1
