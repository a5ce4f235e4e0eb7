use Rattle.el_design.specs.Run.{First, Picked}
use Rattle.el_design.specs.RunLaws.{passed_by}
use Rattle.el_design.proofs.run_laws.has_one_run.Goals as goal
use Rattle.el_design.proofs.OneRun as law

pub returns-clause-first : goal.returns-clause-first
returns-clause-first c d order checked = law.has_one_run d order checked First law.first_chooses

pub returns-clause-picked : goal.returns-clause-picked
returns-clause-picked c d order checked pick = law.has_one_run d order checked (Picked pick) (law.pick_chooses pick)

pub returns-clause-each : goal.returns-clause-each
returns-clause-each c d order checked chooser one = law.has_one_run d order checked (passed_by chooser) (law.chooses_one chooser one)

pub returns-clause-at_a_place : goal.returns-clause-at_a_place
returns-clause-at_a_place c = law.place_chooses
