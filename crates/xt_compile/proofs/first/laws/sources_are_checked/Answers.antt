use Rattle.xt_compile.proofs.first_form.CheckedSource as law
use Rattle.xt_compile.proofs.first.laws.sources_are_checked.Goals as goal

pub returns-clause-checked : goal.returns-clause-checked
returns-clause-checked c = law.design_checked

pub returns-clause-spins : goal.returns-clause-spins
returns-clause-spins c = law.design_spins

pub returns-clause-clean_before : goal.returns-clause-clean_before
returns-clause-clean_before c = law.design_clean
