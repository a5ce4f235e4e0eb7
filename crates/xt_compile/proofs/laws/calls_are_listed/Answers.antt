use Rattle.xt_compile.proofs.Hosts as law
use Rattle.xt_compile.proofs.laws.calls_are_listed.Goals as goal

pub returns : goal.returns
returns c = law.calls_are_listed
