use Rattle.vl_parse.proofs.Deeper
use Rattle.vl_parse.proofs.Laws
use Rattle.vl_parse.proofs.source.one_tree.Goals as goal

pub returns-clause-one : goal.returns-clause-one
returns-clause-one c = λ ls names n m s t a b. Laws.one_tree ls names n m s t a b

pub returns-clause-deeper : goal.returns-clause-deeper
returns-clause-deeper c = λ ls names n m tree le is. Deeper.source_deeper ls names n tree is m le
