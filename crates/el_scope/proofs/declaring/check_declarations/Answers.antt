use Rattle.std.proofs.Common.{rules}
use Rattle.el_scope.specs.Declaring.{declaration_breaks}
use Rattle.el_scope.proofs.Breaks.{answered}
use Rattle.el_scope.proofs.declaring.check_declarations.Goals as goal

pub returns : goal.returns
returns c = answered c.args.table.now (declaration_breaks c.args.table.now) c.report_all.new.findings c.answer.result (search rules) c.answer.ensures.answer c.answer.ensures.named
