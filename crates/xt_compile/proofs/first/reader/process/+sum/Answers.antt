use Rattle.std.proofs.Common.{◌∙◌, ap}
use Rattle.xt_compile.proofs.first_form.FormSums.{other_name}
use Rattle.xt_compile.specs.first.Tree.{sum_of}
use Rattle.xt_compile.proofs.first.reader.process.+sum.Goals as goal

pub returns-then-not-is_empty : goal.returns-then-not-is_empty
returns-then-not-is_empty t c =
    ap (sum_of c.args.lexed.now.names c.args.ports.now) c.in-Name.is
    ∙ other_name c.args.lexed.now.names c.args.ports.now c.in-Name.at c.in-Name.name c.in-Name.selects (λ none. let is = c.is_empty.ensures.1 none in cc)
