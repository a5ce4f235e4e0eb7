use Rattle.std.proofs.Common.{rules}
use Rattle.xt_top.specs.Command.{source_asked}
use Rattle.xt_top.specs.Sources.{most_depth}
use Rattle.xt_top.proofs.Judging.{out_of_form_refusal, no_wait_refusal, no_memory}
use Rattle.xt_top.proofs.answer.source.Goals as goal

pub read-requires-clause-tree : goal.read-requires-clause-tree
read-requires-clause-tree c = (most_depth, c.requires.is_tree)

pub returns-in-Err-OutOfForm-clause-refusal : goal.returns-in-Err-OutOfForm-clause-refusal
returns-in-Err-OutOfForm-clause-refusal c =
    out_of_form_refusal c.args.text.now (source_asked c.args.words.now) c.args.tokens.now c.args.tree.now c.requires c.out_of_form.result c.out_of_form.ensures.named c.out_of_form.ensures.refusal
    (λ source form. no_memory _ c.in-Err-OutOfForm.field-0-is (c.in-Err-OutOfForm.ensures.only source form))

pub returns-else-waits-clause-refusal : goal.returns-else-waits-clause-refusal
returns-else-waits-clause-refusal c =
    no_wait_refusal c.args.text.now (source_asked c.args.words.now) c.args.tokens.now c.args.tree.now c.requires c.no_wait.result (search rules) c.in-Ok.source c.no_wait.ensures c.in-Ok.ensures.form (search rules)
