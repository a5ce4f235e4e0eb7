use Rattle.xt_top.specs.Command.{source_asked}
use Rattle.xt_top.proofs.Judging.{no_token_refusal, no_tree_refusal, handed_on}
use Rattle.xt_top.proofs.answer.netlist.Goals as goal

pub returns-in_err-tokens-clause-refusal : goal.returns-in_err-tokens-clause-refusal
returns-in_err-tokens-clause-refusal c =
    handed_on _ c.in_err-tokens.field-0.0 _ c.from_residual.ensures.1 (no_token_refusal c.args.text.now (source_asked c.args.words.now) c.in_err-tokens.field-0.0 c.in_err-tokens.ensures.refused)

pub returns-in_err-tree-clause-refusal : goal.returns-in_err-tree-clause-refusal
returns-in_err-tree-clause-refusal c =
    handed_on _ c.in_err-tree.field-0.0 _ c.from_residual-in_err-tree.ensures.1
    (no_tree_refusal c.args.text.now (source_asked c.args.words.now) c.in_ok-tokens.tokens c.in_ok-tokens.ensures.ok c.in_err-tree.field-0.0 c.in_err-tree.ensures.refused c.in_err-tree.ensures.none)
