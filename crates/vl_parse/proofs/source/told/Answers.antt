use Rattle.std.proofs.Common.{◌≡◌, ◌∙◌, rules}
use Rattle.vl_expr.specs.declared.found.ParseError.TheVariants as errors
use Rattle.vl_expr.proofs.Spans.{spans_along}
use Rattle.vl_parse.proofs.Laws.{along, gives_stop}
use Rattle.vl_parse.proofs.source.told.Goals as goal

pub new-input-requires-clause-spans : goal.new-input-requires-clause-spans
new-input-requires-clause-spans c = spans_along c.bytes.ensures.bytes c.list.ensures c.requires.tokens

pub returns-in-Ok : goal.returns-in-Ok
returns-in-Ok c =
    along c.args.text.now.bytes c.args.tokens.now 128 c.new-input.result c.as_slice.result.now c.bytes.result.now c.list.result.now
    c.new-input.ensures (c.as_slice.ensures.value ∙ c.in_ok-terminals.ensures.each) c.bytes.ensures.bytes c.list.ensures
    ∙ c.in-Ok.ensures

pub returns-in-Err-NoTree : goal.returns-in-Err-NoTree
returns-in-Err-NoTree c =
    let f = c.in-Err-NoTree.field-0-is in
    let is : c.in-Err-NoTree.field-0 ≡ errors.NoTree c.in-Err-NoTree.at = search rules in (
      c.in-Err-NoTree.at,
      along c.args.text.now.bytes c.args.tokens.now 128 c.new-input.result c.as_slice.result.now c.bytes.result.now c.list.result.now
          c.new-input.ensures (c.as_slice.ensures.value ∙ c.in_ok-terminals.ensures.each) c.bytes.ensures.bytes c.list.ensures
          ∙ gives_stop c.in-Err-NoTree.field-0 c.in-Err-NoTree.at _ is c.in-Err-NoTree.ensures,
      c.refused.ensures,
    )
