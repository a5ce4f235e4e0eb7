use Rattle.std.proofs.Common.{◌∙◌, sym}
use Rattle.vl_expr.specs.Terminals.{terminals_of}
use Rattle.vl_lex.specs.Views.{spellings_of}
use Rattle.vl_parse.proofs.Laws.{no_tokens, empty_found, told_found, told_only, told_refused, told_none}
use Rattle.vl_parse.proofs.source.parse.Goals as goal

pub returns-then-is_empty-clause-found : goal.returns-then-is_empty-clause-found
returns-then-is_empty-clause-found c =
    empty_found c.args.text.now.bytes c.args.tokens.now 128 c.new-modules.result
    (sym c.list.ensures ∙ no_tokens c.list.result.now (sym c.is_empty.ensures ∙ c.if-is_empty.true)) c.new-modules.ensures

pub returns-clause-found : goal.returns-clause-found
returns-clause-found c =
    told_found c.args.text.now c.args.tokens.now (terminals_of c.args.text.now.bytes c.args.tokens.now)
    (spellings_of c.args.text.now.bytes c.args.tokens.now) 128 c.told.result c.told.ensures

pub returns-clause-only : goal.returns-clause-only
returns-clause-only c =
    told_only c.args.text.now c.args.tokens.now (terminals_of c.args.text.now.bytes c.args.tokens.now)
    (spellings_of c.args.text.now.bytes c.args.tokens.now) 128 c.told.result c.told.ensures

pub returns-clause-none : goal.returns-clause-none
returns-clause-none c =
    told_none c.args.text.now c.args.tokens.now (terminals_of c.args.text.now.bytes c.args.tokens.now)
    (spellings_of c.args.text.now.bytes c.args.tokens.now) 128 c.told.result c.told.ensures

pub returns-clause-refused : goal.returns-clause-refused
returns-clause-refused c =
    told_refused c.args.text.now c.args.tokens.now (terminals_of c.args.text.now.bytes c.args.tokens.now)
    (spellings_of c.args.text.now.bytes c.args.tokens.now) 128 c.told.result c.told.ensures
