use Rattle.vl_expr.specs.Terminals.{terminals_of}
use Rattle.vl_lex.specs.Views.{spellings_of, places_of}
use Rattle.xt_compile.proofs.first_form.FormLaws.{as_many, one_source, told_form, told_only, told_source}
use Rattle.xt_compile.proofs.first.reader.read.Goals as goal

pub returns-clause-form : goal.returns-clause-form
returns-clause-form c =
    told_form (terminals_of c.args.text.now.bytes c.args.tokens.now) (spellings_of c.args.text.now.bytes c.args.tokens.now) (places_of c.args.text.now c.args.tokens.now) c.args.top.now c.args.clock.now c.args.tree.now c.told.result c.told.ensures.source

pub returns-clause-only : goal.returns-clause-only
returns-clause-only c =
    told_only (terminals_of c.args.text.now.bytes c.args.tokens.now) (spellings_of c.args.text.now.bytes c.args.tokens.now) (places_of c.args.text.now c.args.tokens.now) c.args.top.now c.args.clock.now c.args.tree.now c.told.result c.told.ensures.source

pub returns-clause-one : goal.returns-clause-one
returns-clause-one c =
    one_source (terminals_of c.args.text.now.bytes c.args.tokens.now) (spellings_of c.args.text.now.bytes c.args.tokens.now) (places_of c.args.text.now c.args.tokens.now) c.args.top.now c.args.clock.now c.args.tree.now

pub returns-clause-source : goal.returns-clause-source
returns-clause-source c =
    told_source (terminals_of c.args.text.now.bytes c.args.tokens.now) (spellings_of c.args.text.now.bytes c.args.tokens.now) (places_of c.args.text.now c.args.tokens.now) c.args.top.now c.args.clock.now c.args.tree.now c.told.result c.told.ensures.source
    c.requires.tree.0 (as_many c.args.text.now.bytes c.args.tokens.now) c.requires.tree.1
