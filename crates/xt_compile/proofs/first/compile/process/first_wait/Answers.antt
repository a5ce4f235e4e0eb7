use Rattle.std.proofs.Common.{ℕ, Option, length, rules, tests, ◌∙◌, ap, arith}
use Rattle.std.specs.Prelude.{unwrap_or}
use Rattle.std.proofs.lemmas.Iterator.{YieldsList-from_slice}
use Rattle.std.proofs.lemmas.Iterator.Search.{position_from_yields_List}
use Rattle.el_design.specs.View.{statement_of}
use Rattle.xt_compile.specs.first.Machine.{is_wait}
use Rattle.xt_compile.proofs.first_form.Points.{first_place, place_within}
use Rattle.xt_compile.proofs.first.compile.process.first_wait.Goals.{After-unwrap_or}
use Rattle.xt_compile.proofs.first.compile.process.first_wait.Goals as goal

pub returns-clause-place : goal.returns-clause-place
returns-clause-place c =
    let found = position_from_yields_List (λ s. is_wait (statement_of s)) _ _ c.position.result c.position.ensures.ran (YieldsList-from_slice _ c.iter.ensures.rest) (λ x b q k. search (rules, tests)) in
    c.unwrap_or.ensures ∙ ap (λ (o : Option ℕ). unwrap_or o (length c.args.body.now)) found ∙ first_place c.args.body.now

pub returns-clause-within : goal.returns-clause-within
returns-clause-within c = let place = returns-clause-place c in let within = place_within c.args.body.now in omega (arith, place, within)
