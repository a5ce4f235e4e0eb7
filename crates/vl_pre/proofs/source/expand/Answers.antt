use Rattle.std.proofs.Common.{rules, ◌∙◌, sym, subst}
use Rattle.std.specs.Prelude.{IfOk}
use Rattle.vl_pre.specs.Faults.{IsText, AskedInOrder, loads_of}
use Rattle.vl_pre.proofs.TurnLemmas.{begun_asked, first_asked}
use Rattle.vl_pre.proofs.source.expand.Goals as goal

pub returns-in_err-begin-clause-asked : goal.returns-in_err-begin-clause-asked
returns-in_err-begin-clause-asked g c = λ h e.
    first_asked _ h c.args.name.now c.args.defines.now (g.F.Files.asked c.args.files.now) (g.F.Files.asked c.begin.new.files) (c.in_err-begin.ensures.asked (search (rules, e)))

pub returns-clause-text : goal.returns-clause-text
returns-clause-text g c = λ h e.
    subst (λ told. IfOk c.finish.result (λ text. IsText text told)) (sym (c.in_ok-begin.ensures.rest h e)) (c.finish.ensures.text h (c.in_ok-begin.ensures.held ∙ e))

pub returns-clause-asked : goal.returns-clause-asked
returns-clause-asked g c = λ h e.
    subst (λ told. AskedInOrder (g.F.Files.asked c.args.files.now) (g.F.Files.asked c.finish.new.files) (loads_of told)) (sym (c.in_ok-begin.ensures.rest h e))
    (c.finish.ensures.asked h (g.F.Files.asked c.args.files.now) (c.in_ok-begin.ensures.held ∙ e)
    (begun_asked _ c.args.name.now (g.F.Files.asked c.args.files.now) (g.F.Files.asked c.begin.new.files) _ (λ failed. cc) c.in_ok-begin.ensures.loads (c.in_ok-begin.ensures.asked (search (rules, e)))))
