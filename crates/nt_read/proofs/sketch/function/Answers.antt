use Rattle.std.proofs.Common.{◌≡◌, ◌∙◌, ap, drop}
use Rattle.nt_read.specs.Words.{after_word, after_widths}
use Rattle.nt_read.proofs.Functions.{function_is}
use Rattle.nt_read.proofs.sketch.function.Goals as goal

pub returns : goal.returns
returns c =
    let ins_at : c.skip.result.now ≡ drop 3 (after_word c.args.text.now) = c.skip.ensures ∙ ap (drop 3) c.in_ok-name.ensures.1 in
    let rets_at : c.skip-2.result.now ≡ drop 4 (after_widths 16 (drop 3 (after_word c.args.text.now))) = c.skip-2.ensures ∙ ap (drop 4) (c.in_ok-ins.ensures.1 ∙ ap (after_widths 16) ins_at) in
    function_is c.args.text.now _ _ _ _ _ c.in_ok-name.ensures.0 c.in_ok-ins.ensures.0 ins_at c.in_ok-rets.ensures.0 rets_at
