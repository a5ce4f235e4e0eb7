use Rattle.std.proofs.Common.{◌≡◌, refl, sym, ◌∙◌}
use Rattle.nt_write.proofs.Ending.{took, lost}
use Rattle.nt_write.proofs.write.Goals as goal

pub returns-then-has_failed : goal.returns-then-has_failed
returns-then-has_failed g c =
    let end = c.out-1.given.1 (sym (c.flush.ensures.same ∙ c.text.ensures.same ∙ c.new-pen.ensures.same)) in
    let bad = sym c.has_failed.ensures ∙ c.if-has_failed.true in
    let all = lost c.out-1.given.0 c.new-pen.ensures.fresh c.text.ensures.takes c.flush.ensures.takes bad end in
    record {
      never_falls = all.never_falls;
      written = λ is. cc;
      cut = λ _. all.cut;
      fault = λ _. all.fault;
      memory = λ is. cc;
      no_fault = λ is_not. absurd (is_not refl);
    }

pub returns : goal.returns
returns g c =
    let end = c.out-1.given.1 (sym (c.flush.ensures.same ∙ c.text.ensures.same ∙ c.new-pen.ensures.same)) in
    let good = sym c.has_failed.ensures ∙ c.if-has_failed.false in
    let all = took c.out-1.given.0 c.new-pen.ensures.fresh c.text.ensures.takes c.flush.ensures.takes c.flush.ensures.empty good end in
    record {
      never_falls = all.never_falls;
      written = λ _. all.written;
      cut = λ is. cc;
      fault = λ is. cc;
      memory = λ is. cc;
      no_fault = λ _. all.same;
    }
