use Rattle.std.proofs.Common.{◌∙◌, map, ap, sym}
use Rattle.std.specs.Prelude.{flat_map}
use Rattle.el_design.specs.Names.{whole_variables}
use Rattle.el_design.specs.View.{lvalue_of}
use Rattle.el_design.proofs.Equations.{target_concat_is}
use Rattle.ck_call.proofs.Arms.{same_end}
use Rattle.ck_call.proofs.Scans.{parts_whole}
use Rattle.ck_call.proofs.assigned.+whole.Goals as goal

pub put_whole-returns-in-Concat : goal.put_whole-returns-in-Concat
put_whole-returns-in-Concat t c =
    same_end _ _ _
    (ap (λ x. whole_variables (lvalue_of x)) c.in-Concat.is ∙ ap whole_variables (target_concat_is _) ∙ parts_whole (map lvalue_of c.in-Concat.parts)
    ∙ ap (λ x. flat_map whole_variables (map lvalue_of x)) (sym c.as_slice.ensures))
    c.put_all_whole.ensures
