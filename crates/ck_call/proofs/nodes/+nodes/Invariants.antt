-- what is there with what is left is what was there with all
use Rattle.std.proofs.Common.{◌≡◌, ◌++◌, map, drop}
use Rattle.el_design.specs.View.{expr_of, exprs_of}
use Rattle.ck_call.specs.inner.Nodes.{named_all}
use Rattle.ck_call.proofs.nodes.+nodes.Given as goal

abbrev pub invariant-put_all-loop-expr : goal.invariant-put_all-loop-expr
invariant-put_all-loop-expr l =
    l.fn.into ++ named_all (exprs_of (map expr_of l.exprs))
    ≡ l.into ++ named_all (exprs_of (map expr_of (drop l.expr-index l.exprs)))
