-- what is there with what is left is the whole
use Rattle.std.proofs.Common.{◌≡◌, ◌++◌, map, drop}
use Rattle.std.specs.Prelude.{fold, flat_map}
use Rattle.xt_base.specs.First.{sooner}
use Rattle.el_width.specs.Operands.{arguments}
use Rattle.el_width.specs.Breaks.{alone, operands, argument_breaks}
use Rattle.el_width.specs.Expressions.{typed_of, chosen_of}
use Rattle.el_width.specs.inner.Operands.{parts_next, parts_of}
use Rattle.el_width.proofs.read.+read.Given as goal

abbrev pub invariant-parts-loop-expr : goal.invariant-parts-loop-expr
invariant-parts-loop-expr l = record {
  parts : fold parts_next l.all (operands (map (typed_of l.env) (drop l.expr-index l.exprs))) ≡ parts_of (operands (map (typed_of l.env) l.exprs));
  breaks : fold sooner l.finder.first (flat_map (alone l.must) (map (typed_of l.env) (drop l.expr-index l.exprs)))
      ≡ fold sooner l.fn.finder.first (flat_map (alone l.must) (map (typed_of l.env) l.exprs));
}

abbrev pub invariant-arguments-loop-expr : goal.invariant-arguments-loop-expr
invariant-arguments-loop-expr l = record {
  forms : l.forms ++ map (λ m. m.form) (arguments l.left (operands (map (typed_of l.env) (drop l.expr-index l.exprs))))
      ≡ map (λ m. m.form) (arguments l.formals (operands (map (typed_of l.env) l.exprs)));
  breaks : fold sooner l.finder.first (argument_breaks l.must l.left (map (typed_of l.env) (drop l.expr-index l.exprs)))
      ≡ fold sooner l.fn.finder.first (argument_breaks l.must l.formals (map (typed_of l.env) l.exprs));
}

abbrev pub invariant-selects-loop-select : goal.invariant-selects-loop-select
invariant-selects-loop-select l = record {
  taken : l.all ++ map (λ t. t.taken) (map (chosen_of l.env) (drop l.select-index l.list)) ≡ map (λ t. t.taken) (map (chosen_of l.env) l.list);
  breaks : fold sooner l.finder.first (flat_map (λ t. t.broken l.must) (map (chosen_of l.env) (drop l.select-index l.list)))
      ≡ fold sooner l.fn.finder.first (flat_map (λ t. t.broken l.must) (map (chosen_of l.env) l.list));
}
