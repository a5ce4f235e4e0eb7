-- what is there with what is left is all
use Rattle.std.proofs.Common.{◌≡◌, ◌++◌, map, drop}
use Rattle.el_design.specs.View.{func_of}
use Rattle.ck_call.specs.inner.Lines.{lines}
use Rattle.ck_call.proofs.texts.function_texts.Given as goal

abbrev pub invariant-loop-func : goal.invariant-loop-func
invariant-loop-func l = map (λ f. lines f.body) (map func_of l.funcs) ≡ l.all ++ map (λ f. lines f.body) (map func_of (drop l.func-index l.funcs))
