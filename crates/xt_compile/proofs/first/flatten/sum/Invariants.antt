use Rattle.std.proofs.Common.{◌≡◌, fold, take}
use Rattle.xt_compile.specs.first.Flatten.{added, typed, kind_of}
use Rattle.xt_compile.proofs.first.flatten.sum.Given as goal

abbrev pub invariant-loop-right : goal.invariant-loop-right
invariant-loop-right l = l.left ≡ fold (added l.value.width) (typed l.value.width (kind_of l.value.first)) (take l.right-index l.right-items)
