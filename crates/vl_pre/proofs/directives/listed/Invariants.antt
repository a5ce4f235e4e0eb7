use Rattle.std.proofs.Common.{◌≡◌, drop, map}
use Rattle.vl_pre.specs.Directives.{listed_under}
use Rattle.vl_pre.proofs.directives.listed.Given as goal

abbrev pub invariant-loop-word : goal.invariant-loop-word
invariant-loop-word l = listed_under l.name (map (λ d. (d.0.now, d.1)) (drop l.word-index l.list)) ≡ listed_under l.name (map (λ d. (d.0.now, d.1)) l.list)
