-- what is there with what is left is what was there with all
use Rattle.std.proofs.Common.{◌≡◌, ◌++◌, drop}
use Rattle.std.specs.Prelude.{flat_map}
use Rattle.vl_names.specs.Mentions.{conns_names}
use Rattle.vl_names.proofs.mentions.put_connections.Given as goal

abbrev pub invariant-loop-instance : goal.invariant-loop-instance
invariant-loop-instance l = l.fn.into.items ++ flat_map (λ i. conns_names l.scope i.conns) l.instances ≡ l.into.items ++ flat_map (λ i. conns_names l.scope i.conns) (drop l.instance-index l.instances)
