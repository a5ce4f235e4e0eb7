use Rattle.std.proofs.Common.{None}
use Rattle.vl_pre.specs.MacroViews.{macro_seen}
use Rattle.vl_pre.proofs.TableLemmas.{updates_seen}
use Rattle.vl_pre.proofs.table.Table.undef.Goals as goal

pub returns : goal.returns
returns c = λ i name. updates_seen macro_seen c.args.name.now c.args.self.now.macros c.remove.new.self None c.remove.ensures.updates name i
