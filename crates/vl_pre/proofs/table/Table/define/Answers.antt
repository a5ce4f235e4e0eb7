use Rattle.std.proofs.Common.{Some}
use Rattle.vl_pre.specs.MacroViews.{macro_seen}
use Rattle.vl_pre.proofs.TableLemmas.{updates_seen}
use Rattle.vl_pre.proofs.table.Table.define.Goals as goal

pub returns-clause-ok : goal.returns-clause-ok
returns-clause-ok c = λ i name. updates_seen macro_seen c.args.defined.name.items c.args.self.now.macros c.insert.new.self (Some c.args.defined.meaning) c.in_ok-insert.ensures.updates name i
