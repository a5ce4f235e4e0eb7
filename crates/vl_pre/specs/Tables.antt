-- The macros that a table has. This project's own.
use Rattle.std.specs.Prelude.{bytes_eq}
use Rattle.std.specs.Option.{option_map}
use Rattle.std.specs.HashMap.{get_by}
use Rattle.vl_pre.specs.Macros.{Macros}
use Rattle.vl_pre.specs.MacroViews.{macro_seen}
use Rattle.vl_pre.specs.declared.table.Table.{Table}

abbrev pub table_of : Table → Macros
table_of table = λ name. option_map macro_seen (get_by (λ key. bytes_eq name key.items) table.macros)
