use Rattle.std.proofs.Common.{◌≡◌, drop, map, string_bytes}
use Rattle.vl_pre.specs.Macros.{no_macros, with_defines}
use Rattle.vl_pre.specs.Tables.{table_of}
use Rattle.vl_pre.proofs.defines.table_of.Given as goal

abbrev pub invariant-loop-define : goal.invariant-loop-define
invariant-loop-define l = with_defines (table_of l.table) (map (λ e. (string_bytes e.name, string_bytes e.text)) (drop l.define-index l.list)) ≡ with_defines no_macros (map (λ e. (string_bytes e.name, string_bytes e.text)) l.list)
