-- The passes on names: which breaks each looks for. All of it is this project's own.
use Rattle.std.specs.Prelude.{List, ◌++◌}
use Rattle.xt_base.specs.declared.refusals.Refusal.{Refusal}
use Rattle.vl_tree.specs.declared.modules.Tree.{Tree}
use Rattle.el_scope.specs.Table.{SymbolTable}
use Rattle.el_scope.specs.Naming.{naming_breaks}
use Rattle.el_scope.specs.Connecting.{connecting_breaks}
use Rattle.el_scope.specs.Driving.{driving_breaks}

-- the pass on what names stand for: rules 30, 33, 34 and 38
abbrev pub name_breaks : SymbolTable → Tree → List Refusal
name_breaks t tree = naming_breaks t tree ++ connecting_breaks t tree ++ driving_breaks t tree
