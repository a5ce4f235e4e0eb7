-- The rules on declarations: 31, a name is declared a second time in its scope, or a module a second time (IEEE 1364-2005, 4.11 and
-- 12.7), and 37, a declared name begins with `xtc_`, which this project keeps for what it adds to a design.
use Rattle.std.specs.Prelude.{ℕ, ◌==◌, not, Bool, false, List, ◌++◌, Option, Some, None, map, take, codes, bytes_eq, flat_map}
use Rattle.xt_base.specs.declared.refusals.Refusal.{Refusal}
use Rattle.vl_names.specs.declared.kinds.Declaration.{Declaration}
use Rattle.el_scope.specs.Table.{SymbolTable, spelled, break_at, only_if}
use Rattle.el_scope.specs.Lookup.{declared_in}

-- a declaration stands at another token
abbrev pub is_elsewhere : ℕ → Option Declaration → Bool
is_elsewhere at None = false
is_elsewhere at (Some d) = not (at == d.entity.at)

-- the name of a declaration is declared before in its scope
abbrev pub is_second : SymbolTable → Declaration → Bool
is_second t d = is_elsewhere d.entity.at (declared_in t d.entity.scope (spelled t d.entity.at))

-- a name begins with `xtc_`
abbrev pub is_kept : List ℕ → Bool
is_kept name = bytes_eq (codes "xtc_") (take 4 name)

-- the rules that a declaration breaks
abbrev pub declaring_rules : SymbolTable → Declaration → List ℕ
declaring_rules t d = only_if (is_second t d) 31 ++ only_if (is_kept (spelled t d.entity.at)) 37

-- the pass on declarations: their breaks, each at the name
abbrev pub declaration_breaks : SymbolTable → List Refusal
declaration_breaks t = flat_map (λ d. map (break_at t d.entity.at) (declaring_rules t d)) t.declarations
