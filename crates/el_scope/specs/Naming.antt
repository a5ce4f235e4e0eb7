-- The rules on names where they stand: 30, a name stands for nothing, or a constant expression of a declaration names a parameter that
-- isn't declared before it (IEEE 1364-2005, 4.10 and 12.7), and 33, a name is of a kind that may not stand there.
use Rattle.std.specs.Prelude.{ℕ, ◌==◌, ◌&&◌, not, nat_le, Bool, true, false, List, [], ◌∷◌, ◌++◌, Option, Some, None, map, flat_map, if◌then◌else◌}
use Rattle.std.specs.List.{list_any}
use Rattle.xt_base.specs.declared.refusals.Refusal.{Refusal}
use Rattle.vl_tree.specs.declared.modules.Tree.{Tree}
use Rattle.vl_names.specs.declared.kinds.EntityKind.{EntityKind}
use Rattle.vl_names.specs.declared.kinds.EntityKind.TheVariants as kind
use Rattle.vl_names.specs.declared.kinds.Declaration.{Declaration}
use Rattle.vl_names.specs.declared.kinds.Role.{Role}
use Rattle.vl_names.specs.declared.kinds.Stand.{Stand}
use Rattle.vl_names.specs.Declarations.{definitions}
use Rattle.el_scope.specs.Table.{SymbolTable, spelled, break_at, only_if}
use Rattle.el_scope.specs.Lookup.{scopes_round, declared_in, resolve}
use Rattle.vl_names.specs.declared.kinds.Mention.{Mention}
use Rattle.vl_names.specs.declared.kinds.Mention.TheVariants.{Stands, Ends, Instantiates}
use Rattle.vl_names.specs.Mentions.{tree_names}
use Rattle.el_scope.specs.Kinds.{is_param, may_end, may_stand}

abbrev pub is_function : EntityKind → Bool
is_function kind.Function = true
is_function _ = false

-- the own name of a function in which it stands: its result (10.4.2)
abbrev pub is_inside : SymbolTable → ℕ → Declaration → Bool
is_inside t scope d = is_function d.entity.kind && list_any (λ o. o == d.entity.at) (scopes_round t scope)

-- a parameter that isn't declared before a token, where it has to be
abbrev pub is_late : Option ℕ → Declaration → Bool
is_late None d = false
is_late (Some limit) d = is_param d.entity.kind && nat_le limit d.entity.at

-- the rules that a name breaks in its role, by what it stands for
abbrev pub stand_rules : SymbolTable → Role → Stand → Option Declaration → List ℕ
stand_rules t r stand None = 30 ∷ []
stand_rules t r stand (Some d) = only_if (is_late stand.before d) 30 ++ only_if (not (may_stand r (is_inside t stand.scope d) d)) 33

abbrev pub breaks_at : SymbolTable → ℕ → List ℕ → List Refusal
breaks_at t at rules = map (break_at t at) rules

-- ---- the path of a `disable` (10.3, 12.5)

-- what its name at a token breaks, by what the name stands for; `further` says what the names behind it break in a block or task
abbrev pub end_breaks : SymbolTable → ℕ → (ℕ → List Refusal) → Option Declaration → List Refusal
end_breaks t at further None = breaks_at t at (30 ∷ [])
end_breaks t at further (Some d) = if may_end d.entity.kind then further d.entity.at else breaks_at t at (33 ∷ [])

-- each further name is one of the block or task before it
abbrev pub inner_breaks : SymbolTable → List ℕ → ℕ → List Refusal
inner_breaks t [] scope = []
inner_breaks t (at ∷ path) scope = end_breaks t at (inner_breaks t path) (declared_in t scope (spelled t at))

-- the first is found from its scope outwards; behind a wrong name the others aren't asked
abbrev pub path_breaks : SymbolTable → List ℕ → ℕ → List Refusal
path_breaks t [] scope = []
path_breaks t (at ∷ path) scope = end_breaks t at (inner_breaks t path) (resolve t scope (spelled t at))

-- ---- the module of an instance, which is looked for in the name space of modules (4.11)

-- what its name breaks where no module has it, by what the scopes know it as
abbrev pub no_module_rules : Option Declaration → List ℕ
no_module_rules None = 30 ∷ []
no_module_rules (Some d) = 33 ∷ []

abbrev pub module_rules : SymbolTable → ℕ → ℕ → Option Declaration → List ℕ
module_rules t scope at None = no_module_rules (resolve t scope (spelled t at))
module_rules t scope at (Some d) = []

-- ---- all names

abbrev pub mention_breaks : SymbolTable → Mention → List Refusal
mention_breaks t (Stands at r stand) = breaks_at t at (stand_rules t r stand (resolve t stand.scope (spelled t at)))
mention_breaks t (Ends path scope) = path_breaks t path scope
mention_breaks t (Instantiates at scope) = breaks_at t at (module_rules t scope at (declared_in t definitions (spelled t at)))

abbrev pub mentions_break : SymbolTable → List Mention → List Refusal
mentions_break t names = flat_map (mention_breaks t) names

-- rules 30 and 33: the breaks of all names of a source
abbrev pub naming_breaks : SymbolTable → Tree → List Refusal
naming_breaks t tree = mentions_break t (tree_names tree)
