-- The scope in which each token stands (IEEE 1364-2005, 12.7): the innermost that is open there. A module, task, function or named
-- block opens its scope behind its name, and its end word closes it.
use Rattle.std.specs.Prelude.{ℕ, zero, suc, ◌+◌, ◌-◌, ◌&&◌, ◌||◌, not, Bool, true, false, List, [], ◌∷◌, ◌++◌, Option, codes, length, take, slice_get, if◌then◌else◌}
use Rattle.std.specs.Option.{option_map_or}
use Rattle.vl_names.specs.declared.kinds.EntityKind.{EntityKind}
use Rattle.vl_names.specs.declared.kinds.EntityKind.TheVariants as kind
use Rattle.el_scope.specs.Table.{SymbolTable, spells}
use Rattle.el_scope.specs.Lookup.{declared_at}

abbrev pub has_scope : EntityKind → Bool
has_scope kind.Module = true
has_scope kind.Task = true
has_scope kind.Function = true
has_scope kind.Block = true
has_scope _ = false

-- a token is the name of a scope
abbrev pub names_scope : SymbolTable → ℕ → Bool
names_scope t at = option_map_or (λ d. has_scope d.entity.kind) (declared_at t at) false

-- a token begins a block without a name
abbrev pub begins_unnamed : SymbolTable → ℕ → Bool
begins_unnamed t at = spells t at (codes "begin") && not (spells t (at + 1) (codes ":"))

-- a token ends a module, task, function or block
abbrev pub is_end : SymbolTable → ℕ → Bool
is_end t at = spells t at (codes "end") || spells t at (codes "endtask") || spells t at (codes "endfunction") || spells t at (codes "endmodule")

-- all but the last
abbrev pub without_last : List ℕ → List ℕ
without_last xs = take (length xs - 1) xs

abbrev pub last_of : List ℕ → Option ℕ
last_of xs = slice_get xs (length xs - 1)

-- one more like the last
abbrev pub with_last_again : List ℕ → List ℕ
with_last_again xs = option_map_or (λ x. xs ++ x ∷ []) (last_of xs) xs

-- what is open behind a token, where this is open before it: the scope in each module, task, function and block, the innermost last. That
-- in a block without a name is the one round it.
abbrev pub open_behind : SymbolTable → ℕ → List ℕ → List ℕ
open_behind t at scopes =
    if is_end t at then without_last scopes else
    if begins_unnamed t at then with_last_again scopes else
    if names_scope t at then scopes ++ at ∷ [] else scopes

-- what is open at a token
abbrev pub open_at : SymbolTable → ℕ → List ℕ
open_at t zero = []
open_at t (suc at) = open_behind t at (open_at t at)

-- the scope in which a token stands, if it stands in a module, behind the module's name
abbrev pub scope_at : SymbolTable → ℕ → Option ℕ
scope_at t at = last_of (open_at t at)
