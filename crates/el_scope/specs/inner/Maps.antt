-- The maps of a symbol table. All of it is this project's own.
use Rattle.std.specs.Prelude.{◌≡◌, ◌<◌, ℕ, ◌==◌, ◌&&◌, List, Option, None, bytes_eq, length, slice_index_or}
use Rattle.std.specs.Map.{lookup}
use Rattle.vl_names.specs.declared.kinds.Declaration.{Declaration}
use Rattle.el_scope.specs.declared.table.Key.{Key}
use Rattle.el_scope.specs.Table.{SymbolTable}
use Rattle.el_scope.specs.Lookup.{declared_in, declared_at}
use Rattle.el_scope.specs.Nesting.{scope_at}

-- what a map knows of a name in a scope
abbrev pub named : {X : Type 0} → List (Key × X) → ℕ → List ℕ → Option X
named known scope word = lookup (λ k. scope == k.scope && bytes_eq word k.name.now) known

-- what a map knows of a token
abbrev pub at_token : {X : Type 0} → List (ℕ × X) → ℕ → Option X
at_token known at = lookup (λ k. at == k) known

-- a map knows the names of a table
abbrev pub AllNamed : SymbolTable → List (Key × Declaration) → Type 0
AllNamed t known = (scope : ℕ) (word : List ℕ) → named known scope word ≡ declared_in t scope word

-- a map knows the tokens of a table
abbrev pub AllAt : SymbolTable → List (ℕ × Declaration) → Type 0
AllAt t known = (at : ℕ) → at_token known at ≡ declared_at t at

-- the scope at each token of a table
pub record AreScopes (t : SymbolTable) (scopes : List (Option ℕ)) : Type 0 where
  pub count : length scopes ≡ length t.names
  pub each : (at : ℕ) → at < length t.names → slice_index_or scopes at None ≡ scope_at t at
