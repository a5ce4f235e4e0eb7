-- What a name stands for: the declaration in the innermost scope that has one, from the scope where the name stands outwards
-- (IEEE 1364-2005, 12.7). The modules of a source have a name space of their own, round all of them (4.11).
use Rattle.std.specs.Prelude.{ℕ, zero, suc, ◌==◌, ◌&&◌, Bool, List, [], ◌∷◌, Option, None, length, bytes_eq}
use Rattle.std.specs.Option.{option_or, option_map_or}
use Rattle.std.specs.List.{find}
use Rattle.vl_names.specs.declared.kinds.Declaration.{Declaration}
use Rattle.el_scope.specs.Table.{SymbolTable, spelled}

-- a declaration is that of this name in this scope
abbrev pub is_named : SymbolTable → ℕ → List ℕ → Declaration → Bool
is_named t scope name d = scope == d.entity.scope && bytes_eq name (spelled t d.entity.at)

-- the declaration of a name in a scope; of several the first
abbrev pub declared_in : SymbolTable → ℕ → List ℕ → Option Declaration
declared_in t scope name = find (is_named t scope name) t.declarations

-- the declaration whose name is this token
abbrev pub declared_at : SymbolTable → ℕ → Option Declaration
declared_at t at = find (λ d. at == d.entity.at) t.declarations

-- a scope and those round it, the innermost first, of which so many are counted: each stands in the scope where its name is declared
abbrev pub outwards : SymbolTable → ℕ → ℕ → List ℕ
outwards t zero scope = []
outwards t (suc n) scope = scope ∷ option_map_or (λ d. outwards t n d.entity.scope) (declared_at t scope) []

-- a scope and all those round it, which are declared one by one, and the name space of modules
abbrev pub scopes_round : SymbolTable → ℕ → List ℕ
scopes_round t scope = outwards t (suc (length t.declarations)) scope

-- the declaration of a name in the first of these scopes that has one
abbrev pub innermost : SymbolTable → List ℕ → List ℕ → Option Declaration
innermost t name [] = None
innermost t name (scope ∷ scopes) = option_or (declared_in t scope name) (innermost t name scopes)

-- what a name stands for in a scope
abbrev pub resolve : SymbolTable → ℕ → List ℕ → Option Declaration
resolve t scope name = innermost t name (scopes_round t scope)
