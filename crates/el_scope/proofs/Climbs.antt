-- A look-up climbs from a scope to the one round it.
use Rattle.std.proofs.Common.{◌≡◌, ◌+◌, ◌-◌, ◌<◌, ℕ, suc, List, [], Option, Some, None, ap, ◌∙◌, arith}
use Rattle.std.specs.Prelude.{◌==◌, ◌||◌, Bool, false}
use Rattle.std.specs.List.{list_any}
use Rattle.std.specs.Option.{option_or, option_map_or}
use Rattle.vl_names.specs.declared.kinds.Declaration.{Declaration}
use Rattle.el_scope.specs.Table.{SymbolTable}
use Rattle.el_scope.specs.Lookup.{declared_in, declared_at, outwards, innermost}

one_less : (end i : ℕ) → i < end → end - i ≡ suc (end - (i + 1))
one_less end i h = omega arith

module _ (t : SymbolTable) (name : List ℕ) (scope end i : ℕ) (more : i < end) where
  unfolded : innermost t name (outwards t (end - i) scope)
      ≡ option_or (declared_in t scope name) (innermost t name (option_map_or (λ d. outwards t (end - (i + 1)) d.entity.scope) (declared_at t scope) []))
  unfolded = ap (λ n. innermost t name (outwards t n scope)) (one_less end i more)

  -- a scope that has the name
  pub found_here : (all : Option Declaration) (d : Declaration) → all ≡ innermost t name (outwards t (end - i) scope) → declared_in t scope name ≡ Some d → all ≡ Some d
  found_here all d h e = h ∙ unfolded ∙ ap (λ o. option_or o (innermost t name (option_map_or (λ d. outwards t (end - (i + 1)) d.entity.scope) (declared_at t scope) []))) e

  -- one that hasn't, with one round it
  pub one_out : (all : Option Declaration) (d : Declaration) → all ≡ innermost t name (outwards t (end - i) scope) → declared_in t scope name ≡ None → declared_at t scope ≡ Some d
      → all ≡ innermost t name (outwards t (end - (i + 1)) d.entity.scope)
  one_out all d h e k = h ∙ unfolded ∙ ap (λ o. option_or o (innermost t name (option_map_or (λ d. outwards t (end - (i + 1)) d.entity.scope) (declared_at t scope) []))) e
      ∙ ap (λ o. innermost t name (option_map_or (λ d. outwards t (end - (i + 1)) d.entity.scope) o [])) k

  -- one that hasn't, with none round it
  pub none_out : (all : Option Declaration) → all ≡ innermost t name (outwards t (end - i) scope) → declared_in t scope name ≡ None → declared_at t scope ≡ None → all ≡ None
  none_out all h e k = h ∙ unfolded ∙ ap (λ o. option_or o (innermost t name (option_map_or (λ d. outwards t (end - (i + 1)) d.entity.scope) (declared_at t scope) []))) e
      ∙ ap (λ o. innermost t name (option_map_or (λ d. outwards t (end - (i + 1)) d.entity.scope) o [])) k

-- a scope that isn't the one that is looked for, with one round it
pub further_out : (t : SymbolTable) (outer scope end i : ℕ) → i < end → (all : Bool) (d : Declaration) → all ≡ list_any (λ o. o == outer) (outwards t (end - i) scope)
    → (scope == outer) ≡ false → declared_at t scope ≡ Some d → all ≡ list_any (λ o. o == outer) (outwards t (end - (i + 1)) d.entity.scope)
further_out t outer scope end i more all d h e k =
    h ∙ ap (λ n. list_any (λ o. o == outer) (outwards t n scope)) (one_less end i more)
    ∙ ap (λ b. b || list_any (λ o. o == outer) (option_map_or (λ d. outwards t (end - (i + 1)) d.entity.scope) (declared_at t scope) [])) e
    ∙ ap (λ o. list_any (λ o. o == outer) (option_map_or (λ d. outwards t (end - (i + 1)) d.entity.scope) o [])) k

-- one with none round it
pub nothing_out : (t : SymbolTable) (outer scope end i : ℕ) → i < end → (all : Bool) → all ≡ list_any (λ o. o == outer) (outwards t (end - i) scope)
    → (scope == outer) ≡ false → declared_at t scope ≡ None → all ≡ false
nothing_out t outer scope end i more all h e k =
    h ∙ ap (λ n. list_any (λ o. o == outer) (outwards t n scope)) (one_less end i more)
    ∙ ap (λ b. b || list_any (λ o. o == outer) (option_map_or (λ d. outwards t (end - (i + 1)) d.entity.scope) (declared_at t scope) [])) e
    ∙ ap (λ o. list_any (λ o. o == outer) (option_map_or (λ d. outwards t (end - (i + 1)) d.entity.scope) o [])) k
