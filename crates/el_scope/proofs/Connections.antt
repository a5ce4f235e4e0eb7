-- One connection more is added.
use Rattle.std.proofs.Common.{◌≡◌, ◌++◌, ◌+◌, ◌<◌, ◌==◌, ℕ, false, not, List, [], ◌∷◌, Option, Some, map, sym, ◌∙◌, ap, length, drop, slice_index_or}
use Rattle.std.specs.Prelude.{slice_get}
use Rattle.std.specs.Option.{option_map_or}
use Rattle.std.proofs.lemmas.List.{at_drop_more}
use Rattle.vl_tree.specs.declared.exprs.Expr.{Expr}
use Rattle.vl_tree.specs.declared.modules.Named.{Named}
use Rattle.vl_tree.specs.Begins.{expr_at}
use Rattle.vl_names.specs.declared.kinds.Declaration.{Declaration}
use Rattle.el_scope.specs.declared.connecting.Slot.{Slot}
use Rattle.el_scope.specs.declared.connecting.Connection.{Connection}
use Rattle.el_scope.specs.declared.table.Key.{Key}
use Rattle.el_scope.specs.Table.{SymbolTable, spelled}
use Rattle.el_scope.specs.Connecting.{connection_at, ordered_connections, place_named, first_named, named_connection}
use Rattle.el_scope.specs.inner.Maps.{named}
use Rattle.el_scope.proofs.Lists.{two}

grown : {Y : Type 0} (into new all : List Y) (a : Y) (whole rest : List Y) → all ≡ into ++ whole → whole ≡ a ∷ rest → new ≡ into ++ a ∷ [] → all ≡ new ++ rest
grown into new all a whole rest h w k = h ∙ ap (λ y. into ++ y) w ∙ sym (two into (a ∷ []) rest) ∙ ap (λ y. y ++ rest) (sym k)

pub ordered_done : (t : SymbolTable) (scope : ℕ) (places : List Declaration) (es : List Expr) (i : ℕ) (e : Expr) (place : Option Declaration) (all into new : List Connection)
    → i < length es → e ≡ slice_index_or es i e → place ≡ slice_get places i → all ≡ into ++ ordered_connections t scope places i (drop i es)
    → new ≡ into ++ connection_at t scope (expr_at e) place false (Some e) ∷ [] → all ≡ new ++ ordered_connections t scope places (i + 1) (drop (i + 1) es)
ordered_done t scope places es i e place all into new lt is p h k =
    grown into new all (connection_at t scope (expr_at e) place false (Some e)) _ _ h
    (at_drop_more (ordered_connections t scope places i) es i e lt ∙ ap (λ x. ordered_connections t scope places i (x ∷ drop (i + 1) es)) (sym is)
    ∙ ap (λ q. connection_at t scope (expr_at e) q false (Some e) ∷ ordered_connections t scope places (i + 1) (drop (i + 1) es)) (sym p))
    k

pub named_done : (t : SymbolTable) (scope : ℕ) (slot : Slot) (owner : ℕ) (ns : List Named) (i : ℕ) (n : Named) (known : List (Key × ℕ)) (first : Option ℕ) (all into new : List Connection)
    → ((word : List ℕ) → named known owner word ≡ first_named t ns word) → first ≡ named known owner (spelled t n.name) → i < length ns → n ≡ slice_index_or ns i n
    → all ≡ into ++ map (named_connection t scope slot owner ns) (drop i ns)
    → new ≡ into ++ connection_at t scope n.at (place_named t slot owner n.name) (option_map_or (λ f. not (n.name == f)) first false) n.value ∷ []
    → all ≡ new ++ map (named_connection t scope slot owner ns) (drop (i + 1) ns)
named_done t scope slot owner ns i n known first all into new knows is lt at h k =
    grown into new all (named_connection t scope slot owner ns n) _ _ h
    (at_drop_more (map (named_connection t scope slot owner ns)) ns i n lt ∙ ap (λ x. map (named_connection t scope slot owner ns) (x ∷ drop (i + 1) ns)) (sym at))
    (k ∙ ap (λ f. into ++ connection_at t scope n.at (place_named t slot owner n.name) (option_map_or (λ x. not (n.name == x)) f false) n.value ∷ []) (is ∙ knows (spelled t n.name)))
