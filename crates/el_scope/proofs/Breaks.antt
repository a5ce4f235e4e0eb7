-- What is found is the first of all breaks.
use Rattle.std.proofs.Common.{◌≡◌, ◌++◌, ℕ, List, [], None, Result, Ok, Err, ap, sym, subst, ◌∙◌}
use Rattle.std.proofs.Math.Path.{fun_ext}
use Rattle.std.proofs.lemmas.Grind.{fold-append}
use Rattle.std.specs.Prelude.{MatchResult, fold}
use Rattle.xt_base.specs.First.{sooner, IsFound}
use Rattle.xt_base.specs.declared.refusals.Refusal.{Refusal}
use Rattle.xt_base.specs.declared.refusals.Fail.{Fail}
use Rattle.xt_base.specs.declared.refusals.Fail.TheVariants as fails
use Rattle.xt_base.proofs.First.{first_is}
use Rattle.el_scope.specs.Table.{SymbolTable}
use Rattle.vl_tree.specs.declared.modules.Tree.{Tree}
use Rattle.el_scope.specs.Refusals.{Refuses}
use Rattle.el_scope.specs.Naming.{naming_breaks}
use Rattle.el_scope.specs.Connecting.{Interfaces, interfaces_of, tree_connections, connections_break}
use Rattle.el_scope.specs.Driving.{tree_drives, drivers_break}
use Rattle.el_scope.specs.Passes.{name_breaks}
use Rattle.el_scope.specs.inner.Findings.{Findings, IsNamed, IsAnswer}

-- what was found once all breaks are reported
abbrev found_of : SymbolTable → List Refusal → Findings
found_of t breaks = record { table = t; first = fold sooner None breaks }

found : (t : SymbolTable) (breaks : List Refusal) (answer : Result (Unit {0}) Fail) → IsAnswer (found_of t breaks) answer → IsNamed t (fold sooner None breaks)
    → MatchResult answer (λ _. breaks ≡ []) (Refuses t breaks)
found t breaks (Ok done) none named = subst (IsFound breaks) none (first_is breaks)
found t breaks (Err (fails.Refused broken)) is named = (subst (IsFound breaks) is (first_is breaks), subst (IsNamed t) is named)
found t breaks (Err fails.Memory) never named = absurd never

pub answered : (t : SymbolTable) (breaks : List Refusal) (f : Findings) (answer : Result (Unit {0}) Fail) → f ≡ found_of t breaks → IsAnswer f answer → IsNamed f.table f.first
    → MatchResult answer (λ _. breaks ≡ []) (Refuses t breaks)
answered t breaks f answer e is named = found t breaks answer (subst (λ g. IsAnswer g answer) e is) (subst (λ g. IsNamed g.table g.first) e named)

joined : (t : SymbolTable) (a b : List Refusal) → record { table = t; first = fold sooner (fold sooner None a) b } ≡ found_of t (a ++ b)
joined t a b = ap (λ o. record { table = t; first = o }) (sym (fold-append sooner None a b))

-- one pass after the other finds the first of the breaks of all
pub all_asked : (t : SymbolTable) (tree : Tree) (known : Interfaces) (f0 f1 f2 f3 : Findings) → f0 ≡ record { table = t; first = None }
    → f1 ≡ record f0 { first = fold sooner f0.first (naming_breaks f0.table tree) }
    → f2 ≡ record f1 { first = fold sooner f1.first (connections_break f1.table (tree_connections f1.table known tree)) }
    → f3 ≡ record f2 { first = fold sooner f2.first (drivers_break f2.table (tree_drives f2.table known tree)) }
    → ((at : ℕ) → known at ≡ interfaces_of tree at) → f3 ≡ found_of t (name_breaks t tree)
all_asked t tree known f0 f1 f2 f3 k0 k1 k2 k3 same =
    let e1 : f1 ≡ found_of t (naming_breaks t tree) = k1 ∙ ap {A = Findings} (λ f. record f { first = fold sooner f.first (naming_breaks f.table tree) }) k0 in
    let e2 : f2 ≡ found_of t (naming_breaks t tree ++ connections_break t (tree_connections t known tree)) =
    k2 ∙ ap {A = Findings} (λ f. record f { first = fold sooner f.first (connections_break f.table (tree_connections f.table known tree)) }) e1
    ∙ joined t (naming_breaks t tree) (connections_break t (tree_connections t known tree)) in
    let e3 : f3 ≡ found_of t ((naming_breaks t tree ++ connections_break t (tree_connections t known tree)) ++ drivers_break t (tree_drives t known tree)) =
    k3 ∙ ap {A = Findings} (λ f. record f { first = fold sooner f.first (drivers_break f.table (tree_drives f.table known tree)) }) e2
    ∙ joined t (naming_breaks t tree ++ connections_break t (tree_connections t known tree)) (drivers_break t (tree_drives t known tree)) in
    e3 ∙ ap (λ i. found_of t ((naming_breaks t tree ++ connections_break t (tree_connections t i tree)) ++ drivers_break t (tree_drives t i tree))) (fun_ext same)
