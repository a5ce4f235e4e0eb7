-- Looking up an entry of a table.
use Rattle.std.proofs.Common.{◌≡◌, ℕ, List, [], ◌∷◌, Some, Bool, true, false, cond, Bor, refl}
use Rattle.std.specs.Prelude.{find, map, option_map, bytes_eq}
use Rattle.vl_tree.specs.declared.terminals.Terminal.{Terminal}
use Rattle.vl_expr.specs.Terminals.{listed}

pub listed_map : (table : List (Bor (List ℕ) × Terminal)) (bytes : List ℕ) →
    listed (map (λ entry. (entry.0.now, entry.1)) table) bytes ≡ option_map (λ entry. entry.1) (find (λ entry. bytes_eq entry.0.now bytes) table)
listed_map [] bytes = refl
listed_map (e ∷ table) bytes = by_test (bytes_eq e.0.now bytes) (listed_map table bytes)
  where
    by_test : (b : Bool) → listed (map (λ entry. (entry.0.now, entry.1)) table) bytes ≡ option_map (λ entry. entry.1) (find (λ entry. bytes_eq entry.0.now bytes) table) →
        cond b (Some e.1) (listed (map (λ entry. (entry.0.now, entry.1)) table) bytes)
        ≡ option_map (λ entry. entry.1) (cond b (Some e) (find (λ entry. bytes_eq entry.0.now bytes) table))
    by_test true rest = refl
    by_test false rest = rest
