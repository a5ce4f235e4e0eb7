-- What is open behind a token is what is open at the next one.
use Rattle.std.proofs.Common.{◌≡◌, ◌+◌, ℕ, suc, List, ap, sym, ◌∙◌, arith}
use Rattle.el_scope.specs.Table.{SymbolTable}
use Rattle.el_scope.specs.Nesting.{open_behind, open_at}

next : (n : ℕ) → n + 1 ≡ suc n
next n = omega arith

pub passed : (t : SymbolTable) (at : ℕ) (before behind : List ℕ) → before ≡ open_at t at → behind ≡ open_behind t at before → behind ≡ open_at t (at + 1)
passed t at before behind e h = h ∙ ap (open_behind t at) e ∙ ap (open_at t) (sym (next at))
