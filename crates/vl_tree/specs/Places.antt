-- Tokens by their places. All of it is this project's own.
use Rattle.std.specs.Prelude.{◌≡◌, ℕ, List, Option, Some, None, Bool, true, false, slice_get}
use Rattle.vl_tree.specs.declared.terminals.Terminal.{Terminal}
use Rattle.vl_tree.specs.declared.terminals.Terminal.TheVariants as lex

-- the token at a place is this
abbrev pub At : List Terminal → ℕ → Terminal → Type 0
At ls i l = slice_get ls i ≡ Some l

-- identifiers: the words of an import declaration are such, and mean more only there
abbrev pub is_name : Terminal → Bool
is_name lex.Identifier = true
is_name lex.Import = true
is_name lex.Context = true
is_name lex.Void = true
is_name lex.Bit = true
is_name lex.Byte = true
is_name lex.Shortint = true
is_name lex.Int = true
is_name lex.Longint = true
is_name _ = false

abbrev pub name_in : Option Terminal → Bool
name_in (Some l) = is_name l
name_in None = false

-- an identifier stands at a place
abbrev pub IsName : List Terminal → ℕ → Type 0
IsName ls i = name_in (slice_get ls i) ≡ true
