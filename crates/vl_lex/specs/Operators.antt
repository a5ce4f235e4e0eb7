-- The operators and punctuation of the language.
use Rattle.std.specs.Prelude.{ℕ, List, [], ◌∷◌, Bool, IsTrue, bytes_eq, codes}
use Rattle.std.specs.List.{list_any}

-- longest first (IEEE 1364-2005, 3.4 and annex A; `+:` and `-:` by 5.2.1)
unfoldable pub operators : List (List ℕ)
operators =
    codes "===" ∷ codes "!==" ∷ codes "<<<" ∷ codes ">>>" ∷
    codes "==" ∷ codes "!=" ∷ codes "<=" ∷ codes ">=" ∷ codes "&&" ∷ codes "||" ∷ codes "<<" ∷ codes ">>" ∷
    codes "~&" ∷ codes "~|" ∷ codes "~^" ∷ codes "^~" ∷ codes "+:" ∷ codes "-:" ∷
    codes "(" ∷ codes ")" ∷ codes "[" ∷ codes "]" ∷ codes "{" ∷ codes "}" ∷ codes "," ∷ codes ";" ∷ codes ":" ∷
    codes "." ∷ codes "#" ∷ codes "@" ∷ codes "?" ∷ codes "=" ∷ codes "+" ∷ codes "-" ∷ codes "*" ∷ codes "/" ∷
    codes "%" ∷ codes "&" ∷ codes "|" ∷ codes "^" ∷ codes "~" ∷ codes "!" ∷ codes "<" ∷ codes ">" ∷ []

-- whether these bytes are an operator
unfoldable pub is_operator : List ℕ → Bool
is_operator bytes = list_any (λ operator. bytes_eq operator bytes) operators

abbrev pub IsOperator : List ℕ → Type 0
IsOperator bytes = IsTrue (is_operator bytes)
