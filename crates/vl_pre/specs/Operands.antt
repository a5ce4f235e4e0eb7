-- An operand as it is read: its text, and the pieces behind it. This project's own.
use Rattle.std.specs.Prelude.{◌≡◌, ℕ, List, drop, Option, Some, None, Result, Ok, Err}
use Rattle.vl_pre.specs.Breaks.{Break}
use Rattle.vl_pre.specs.Pieces.{Piece}
use Rattle.vl_pre.specs.Directives.{Operand}

-- the operand has this text and takes the pieces up to those that are left
abbrev pub IsOperand : Option Operand → List ℕ → List Piece → List Piece → Type 0
IsOperand None text pieces left = ⊥
IsOperand (Some operand) text pieces left = (operand.text ≡ text) × (left ≡ drop operand.size pieces)

-- the same of the name of a definition
abbrev pub IsNamed : Result Operand Break → List ℕ → List Piece → List Piece → Type 0
IsNamed (Err broken) text pieces left = ⊥
IsNamed (Ok operand) text pieces left = (operand.text ≡ text) × (left ≡ drop operand.size pieces)
