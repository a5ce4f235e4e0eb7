-- The groups as they are kept, and what a directive leaves of the pieces. This project's own.
use Rattle.std.specs.Prelude.{◌≡◌, ℕ, List, reverse, drop}
use Rattle.vl_pre.specs.Pieces.{Piece}
use Rattle.vl_pre.specs.Groups.{Turned}
use Rattle.vl_pre.specs.Directives.{Operand}
use Rattle.vl_pre.specs.declared.groups.Group.{Group}

-- the innermost group is kept last
abbrev pub open_groups : List Group → List Group
open_groups groups = reverse groups

-- a turn leaves these groups, and these pieces of those before it
abbrev pub Leaves : List Group → List Piece → List Piece → Turned → Type 0
Leaves groups pieces left turn = (turn.groups ≡ open_groups groups) × (left ≡ drop turn.size pieces)

-- an operand has this text and leaves these pieces
abbrev pub IsText : List ℕ → List Piece → List Piece → Operand → Type 0
IsText text pieces left operand = (operand.text ≡ text) × (left ≡ drop operand.size pieces)
