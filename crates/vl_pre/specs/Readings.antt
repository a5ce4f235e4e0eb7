-- What is read so far, as it is kept. This project's own.
use Rattle.std.specs.Prelude.{◌≡◌, ◌≤◌, ◌*◌, ℕ, List, drop, length}
use Rattle.vl_pre.specs.Pieces.{Piece}
use Rattle.vl_pre.specs.Tables.{table_of}
use Rattle.vl_pre.specs.Breaks.{max_text, max_loads}
use Rattle.vl_pre.specs.Files.{Reading, Taken, Step, Turns, Includes}
use Rattle.vl_pre.specs.declared.groups.Group.{Group}
use Rattle.vl_pre.specs.declared.state.State.{State}
use Rattle.vl_pre.specs.declared.state.Expanded.{Expanded}
use Rattle.vl_pre.specs.Uses.{Used}

abbrev pub reading_seen : State → Reading
reading_seen state = record { macros = table_of state.table; uses = state.uses; loads = state.loads; text = state.text }

-- a reading within the limits
pub record IsReading (reading : Reading) : Type 0 where
  pub short : length reading.text.bytes ≤ max_text
  pub few : length reading.text.names ≤ 2 * length reading.loads
  pub loaded : length reading.loads ≤ max_loads

-- what was taken leaves this reading, and these pieces of those before it
abbrev pub Takes : Reading → List Piece → List Piece → Taken → Type 0
Takes reading pieces rest taken = (taken.reading ≡ reading) × (rest ≡ drop taken.size pieces)

-- a step is a turn that leaves these groups and this reading, and these pieces of those before it
abbrev pub IsTurn : List Group → Reading → List Piece → List Piece → Step → Type 0
IsTurn groups reading pieces rest (Turns turn) = (turn.groups ≡ groups) × Takes reading pieces rest turn.taken
IsTurn groups reading pieces rest (Includes name) = ⊥

-- a step is an include of this name, which leaves these pieces
abbrev pub IsInclude : List ℕ → List Piece → List Piece → Step → Type 0
IsInclude name pieces rest (Turns turn) = ⊥
IsInclude name pieces rest (Includes operand) = (operand.text ≡ name) × (rest ≡ drop operand.size pieces)

-- a use is expanded to these bytes, with so many uses, and leaves these pieces
abbrev pub IsExpanded : Expanded → List Piece → List Piece → Used → Type 0
IsExpanded whole pieces rest used = (used.done ≡ record { bytes = whole.bytes.items; uses = whole.uses }) × (rest ≡ drop used.size pieces)
