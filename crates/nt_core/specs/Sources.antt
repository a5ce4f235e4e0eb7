-- What the nodes of a netlist read in a tick. All of it is this project's own.
use Rattle.std.specs.Prelude.{ℕ, Bool, List, []}
use Rattle.xt_bits.specs.Word.{Word}

-- what stands on the input pins: the row on the source's pins, and for each process whether its request is acknowledged and the items of its reply
pub record Inputs : Type 0 where
  pub row : List Word
  pub acks : List Bool
  pub items : List (List ℕ)

-- no request is acknowledged, and all items are 0
abbrev pub silent : List Word → Inputs
silent row = record { row = row; acks = []; items = [] }

-- what the registers and the words of the memories hold
pub record State : Type 0 where
  pub registers : List Word
  pub memories : List (List Word)

-- all that the nodes read
pub record Sources : Type 0 where
  pub inputs : Inputs
  pub state : State
