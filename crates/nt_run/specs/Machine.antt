-- A written design that runs. All of it is this project's own.
use Rattle.std.specs.Prelude.{Bool, false, List, map}
use Rattle.xt_bits.specs.Word.{Word, word}
use Rattle.nt_core.specs.Parts.{Parts}
use Rattle.nt_core.specs.Sources.{State}
use Rattle.nt_core.specs.Tick.{start, settled}

-- a design; what stands on its input pins; what it holds; whether a tick of this edge was made; and whether it has settled since the pins or the state changed
pub record Machine : Type 0 where
  pub design : Parts
  pub row : List Word
  pub state : State
  pub is_begun : Bool
  pub is_settled : Bool

-- at first the input pins are 0
abbrev pub machine_start : Parts → Machine
machine_start n = record {
  design = n;
  row = map (λ i. word i.width 0) n.inputs;
  state = start n;
  is_begun = false;
  is_settled = false;
}

-- the values of the nodes once it has settled
abbrev pub settled_values : Machine → List Word
settled_values m = settled m.design m.row m.state
