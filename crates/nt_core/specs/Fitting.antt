-- Inputs and states that fit a netlist: a value of the right width for each pin, register and word; that each value lies in its width is kept by
-- the type of values. All of it is this project's own.
use Rattle.std.specs.Prelude.{◌≡◌, ℕ, List, map, replicate}
use Rattle.xt_bits.specs.Word.{Word}
use Rattle.nt_core.specs.Parts.{Parts}
use Rattle.nt_core.specs.Sources.{State, Sources}

-- the widths of values
abbrev pub value_widths : List Word → List ℕ
value_widths vs = map (λ v. v.width) vs

-- one value for each input pin, of its width in bits
abbrev pub HasPinWidths : Parts → List Word → Type 0
HasPinWidths n row = value_widths row ≡ map (λ i. i.width) n.inputs

-- one value for each register, of its width, and for each memory all its words
pub record IsState (n : Parts) (s : State) : Type 0 where
  pub registers : value_widths s.registers ≡ value_widths n.registers
  pub memories : map value_widths s.memories ≡ map (λ m. replicate m.words m.width) n.memories

-- all that the nodes read
pub record SourcesFit (n : Parts) (s : Sources) : Type 0 where
  pub row : HasPinWidths n s.inputs.row
  pub state : IsState n s.state
