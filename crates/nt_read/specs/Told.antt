-- A netlist that was read of its text. It is this project's own.
use Rattle.std.specs.Prelude.{◌≡◌, ℕ, List}
use Rattle.nt_core.specs.Parts.{Parts}
use Rattle.nt_core.specs.Conditions.{IsNetlist}
use Rattle.nt_core.specs.Text.{text_of}

-- the bytes are the netlist's text
pub record IsTold (bytes : List ℕ) (n : Parts) : Type 0 where
  pub text : text_of n ≡ bytes
  pub netlist : IsNetlist n
