-- A row of 0 fits a design, and the values of its nodes have their widths.
use Rattle.std.proofs.Common.{◌≡◌, List, [], ◌∷◌, map, refl, ap, subst}
use Rattle.xt_bits.specs.Word.{word}
use Rattle.nt_core.specs.declared.netlist.Wire.{Wire}
use Rattle.nt_core.specs.Parts.{Parts}
use Rattle.nt_core.specs.Sources.{Inputs, State}
use Rattle.nt_core.specs.Forms.{widths}
use Rattle.nt_core.specs.Conditions.{IsNetlist}
use Rattle.nt_core.specs.Fitting.{value_widths, HasPinWidths, SourcesFit}
use Rattle.nt_core.specs.Tick.{tick_values}
use Rattle.nt_core.proofs.Ranges.{values-widths}

-- a row of 0
pub zero_row : (pins : List Wire) → value_widths (map (λ i. word i.width 0) pins) ≡ map (λ i. i.width) pins
zero_row [] = refl
zero_row (p ∷ pins) = ap (λ ws. p.width ∷ ws) (zero_row pins)

-- each node's value has its width
pub tick-widths : (n : Parts) → IsNetlist n → (i j : Inputs) (s : State) → SourcesFit n (record { inputs = i; state = s }) → i.row ≡ j.row → value_widths (tick_values n j s) ≡ widths n.nodes
tick-widths n is i j s fits same =
    values-widths n (record { inputs = j; state = s }) (record { row = subst (HasPinWidths n) same fits.row; state = fits.state }) is.nodes is.shell.connected.sources
