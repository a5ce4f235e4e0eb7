-- What a running design keeps beside what contracts see of it.
use Rattle.std.specs.Prelude.{◌≡◌, ℕ, ◌<◌, ◌^◌, Bool, true, List, length, slice_index}
use Rattle.xt_bits.specs.Word.{Word}
use Rattle.nt_core.specs.Parts.{Parts}
use Rattle.nt_core.specs.Sources.{Inputs, State}
use Rattle.nt_core.specs.Conditions.{IsNetlist, port_widths}
use Rattle.nt_core.specs.Fitting.{value_widths, SourcesFit}
use Rattle.nt_core.specs.Forms.{widths}
use Rattle.nt_core.specs.Ports.{request_port}
use Rattle.nt_core.specs.Tick.{settled}
use Rattle.nt_run.specs.Acknowledged.{Acknowledged, silence}
use Rattle.nt_run.specs.declared.orders.Step.{Step}
use Rattle.nt_run.specs.Order.{IsOrder}

-- the place of each host's first output port; a `usize` counts all ports
pub record ArePorts (n : Parts) (ports : List ℕ) : Type 0 where
  pub small : length (port_widths n) < 2 ^ 64
  pub count : length ports ≡ length n.hosts
  pub each : (h : ℕ) → h < length n.hosts → slice_index ports h ≡ request_port n h

-- the inputs and the state fit the design; there is a value of each node's width, and those of a settling once it has settled
pub record IsKept (n : Parts) (i : Inputs) (s : State) (a : Acknowledged) (vs : List Word) (steps : List Step) (places : List ℕ) (is_settled : Bool) : Type 0 where
  pub design : IsNetlist n
  pub fits : SourcesFit n (record { inputs = i; state = s })
  pub quiet : a ≡ silence
  pub values : value_widths vs ≡ widths n.nodes
  pub settled : is_settled ≡ true → vs ≡ settled n i.row s
  pub order : IsOrder n.nodes steps
  pub ports : ArePorts n places
