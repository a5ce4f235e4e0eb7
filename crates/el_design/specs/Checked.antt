-- Checked designs: sound ones that break no rule, with an order of their nets. This project's own.
use Rattle.std.specs.Prelude.{ℕ, List}
use Rattle.el_design.specs.Plain.{Flat}
use Rattle.el_design.specs.Rules.{IsClean, IsOrder}
use Rattle.el_design.specs.Sound.{IsSound}

-- the design is sound, breaks no rule, and the order has each net once, after the nets that it reads
pub record IsChecked (d : Flat) (order : List ℕ) : Type 0 where
  pub sound : IsSound d
  pub clean : IsClean d
  pub ordered : IsOrder d order
