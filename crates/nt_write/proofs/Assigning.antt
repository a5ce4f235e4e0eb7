-- The line of an output port, of its pieces.
use Rattle.std.proofs.Common.{ℕ, List, Option, codes}
use Rattle.nt_write.specs.declared.pen.Pen.{Pen}
use Rattle.nt_core.specs.Text.{assign_line}
use Rattle.nt_write.specs.Lines.{ended, driven}
use Rattle.nt_write.specs.Pen.{Takes}
use Rattle.nt_write.proofs.PortLists.{assign_is}
use Rattle.nt_write.proofs.Taking.{takes_is, pieces3}

-- the line of an output port with the node that drives it
pub assigns : {S : Type 0} {W : S → Option (List ℕ)} {F : S → ℕ} {a b c d : Pen S} {name : List ℕ} (n : ℕ) → Takes W F a b (codes "  assign ") → Takes W F b c name → Takes W F c d (driven n) → Takes W F a d (ended (assign_line name n))
assigns {name = name} n first second third = takes_is _ _ _ _ (pieces3 first second third) (assign_is name n)
