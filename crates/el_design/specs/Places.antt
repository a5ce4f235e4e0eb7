-- Where the statements stand that a walk comes to. This project's own.
use Rattle.std.specs.Prelude.{ℕ, List, [], ◌∷◌}
use Rattle.el_design.specs.Plain.{Statement, Flat}
use Rattle.el_design.specs.Stack.{Work, Do, End, Return, Turns}
use Rattle.el_design.specs.InPlace.{Stands}
use Rattle.el_design.specs.Walk.{Walks}

-- the marks that are open below a stack's top, the innermost first, where these are open round all of it
abbrev pub open_on : List Work → List ℕ → List ℕ
open_on [] marks = marks
open_on (End m ∷ k) marks = m ∷ open_on k marks
open_on (Return at m outs ∷ k) marks = m ∷ open_on k marks
open_on (w ∷ k) marks = open_on k marks

-- each statement on the stack stands in this one in place, with those marks open round it that the stack has open
abbrev pub ArePlaced : Flat → List ℕ → Statement → List Work → Type 0
ArePlaced d marks s [] = Unit {0}
ArePlaced d marks s (Do x ∷ k) = Stands d.tasks marks s (open_on k marks) x × ArePlaced d marks s k
ArePlaced d marks s (Turns at n body ∷ k) = Stands d.tasks marks s (open_on k marks) body × ArePlaced d marks s k
ArePlaced d marks s (w ∷ k) = ArePlaced d marks s k

-- what a walk from a statement comes to stands in it in place
abbrev pub WalksInPlace : Flat → List ℕ → Statement → List Work → Type 0
WalksInPlace d marks s k = Walks d marks (Do s ∷ []) k → ArePlaced d marks s k
