-- What can be seen of a run, of a source or of a written design: for each edge the calls of its processes, and how it ended.
use Rattle.std.specs.Prelude.{ℕ, List}
use Rattle.xt_bits.specs.Word.{Word}

-- a call of a host function, by its number, with its arguments (SCE-MI 2.1, function-based interface); or of a number that no function has
pub data Call : Type 0 where
  Called : ℕ → List Word → Call
  Unknown : Call

-- how an edge ended: after so many ticks of the free clock with these values on the output pins, in the order of the pins;
-- or starved, where nothing goes on and some call has no reply; or stalled, where a design neither ends the edge nor calls. This is this project's own.
pub data Ending : Type 0 where
  Rested : ℕ → List Word → Ending
  Starved : Ending
  Stalled : Ending

-- what is seen of an edge: per process, by number, its calls in order; and the ending
pub record Seen : Type 0 where
  pub calls : List (List Call)
  pub ending : Ending

-- per edge, in order
abbrev pub Trace : Type 0
Trace = List Seen
