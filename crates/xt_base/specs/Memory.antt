-- What the files and the stream in memory are: all that their calls depend on. This project's own.
use Rattle.std.specs.Prelude.{ℕ, List}
use Rattle.xt_base.specs.Outside.{Held}

-- files in memory: what they hold, which names were asked for, how many loads there were,
-- the numbers of the loads that fail, and the faults so far
pub record Folder : Type 0 where
  pub held : Held
  pub asked : List (List ℕ)
  pub loads : ℕ
  pub fail : List ℕ
  pub faults : ℕ

-- a stream in memory: what stands on it, how much it takes, how many writes there were,
-- the numbers of the writes that fail, and the faults so far
pub record Roll : Type 0 where
  pub written : List ℕ
  pub capacity : ℕ
  pub writes : ℕ
  pub fail : List ℕ
  pub faults : ℕ
