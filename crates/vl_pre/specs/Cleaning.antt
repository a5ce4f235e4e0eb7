-- One byte of a file that is cleaned. This project's own.
use Rattle.std.specs.Prelude.{◌≡◌, ◌≤◌, ◌<◌, ◌+◌, ℕ, true, List, length, Option, Some, None, Result, Ok, Err, if◌then◌else◌}
use Rattle.vl_pre.specs.Breaks.{Break}
use Rattle.vl_pre.specs.Clean.{kept, cleaned}
use Rattle.vl_pre.specs.Gives.{Stops}
use Rattle.vl_pre.specs.declared.clean.Step.{Step}
use Rattle.vl_pre.specs.declared.stopped.Stopped.{Stopped}

-- a byte that may stay
abbrev pub kept_if : Option ℕ → Result (List ℕ) Break → Result (List ℕ) Break
kept_if None told = told
kept_if (Some byte) told = kept byte told

-- what is told of a byte and the rest is what the step leaves to be told of the rest
pub record IsStep (step : Step) (line : ℕ) (rest : List ℕ) (told : Result (List ℕ) Break) : Type 0 where
  pub told_is : told ≡ kept_if step.kept (cleaned step.within (if step.more then 1 else 0) step.line rest)
  pub line_is : step.line ≤ line + 1
  pub more_is : step.more ≡ true → 0 < length rest

abbrev pub Cleans : Result Step Stopped → ℕ → List ℕ → Result (List ℕ) Break → Type 0
Cleans (Ok step) line rest told = IsStep step line rest told
Cleans (Err stop) line rest told = Stops stop told
