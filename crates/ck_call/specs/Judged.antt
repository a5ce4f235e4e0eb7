-- What a pass answers about a source. All of it is this project's own.
use Rattle.std.specs.Prelude.{Result, Ok, Err}
use Rattle.xt_base.specs.First.{IsFirst}
use Rattle.xt_base.specs.declared.refusals.Refusal.{Refusal}
use Rattle.xt_base.specs.declared.refusals.Fail.{Fail}
use Rattle.xt_base.specs.declared.refusals.Fail.TheVariants as fails

-- nothing is broken, or the first of what is broken is named; of lacking memory nothing follows
abbrev pub Judges : (Refusal → Type 0) → Result (Unit {0}) Fail → Type 0
Judges Broken (Ok done) = (r : Refusal) → Broken r → ⊥
Judges Broken (Err (fails.Refused named)) = IsFirst Broken named
Judges Broken (Err fails.Memory) = Unit {0}
