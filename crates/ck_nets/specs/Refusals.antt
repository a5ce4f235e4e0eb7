-- How the pass on nets answers. It is this project's own.
use Rattle.xt_base.specs.First.{IsFirst}
use Rattle.xt_base.specs.declared.refusals.Fail.{Fail}
use Rattle.xt_base.specs.declared.refusals.Fail.TheVariants as fails
use Rattle.el_design.specs.Plain.{Flat}
use Rattle.el_design.specs.Rules.{IsBroken}

-- it refuses at the first break of its rule, or has no memory
abbrev pub Refuses : Flat → Fail → Type 0
Refuses d (fails.Refused first) = IsFirst (IsBroken d 15) first
Refuses d fails.Memory = Unit {0}
