-- What a reader answers, against what a definition says: the same value or the same break, unless memory ran out. This project's own.
use Rattle.std.specs.Prelude.{◌≡◌, Result, Ok, Err, IsOkAnd}
use Rattle.vl_pre.specs.Breaks.{Break, breaks}
use Rattle.vl_pre.specs.declared.stopped.Stopped.{Stopped}
use Rattle.vl_pre.specs.declared.stopped.Stopped.TheVariants as stops

abbrev pub Stops : {A : Type 0} → Stopped → Result A Break → Type 0
Stops stops.Memory told = Unit {0}
Stops (stops.Broken rule line) told = told ≡ breaks rule line

abbrev pub Gives : {X A : Type 0} → (X → A) → Result X Stopped → Result A Break → Type 0
Gives view (Ok x) told = told ≡ Ok (view x)
Gives view (Err stop) told = Stops stop told

-- the same, where the value that is told is known by what holds of it
abbrev pub Tells : {X A : Type 0} → (X → A → Type 0) → Result X Stopped → Result A Break → Type 0
Tells R (Ok x) told = IsOkAnd told (R x)
Tells R (Err stop) told = Stops stop told
