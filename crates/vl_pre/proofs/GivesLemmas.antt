-- What stops a part stops the whole.
use Rattle.std.proofs.Common.{◌≡◌, ap, Result}
use Rattle.vl_pre.specs.Breaks.{◌>>=◌, Break}
use Rattle.vl_pre.specs.Gives.{Stops}
use Rattle.vl_pre.specs.declared.stopped.Stopped.{Stopped}
use Rattle.vl_pre.specs.declared.stopped.Stopped.TheVariants as stops

pub stops_bind : {A B : Type 0} (stop : Stopped) (told : Result A Break) (f : A → Result B Break) → Stops stop told → Stops stop (told >>= f)
stops_bind stops.Memory told f s = tt
stops_bind (stops.Broken rule line) told f s = ap (λ r. r >>= f) s

pub stops_same : {A : Type 0} (stop : Stopped) (told told' : Result A Break) → told' ≡ told → Stops stop told → Stops stop told'
stops_same stop told told' e s = rw e s

pub stops_memory : {A : Type 0} (stop : Stopped) (told : Result A Break) → stop ≡ stops.Memory → Stops stop told
stops_memory stop told e = rw e tt
