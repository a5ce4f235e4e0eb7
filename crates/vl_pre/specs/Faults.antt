-- What is answered where a source has no expanded text. All of it is this project's own.
use Rattle.std.specs.Prelude.{◌≡◌, ◌⊎◌, ◌++◌, ℕ, List, Option, Some, None, Result, Ok, Err, IsOkAnd, IsErrAnd, IsSomeAnd, string_bytes}
use Rattle.xt_base.specs.Outside.{Held, HasFault}
use Rattle.xt_base.specs.declared.refusals.Refusal.{Refusal}
use Rattle.vl_pre.specs.Text.{Expanded}
use Rattle.vl_pre.specs.Files.{Reading, Broken, Stop}
use Rattle.vl_pre.specs.declared.stopped.Stopped.{Stopped}
use Rattle.vl_pre.specs.declared.stopped.Stopped.TheVariants as stops
use Rattle.vl_pre.specs.declared.faults.PreFault.{PreFault}
use Rattle.vl_pre.specs.declared.faults.PreFault.TheVariants.{Refused, ReadFault, Memory}

-- the rule and the place of what is broken
abbrev pub refusal_of : Broken → Refusal
refusal_of broken = record { rule = record { 0 = broken.rule }; place = record { file = broken.stretch; line = broken.line; instance = 0 } }

-- a rule is broken at a place, in the file of a name
abbrev pub IsBrokenAt : ℕ → ℕ → List ℕ → ℕ → PreFault → Type 0
IsBrokenAt stretch line name rule (Refused refusal file) = (refusal ≡ refusal_of (record { rule = rule; stretch = stretch; line = line; name = name })) × (string_bytes file ≡ name)
IsBrokenAt stretch line name rule ReadFault = ⊥
IsBrokenAt stretch line name rule Memory = Unit {0}

-- what stopped a part of a file, with the stretch and the name of that file
abbrev pub IsStoppedAt : ℕ → List ℕ → Stopped → PreFault → Type 0
IsStoppedAt stretch name (stops.Broken rule line) fault = IsBrokenAt stretch line name rule fault
IsStoppedAt stretch name stops.Memory fault = fault ≡ Memory

-- the source is expanded to this text
abbrev pub IsText : Expanded → Result Reading Stop → Type 0
IsText text told = IsOkAnd told (λ reading. reading.text ≡ text)

-- the first rule that the source breaks, with its place and the name of the file of that place
abbrev pub IsRefused : Refusal → List ℕ → Result Reading Stop → Type 0
IsRefused refusal name told = IsErrAnd told (λ stop. IsSomeAnd stop.broken (λ broken. (refusal ≡ refusal_of broken) × (name ≡ broken.name)))

-- the source comes to a name that isn't held, before a rule is broken
abbrev pub IsMiss : Result Reading Stop → Type 0
IsMiss told = IsErrAnd told (λ stop. stop.broken ≡ None)

-- an answer of a part of a file, in which nothing is loaded: the rule that it breaks
abbrev pub Refuses : PreFault → Result Reading Stop → Type 0
Refuses (Refused refusal file) told = IsRefused refusal (string_bytes file) told
Refuses ReadFault told = ⊥
Refuses Memory told = Unit {0}

-- Why there is no text: Refused where the source that is held breaks a rule, ReadFault where it names a file that isn't held or where a fault was counted, which nothing else is answered for.
abbrev pub IsFault : PreFault → Option Held → (Held → Result Reading Stop) → ℕ → ℕ → Type 0
IsFault (Refused refusal file) held told old new = ((h : Held) → held ≡ Some h → IsRefused refusal (string_bytes file) (told h)) × (new ≡ old)
IsFault ReadFault held told old new = IsSomeAnd held (λ h. IsMiss (told h)) ⊎ HasFault old new
IsFault Memory held told old new = new ≡ old

-- the names that are loaded, in order; one that isn't held is the last
abbrev pub loads_of : Result Reading Stop → List (List ℕ)
loads_of (Ok reading) = reading.loads
loads_of (Err stop) = stop.loads

-- the names that were asked for since are the first of these
pub record AskedInOrder (old new loads : List (List ℕ)) : Type 0 where
  pub names : List (List ℕ)
  pub rest : List (List ℕ)
  pub asked : new ≡ old ++ names
  pub order : loads ≡ names ++ rest
