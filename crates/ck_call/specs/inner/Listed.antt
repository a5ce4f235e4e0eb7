-- What was found by reports: the first of a list that has exactly what is broken. This project's own.
use Rattle.std.specs.Prelude.{◌≡◌, List, Option, Some, None, Contains, fold}
use Rattle.xt_base.specs.First.{sooner, IsFirst}
use Rattle.xt_base.specs.declared.refusals.Refusal.{Refusal}
use Rattle.el_design.specs.Plain.{Flat}
use Rattle.el_design.specs.Calls.{IsRecursive, DisablesWrongly, CallsHostInside}
use Rattle.el_design.specs.Rules.{IsFinite, NestsTooDeep}

pub record IsListed (Broken : Refusal → Type 0) (old new : Option Refusal) : Type 0 where
  pub breaks : List Refusal
  pub is : new ≡ fold sooner old breaks
  pub sound : (r : Refusal) → Contains breaks r → Broken r
  pub whole : (r : Refusal) → Broken r → Contains breaks r

-- nothing is broken, or what is found is the first of what is
abbrev pub IsFoundOf : (Refusal → Type 0) → Option Refusal → Type 0
IsFoundOf Broken None = (r : Refusal) → Broken r → ⊥
IsFoundOf Broken (Some r) = IsFirst Broken r

-- the rules that look at what tasks and functions enable and call
pub data UsesBroken (d : Flat) (r : Refusal) : Type 0 where
  recursive : r.rule.0 ≡ 51 → IsRecursive d r.place → UsesBroken d r
  disables : IsFinite d → r.rule.0 ≡ 53 → DisablesWrongly d r.place → UsesBroken d r
  host_inside : IsFinite d → r.rule.0 ≡ 62 → CallsHostInside d r.place → UsesBroken d r
  nested : IsFinite d → r.rule.0 ≡ 82 → NestsTooDeep d r.place → UsesBroken d r
