-- Laws of the order in which broken rules are named. All of it is this project's own.
use Rattle.std.specs.Prelude.{◌≡◌, ℕ, false}
use Rattle.xt_base.specs.declared.refusals.Refusal.{Refusal}
use Rattle.xt_base.specs.First.{stands_before, IsFirst, IsNamed}
use Rattle.el_design.specs.Plain.{Flat}
use Rattle.el_design.specs.Rules.{IsBroken}

-- two breaks of which neither stands before the other are one: so of any breaks whatever there is one first at most
abbrev pub NoneBesides : Type 0
NoneBesides = (a b : Refusal) → stands_before a b ≡ false → stands_before b a ≡ false → a ≡ b

-- a pass has one first break at most
abbrev pub FirstIsOne : Flat → ℕ → Type 0
FirstIsOne d pass = (a b : Refusal) → IsFirst (IsBroken d pass) a → IsFirst (IsBroken d pass) b → a ≡ b

-- and over all passes one break is named at most, of one pass
abbrev pub NamedIsOne : Flat → Type 0
NamedIsOne d = (p q : ℕ) (a b : Refusal) → IsNamed (IsBroken d) p a → IsNamed (IsBroken d) q b → (p ≡ q) × (a ≡ b)
