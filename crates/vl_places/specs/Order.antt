-- The order of places along an expanded text. All of it is this project's own.
use Rattle.std.specs.Prelude.{◌≡◌, ◌<◌, ◌≤◌, ◌⊎◌, ℕ, List, Some, length, slice_get}
use Rattle.xt_base.specs.declared.refusals.Place.{Place}
use Rattle.vl_pre.specs.Text.{Expanded, place_of}

-- a place isn't behind another, the instance aside: its stretch is an earlier one, or it is the same one and the line is no later
abbrev pub IsNotBehind : Place → Place → Type 0
IsNotBehind p q = (p.file < q.file) ⊎ ((p.file ≡ q.file) × (p.line ≤ q.line))

-- the place of a byte of a text isn't behind that of a later one
abbrev pub IsInOrder : Expanded → Type 0
IsInOrder text = (a b : ℕ) → a ≤ b → b < length text.bytes → IsNotBehind (place_of text a) (place_of text b)

-- places in a row never fall: none is behind a later one
abbrev pub NeverFall : List Place → Type 0
NeverFall places = (a b : ℕ) (p q : Place) → a ≤ b → slice_get places a ≡ Some p → slice_get places b ≡ Some q → IsNotBehind p q
