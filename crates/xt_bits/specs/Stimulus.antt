-- What a run is given, of a source or of a design. All of it is this project's own.
use Rattle.std.specs.Prelude.{◌≡◌, ◌<◌, ◌^◌, ℕ, List, map, All}
use Rattle.xt_bits.specs.Word.{Word}

-- a reply: for how many ticks of the free clock it lets its request wait, and its items
pub record Reply : Type 0 where
  pub wait : ℕ
  pub items : List ℕ

-- a stimulus: the values on the input pins for each edge, the first of them for the start edge, and per process, by number, its replies in order
pub record Stimulus : Type 0 where
  pub rows : List (List Word)
  pub replies : List (List Reply)

-- one value for each pin, of its width in bits, and within it
abbrev pub FitPins : List ℕ → List Word → Type 0
FitPins widths row = (map (λ v. v.width) row ≡ widths) × All (λ v. v.value < 2 ^ v.width) row
