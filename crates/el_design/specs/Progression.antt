-- The values that a variable of w bits takes when the same step is added to it again and again. All of it is this project's own.
use Rattle.std.specs.Prelude.{◌≡◌, ◌+◌, ◌*◌, ◌%◌, ◌^◌, ◌<◌, ℕ}
use Rattle.std.specs.Int.Count.{count_trailing_zeros}

-- its value after so many steps
abbrev pub value_after : ℕ → ℕ → ℕ → ℕ → ℕ
value_after w first step k = (first + k * step) % 2 ^ w

-- the lowest bit that is set among the w bits of a step, or 2 to the power w where none is
abbrev pub lowest_bit : ℕ → ℕ → ℕ
lowest_bit w step = 2 ^ count_trailing_zeros w step

-- two numbers leave the same when divided by the lowest bit of the step
abbrev pub IsAlike : ℕ → ℕ → ℕ → ℕ → Type 0
IsAlike w step a b = a % lowest_bit w step ≡ b % lowest_bit w step

-- The variable takes just those values that leave what its first value leaves when they are divided by the lowest bit of the step:
-- from 1 in steps of 12 an eight-bit variable takes 1, 5, 9, 13, .., 253, in some order.
pub record TakesAllAlike (w first step : ℕ) : Type 0 where
  pub only : (k : ℕ) → IsAlike w step (value_after w first step k) first
  pub each : (x : ℕ) → x < 2 ^ w → IsAlike w step x first → (k : ℕ) × (value_after w first step k ≡ x)
