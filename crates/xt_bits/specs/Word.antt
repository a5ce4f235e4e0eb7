-- Values of a width as contracts see them: vectors of two-state bits.
use Rattle.std.specs.Prelude.{ℕ, zero, suc, ◌+◌, ◌-◌, ◌*◌, ◌%◌, ◌^◌, ◌<◌, ◌≤◌, nat_le, Bool, if◌then◌else◌, ℤ, pos, negsuc, ◌-ℤ◌, unsigned_abs}
use Rattle.std.specs.Int.{bit_at, int_rem_euclid}
use Rattle.xt_base.specs.declared.TheConstants.{MAX_WIDTH}

-- a vector of so many bits, whose value is its bits read as a binary number (IEEE 1364-2005, 4.3.1)
pub record Word : Type 0 where
  pub width : ℕ
  pub value : ℕ

-- what every vector that a program holds keeps: its width is in range, and its bits lie in the width
abbrev pub IsKept : ℕ → ℕ → Type 0
IsKept w n = (1 ≤ w) × (w ≤ MAX_WIDTH) × (n < 2 ^ w)

-- a number kept to a width: modulo 2 to the power of the width (IEEE 1364-2005, 4.3.1)
abbrev pub word : ℕ → ℕ → Word
word w n = record { width = w; value = n % 2 ^ w }

-- an integer kept to a width: modulo 2 to the power of the width, so a negative one in two's complement (IEEE 1364-2005, 4.3.1, 5.1.6)
abbrev pub int_word : ℕ → ℤ → Word
int_word w z = record { width = w; value = unsigned_abs (int_rem_euclid z (pos (2 ^ w))) }

-- the one bit of a comparison or a reduction: 1 for true, 0 for false (IEEE 1364-2005, 5.1.7, 5.1.8, 5.1.11)
abbrev pub truth : Bool → Word
truth b = word 1 (if b then 1 else 0)

-- bit i of a vector, counted from the lowest (IEEE 1364-2005, 5.2.1); 0 outside of it, where the value has no bits, which is this project's own
unfoldable pub bit_of : Word → ℤ → ℕ
bit_of a (pos i) = bit_at a.value i
bit_of a (negsuc i) = 0

-- the number whose bit i is `bit i`, for each i below the width
unfoldable pub number_of : ℕ → (ℕ → ℕ) → ℕ
number_of zero bit = 0
number_of (suc w) bit = number_of w bit + bit w * 2 ^ w

-- the vector whose bit i is `bit i`, for each i below the width
abbrev pub vector : ℕ → (ℕ → ℕ) → Word
vector w bit = record { width = w; value = number_of w bit }

-- the sign bit, the highest, is up (IEEE 1364-2005, 5.5)
abbrev pub is_negative : Word → Bool
is_negative a = nat_le (2 ^ (a.width - 1)) a.value

-- the number that a signed vector stands for, in two's complement (IEEE 1364-2005, 5.1.6)
abbrev pub signed_value : Word → ℤ
signed_value a = if is_negative a then pos a.value -ℤ pos (2 ^ a.width) else pos a.value

-- the number that a vector stands for, signed or unsigned (IEEE 1364-2005, 5.5)
abbrev pub integer_of : Word → Bool → ℤ
integer_of a signed = if signed then signed_value a else pos a.value
