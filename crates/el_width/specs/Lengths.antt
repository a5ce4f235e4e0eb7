-- Lengths in bits (IEEE 1364-2005, 5.4). A length is None where a break leaves it open, and nothing is asked of what hangs on it; this is this project's own.
use Rattle.std.specs.Prelude.{ℕ, ◌+◌, ◌*◌, ◌&&◌, Bool, false, not, min, max, nat_le, List, Option, Some, None, fold, unwrap_or, ℤ, pos, negsuc, if◌then◌else◌}
use Rattle.xt_base.specs.declared.TheConstants.{MAX_WIDTH}

abbrev pub in_range : ℕ → Bool
in_range w = nat_le 1 w && nat_le w MAX_WIDTH

-- what is past the greatest width counts as one past it: by how much decides nothing
abbrev pub capped : ℕ → ℕ
capped w = min w (MAX_WIDTH + 1)

abbrev pub both_known : {X Y Z : Type 0} → (X → Y → Z) → Option X → Option Y → Option Z
both_known f (Some a) (Some b) = Some (f a b)
both_known f (Some a) None = None
both_known f None b = None

-- max(L(i), L(j)), as table 5-22 has it
abbrev pub larger : Option ℕ → Option ℕ → Option ℕ
larger a b = both_known max a b

abbrev pub plus : Option ℕ → Option ℕ → Option ℕ
plus a b = both_known (λ x y. capped (x + y)) a b

-- L(i) + .. + L(j)
abbrev pub total : List (Option ℕ) → Option ℕ
total lengths = fold plus (Some 0) lengths

-- i * (L(j) + .. + L(k))
abbrev pub times : Option ℕ → Option ℕ → Option ℕ
times n w = both_known (λ x y. capped (x * y)) n w

-- a length that is known and isn't in range breaks rule 40
abbrev pub is_wrong_length : Option ℕ → Bool
is_wrong_length None = false
is_wrong_length (Some w) = not (in_range w)

-- the number that stands for a length; 0 for an open one
abbrev pub width_of : Option ℕ → ℕ
width_of length = unwrap_or length 0

-- a whole number as a count or a width: one below 1 counts as 0
abbrev pub count_of : ℤ → ℕ
count_of (pos n) = capped n
count_of (negsuc n) = 0

-- the bounds of a range or part select: 65535 >= msb >= lsb >= 0, else rule 41 is broken
abbrev pub is_bounds : ℕ → ℕ → Bool
is_bounds msb lsb = nat_le lsb msb && nat_le msb 65535

abbrev pub bounds : ℤ → ℤ → Option (ℕ × ℕ)
bounds (pos msb) (pos lsb) = if is_bounds msb lsb then Some (msb, lsb) else None
bounds (pos msb) (negsuc n) = None
bounds (negsuc n) lsb = None
