-- What each operator makes of vectors. The operands of +, -, *, /, %, &, |, ^ and the comparisons have one width.
use Rattle.std.specs.Prelude.{ℕ, ◌+◌, ◌-◌, ◌*◌, ◌/◌, ◌%◌, ◌^◌, ◌==◌, nat_lt, Bool, true, not, ◌&&◌, if◌then◌else◌, ℤ, pos, ◌-ℤ◌, ◌+ℤ◌, neg_ℤ, int_lt, int_le, int_div, int_rem, bit_and, bit_or, bit_xor, count_ones}
use Rattle.xt_bits.specs.Word.{Word, word, int_word, vector, bit_of, is_negative, integer_of}

-- ---- arithmetic, modulo 2 to the power of the width (IEEE 1364-2005, 5.1.5 and 5.1.6)

-- a + b
abbrev pub add_of : Word → Word → Word
add_of a b = word a.width (a.value + b.value)

-- a - b
abbrev pub sub_of : Word → Word → Word
sub_of a b = int_word a.width (pos a.value -ℤ pos b.value)

-- a * b
abbrev pub mul_of : Word → Word → Word
mul_of a b = word a.width (a.value * b.value)

-- - a
abbrev pub neg_of : Word → Word
neg_of a = int_word a.width (neg_ℤ (pos a.value))

-- a / b: the quotient of the numbers, cut towards zero (IEEE 1364-2005, 5.1.5)
abbrev pub div_of : Word → Word → Bool → Word
div_of a b signed = int_word a.width (int_div (integer_of a signed) (integer_of b signed))

-- a % b: what that division leaves, which has the sign of a (IEEE 1364-2005, 5.1.5)
abbrev pub rem_of : Word → Word → Bool → Word
rem_of a b signed = int_word a.width (int_rem (integer_of a signed) (integer_of b signed))

-- ---- comparisons (IEEE 1364-2005, 5.1.7 and 5.1.8)

-- a == b
abbrev pub eq_of : Word → Word → Bool
eq_of a b = a.value == b.value

-- a < b, as signed or unsigned numbers
abbrev pub lt_of : Word → Word → Bool → Bool
lt_of a b signed = int_lt (integer_of a signed) (integer_of b signed)

-- ---- bit by bit (IEEE 1364-2005, 5.1.10)

-- a & b
abbrev pub and_of : Word → Word → Word
and_of a b = word a.width (bit_and a.value b.value)

-- a | b
abbrev pub or_of : Word → Word → Word
or_of a b = word a.width (bit_or a.value b.value)

-- a ^ b
abbrev pub xor_of : Word → Word → Word
xor_of a b = word a.width (bit_xor a.value b.value)

-- a bit turned over
unfoldable pub turned_bit : Word → ℕ → ℕ
turned_bit a i = 1 - bit_of a (pos i)

-- ~ a
abbrev pub not_of : Word → Word
not_of a = vector a.width (turned_bit a)

-- ---- reductions (IEEE 1364-2005, 5.1.11)

-- & a: each bit is 1
abbrev pub all_ones_of : Word → Bool
all_ones_of a = a.value == 2 ^ a.width - 1

-- | a: some bit is 1
abbrev pub any_of : Word → Bool
any_of a = not (a.value == 0)

-- ^ a: the number of bits that are 1 is odd
abbrev pub odd_of : Word → Bool
odd_of a = count_ones a.value % 2 == 1

-- ---- shifts (IEEE 1364-2005, 5.1.12)

-- a << n: zeros come in at the right
abbrev pub shl_of : Word → ℕ → Word
shl_of a n = word a.width (a.value * 2 ^ n)

-- a >> n: zeros come in at the left
abbrev pub shr_of : Word → ℕ → Word
shr_of a n = word a.width (a.value / 2 ^ n)

-- bit i of a vector that goes on without end: past its width stands the sign bit where it is signed, else 0 (IEEE 1364-2005, 5.5.2)
unfoldable pub extended_bit : Word → Bool → ℕ → ℕ
extended_bit a signed i = if nat_lt i a.width then bit_of a (pos i) else (if signed && is_negative a then 1 else 0)

-- the bits of a vector from bit n on, its sign bit for each past the highest
unfoldable pub shifted_bit : Word → ℕ → ℕ → ℕ
shifted_bit a n i = extended_bit a true (i + n)

-- a >>> n where signed: copies of the sign bit come in at the left
abbrev pub sar_of : Word → ℕ → Word
sar_of a n = vector a.width (shifted_bit a n)

-- ---- parts and other widths

-- {a, b} (IEEE 1364-2005, 5.1.14)
abbrev pub concat_of : Word → Word → Word
concat_of a b = word (a.width + b.width) (a.value * 2 ^ b.width + b.value)

-- a brought to another width: longer by its sign bit or by zeros, or cut to its low bits (IEEE 1364-2005, 5.5.2, 5.5.3 and 5.6)
abbrev pub extend_of : Word → ℕ → Bool → Word
extend_of a w signed = vector w (extended_bit a signed)

-- bit `low + i`, 0 where there is none
unfoldable pub selected_bit : Word → ℤ → ℕ → ℕ
selected_bit a low i = bit_of a (low +ℤ pos i)

-- so many bits from bit `low` on (IEEE 1364-2005, 5.2.1); 0 for each bit outside is this project's own
abbrev pub select_of : Word → ℤ → ℕ → Word
select_of a low w = vector w (selected_bit a low)

-- bit i after the part is written at bit `low`: the part's bit where it has one at i, else the old one
unfoldable pub replaced_bit : Word → ℤ → Word → ℕ → ℕ
replaced_bit a low part i =
    let at = pos i -ℤ low in
    if int_le (pos 0) at && int_lt at (pos part.width) then bit_of part at else bit_of a (pos i)

-- the vector after a write of a part at bit `low` (IEEE 1364-2005, 5.2.1); bits of the part that lie outside are skipped, which is this project's own
abbrev pub replace_of : Word → ℤ → Word → Word
replace_of a low part = vector a.width (replaced_bit a low part)
