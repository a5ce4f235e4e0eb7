-- What the operators make of vectors is a word of its width.
use Rattle.std.proofs.Common.{ℕ, zero, ◌<◌, ◌^◌, ◌%◌, Bool, true, false, if◌then◌else◌, ℤ, pos, negsuc, refl, arith}
use Rattle.std.specs.Prelude.{◌+ℤ◌, ◌-ℤ◌, ◌&&◌, int_le, int_lt, unsigned_abs, nat_lt}
use Rattle.std.specs.Int.{int_rem_euclid}
use Rattle.std.proofs.Math.Nat.{mod-lt}
use Rattle.std.proofs.lemmas.Nat.{pow_pos}
use Rattle.std.proofs.lemmas.Nat.Bits.{bit_at-lt}
use Rattle.xt_bits.specs.Word.{Word, word, int_word, vector, bit_of, truth, is_negative}
use Rattle.xt_bits.specs.Operators.{turned_bit, extended_bit, shifted_bit, selected_bit, replaced_bit, extend_of, select_of, replace_of}
use Rattle.xt_bits.proofs.Numbers.{number_of-below}
use Rattle.el_design.specs.Fits.{IsWordOf}

bit-lt : (a : Word) (i : ℤ) → bit_of a i < 2
unfolding bit_of
bit-lt a (pos i) = bit_at-lt a.value i
bit-lt a (negsuc i) = omega arith

-- one bit of two, or of three
either-lt : (b : Bool) (x y : ℕ) → x < 2 → y < 2 → (if b then x else y) < 2
either-lt true x y h k = h
either-lt false x y h k = k

turned-lt : (a : Word) (i : ℕ) → turned_bit a i < 2
unfolding turned_bit
turned-lt a i = omega arith

pub extended-lt : (a : Word) (signed : Bool) (i : ℕ) → extended_bit a signed i < 2
unfolding extended_bit
extended-lt a signed i = either-lt (nat_lt i a.width) _ _ (bit-lt a (pos i)) (either-lt (signed && is_negative a) 1 0 (omega arith) (omega arith))

shifted-lt : (a : Word) (n i : ℕ) → shifted_bit a n i < 2
unfolding shifted_bit
shifted-lt a n i = extended-lt a true _

selected-lt : (a : Word) (low : ℤ) (i : ℕ) → selected_bit a low i < 2
unfolding selected_bit
selected-lt a low i = bit-lt a (low +ℤ pos i)

replaced-lt : (a : Word) (low : ℤ) (part : Word) (i : ℕ) → replaced_bit a low part i < 2
unfolding replaced_bit
replaced-lt a low part i =
    let at : ℤ = pos i -ℤ low in
    either-lt (int_le (pos 0) at && int_lt at (pos part.width)) _ _ (bit-lt part at) (bit-lt a (pos i))

positive : (w : ℕ) → zero < 2 ^ w
positive w = pow_pos w

-- ---- words

pub word_is : (w n : ℕ) → IsWordOf w (word w n)
word_is w n = (refl, mod-lt n (positive w))

rem_below : (z : ℤ) (n : ℕ) → zero < n → unsigned_abs (int_rem_euclid z (pos n)) < n
rem_below (pos a) n h = mod-lt a h
rem_below (negsuc a) n h = let k : a % n < n = mod-lt a h in omega (arith, h)

pub int_word_is : (w : ℕ) (z : ℤ) → IsWordOf w (int_word w z)
int_word_is w z = (refl, rem_below z (2 ^ w) (positive w))

pub not_is : (a : Word) → IsWordOf a.width (vector a.width (turned_bit a))
not_is a = (refl, number_of-below a.width (turned_bit a) (turned-lt a))

pub sar_is : (a : Word) (n : ℕ) → IsWordOf a.width (vector a.width (shifted_bit a n))
sar_is a n = (refl, number_of-below a.width (shifted_bit a n) (shifted-lt a n))

pub extend_is : (a : Word) (w : ℕ) (signed : Bool) → IsWordOf w (extend_of a w signed)
extend_is a w signed = (refl, number_of-below w (extended_bit a signed) (extended-lt a signed))

pub select_is : (a : Word) (low : ℤ) (w : ℕ) → IsWordOf w (select_of a low w)
select_is a low w = (refl, number_of-below w (selected_bit a low) (selected-lt a low))

pub replace_is : (a : Word) (low : ℤ) (part : Word) → IsWordOf a.width (replace_of a low part)
replace_is a low part = (refl, number_of-below a.width (replaced_bit a low part) (replaced-lt a low part))

pub truth_is : (b : Bool) → IsWordOf 1 (truth b)
truth_is b = word_is 1 _
