-- The operators that are defined bit by bit, as arithmetic on whole numbers.
use Rattle.std.proofs.Common.{ℕ, suc, ◌-◌, ◌/◌, ◌%◌, ◌^◌, ◌<◌, ◌≤◌, ◌≡◌, refl, sym, ap, ◌∙◌, arith, Bool, true, false}
use Rattle.std.specs.Prelude.{ℤ, pos, negsuc, ◌-ℤ◌, ◌+ℤ◌, ◌*ℤ◌, int_div, int_rem}
use Rattle.std.specs.Int.{int_div_euclid}
use Rattle.std.proofs.lemmas.Nat.{pow_pos, mod_below}
use Rattle.std.proofs.lemmas.Int.{ints, quot-rem}
use Rattle.xt_base.specs.declared.TheConstants.{MAX_WIDTH}
use Rattle.xt_bits.specs.Word.{Word, word, int_word, number_of, is_negative, integer_of, signed_value, IsKept}
use Rattle.xt_bits.specs.Operators.{not_of, turned_bit, sar_of, extend_of, select_of, selected_bit}
use Rattle.xt_bits.proofs.Numbers.{mod_small, number_of-bits}
use Rattle.xt_bits.proofs.Integers.{turned_round}
use Rattle.xt_bits.proofs.Vectors.{complement, sar_negative, sar_positive, extend_negative, extend_positive, extend_cut, lowered_bit}

-- a width and a value
abbrev vector_of : ℕ → ℕ → Word
vector_of w n = record { width = w; value = n }

-- the value of a complement
not_value : (a : Word) → IsKept a.width a.value → number_of a.width (turned_bit a) ≡ 2 ^ a.width - 1 - a.value
not_value a h =
    let less : 2 ^ MAX_WIDTH - 1 - a.value ≡ 2 ^ MAX_WIDTH - suc a.value = omega arith in
    let round : (2 ^ MAX_WIDTH - suc a.value) % 2 ^ a.width ≡ 2 ^ a.width - suc a.value = turned_round a.width (suc a.value) h.1 (omega arith) (omega arith) in
    sym (complement a h.1 h.2) ∙ ap (λ n. n % 2 ^ a.width) less ∙ round ∙ omega arith

-- a number below the power of its width, kept to it
kept : (w n m : ℕ) → n ≡ m → m < 2 ^ w → vector_of w n ≡ word w m
kept w n m e h = ap (vector_of w) (e ∙ sym (mod_small m w h))

-- a complement is what the value lacks to all ones
pub not_number : (a : Word) → IsKept a.width a.value → not_of a ≡ word a.width (2 ^ a.width - 1 - a.value)
not_number a h = let one = pow_pos a.width in kept a.width (number_of a.width (turned_bit a)) (2 ^ a.width - 1 - a.value) (not_value a h) (omega arith)

-- the number of a negative vector
below_zero : (a : Word) → IsKept a.width a.value → is_negative a ≡ true → signed_value a ≡ negsuc (not_of a).value
below_zero a h e =
    let v = not_value a h in
    let is : pos a.value -ℤ pos (2 ^ a.width) ≡ negsuc (2 ^ a.width - 1 - a.value) = omega (arith, ints) in
    rw (e, v) is

above_zero : (a : Word) → is_negative a ≡ false → signed_value a ≡ pos a.value
above_zero a e = rw e refl

-- a complement at a width of a number is what stands for the number below 0
under : (w n : ℕ) → 1 ≤ w → w ≤ MAX_WIDTH → not_of (word w n) ≡ int_word w (negsuc n)
under w n h k =
    let below = mod_below n (2 ^ w) (pow_pos w) in
    ap (vector_of w) (not_value (word w n) (h, k, below))

-- a vector at another width stands for the same number
pub extend_number : (a : Word) (w : ℕ) (signed : Bool) → IsKept a.width a.value → 1 ≤ w → w ≤ MAX_WIDTH → extend_of a w signed ≡ int_word w (integer_of a signed)
extend_number a w false h k l = sym (extend_positive a w false h.2 refl)
extend_number a w true h k l = by_sign (is_negative a) refl
  where
    by_sign : (b : Bool) → is_negative a ≡ b → extend_of a w true ≡ int_word w (signed_value a)
    by_sign false e = sym (extend_positive a w true h.2 e) ∙ ap (int_word w) (sym (above_zero a e))
    by_sign true e = sym (extend_negative a w h.2 e) ∙ under w (not_of a).value k l ∙ ap (int_word w) (sym (below_zero a h e))

-- a vector that is brought to its own width is itself
pub extend_same : (a : Word) (signed : Bool) → a.value < 2 ^ a.width → extend_of a a.width signed ≡ a
extend_same a signed h = extend_cut a a.width signed (omega arith) ∙ ap (vector_of a.width) (mod_small a.value a.width h)

-- a shift with copies of the sign bit divides the number, rounding down
pub sar_number : (a : Word) (n : ℕ) → IsKept a.width a.value → sar_of a n ≡ int_word a.width (int_div_euclid (signed_value a) (pos (2 ^ n)))
sar_number a n h = by_sign (is_negative a) refl
  where
    by_sign : (b : Bool) → is_negative a ≡ b → sar_of a n ≡ int_word a.width (int_div_euclid (signed_value a) (pos (2 ^ n)))
    by_sign false e =
        sym (sar_positive a n h.2 e) ∙ ap (λ z. int_word a.width (int_div_euclid z (pos (2 ^ n)))) (sym (above_zero a e))
    by_sign true e =
        sym (sar_negative a n h.2 e) ∙ under a.width ((not_of a).value / 2 ^ n) h.0 h.1
        ∙ ap (λ z. int_word a.width (int_div_euclid z (pos (2 ^ n)))) (sym (below_zero a h e))

-- a part from a bit on is a quotient
pub select_number : (a : Word) (k w : ℕ) → select_of a (pos k) w ≡ word w (a.value / 2 ^ k)
unfolding selected_bit
select_number a k w =
    ap (vector_of w) (sym (number_of-bits w (a.value / 2 ^ k) (selected_bit a (pos k)) (λ i l. lowered_bit a k i (pos k +ℤ pos i) (ap pos (omega arith)))))

-- a quotient and its remainder make up the number that is divided
pub divided : (x y : ℤ) → int_div x y *ℤ y +ℤ int_rem x y ≡ x
divided = quot-rem
