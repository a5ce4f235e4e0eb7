-- The bits of vectors, and what the operators that go bit by bit make of them.
use Rattle.std.proofs.Common.{ℕ, suc, ◌+◌, ◌-◌, ◌*◌, ◌/◌, ◌%◌, ◌^◌, ◌<◌, ◌≤◌, ◌≡◌, refl, sym, ap, ◌∙◌, arith, Bool, true, false, ltb, ⊎_elim}
use Rattle.std.specs.Prelude.{ℤ, pos, negsuc, ◌-ℤ◌, ◌+ℤ◌, ◌&&◌, bit_or, bit_and, min, max, int_le, int_lt, unsigned_abs, ◌<ℤ◌, ◌≤ℤ◌, if◌then◌else◌}
use Rattle.std.specs.Int.{bit_at, Width, w64}
use Rattle.std.proofs.lemmas.Nat.Bits.{bit_at_not, bit_at_above, bit_at-lt, bit_at_cat_low, bit_at_cat_high, bit_at_ones, bit_at_ones_above, bit_at_or, bit_at_and, bit_at-zero}
use Rattle.std.proofs.lemmas.Nat.{shl_whole, or_shifted, pow_pos}
use Rattle.std.proofs.lemmas.Int.{ints}
use Rattle.std.proofs.lemmas.Bool.{cases_lt, lt-ltb, le-ltb, le-leb}
use Rattle.xt_base.specs.declared.TheConstants.{MAX_WIDTH}
use Rattle.xt_bits.specs.Word.{Word, number_of, bit_of, word, is_negative, IsKept}
use Rattle.xt_bits.specs.Operators.{turned_bit, extended_bit, shifted_bit, not_of, shr_of, sar_of, extend_of, select_of, selected_bit, replace_of, replaced_bit}
use Rattle.xt_bits.proofs.Numbers.{below_max, ones_mod, number_of-bits, number_of-below, bit_at-number_of, number_of-same, bit_at-mod, bit_at-shr}

-- the width of an item, as std names it
abbrev item_width : Width
item_width = w64

-- a complement at the machine's width has the turned bits
turned : (a : Word) → a.width ≤ MAX_WIDTH → a.value < 2 ^ a.width
    → (i : ℕ) → i < a.width → bit_at (2 ^ MAX_WIDTH - 1 - a.value) i ≡ turned_bit a i
unfolding turned_bit bit_of
turned a h p i l = bit_at_not item_width a.value i (below_max a.width a.value h p) (omega arith)

pub complement : (a : Word) → a.width ≤ MAX_WIDTH → a.value < 2 ^ a.width → (2 ^ MAX_WIDTH - 1 - a.value) % 2 ^ a.width ≡ number_of a.width (turned_bit a)
complement a h p = number_of-bits a.width (2 ^ MAX_WIDTH - 1 - a.value) (turned_bit a) (turned a h p)

-- a turned bit is a bit
turned_bit-lt : (a : Word) (i : ℕ) → turned_bit a i < 2
unfolding turned_bit
turned_bit-lt a i = omega arith

-- within its width a vector has its own bits
own_bits : (a : Word) (signed : Bool) (i : ℕ) → i < a.width → extended_bit a signed i ≡ bit_at a.value i
unfolding extended_bit bit_of
own_bits a signed i h = rw (lt-ltb i a.width h) refl

-- a vector that is cut, or brought to its own width, keeps its low bits
pub extend_cut : (a : Word) (w : ℕ) (signed : Bool) → w ≤ a.width → extend_of a w signed ≡ word w a.value
extend_cut a w signed h =
    ap (λ v. record { width = w; value = v }) (sym (number_of-bits w a.value (extended_bit a signed) (λ i k. sym (own_bits a signed i (omega arith)))))

-- past its width a vector of which the sign bit counts not, or is 0, has zeros: its number's bits
zeros_on : (a : Word) (signed : Bool) → a.value < 2 ^ a.width → (signed && is_negative a) ≡ false → (i : ℕ) → extended_bit a signed i ≡ bit_at a.value i
unfolding extended_bit bit_of
zeros_on a signed p e i =
    ⊎_elim (λ k. rw (lt-ltb i a.width k) refl) (λ k. rw (le-ltb i a.width k, e) (sym (bit_at_above a.value a.width i p k))) (cases_lt i a.width)

-- past its width a negative vector has ones: the turned bits of its complement
ones_on : (a : Word) → a.value < 2 ^ a.width → is_negative a ≡ true → (i : ℕ) → extended_bit a true i ≡ 1 - bit_at (not_of a).value i
unfolding extended_bit bit_of turned_bit
ones_on a p e i = ⊎_elim inside outside (cases_lt i a.width)
  where
    below : (not_of a).value < 2 ^ a.width
    below = number_of-below a.width (turned_bit a) (turned_bit-lt a)

    inside : i < a.width → extended_bit a true i ≡ 1 - bit_at (not_of a).value i
    inside k =
        let bit = bit_at-lt a.value i in
        rw (lt-ltb i a.width k, bit_at-number_of a.width (turned_bit a) (turned_bit-lt a) i k) (omega arith)

    outside : a.width ≤ i → extended_bit a true i ≡ 1 - bit_at (not_of a).value i
    outside k = rw (le-ltb i a.width k, e, bit_at_above (not_of a).value a.width i below k) refl

-- a vector with the bits of another, turned back
pub sar_negative : (a : Word) (n : ℕ) → a.value < 2 ^ a.width → is_negative a ≡ true → not_of (shr_of (not_of a) n) ≡ sar_of a n
unfolding turned_bit shifted_bit bit_of
sar_negative a n p e =
    ap (λ v. record { width = a.width; value = v }) (number_of-same a.width (turned_bit (shr_of (not_of a) n)) (shifted_bit a n) bitwise)
  where
    bitwise : (i : ℕ) → i < a.width → turned_bit (shr_of (not_of a) n) i ≡ shifted_bit a n i
    bitwise i k =
        ap (λ b. 1 - b) (bit_at-mod ((not_of a).value / 2 ^ n) a.width i k ∙ bit_at-shr (not_of a).value n i)
        ∙ sym (ones_on a p e (i + n))

pub sar_positive : (a : Word) (n : ℕ) → a.value < 2 ^ a.width → is_negative a ≡ false → shr_of a n ≡ sar_of a n
unfolding shifted_bit
sar_positive a n p e =
    ap (λ v. record { width = a.width; value = v }) (number_of-bits a.width (a.value / 2 ^ n) (shifted_bit a n) bitwise)
  where
    bitwise : (i : ℕ) → i < a.width → bit_at (a.value / 2 ^ n) i ≡ shifted_bit a n i
    bitwise i k = bit_at-shr a.value n i ∙ sym (zeros_on a true p e (i + n))

pub extend_negative : (a : Word) (w : ℕ) → a.value < 2 ^ a.width → is_negative a ≡ true → not_of (word w (not_of a).value) ≡ extend_of a w true
unfolding turned_bit bit_of
extend_negative a w p e =
    ap (λ v. record { width = w; value = v }) (number_of-same w (turned_bit (word w (not_of a).value)) (extended_bit a true) bitwise)
  where
    bitwise : (i : ℕ) → i < w → turned_bit (word w (not_of a).value) i ≡ extended_bit a true i
    bitwise i k = ap (λ b. 1 - b) (bit_at-mod (not_of a).value w i k) ∙ sym (ones_on a p e i)

pub extend_positive : (a : Word) (w : ℕ) (signed : Bool) → a.value < 2 ^ a.width → (signed && is_negative a) ≡ false → word w a.value ≡ extend_of a w signed
extend_positive a w signed p e =
    ap (λ v. record { width = w; value = v }) (number_of-bits w a.value (extended_bit a signed) (λ i k. sym (zeros_on a signed p e i)))

-- the two halves of a joined vector share no bit
pub joined : (a b : Word) → a.width + b.width ≤ MAX_WIDTH → a.value < 2 ^ a.width → b.value < 2 ^ b.width
    → bit_or (a.value * 2 ^ b.width % 2 ^ MAX_WIDTH) b.value ≡ a.value * 2 ^ b.width + b.value
joined a b h p q = rw (shl_whole a.value a.width b.width MAX_WIDTH p h) (or_shifted a.value b.width b.value q)

-- a bit of a number that is shifted to the right
pub lowered_bit : (a : Word) (k i : ℕ) (z : ℤ) → z ≡ pos (i + k) → bit_at (a.value / 2 ^ k) i ≡ bit_of a z
unfolding bit_of
lowered_bit a k i z e = rw e (bit_at-shr a.value k i)

-- a bit of a number that is shifted to the left
pub raised_bit : (a : Word) (k i : ℕ) (z : ℤ) → i < MAX_WIDTH → z +ℤ pos k ≡ pos i → bit_at (a.value * 2 ^ k % 2 ^ MAX_WIDTH) i ≡ bit_of a z
unfolding bit_of
raised_bit a k i z h e = bit_at-mod (a.value * 2 ^ k) MAX_WIDTH i h ∙ ⊎_elim below above (cases_lt i k)
  where
    end : a.value * 2 ^ k ≡ a.value * 2 ^ k + 0
    end = omega arith

    below : i < k → bit_at (a.value * 2 ^ k) i ≡ bit_of a z
    below l =
        let under : z ≡ negsuc (k - suc i) = omega (arith, ints) in
        rw under (ap (λ n. bit_at n i) end ∙ bit_at_cat_low a.value k 0 i l ∙ bit_at-zero i)

    above : k ≤ i → bit_at (a.value * 2 ^ k) i ≡ bit_of a z
    above l =
        let over : z ≡ pos (i - k) = omega (arith, ints) in
        rw over (ap (λ n. bit_at n i) end ∙ bit_at_cat_high a.value k 0 i (pow_pos k) l)

-- a bit after a part was written: the part's where its ones stand, else the old one
written_bit : (x : ℕ) (full part : Word) (at : ℤ) → x < 2 → part.value < 2 ^ part.width → full.value ≡ 2 ^ part.width - 1
    → max (min x (1 - bit_of full at)) (bit_of part at) ≡ (if int_le (pos 0) at && int_lt at (pos part.width) then bit_of part at else x)
unfolding bit_of
written_bit x full part (pos j) h p e = rw (e, le-leb 0 j (omega arith)) (⊎_elim inside outside (cases_lt j part.width))
  where
    inside : j < part.width
        → max (min x (1 - bit_at (2 ^ part.width - 1) j)) (bit_at part.value j) ≡ (if ltb j part.width then bit_at part.value j else x)
    inside l = rw (bit_at_ones part.width j l, lt-ltb j part.width l) (omega arith)

    outside : part.width ≤ j
        → max (min x (1 - bit_at (2 ^ part.width - 1) j)) (bit_at part.value j) ≡ (if ltb j part.width then bit_at part.value j else x)
    outside l = rw (bit_at_ones_above part.width j l, bit_at_above part.value part.width j p l, le-ltb j part.width l) (omega arith)
written_bit x full part (negsuc j) h p e = omega arith

-- a number below 0 and its size
opposite : (z : ℤ) → z <ℤ pos 0 → z +ℤ pos (unsigned_abs z) ≡ pos 0
opposite (pos n) h = absurd (omega (arith, ints))
opposite (negsuc n) h = omega (arith, ints)

itself : (z : ℤ) → pos 0 ≤ℤ z → z ≡ pos (unsigned_abs z)
itself (pos n) h = refl
itself (negsuc n) h = absurd (omega (arith, ints))

-- the bits of a vector from bit `by` on
pub lowered_under : (a : Word) (by : ℤ) (i : ℕ) → by <ℤ pos 0 → i < MAX_WIDTH → bit_at (a.value * 2 ^ unsigned_abs by % 2 ^ MAX_WIDTH) i ≡ bit_of a (by +ℤ pos i)
lowered_under a by i h l = let k = opposite by h in raised_bit a (unsigned_abs by) i (by +ℤ pos i) l (omega (arith, ints))

pub lowered_over : (a : Word) (by : ℤ) (i : ℕ) → pos 0 ≤ℤ by → bit_at (a.value / 2 ^ unsigned_abs by) i ≡ bit_of a (by +ℤ pos i)
lowered_over a by i h = let k = itself by h in lowered_bit a (unsigned_abs by) i (by +ℤ pos i) (omega (arith, ints))

-- the bits of a vector with its lowest at bit `by`
pub raised_under : (a : Word) (by : ℤ) (i : ℕ) → by <ℤ pos 0 → bit_at (a.value / 2 ^ unsigned_abs by) i ≡ bit_of a (pos i -ℤ by)
raised_under a by i h = let k = opposite by h in lowered_bit a (unsigned_abs by) i (pos i -ℤ by) (omega (arith, ints))

pub raised_over : (a : Word) (by : ℤ) (i : ℕ) → pos 0 ≤ℤ by → i < MAX_WIDTH → bit_at (a.value * 2 ^ unsigned_abs by % 2 ^ MAX_WIDTH) i ≡ bit_of a (pos i -ℤ by)
raised_over a by i h l = let k = itself by h in raised_bit a (unsigned_abs by) i (pos i -ℤ by) l (omega (arith, ints))

-- a part from a number that has its bits
pub selected : (a : Word) (low : ℤ) (w n : ℕ) → w ≤ MAX_WIDTH
    → ((i : ℕ) → i < MAX_WIDTH → bit_at n i ≡ bit_of a (low +ℤ pos i)) → word w n ≡ select_of a low w
unfolding selected_bit
selected a low w n h bits =
    ap (λ v. record { width = w; value = v }) (number_of-bits w n (selected_bit a low) (λ i k. bits i (omega arith)))

-- a vector after a part was written, from the numbers that have the bits of the part's ones and of the part
module _ (a part full : Word) (low : ℤ) (ones bits : ℕ)
    (a_kept : IsKept a.width a.value) (part_kept : IsKept part.width part.value)
    (full_is : full ≡ word part.width (2 ^ MAX_WIDTH - 1)) (ones_fit : ones < 2 ^ MAX_WIDTH)
    (ones_are : (i : ℕ) → i < MAX_WIDTH → bit_at ones i ≡ bit_of full (pos i -ℤ low))
    (bits_are : (i : ℕ) → i < MAX_WIDTH → bit_at bits i ≡ bit_of part (pos i -ℤ low)) where
  bitwise : (i : ℕ) → i < a.width → bit_at (bit_or (bit_and a.value (2 ^ MAX_WIDTH - 1 - ones)) bits) i ≡ replaced_bit a low part i
  unfolding replaced_bit bit_of
  bitwise i k =
      let within : i < MAX_WIDTH = omega arith in
      bit_at_or (bit_and a.value (2 ^ MAX_WIDTH - 1 - ones)) bits i
      ∙ ap (λ b. max b (bit_at bits i)) (bit_at_and a.value (2 ^ MAX_WIDTH - 1 - ones) i)
      ∙ ap (λ b. max (min (bit_at a.value i) b) (bit_at bits i)) (bit_at_not item_width ones i ones_fit within)
      ∙ ap (λ b. max (min (bit_at a.value i) (1 - b)) (bit_at bits i)) (ones_are i within)
      ∙ ap (λ b. max (min (bit_at a.value i) (1 - bit_of full (pos i -ℤ low))) b) (bits_are i within)
      ∙ written_bit (bit_at a.value i) full part (pos i -ℤ low) (bit_at-lt a.value i) part_kept.2
      (ap (λ w. w.value) full_is ∙ ones_mod part.width part_kept.1)

  pub replaced : word a.width (bit_or (bit_and a.value (2 ^ MAX_WIDTH - 1 - ones)) bits) ≡ replace_of a low part
  replaced =
      ap (λ v. record { width = a.width; value = v })
      (number_of-bits a.width (bit_or (bit_and a.value (2 ^ MAX_WIDTH - 1 - ones)) bits) (replaced_bit a low part) bitwise)
