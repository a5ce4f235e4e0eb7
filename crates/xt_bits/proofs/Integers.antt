-- Integers kept to a width.
use Rattle.std.proofs.Common.{ℕ, zero, suc, ◌+◌, ◌-◌, ◌%◌, ◌^◌, ◌<◌, ◌≤◌, ◌≡◌, refl, sym, ap, ◌∙◌, arith, ⊎_elim, Bool, true, false}
use Rattle.std.specs.Prelude.{pos, negsuc, ◌-ℤ◌, neg_ℤ, unsigned_abs, int_lt, if◌then◌else◌}
use Rattle.std.specs.Int.{int_rem_euclid}
use Rattle.std.proofs.lemmas.Nat.{pow_pos}
use Rattle.std.proofs.lemmas.Int.{ints}
use Rattle.std.proofs.lemmas.Bool.{cases_lt, le-ltb, leb-true, false≢true}
use Rattle.xt_base.specs.declared.TheConstants.{MAX_WIDTH}
use Rattle.xt_bits.specs.Word.{Word, word, int_word, is_negative, integer_of}
use Rattle.xt_bits.specs.Operators.{neg_of}
use Rattle.xt_bits.proofs.Numbers.{mod_max, below_max, power_split, mod_of, mod_small, less_than_whole, turns, turns_split}

-- what stands for a number below 0
pub turned_round : (w c : ℕ) → w ≤ MAX_WIDTH → 0 < c → c ≤ 2 ^ w → (2 ^ MAX_WIDTH - c) % 2 ^ w ≡ 2 ^ w - c
turned_round w c h p q = mod_of _ (turns w) (2 ^ w - c) w (omega arith) (less_than_whole (2 ^ MAX_WIDTH) (turns w) (2 ^ w) c (turns_split w h) q)

-- a difference modulo the machine's width is one modulo each lower width
module _ (w a b : ℕ) (h : w ≤ MAX_WIDTH) (p : a < 2 ^ w) (q : b < 2 ^ w) where
  over : b ≤ a → (a + (2 ^ MAX_WIDTH - b)) % 2 ^ w ≡ unsigned_abs (int_rem_euclid (pos a -ℤ pos b) (pos (2 ^ w)))
  over l =
      let e : pos a -ℤ pos b ≡ pos (a - b) = omega (arith, ints) in
      let small = below_max w b h q in
      let whole = power_split w h in
      rw e (mod_of _ (2 ^ (MAX_WIDTH - w)) (a - b) w (omega arith) (omega arith) ∙ sym (mod_small (a - b) w (omega arith)))

  under : a < b → (a + (2 ^ MAX_WIDTH - b)) % 2 ^ w ≡ unsigned_abs (int_rem_euclid (pos a -ℤ pos b) (pos (2 ^ w)))
  under l =
      let e : pos a -ℤ pos b ≡ negsuc (b - suc a) = omega (arith, ints) in
      let small = below_max w b h q in
      let less : a + (2 ^ MAX_WIDTH - b) ≡ 2 ^ MAX_WIDTH - (b - a) = omega arith in
      let round : (2 ^ MAX_WIDTH - (b - a)) % 2 ^ w ≡ 2 ^ w - (b - a) = turned_round w (b - a) h (omega arith) (omega arith) in
      let rest : (b - suc a) % 2 ^ w ≡ b - suc a = mod_small (b - suc a) w (omega arith) in
      rw (e, less, round, rest) (omega arith)

  pub difference : (a + (2 ^ MAX_WIDTH - b)) % 2 ^ MAX_WIDTH % 2 ^ w ≡ unsigned_abs (int_rem_euclid (pos a -ℤ pos b) (pos (2 ^ w)))
  difference = rw mod_max (⊎_elim under over (cases_lt a b))

-- and so is what is added to a number for 0
pub negative : (w a r : ℕ) → w ≤ MAX_WIDTH → a < 2 ^ w → r < 2 ^ MAX_WIDTH → (r + a) % 2 ^ MAX_WIDTH ≡ 0
    → r % 2 ^ w ≡ unsigned_abs (int_rem_euclid (neg_ℤ (pos a)) (pos (2 ^ w)))
negative w zero r h p q e = let none : r ≡ 0 = omega arith in rw none refl
negative w (suc a) r h p q e =
    let small = below_max w (suc a) h p in
    let less : r ≡ 2 ^ MAX_WIDTH - suc a = omega arith in
    let round : (2 ^ MAX_WIDTH - suc a) % 2 ^ w ≡ 2 ^ w - suc a = turned_round w (suc a) h (omega arith) (omega arith) in
    let rest : a % 2 ^ w ≡ a = mod_small a w (omega arith) in
    rw (less, round, rest) (omega arith)

-- a number below 0, from its magnitude
pub small_negative : (w n : ℕ) → n < 2 ^ w → neg_of (word w n) ≡ int_word w (neg_ℤ (pos n))
small_negative w n h = ap (λ k. int_word w (neg_ℤ (pos k))) (mod_small n w h)

-- the magnitude of a number below 0 is what its value lacks to the power of the width
magnitude_under : (w v : ℕ) → 0 < v → v < 2 ^ w → unsigned_abs (int_rem_euclid (neg_ℤ (pos v)) (pos (2 ^ w))) ≡ unsigned_abs (pos v -ℤ pos (2 ^ w))
magnitude_under w zero h p = absurd (omega arith)
magnitude_under w (suc v) h p =
    let e : pos (suc v) -ℤ pos (2 ^ w) ≡ negsuc (2 ^ w - suc (suc v)) = omega (arith, ints) in
    let rest : v % 2 ^ w ≡ v = mod_small v w (omega arith) in
    rw (e, rest) (omega arith)

-- a vector that stands for a number below 0 has a value
pub magnitude_below : (a : Word) (signed : Bool) → a.value < 2 ^ a.width → int_lt (integer_of a signed) (pos 0) ≡ true
    → (neg_of a).value ≡ unsigned_abs (integer_of a signed)
magnitude_below a false p h = absurd (false≢true (sym (le-ltb a.value 0 (omega arith)) ∙ h))
magnitude_below a true p h = by_sign (is_negative a) refl h
  where
    by_sign : (b : Bool) → is_negative a ≡ b → int_lt (if b then pos a.value -ℤ pos (2 ^ a.width) else pos a.value) (pos 0) ≡ true
        → (neg_of a).value ≡ unsigned_abs (if b then pos a.value -ℤ pos (2 ^ a.width) else pos a.value)
    by_sign false e k = absurd (false≢true (sym (le-ltb a.value 0 (omega arith)) ∙ k))
    by_sign true e k = let some : 2 ^ (a.width - 1) ≤ a.value = leb-true (2 ^ (a.width - 1)) a.value e in
        let one = pow_pos (a.width - 1) in magnitude_under a.width a.value (omega arith) p
