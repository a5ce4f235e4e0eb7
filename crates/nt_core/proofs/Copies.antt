-- A bit so many times, and as a sign that is extended.
use Rattle.std.proofs.Common.{◌≡◌, ℕ, zero, suc, ◌+◌, ◌*◌, ◌^◌, ◌%◌, ◌/◌, ◌<◌, true, false, arith, refl, ap, ◌∙◌, pos}
use Rattle.std.specs.Prelude.{nat_le, nat_lt, if◌then◌else◌}
use Rattle.std.proofs.lemmas.Bool.{le-ltb}
use Rattle.xt_bits.specs.Word.{Word, bit_of, number_of}
use Rattle.xt_bits.specs.Operators.{extended_bit, extend_of}
use Rattle.nt_core.specs.NodeValue.{copies_of}

-- two vectors of the same bits
number_of-same : (w : ℕ) (f g : ℕ → ℕ) → ((i : ℕ) → f i ≡ g i) → number_of w f ≡ number_of w g
unfolding number_of
number_of-same zero f g h = refl
number_of-same (suc w) f g h = ap (λ n. n + f w * 2 ^ w) (number_of-same w f g h) ∙ ap (λ b. number_of w g + b * 2 ^ w) (h w)

-- each bit of an extended bit is the bit
one_bit : (v i : ℕ) → v < 2 → (if nat_lt i 1 then v / 2 ^ i % 2 else (if nat_le 1 v then 1 else 0)) ≡ v / 2 ^ 0 % 2
one_bit zero zero h = refl
one_bit (suc zero) zero h = refl
one_bit (suc (suc v)) i h = absurd (omega arith)
one_bit zero (suc i) h = let past : nat_lt (suc i) 1 ≡ false = le-ltb (suc i) 1 (omega arith) in rw past
one_bit (suc zero) (suc i) h = let past : nat_lt (suc i) 1 ≡ false = le-ltb (suc i) 1 (omega arith) in rw past

extended_bit-one : (a : Word) → a.width ≡ 1 → a.value < 2 → (i : ℕ) → extended_bit a true i ≡ bit_of a (pos 0)
unfolding extended_bit bit_of
extended_bit-one a one below i = rw one (one_bit a.value i below)

pub extend_of_one : (a : Word) (times : ℕ) → a.width ≡ 1 → a.value < 2 → extend_of a times true ≡ copies_of a times
extend_of_one a times one below =
    ap (λ n. record { width = times; value = n }) (number_of-same times (extended_bit a true) (λ i. bit_of a (pos 0)) (extended_bit-one a one below))
