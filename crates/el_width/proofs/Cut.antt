-- Numbers: room for copies, and numbers that are cut.
use Rattle.std.proofs.Common.{◌≡◌, ◌≤◌, ◌<◌, ◌+◌, ◌*◌, ◌-◌, ℕ, zero, suc, [], ◌∷◌, ◌++◌, replicate, ◌^◌, ◌%◌, refl, ap, arith}
use Rattle.std.specs.Prelude.{min, nat_lt}
use Rattle.xt_base.specs.declared.TheConstants.{MAX_WIDTH}
use Rattle.xt_bits.specs.Word.{word}
use Rattle.xt_bits.proofs.Numbers.{mod_max}
use Rattle.el_width.specs.Lengths.{capped, in_range}
use Rattle.el_width.specs.Numbers.{kept_width}

pub room : (i n w m : ℕ) → i < n → n * w + w ≤ m → suc i * w + w ≤ m
room i n w m h k = grind (arith, h, k)

pub counted : (n w : ℕ) → 1 ≤ n * w → 1 ≤ n
counted zero w h = grind (arith, h)
counted (suc n) w h = omega arith

pub small : (n w m : ℕ) → n * w ≤ m → 1 ≤ n → (n - 1) * w + w ≤ m
small zero w m h k = grind (arith, h, k)
small (suc n) w m h k = grind (arith, h)

pub one_more : {X : Type 0} (n : ℕ) (x : X) → replicate n x ++ x ∷ [] ≡ replicate (suc n) x
one_more zero x = refl
one_more (suc n) x = ap (λ xs. x ∷ xs) (one_more n x)

-- ---- numbers of any length, by their lowest 64 bits and by what they are up to the greatest of 64 bits

pub low_word : (n w : ℕ) → w ≤ MAX_WIDTH → word w (n % 2 ^ 64) ≡ word w n
low_word n w h = ap (λ v. record { width = w; value = v }) (mod_max n w h)

pub below_capped : (n : ℕ) → nat_lt (min n (2 ^ 64 - 1)) (2 ^ 32) ≡ nat_lt n (2 ^ 32)
below_capped n = grind arith

pub capped_twice : (n : ℕ) → capped (min n (2 ^ 64 - 1)) ≡ capped n
capped_twice n = grind arith

pub range_capped : (n : ℕ) → in_range (capped n) ≡ in_range n
range_capped n = grind arith

pub kept_capped : (n : ℕ) → kept_width (capped n) ≡ kept_width n
kept_capped n = grind arith
