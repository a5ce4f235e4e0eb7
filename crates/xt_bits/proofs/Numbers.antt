-- Numbers modulo powers of two, and numbers by their bits.
use Rattle.std.proofs.Common.{ℕ, zero, suc, ◌+◌, ◌-◌, ◌*◌, ◌/◌, ◌%◌, ◌^◌, ◌<◌, ◌≤◌, ◌≡◌, ap, ◌∙◌, arith, bit_and, add_comm, refl, sym, ⊎_elim}
use Rattle.std.proofs.lemmas.Nat.{mod-pow-add, mod_low, mod_below, pow_pos, and_mask, shr_split, shr-shr, mul-le, pow-add}
use Rattle.std.proofs.Math.Nat.{pow-suc, div-eq_of_lt, mul_assoc}
use Rattle.std.proofs.lemmas.Bool.{cases_lt}
use Rattle.std.proofs.lemmas.Nat.Bits.{ones_shr, bit_at_cat_low, bit_at_cat_high, bit_at_lowest}
use Rattle.std.specs.Int.{bit_at}
use Rattle.std.proofs.Math.Pow.{pow_mono}
use Rattle.xt_base.specs.declared.TheConstants.{MAX_WIDTH}
use Rattle.xt_bits.specs.Word.{number_of}

-- the ones below a width
pub ones_shr_max : (w : ℕ) → w ≤ MAX_WIDTH → (2 ^ MAX_WIDTH - 1) / 2 ^ (MAX_WIDTH - w) ≡ 2 ^ w - 1
ones_shr_max w h =
    let e : MAX_WIDTH - (MAX_WIDTH - w) ≡ w = omega arith in
    ones_shr MAX_WIDTH (MAX_WIDTH - w) (omega arith) ∙ ap (λ k. 2 ^ k - 1) e

-- to keep a number to a greater width first changes nothing
pub mod_mod : (n w m : ℕ) → w ≤ m → n % 2 ^ m % 2 ^ w ≡ n % 2 ^ w
mod_mod n w m h =
    let e : m ≡ (m - w) + w = omega arith in
    let split : n % 2 ^ m ≡ (n / 2 ^ w % 2 ^ (m - w)) * 2 ^ w + n % 2 ^ w = ap (λ k. n % 2 ^ k) e ∙ mod-pow-add n (m - w) w in
    ap (λ k. k % 2 ^ w) split ∙ mod_low _ w _ (mod_below n (2 ^ w) (pow_pos w))

-- to keep a number to the machine's width first changes nothing
pub mod_max : (n w : ℕ) → w ≤ MAX_WIDTH → n % 2 ^ MAX_WIDTH % 2 ^ w ≡ n % 2 ^ w
mod_max n w h = mod_mod n w MAX_WIDTH h

-- the mask of a width keeps a number to it
pub masked : (n w : ℕ) → w ≤ MAX_WIDTH → bit_and n ((2 ^ MAX_WIDTH - 1) / 2 ^ (MAX_WIDTH - w)) ≡ n % 2 ^ w
masked n w h = ap (bit_and n) (ones_shr_max w h) ∙ and_mask n w

-- and so it lies below the power of the width
pub masked_below : (n w : ℕ) → w ≤ MAX_WIDTH → bit_and n ((2 ^ MAX_WIDTH - 1) / 2 ^ (MAX_WIDTH - w)) < 2 ^ w
masked_below n w h = rw masked (mod_below n (2 ^ w) (pow_pos w))

-- a number that has the bits is the number of the bits
pub number_of-bits : (w n : ℕ) (f : ℕ → ℕ) → ((i : ℕ) → i < w → bit_at n i ≡ f i) → n % 2 ^ w ≡ number_of w f
unfolding number_of
number_of-bits zero n f h = omega arith
number_of-bits (suc w) n f h =
    let below : n % 2 ^ w ≡ number_of w f = number_of-bits w n f (λ i l. h i (omega arith)) in
    let top : bit_at n w ≡ f w = h w (omega arith) in
    let split : n % 2 ^ (1 + w) ≡ (n / 2 ^ w % 2) * 2 ^ w + n % 2 ^ w = mod-pow-add n 1 w in
    let e : suc w ≡ 1 + w = omega arith in
    ap (λ k. n % 2 ^ k) e ∙ split ∙ ap (λ b. b * 2 ^ w + n % 2 ^ w) top ∙ ap (λ k. f w * 2 ^ w + k) below
    ∙ add_comm (f w * 2 ^ w) (number_of w f)

-- the machine's width is a whole number of each lower width
pub power_split : (w : ℕ) → w ≤ MAX_WIDTH → 2 ^ MAX_WIDTH ≡ 2 ^ (MAX_WIDTH - w) * 2 ^ w
power_split w h =
    let e : MAX_WIDTH ≡ (MAX_WIDTH - w) + w = omega arith in
    ap (λ k. 2 ^ k) e ∙ pow-add 2 (MAX_WIDTH - w) w

-- a whole number of turns, and what is left
pub mod_of : (k q r w : ℕ) → r < 2 ^ w → k ≡ q * 2 ^ w + r → k % 2 ^ w ≡ r
mod_of k q r w h e = ap (λ x. x % 2 ^ w) e ∙ mod_low q w r h

-- a number below the power is left as it is
pub mod_small : (n w : ℕ) → n < 2 ^ w → n % 2 ^ w ≡ n
mod_small n w h = mod_of n 0 n w h (omega arith)

pub less_than_whole : (m q d c : ℕ) → m ≡ (q + 1) * d → c ≤ d → m - c ≡ q * d + (d - c)
less_than_whole m q d c e h = grind arith

-- the machine's width is a whole number of turns at each lower width, and one turn
pub turns : ℕ → ℕ
turns w = 2 ^ (MAX_WIDTH - w) - 1

pub turns_split : (w : ℕ) → w ≤ MAX_WIDTH → 2 ^ MAX_WIDTH ≡ (turns w + 1) * 2 ^ w
unfolding turns
turns_split w h =
    let some : 2 ^ (MAX_WIDTH - w) - 1 + 1 ≡ 2 ^ (MAX_WIDTH - w) = let k = pow_pos (MAX_WIDTH - w) in omega arith in
    power_split w h ∙ ap (λ k. k * 2 ^ w) (sym some)

-- the ones of a width
pub ones_mod : (w : ℕ) → w ≤ MAX_WIDTH → (2 ^ MAX_WIDTH - 1) % 2 ^ w ≡ 2 ^ w - 1
ones_mod w h =
    let some = pow_pos w in
    mod_of (2 ^ MAX_WIDTH - 1) (turns w) (2 ^ w - 1) w (omega arith) (less_than_whole (2 ^ MAX_WIDTH) (turns w) (2 ^ w) 1 (turns_split w h) (omega arith))

-- a number below the power of a width lies below the machine's
pub below_max : (w n : ℕ) → w ≤ MAX_WIDTH → n < 2 ^ w → n < 2 ^ MAX_WIDTH
below_max w n h p = let q : 2 ^ w ≤ 2 ^ MAX_WIDTH = pow_mono h in omega arith

-- the low bits of a number that is kept to a width are its own
pub bit_at-mod : (n w i : ℕ) → i < w → bit_at (n % 2 ^ w) i ≡ bit_at n i
bit_at-mod n w i h = sym (bit_at_cat_low (n / 2 ^ w) w (n % 2 ^ w) i h) ∙ ap (λ k. bit_at k i) (shr_split n w)

-- the bits of a number that is shifted to the right
pub bit_at-shr : (n k i : ℕ) → bit_at (n / 2 ^ k) i ≡ bit_at n (i + k)
bit_at-shr n k i = ap (λ m. m % 2) (shr-shr n k i) ∙ ap (bit_at n) (add_comm k i)

-- the number of bits lies below the power of their number
pub number_of-below : (w : ℕ) (f : ℕ → ℕ) → ((i : ℕ) → f i < 2) → number_of w f < 2 ^ w
unfolding number_of
number_of-below zero f h = omega arith
number_of-below (suc w) f h =
    let below = number_of-below w f h in
    let bit = h w in
    let top : f w * 2 ^ w ≤ 1 * 2 ^ w = mul-le (f w) (2 ^ w) 1 (2 ^ w) (omega arith) (omega arith) in
    let twice : 2 ^ suc w ≡ 2 ^ w * 2 = pow-suc 2 w in
    omega arith

-- one more bit at the top
bit_on_top : (w n b i : ℕ) → n < 2 ^ w → b < 2 → i ≡ w → bit_at (n + b * 2 ^ w) i ≡ b
bit_on_top w n b i h k e =
    let here : i - w ≡ 0 = omega arith in
    let top : bit_at (b * 2 ^ w + n) i ≡ bit_at b (i - w) = bit_at_cat_high b w n i h (omega arith) in
    let bit : bit_at b 0 ≡ b = bit_at_lowest b ∙ omega arith in
    ap (λ m. bit_at m i) (add_comm n (b * 2 ^ w)) ∙ top ∙ ap (bit_at b) here ∙ bit

bit_below_top : (w n b i : ℕ) → i < w → bit_at (n + b * 2 ^ w) i ≡ bit_at n i
bit_below_top w n b i h = ap (λ m. bit_at m i) (add_comm n (b * 2 ^ w)) ∙ bit_at_cat_low b w n i h

-- the number of bits has those bits
pub bit_at-number_of : (w : ℕ) (f : ℕ → ℕ) → ((i : ℕ) → f i < 2) → (i : ℕ) → i < w → bit_at (number_of w f) i ≡ f i
unfolding number_of
bit_at-number_of zero f h i l = absurd (omega arith)
bit_at-number_of (suc w) f h i l =
    ⊎_elim (λ k. bit_below_top w (number_of w f) (f w) i k ∙ bit_at-number_of w f h i k)
    (λ k. let e : i ≡ w = omega arith in bit_on_top w (number_of w f) (f w) i (number_of-below w f h) (h w) e ∙ ap f (sym e))
    (cases_lt i w)

-- equal bits make equal numbers
pub number_of-same : (w : ℕ) (f g : ℕ → ℕ) → ((i : ℕ) → i < w → f i ≡ g i) → number_of w f ≡ number_of w g
unfolding number_of
number_of-same zero f g h = refl
number_of-same (suc w) f g h =
    let below = number_of-same w f g (λ i l. h i (omega arith)) in
    let top = h w (omega arith) in
    cc

-- shifted by the machine's width or more, nothing is left
pub shl_out : (n k : ℕ) → MAX_WIDTH ≤ k → n * 2 ^ k % 2 ^ MAX_WIDTH ≡ 0
shl_out n k h =
    let high = n * 2 ^ (k - MAX_WIDTH) in
    let e : k ≡ (k - MAX_WIDTH) + MAX_WIDTH = omega arith in
    let whole : n * 2 ^ k ≡ high * 2 ^ MAX_WIDTH =
    ap (λ j. n * 2 ^ j) e ∙ ap (λ m. n * m) (pow-add 2 (k - MAX_WIDTH) MAX_WIDTH) ∙ sym (mul_assoc n (2 ^ (k - MAX_WIDTH)) (2 ^ MAX_WIDTH)) in
    let none : high * 2 ^ MAX_WIDTH ≡ high * 2 ^ MAX_WIDTH + 0 = omega arith in
    ap (λ m. m % 2 ^ MAX_WIDTH) (whole ∙ none) ∙ mod_low high MAX_WIDTH 0 (omega arith)

pub shr_out : (n k : ℕ) → n < 2 ^ MAX_WIDTH → MAX_WIDTH ≤ k → n / 2 ^ k ≡ 0
shr_out n k h l = let more : 2 ^ MAX_WIDTH ≤ 2 ^ k = pow_mono l in div-eq_of_lt (omega arith)
