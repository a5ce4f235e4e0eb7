-- A variable of w bits to which the same step is added again and again takes all values that leave the same when divided by the lowest bit of the step.
use Rattle.std.proofs.Common.{◌≡◌, ◌⊎◌, inl, inr, ℕ, zero, suc, ◌+◌, ◌*◌, ◌/◌, ◌%◌, ◌^◌, ◌<◌, refl, sym, ◌∙◌, ap, subst, arith}
use Rattle.std.specs.Int.Count.{count_trailing_zeros}
use Rattle.std.proofs.lemmas.Nat.{mod-pow-add, mod_below, pow_pos, pow-add, trailing_le, div-add-mod'}
use Rattle.xt_bits.proofs.Numbers.{mod_mod, mod_of}
use Rattle.el_design.specs.Progression.{value_after, lowest_bit, IsAlike, TakesAllAlike}

-- a number is twice its half, and what is left
halves : (n : ℕ) → n ≡ 2 * (n / 2) + n % 2
halves n = let e = div-add-mod' n 2 in omega arith

parity : (n : ℕ) → (n % 2 ≡ 0) ⊎ (n % 2 ≡ 1)
parity n = go (n % 2) refl (mod_below n 2 (omega arith))
  where
    go : (r : ℕ) → n % 2 ≡ r → n % 2 < 2 → (n % 2 ≡ 0) ⊎ (n % 2 ≡ 1)
    go zero e h = inl e
    go (suc zero) e h = inr e
    go (suc (suc r)) e h = absurd (omega (arith, e, h))

zeros_even : (w s : ℕ) → s % 2 ≡ 0 → count_trailing_zeros (suc w) s ≡ suc (count_trailing_zeros w (s / 2))
unfolding count_trailing_zeros
zeros_even w s e = rw e refl

zeros_odd : (w s : ℕ) → s % 2 ≡ 1 → count_trailing_zeros (suc w) s ≡ 0
unfolding count_trailing_zeros
zeros_odd w s e = rw e refl

pow_suc : (w : ℕ) → 2 ^ suc w ≡ 2 * 2 ^ w
pow_suc w = let e : suc w ≡ 1 + w = omega arith in ap (λ k. 2 ^ k) e ∙ pow-add 2 1 w

-- the lowest bit of an even step is twice that of its half, and that of an odd one is 1
lowest_even : (w s : ℕ) → s % 2 ≡ 0 → lowest_bit (suc w) s ≡ 2 * lowest_bit w (s / 2)
lowest_even w s e = ap (λ j. 2 ^ j) (zeros_even w s e) ∙ pow_suc (count_trailing_zeros w (s / 2))

lowest_odd : (w s : ℕ) → s % 2 ≡ 1 → lowest_bit (suc w) s ≡ 1
lowest_odd w s e = ap (λ j. 2 ^ j) (zeros_odd w s e)

-- ---- the step is a multiple of its lowest bit

abbrev IsMultiple : ℕ → ℕ → Type 0
IsMultiple g s = (m : ℕ) × (s ≡ m * g)

twice : (s h m g q : ℕ) → s ≡ 2 * h + 0 → h ≡ m * g → q ≡ 2 * g → s ≡ m * q
twice s h m g q e f i = grind (arith, e, f, i)

lowest_none : (s : ℕ) → lowest_bit 0 s ≡ 1
unfolding count_trailing_zeros
lowest_none s = refl

once : (s g : ℕ) → g ≡ 1 → s ≡ s * g
once s g e = let i : s ≡ s * 1 = omega arith in i ∙ ap (λ x. s * x) (sym e)

multiple : (w s : ℕ) → IsMultiple (lowest_bit w s) s
multiple zero s = (s, once s (lowest_bit 0 s) (lowest_none s))
multiple (suc w) s = go (multiple w (s / 2)) (parity s)
  where
    go : IsMultiple (lowest_bit w (s / 2)) (s / 2) → (s % 2 ≡ 0) ⊎ (s % 2 ≡ 1) → IsMultiple (lowest_bit (suc w) s) s
    go h (inl e) = (h.0, twice s (s / 2) h.0 (lowest_bit w (s / 2)) (lowest_bit (suc w) s) (halves s ∙ ap (λ r. 2 * (s / 2) + r) e) h.1 (lowest_even w s e))
    go h (inr e) = (s, once s (lowest_bit (suc w) s) (lowest_odd w s e))

joined : (a k m g q r : ℕ) → a ≡ q * g + r → a + k * (m * g) ≡ (q + k * m) * g + r
joined a k m g q r e = grind (arith, e)

alike_after : (a j m k : ℕ) → (a + k * (m * 2 ^ j)) % 2 ^ j ≡ a % 2 ^ j
alike_after a j m k =
    mod_of (a + k * (m * 2 ^ j)) (a / 2 ^ j + k * m) (a % 2 ^ j) j (mod_below a (2 ^ j) (pow_pos j)) (joined a k m (2 ^ j) (a / 2 ^ j) (a % 2 ^ j) (sym (div-add-mod' a (2 ^ j))))

only : (w first step k : ℕ) → IsAlike w step (value_after w first step k) first
only w first step k =
    let h : IsMultiple (lowest_bit w step) step = multiple w step in
    mod_mod (first + k * step) (count_trailing_zeros w step) w (trailing_le w step)
    ∙ ap (λ s. (first + k * s) % lowest_bit w step) h.1
    ∙ alike_after first (count_trailing_zeros w step) h.0 k

-- ---- each such value is taken

-- after so many steps the number is t, and a multiple of 2 to the power w above it
record Reach (w first step t : ℕ) : Type 0 where
  steps : ℕ
  times : ℕ
  is : first + steps * step ≡ times * 2 ^ w + t

-- the highest bit of a number of one more bit
abbrev TopBit : ℕ → ℕ → Type 0
TopBit w t = (b : ℕ) × (b < 2) × (t ≡ b * 2 ^ w + t % 2 ^ w)

few : (q p r t : ℕ) → q * p + r ≡ t → t < 2 * p → q < 2
few zero p r t e h = omega arith
few (suc zero) p r t e h = omega arith
few (suc (suc q)) p r t e h = absurd (grind (arith, e, h))

top_bit : (w t : ℕ) → t < 2 ^ suc w → TopBit w t
top_bit w t h =
    (t / 2 ^ w, few (t / 2 ^ w) (2 ^ w) (t % 2 ^ w) t (div-add-mod' t (2 ^ w)) (subst (λ p. t < p) (pow_suc w) h), sym (div-add-mod' t (2 ^ w)))

glued : (v q b p c l t : ℕ) → v ≡ (2 * q + b) * p + l → t ≡ b * p + l → c ≡ 2 * p → v ≡ q * c + t
glued v q b p c l t e f i = grind (arith, e, f, i)

moved : (f k s n p l : ℕ) → f + k * s ≡ n * p + l → f + (k + p) * s ≡ (n + s) * p + l
moved f k s n p l e = grind (arith, e)

-- by an odd step each value of the width
odd_reach : (w first step t : ℕ) → step % 2 ≡ 1 → t < 2 ^ w → Reach w first step t
odd_reach zero first step t o h = record { steps = 0; times = first; is = omega (arith, h) }
odd_reach (suc w) first step t o h = go (top_bit w t h) (odd_reach w first step (t % 2 ^ w) o (mod_below t (2 ^ w) (pow_pos w)))
  where
    with_bit : (b k n : ℕ) → n % 2 ≡ b → t ≡ b * 2 ^ w + t % 2 ^ w → first + k * step ≡ n * 2 ^ w + t % 2 ^ w → Reach (suc w) first step t
    with_bit b k n e f i =
        let n_is : n ≡ 2 * (n / 2) + b = halves n ∙ ap (λ r. 2 * (n / 2) + r) e in
        record { steps = k; times = n / 2; is = glued (first + k * step) (n / 2) b (2 ^ w) (2 ^ suc w) (t % 2 ^ w) t (i ∙ ap (λ x. x * 2 ^ w + t % 2 ^ w) n_is) f (pow_suc w) }

    choose : (b : TopBit w t) (r : Reach w first step (t % 2 ^ w)) → ((r.times + b.0) % 2 ≡ 0) ⊎ ((r.times + b.0) % 2 ≡ 1) → Reach (suc w) first step t
    choose b r (inl e) = with_bit b.0 r.steps r.times (let l = b.1 in omega arith) b.2 r.is
    choose b r (inr e) = with_bit b.0 (r.steps + 2 ^ w) (r.times + step) (let l = b.1 in omega arith) b.2 (moved first r.steps step r.times (2 ^ w) (t % 2 ^ w) r.is)

    go : TopBit w t → Reach w first step (t % 2 ^ w) → Reach (suc w) first step t
    go b r = choose b r (parity (r.times + b.0))

-- alike by a lowest bit that isn't 1: both are even or both odd, and their halves are alike
alike_halves : (j a b : ℕ) → a % 2 ^ suc j ≡ b % 2 ^ suc j → (a % 2 ≡ b % 2) × (a / 2 % 2 ^ j ≡ b / 2 % 2 ^ j)
alike_halves j a b e =
    let one : suc j ≡ j + 1 = omega arith in
    let x : a % 2 ^ suc j ≡ (a / 2 % 2 ^ j) * 2 + a % 2 = ap (λ k. a % 2 ^ k) one ∙ mod-pow-add a j 1 in
    let y : b % 2 ^ suc j ≡ (b / 2 % 2 ^ j) * 2 + b % 2 = ap (λ k. b % 2 ^ k) one ∙ mod-pow-add b j 1 in
    parts (a / 2 % 2 ^ j) (b / 2 % 2 ^ j) (a % 2) (b % 2) (sym x ∙ e ∙ y) (mod_below a 2 (omega arith)) (mod_below b 2 (omega arith))
  where
    parts : (p q r s : ℕ) → p * 2 + r ≡ q * 2 + s → r < 2 → s < 2 → (r ≡ s) × (p ≡ q)
    parts p q r s e h k = (omega (arith, e, h, k), omega (arith, e, h, k))

doubled : (f t k s n p c fh th sh r : ℕ) → fh + k * sh ≡ n * p + th → f ≡ 2 * fh + r → t ≡ 2 * th + r → s ≡ 2 * sh + 0 → c ≡ 2 * p → f + k * s ≡ n * c + t
doubled f t k s n p c fh th sh r e i j m o = grind (arith, e, i, j, m, o)

half_below : (w t : ℕ) → t < 2 ^ suc w → t / 2 < 2 ^ w
half_below w t h = let e = pow_suc w in let i = halves t in omega (arith, h, e, i)

reach : (w first step t : ℕ) → t < 2 ^ w → IsAlike w step t first → Reach w first step t
reach zero first step t h e = record { steps = 0; times = first; is = omega (arith, h) }
reach (suc w) first step t h e = go (λ a. reach w (first / 2) (step / 2) (t / 2) (half_below w t h) a) (parity step)
  where
    go : (IsAlike w (step / 2) (t / 2) (first / 2) → Reach w (first / 2) (step / 2) (t / 2)) → (step % 2 ≡ 0) ⊎ (step % 2 ≡ 1) → Reach (suc w) first step t
    go more (inl z) =
        let a : (t % 2 ≡ first % 2) × IsAlike w (step / 2) (t / 2) (first / 2) = alike_halves (count_trailing_zeros w (step / 2)) t first (subst (λ j. t % 2 ^ j ≡ first % 2 ^ j) (zeros_even w step z) e) in
        let r : Reach w (first / 2) (step / 2) (t / 2) = more a.1 in
        record {
          steps = r.steps;
          times = r.times;
          is = doubled first t r.steps step r.times (2 ^ w) (2 ^ suc w) (first / 2) (t / 2) (step / 2) (first % 2) r.is (halves first) (halves t ∙ ap (λ x. 2 * (t / 2) + x) a.0) (halves step ∙ ap (λ x. 2 * (step / 2) + x) z) (pow_suc w);
        }
    go more (inr o) = odd_reach (suc w) first step t o h

pub takes_all_alike : (w first step : ℕ) → TakesAllAlike w first step
takes_all_alike w first step = record {
  only = only w first step;
  each = λ x h e. let r : Reach w first step x = reach w first step x h e in (r.steps, mod_of (first + r.steps * step) r.times x w h r.is);
}
