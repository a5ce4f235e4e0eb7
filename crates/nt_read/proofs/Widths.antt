-- Widths that stand one after another.
use Rattle.std.proofs.Common.{◌≡◌, ◌≢◌, ℕ, zero, suc, ◌-◌, true, false, List, [], ◌∷◌, ◌++◌, drop, get_or, refl, sym, ap, ◌∙◌, arith, append_assoc, cond}
use Rattle.nt_read.specs.Words.{is_digit, number, after_number, widths, after_widths}

less : (k : ℕ) → suc k - 1 ≡ k
less k = omega arith

pub widths_step : (most count : ℕ) (text : List ℕ) → count ≢ 0 → is_digit (get_or text 1 0) ≡ true → widths most count text ≡ number most (drop 1 text) ∷ widths most (count - 1) (after_number (drop 1 text))
widths_step most zero text h e = absurd (h refl)
widths_step most (suc k) text h e = ap (λ b. cond b (number most (drop 1 text) ∷ widths most k (after_number (drop 1 text))) []) e ∙ ap (λ j. number most (drop 1 text) ∷ widths most j (after_number (drop 1 text))) (sym (less k))

pub after_step : (count : ℕ) (text : List ℕ) → count ≢ 0 → is_digit (get_or text 1 0) ≡ true → after_widths count text ≡ after_widths (count - 1) (after_number (drop 1 text))
after_step zero text h e = absurd (h refl)
after_step (suc k) text h e = ap (λ b. cond b (after_widths k (after_number (drop 1 text))) text) e ∙ ap (λ j. after_widths j (after_number (drop 1 text))) (sym (less k))

pub widths_none : (most count : ℕ) (text : List ℕ) → is_digit (get_or text 1 0) ≡ false → widths most count text ≡ []
widths_none most zero text e = refl
widths_none most (suc k) text e = ap (λ b. cond b (number most (drop 1 text) ∷ widths most k (after_number (drop 1 text))) []) e

pub after_none : (count : ℕ) (text : List ℕ) → is_digit (get_or text 1 0) ≡ false → after_widths count text ≡ text
after_none zero text e = refl
after_none (suc k) text e = ap (λ b. cond b (after_widths k (after_number (drop 1 text))) text) e

-- a width was put, and the rest behind it
pub widths_put : (most count : ℕ) (text old : List ℕ) → count ≢ 0 → is_digit (get_or text 1 0) ≡ true → (old ++ number most (drop 1 text) ∷ []) ++ widths most (count - 1) (after_number (drop 1 text)) ≡ old ++ widths most count text
widths_put most count text old h e = append_assoc old (number most (drop 1 text) ∷ []) (widths most (count - 1) (after_number (drop 1 text))) ∙ ap (λ ws. old ++ ws) (sym (widths_step most count text h e))
