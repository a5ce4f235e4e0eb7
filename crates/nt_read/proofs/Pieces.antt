-- Ranges, constants, names and widths that are read as they are written.
use Rattle.std.proofs.Common.{◌≡◌, ℕ, zero, suc, ◌+◌, ◌-◌, ◌*◌, ◌/◌, ◌^◌, ◌≤◌, ◌<◌, ◌==◌, min, Bool, true, false, ◌||◌, List, [], ◌∷◌, ◌++◌, drop, length, get_or, cond, nat_le, refl, sym, ap, ◌∙◌, subst, arith, append_assoc, codes, decimal}
use Rattle.std.specs.List.{prefix_len, take_while, list_all, AllByRecursion}
use Rattle.std.proofs.Math.Nat.{mod-eq_of_lt, pow-suc, pow-le-pow_right}
use Rattle.std.proofs.lemmas.Fmt.{decimal_nonempty}
use Rattle.std.proofs.lemmas.Bool.Decides.{nat_tests}
use Rattle.std.proofs.lemmas.Bool.{eqb-true}
use Rattle.xt_base.specs.declared.TheConstants.{MAX_WIDTH}
use Rattle.xt_bits.specs.Word.{IsKept, Word, word}
use Rattle.xt_base.specs.Identifiers.{begins_word, is_in_word, is_word}
use Rattle.xt_base.specs.Identifiers.{is_within}
use Rattle.nt_core.specs.Forms.{IsWidth}
use Rattle.nt_core.specs.Text.{range_text, hex_text, constant_text, signed_constant_text, width_texts}
use Rattle.nt_read.specs.Words.{is_digit, is_hex, hex_of, number, after_number, range, after_range, constant, word_of, after_word, widths, after_widths}
use Rattle.nt_read.proofs.Numbers.{both, and_is, taken, dropped, decimal_reads, number_at, after_at, hex_reads}

-- pieces one after another
pub flat4 : (a b c d : List ℕ) → a ++ b ++ c ++ d ≡ a ++ (b ++ (c ++ d))
flat4 a b c d = append_assoc (a ++ b) c d ∙ append_assoc a b (c ++ d)

-- sixteen is two to the power of four
powers : (k : ℕ) → 16 ^ k ≡ 2 ^ (4 * k)
powers zero = refl
powers (suc k) =
    let more : 4 * suc k ≡ suc (suc (suc (suc (4 * k)))) = omega arith in
    pow-suc 16 k ∙ sym (ap (λ e. 2 ^ e) more ∙ omega (arith, pow-suc 2 (suc (suc (suc (4 * k)))), pow-suc 2 (suc (suc (4 * k))), pow-suc 2 (suc (4 * k)), pow-suc 2 (4 * k), powers k))

-- a value of a width has no more digits than are written
digits_enough : (w v : ℕ) → v < 2 ^ w → v < 16 ^ ((w + 3) / 4)
digits_enough w v h = subst (λ p. v < p) (sym (powers ((w + 3) / 4))) (omega (arith, h, pow-le-pow_right {n = 2} (omega arith) {i = w} {j = 4 * ((w + 3) / 4)} (omega arith)))

value_small : (w v : ℕ) → w ≤ MAX_WIDTH → v < 2 ^ w → v < 2 ^ 64
value_small w v within h = omega (arith, h, pow-le-pow_right {n = 2} (omega arith) {i = w} {j = 64} within)

first_passes : (p : ℕ → Bool) (ds rest : List ℕ) → 0 < length ds → list_all p ds ≡ true → p (get_or (ds ++ rest) 0 0) ≡ true
first_passes p [] rest some all = absurd (omega (arith, some))
first_passes p (d ∷ ds) rest some all = (both (p d) (list_all p ds) all).0

-- a decimal number begins with a digit
pub head_digit : (n : ℕ) (rest : List ℕ) → n < 2 ^ 64 → is_digit (get_or (decimal n ++ rest) 0 0) ≡ true
head_digit n rest h = first_passes is_digit (decimal n) rest (decimal_nonempty n h) (decimal_reads n n h).1

module _ (most : ℕ) (wide : most < 2 ^ 64) (room : 65536 ≤ most) where
  -- ---- ranges

  pub range_at : (w : ℕ) (name : List ℕ) → IsWidth w → (get_or name 0 0 == 91) ≡ false → range most (range_text w ++ name) ≡ w
  range_at w name width other = go (w == 1) refl
    where
      go : (b : Bool) → (w == 1) ≡ b → range most (cond b [] (codes "[" ++ decimal (w - 1) ++ codes ":0] ") ++ name) ≡ w
      go true h = ap (λ b. cond b (min most (number most (drop 1 name) + 1)) 1) other ∙ sym (eqb-true w 1 h)
      go false h =
          ap (λ t. min most (number most t + 1)) (append_assoc (decimal (w - 1)) (codes ":0] ") name)
          ∙ ap (λ k. min most (k + 1)) (number_at most wide (w - 1) (codes ":0] " ++ name) (omega (arith, width.1, room)) refl)
          ∙ grind (arith, width.0, width.1, room)

  pub after_range_at : (w : ℕ) (name : List ℕ) → IsWidth w → (get_or name 0 0 == 91) ≡ false → after_range (range_text w ++ name) ≡ name
  after_range_at w name width other = go (w == 1) refl
    where
      go : (b : Bool) → (w == 1) ≡ b → after_range (cond b [] (codes "[" ++ decimal (w - 1) ++ codes ":0] ") ++ name) ≡ name
      go true h = ap (λ b. cond b (drop 4 (after_number (drop 1 name))) name) other
      go false h =
          ap (λ t. drop 4 (after_number t)) (append_assoc (decimal (w - 1)) (codes ":0] ") name)
          ∙ ap (drop 4) (after_at most wide (w - 1) (codes ":0] " ++ name) (omega (arith, width.1, room)) refl)

  -- ---- constants

  in_range : (w : ℕ) → IsWidth w → min (cond (nat_le w 1) 1 w) MAX_WIDTH ≡ w
  in_range w width = go (nat_le w 1) refl
    where
      go : (b : Bool) → nat_le w 1 ≡ b → min (cond b 1 w) MAX_WIDTH ≡ w
      go true h = grind (arith, nat_tests, h, width.0, width.1)
      go false h = grind (arith, width.0, width.1)

  -- behind the width stand so many bytes, and then the digits
  constant_from : (skipped : ℕ) (quote : List ℕ) (k : Word) (rest : List ℕ) → IsKept k.width k.value → prefix_len is_digit (quote ++ (hex_text k ++ rest)) ≡ 0 → drop skipped (quote ++ (hex_text k ++ rest)) ≡ hex_text k ++ rest → prefix_len is_hex rest ≡ 0
      → constant most skipped (decimal k.width ++ (quote ++ (hex_text k ++ rest))) ≡ k
  constant_from skipped quote k rest kept stop behind end =
      let small : k.width ≤ most = omega (arith, kept.1, room) in
      let wide_value : k.value < 2 ^ 64 = value_small k.width k.value kept.1 kept.2 in
      let digits : (hex_of (hex_text k) ≡ k.value) × (list_all is_hex (hex_text k) ≡ true) = hex_reads ((k.width + 3) / 4) k.value (digits_enough k.width k.value kept.2) wide_value in
      ap (λ n. word (min (cond (nat_le n 1) 1 n) MAX_WIDTH) (hex_of (take_while is_hex (drop skipped (after_number (decimal k.width ++ (quote ++ (hex_text k ++ rest)))))))) (number_at most wide k.width (quote ++ (hex_text k ++ rest)) small stop)
      ∙ ap (λ w. word w (hex_of (take_while is_hex (drop skipped (after_number (decimal k.width ++ (quote ++ (hex_text k ++ rest)))))))) (in_range k.width (kept.0, kept.1))
      ∙ ap (λ t. word k.width (hex_of (take_while is_hex (drop skipped t)))) (after_at most wide k.width (quote ++ (hex_text k ++ rest)) small stop)
      ∙ ap (λ t. word k.width (hex_of (take_while is_hex t))) behind
      ∙ ap (λ t. word k.width (hex_of t)) (taken is_hex (hex_text k) rest digits.1 end)
      ∙ ap (λ v. word k.width v) digits.0
      ∙ ap (λ v. record { width = k.width; value = v }) (mod-eq_of_lt kept.2)

  pub constant_at : (k : Word) (rest : List ℕ) → IsKept k.width k.value → prefix_len is_hex rest ≡ 0 → constant most 2 (constant_text k ++ rest) ≡ k
  constant_at k rest kept end =
      ap (constant most 2) (flat4 (decimal k.width) (codes "'h") (hex_text k) rest)
      ∙ constant_from 2 (codes "'h") k rest kept refl refl end

  pub signed_constant_at : (k : Word) (rest : List ℕ) → IsKept k.width k.value → prefix_len is_hex rest ≡ 0 → constant most 3 (signed_constant_text k ++ rest) ≡ k
  signed_constant_at k rest kept end =
      ap (constant most 3) (flat4 (decimal k.width) (codes "'sh") (hex_text k) rest)
      ∙ constant_from 3 (codes "'sh") k rest kept refl refl end

  -- ---- widths

  behind_width : (ws rest : List ℕ) → prefix_len is_digit rest ≡ 0 → prefix_len is_digit (width_texts ws ++ rest) ≡ 0
  behind_width [] rest stop = stop
  behind_width (w ∷ ws) rest stop = refl

  one_more : (w : ℕ) (ws rest : List ℕ) → width_texts (w ∷ ws) ++ rest ≡ 32 ∷ (decimal w ++ (width_texts ws ++ rest))
  one_more w ws rest = ap (λ t. 32 ∷ t) (append_assoc (decimal w) (width_texts ws) rest)

  pub widths_at : (count : ℕ) (ws : List ℕ) (rest : List ℕ) → length ws ≤ count → AllByRecursion IsWidth ws → is_digit (get_or rest 1 0) ≡ false → prefix_len is_digit rest ≡ 0
      → (widths most count (width_texts ws ++ rest) ≡ ws) × (after_widths count (width_texts ws ++ rest) ≡ rest)
  widths_at zero [] rest few each end stop = (refl, refl)
  widths_at zero (w ∷ ws) rest few each end stop = absurd (omega (arith, few))
  widths_at (suc count) [] rest few each end stop = (
    ap (λ b. cond b (number most (drop 1 rest) ∷ widths most count (after_number (drop 1 rest))) []) end,
    ap (λ b. cond b (after_widths count (after_number (drop 1 rest))) rest) end,
  )
  widths_at (suc count) (w ∷ ws) rest few each end stop =
      let tail : List ℕ = width_texts ws ++ rest in
      let small : w ≤ most = omega (arith, each.0.1, room) in
      let is_one : is_digit (get_or (decimal w ++ tail) 0 0) ≡ true = head_digit w tail (omega (arith, small, wide)) in
      let value : number most (decimal w ++ tail) ≡ w = number_at most wide w tail small (behind_width ws rest stop) in
      let after : after_number (decimal w ++ tail) ≡ tail = after_at most wide w tail small (behind_width ws rest stop) in
      let others : (widths most count tail ≡ ws) × (after_widths count tail ≡ rest) = widths_at count ws rest (omega (arith, few)) each.1 end stop in (
        ap (widths most (suc count)) (one_more w ws rest)
            ∙ ap (λ b. cond b (number most (decimal w ++ tail) ∷ widths most count (after_number (decimal w ++ tail))) []) is_one
            ∙ ap (λ k. k ∷ widths most count (after_number (decimal w ++ tail))) value
            ∙ ap (λ t. w ∷ widths most count t) after ∙ ap (λ l. w ∷ l) others.0,
        ap (after_widths (suc count)) (one_more w ws rest)
            ∙ ap (λ b. cond b (after_widths count (after_number (decimal w ++ tail))) (32 ∷ (decimal w ++ tail))) is_one
            ∙ ap (after_widths count) after ∙ others.1,
      )

-- ---- words

letter_in_word : (c : ℕ) → begins_word c ≡ true → is_in_word c ≡ true
letter_in_word c h = ap (λ b. b || is_within 48 57 c || c == 36) h

pub word_bytes : (name : List ℕ) → is_word name ≡ true → list_all is_in_word name ≡ true
word_bytes [] h = cc
word_bytes (c ∷ cs) h =
    let parts : (begins_word c ≡ true) × (list_all is_in_word cs ≡ true) = both (begins_word c) (list_all is_in_word cs) h in
    and_is (is_in_word c) (list_all is_in_word cs) (letter_in_word c parts.0) parts.1

pub word_at : (name rest : List ℕ) → is_word name ≡ true → prefix_len is_in_word rest ≡ 0 → (word_of (name ++ rest) ≡ name) × (after_word (name ++ rest) ≡ rest)
word_at name rest word stop = (taken is_in_word name rest (word_bytes name word) stop, dropped is_in_word name rest (word_bytes name word) stop)
