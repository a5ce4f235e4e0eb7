-- Numbers that are read as they are written.
use Rattle.std.proofs.Common.{◌≡◌, ℕ, zero, suc, ◌+◌, ◌-◌, ◌*◌, ◌/◌, ◌%◌, ◌^◌, ◌≤◌, ◌<◌, min, Bool, true, false, ◌&&◌, List, [], ◌∷◌, ◌++◌, take, drop, length, cond, nat_lt, refl, ap, ◌∙◌, subst, arith, decimal}
use Rattle.std.specs.List.{prefix_len, take_while, list_all}
use Rattle.std.specs.Fmt.{digit_glyph}
use Rattle.std.proofs.Math.Seq.{take-append_seam, drop-append_seam}
use Rattle.std.proofs.Math.Nat.{pow-suc}
use Rattle.std.proofs.lemmas.List.Sums.{fold-append}
use Rattle.std.proofs.lemmas.List.Folds.{list_all-append}
use Rattle.std.proofs.lemmas.Bool.Decides.{nat_tests}
use Rattle.std.proofs.lemmas.Fmt.{decimal_by_steps}
use Rattle.nt_core.specs.Text.{hex_digits}
use Rattle.nt_read.specs.Words.{is_digit, is_hex, hex_value, with_digit, hex_of, number_of, number, after_number}

-- both of two tests
pub both : (a b : Bool) → (a && b) ≡ true → (a ≡ true) × (b ≡ true)
both true b h = (refl, h)
both false b h = cc

pub and_is : (a b : Bool) → a ≡ true → b ≡ true → (a && b) ≡ true
and_is true b h k = k
and_is false b h k = cc

-- ---- what passes a test up to where it stops

pub run_is : (p : ℕ → Bool) (ds rest : List ℕ) → list_all p ds ≡ true → prefix_len p rest ≡ 0 → prefix_len p (ds ++ rest) ≡ length ds
run_is p [] rest all stop = stop
run_is p (d ∷ ds) rest all stop =
    let parts : (p d ≡ true) × (list_all p ds ≡ true) = both (p d) (list_all p ds) all in
    ap (λ b. cond b (1 + prefix_len p (ds ++ rest)) 0) parts.0 ∙ ap (λ n. 1 + n) (run_is p ds rest parts.1 stop) ∙ omega arith

pub taken : (p : ℕ → Bool) (ds rest : List ℕ) → list_all p ds ≡ true → prefix_len p rest ≡ 0 → take_while p (ds ++ rest) ≡ ds
taken p ds rest all stop = ap (λ n. take n (ds ++ rest)) (run_is p ds rest all stop) ∙ take-append_seam ds rest

pub dropped : (p : ℕ → Bool) (ds rest : List ℕ) → list_all p ds ≡ true → prefix_len p rest ≡ 0 → drop (prefix_len p (ds ++ rest)) (ds ++ rest) ≡ rest
dropped p ds rest all stop = ap (λ n. drop n (ds ++ rest)) (run_is p ds rest all stop) ∙ drop-append_seam ds rest

-- ---- a digit more

pub digit_more : (most base n d : ℕ) → n * base + d ≤ most → with_digit most base n d ≡ n * base + d
digit_more most base n d h =
    let inner : min most (n * base) ≡ n * base = grind (arith, h) in
    ap (λ k. min most (k + d)) inner ∙ grind (arith, h)

-- ---- decimal numbers

abbrev pub Reads : ℕ → ℕ → List ℕ → Type 0
Reads most n ds = (n ≤ most → number_of most ds ≡ n) × (list_all is_digit ds ≡ true)

digit_is : (d : ℕ) → d < 10 → is_digit (48 + d) ≡ true
digit_is d h = grind (arith, nat_tests, h)

one_digit : (most n : ℕ) → n < 10 → Reads most n ((48 + n) ∷ [])
one_digit most n h = (
  λ fits. digit_more most 10 0 (48 + n - 48) (omega (arith, fits)) ∙ omega arith,
  and_is (is_digit (48 + n)) true (digit_is n h) refl,
)

more_digits : (most n : ℕ) (ds : List ℕ) → 10 ≤ n → Reads most (n / 10) ds → Reads most n (ds ++ (48 + n % 10) ∷ [])
more_digits most n ds h before = (
  λ fits.
      fold-append (λ k c. with_digit most 10 k (c - 48)) 0 ds ((48 + n % 10) ∷ [])
      ∙ ap (λ k. with_digit most 10 k (48 + n % 10 - 48)) (before.0 (omega (arith, fits)))
      ∙ digit_more most 10 (n / 10) (48 + n % 10 - 48) (omega (arith, fits)) ∙ omega arith,
  list_all-append is_digit ds ((48 + n % 10) ∷ []) ∙ and_is _ _ before.1 (and_is (is_digit (48 + n % 10)) true (digit_is (n % 10) (omega arith)) refl),
)

pub decimal_reads : (most n : ℕ) → n < 2 ^ 64 → Reads most n (decimal n)
decimal_reads most n h = decimal_by_steps (Reads most) (one_digit most) (more_digits most) n h

module _ (most : ℕ) (wide : most < 2 ^ 64) where
  pub number_at : (n : ℕ) (rest : List ℕ) → n ≤ most → prefix_len is_digit rest ≡ 0 → number most (decimal n ++ rest) ≡ n
  number_at n rest fits stop =
      let reads : Reads most n (decimal n) = decimal_reads most n (omega (arith, fits, wide)) in
      ap (number_of most) (taken is_digit (decimal n) rest reads.1 stop) ∙ reads.0 fits

  pub after_at : (n : ℕ) (rest : List ℕ) → n ≤ most → prefix_len is_digit rest ≡ 0 → after_number (decimal n ++ rest) ≡ rest
  after_at n rest fits stop = dropped is_digit (decimal n) rest (decimal_reads most n (omega (arith, fits, wide))).1 stop

-- ---- hexadecimal numbers

hex_digit_is : (d : ℕ) → d < 16 → (is_hex (digit_glyph false d) ≡ true) × (hex_value (digit_glyph false d) ≡ d)
hex_digit_is d h = go (nat_lt d 10) refl
  where
    go : (b : Bool) → nat_lt d 10 ≡ b → (is_hex (cond b (48 + d) (87 + d)) ≡ true) × (hex_value (cond b (48 + d) (87 + d)) ≡ d)
    go true k = (grind (arith, nat_tests, h, k), grind (arith, nat_tests, h, k))
    go false k = (grind (arith, nat_tests, h, k), grind (arith, nat_tests, h, k))

pub hex_reads : (count n : ℕ) → n < 16 ^ count → n < 2 ^ 64 → (hex_of (hex_digits count n) ≡ n) × (list_all is_hex (hex_digits count n) ≡ true)
hex_reads zero n h wide = (omega (arith, h), refl)
hex_reads (suc count) n h wide =
    let less : n < 16 ^ count * 16 = subst (λ k. n < k) (pow-suc 16 count) h in
    let before : (hex_of (hex_digits count (n / 16)) ≡ n / 16) × (list_all is_hex (hex_digits count (n / 16)) ≡ true) = hex_reads count (n / 16) (omega (arith, less)) (omega (arith, wide)) in
    let digit : (is_hex (digit_glyph false (n % 16)) ≡ true) × (hex_value (digit_glyph false (n % 16)) ≡ n % 16) = hex_digit_is (n % 16) (omega arith) in (
      fold-append (λ k c. with_digit (2 ^ 64 - 1) 16 k (hex_value c)) 0 (hex_digits count (n / 16)) (digit_glyph false (n % 16) ∷ [])
          ∙ ap (λ k. with_digit (2 ^ 64 - 1) 16 k (hex_value (digit_glyph false (n % 16)))) before.0
          ∙ ap (λ d. with_digit (2 ^ 64 - 1) 16 (n / 16) d) digit.1
          ∙ digit_more (2 ^ 64 - 1) 16 (n / 16) (n % 16) (omega (arith, wide)) ∙ omega arith,
      list_all-append is_hex (hex_digits count (n / 16)) (digit_glyph false (n % 16) ∷ []) ∙ and_is _ _ before.1 (and_is _ true digit.0 refl),
    )
