-- The values of number tokens, as they are read byte by byte.
use Rattle.std.proofs.Common.{◌≡◌, ◌<◌, ◌+◌, ◌*◌, ◌%◌, ◌^◌, ◌++◌, ℕ, List, [], ◌∷◌, Bool, true, false, cond, length, take, get_or, refl, sym, ap, ◌∙◌}
use Rattle.std.specs.Prelude.{nat_lt, fold}
use Rattle.std.specs.Char.{digit_value}
use Rattle.std.proofs.lemmas.List.{take_more}
use Rattle.std.proofs.lemmas.List.Elements.{filter-append}
use Rattle.std.proofs.lemmas.List.Sums.{fold-append}
use Rattle.std.proofs.lemmas.Nat.{mul-mod_first}
use Rattle.std.proofs.Math.Nat.{mod-add-mod}
use Rattle.vl_lex.specs.Numbers.{digits_of, number_of}

-- a number and one byte more
abbrev pub with_byte : ℕ → ℕ → ℕ → ℕ
with_byte radix n byte = cond (nat_lt (digit_value byte) 16) (n * radix + digit_value byte) n

one_byte : (radix n byte : ℕ) → fold (λ n byte. n * radix + digit_value byte) n (digits_of (byte ∷ [])) ≡ with_byte radix n byte
one_byte radix n byte = by_test (nat_lt (digit_value byte) 16)
  where
    by_test : (b : Bool) → fold (λ n byte. n * radix + digit_value byte) n (cond b (byte ∷ []) []) ≡ cond b (n * radix + digit_value byte) n
    by_test true = refl
    by_test false = refl

number_push : (radix : ℕ) (bs : List ℕ) (byte : ℕ) → number_of radix (bs ++ byte ∷ []) ≡ with_byte radix (number_of radix bs) byte
number_push radix bs byte =
    ap (fold (λ n b. n * radix + digit_value b) 0) (filter-append (λ b. nat_lt (digit_value b) 16) bs (byte ∷ []))
    ∙ fold-append (λ n b. n * radix + digit_value b) 0 (digits_of bs) (digits_of (byte ∷ []))
    ∙ one_byte radix (number_of radix bs) byte

number_more : (radix : ℕ) (bs : List ℕ) (i d : ℕ) → i < length bs → number_of radix (take (i + 1) bs) ≡ with_byte radix (number_of radix (take i bs)) (get_or bs i d)
number_more radix bs i d h = ap (number_of radix) (take_more bs i d h) ∙ number_push radix (take i bs) (get_or bs i d)

wrapped_sum : (n r digit m : ℕ) → (n % m * r + digit) % m ≡ (n * r + digit) % m
wrapped_sum n r digit m = sym (mod-add-mod (n % m * r) m digit) ∙ ap (λ (k : ℕ). (k + digit) % m) (mul-mod_first n r m) ∙ mod-add-mod (n * r) m digit

wrapped_more : (n r digit : ℕ) (b : Bool) → cond b ((n % 2 ^ 64 * r + digit) % 2 ^ 64) (n % 2 ^ 64) ≡ cond b (n * r + digit) n % 2 ^ 64
wrapped_more n r digit true = wrapped_sum n r digit (2 ^ 64)
wrapped_more n r digit false = refl

-- a number modulo 2 to the power of 64
pub wrapped_next : (radix : ℕ) (bs : List ℕ) (i d value result : ℕ) → i < length bs → value ≡ number_of radix (take i bs) % 2 ^ 64
    → result ≡ cond (nat_lt (digit_value (get_or bs i d)) 16) ((value * radix + digit_value (get_or bs i d)) % 2 ^ 64) value → result ≡ number_of radix (take (i + 1) bs) % 2 ^ 64
wrapped_next radix bs i d value result h is e =
    e ∙ ap (λ (v : ℕ). cond (nat_lt (digit_value (get_or bs i d)) 16) ((v * radix + digit_value (get_or bs i d)) % 2 ^ 64) v) is
    ∙ wrapped_more (number_of radix (take i bs)) radix (digit_value (get_or bs i d)) (nat_lt (digit_value (get_or bs i d)) 16)
    ∙ ap (λ (v : ℕ). v % 2 ^ 64) (sym (number_more radix bs i d h))
