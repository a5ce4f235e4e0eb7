-- Hexadecimal digits, one more at a time.
use Rattle.std.proofs.Common.{◌≡◌, ℕ, zero, suc, ◌-◌, ◌/◌, ◌%◌, ◌<◌, ◌≢◌, List, [], ◌∷◌, ◌++◌, false, codes, decimal, eqb, refl, ap, sym, arith}
use Rattle.std.proofs.lemmas.Bool.{ne_eqb}
use Rattle.std.specs.Fmt.{digit_glyph}
use Rattle.nt_core.specs.Text.{hex_digits, range_text}

-- the lowest digit stands last
pub hex_more : (count n d : ℕ) → 0 < count → d ≡ digit_glyph false (n % 16) → hex_digits (count - 1) (n / 16) ++ d ∷ [] ≡ hex_digits count n
hex_more zero n d some is = absurd (omega (arith, some))
hex_more (suc k) n d some is =
    let less : suc k - 1 ≡ k = omega arith in
    rw (less, is)

-- the range of more than one bit
pub range_wide : (w : ℕ) → w ≢ 1 → codes "[" ++ decimal (w - 1) ++ codes ":0] " ≡ range_text w
range_wide w wide = let other : eqb w 1 ≡ false = ne_eqb w 1 wide in rw other refl
