-- The values of number tokens, as they are read byte by byte.
use Rattle.std.proofs.Common.{◌≡◌, ◌≤◌, ◌%◌, ◌^◌, ℕ, List, Option, Some, None, slice_get, sym, ap, subst, ◌∙◌}
use Rattle.std.specs.Prelude.{nat_le, ◌&&◌, option_map}
use Rattle.std.proofs.lemmas.Bool.{leb-true, and_parts}
use Rattle.xt_base.specs.declared.TheConstants.{MAX_WIDTH}
use Rattle.xt_bits.specs.Word.{Word, word}
use Rattle.xt_bits.proofs.Numbers.{mod_max}
use Rattle.xt_compile.specs.declared.first.source.Sum.{Sum}
use Rattle.xt_compile.specs.declared.first.source.Term.TheVariants.{Number}
use Rattle.vl_lex.specs.Numbers.{number_of}
use Rattle.xt_compile.specs.first.Tree.{◌>>=◌, width_of, based_of, alone, sized_sum, number_sum}
use Rattle.xt_compile.proofs.first_form.Somes.{some_one, none_some, test_some, bind_at}

-- ---- widths

pub record FitsWidth (n w : ℕ) : Type 0 where
  pub is : n ≡ w
  pub positive : 1 ≤ n
  pub within : n ≤ MAX_WIDTH

pub width_fits : (n w : ℕ) → width_of n ≡ Some w → FitsWidth n w
width_fits n w e =
    let t = test_some (nat_le 1 n && nat_le n MAX_WIDTH) (Some n) w e in
    let parts = and_parts (nat_le 1 n) (nat_le n MAX_WIDTH) t.holds in
    record { is = some_one t.rest; positive = leb-true 1 n parts.0; within = leb-true n MAX_WIDTH parts.1 }

-- ---- numbers of a size

kept_sum : (size based : Option ℕ) (width v : ℕ) → width ≤ MAX_WIDTH → size ≡ Some width → option_map (λ n. n % 2 ^ 64) based ≡ Some v → sized_sum size based ≡ Some (alone (Number (word width v)) width)
kept_sum size None width v within is e = absurd (none_some e)
kept_sum size (Some n) width v within is e =
    ap (λ (o : Option ℕ). sized_sum o (Some n)) is
    ∙ ap (λ (k : ℕ). Some (alone (Number (record { width = width; value = k })) width)) (sym (mod_max n width within) ∙ ap (λ (k : ℕ). k % 2 ^ width) (some_one e))

-- the number that two tokens spell, whose value is read modulo 2 to the power of 64
pub number_read : (names : List (List ℕ)) (size value : ℕ) (bits digits : List ℕ) (width v : ℕ) (based : Option ℕ) (number : Word) (sum : Sum) → slice_get names size ≡ Some bits → slice_get names value ≡ Some digits →
    width_of (number_of 10 bits) ≡ Some width → based ≡ option_map (λ n. n % 2 ^ 64) (based_of digits) → based ≡ Some v → number ≡ word width v → sum ≡ alone (Number number) width → number_sum names size value ≡ Some sum
number_read names size value bits digits width v based number sum at_size at_value is told some made all =
    let fits = width_fits (number_of 10 bits) width is in
    bind_at (slice_get names size) (λ bits. slice_get names value >>= λ digits. sized_sum (width_of (number_of 10 bits)) (based_of digits)) bits at_size
    ∙ bind_at (slice_get names value) (λ digits. sized_sum (width_of (number_of 10 bits)) (based_of digits)) digits at_value
    ∙ kept_sum (width_of (number_of 10 bits)) (based_of digits) width v (subst (λ (w : ℕ). w ≤ MAX_WIDTH) fits.is fits.within) is (sym told ∙ some)
    ∙ ap (λ (n : Word). Some (alone (Number n) width)) (sym made) ∙ ap (λ (s : Sum). Some s) (sym all)
