-- The values of number tokens (IEEE 1364-2005, 3.5.1).
use Rattle.std.specs.Prelude.{ℕ, ◌+◌, ◌-◌, ◌*◌, ◌%◌, ◌^◌, min, nat_lt, Bool, false, List, [], ◌∷◌, fold, unwrap_or, if◌then◌else◌}
use Rattle.std.specs.Char.{digit_value}
use Rattle.std.specs.List.{filter}
use Rattle.vl_lex.specs.Bytes.{is_sign, radix_of}
use Rattle.vl_lex.specs.declared.digits.BasedValue.{BasedValue}

-- the digits among bytes; `_` and blanks are none, and letters stand for 10 to 15 in either case
abbrev pub digits_of : List ℕ → List ℕ
digits_of bytes = filter (λ byte. nat_lt (digit_value byte) 16) bytes

-- the number that digits make to a radix; a decimal number is that to radix 10
abbrev pub number_of : ℕ → List ℕ → ℕ
number_of radix bytes = fold (λ n byte. n * radix + digit_value byte) 0 (digits_of bytes)

-- what a based number says: whether it is signed, its radix, and its value before it is cut to its size
pub record BasedNumber : Type 0 where
  pub signed : Bool
  pub radix : ℕ
  pub value : ℕ

-- a base and digits; the radix of what is no base is told as 2
abbrev pub based_digits : Bool → List ℕ → BasedNumber
based_digits signed [] = record { signed = signed; radix = 2; value = 0 }
based_digits signed (base ∷ digits) =
    let radix = unwrap_or (radix_of base) 2 in
    record { signed = signed; radix = radix; value = number_of radix digits }

-- a sign or none, a base and digits
abbrev pub behind_quote : List ℕ → BasedNumber
behind_quote [] = based_digits false []
behind_quote (b ∷ bytes) = if is_sign b then based_digits (is_sign b) bytes else based_digits (is_sign b) (b ∷ bytes)

-- a quote, a sign or none, a base and digits
abbrev pub based_number : List ℕ → BasedNumber
based_number [] = behind_quote []
based_number (quote ∷ bytes) = behind_quote bytes

-- what is kept of it in 64 bits: its lowest bits, and the number itself up to the greatest
abbrev pub kept_number : BasedNumber → BasedValue
kept_number n = record { signed = n.signed; radix = n.radix; low = n.value % 2 ^ 64; capped = min n.value (2 ^ 64 - 1) }
