-- Words at the front of a text, read without looking whether what stands between them is as it has to be. All of it is this project's own.
use Rattle.std.specs.Prelude.{ℕ, zero, suc, ◌+◌, ◌-◌, ◌*◌, ◌^◌, min, Bool, ◌||◌, ◌==◌, nat_le, List, [], ◌∷◌, drop, fold, get_or, if◌then◌else◌}
use Rattle.std.specs.List.{prefix_len, take_while}
use Rattle.xt_base.specs.declared.TheConstants.{MAX_WIDTH}
use Rattle.xt_bits.specs.Word.{Word, word}
use Rattle.xt_base.specs.Identifiers.{is_in_word}
use Rattle.xt_base.specs.Identifiers.{is_within}

-- the greatest number that the program reads
abbrev pub greatest : ℕ
greatest = 2 ^ 32 - 1

-- 0 to 9
abbrev pub is_digit : ℕ → Bool
is_digit c = is_within 48 57 c

-- 0 to 9 and a to f
abbrev pub is_hex : ℕ → Bool
is_hex c = is_within 48 57 c || is_within 97 102 c

-- the value of a hexadecimal digit
abbrev pub hex_value : ℕ → ℕ
hex_value c = if nat_le c 57 then c - 48 else c - 87

-- a number with one more digit, at most so much
abbrev pub with_digit : ℕ → ℕ → ℕ → ℕ → ℕ
with_digit most base n d = min most (min most (n * base) + d)

-- the word at the front, and what follows it
abbrev pub word_of : List ℕ → List ℕ
word_of text = take_while is_in_word text

abbrev pub after_word : List ℕ → List ℕ
after_word text = drop (prefix_len is_in_word text) text

-- what follows the decimal digits at the front
abbrev pub after_number : List ℕ → List ℕ
after_number text = drop (prefix_len is_digit text) text

-- the number of hexadecimal digits, at most 64 bits of it
abbrev pub hex_of : List ℕ → ℕ
hex_of digits = fold (λ n c. with_digit (2 ^ 64 - 1) 16 n (hex_value c)) 0 digits

-- what is read where no number is greater than this
module _ (most : ℕ) where
  -- the number of decimal digits
  abbrev pub number_of : List ℕ → ℕ
  number_of digits = fold (λ n c. with_digit most 10 n (c - 48)) 0 digits

  -- the number at the front
  abbrev pub number : List ℕ → ℕ
  number text = number_of (take_while is_digit text)

  -- the width that a range at the front gives, in bits, and what follows it: `[W-1:0] `, or nothing for one bit; 91 is `[`
  abbrev pub range : List ℕ → ℕ
  range text = if get_or text 0 0 == 91 then min most (number (drop 1 text) + 1) else 1

  -- the constant at the front: its width, so many further bytes, and its digits
  abbrev pub constant : ℕ → List ℕ → Word
  constant skipped text = word (min (if nat_le (number text) 1 then 1 else number text) MAX_WIDTH) (hex_of (take_while is_hex (drop skipped (after_number text))))

  -- up to so many widths, each after a blank
  abbrev pub widths : ℕ → List ℕ → List ℕ
  widths zero text = []
  widths (suc count) text = if is_digit (get_or text 1 0) then number (drop 1 text) ∷ widths count (after_number (drop 1 text)) else []

-- what follows a range
abbrev pub after_range : List ℕ → List ℕ
after_range text = if get_or text 0 0 == 91 then drop 4 (after_number (drop 1 text)) else text

-- what follows up to so many widths
abbrev pub after_widths : ℕ → List ℕ → List ℕ
after_widths zero text = text
after_widths (suc count) text = if is_digit (get_or text 1 0) then after_widths count (after_number (drop 1 text)) else text
