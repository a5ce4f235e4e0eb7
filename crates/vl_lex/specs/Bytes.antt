-- What single bytes are in a token.
use Rattle.std.specs.Prelude.{◌==◌, ◌||◌, ℕ, Bool, Option, Some, None, not, if◌then◌else◌}
use Rattle.std.specs.Char.{is_digit}

-- blanks and line feeds (IEEE 1364-2005, 3.2; the carriage return is this project's): tab, line feed, form feed, carriage return, blank
abbrev pub is_blank : ℕ → Bool
is_blank b = b == 9 || b == 10 || b == 12 || b == 13 || b == 32

-- digits and `_` go on with a number (3.5.1)
abbrev pub is_in_number : ℕ → ℕ → Bool
is_in_number radix b = is_digit b radix || b == 95

-- all but the closing `"` and the line's end stand in a string (3.6, without escapes, which are left out)
abbrev pub is_in_string : ℕ → Bool
is_in_string b = not (b == 34 || b == 10)

-- `s` or `S` makes a based number signed (3.5.1)
abbrev pub is_sign : ℕ → Bool
is_sign b = b == 115 || b == 83

-- the radix that a base stands for, in either case (3.5.1): b, o, d or h
abbrev pub radix_of : ℕ → Option ℕ
radix_of b =
    if b == 98 || b == 66 then Some 2
    else (if b == 111 || b == 79 then Some 8
    else (if b == 100 || b == 68 then Some 10
    else (if b == 104 || b == 72 then Some 16
    else None)))
