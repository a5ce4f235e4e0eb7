-- Identifiers (IEEE 1364-2005, 3.7). Letters and digits are those of ASCII.
use Rattle.std.specs.Prelude.{ℕ, Bool, false, not, ◌&&◌, ◌||◌, nat_le, ◌==◌, List, [], ◌∷◌}
use Rattle.std.specs.List.{list_all}
use Rattle.xt_base.specs.Reserved.{is_reserved}

-- a byte from one to another
abbrev pub is_within : ℕ → ℕ → ℕ → Bool
is_within low high byte = nat_le low byte && nat_le byte high

-- what a word begins with: a letter, of which a is 97, z 122, A 65 and Z 90, or the underscore, 95
abbrev pub begins_word : ℕ → Bool
begins_word byte = is_within 97 122 byte || is_within 65 90 byte || byte == 95

-- what a word goes on with: such a byte, a digit, of which 0 is 48 and 9 is 57, or the dollar sign, 36
abbrev pub is_in_word : ℕ → Bool
is_in_word byte = begins_word byte || is_within 48 57 byte || byte == 36

-- a word: a letter or an underscore, then any such bytes
abbrev pub is_word : List ℕ → Bool
is_word [] = false
is_word (byte ∷ bytes) = begins_word byte && list_all is_in_word bytes

-- an identifier: a word that isn't reserved
abbrev pub is_identifier : List ℕ → Bool
is_identifier name = is_word name && not (is_reserved name)
