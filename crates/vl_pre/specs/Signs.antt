-- The bytes of a source, by what they are for.
use Rattle.std.specs.Prelude.{ℕ, Bool, ◌||◌, ◌&&◌, ◌==◌, nat_le}

-- the end of a line
abbrev pub is_line_feed : ℕ → Bool
is_line_feed byte = byte == 10

-- tab, form feed and space (IEEE 1364-2005, 3.2), and the carriage return, which is this project's own; a line feed is no blank here
abbrev pub is_blank : ℕ → Bool
is_blank byte = byte == 9 || byte == 12 || byte == 13 || byte == 32

-- what may stand outside comments: this project's own
abbrev pub is_allowed : ℕ → Bool
is_allowed byte = byte == 9 || byte == 10 || byte == 12 || byte == 13 || (nat_le 32 byte && nat_le byte 126)
