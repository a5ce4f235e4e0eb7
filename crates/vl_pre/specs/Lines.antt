-- A line with its continuations, as it is read from a place on. This project's own.
use Rattle.std.specs.Prelude.{◌≡◌, ◌≤◌, ◌+◌, ℕ, true, false, List, drop, Option, Some, None}
use Rattle.std.specs.List.{prefix_len}
use Rattle.vl_pre.specs.Pieces.{Piece, is_byte}
use Rattle.vl_pre.specs.Macros.{begins_with, line_from}
use Rattle.vl_pre.specs.Cursors.{left, IsWithin}
use Rattle.vl_pre.specs.declared.pieces.Cursor.{Cursor}

-- the pieces of the line from a place on
abbrev pub in_line : List ℕ → Cursor → List Piece
in_line text cursor = (line_from 0 (left text cursor)).pieces

-- the later pieces are some of the earlier ones, with the same end of the line
pub record GoesOn (earlier later : List Piece) : Type 0 where
  pub taken : ℕ
  pub dropped : later ≡ drop taken earlier
  pub size : (line_from 0 earlier).size ≡ taken + (line_from 0 later).size

-- how many carriage returns come first
abbrev pub returns : List Piece → ℕ
returns pieces = prefix_len (λ p. is_byte 13 p) pieces

-- the place behind the end of the line, where it comes behind carriage returns alone
abbrev pub IsLineEnd : List ℕ → Cursor → Option Cursor → Type 0
IsLineEnd text cursor None = begins_with 10 (drop (returns (left text cursor)) (left text cursor)) ≡ false
IsLineEnd text cursor (Some behind) =
    (begins_with 10 (drop (returns (left text cursor)) (left text cursor)) ≡ true)
    × (left text behind ≡ drop (returns (left text cursor) + 1) (left text cursor))
    × IsWithin text behind
    × (cursor.at ≤ behind.at)
