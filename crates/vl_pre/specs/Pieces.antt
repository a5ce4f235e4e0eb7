-- The pieces of a text. All of it is this project's own, but for what an identifier and a string are.
use Rattle.std.specs.Prelude.{ℕ, zero, suc, ◌+◌, ◌-◌, ◌==◌, ◌&&◌, ◌||◌, not, Bool, true, false, List, [], ◌∷◌, ◌++◌, length, take, drop, slice_index, if◌then◌else◌}
use Rattle.std.specs.List.{prefix_len}
use Rattle.xt_base.specs.Identifiers.{begins_word, is_in_word}
use Rattle.vl_pre.specs.Signs.{is_blank, is_line_feed}
use Rattle.vl_pre.specs.Clean.{begins}
use Rattle.vl_pre.specs.Text.{line_after}
use Rattle.vl_pre.specs.declared.pieces.Kind.{Kind}
use Rattle.vl_pre.specs.declared.pieces.Kind.TheVariants.{Word, Backquote, Identifier, Quoted, Single}

-- a piece: the line on which it stands, what it is, and its bytes
pub record Piece : Type 0 where
  pub line : ℕ
  pub kind : Kind
  pub bytes : List ℕ

-- whether an identifier begins here (IEEE 1364-2005, 3.7)
abbrev pub is_at_word : List ℕ → Bool
is_at_word [] = false
is_at_word (byte ∷ bytes) = begins_word byte

-- what stands in a string (IEEE 1364-2005, 3.6, without escapes, which are left out): anything but its end, on its line
abbrev pub is_inside : ℕ → Bool
is_inside byte = not (byte == 34) && not (byte == 10)

-- whether a string that began is ended on its line
abbrev pub is_closed : List ℕ → Bool
is_closed bytes = begins 34 (drop (prefix_len is_inside bytes) bytes)

-- what a piece is that begins with a byte
abbrev pub kind_at : ℕ → List ℕ → Kind
kind_at byte bytes =
    if byte == 96 then (if is_at_word bytes then Word else Backquote)
    else if begins_word byte then Identifier
    else if byte == 34 && is_closed bytes then Quoted
    else Single byte

-- how many bytes belong to such a piece behind its first: an identifier is as long as it can be
abbrev pub further : Kind → List ℕ → ℕ
further Word bytes = prefix_len is_in_word bytes
further Backquote bytes = 0
further Identifier bytes = prefix_len is_in_word bytes
further Quoted bytes = prefix_len is_inside bytes + 1
further (Single byte) bytes = 0

-- where the piece at a place ends
unfoldable pub end_at : List ℕ → ℕ → ℕ
end_at text at = at + 1 + further (kind_at (slice_index text at) (drop (at + 1) text)) (drop (at + 1) text)

abbrev pub piece_at : ℕ → ℕ → List ℕ → Piece
piece_at line byte bytes = record { line = line; kind = kind_at byte bytes; bytes = byte ∷ take (further (kind_at byte bytes) bytes) bytes }

-- the pieces of a text whose first line is told: one begins at each byte that isn't skipped, since no piece before covers it
abbrev pub pieces_from : ℕ → ℕ → List ℕ → List Piece
pieces_from skip line [] = []
pieces_from (suc skip) line (byte ∷ bytes) = pieces_from skip line bytes
pieces_from zero line (byte ∷ bytes) = piece_at line byte bytes ∷ pieces_from (further (kind_at byte bytes) bytes) (line_after byte line) bytes

abbrev pub pieces_of : ℕ → List ℕ → List Piece
pieces_of line bytes = pieces_from 0 line bytes

-- the word behind a backquote
abbrev pub word_of : Piece → List ℕ
word_of piece = drop 1 piece.bytes

-- what stands in a string
abbrev pub quoted_of : Piece → List ℕ
quoted_of piece = take (length piece.bytes - 2) (drop 1 piece.bytes)

abbrev pub is_identifier : Piece → Bool
is_identifier piece = identifier piece.kind where
  identifier : Kind → Bool
  identifier Word = false
  identifier Backquote = false
  identifier Identifier = true
  identifier Quoted = false
  identifier (Single byte) = false

abbrev pub is_quoted : Piece → Bool
is_quoted piece = quoted piece.kind where
  quoted : Kind → Bool
  quoted Word = false
  quoted Backquote = false
  quoted Identifier = false
  quoted Quoted = true
  quoted (Single byte) = false

-- whether a piece is a single byte that passes the test
abbrev pub is_single : (ℕ → Bool) → Piece → Bool
is_single test piece = single piece.kind where
  single : Kind → Bool
  single Word = false
  single Backquote = false
  single Identifier = false
  single Quoted = false
  single (Single byte) = test byte

abbrev pub is_byte : ℕ → Piece → Bool
is_byte sign piece = is_single (λ byte. byte == sign) piece

abbrev pub is_blank_piece : Piece → Bool
is_blank_piece piece = is_single is_blank piece

-- a blank or the end of a line
abbrev pub is_space : Piece → Bool
is_space piece = is_single (λ byte. is_blank byte || is_line_feed byte) piece

-- anything but the end of a line
abbrev pub is_in_line : Piece → Bool
is_in_line piece = not (is_byte 10 piece)

-- the bytes of pieces in a row
abbrev pub bytes_of_pieces : List Piece → List ℕ
bytes_of_pieces [] = []
bytes_of_pieces (piece ∷ pieces) = piece.bytes ++ bytes_of_pieces pieces

-- pieces without the blanks and line ends in front of them
abbrev pub without_front : List Piece → List Piece
without_front pieces = drop (prefix_len is_space pieces) pieces

-- a piece before others, unless it is a space behind which there is none
abbrev pub before : Piece → List Piece → List Piece
before piece [] = if is_space piece then [] else piece ∷ []
before piece (next ∷ pieces) = piece ∷ next ∷ pieces

-- pieces without the blanks and line ends behind them
abbrev pub without_back : List Piece → List Piece
without_back [] = []
without_back (piece ∷ pieces) = before piece (without_back pieces)

abbrev pub trimmed : List Piece → List Piece
trimmed pieces = without_back (without_front pieces)
