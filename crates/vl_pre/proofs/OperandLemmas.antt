-- What stands behind a directive, from the pieces that were read.
use Rattle.std.proofs.Common.{◌≡◌, ◌+◌, ℕ, true, List, ◌∷◌, drop, refl, sym, ap, ◌∙◌}
use Rattle.std.proofs.lemmas.List.{drop-drop}
use Rattle.std.specs.List.{prefix_len}
use Rattle.vl_pre.specs.Pieces.{Piece, is_blank_piece, is_identifier, is_quoted, quoted_of}
use Rattle.vl_pre.specs.Directives.{name_behind, string_behind}
use Rattle.vl_pre.specs.Operands.{IsOperand}

-- behind the first piece that is left is one piece less
pub behind_first : {A : Type 0} (pieces rest : List A) (n : ℕ) (piece : A) → drop n pieces ≡ piece ∷ rest → rest ≡ drop (n + 1) pieces
behind_first pieces rest n piece e = sym (sym (drop-drop 1 n pieces) ∙ ap (drop 1) e)

pub name_operand : (pieces left rest : List Piece) (piece : Piece) → left ≡ drop (prefix_len is_blank_piece pieces) pieces → left ≡ piece ∷ rest → is_identifier piece ≡ true
    → IsOperand (name_behind pieces) piece.bytes pieces rest
name_operand pieces left rest piece over first is =
    let here : drop (prefix_len is_blank_piece pieces) pieces ≡ piece ∷ rest = sym over ∙ first in
    rw (here, is) (refl, behind_first pieces rest (prefix_len is_blank_piece pieces) piece here)

pub string_operand : (pieces left rest : List Piece) (piece : Piece) → left ≡ drop (prefix_len is_blank_piece pieces) pieces → left ≡ piece ∷ rest → is_quoted piece ≡ true
    → IsOperand (string_behind pieces) (quoted_of piece) pieces rest
string_operand pieces left rest piece over first is =
    let here : drop (prefix_len is_blank_piece pieces) pieces ≡ piece ∷ rest = sym over ∙ first in
    rw (here, is) (refl, behind_first pieces rest (prefix_len is_blank_piece pieces) piece here)
