-- What is known of a line with its continuations.
use Rattle.std.proofs.Common.{◌≡◌, ◌≤◌, ◌+◌, ℕ, zero, suc, Bool, true, false, cond, ◌&&◌, List, [], ◌∷◌, length, drop, refl, sym, ap, ◌∙◌, arith, length-drop}
use Rattle.std.proofs.lemmas.List.{drop-drop}
use Rattle.std.proofs.lemmas.Bool.{false≢true}
use Rattle.std.specs.List.{prefix_len}
use Rattle.vl_pre.specs.Pieces.{Piece, is_byte}
use Rattle.vl_pre.specs.Macros.{begins_with, continuation, blanked, Line, line_from}
use Rattle.vl_pre.specs.Cursors.{left}
use Rattle.vl_pre.specs.Lines.{GoesOn, returns}
use Rattle.vl_pre.proofs.OperandLemmas.{behind_first}

pub goes_nowhere : (pieces : List Piece) → GoesOn pieces pieces
goes_nowhere pieces = record { taken = 0; dropped = refl; size = omega arith }

pub goes_further : (a b c : List Piece) → GoesOn a b → GoesOn b c → GoesOn a c
goes_further a b c f g = record {
  taken = f.taken + g.taken;
  dropped = g.dropped ∙ ap (drop g.taken) f.dropped ∙ drop-drop g.taken f.taken a;
  size = omega (arith, f.size, g.size);
}

pub begins_with_first : (sign : ℕ) (pieces rest : List Piece) (piece : Piece) → pieces ≡ piece ∷ rest → begins_with sign pieces ≡ is_byte sign piece
begins_with_first sign pieces rest piece e = ap (begins_with sign) e

-- skipped pieces are dropped
pub line_from_pieces : (n : ℕ) (pieces : List Piece) → (line_from n pieces).pieces ≡ (line_from 0 (drop n pieces)).pieces
line_from_pieces zero pieces = refl
line_from_pieces (suc n) [] = refl
line_from_pieces (suc n) (piece ∷ pieces) = line_from_pieces n pieces

pub line_from_size : (n : ℕ) (pieces : List Piece) → n ≤ length pieces → (line_from n pieces).size ≡ n + (line_from 0 (drop n pieces)).size
line_from_size zero pieces h = omega arith
line_from_size (suc n) [] h = absurd (omega arith)
line_from_size (suc n) (piece ∷ pieces) h = omega (arith, line_from_size n pieces (omega arith))

pub prefix_len_le : {A : Type 0} (p : A → Bool) (xs : List A) → prefix_len p xs ≤ length xs
prefix_len_le p [] = omega arith
prefix_len_le p (x ∷ xs) = go (p x) (prefix_len_le p xs) where
  go : (t : Bool) → prefix_len p xs ≤ length xs → cond t (1 + prefix_len p xs) 0 ≤ suc (length xs)
  go true h = omega arith
  go false h = omega arith

-- a continuation lies in the text
pub continuation_within : (piece : Piece) (pieces : List Piece) → continuation piece pieces ≤ length pieces
continuation_within piece pieces = go (is_byte 92 piece) (begins_with 10 (drop (returns pieces) pieces)) refl where
  go : (b : Bool) (t : Bool) → begins_with 10 (drop (returns pieces) pieces) ≡ t → cond (b && t) (returns pieces + 1) 0 ≤ length pieces
  go true true e = some (drop (returns pieces) pieces) refl where
    some : (l : List Piece) → drop (returns pieces) pieces ≡ l → returns pieces + 1 ≤ length pieces
    some [] d = absurd (false≢true (ap (begins_with 10) (sym d) ∙ e))
    some (x ∷ l) d = omega (arith, length-drop (returns pieces) pieces, ap length d, prefix_len_le (λ p. is_byte 13 p) pieces)
  go true false e = omega arith
  go false t e = omega arith

-- a line that goes on
pub line_first : (pieces behind : List Piece) (piece : Piece) → pieces ≡ piece ∷ behind → is_byte 10 piece ≡ false
    → (line_from 0 pieces).pieces ≡ blanked (continuation piece behind) piece ∷ (line_from 0 (drop (continuation piece behind) behind)).pieces
line_first pieces behind piece e other =
    rw (e, other) (ap (λ l. blanked (continuation piece behind) piece ∷ l) (line_from_pieces (continuation piece behind) behind))

pub line_goes : (pieces behind later : List Piece) (piece : Piece) → pieces ≡ piece ∷ behind → is_byte 10 piece ≡ false → later ≡ drop (continuation piece behind) behind → GoesOn pieces later
line_goes pieces behind later piece e other l = record {
  taken = suc (continuation piece behind);
  dropped = l ∙ sym (ap (drop (suc (continuation piece behind))) e);
  size =
      let one : (line_from 0 pieces).size ≡ suc (line_from (continuation piece behind) behind).size = rw (e, other) refl in
      let rest : (line_from 0 later).size ≡ (line_from 0 (drop (continuation piece behind) behind)).size = ap (λ p. (line_from 0 p).size) l in
      omega (arith, one, rest, line_from_size (continuation piece behind) behind (continuation_within piece behind));
}

-- a line that ends
pub line_ended : (pieces behind : List Piece) (piece : Piece) → pieces ≡ piece ∷ behind → is_byte 10 piece ≡ true → (line_from 0 pieces).pieces ≡ []
line_ended pieces behind piece e is = rw (e, is) refl

pub line_none : (pieces : List Piece) → pieces ≡ [] → (line_from 0 pieces).pieces ≡ []
line_none pieces e = rw e refl

-- where no piece is left of a line, none is taken any more
pub line_size : (pieces : List Piece) → (line_from 0 pieces).pieces ≡ [] → (line_from 0 pieces).size ≡ 0
line_size [] e = refl
line_size (piece ∷ pieces) e = go (is_byte 10 piece) refl e where
  ended : Line
  ended = record { pieces = []; size = 0 }

  more : Line
  more = record { pieces = blanked (continuation piece pieces) piece ∷ (line_from (continuation piece pieces) pieces).pieces; size = suc (line_from (continuation piece pieces) pieces).size }

  go : (t : Bool) → is_byte 10 piece ≡ t → (cond {A = Line} t ended more).pieces ≡ [] → (cond {A = Line} t ended more).size ≡ 0
  go true t e = refl
  go false t e = cc

pub line_end_found : (pieces left rest : List Piece) (piece : Piece) → left ≡ drop (returns pieces) pieces → left ≡ piece ∷ rest → is_byte 10 piece ≡ true
    → (begins_with 10 (drop (returns pieces) pieces) ≡ true) × (rest ≡ drop (returns pieces + 1) pieces)
line_end_found pieces left rest piece over first is =
    let here : drop (returns pieces) pieces ≡ piece ∷ rest = sym over ∙ first in
    (ap (begins_with 10) here ∙ is, behind_first pieces rest (returns pieces) piece here)
