-- The text of a macro so far.
use Rattle.std.proofs.Common.{◌≡◌, ℕ, Bool, true, false, cond, List, [], ◌∷◌, ◌++◌, length, take, refl, sym, ap, ◌∙◌, None, append_assoc}
use Rattle.std.proofs.lemmas.List.{append-nil, take_at}
use Rattle.vl_pre.specs.Pieces.{Piece, is_space, before, without_back, bytes_of_pieces}
use Rattle.vl_pre.specs.Directives.{is_stray}
use Rattle.vl_pre.specs.Macros.{stray_line}

pub bytes_of_pieces_append : (xs ys : List Piece) → bytes_of_pieces (xs ++ ys) ≡ bytes_of_pieces xs ++ bytes_of_pieces ys
bytes_of_pieces_append [] ys = refl
bytes_of_pieces_append (x ∷ xs) ys = ap (λ l. x.bytes ++ l) (bytes_of_pieces_append xs ys) ∙ sym (append_assoc x.bytes (bytes_of_pieces xs) (bytes_of_pieces ys))

pub bytes_of_pieces_push : (xs : List Piece) (x : Piece) → bytes_of_pieces (xs ++ x ∷ []) ≡ bytes_of_pieces xs ++ x.bytes
bytes_of_pieces_push xs x = bytes_of_pieces_append xs (x ∷ []) ∙ ap (λ l. bytes_of_pieces xs ++ l) (append-nil x.bytes)

-- a piece that is no space stays, and all before it
pub without_back_push : (xs : List Piece) (x : Piece) → is_space x ≡ false → without_back (xs ++ x ∷ []) ≡ xs ++ x ∷ []
without_back_push [] x e = rw e refl
without_back_push (y ∷ ys) x e = ap (before y) (without_back_push ys x e) ∙ more ys where
  more : (zs : List Piece) → before y (zs ++ x ∷ []) ≡ y ∷ (zs ++ x ∷ [])
  more [] = refl
  more (z ∷ zs) = refl

pub without_back_space : (xs : List Piece) (x : Piece) → is_space x ≡ true → without_back (xs ++ x ∷ []) ≡ without_back xs
without_back_space [] x e = rw e refl
without_back_space (y ∷ ys) x e = ap (before y) (without_back_space ys x e)

-- what stays is in front
pub without_back_front : (xs : List Piece) → (ys : List Piece) × (xs ≡ without_back xs ++ ys)
without_back_front [] = ([], refl)
without_back_front (x ∷ xs) = go (without_back xs) (without_back_front xs) where
  go : (ws : List Piece) → (ys : List Piece) × (xs ≡ ws ++ ys) → (ys : List Piece) × (x ∷ xs ≡ before x ws ++ ys)
  go (w ∷ ws) f = (f.0, ap (λ l. x ∷ l) f.1)
  go [] f = space (is_space x) where
    space : (t : Bool) → (ys : List Piece) × (x ∷ xs ≡ cond t [] (x ∷ []) ++ ys)
    space true = (x ∷ xs, refl)
    space false = (xs, refl)

pub take_kept : (xs : List Piece) (kept : ℕ) → kept ≡ length (bytes_of_pieces (without_back xs)) → take kept (bytes_of_pieces xs) ≡ bytes_of_pieces (without_back xs)
take_kept xs kept e =
    let front = without_back_front xs in
    ap (λ l. take kept (bytes_of_pieces l)) front.1 ∙ ap (take kept) (bytes_of_pieces_append (without_back xs) front.0) ∙ take_at (bytes_of_pieces (without_back xs)) (bytes_of_pieces front.0) kept (sym e)

-- The pieces that came, behind those in front, are these: their bytes, as far as none of them is a space at the end.
pub record IsTextSoFar (whole rest : List Piece) (bytes : List ℕ) (kept : ℕ) : Type 0 where
  pub came : List Piece
  pub whole_is : whole ≡ came ++ rest
  pub bytes_is : bytes ≡ bytes_of_pieces came
  pub kept_is : kept ≡ length (bytes_of_pieces (without_back came))
  pub no_stray : stray_line whole ≡ stray_line rest

pub text_begins : (whole : List Piece) → IsTextSoFar whole whole [] 0
text_begins whole = record { came = []; whole_is = refl; bytes_is = refl; kept_is = refl; no_stray = refl }

stray_behind : (whole rest : List Piece) (piece : Piece) → stray_line whole ≡ stray_line (piece ∷ rest) → is_stray piece ≡ false → stray_line whole ≡ stray_line rest
stray_behind whole rest piece e no_stray = e ∙ rw no_stray refl

pub text_goes : (whole pieces rest : List Piece) (bytes : List ℕ) (kept : ℕ) (piece : Piece) → IsTextSoFar whole pieces bytes kept → pieces ≡ piece ∷ rest → is_stray piece ≡ false
    → IsTextSoFar whole rest (bytes ++ piece.bytes) (cond (is_space piece) kept (length (bytes ++ piece.bytes)))
text_goes whole pieces rest bytes kept piece so first stray = record {
  came = so.came ++ piece ∷ [];
  whole_is = so.whole_is ∙ ap (λ l. so.came ++ l) first ∙ sym (append_assoc so.came (piece ∷ []) rest);
  bytes_is = ap (λ l. l ++ piece.bytes) so.bytes_is ∙ sym (bytes_of_pieces_push so.came piece);
  kept_is = last (is_space piece) refl;
  no_stray = stray_behind whole rest piece (so.no_stray ∙ ap stray_line first) stray;
} where
  last : (t : Bool) → is_space piece ≡ t → cond t kept (length (bytes ++ piece.bytes)) ≡ length (bytes_of_pieces (without_back (so.came ++ piece ∷ [])))
  last true e = so.kept_is ∙ sym (ap (λ l. length (bytes_of_pieces l)) (without_back_space so.came piece e))
  last false e = ap length (ap (λ l. l ++ piece.bytes) so.bytes_is ∙ sym (bytes_of_pieces_push so.came piece)) ∙ sym (ap (λ l. length (bytes_of_pieces l)) (without_back_push so.came piece e))

-- at the end all of them came
pub text_ends : (whole rest : List Piece) (bytes : List ℕ) (kept : ℕ) → IsTextSoFar whole rest bytes kept → rest ≡ []
    → (stray_line whole ≡ None) × (take kept bytes ≡ bytes_of_pieces (without_back whole))
text_ends whole rest bytes kept so end =
    let all : whole ≡ so.came = so.whole_is ∙ ap (λ l. so.came ++ l) end ∙ append-nil so.came in
    (so.no_stray ∙ ap stray_line end, ap (take kept) so.bytes_is ∙ take_kept so.came kept so.kept_is ∙ ap (λ l. bytes_of_pieces (without_back l)) (sym all))
