-- A text that is cut between two pieces has the pieces before the cut.
use Rattle.std.proofs.Common.{◌≡◌, ◌<◌, ◌≤◌, ◌+◌, ◌-◌, ◌⊎◌, inl, inr, ℕ, zero, suc, min, Bool, true, false, cond, ◌&&◌, List, [], ◌∷◌, ◌++◌, length, take, drop, refl, sym, ap, ◌∙◌, subst, arith, eqb, length-append, length-take, add-zero}
use Rattle.std.proofs.lemmas.List.{drop-take, take-take}
use Rattle.std.proofs.lemmas.Bool.{cases_lt, false≢true}
use Rattle.std.specs.List.{prefix_len}
use Rattle.xt_base.specs.Identifiers.{begins_word, is_in_word}
use Rattle.vl_pre.specs.Clean.{begins}
use Rattle.vl_pre.specs.Text.{line_after}
use Rattle.vl_pre.specs.Pieces.{Piece, piece_at, pieces_from, pieces_of, kind_at, further, is_at_word, is_inside, is_closed, bytes_of_pieces}
use Rattle.vl_pre.specs.declared.pieces.Kind.{Kind}
use Rattle.vl_pre.specs.declared.pieces.Kind.TheVariants.{Word, Backquote, Identifier, Quoted, Single}
use Rattle.vl_pre.proofs.PieceLemmas.{pieces_from-drop, further_within}

-- how far the bytes of a cut text pass a test
pub prefix_len_take : (p : ℕ → Bool) (n : ℕ) (bytes : List ℕ) → prefix_len p (take n bytes) ≡ min n (prefix_len p bytes)
prefix_len_take p zero bytes = sym (omega arith)
prefix_len_take p (suc n) [] = omega arith
prefix_len_take p (suc n) (b ∷ bs) = go (p b) (prefix_len_take p n bs) where
  go : (t : Bool) → prefix_len p (take n bs) ≡ min n (prefix_len p bs) → cond t (1 + prefix_len p (take n bs)) 0 ≡ min (suc n) (cond t (1 + prefix_len p bs) 0)
  go true e = omega arith
  go false e = omega arith

-- a list of which a part is left begins as it did
pub begins_take : (sign n : ℕ) (bytes : List ℕ) → begins sign (take (suc n) bytes) ≡ begins sign bytes
begins_take sign n [] = refl
begins_take sign n (b ∷ bs) = refl

is_at_word_take : (n : ℕ) (bytes : List ℕ) → is_at_word (take (suc n) bytes) ≡ is_at_word bytes
is_at_word_take n [] = refl
is_at_word_take n (b ∷ bs) = refl

-- a word has a byte
word_some : (bytes : List ℕ) → is_at_word bytes ≡ true → 1 ≤ prefix_len is_in_word bytes
word_some [] e = absurd (false≢true e)
word_some (b ∷ bs) e = go (is_in_word b) (rw e refl) where
  go : (t : Bool) → t ≡ true → 1 ≤ cond t (1 + prefix_len is_in_word bs) 0
  go true h = omega arith
  go false h = absurd (false≢true h)

-- whether a word begins, in a cut text that has the word
is_at_word_cut : (n : ℕ) (bytes : List ℕ) → (is_at_word bytes ≡ true → prefix_len is_in_word bytes ≤ n) → is_at_word (take n bytes) ≡ is_at_word bytes
is_at_word_cut (suc n) bytes h = is_at_word_take n bytes
is_at_word_cut zero bytes h = go (is_at_word bytes) refl where
  go : (t : Bool) → is_at_word bytes ≡ t → false ≡ t
  go true e = absurd (omega (arith, h e, word_some bytes e))
  go false e = refl

-- whether a string is ended, in a cut text that has its end
closed_cut : (n : ℕ) (bytes : List ℕ) → (is_closed bytes ≡ true → prefix_len is_inside bytes + 1 ≤ n) → is_closed (take n bytes) ≡ is_closed bytes
closed_cut n bytes h = go (cases_lt (prefix_len is_inside bytes) n) where
  go : (prefix_len is_inside bytes < n) ⊎ (n ≤ prefix_len is_inside bytes) → is_closed (take n bytes) ≡ is_closed bytes
  go (inl l) =
      let i = prefix_len is_inside bytes in
      let short : prefix_len is_inside (take n bytes) ≡ i = prefix_len_take is_inside n bytes ∙ omega arith in
      let split : n ≡ i + suc (n - suc i) = omega arith in
      let rest : drop i (take n bytes) ≡ take (suc (n - suc i)) (drop i bytes) = ap (λ m. drop i (take m bytes)) split ∙ drop-take i (suc (n - suc i)) bytes in
      ap (λ m. begins 34 (drop m (take n bytes))) short ∙ ap (begins 34) rest ∙ begins_take 34 (n - suc i) (drop i bytes)
  go (inr l) =
      let short : prefix_len is_inside (take n bytes) ≡ n = prefix_len_take is_inside n bytes ∙ omega arith in
      let none : drop n (take n bytes) ≡ [] = ap (λ m. drop n (take m bytes)) (sym (add-zero n)) ∙ drop-take n 0 bytes in
      let unclosed : is_closed bytes ≡ false = still (is_closed bytes) refl in
      ap (λ m. begins 34 (drop m (take n bytes))) short ∙ ap (begins 34) none ∙ sym unclosed
    where
      still : (t : Bool) → is_closed bytes ≡ t → t ≡ false
      still true e = absurd (omega (arith, h e, l))
      still false e = refl

-- A piece that a cut text has whole is of the same kind and length there.
pub kind_cut : (byte n : ℕ) (bytes : List ℕ) → further (kind_at byte bytes) bytes ≤ n → kind_at byte (take n bytes) ≡ kind_at byte bytes
kind_cut byte n bytes = first (eqb byte 96) where
  rest : List ℕ → Kind
  rest l = cond (begins_word byte) Identifier (cond (eqb byte 34 && is_closed l) Quoted (Single byte))

  quote : (q : Bool) → further (cond (q && is_closed bytes) Quoted (Single byte)) bytes ≤ n → cond (q && is_closed (take n bytes)) Quoted (Single byte) ≡ cond (q && is_closed bytes) Quoted (Single byte)
  quote false h = refl
  quote true h = ap (λ t. cond t Quoted (Single byte)) (closed_cut n bytes (λ e. subst (λ t. further (cond t Quoted (Single byte)) bytes ≤ n) e h))

  letter : (l : Bool) → further (cond l Identifier (cond (eqb byte 34 && is_closed bytes) Quoted (Single byte))) bytes ≤ n
      → cond l Identifier (cond (eqb byte 34 && is_closed (take n bytes)) Quoted (Single byte)) ≡ cond l Identifier (cond (eqb byte 34 && is_closed bytes) Quoted (Single byte))
  letter true h = refl
  letter false h = quote (eqb byte 34) h

  first : (t : Bool) → further (cond t (cond (is_at_word bytes) Word Backquote) (rest bytes)) bytes ≤ n
      → cond t (cond (is_at_word (take n bytes)) Word Backquote) (rest (take n bytes)) ≡ cond t (cond (is_at_word bytes) Word Backquote) (rest bytes)
  first false h = letter (begins_word byte) h
  first true h = ap (λ t. cond t Word Backquote) (is_at_word_cut n bytes (λ e. subst (λ t. further (cond t Word Backquote) bytes ≤ n) e h))

further_of : (kind : Kind) (n : ℕ) (bytes : List ℕ) → further kind bytes ≤ n → further kind (take n bytes) ≡ further kind bytes
further_of Word n bytes h = prefix_len_take is_in_word n bytes ∙ omega arith
further_of Backquote n bytes h = refl
further_of Identifier n bytes h = prefix_len_take is_in_word n bytes ∙ omega arith
further_of Quoted n bytes h = omega (arith, prefix_len_take is_inside n bytes)
further_of (Single byte) n bytes h = refl

pub further_cut : (byte n : ℕ) (bytes : List ℕ) → further (kind_at byte bytes) bytes ≤ n → further (kind_at byte (take n bytes)) (take n bytes) ≡ further (kind_at byte bytes) bytes
further_cut byte n bytes h = ap (λ k. further k (take n bytes)) (kind_cut byte n bytes h) ∙ further_of (kind_at byte bytes) n bytes h

-- The pieces before a cut between pieces.
pub cut : (xs ys : List Piece) (bytes : List ℕ) (line : ℕ) → pieces_of line bytes ≡ xs ++ ys → pieces_of line (take (length (bytes_of_pieces xs)) bytes) ≡ xs
cut [] ys bytes line e = refl
cut (x ∷ xs) ys [] line e = cc
cut (x ∷ xs) ys (b ∷ bs) line e =
    let more = further (kind_at b bs) bs in
    let m = length (bytes_of_pieces xs) in
    let head : piece_at line b bs ≡ x = cc in
    let tail : pieces_from more (line_after b line) bs ≡ xs ++ ys = cc in
    let rest : pieces_of (line_after b line) (drop more bs) ≡ xs ++ ys = sym (pieces_from-drop more (line_after b line) bs) ∙ tail in
    let ih = cut xs ys (drop more bs) (line_after b line) rest in
    let size : length x.bytes ≡ suc more = ap (λ (p : Piece). length p.bytes) (sym head) ∙ omega (arith, length-take more bs, further_within b bs) in
    let whole : length (x.bytes ++ bytes_of_pieces xs) ≡ suc (more + m) = omega (arith, length-append x.bytes (bytes_of_pieces xs), size) in
    let kind : kind_at b (take (more + m) bs) ≡ kind_at b bs = kind_cut b (more + m) bs (omega arith) in
    let same : further (kind_at b (take (more + m) bs)) (take (more + m) bs) ≡ more = further_cut b (more + m) bs (omega arith) in
    let bytes : take more (take (more + m) bs) ≡ take more bs = take-take more (more + m) bs (omega arith) in
    let behind : pieces_from more (line_after b line) (take (more + m) bs) ≡ xs =
    pieces_from-drop more (line_after b line) (take (more + m) bs) ∙ ap (pieces_of (line_after b line)) (drop-take more m bs) ∙ ih in
    ap (λ n. pieces_of line (take n (b ∷ bs))) whole
    ∙ (λ i. record { line = line; kind = kind i; bytes = b ∷ take (same i) (take (more + m) bs) } ∷ pieces_from (same i) (line_after b line) (take (more + m) bs))
    ∙ (λ i. record { line = line; kind = kind_at b bs; bytes = b ∷ bytes i } ∷ behind i)
    ∙ ap (λ p. p ∷ xs) head

-- The pieces from a place up to a cut.
pub cut_at : (xs ys : List Piece) (text : List ℕ) (at line to : ℕ) → pieces_of line (drop at text) ≡ xs ++ ys → to ≡ at + length (bytes_of_pieces xs) → pieces_of line (drop at (take to text)) ≡ xs
cut_at xs ys text at line to e h =
    ap (λ n. pieces_of line (drop at (take n text))) h ∙ ap (pieces_of line) (drop-take at (length (bytes_of_pieces xs)) text) ∙ cut xs ys (drop at text) line e
