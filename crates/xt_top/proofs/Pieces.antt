-- What stands on a stream after some of a text's pieces.
use Rattle.std.proofs.Common.{◌≡◌, ◌≤◌, ◌<◌, ◌+◌, ◌++◌, ℕ, List, ◌∷◌, Option, Some, None, length, take, drop, get_or, refl, sym, ap, ◌∙◌, arith, subst, append_assoc, length-append, drop-cons, add-one}
use Rattle.std.proofs.lemmas.List.{take-append-drop, take-append-le}
use Rattle.std.proofs.lemmas.List.Concat.{flat_map-append}
use Rattle.std.proofs.Math.Seq.{take-append-add}
use Rattle.std.specs.Borrow.{Bor}
use Rattle.xt_base.specs.Outside.{appended, AppendsPrefix}
use Rattle.xt_top.specs.Note.{joined}

-- two pieces one after the other are one piece
pub appended-appended : (o : Option (List ℕ)) (a b : List ℕ) → appended (appended o a) b ≡ appended o (a ++ b)
appended-appended None a b = refl
appended-appended (Some bytes) a b = ap (λ (x : List ℕ). Some x) (append_assoc bytes a b)

-- a prefix of a piece behind a text's front is a prefix of the text
pub cut_inside : (o new : Option (List ℕ)) (a piece rest : List ℕ) → AppendsPrefix (appended o a) piece new → AppendsPrefix o (a ++ (piece ++ rest)) new
cut_inside o new a piece rest (n, within, is) = (length a + n, below, is ∙ appended-appended o a (take n piece) ∙ ap (appended o) (sym front))
  where
    below : length a + n ≤ length (a ++ (piece ++ rest))
    below = omega (arith, length-append a (piece ++ rest), length-append piece rest)

    front : take (length a + n) (a ++ (piece ++ rest)) ≡ a ++ take n piece
    front = take-append-add a (piece ++ rest) n ∙ ap (λ (x : List ℕ). a ++ x) (take-append-le n piece rest within)

drop_more : (ps : List (Bor (List ℕ))) (i : ℕ) (d : Bor (List ℕ)) → i < length ps → drop i ps ≡ get_or ps i d ∷ drop (i + 1) ps
drop_more ps i d h = rw add-one (drop-cons ps i d h)

-- the pieces before one, it, and those behind it
pub joined_split : (ps : List (Bor (List ℕ))) (i : ℕ) (d : Bor (List ℕ)) → i < length ps → joined ps ≡ joined (take i ps) ++ ((get_or ps i d).now ++ joined (drop (i + 1) ps))
joined_split ps i d h = ap joined (sym (take-append-drop i ps)) ∙ flat_map-append (λ p. p.now) (take i ps) (drop i ps) ∙ ap (λ rest. joined (take i ps) ++ joined rest) (drop_more ps i d h)

-- a fault in one piece leaves a prefix of all of them
pub cut_at : (o written new : Option (List ℕ)) (ps : List (Bor (List ℕ))) (i : ℕ) (d : Bor (List ℕ)) → i < length ps → written ≡ appended o (joined (take i ps)) → AppendsPrefix written (get_or ps i d).now new → AppendsPrefix o (joined ps) new
cut_at o written new ps i d h is cut = let split = joined_split ps i d h in subst (λ text. AppendsPrefix o text new) (sym split) (cut_inside o new (joined (take i ps)) (get_or ps i d).now (joined (drop (i + 1) ps)) (subst (λ w. AppendsPrefix w (get_or ps i d).now new) is cut))
