-- The lines of a list, one more at a time.
use Rattle.std.proofs.Common.{◌≡◌, ℕ, ◌+◌, ◌<◌, List, [], ◌∷◌, ◌++◌, map, length, take, drop, get_or, sym, ap, ◌∙◌, append_assoc, append-nil, arith}
use Rattle.std.proofs.lemmas.List.{take_more, map-append, length-take-le, get_or_default, take-append-drop}
use Rattle.std.proofs.lemmas.List.Concat.{flat_map-append}
use Rattle.std.specs.Prelude.{flat_map}
use Rattle.std.specs.List.{enumerate_from}
use Rattle.nt_core.specs.Text.{numbered}
use Rattle.nt_write.specs.Lines.{ended, lines}

-- the items so far, and one more
pub take_one : {X : Type 0} (xs : List X) (i : ℕ) (x : X) → i < length xs → x ≡ get_or xs i x → take (i + 1) xs ≡ take i xs ++ x ∷ []
take_one xs i x within at = take_more xs i x within ∙ ap (λ y. take i xs ++ y ∷ []) (sym at)

-- what a list gives with one more item
pub flat_one : {X A : Type 0} (f : X → List A) (xs : List X) (x : X) → flat_map f xs ++ f x ≡ flat_map f (xs ++ x ∷ [])
flat_one f xs x = sym (flat_map-append f xs (x ∷ []) ∙ ap (λ t. flat_map f xs ++ t) (append-nil (f x)))

pub flat_more : {X A : Type 0} (f : X → List A) (xs : List X) (i : ℕ) (x : X) → i < length xs → x ≡ get_or xs i x → flat_map f (take i xs) ++ f x ≡ flat_map f (take (i + 1) xs)
flat_more f xs i x within at = flat_one f (take i xs) x ∙ ap (λ ys. flat_map f ys) (sym (take_one xs i x within at))

-- one more item with its place
enumerate_push : {X : Type 0} (n : ℕ) (xs : List X) (x : X) → enumerate_from n (xs ++ x ∷ []) ≡ enumerate_from n xs ++ (n + length xs, x) ∷ []
enumerate_push n [] x = ap (λ k. (k, x) ∷ []) (omega arith)
enumerate_push n (y ∷ ys) x = ap (λ zs. (n, y) ∷ zs) (enumerate_push (n + 1) ys x ∙ ap (λ k. enumerate_from (n + 1) ys ++ (k, x) ∷ []) (omega arith))

pub enumerate_more : {X : Type 0} (xs : List X) (i : ℕ) (x : X) → i < length xs → x ≡ get_or xs i x → enumerate_from 0 (take (i + 1) xs) ≡ enumerate_from 0 (take i xs) ++ (i, x) ∷ []
enumerate_more xs i x within at =
    let less : length (take i xs) ≡ i = length-take-le i xs (omega arith) in
    let place : 0 + length (take i xs) ≡ i = omega arith in
    ap (λ ys. enumerate_from 0 ys) (take_one xs i x within at) ∙ enumerate_push 0 (take i xs) x ∙ ap (λ k. enumerate_from 0 (take i xs) ++ (k, x) ∷ []) place

-- ---- lines, each set into the text by `put`

-- a line for each item
pub each_more : {X : Type 0} (put : List ℕ → List ℕ) (line : X → List ℕ) (xs : List X) (i : ℕ) (x : X) → i < length xs → x ≡ get_or xs i x → flat_map put (map line (take i xs)) ++ put (line x) ≡ flat_map put (map line (take (i + 1) xs))
each_more put line xs i x within at =
    flat_one put (map line (take i xs)) (line x) ∙ ap (λ ls. flat_map put ls) (sym (map-append line (take i xs) (x ∷ [])) ∙ ap (λ ys. map line ys) (sym (take_one xs i x within at)))

-- some lines for each item
pub each_many : {X : Type 0} (put : List ℕ → List ℕ) (some : X → List (List ℕ)) (xs : List X) (i : ℕ) (x : X) → i < length xs → x ≡ get_or xs i x → flat_map put (flat_map some (take i xs)) ++ flat_map put (some x) ≡ flat_map put (flat_map some (take (i + 1) xs))
each_many put some xs i x within at =
    sym (flat_map-append put (flat_map some (take i xs)) (some x)) ∙ ap (λ ls. flat_map put ls) (flat_more some xs i x within at)

-- a line for each item with its place
pub each_numbered : {X : Type 0} (put : List ℕ → List ℕ) (line : ℕ → X → List ℕ) (xs : List X) (i : ℕ) (x : X) → i < length xs → x ≡ get_or xs i x → flat_map put (numbered line (take i xs)) ++ put (line i x) ≡ flat_map put (numbered line (take (i + 1) xs))
each_numbered put line xs i x within at =
    flat_one put (numbered line (take i xs)) (line i x) ∙ ap (λ ls. flat_map put ls) (sym (map-append (λ p. line p.0 p.1) (enumerate_from 0 (take i xs)) ((i, x) ∷ [])) ∙ ap (λ ps. map (λ p. line p.0 p.1) ps) (sym (enumerate_more xs i x within at)))

-- ---- the same for numbers, which a loop reads with the default 0

pub flat_more_number : (f : ℕ → List ℕ) (xs : List ℕ) (i : ℕ) → i < length xs → flat_map f (take i xs) ++ f (get_or xs i 0) ≡ flat_map f (take (i + 1) xs)
flat_more_number f xs i within = flat_more f xs i (get_or xs i 0) within (get_or_default xs i 0 (get_or xs i 0) within)

pub each_numbered_number : (put : List ℕ → List ℕ) (line : ℕ → ℕ → List ℕ) (xs : List ℕ) (i : ℕ) → i < length xs → flat_map put (numbered line (take i xs)) ++ put (line i (get_or xs i 0)) ≡ flat_map put (numbered line (take (i + 1) xs))
each_numbered_number put line xs i within = each_numbered put line xs i (get_or xs i 0) within (get_or_default xs i 0 (get_or xs i 0) within)

-- ---- whole lines

pub lines-append : (a b : List (List ℕ)) → lines (a ++ b) ≡ lines a ++ lines b
lines-append a b = flat_map-append ended a b

-- ---- a list in parts

-- the front of the rest comes after what was before it
pub halves : {X : Type 0} (before front back rest whole : List X) → before ++ rest ≡ whole → front ++ back ≡ rest → (before ++ front) ++ back ≡ whole
halves before front back rest whole all split = append_assoc before front back ∙ ap (λ x. before ++ x) split ∙ all

-- `split_at`
pub split_whole : {X : Type 0} (front back rest : List X) (n : ℕ) → front ≡ take n rest → back ≡ drop n rest → front ++ back ≡ rest
split_whole front back rest n first second = ap (λ x. x ++ back) first ∙ ap (λ x. take n rest ++ x) second ∙ take-append-drop n rest
