-- Lists of numbers, lists with the numbers of their places, and what holds of all of a list.
use Rattle.std.proofs.Common.{◌≡◌, ◌<◌, ◌+◌, ◌++◌, ℕ, zero, suc, List, [], ◌∷◌, length, take, get_or, map, ap, ◌∙◌, arith, add-one, length-take}
use Rattle.std.proofs.lemmas.List.{take_more, map-append}
use Rattle.std.proofs.lemmas.List.Elements.{All-nil, All-cons}
use Rattle.std.specs.List.{All, enumerate_from}
use Rattle.el_design.specs.Queue.{numbers_from}
use Rattle.xt_compile.specs.declared.first.source.Port.{Port}
use Rattle.xt_compile.specs.first.Flatten.{pin_of}

numbers_push : (a n : ℕ) → numbers_from a (suc n) ≡ numbers_from a n ++ (a + n) ∷ []
numbers_push a zero = ap (λ k. k ∷ []) (omega arith)
numbers_push a (suc n) = ap (λ ks. a ∷ ks) (numbers_push (suc a) n ∙ ap (λ k. numbers_from (suc a) n ++ k ∷ []) (omega arith))

-- one more number from 1 on
pub numbers_more : (n : ℕ) → numbers_from 1 (n + 1) ≡ numbers_from 1 n ++ suc n ∷ []
numbers_more n = ap (numbers_from 1) (add-one n) ∙ numbers_push 1 n ∙ ap (λ k. numbers_from 1 n ++ k ∷ []) (omega arith)

pub enumerate_push : {X : Type 0} (n : ℕ) (xs : List X) (x : X) → enumerate_from n (xs ++ x ∷ []) ≡ enumerate_from n xs ++ (n + length xs, x) ∷ []
enumerate_push n [] x = ap (λ k. (k, x) ∷ []) (omega arith)
enumerate_push n (y ∷ ys) x = ap (λ es. (n, y) ∷ es) (enumerate_push (n + 1) ys x ∙ ap (λ k. enumerate_from (n + 1) ys ++ (k, x) ∷ []) (omega arith))

-- the pin of one more port
pub pins_more : (ps : List Port) (i : ℕ) (d : Port) → i < length ps → map pin_of (enumerate_from 0 (take (i + 1) ps)) ≡ map pin_of (enumerate_from 0 (take i ps)) ++ pin_of (i, get_or ps i d) ∷ []
pins_more ps i d h =
    ap (λ qs. map pin_of (enumerate_from 0 qs)) (take_more ps i d h)
    ∙ ap (map pin_of) (enumerate_push 0 (take i ps) (get_or ps i d) ∙ ap (λ k. enumerate_from 0 (take i ps) ++ (k, get_or ps i d) ∷ []) place)
    ∙ map-append pin_of (enumerate_from 0 (take i ps)) ((i, get_or ps i d) ∷ [])
  where
    place : 0 + length (take i ps) ≡ i
    place = omega (arith, length-take i ps)

pub all_mapped : {X Y : Type 0} (P : Y → Type 0) (f : X → Y) (xs : List X) → ((k : ℕ) (e : X) → k < length xs → P (f (get_or xs k e))) → All P (map f xs)
all_mapped P f [] h = All-nil P
all_mapped P f (x ∷ xs) h = All-cons P (f x) (map f xs) (h 0 x (omega arith)) (all_mapped P f xs (λ k e lt. h (suc k) e (omega arith)))
