-- Control points: what runs from each of them, and what is left behind it.
use Rattle.std.proofs.Common.{◌≡◌, ◌≢◌, ◌<◌, ◌≤◌, ◌+◌, ◌++◌, ℕ, zero, suc, Bool, true, false, if◌then◌else◌, List, [], ◌∷◌, Option, Some, None, length, take, drop, refl, sym, ap, ◌∙◌, subst, arith}
use Rattle.std.specs.Prelude.{◌==◌, ◌||◌, nat_lt, unwrap_or, position}
use Rattle.std.specs.List.{position_or_len}
use Rattle.std.proofs.lemmas.List.{append-nil, length-map}
use Rattle.std.proofs.lemmas.List.Recursion.{is_position_or_len}
use Rattle.el_design.specs.Plain.{Statement}
use Rattle.el_design.specs.View.{statement_of}
use Rattle.el_design.specs.declared.statements.Stmt.{Stmt}
use Rattle.xt_compile.specs.first.Machine.{statements_of, is_wait, before, behind, from_start, stretch, onward}
use Rattle.xt_compile.specs.first.Nodes.{run_from, rest_at, waits, next_point}
use Rattle.xt_compile.proofs.first_form.NumberTests.{same_number, other_number, number_is, number_isnt, not_below}

-- ---- the statements before the first wait

pub take_before : (ss : List Statement) → take (length (before ss)) ss ≡ before ss
take_before [] = refl
take_before (s ∷ ss) = go (is_wait s) (take_before ss)
  where
    go : (b : Bool) → take (length (before ss)) ss ≡ before ss → take (length (if b then [] else s ∷ before ss)) (s ∷ ss) ≡ (if b then [] else s ∷ before ss)
    go true h = refl
    go false h = ap (λ (xs : List Statement). s ∷ xs) h

-- ---- what runs from a point

run_past : (q p : ℕ) (ss : List Statement) → q < p → run_from q p ss ≡ []
run_past q p [] h = refl
run_past q p (s ∷ ss) h = go (is_wait s) (q == p) (other_number q p (λ e. omega arith)) (run_past q p ss h) (run_past q (suc p) ss (omega arith))
  where
    go : (a b : Bool) → b ≡ false → run_from q p ss ≡ [] → run_from q (suc p) ss ≡ [] → (if a then run_from q (suc p) ss else (if b then s ∷ run_from q p ss else run_from q p ss)) ≡ []
    go true b e h g = g
    go false true e h g = cc
    go false false e h g = h

run_here : (p : ℕ) (ss : List Statement) → run_from p p ss ≡ before ss
run_here p [] = refl
run_here p (s ∷ ss) = go (is_wait s) (p == p) (same_number p) (run_here p ss) (run_past p (suc p) ss (omega arith))
  where
    go : (a b : Bool) → b ≡ true → run_from p p ss ≡ before ss → run_from p (suc p) ss ≡ [] → (if a then run_from p (suc p) ss else (if b then s ∷ run_from p p ss else run_from p p ss)) ≡ (if a then [] else s ∷ before ss)
    go true b e h g = g
    go false true e h g = ap (λ (xs : List Statement). s ∷ xs) h
    go false false e h g = cc

run_later : (q p : ℕ) (ss : List Statement) → p < q → run_from q p ss ≡ run_from q (suc p) (unwrap_or (behind ss) [])
run_later q p [] h = refl
run_later q p (s ∷ ss) h = go (is_wait s) (q == p) (other_number q p (λ e. omega arith)) (run_later q p ss h)
  where
    go : (a b : Bool) → b ≡ false → run_from q p ss ≡ run_from q (suc p) (unwrap_or (behind ss) [])
        → (if a then run_from q (suc p) ss else (if b then s ∷ run_from q p ss else run_from q p ss)) ≡ run_from q (suc p) (unwrap_or (if a then Some ss else behind ss) [])
    go true b e h = refl
    go false true e h = cc
    go false false e h = h

-- the statements behind the first wait are those that are left
run_tail : (q : ℕ) (ss : List Statement) → run_from q 0 (drop (length (before ss)) ss) ≡ run_from q 1 (unwrap_or (behind ss) [])
run_tail q [] = refl
run_tail q (s ∷ ss) = go (is_wait s) refl (run_tail q ss)
  where
    go : (a : Bool) → is_wait s ≡ a → run_from q 0 (drop (length (before ss)) ss) ≡ run_from q 1 (unwrap_or (behind ss) [])
        → run_from q 0 (drop (length (if a then [] else s ∷ before ss)) (s ∷ ss)) ≡ run_from q 1 (unwrap_or (if a then Some ss else behind ss) [])
    go true e h = ap (λ (b : Bool). if b then run_from q 1 ss else (if q == 0 then s ∷ run_from q 0 ss else run_from q 0 ss)) e
    go false e h = h

run_rest : (p n : ℕ) (ss : List Statement) → run_from (p + n) p ss ≡ before (rest_at n ss)
run_rest p zero ss = let e : p + 0 ≡ p = omega arith in ap (λ (k : ℕ). run_from k p ss) e ∙ run_here p ss
run_rest p (suc n) ss =
    let e : p + suc n ≡ suc p + n = omega arith in
    run_later (p + suc n) p ss (omega arith) ∙ ap (λ (k : ℕ). run_from k (suc p) (unwrap_or (behind ss) [])) e ∙ run_rest (suc p) n (unwrap_or (behind ss) [])

-- ---- waits

pub waits_tail : (ss : List Statement) → waits (drop (length (before ss)) ss) ≡ waits ss
waits_tail [] = refl
waits_tail (s ∷ ss) = go (is_wait s) refl (waits_tail ss)
  where
    go : (a : Bool) → is_wait s ≡ a → waits (drop (length (before ss)) ss) ≡ waits ss → waits (drop (length (if a then [] else s ∷ before ss)) (s ∷ ss)) ≡ (if a then suc (waits ss) else waits ss)
    go true e h = ap (λ (b : Bool). if b then suc (waits ss) else waits ss) e
    go false e h = h

pub wait_left : (ss : List Statement) → 1 ≤ waits ss → behind ss ≡ Some (unwrap_or (behind ss) [])
wait_left [] h = absurd (omega arith)
wait_left (s ∷ ss) h = go (is_wait s) h (wait_left ss)
  where
    go : (a : Bool) → 1 ≤ (if a then suc (waits ss) else waits ss) → (1 ≤ waits ss → behind ss ≡ Some (unwrap_or (behind ss) []))
        → (if a then Some ss else behind ss) ≡ Some (unwrap_or (if a then Some ss else behind ss) [])
    go true h g = refl
    go false h g = g h

none_left : (ss : List Statement) → waits ss ≡ 0 → behind ss ≡ None
none_left [] h = refl
none_left (s ∷ ss) h = go (is_wait s) h (none_left ss)
  where
    go : (a : Bool) → (if a then suc (waits ss) else waits ss) ≡ 0 → (waits ss ≡ 0 → behind ss ≡ None) → (if a then Some ss else behind ss) ≡ None
    go true h g = absurd (omega arith)
    go false h g = g h

one_fewer : (ss : List Statement) → 1 ≤ waits ss → waits ss ≡ suc (waits (unwrap_or (behind ss) []))
one_fewer [] h = absurd (omega arith)
one_fewer (s ∷ ss) h = go (is_wait s) h (one_fewer ss)
  where
    go : (a : Bool) → 1 ≤ (if a then suc (waits ss) else waits ss) → (1 ≤ waits ss → waits ss ≡ suc (waits (unwrap_or (behind ss) [])))
        → (if a then suc (waits ss) else waits ss) ≡ suc (waits (unwrap_or (if a then Some ss else behind ss) []))
    go true h g = refl
    go false h g = g h

rest_waits : (q : ℕ) (ss : List Statement) → q ≤ waits ss → waits (rest_at q ss) + q ≡ waits ss
rest_waits zero ss h = omega arith
rest_waits (suc q) ss h =
    let fewer = one_fewer ss (omega arith) in
    let more = rest_waits q (unwrap_or (behind ss) []) (omega arith) in
    omega arith

rest_step : (q : ℕ) (ss : List Statement) → rest_at (suc q) ss ≡ unwrap_or (behind (rest_at q ss)) []
rest_step zero ss = refl
rest_step (suc q) ss = rest_step q (unwrap_or (behind ss) [])

-- ---- a stretch, from a point to the next wait

stretched : (ss rest : List Statement) (n : ℕ) (o : Option (List Statement)) → behind rest ≡ o → before rest ++ from_start ss o ≡ stretch ss rest
stretched ss rest n o e = sym (ap (λ (x : Option (List Statement)). before rest ++ from_start ss x) e)

-- what the nodes run is what the process comes to
pub run_stretch : (q : ℕ) (ss : List Statement) → q ≤ waits ss → 1 ≤ waits ss
    → run_from q 0 (drop (length (before ss)) ss) ++ (if (q == waits ss) || (q == 0) then take (length (before ss)) ss else []) ≡ stretch ss (rest_at q ss)
run_stretch zero ss h some =
    let none : run_from 0 0 (drop (length (before ss)) ss) ≡ [] = run_tail 0 ss ∙ run_past 0 1 (unwrap_or (behind ss) []) (omega arith) in
    let test : ((0 == waits ss) || (0 == 0)) ≡ true = ap (λ (b : Bool). b || (0 == 0)) (other_number 0 (waits ss) (λ e. omega arith)) in
    ap (λ (xs : List Statement). xs ++ (if (0 == waits ss) || (0 == 0) then take (length (before ss)) ss else [])) none
    ∙ ap (λ (b : Bool). if b then take (length (before ss)) ss else []) test
    ∙ take_before ss ∙ sym (append-nil (before ss))
    ∙ stretched ss ss 0 (Some (unwrap_or (behind ss) [])) (wait_left ss some)
run_stretch (suc n) ss h some =
    let fewer = one_fewer ss some in
    let e : suc n ≡ 1 + n = omega arith in
    let first : run_from (suc n) 0 (drop (length (before ss)) ss) ≡ before (rest_at (suc n) ss) =
    run_tail (suc n) ss ∙ ap (λ (k : ℕ). run_from k 1 (unwrap_or (behind ss) [])) e ∙ run_rest 1 n (unwrap_or (behind ss) []) in
    ap (λ (xs : List Statement). xs ++ (if (suc n == waits ss) || (suc n == 0) then take (length (before ss)) ss else [])) first
    ∙ go (suc n == waits ss) refl (other_number (suc n) 0 (λ z. omega arith))
  where
    left : waits (rest_at (suc n) ss) + suc n ≡ waits ss
    left = rest_waits (suc n) ss h

    go : (a : Bool) → (suc n == waits ss) ≡ a → (suc n == 0) ≡ false
        → before (rest_at (suc n) ss) ++ (if (suc n == waits ss) || (suc n == 0) then take (length (before ss)) ss else []) ≡ stretch ss (rest_at (suc n) ss)
    go true e z =
        ap (λ (b : Bool). before (rest_at (suc n) ss) ++ (if b || (suc n == 0) then take (length (before ss)) ss else [])) e
        ∙ ap (λ (xs : List Statement). before (rest_at (suc n) ss) ++ xs) (take_before ss)
        ∙ stretched ss (rest_at (suc n) ss) n None (none_left (rest_at (suc n) ss) (let same = number_is (suc n) (waits ss) e in omega (arith, left)))
    go false e z =
        ap (λ (b : Bool). before (rest_at (suc n) ss) ++ (if b || (suc n == 0) then take (length (before ss)) ss else [])) e
        ∙ ap (λ (b : Bool). before (rest_at (suc n) ss) ++ (if b then take (length (before ss)) ss else [])) z
        ∙ stretched ss (rest_at (suc n) ss) n (Some (unwrap_or (behind (rest_at (suc n) ss)) [])) (wait_left (rest_at (suc n) ss) (let other : suc n ≢ waits ss = number_isnt (suc n) (waits ss) e in omega (arith, left, h, other)))

-- what is left behind the next wait
pub onward_rest : (q : ℕ) (ss : List Statement) → q ≤ waits ss → 1 ≤ waits ss → onward ss (rest_at q ss) ≡ rest_at (next_point q ss) ss
onward_rest q ss h some = go (q == waits ss) refl
  where
    left : waits (rest_at q ss) + q ≡ waits ss
    left = rest_waits q ss h

    go : (a : Bool) → (q == waits ss) ≡ a → onward ss (rest_at q ss) ≡ rest_at (if q == waits ss then 1 else suc q) ss
    go true e =
        ap (λ (o : Option (List Statement)). unwrap_or o (unwrap_or (behind ss) [])) (none_left (rest_at q ss) (let same = number_is q (waits ss) e in omega (arith, left)))
        ∙ sym (ap (λ (b : Bool). rest_at (if b then 1 else suc q) ss) e)
    go false e =
        let some_left = wait_left (rest_at q ss) (let other : q ≢ waits ss = number_isnt q (waits ss) e in omega (arith, left, h, other)) in
        ap (λ (o : Option (List Statement)). unwrap_or o (unwrap_or (behind ss) [])) some_left
        ∙ sym (rest_step q ss)
        ∙ sym (ap (λ (b : Bool). rest_at (if b then 1 else suc q) ss) e)

-- the next point is one again
pub next_within : (q : ℕ) (ss : List Statement) → q ≤ waits ss → 1 ≤ waits ss → next_point q ss ≤ waits ss
next_within q ss h some = go (q == waits ss) refl
  where
    go : (a : Bool) → (q == waits ss) ≡ a → (if q == waits ss then 1 else suc q) ≤ waits ss
    go true e = subst (λ (b : Bool). (if b then 1 else suc q) ≤ waits ss) (sym e) some
    go false e = subst (λ (b : Bool). (if b then 1 else suc q) ≤ waits ss) (sym e) (let other : q ≢ waits ss = number_isnt q (waits ss) e in omega (arith, h, other))

-- ---- the place of the first wait

before_within : (ss : List Statement) → length (before ss) ≤ length ss
before_within [] = omega arith
before_within (s ∷ ss) = go (is_wait s) (before_within ss)
  where
    go : (a : Bool) → length (before ss) ≤ length ss → length (if a then [] else s ∷ before ss) ≤ suc (length ss)
    go true h = omega arith
    go false h = omega arith

pub place_within : (ss : List Stmt) → length (before (statements_of ss)) ≤ length ss
place_within ss = let h = before_within (statements_of ss) in omega (arith, h, length-map ss statement_of)

place_before : (ss : List Stmt) → length (before (statements_of ss)) ≡ position_or_len (λ s. is_wait (statement_of s)) ss
place_before = is_position_or_len (λ ss. length (before (statements_of ss))) (λ s. is_wait (statement_of s)) refl (λ s ss. one (is_wait (statement_of s)) s ss)
  where
    one : (a : Bool) (s : Stmt) (ss : List Stmt) → length (if a then [] else statement_of s ∷ before (statements_of ss)) ≡ (if a then 0 else 1 + length (before (statements_of ss)))
    one true s ss = refl
    one false s ss = omega arith

pub first_place : (ss : List Stmt) → unwrap_or (position (λ s. is_wait (statement_of s)) ss) (length ss) ≡ length (before (statements_of ss))
first_place ss = go (nat_lt (position_or_len (λ s. is_wait (statement_of s)) ss) (length ss)) refl
  where
    go : (a : Bool) → nat_lt (position_or_len (λ s. is_wait (statement_of s)) ss) (length ss) ≡ a
        → unwrap_or (if a then Some (position_or_len (λ s. is_wait (statement_of s)) ss) else None) (length ss) ≡ length (before (statements_of ss))
    go true e = sym (place_before ss)
    go false e = let past = not_below _ _ e in let within = place_within ss in let same = place_before ss in omega arith
