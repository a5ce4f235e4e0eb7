-- The tasks that are listed are those that are reached, process by process.
use Rattle.std.proofs.Common.{◌≡◌, ◌⊎◌, inl, inr, ℕ, zero, suc, ◌+◌, ◌<◌, ◌≤◌, Bool, true, false, List, [], ◌∷◌, ◌++◌, if◌then◌else◌, Some, Result, Ok, Err, length, slice_get, get_or, refl, sym, ◌∙◌, ap, subst, arith, length-append}
use Rattle.std.specs.Prelude.{Contains, IfOk, nat_lt, slice_index_or}
use Rattle.std.proofs.lemmas.Bool.{ltb-true}
use Rattle.std.proofs.lemmas.List.Elements.{Contains-append_left, Contains-append_right, Contains-append_cases}
use Rattle.std.proofs.lemmas.Option.{slice_get-get_or, get_or_from_slice_get}
use Rattle.xt_graph.specs.Graph.{AreReached}
use Rattle.el_design.proofs.OrderLists.{con_nil}
use Rattle.el_design.proofs.OrderPlaces.{got_left, got_middle, got_one, got_below}
use Rattle.ck_call.specs.declared.lines.Line.{Line}
use Rattle.ck_call.specs.declared.texts.Texts.{Texts}
use Rattle.ck_call.specs.inner.Routines.{text_enables, enable_rows}
use Rattle.ck_call.specs.inner.Placed.{IsReach, marked_to, reach_at, AreReaches}
use Rattle.ck_call.proofs.Recursions.{only_then, then_is}

in_marked : (marks : List Bool) (n k : ℕ) → Contains (marked_to marks n) k → (k < n) × (slice_index_or marks k false ≡ true)
in_marked marks zero k c = absurd (con_nil k c)
in_marked marks (suc n) k c = go (Contains-append_cases (marked_to marks n) (if slice_index_or marks n false then n ∷ [] else []) k c) (in_marked marks n k)
  where
    go : Contains (marked_to marks n) k ⊎ Contains (if slice_index_or marks n false then n ∷ [] else []) k → (Contains (marked_to marks n) k → (k < n) × (slice_index_or marks k false ≡ true)) → (k < suc n) × (slice_index_or marks k false ≡ true)
    go (inl h) more = let m = more h in ((let i = m.0 in omega (arith, i)), m.1)
    go (inr h) more = let o = only_then (slice_index_or marks n false) n k h in ((let e = o.1 in omega (arith, e)), subst (λ j. slice_index_or marks j false ≡ true) o.1 o.0)

marked_in : (marks : List Bool) (n k : ℕ) → k < n → slice_index_or marks k false ≡ true → Contains (marked_to marks n) k
marked_in marks zero k l e = absurd (omega (arith, l))
marked_in marks (suc n) k l e = go (nat_lt k n) refl (marked_in marks n k)
  where
    go : (b : Bool) → nat_lt k n ≡ b → (k < n → slice_index_or marks k false ≡ true → Contains (marked_to marks n) k) → Contains (marked_to marks (suc n)) k
    go true h more = Contains-append_left (marked_to marks n) (if slice_index_or marks n false then n ∷ [] else []) k (more (ltb-true k n h) e)
    go false h more =
        let i : n ≡ k = grind (arith, h, l) in
        Contains-append_right (marked_to marks n) (if slice_index_or marks n false then n ∷ [] else []) k
        (subst (λ j. Contains (if slice_index_or marks n false then n ∷ [] else []) j) i (then_is (slice_index_or marks n false) n (subst (λ j. slice_index_or marks j false ≡ true) (sym i) e)))

reach_is : (rows : List (List ℕ)) (from : List ℕ) (marks : List Bool) → AreReached rows from marks → IsReach rows from (marked_to marks (length rows))
reach_is rows from marks h n = (
  λ c. let i = in_marked marks (length rows) n c in (i.0, (h.each n i.0).0 i.1),
  λ p. marked_in marks (length rows) n p.0 ((h.each n p.0).1 p.1),
)

pub reach_result : {E : Type 0} (r : Result (List ℕ) E) (rows : List (List ℕ)) (from : List ℕ) (marks ms : List Bool) (limit : ℕ) → AreReached rows from marks → ms ≡ marks → limit ≡ length rows → IfOk r (λ all. all ≡ marked_to ms limit) → IfOk r (λ reach. IsReach rows from reach)
reach_result (Ok all) rows from marks ms limit h e l k = subst (IsReach rows from) (sym (k ∙ ap (λ z. marked_to z limit) e ∙ ap (marked_to marks) l)) (reach_is rows from marks h)
reach_result (Err x) rows from marks ms limit h e l k = tt

-- ---- process by process

past_all : (xs : List (List ℕ)) (x : List ℕ) (i : ℕ) → i ≡ length xs → slice_index_or (xs ++ x ∷ []) i [] ≡ x
past_all xs x i e = get_or_from_slice_get (xs ++ x ∷ []) i x [] (ap (slice_get (xs ++ x ∷ [])) e ∙ got_middle xs [] x)

below_all : (xs : List (List ℕ)) (x : List ℕ) (i : ℕ) → i < length xs → slice_index_or (xs ++ x ∷ []) i [] ≡ slice_index_or xs i []
below_all xs x i l = let g = got_below xs i l in get_or_from_slice_get (xs ++ x ∷ []) i g.0 [] (got_left xs (x ∷ []) i l ∙ g.1) ∙ sym (get_or_from_slice_get xs i g.0 [] g.1)

pub one_more : (t : Texts) (reaches new : List (List ℕ)) (reach from : List ℕ) (rows : List (List ℕ)) (tasks i : ℕ) (procs : List (List Line)) (ls : List Line) → AreReaches t reaches i → procs ≡ t.procs → i < length procs → ls ≡ get_or procs i ls →
    rows ≡ enable_rows t → tasks ≡ length t.tasks → from ≡ text_enables tasks ls → IsReach rows from reach → new ≡ reaches ++ reach ∷ [] → AreReaches t new (i + 1)
one_more t reaches new reach from rows tasks i procs ls h p l g r n f k e =
    subst (λ z. AreReaches t z (i + 1)) (sym e) (record {
      size = (let a : length (reaches ++ reach ∷ []) ≡ length reaches + 1 = length-append reaches (reach ∷ []) in let s : length reaches ≡ i = h.size in omega (arith, a, s));
      each = each;
    })
  where
    here : slice_get t.procs i ≡ Some ls
    here = subst (λ z. slice_get z i ≡ Some ls) p (slice_get-get_or procs i ls l ∙ ap Some (sym g))

    reached : IsReach (enable_rows t) (text_enables (length t.tasks) ls) reach
    reached = subst (λ z. IsReach z (text_enables (length t.tasks) ls) reach) r (subst (λ z. IsReach rows z reach) (f ∙ ap (λ z. text_enables z ls) n) k)

    each : (q : ℕ) (ks : List Line) → q < i + 1 → slice_get t.procs q ≡ Some ks → IsReach (enable_rows t) (text_enables (length t.tasks) ks) (reach_at (reaches ++ reach ∷ []) q)
    each q ks m o = go (nat_lt q i) refl
      where
        go : (b : Bool) → nat_lt q i ≡ b → IsReach (enable_rows t) (text_enables (length t.tasks) ks) (reach_at (reaches ++ reach ∷ []) q)
        go true w =
            let v = ltb-true q i w in
            let u : q < length reaches = (let s : length reaches ≡ i = h.size in omega (arith, v, s)) in
            subst (IsReach (enable_rows t) (text_enables (length t.tasks) ks)) (sym (below_all reaches reach q u)) (h.each q ks v o)
        go false w =
            let v : q ≡ i = grind (arith, w, m) in
            let u : q ≡ length reaches = (let s : length reaches ≡ i = h.size in omega (arith, v, s)) in
            subst (IsReach (enable_rows t) (text_enables (length t.tasks) ks)) (sym (past_all reaches reach q u))
            (subst (λ z. IsReach (enable_rows t) (text_enables (length t.tasks) z) reach) (got_one (slice_get t.procs i) ls ks here (subst (λ z. slice_get t.procs z ≡ Some ks) v o)) reached)

pub all_reaches : (t : Texts) (reaches : List (List ℕ)) (procs : List (List Line)) (i : ℕ) → AreReaches t reaches i → procs ≡ t.procs → i ≤ length procs → length procs ≤ i → AreReaches t reaches (length t.procs)
all_reaches t reaches procs i h p l m = subst (AreReaches t reaches) ((let e : i ≡ length procs = omega (arith, l, m) in e) ∙ ap length p) h
