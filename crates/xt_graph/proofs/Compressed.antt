-- Rows that are parts of one list.
use Rattle.std.proofs.Common.{◌≡◌, ◌≤◌, ◌-◌, ℕ, zero, suc, List, [], ◌∷◌, ◌++◌, length, get_or, set, take, drop, map, All, Some, None, refl, sym, ◌∙◌, ap, ap₂, arith, Vec, Global, Option}
use Rattle.std.specs.Prelude.{slice_range, slice_get, Result, Ok, Err, OnErr}
use Rattle.std.proofs.lemmas.List.{take-append-le, drop-append-le, drop_at, take_all, length-append, length-drop, map-append, map-set}
use Rattle.std.proofs.lemmas.List.Elements.{All-head, All-tail}
use Rattle.xt_graph.specs.declared.graph.Row.{Row}
use Rattle.xt_graph.specs.inner.Reversing.{noted}

abbrev Fits : List ℕ → Row → Type 0
Fits ts r = (r.from ≤ r.to) × (r.to ≤ length ts)

-- a part of a list is that of a longer one
part_kept : (ts more : List ℕ) (a b : ℕ) → a ≤ b → b ≤ length ts → slice_range (ts ++ more) a b ≡ slice_range ts a b
part_kept ts more a b h k =
    ap (take (b - a)) (drop-append-le a ts more (omega arith)) ∙ take-append-le (b - a) (drop a ts) more (let l = length-drop a ts in omega (arith, l))

rows_kept : (ts more : List ℕ) (rows : List Row) → All (Fits ts) rows → map (λ r. slice_range (ts ++ more) r.from r.to) rows ≡ map (λ r. slice_range ts r.from r.to) rows
rows_kept ts more [] h = refl
rows_kept ts more (r ∷ rows) h =
    let f : (r.from ≤ r.to) × (r.to ≤ length ts) = All-head (Fits ts) r rows h in
    ap₂ (λ x xs. x ∷ xs) (part_kept ts more r.from r.to f.0 f.1) (rows_kept ts more rows (All-tail (Fits ts) r rows h))

-- the last part of a longer one
part_new : (ts more : List ℕ) (a b : ℕ) → a ≡ length ts → b ≡ length (ts ++ more) → slice_range (ts ++ more) a b ≡ more
part_new ts more a b e f =
    let d : drop a (ts ++ more) ≡ more = drop_at ts more a (sym e) in
    let l = length-append ts more in
    ap (take (b - a)) d ∙ take_all (b - a) more (omega (arith, e, f, l))

rows_pushed : (ts more : List ℕ) (rows : List Row) (a b : ℕ) → All (Fits ts) rows → a ≡ length ts → b ≡ length (ts ++ more) →
    map (λ r. slice_range (ts ++ more) r.from r.to) (rows ++ (record { from = a; to = b }) ∷ []) ≡ map (λ r. slice_range ts r.from r.to) rows ++ more ∷ []
rows_pushed ts more rows a b h e f =
    map-append (λ r. slice_range (ts ++ more) r.from r.to) rows (record { from = a; to = b } ∷ [])
    ∙ ap₂ (λ xs ys. xs ++ ys) (rows_kept ts more rows h) (ap (λ x. x ∷ []) (part_new ts more a b e f))

module _ (ts t after : List ℕ) (rows : List Row) (g : List (List ℕ)) (is : map (λ r. slice_range ts r.from r.to) rows ≡ g) (fit : All (Fits ts) rows) (more : after ≡ ts ++ t) where
  pub push_kept : (new : List Row) → new ≡ rows → map (λ r. slice_range after r.from r.to) new ≡ g
  push_kept new e = ap₂ (λ us rs. map (λ r. slice_range us r.from r.to) rs) more e ∙ rows_kept ts t rows fit ∙ is

  pub push_made : (new : List Row) (a b : ℕ) → a ≡ length ts → b ≡ length after → new ≡ rows ++ (record { from = a; to = b }) ∷ [] → map (λ r. slice_range after r.from r.to) new ≡ g ++ t ∷ []
  push_made new a b e f h = ap₂ (λ us rs. map (λ r. slice_range us r.from r.to) rs) more h ∙ rows_pushed ts t rows a b fit e (f ∙ ap length more) ∙ ap (λ x. x ++ t ∷ []) is

-- a row among lists
pub items_at : (rows : List (Vec ℕ Global)) (k : ℕ) (v : Vec ℕ Global) → slice_get rows k ≡ Some v → get_or (map (λ r. r.items) rows) k [] ≡ v.items
items_at [] k v e = cc
items_at (r ∷ rows) zero v e = ap (λ o. items_or o) e
  where
    items_or : Option (Vec ℕ Global) → List ℕ
    items_or None = []
    items_or (Some x) = x.items
items_at (r ∷ rows) (suc k) v e = items_at rows k v e

pub noted_row : (rows : List (Vec ℕ Global)) (n t : ℕ) (v u : Vec ℕ Global) → slice_get rows t ≡ Some v → u.items ≡ v.items ++ n ∷ [] → map (λ r. r.items) (set rows t u) ≡ noted n (map (λ r. r.items) rows) t
noted_row rows n t v u e f = map-set (λ r. r.items) rows t u ∙ ap (set (map (λ r. r.items) rows) t) (f ∙ ap (λ x. x ++ n ∷ []) (sym (items_at rows t v e)))

pub given_err : {T E P : Type 0} (r : Result T E) → P → OnErr r P
given_err (Ok x) p = tt
given_err (Err e) p = p
