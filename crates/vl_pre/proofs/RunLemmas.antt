-- What is known of the runs of a text: which run a byte is in, and what one more byte changes.
use Rattle.std.proofs.Common.{◌≡◌, ◌<◌, ◌≤◌, ◌-◌, ℕ, zero, suc, true, false, cond, List, [], ◌∷◌, ◌++◌, length, get_or, refl, sym, ◌∙◌, arith, sub-one}
use Rattle.std.proofs.lemmas.List.{get_or_default}
use Rattle.std.proofs.lemmas.Bool.{leb-true, le-leb, false≢true}
use Rattle.std.specs.List.Sorted.{IsPartitionedBy, IsPartitionPoint}
use Rattle.std.specs.Prelude.{nat_le}
use Rattle.vl_pre.specs.declared.text.Run.{Run}
use Rattle.vl_pre.specs.Runs.{no_run, run_at}

-- where the first k runs begin at the byte or before it, and the others after it, the last of the k is its run
pub run_at-split : (runs : List Run) (at k : ℕ) (last : Run) → k ≤ length runs
    → ((i : ℕ) (d : Run) → 0 ≤ i → i < k → nat_le (get_or runs i d).start at ≡ true)
    → ((i : ℕ) (d : Run) → k ≤ i → i < length runs → nat_le (get_or runs i d).start at ≡ false)
    → run_at runs at last ≡ get_or (last ∷ runs) k no_run
run_at-split [] at zero last within below above = refl
run_at-split [] at (suc k) last within below above = absurd (omega arith)
run_at-split (r ∷ rs) at zero last within below above =
    rw (above 0 no_run (omega arith) (omega arith))
    (run_at-split rs at zero last (omega arith) (λ i d _ h. absurd (omega arith)) (λ i d h l. above (suc i) d (omega arith) (omega arith)))
run_at-split (r ∷ rs) at (suc k) last within below above =
    rw (below 0 no_run (omega arith) (omega arith))
    (run_at-split rs at k r (omega arith) (λ i d h l. below (suc i) d (omega arith) (omega arith)) (λ i d h l. above (suc i) d (omega arith) (omega arith)))

-- one more run counts from its own beginning on
pub run_at-push : (runs : List Run) (run : Run) (at : ℕ) (last : Run) → run_at (runs ++ run ∷ []) at last ≡ cond (nat_le run.start at) run (run_at runs at last)
run_at-push [] run at last = refl
run_at-push (r ∷ rs) run at last = run_at-push rs run at (cond (nat_le r.start at) r last)

-- runs in order are split by whether they begin at a byte or before it
pub ordered_splits : (runs : List Run) (at : ℕ)
    → ((i j : ℕ) → i ≤ j → j < length runs → (get_or runs i no_run).start ≤ (get_or runs j no_run).start)
    → IsPartitionedBy (λ (r : Run). nat_le r.start at) runs
ordered_splits runs at ordered i j d h l e =
    let same_i : get_or runs i d ≡ get_or runs i no_run = get_or_default runs i d no_run (omega arith) in
    let same_j : get_or runs j d ≡ get_or runs j no_run = get_or_default runs j d no_run l in
    let late : (get_or runs j no_run).start ≤ at = leb-true _ _ (rw same_j at e) in
    rw same_i (le-leb _ _ (omega (arith, ordered i j h l)))

-- the runs before a place begin at the byte or before it, the others after it
abbrev pub IsSplitAt : List Run → ℕ → ℕ → Type 0
IsSplitAt runs at k = IsPartitionPoint (λ (r : Run). nat_le r.start at ≡ true) (λ (r : Run). nat_le r.start at ≡ false) runs k

-- a text that begins with a run has one before the split
pub split-positive : (runs : List Run) (at k : ℕ) → 0 < length runs → (get_or runs 0 no_run).start ≡ 0 → IsSplitAt runs at k → 1 ≤ k
split-positive runs at (suc k) some first split = omega arith
split-positive runs at zero some first split =
    let early : nat_le (get_or runs 0 no_run).start at ≡ true = le-leb _ _ (omega (arith, first)) in
    absurd (false≢true (sym (split.1 0 no_run (omega arith) some) ∙ early))

-- the last run before the split is the byte's
pub split-run : (runs : List Run) (at k : ℕ) → 1 ≤ k → k ≤ length runs → IsSplitAt runs at k → get_or runs (k - 1) no_run ≡ run_at runs at no_run
split-run runs at zero h l split = absurd (omega arith)
split-run runs at (suc k) h l split = rw sub-one (sym (run_at-split runs at (suc k) no_run l split.0 split.1))

pub split-start : (runs : List Run) (at k : ℕ) → 1 ≤ k → k ≤ length runs → IsSplitAt runs at k → (get_or runs (k - 1) no_run).start ≤ at
split-start runs at k h l split = leb-true _ _ (split.0 (k - 1) no_run (omega arith) (omega arith))
