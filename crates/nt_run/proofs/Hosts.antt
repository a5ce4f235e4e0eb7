-- Tests of the hosts one after another, each with its place.
use Rattle.std.proofs.Common.{◌≡◌, ℕ, ◌+◌, ◌<◌, ◌≤◌, List, [], length, take, get_or, Bool, true, false, not, ◌&&◌, arith, zero-add, refl, ap, sym, ◌∙◌}
use Rattle.std.specs.Prelude.{◌||◌}
use Rattle.std.specs.List.{enumerate_from, list_any}
use Rattle.std.proofs.lemmas.List.{take_all}
use Rattle.nt_core.specs.HostLine.{HostLine}
use Rattle.std.proofs.lemmas.List.FromFn.{length-enumerate_from, get_or-enumerate_from}
use Rattle.std.proofs.lemmas.List.Folds.{list_any_at, list_any_more}

-- one that passes
pub any_at : {X : Type 0} (p : ℕ × X → Bool) (xs : List X) (i : ℕ) (d : X) → i < length xs → p (i, get_or xs i d) ≡ true → list_any p (enumerate_from 0 xs) ≡ true
any_at p xs i d h e =
    list_any_at p (enumerate_from 0 xs) i (0, d) (omega (arith, h, length-enumerate_from 0 xs)) (ap p (get_or-enumerate_from 0 xs i (0, d) h) ∙ ap (λ k. p (k, get_or xs i d)) (zero-add i) ∙ e)

-- one more that doesn't
pub any_more : {X : Type 0} (p : ℕ × X → Bool) (xs : List X) (i : ℕ) (d : X) → i < length xs → list_any p (take i (enumerate_from 0 xs)) ≡ false
    → p (i, get_or xs i d) ≡ false → list_any p (take (i + 1) (enumerate_from 0 xs)) ≡ false
any_more p xs i d h before e =
    list_any_more p (enumerate_from 0 xs) i (0, d) (omega (arith, h, length-enumerate_from 0 xs))
    ∙ ap (λ b. b || p (get_or (enumerate_from 0 xs) i (0, d))) before
    ∙ ap p (get_or-enumerate_from 0 xs i (0, d) h) ∙ ap (λ k. p (k, get_or xs i d)) (zero-add i) ∙ e

-- none at all
pub any_none : {X : Type 0} (p : ℕ × X → Bool) (xs : List X) (n : ℕ) → length xs ≤ n → list_any p (take n (enumerate_from 0 xs)) ≡ false → list_any p (enumerate_from 0 xs) ≡ false
any_none p xs n h e =
    ap (list_any p) (sym (take_all n (enumerate_from 0 xs) (omega (arith, h, length-enumerate_from 0 xs)))) ∙ e

-- what a look past the end gives
abbrev pub no_host : HostLine
no_host = record { process = 0; rets = []; args = [] }

-- ---- a request that is up and isn't acknowledged

-- one that is up, without an acknowledgement
pub is_open : (up acknowledged : Bool) → up ≡ true → acknowledged ≡ false → (up && not acknowledged) ≡ true
is_open up acknowledged p q = rw (p, q) refl

-- one that is down
pub is_down : (up acknowledged : Bool) → up ≡ false → (up && not acknowledged) ≡ false
is_down up acknowledged p = rw p refl

-- one that is acknowledged
pub is_met : (up acknowledged : Bool) → acknowledged ≡ true → (up && not acknowledged) ≡ false
is_met true acknowledged p = rw p refl
is_met false acknowledged p = refl
