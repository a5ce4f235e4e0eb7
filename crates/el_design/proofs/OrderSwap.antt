-- Writes of different variables change places.
use Rattle.std.proofs.Common.{◌≡◌, ◌⊎◌, inl, inr, ℕ, ◌<◌, ◌≤◌, List, [], ◌∷◌, get_or, set, length, refl, sym, ◌∙◌, ap, subst, arith, get_or-set_other}
use Rattle.std.proofs.lemmas.Bool.{cases_eq, cases_lt}
use Rattle.std.proofs.lemmas.List.{set_past, set_comm, get_or_past}
use Rattle.xt_bits.specs.Word.{Word}
use Rattle.el_design.specs.Store.{Store, spot_variable, Write, put_write, put_all}
use Rattle.el_design.proofs.OrderWrites.{WritesIn, kept_all}
use Rattle.el_design.proofs.OrderSame.{new_words, length_write, length_all}

-- a variable that isn't written stays; one past the end of the store is nothing before and after
pub kept_in : (A : ℕ → Type 0) (store : Store) (ws : List Write) (v : ℕ) → WritesIn A ws → (v < length store → A v → ⊥) → get_or (put_all store ws) v [] ≡ get_or store v []
kept_in A store ws v h n = go (cases_lt v (length store))
  where
    go : (v < length store) ⊎ (length store ≤ v) → get_or (put_all store ws) v [] ≡ get_or store v []
    go (inl l) = kept_all A store ws v h (n l)
    go (inr p) = let e : length (put_all store ws) ≡ length store = length_all store ws in get_or_past (put_all store ws) v [] (omega arith) ∙ sym (get_or_past store v [] p)

-- no variable of the store is of both kinds
abbrev pub Apart : Store → (ℕ → Type 0) → (ℕ → Type 0) → Type 0
Apart store A B = (v : ℕ) → v < length store → A v → B v → ⊥

write_swap : (store : Store) (w u : Write) → (spot_variable w.spot ≡ spot_variable u.spot → length store ≤ spot_variable w.spot) → put_write (put_write store w) u ≡ put_write (put_write store u) w
write_swap store w u h = go (cases_eq (spot_variable w.spot) (spot_variable u.spot))
  where
    go : (spot_variable w.spot ≡ spot_variable u.spot) ⊎ (spot_variable w.spot ≡ spot_variable u.spot → ⊥) → put_write (put_write store w) u ≡ put_write (put_write store u) w
    go (inl e) =
        let n : length store ≤ spot_variable w.spot = h e in
        let first : put_write store w ≡ store = set_past store (spot_variable w.spot) (new_words w (get_or store (spot_variable w.spot) [])) n in
        let second : put_write store u ≡ store = set_past store (spot_variable u.spot) (new_words u (get_or store (spot_variable u.spot) [])) (omega arith) in
        ap (λ s. put_write s u) first ∙ second ∙ sym first ∙ sym (ap (λ s. put_write s w) second)
    go (inr e) =
        let x : List Word = new_words w (get_or store (spot_variable w.spot) []) in
        let y : List Word = new_words u (get_or store (spot_variable u.spot) []) in
        ap (λ ws. set (set store (spot_variable w.spot) x) (spot_variable u.spot) (new_words u ws)) (get_or-set_other store (spot_variable w.spot) (spot_variable u.spot) x [] (λ i. e (sym i)))
        ∙ set_comm store (spot_variable w.spot) (spot_variable u.spot) x y e
        ∙ sym (ap (λ ws. set (set store (spot_variable u.spot) y) (spot_variable w.spot) (new_words w ws)) (get_or-set_other store (spot_variable u.spot) (spot_variable w.spot) y [] e))

apart_write : (A B : ℕ → Type 0) (store : Store) (w : Write) → Apart store A B → Apart (put_write store w) A B
apart_write A B store w h v n = h v (subst (λ m. v < m) (length_write store w) n)

one_swap : (A B : ℕ → Type 0) (store : Store) (w : Write) (us : List Write) → A (spot_variable w.spot) → WritesIn B us → Apart store A B → put_all (put_write store w) us ≡ put_write (put_all store us) w
one_swap A B store w [] a h n = refl
one_swap A B store w (u ∷ us) a h n =
    ap (λ s. put_all s us) (write_swap store w u (λ e. go e (cases_lt (spot_variable w.spot) (length store)))) ∙ one_swap A B (put_write store u) w us a h.1 (apart_write A B store u n)
  where
    go : (spot_variable w.spot ≡ spot_variable u.spot) → (spot_variable w.spot < length store) ⊎ (length store ≤ spot_variable w.spot) → length store ≤ spot_variable w.spot
    go e (inl l) = absurd (n (spot_variable w.spot) l a (subst B (sym e) h.0))
    go e (inr p) = p

pub put_swap : (A B : ℕ → Type 0) (store : Store) (ws us : List Write) → WritesIn A ws → WritesIn B us → Apart store A B → put_all (put_all store ws) us ≡ put_all (put_all store us) ws
put_swap A B store [] us h k n = refl
put_swap A B store (w ∷ ws) us h k n = put_swap A B (put_write store w) ws us h.1 k (apart_write A B store w n) ∙ ap (λ s. put_all s ws) (one_swap A B store w us h.0 k n)
