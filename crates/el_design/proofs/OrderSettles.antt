-- Nets settle: evaluated once for each of them and once more, each has its expression's value.
use Rattle.std.proofs.Common.{◌≡◌, ◌⊎◌, inl, inr, ℕ, zero, suc, ◌+◌, ◌<◌, ◌≤◌, List, [], ◌∷◌, Some, Contains, slice_get, get_or, map, length, option_map, refl, sym, ◌∙◌, ap, arith}
use Rattle.std.proofs.lemmas.Option.{slice_get_within, get_or_from_slice_get}
use Rattle.xt_bits.specs.Word.{Word, word}
use Rattle.el_design.specs.Plain.{Expr, FlatNet, Flat}
use Rattle.el_design.specs.Store.{Store}
use Rattle.el_design.specs.Names.{nets_in, variables_in}
use Rattle.el_design.specs.Queue.{scene_of, net_aim}
use Rattle.el_design.specs.Run.{IsSettled}
use Rattle.el_design.specs.Touches.{depends}
use Rattle.el_design.specs.Rules.{IsOrder}
use Rattle.el_design.proofs.OrderFoot.{value_same, named_nodes}
use Rattle.el_design.proofs.OrderNets.{aim_alike}
use Rattle.el_design.proofs.OrderPlaces.{got_con, got_below}
use Rattle.el_design.proofs.OrderRule.{split}

-- all nets evaluated at once
nets_once : Flat → List Word → Store → List Word → ℕ → List FlatNet → List Word
nets_once d row store nets n [] = []
nets_once d row store nets n (x ∷ xs) = net_aim d row (scene_of d store nets) n x ∷ nets_once d row store nets (suc n) xs

-- so many times
nets_after : ℕ → Flat → List Word → Store → List Word
nets_after zero d row store = map (λ x. word x.width 0) d.nets
nets_after (suc k) d row store = nets_once d row store (nets_after k d row store) 0 d.nets

once_got : (d : Flat) (row : List Word) (store : Store) (nets : List Word) (i n : ℕ) (xs : List FlatNet) →
    slice_get (nets_once d row store nets i xs) n ≡ option_map (λ x. net_aim d row (scene_of d store nets) (i + n) x) (slice_get xs n)
unfolding nets_once
once_got d row store nets i n [] = refl
once_got d row store nets i zero (x ∷ xs) = ap (λ m. Some (net_aim d row (scene_of d store nets) m x)) (let e : i ≡ i + 0 = omega arith in e)
once_got d row store nets i (suc n) (x ∷ xs) = once_got d row store nets (suc i) n xs ∙ ap (λ m. option_map (λ x. net_aim d row (scene_of d store nets) m x) (slice_get xs n)) (let e : suc i + n ≡ i + suc n = omega arith in e)

once_long : (d : Flat) (row : List Word) (store : Store) (nets : List Word) (i : ℕ) (xs : List FlatNet) → length (nets_once d row store nets i xs) ≡ length xs
unfolding nets_once
once_long d row store nets i [] = refl
once_long d row store nets i (x ∷ xs) = ap suc (once_long d row store nets (suc i) xs)

-- a net after so many times
after_got : (d : Flat) (row : List Word) (store : Store) (k n : ℕ) (net : FlatNet) → slice_get d.nets n ≡ Some net →
    slice_get (nets_after (suc k) d row store) n ≡ Some (net_aim d row (scene_of d store (nets_after k d row store)) n net)
unfolding nets_after
after_got d row store k n net is =
    once_got d row store (nets_after k d row store) 0 n d.nets ∙ ap (option_map (λ x. net_aim d row (scene_of d store (nets_after k d row store)) (0 + n) x)) is
    ∙ ap (λ m. Some (net_aim d row (scene_of d store (nets_after k d row store)) m net)) (let e : 0 + n ≡ n = omega arith in e)

after_long : (d : Flat) (row : List Word) (store : Store) (k : ℕ) → length (nets_after k d row store) ≡ length d.nets
unfolding nets_after
after_long d row store zero = Rattle.std.proofs.lemmas.List.length-map d.nets _
after_long d row store (suc k) = once_long d row store (nets_after k d row store) 0 d.nets

past : (ns : List Word) (n : ℕ) (w : Word) → length ns ≤ n → get_or ns n w ≡ w
past ns n w h = Rattle.std.proofs.lemmas.List.get_or_past ns n w h

module _ (d : Flat) (order : List ℕ) (ordered : IsOrder d order) (row : List Word) (store : Store) where
  -- a net at place i of the order doesn't change any more after i + 1 times
  abbrev Steady : ℕ → ℕ → Type 0
  Steady n k = (w : Word) → get_or (nets_after (suc k) d row store) n w ≡ get_or (nets_after k d row store) n w

  steady : (bound i n : ℕ) → i < bound → slice_get order i ≡ Some n → (k : ℕ) → suc i ≤ k → Steady n k
  steady zero i n h is k l w = absurd (omega arith)
  steady (suc bound) i n h is zero l w = absurd (omega arith)
  steady (suc bound) i n h is (suc k) l w = go (split (length d.nets) n) (λ j m c a b. steady bound j m c a k b)
    where
      go : (length d.nets ≤ n) ⊎ (n < length d.nets) → ((j m : ℕ) → j < bound → slice_get order j ≡ Some m → suc j ≤ k → Steady m k) → get_or (nets_after (suc (suc k)) d row store) n w ≡ get_or (nets_after (suc k) d row store) n w
      go (inl p) more = past (nets_after (suc (suc k)) d row store) n w (let e : length (nets_after (suc (suc k)) d row store) ≡ length d.nets = after_long d row store (suc (suc k)) in omega arith)
          ∙ sym (past (nets_after (suc k) d row store) n w (let e : length (nets_after (suc k) d row store) ≡ length d.nets = after_long d row store (suc k) in omega arith))
      go (inr p) more =
          let x = got_below d.nets n p in
          get_or_from_slice_get (nets_after (suc (suc k)) d row store) n _ w (after_got d row store (suc k) n x.0 x.1)
          ∙ aim_alike d row (scene_of d store (nets_after (suc k) d row store)) (scene_of d store (nets_after k d row store)) n x.0 (λ e v.
          value_same (λ v. Contains (variables_in e) v) (λ m. Contains (nets_in e) m) d (scene_of d store (nets_after (suc k) d row store)) (scene_of d store (nets_after k d row store))
          (record { calls = refl; words = λ u c. refl; values = λ m u c. named x.0 x.1 e v m u c }) e
          (named_nodes (λ v. Contains (variables_in e) v) (λ m. Contains (nets_in e) m) e (λ v c. c) (λ m c. c)))
          ∙ sym (get_or_from_slice_get (nets_after (suc k) d row store) n _ w (after_got d row store k n x.0 x.1))
        where
          named : (net : FlatNet) → slice_get d.nets n ≡ Some net → (e : Expr) → net.value ≡ Some e → (m : ℕ) (u : Word) → Contains (nets_in e) m → get_or (nets_after (suc k) d row store) m u ≡ get_or (nets_after k d row store) m u
          named net at e v m u c =
              let f = ordered.after i n m is (depends (record { net = net; is = at; value = v }) c) in
              more f.0 m (let g : f.0 < i = f.1 in omega arith) f.2 (let g : f.0 < i = f.1 in omega arith) u

  -- after once for each net and once more, all have settled
  pub settle_nets : (nets : List Word) × IsSettled d row store nets
  settle_nets = (nets_after (suc (suc (length order))) d row store, record { size = after_long d row store (suc (suc (length order))); each = each })
    where
      all : (m : ℕ) → Steady m (suc (length order))
      all m w = go (split (length d.nets) m)
        where
          go : (length d.nets ≤ m) ⊎ (m < length d.nets) → get_or (nets_after (suc (suc (length order))) d row store) m w ≡ get_or (nets_after (suc (length order)) d row store) m w
          go (inl p) = past (nets_after (suc (suc (length order))) d row store) m w (let e : length (nets_after (suc (suc (length order))) d row store) ≡ length d.nets = after_long d row store (suc (suc (length order))) in omega arith)
              ∙ sym (past (nets_after (suc (length order)) d row store) m w (let e : length (nets_after (suc (length order)) d row store) ≡ length d.nets = after_long d row store (suc (length order)) in omega arith))
          go (inr p) = let f = got_con order m (ordered.each m p) in let g : f.0 < length order = slice_get_within order f.0 m f.1 in steady (suc (length order)) f.0 m (omega arith) f.1 (suc (length order)) (omega arith) w

      each : (n : ℕ) (net : FlatNet) → slice_get d.nets n ≡ Some net →
          slice_get (nets_after (suc (suc (length order))) d row store) n ≡ Some (net_aim d row (scene_of d store (nets_after (suc (suc (length order))) d row store)) n net)
      each n net is = after_got d row store (suc (length order)) n net is
          ∙ ap Some (aim_alike d row (scene_of d store (nets_after (suc (length order)) d row store)) (scene_of d store (nets_after (suc (suc (length order))) d row store)) n net (λ e v.
          value_same (λ v. Contains (variables_in e) v) (λ m. Contains (nets_in e) m) d (scene_of d store (nets_after (suc (length order)) d row store)) (scene_of d store (nets_after (suc (suc (length order))) d row store))
          (record { calls = refl; words = λ u c. refl; values = λ m u c. sym (all m u) }) e
          (named_nodes (λ v. Contains (variables_in e) v) (λ m. Contains (nets_in e) m) e (λ v c. c) (λ m c. c))))
