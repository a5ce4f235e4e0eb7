-- Nets: the values of settled ones are unique, and each event of a net lowers a number.
use Rattle.std.proofs.Common.{◌≡◌, ◌⊎◌, inl, inr, ℕ, zero, suc, ◌+◌, ◌<◌, ◌≤◌, Bool, true, false, ◌&&◌, List, [], ◌∷◌, length, get_or, set, slice_get, Contains, Option, Some, None, refl, sym, ◌∙◌, ap, ap₂, subst, arith, eqb-true, ext_get_or, get_or-set_other, get_or-set_same, length-set}
use Rattle.std.proofs.lemmas.Bool.{cases_eq}
use Rattle.std.proofs.lemmas.List.{get_or_past, get_or_default}
use Rattle.std.proofs.lemmas.Option.{slice_get_within, get_or_from_slice_get}
use Rattle.xt_bits.specs.Word.{Word, word}
use Rattle.el_design.specs.Plain.{Expr, FlatNet, Flat}
use Rattle.el_design.specs.Store.{Store}
use Rattle.el_design.specs.Value.{Scene, value}
use Rattle.el_design.specs.Names.{nets_in, variables_in}
use Rattle.el_design.specs.Queue.{Config, scene, scene_of, pin_value, net_aim, has_value, are_valued}
use Rattle.el_design.specs.Run.{IsSettled}
use Rattle.el_design.specs.Touches.{DependsOn, depends}
use Rattle.el_design.specs.Rules.{IsOrder}
use Rattle.el_design.proofs.OrderPlaces.{got_con, got_one, got_past}
use Rattle.el_design.proofs.OrderFoot.{value_same, named_nodes}

-- ---- the value that a net takes

abbrev aim_of : Flat → List Word → Scene → ℕ → ℕ → Option Expr → Word
aim_of d row s n w o = elim o [ None ↦ pin_value d row n w | Some e ↦ word w (value d s e).value ]

-- it depends on the expression's value, and its width on no scene
pub aim_alike : (d : Flat) (row : List Word) (s t : Scene) (n : ℕ) (net : FlatNet) → ((e : Expr) → net.value ≡ Some e → value d s e ≡ value d t e) → net_aim d row s n net ≡ net_aim d row t n net
aim_alike d row s t n net h = go net.value h
  where
    go : (o : Option Expr) → ((e : Expr) → o ≡ Some e → value d s e ≡ value d t e) → aim_of d row s n net.width o ≡ aim_of d row t n net.width o
    go None f = refl
    go (Some e) f = ap (λ w. word net.width w.value) (f e refl)

pub aim_wide : (d : Flat) (row : List Word) (s t : Scene) (n : ℕ) (net : FlatNet) → (net_aim d row s n net).width ≡ (net_aim d row t n net).width
aim_wide d row s t n net = go net.value
  where
    go : (o : Option Expr) → (aim_of d row s n net.width o).width ≡ (aim_of d row t n net.width o).width
    go None = refl
    go (Some e) = refl

-- each net has a value of the width that it takes
pub record NetsSized (d : Flat) (row nets : List Word) : Type 0 where
  pub size : length nets ≡ length d.nets
  pub wide : (n : ℕ) (net : FlatNet) (s : Scene) → slice_get d.nets n ≡ Some net → (get_or nets n (word net.width 0)).width ≡ (net_aim d row s n net).width

pub settled_sized : (d : Flat) (row nets : List Word) (store : Store) → IsSettled d row store nets → NetsSized d row nets
settled_sized d row nets store h = record {
  size = h.size;
  wide = λ n net s is. ap (λ w. w.width) (get_or_from_slice_get nets n (net_aim d row (scene_of d store nets) n net) (word net.width 0) (h.each n net is)) ∙ aim_wide d row (scene_of d store nets) s n net;
}

-- ---- nets that have their values

abbrev pub Valued : Flat → Config → Type 0
Valued d c = (n : ℕ) (net : FlatNet) → slice_get d.nets n ≡ Some net → has_value d c n net ≡ true

valued_from : (d : Flat) (c : Config) (m : ℕ) (nets : List FlatNet) → ((k : ℕ) (net : FlatNet) → slice_get nets k ≡ Some net → has_value d c (m + k) net ≡ true) → are_valued d c m nets ≡ true
valued_from d c m [] h = refl
valued_from d c m (x ∷ xs) h =
    let e : m + 0 ≡ m = omega arith in
    let first : has_value d c m x ≡ true = subst (λ k. has_value d c k x ≡ true) e (h 0 x refl) in
    rw first (valued_from d c (suc m) xs (λ k net is. let f : m + suc k ≡ suc m + k = omega arith in subst (λ j. has_value d c j net ≡ true) f (h (suc k) net is)))

pub are_valued_all : (d : Flat) (c : Config) → Valued d c → are_valued d c 0 d.nets ≡ true
are_valued_all d c h = valued_from d c 0 d.nets (λ k net is. let e : k ≡ 0 + k = omega arith in subst (λ j. has_value d c j net ≡ true) e (h k net is))

valued_at : (d : Flat) (c : Config) (m : ℕ) (nets : List FlatNet) (k : ℕ) (net : FlatNet) → are_valued d c m nets ≡ true → slice_get nets k ≡ Some net → has_value d c (m + k) net ≡ true
valued_at d c m [] k net h is = cc
valued_at d c m (x ∷ xs) zero net h is =
    let e : m ≡ m + 0 = omega arith in
    subst (λ j. has_value d c j net ≡ true) e (subst (λ y. has_value d c m y ≡ true) (got_one (Some x) x net refl is) (both (has_value d c m x) (are_valued d c (suc m) xs) h).0)
  where
    both : (a b : Bool) → (a && b) ≡ true → (a ≡ true) × (b ≡ true)
    both true b e = (refl, e)
    both false b e = cc
valued_at d c m (x ∷ xs) (suc k) net h is =
    let e : suc m + k ≡ m + suc k = omega arith in
    subst (λ j. has_value d c j net ≡ true) e (valued_at d c (suc m) xs k net (second (has_value d c m x) (are_valued d c (suc m) xs) h) is)
  where
    second : (a b : Bool) → (a && b) ≡ true → b ≡ true
    second true b e = e
    second false b e = cc

pub all_are_valued : (d : Flat) (c : Config) → are_valued d c 0 d.nets ≡ true → Valued d c
all_are_valued d c h n net is = let e : 0 + n ≡ n = omega arith in subst (λ j. has_value d c j net ≡ true) e (valued_at d c 0 d.nets n net h is)

word_is : (a b : Word) → a.width ≡ b.width → a.value ≡ b.value → a ≡ b
word_is a b h k = ap₂ (λ w v. record { width = w; value = v }) h k

-- a net that has its value has it
pub is_aim : (d : Flat) (c : Config) (n : ℕ) (net : FlatNet) → NetsSized d c.row c.nets → slice_get d.nets n ≡ Some net → has_value d c n net ≡ true → get_or c.nets n (word net.width 0) ≡ net_aim d c.row (scene d c) n net
is_aim d c n net z is h = word_is (get_or c.nets n (word net.width 0)) (net_aim d c.row (scene d c) n net) (z.wide n net (scene d c) is) (eqb-true _ _ h)

-- a net that takes its value leaves the others, and is as wide as before
pub moved_sized : (d : Flat) (c : Config) (n : ℕ) (net : FlatNet) → NetsSized d c.row c.nets → slice_get d.nets n ≡ Some net → NetsSized d c.row (set c.nets n (net_aim d c.row (scene d c) n net))
moved_sized d c n net z is = record { size = length-set c.nets n _ ∙ z.size; wide = wide }
  where
    wide : (m : ℕ) (x : FlatNet) (s : Scene) → slice_get d.nets m ≡ Some x → (get_or (set c.nets n (net_aim d c.row (scene d c) n net)) m (word x.width 0)).width ≡ (net_aim d c.row s m x).width
    wide m x s at = go (cases_eq m n)
      where
        go : (m ≡ n) ⊎ (m ≡ n → ⊥) → (get_or (set c.nets n (net_aim d c.row (scene d c) n net)) m (word x.width 0)).width ≡ (net_aim d c.row s m x).width
        go (inr other) = ap (λ w. w.width) (get_or-set_other c.nets n m (net_aim d c.row (scene d c) n net) (word x.width 0) other) ∙ z.wide m x s at
        go (inl e) =
            let l : n < length d.nets = slice_get_within d.nets n net is in
            let k : length c.nets ≡ length d.nets = z.size in
            let one : net ≡ x = got_one (slice_get d.nets m) net x (subst (λ j. slice_get d.nets j ≡ Some net) (sym e) is) at in
            subst (λ j. (get_or (set c.nets n (net_aim d c.row (scene d c) n net)) j (word x.width 0)).width ≡ (net_aim d c.row s j x).width) (sym e)
            (ap (λ w. w.width) (get_or-set_same c.nets n (net_aim d c.row (scene d c) n net) (word x.width 0) (omega arith))
            ∙ aim_wide d c.row (scene d c) s n net ∙ ap (λ y. (net_aim d c.row s n y).width) one)

module _ (d : Flat) (order : List ℕ) (ordered : IsOrder d order) where
  -- ---- settled nets are unique

  module _ (a b : Config) (row : a.row ≡ b.row) (store : a.store ≡ b.store) (first : NetsSized d a.row a.nets) (second : NetsSized d b.row b.nets) (valued : Valued d a) (settled : Valued d b) where
    past_alike : (n : ℕ) (w : Word) → length d.nets ≤ n → get_or a.nets n w ≡ get_or b.nets n w
    past_alike n w h = let p : length a.nets ≡ length d.nets = first.size in let q : length b.nets ≡ length d.nets = second.size in get_or_past a.nets n w (omega arith) ∙ sym (get_or_past b.nets n w (omega arith))

    net_alike : (n : ℕ) (net : FlatNet) (w : Word) → slice_get d.nets n ≡ Some net → ((m : ℕ) (u : Word) → DependsOn d n m → get_or a.nets m u ≡ get_or b.nets m u) → get_or a.nets n w ≡ get_or b.nets n w
    net_alike n net w is more =
        let l : n < length d.nets = slice_get_within d.nets n net is in
        let p : length a.nets ≡ length d.nets = first.size in
        let q : length b.nets ≡ length d.nets = second.size in
        get_or_default a.nets n w (word net.width 0) (omega arith) ∙ is_aim d a n net first is (valued n net is)
        ∙ aim_alike d a.row (scene d a) (scene d b) n net alike_value
        ∙ ap (λ r. net_aim d r (scene d b) n net) row
        ∙ sym (is_aim d b n net second is (settled n net is)) ∙ get_or_default b.nets n (word net.width 0) w (omega arith)
      where
        alike_value : (e : Expr) → net.value ≡ Some e → value d (scene d a) e ≡ value d (scene d b) e
        alike_value e k =
            value_same (λ v. Contains (variables_in e) v) (λ m. Contains (nets_in e) m) d (scene d a) (scene d b)
            (record { calls = refl; words = λ v c. ap (λ s. get_or s v []) store; values = λ m u c. more m u (depends (record { net = net; is = is; value = k }) c) }) e
            (named_nodes (λ v. Contains (variables_in e) v) (λ m. Contains (nets_in e) m) e (λ v c. c) (λ m c. c))

    place_alike : (k i n : ℕ) (w : Word) → i < k → slice_get order i ≡ Some n → get_or a.nets n w ≡ get_or b.nets n w
    place_alike zero i n w h is = absurd (omega arith)
    place_alike (suc k) i n w h is = go (slice_get d.nets n) refl (λ m u c. let j : (j : ℕ) × (j < i) × (slice_get order j ≡ Some m) = ordered.after i n m is c in let l : j.0 < i = j.1 in place_alike k j.0 m u (omega arith) j.2)
      where
        go : (o : Option FlatNet) → slice_get d.nets n ≡ o → ((m : ℕ) (u : Word) → DependsOn d n m → get_or a.nets m u ≡ get_or b.nets m u) → get_or a.nets n w ≡ get_or b.nets n w
        go None e more = past_alike n w (got_past d.nets n e)
        go (Some net) e more = net_alike n net w e more

    pub nets_one : a.nets ≡ b.nets
    nets_one = ext_get_or (word 0 0) a.nets b.nets (first.size ∙ sym second.size) (λ n l. at n (got_con order n (ordered.each n (subst (λ m. n < m) first.size l))))
      where
        at : (n : ℕ) → (i : ℕ) × (slice_get order i ≡ Some n) → get_or a.nets n (word 0 0) ≡ get_or b.nets n (word 0 0)
        at n x = place_alike (suc x.0) x.0 n (word 0 0) (omega arith) x.1
