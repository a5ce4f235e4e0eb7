-- Each event of a net lowers a number: a digit for each net, in their order, which is up where the net hasn't its value.
use Rattle.std.proofs.Common.{◌≡◌, ℕ, ◌+◌, ◌<◌, ◌≤◌, Bool, true, false, if◌then◌else◌, List, [], ◌∷◌, ◌++◌, length, set, slice_get, Contains, Option, Some, None, refl, sym, ◌∙◌, ap, ap₂, subst, arith, eq-eqb, get_or-set_other, get_or-set_same}
use Rattle.std.proofs.lemmas.Option.{slice_get_within}
use Rattle.xt_bits.specs.Word.{word}
use Rattle.xt_bits.specs.Operators.{eq_of}
use Rattle.el_design.specs.Plain.{FlatNet, Flat}
use Rattle.el_design.specs.Names.{nets_in, variables_in}
use Rattle.el_design.specs.Queue.{Config, scene, net_aim, has_value, Follow, take_net, take}
use Rattle.el_design.specs.Touches.{DependsOn, depends}
use Rattle.el_design.specs.Rules.{IsOrder}
use Rattle.el_design.proofs.OrderLists.{con_head, con_tail}
use Rattle.el_design.proofs.OrderPlaces.{con_got, got_con, got_left, got_middle, Split, first_place}
use Rattle.el_design.proofs.OrderFoot.{value_same, named_nodes}
use Rattle.el_design.proofs.OrderNets.{aim_alike}

abbrev pub weight : List ℕ → ℕ
weight [] = 1
weight (n ∷ ns) = weight ns + weight ns

abbrev stands : Flat → Config → ℕ → Option FlatNet → Bool
stands d c n None = true
stands d c n (Some net) = has_value d c n net

abbrev digit : Bool → ℕ → ℕ
digit b w = if b then 0 else w

abbrev pub digits : Flat → List ℕ → Config → ℕ
digits d [] c = 0
digits d (n ∷ ns) c = digit (stands d c n (slice_get d.nets n)) (weight ns) + digits d ns c

digit_most : (b : Bool) (w : ℕ) → digit b w ≤ w
digit_most true w = omega arith
digit_most false w = omega arith

pub digits_below : (d : Flat) (ns : List ℕ) (c : Config) → digits d ns c < weight ns
digits_below d [] c = omega arith
digits_below d (n ∷ ns) c =
    let first : digit (stands d c n (slice_get d.nets n)) (weight ns) ≤ weight ns = digit_most (stands d c n (slice_get d.nets n)) (weight ns) in
    let rest : digits d ns c < weight ns = digits_below d ns c in
    omega arith

-- an event of a net
pub record Followed (d : Flat) (c t : Config) (n : ℕ) : Type 0 where
  pub net : FlatNet
  pub is : slice_get d.nets n ≡ Some net
  pub differs : has_value d c n net ≡ false
  pub end : record c { nets = set c.nets n (net_aim d c.row (scene d c) n net) } ≡ t

pub followed : (d : Flat) (c t : Config) (n : ℕ) → take d c (Follow n) ≡ Some t → Followed d c t n
followed d c t n h = go (slice_get d.nets n) refl h
  where
    go : (o : Option FlatNet) → slice_get d.nets n ≡ o → take_net d c n o ≡ Some t → Followed d c t n
    go None e k = cc
    go (Some net) e k = choose (has_value d c n net) refl k
      where
        choose : (b : Bool) → has_value d c n net ≡ b → (if b then None else Some (record c { nets = set c.nets n (net_aim d c.row (scene d c) n net) })) ≡ Some t → Followed d c t n
        choose true f m = cc
        choose false f m = record { net = net; is = e; differs = f; end = cc }

module _ (d : Flat) (order : List ℕ) (ordered : IsOrder d order) (c : Config) (n : ℕ) (net : FlatNet) (size : length c.nets ≡ length d.nets) (is : slice_get d.nets n ≡ Some net) (differs : has_value d c n net ≡ false) where
  abbrev moved : Config
  moved = record c { nets = set c.nets n (net_aim d c.row (scene d c) n net) }

  aim_still : (m : ℕ) (x : FlatNet) → slice_get d.nets m ≡ Some x → (DependsOn d m n → ⊥) → net_aim d c.row (scene d moved) m x ≡ net_aim d c.row (scene d c) m x
  aim_still m x at apart = aim_alike d c.row (scene d moved) (scene d c) m x (λ e k.
      value_same (λ v. Contains (variables_in e) v) (λ j. Contains (nets_in e) j) d (scene d moved) (scene d c)
      (record { calls = refl; words = λ v i. refl; values = λ j w i. get_or-set_other c.nets n j (net_aim d c.row (scene d c) n net) w (λ same. apart (depends (record { net = x; is = at; value = k }) (subst (λ u. Contains (nets_in e) u) same i))) }) e
      (named_nodes (λ v. Contains (variables_in e) v) (λ j. Contains (nets_in e) j) e (λ v i. i) (λ j i. i)))

  -- the net has its value then
  now_stands : (DependsOn d n n → ⊥) → stands d moved n (slice_get d.nets n) ≡ true
  now_stands apart =
      let l : n < length d.nets = slice_get_within d.nets n net is in
      ap (stands d moved n) is ∙ eq-eqb _ _ (ap (λ w. w.value) (get_or-set_same c.nets n (net_aim d c.row (scene d c) n net) (word net.width 0) (omega arith) ∙ sym (aim_still n net is apart)))

  -- another that doesn't depend on it stands as before
  still_stands : (m : ℕ) → (m ≡ n → ⊥) → (DependsOn d m n → ⊥) → stands d moved m (slice_get d.nets m) ≡ stands d c m (slice_get d.nets m)
  still_stands m other apart = go (slice_get d.nets m) refl
    where
      go : (o : Option FlatNet) → slice_get d.nets m ≡ o → stands d moved m o ≡ stands d c m o
      go None e = refl
      go (Some x) e = ap₂ (λ a b. eq_of a b) (get_or-set_other c.nets n m (net_aim d c.row (scene d c) n net) (word x.width 0) other) (aim_still m x e apart)

  abbrev Earlier : List ℕ → Type 0
  Earlier ms = (m : ℕ) → Contains ms m → (m ≡ n → ⊥) × (DependsOn d m n → ⊥)

  lower : (before after : List ℕ) → Earlier before → (DependsOn d n n → ⊥) → digits d (before ++ n ∷ after) moved < digits d (before ++ n ∷ after) c
  lower [] after h apart =
      let rest : digits d after moved < weight after = digits_below d after moved in
      let was : digit (stands d c n (slice_get d.nets n)) (weight after) ≡ weight after = ap (λ b. digit b (weight after)) (ap (stands d c n) is ∙ differs) in
      let now : digit (stands d moved n (slice_get d.nets n)) (weight after) ≡ 0 = ap (λ b. digit b (weight after)) (now_stands apart) in
      omega arith
  lower (m ∷ ms) after h apart =
      let first : (m ≡ n → ⊥) × (DependsOn d m n → ⊥) = h m (con_head m ms) in
      let same : digit (stands d moved m (slice_get d.nets m)) (weight (ms ++ n ∷ after)) ≡ digit (stands d c m (slice_get d.nets m)) (weight (ms ++ n ∷ after)) = ap (λ b. digit b (weight (ms ++ n ∷ after))) (still_stands m first.0 first.1) in
      let rest : digits d (ms ++ n ∷ after) moved < digits d (ms ++ n ∷ after) c = lower ms after (λ k i. h k (con_tail m k ms i)) apart in
      omega arith

  lower_order : digits d order moved < digits d order c
  lower_order = go (first_place order n (ordered.each n (slice_get_within d.nets n net is)))
    where
      go : Split order n → digits d order moved < digits d order c
      go s = subst (λ ns. digits d ns moved < digits d ns c) (sym s.is) (lower s.before s.after earlier (none n (length s.before) (omega arith) (ap (λ ns. slice_get ns (length s.before)) s.is ∙ got_middle s.before s.after n)))
        where
          -- what stands there or before doesn't depend on the net: that net would stand before it
          none : (m i : ℕ) → i ≤ length s.before → slice_get order i ≡ Some m → DependsOn d m n → ⊥
          none m i l at dep =
              let j : (j : ℕ) × (j < i) × (slice_get order j ≡ Some n) = ordered.after i m n at dep in
              let k : j.0 < i = j.1 in
              let inside : j.0 < length s.before = omega arith in
              s.fresh (con_got s.before j.0 n (sym (got_left s.before (n ∷ s.after) j.0 inside) ∙ sym (ap (λ ns. slice_get ns j.0) s.is) ∙ j.2))

          earlier : Earlier s.before
          earlier m c = (λ e. s.fresh (subst (Contains s.before) e c), at (got_con s.before m c))
            where
              at : (i : ℕ) × (slice_get s.before i ≡ Some m) → DependsOn d m n → ⊥
              at x =
                  let l : x.0 < length s.before = slice_get_within s.before x.0 m x.1 in
                  none m x.0 (omega arith) (ap (λ ns. slice_get ns x.0) s.is ∙ got_left s.before (n ∷ s.after) x.0 l ∙ x.1)

pub digits_lower : (d : Flat) (order : List ℕ) (c t : Config) (n : ℕ) → IsOrder d order → length c.nets ≡ length d.nets → take d c (Follow n) ≡ Some t → digits d order t < digits d order c
digits_lower d order c t n ordered size h =
    let f : Followed d c t n = followed d c t n h in
    subst (λ x. digits d order x < digits d order c) f.end (lower_order d order ordered c n f.net size f.is f.differs)
