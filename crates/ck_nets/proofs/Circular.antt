-- The breaks that are found are those of the rule on nets.
use Rattle.std.proofs.Common.{◌≡◌, inl, inr, ◌<◌, ◌+◌, ◌==◌, ℕ, zero, suc, Bool, true, false, cond, List, [], ◌∷◌, ◌++◌, length, get_or, map, drop, fold, option_map, Option, Some, None, refl, sym, ◌∙◌, ap, ap₂, subst, arith}
use Rattle.std.specs.Prelude.{Contains, slice_get, nat_lt, IsSome}
use Rattle.std.specs.List.{list_any}
use Rattle.std.proofs.lemmas.Option.{slice_get_within, slice_get-map, slice_get_read}
use Rattle.std.proofs.lemmas.List.{drop_more}
use Rattle.std.proofs.lemmas.Grind.{fold-append}
use Rattle.std.proofs.lemmas.Bool.{and_parts, and_from, or_cases, or_left, or_right, eqb-true, eq-eqb, ltb-true, lt-ltb}
use Rattle.xt_base.specs.declared.refusals.Place.{Place}
use Rattle.xt_base.specs.declared.refusals.Refusal.{Refusal}
use Rattle.xt_base.specs.First.{sooner, first, IsFirst, IsFound}
use Rattle.xt_base.proofs.First.{first_is}
use Rattle.xt_graph.specs.Graph.{row, Points, Leads, there, onward, HasCircle, AreCircles}
use Rattle.xt_graph.proofs.Lists.{points_from}
use Rattle.el_design.specs.declared.designs.Net.{Net}
use Rattle.el_design.specs.View.{net_of}
use Rattle.el_design.specs.Plain.{FlatNet, Flat}
use Rattle.el_design.specs.Touches.{DependsOn}
use Rattle.el_design.specs.Rules.{NetsInCircle, circle, Breaks, impure, recursive, misfit, disables, host_inside, nested, spins, turns, too_large, two_writers, both_kinds, across, nets_circle, IsBroken}
use Rattle.ck_nets.specs.inner.Reading.{read_by_net, graph_of, has_label, is_circular, break_of, breaks_from}
use Rattle.ck_nets.proofs.Members.{Mem, contains_mem, mem_contains, mem_left, mem_right}
use Rattle.ck_nets.proofs.Depends.{size, row_is, lead_depends, depends_step}

-- ---- tests on lists

any_one : (f : ℕ → Bool) (xs : List ℕ) → list_any f xs ≡ true → (x : ℕ) × Mem x xs × (f x ≡ true)
any_one f [] h = cc
any_one f (y ∷ xs) h = elim (or_cases (f y) (list_any f xs) h) [ inl e ↦ (y, inl refl, e) | inr e ↦ let r = any_one f xs e in (r.0, inr r.1, r.2) ]

one_any : (f : ℕ → Bool) (xs : List ℕ) (x : ℕ) → Mem x xs → f x ≡ true → list_any f xs ≡ true
one_any f [] x i h = absurd i
one_any f (y ∷ xs) x (inl e) h = or_left (f y) (list_any f xs) (ap f (sym e) ∙ h)
one_any f (y ∷ xs) x (inr i) h = or_right (f y) (list_any f xs) (one_any f xs x i h)

got : (xs : List FlatNet) (k : ℕ) → k < length xs → (x : FlatNet) × (slice_get xs k ≡ Some x)
got [] k h = absurd (omega arith)
got (x ∷ xs) zero h = (x, refl)
got (x ∷ xs) (suc k) h = got xs k (omega arith)

-- ---- the list of breaks

record IsAt (labels : List ℕ) (from : ℕ) (nets : List FlatNet) (r : Refusal) : Type 0 where
  k : ℕ
  net : FlatNet
  is : slice_get nets k ≡ Some net
  circular : is_circular labels (from + k) (read_by_net net) ≡ true
  same : r ≡ break_of net

break_at : (labels : List ℕ) (from : ℕ) (nets : List FlatNet) (r : Refusal) → Mem r (breaks_from labels from nets) → IsAt labels from nets r
break_at labels from [] r h = elim h [ ]
break_at labels from (net ∷ nets) r h = go (break_at labels (suc from) nets r) (is_circular labels from (read_by_net net)) refl h
  where
    later : IsAt labels (suc from) nets r → IsAt labels from (net ∷ nets) r
    later a = let e : suc from + a.k ≡ from + suc a.k = omega arith in
        record { k = suc a.k; net = a.net; is = a.is; circular = subst (λ n. is_circular labels n (read_by_net a.net) ≡ true) e a.circular; same = a.same }

    here : is_circular labels from (read_by_net net) ≡ true → r ≡ break_of net → IsAt labels from (net ∷ nets) r
    here c e = let f : from ≡ from + 0 = omega arith in record { k = 0; net = net; is = refl; circular = subst (λ n. is_circular labels n (read_by_net net) ≡ true) f c; same = e }

    go : (Mem r (breaks_from labels (suc from) nets) → IsAt labels (suc from) nets r) → (c : Bool) → is_circular labels from (read_by_net net) ≡ c → Mem r (cond c (break_of net ∷ []) [] ++ breaks_from labels (suc from) nets) → IsAt labels from (net ∷ nets) r
    go rest true e (inl f) = here e f
    go rest true e (inr i) = later (rest i)
    go rest false e i = later (rest i)

at_break : (labels : List ℕ) (from : ℕ) (nets : List FlatNet) (k : ℕ) (net : FlatNet) → slice_get nets k ≡ Some net → is_circular labels (from + k) (read_by_net net) ≡ true → Mem (break_of net) (breaks_from labels from nets)
at_break labels from [] k net e c = cc
at_break labels from (x ∷ nets) zero net e c =
    let f : from + 0 ≡ from = omega arith in
    let g : x ≡ net = one x net e in
    mem_left (break_of net) (cond (is_circular labels from (read_by_net x)) (break_of x ∷ []) []) (breaks_from labels (suc from) nets)
    (subst (λ b. Mem (break_of net) (cond b (break_of x ∷ []) [])) (sym (subst (λ n. is_circular labels n (read_by_net x) ≡ true) f (subst (λ y. is_circular labels (from + 0) (read_by_net y) ≡ true) (sym g) c))) (inl (ap break_of (sym g))))
  where
    one : (a b : FlatNet) → Some a ≡ Some b → a ≡ b
    one a b h = cc h
at_break labels from (x ∷ nets) (suc k) net e c =
    let f : from + suc k ≡ suc from + k = omega arith in
    mem_right (break_of net) (cond (is_circular labels from (read_by_net x)) (break_of x ∷ []) []) (breaks_from labels (suc from) nets)
    (at_break labels (suc from) nets k net e (subst (λ n. is_circular labels n (read_by_net net) ≡ true) f c))

-- ---- the rule

record IsNetBreak (d : Flat) (rule : ℕ) (at : Place) : Type 0 where
  number : rule ≡ 73
  broken : NetsInCircle d at

of_pass : (d : Flat) {pass rule : ℕ} {at : Place} → Breaks d pass rule at → pass ≡ 15 → IsNetBreak d rule at
of_pass d (impure h) e = absurd (omega (arith, e))
of_pass d (recursive h) e = absurd (omega (arith, e))
of_pass d (misfit h) e = absurd (omega (arith, e))
of_pass d (disables f h) e = absurd (omega (arith, e))
of_pass d (host_inside f h) e = absurd (omega (arith, e))
of_pass d (nested f h) e = absurd (omega (arith, e))
of_pass d (spins h) e = absurd (omega (arith, e))
of_pass d (turns h) e = absurd (omega (arith, e))
of_pass d (too_large h) e = absurd (omega (arith, e))
of_pass d (two_writers h) e = absurd (omega (arith, e))
of_pass d (both_kinds h) e = absurd (omega (arith, e))
of_pass d (across h) e = absurd (omega (arith, e))
of_pass d (nets_circle h) e = record { number = refl; broken = h }

-- a net whose value depends on itself
record IsLooped (d : Flat) (at : Place) : Type 0 where
  n : ℕ
  net : FlatNet
  is : slice_get d.nets n ≡ Some net
  on : DependsOn d n n
  place : at ≡ net.place

looped : (d : Flat) {at : Place} → NetsInCircle d at → IsLooped d at
looped d (circle {n = n} {net = net} e h) = record { n = n; net = net; is = e; on = h; place = refl }

-- where no node leads back to itself, no net's value depends on itself
pub none_broken : (d : Flat) → (HasCircle (graph_of d) → ⊥) → (rule : ℕ) (at : Place) → Breaks d 15 rule at → ⊥
none_broken d none rule at b =
    let l = looped d (of_pass d b refl).broken in
    let s = depends_step d l.on (slice_get_within d.nets l.n l.net l.is) in
    none (record { from = l.n; to = s.next; edge = s.edge; back = s.leads })

module _ (d : Flat) (labels : List ℕ) (circles : AreCircles (graph_of d) labels) where
  circular_on : (n : ℕ) (net : FlatNet) → slice_get d.nets n ≡ Some net → is_circular labels n (read_by_net net) ≡ true → DependsOn d n n
  circular_on n net is c =
      let a = any_one (has_label labels (get_or labels n 0)) (read_by_net net) c in
      let b = and_parts (nat_lt a.0 (length labels)) (get_or labels a.0 0 == get_or labels n 0) a.2 in
      let within : a.0 < length (graph_of d) = subst (λ k. a.0 < k) circles.size (ltb-true a.0 (length labels) b.0) in
      let here : n < length (graph_of d) = subst (λ k. n < k) (sym (size d)) (slice_get_within d.nets n net is) in
      let same = (circles.same a.0 n within here).0 (eqb-true (get_or labels a.0 0) (get_or labels n 0) b.1) in
      let p : Points (graph_of d) n a.0 = record { listed = subst (λ r. Contains r a.0) (sym (row_is d.nets n net is)) (mem_contains a.0 (read_by_net net) a.1); node = within } in
      lead_depends d same.0 n p

  edge_circular : (n m : ℕ) (net : FlatNet) → slice_get d.nets n ≡ Some net → Points (graph_of d) n m → Leads (Points (graph_of d)) m n → is_circular labels n (read_by_net net) ≡ true
  edge_circular n m net is p w =
      let here : n < length (graph_of d) = subst (λ k. n < k) (sym (size d)) (slice_get_within d.nets n net is) in
      let same = (circles.same m n p.node here).1 (w, onward p there) in
      one_any (has_label labels (get_or labels n 0)) (read_by_net net) m (contains_mem m (read_by_net net) (subst (λ r. Contains r m) (row_is d.nets n net is) p.listed))
      (and_from (nat_lt m (length labels)) (get_or labels m 0 == get_or labels n 0) (lt-ltb m (length labels) (subst (λ k. m < k) (sym circles.size) p.node)) (eq-eqb (get_or labels m 0) (get_or labels n 0) same))

  on_circular : (n : ℕ) (net : FlatNet) → slice_get d.nets n ≡ Some net → DependsOn d n n → is_circular labels n (read_by_net net) ≡ true
  on_circular n net is h = let s = depends_step d h (slice_get_within d.nets n net is) in edge_circular n s.next net is s.edge s.leads

  broken_is : (r : Refusal) → Contains (breaks_from labels 0 d.nets) r → IsBroken d 15 r
  broken_is r c =
      let a = break_at labels 0 d.nets r (contains_mem r (breaks_from labels 0 d.nets) c) in
      let e : 0 + a.k ≡ a.k = omega arith in
      let on = circular_on a.k a.net a.is (subst (λ n. is_circular labels n (read_by_net a.net) ≡ true) e a.circular) in
      subst (IsBroken d 15) (sym a.same) (nets_circle (circle a.is on))

  is_broken : (r : Refusal) → IsBroken d 15 r → Contains (breaks_from labels 0 d.nets) r
  is_broken r b =
      let n = of_pass d b refl in
      let l = looped d n.broken in
      let e : l.n ≡ 0 + l.n = omega arith in
      let m = at_break labels 0 d.nets l.n l.net l.is (subst (λ k. is_circular labels k (read_by_net l.net) ≡ true) e (on_circular l.n l.net l.is l.on)) in
      let same : break_of l.net ≡ r = ap₂ (λ x y. record { rule = record { 0 = x }; place = y }) (sym n.number) (sym l.place) in
      mem_contains r (breaks_from labels 0 d.nets) (subst (λ x. Mem x (breaks_from labels 0 d.nets)) same m)

  first_broken : (o : Option Refusal) (r : Refusal) → o ≡ Some r → IsFound (breaks_from labels 0 d.nets) o → IsFirst (IsBroken d 15) r
  first_broken None r e h = cc
  first_broken (Some a) r e h = subst (IsFirst (IsBroken d 15)) (one a r e) (record { broken = broken_is a h.broken; least = λ other b. h.least other (is_broken other b) })
    where
      one : (a b : Refusal) → Some a ≡ Some b → a ≡ b
      one a b f = cc f

  -- what the finder keeps is the first break of the rule
  pub is_first : (o : Option Refusal) (r : Refusal) → o ≡ first (breaks_from labels 0 d.nets) → o ≡ Some r → IsFirst (IsBroken d 15) r
  is_first o r e f = first_broken (first (breaks_from labels 0 d.nets)) r (sym e ∙ f) (first_is (breaks_from labels 0 d.nets))

  -- and where some node leads back to itself there is one
  pub is_some : (o : Option Refusal) → o ≡ first (breaks_from labels 0 d.nets) → HasCircle (graph_of d) → IsSome o
  is_some o e c = subst IsSome (sym e) (go (first (breaks_from labels 0 d.nets)) (first_is (breaks_from labels 0 d.nets)))
    where
      net : (k : ℕ) → k < length d.nets → (x : FlatNet) × (slice_get d.nets k ≡ Some x)
      net k l = got d.nets k l

      found : (b : Refusal) × Contains (breaks_from labels 0 d.nets) b
      found =
          let l : c.from < length d.nets = subst (λ k. c.from < k) (size d) (points_from (graph_of d) c.from c.to c.edge) in
          let x = net c.from l in
          let e : c.from ≡ 0 + c.from = omega arith in
          (break_of x.0, mem_contains (break_of x.0) (breaks_from labels 0 d.nets) (at_break labels 0 d.nets c.from x.0 x.1 (subst (λ k. is_circular labels k (read_by_net x.0) ≡ true) e (edge_circular c.from c.to x.0 x.1 c.edge c.back))))

      go : (o : Option Refusal) → IsFound (breaks_from labels 0 d.nets) o → IsSome o
      go None h = absurd (contains_mem found.0 [] (subst (λ bs. Contains bs found.0) h found.1))
      go (Some a) h = refl

-- ---- what the code keeps

pub row_net : (nets : List Net) (node : ℕ) (net : Net) → node < length nets → net ≡ get_or nets node net → row (map read_by_net (map net_of nets)) node ≡ read_by_net (net_of net)
row_net nets node net h is =
    row_is (map net_of nets) node (net_of net) (slice_get-map net_of nets node ∙ ap (option_map net_of) (slice_get_read nets (length nets) node net refl h is))

pub report_more : (labels : List ℕ) (nets : List Net) (node : ℕ) (net : Net) (o : Option Refusal) → node < length nets → net ≡ get_or nets node net → fold sooner o (breaks_from labels node (map net_of (drop node nets)))
    ≡ fold sooner (fold sooner o (cond (is_circular labels node (read_by_net (net_of net))) (break_of (net_of net) ∷ []) [])) (breaks_from labels (node + 1) (map net_of (drop (node + 1) nets)))
report_more labels nets node net o h is =
    let e : drop node nets ≡ net ∷ drop (node + 1) nets = drop_more nets node net h ∙ ap (λ x. x ∷ drop (node + 1) nets) (sym is) in
    let j : suc node ≡ node + 1 = omega arith in
    let rest = cond (is_circular labels node (read_by_net (net_of net))) (break_of (net_of net) ∷ []) [] in
    ap (λ ns. fold sooner o (breaks_from labels node (map net_of ns))) e
    ∙ fold-append sooner o rest (breaks_from labels (suc node) (map net_of (drop (node + 1) nets)))
    ∙ ap (λ k. fold sooner (fold sooner o rest) (breaks_from labels k (map net_of (drop (node + 1) nets)))) j

pub kept_first : (o n : Option Refusal) (ls labels : List ℕ) (ns nets : List Net) → o ≡ fold sooner n (breaks_from ls 0 (map net_of ns)) → n ≡ None → ls ≡ labels → ns ≡ nets → o ≡ first (breaks_from labels 0 (map net_of nets))
kept_first o n ls labels ns nets e f g h = e ∙ ap (λ m. fold sooner m (breaks_from ls 0 (map net_of ns))) f ∙ ap₂ (λ x y. fold sooner None (breaks_from x 0 (map net_of y))) g h
