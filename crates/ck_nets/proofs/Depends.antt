-- A net depends on another where it leads to it in the graph of nets.
use Rattle.std.proofs.Common.{◌≡◌, inl, inr, ◌<◌, ◌≤◌, ℕ, zero, suc, List, [], ◌∷◌, length, get_or, map, Option, Some, None, refl, sym, ◌∙◌, ap, subst, arith, All}
use Rattle.std.specs.Prelude.{Contains, slice_get, IfSome}
use Rattle.std.specs.List.{filter_map, cons_option}
use Rattle.std.proofs.lemmas.List.{length-map}
use Rattle.std.proofs.lemmas.List.Elements.{All-head, All-tail, All-contains}
use Rattle.std.proofs.lemmas.Option.{slice_get_within}
use Rattle.xt_graph.specs.Graph as graph
use Rattle.xt_graph.specs.Graph.{row, Points, Leads, there, onward, HasCircle}
use Rattle.el_design.specs.Plain.{Expr, Number, NetValue, Variable, MemoryWord, Select, Unary, Binary, Choice, Concat, Copies, Sign, Resize, Call, FlatNet, Flat}
use Rattle.el_design.specs.Names.{nodes_of, net_named, nets_in}
use Rattle.el_design.specs.Touches.{NetIs, DependsOn, depends, depends_through}
use Rattle.el_design.specs.Sound.{IsNode, IsFlatNet, IsExpr, IsSound, width}
use Rattle.el_design.specs.Rules as rules
use Rattle.ck_nets.specs.inner.Reading.{named_in, read_by_net, graph_of}
use Rattle.ck_nets.proofs.Members.{Mem, contains_mem, mem_contains, got_mem}

-- ---- rows of the graph

pub row_is : (nets : List FlatNet) (n : ℕ) (net : FlatNet) → slice_get nets n ≡ Some net → get_or (map read_by_net nets) n [] ≡ read_by_net net
row_is [] n net e = cc
row_is (x ∷ nets) zero net e = ap read_by_net (some_one x net e)
  where
    some_one : (a b : FlatNet) → Some a ≡ Some b → a ≡ b
    some_one a b e = cc e
row_is (x ∷ nets) (suc n) net e = row_is nets n net e

abbrev Reads : List FlatNet → ℕ → ℕ → Type 0
Reads nets n m = (net : FlatNet) × (e : Expr) × (slice_get nets n ≡ Some net) × (net.value ≡ Some e) × Contains (nets_in e) m

reads_at : (net : FlatNet) (m : ℕ) (o : Option Expr) → net.value ≡ o → Contains (named_in o) m → (e : Expr) × (net.value ≡ Some e) × Contains (nets_in e) m
reads_at net m None e c = absurd (contains_mem m [] c)
reads_at net m (Some x) e c = (x, e, c)

row_reads : (nets : List FlatNet) (n m : ℕ) → Contains (get_or (map read_by_net nets) n []) m → Reads nets n m
row_reads [] n m c = absurd (contains_mem m [] c)
row_reads (x ∷ nets) zero m c = let r = reads_at x m x.value refl c in (x, r.0, refl, r.1, r.2)
row_reads (x ∷ nets) (suc n) m c = let r = row_reads nets n m c in (r.0, r.1, r.2, r.3, r.4)

module _ (d : Flat) where
  pub size : length (graph_of d) ≡ length d.nets
  size = length-map d.nets read_by_net

  net_points : {n m : ℕ} {e : Expr} → NetIs d n e → Contains (nets_in e) m → m < length d.nets → Points (graph_of d) n m
  net_points {n = n} {m = m} i c l = record {
    listed = subst (λ r. Contains r m) (sym (row_is d.nets n i.net i.is)) (subst (λ o. Contains (named_in o) m) (sym i.value) c);
    node = subst (λ k. m < k) (sym size) l;
  }

  points_net : (n m : ℕ) → Points (graph_of d) n m → (e : Expr) × NetIs d n e × Contains (nets_in e) m
  points_net n m p = let r = row_reads d.nets n m p.listed in (r.1, record { net = r.0; is = r.2; value = r.3 }, r.4)

  depends_within : {n m : ℕ} → DependsOn d n m → n < length d.nets
  depends_within (depends {n = n} i c) = slice_get_within d.nets n i.net i.is
  depends_within (depends_through {n = n} i c r) = slice_get_within d.nets n i.net i.is

  pub lead_depends : {k m : ℕ} → Leads (Points (graph_of d)) k m → (n : ℕ) → Points (graph_of d) n k → DependsOn d n m
  lead_depends (there {a = k}) n p = let r = points_net n k p in depends r.1 r.2
  lead_depends (onward {a = k} {b = b} q h) n p = let r = points_net n k p in depends_through r.1 r.2 (lead_depends h k q)

  -- the first step of a way
  pub record Step (n m : ℕ) : Type 0 where
    pub next : ℕ
    pub edge : Points (graph_of d) n next
    pub leads : Leads (Points (graph_of d)) next m

  pub depends_step : {n m : ℕ} → DependsOn d n m → m < length d.nets → Step n m
  depends_step (depends {m = m} i c) l = record { next = m; edge = net_points i c l; leads = there }
  depends_step (depends_through {m = x} i c r) l =
      let s = depends_step r l in
      record { next = x; edge = net_points i c (depends_within r); leads = onward s.edge s.leads }

  -- ---- in a sound design an expression names nets that are there

  module _ (sound : IsSound d) where
    node_within : (x : Expr) (m : ℕ) → net_named x ≡ Some m → IsNode d x → m < length d.nets
    node_within (NetValue s n) m e h = let f : n ≡ m = cc e in let i = h.1 in subst (λ k. k < length d.nets) f (slice_get_within d.nets n i.net i.is)
    node_within (Number s b) m e h = cc
    node_within (Variable s v) m e h = cc
    node_within (MemoryWord s v i) m e h = cc
    node_within (Select s a r lsb) m e h = cc
    node_within (Unary s op a) m e h = cc
    node_within (Binary s op a b) m e h = cc
    node_within (Choice s c a b) m e h = cc
    node_within (Concat s es) m e h = cc
    node_within (Copies s n a) m e h = cc
    node_within (Sign s a) m e h = cc
    node_within (Resize s a) m e h = cc
    node_within (Call s f es) m e h = cc

    nodes_within : (xs : List Expr) (m : ℕ) → All (IsNode d) xs → Mem m (filter_map net_named xs) → m < length d.nets
    nodes_within [] m h i = absurd i
    nodes_within (x ∷ xs) m h i = go (nodes_within xs m (All-tail (IsNode d) x xs h)) (net_named x) refl i
      where
        go : (Mem m (filter_map net_named xs) → m < length d.nets) → (o : Option ℕ) → net_named x ≡ o → Mem m (cons_option o (filter_map net_named xs)) → m < length d.nets
        go rest None e j = rest j
        go rest (Some k) e (inl f) = node_within x m (e ∙ ap Some (sym f)) (All-head (IsNode d) x xs h)
        go rest (Some k) e (inr j) = rest j

    named_within : {n : ℕ} {e : Expr} → NetIs d n e → (m : ℕ) → Contains (nets_in e) m → m < length d.nets
    named_within {e = e} i m c =
        let h : IsFlatNet d i.net = All-contains (IsFlatNet d) d.nets i.net sound.nets (mem_contains i.net d.nets (got_mem d.nets _ i.net i.is)) in
        nodes_within (nodes_of e) m (at_value i.net.value e i.value h.value) (contains_mem m (nets_in e) c)
      where
        at_value : (o : Option Expr) (e : Expr) → o ≡ Some e → IfSome o (λ x. IsExpr d x × (i.net.width ≤ width x)) → All (IsNode d) (nodes_of e)
        at_value None e f h = cc
        at_value (Some x) e f h = subst (λ y. All (IsNode d) (nodes_of y)) (one x e f) h.0.nodes
          where
            one : (a b : Expr) → Some a ≡ Some b → a ≡ b
            one a b g = cc g

    -- an order of the graph is one of the design's nets
    module _ (order : List ℕ) (ordered : graph.IsOrder (graph_of d) order) where
      after : {n m : ℕ} → DependsOn d n m → (i : ℕ) → slice_get order i ≡ Some n → (j : ℕ) × (j < i) × (slice_get order j ≡ Some m)
      after (depends {n = n} {m = m} k c) i e = ordered.after i n m e (net_points k c (named_within k m c))
      after (depends_through {n = n} {m = x} k c r) i e =
          let a = ordered.after i n x e (net_points k c (named_within k x c)) in
          let b = after r a.0 a.2 in
          let p : a.0 < i = a.1 in
          let q : b.0 < a.0 = b.1 in
          (b.0, omega arith, b.2)

      pub is_order : rules.IsOrder d order
      is_order = record {
        each = λ n l. ordered.each n (subst (λ k. n < k) (sym size) l);
        size = ordered.size ∙ size;
        after = λ i n m e p. after p i e;
      }
