-- A run that takes the first event that may be taken, edge by edge, computed from the definitions.
use Rattle.std.proofs.Common.{◌≡◌, inr, ◌+◌, ◌&&◌, not, ℕ, zero, suc, Bool, true, List, [], ◌∷◌, map, zip, length, slice_get, Option, Some, None, refl, ap, subst, arith}
use Rattle.std.specs.List.{list_any}
use Rattle.xt_bits.specs.Word.{Word}
use Rattle.xt_bits.specs.Stimulus.{Reply, Stimulus}
use Rattle.xt_bits.specs.Trace.{Trace}
use Rattle.el_design.specs.Plain.{FlatNet, Flat}
use Rattle.el_design.specs.Store.{Store, start_store}
use Rattle.el_design.specs.Queue.{Config, scene_of, net_aim, Event, take, ready, is_stuck, is_empty, IsAtRest}
use Rattle.el_design.specs.Run.{IsSettled, started, woken, Takes, Any, First, Goes, Runs, rest_seen}
use Rattle.el_design.specs.Queue.{Telling}
use Rattle.el_design.specs.Laws.{EdgeBegins}
use Rattle.el_design.specs.Laws as edges
use Rattle.el_design.proofs.Sample.{nets_once, settled}
use Rattle.el_design.proofs.OrderLists.{some_is}
use Rattle.el_design.proofs.WaysPuts.{left_of, right_of, not_so}
use Rattle.el_witness.specs.MeterRun.{tellings, EdgeTells}

module _ (d : Flat) where
  -- the first event that may be taken, and so on, so many at most
  abbrev pub first_of : List Event → Option Event
  first_of [] = None
  first_of (e ∷ es) = Some e

  abbrev pub added : Event → List Event × Config → List Event × Config
  added e x = (e ∷ x.0, x.1)

  abbrev pub taken : (Config → List Event × Config) → Config → Event → Option Config → List Event × Config
  taken more c e None = ([], c)
  taken more c e (Some mid) = added e (more mid)

  abbrev pub chosen : (Config → List Event × Config) → Config → Option Event → List Event × Config
  chosen more c None = ([], c)
  chosen more c (Some e) = taken more c e (take d c e)

  abbrev pub plays : ℕ → Config → List Event × Config
  plays zero c = ([], c)
  plays (suc n) c = chosen (plays n) c (first_of (ready d c))

  abbrev pub Taking : ℕ → Config → List Event × Config → Type 0
  Taking k c x = Takes d Any k c x.0 x.1

  pub plays_takes : (n k : ℕ) (c : Config) → Taking k c (plays n c)
  plays_takes zero k c = refl
  plays_takes (suc n) k c = go (first_of (ready d c)) (plays_takes n (suc k))
    where
      step : (e : Event) (o : Option Config) → take d c e ≡ o → ((mid : Config) → Taking (suc k) mid (plays n mid)) → Taking k c (taken (plays n) c e o)
      step e None i more = refl
      step e (Some mid) i more = (tt, (mid, i, more mid))

      go : (o : Option Event) → ((mid : Config) → Taking (suc k) mid (plays n mid)) → Taking k c (chosen (plays n) c o)
      go None more = refl
      go (Some e) more = step e (take d c e) refl more

  -- each of them is the first
  first_is : (es : List Event) (e : Event) → first_of es ≡ Some e → slice_get es 0 ≡ Some e
  first_is [] e i = cc
  first_is (x ∷ xs) e i = i

  abbrev TakingFirst : ℕ → Config → List Event × Config → Type 0
  TakingFirst k c x = Takes d First k c x.0 x.1

  pub plays_first : (n k : ℕ) (c : Config) → TakingFirst k c (plays n c)
  plays_first zero k c = refl
  plays_first (suc n) k c = go (first_of (ready d c)) refl (plays_first n (suc k))
    where
      step : (e : Event) → First k (ready d c) e → (o : Option Config) → take d c e ≡ o → ((mid : Config) → TakingFirst (suc k) mid (plays n mid)) → TakingFirst k c (taken (plays n) c e o)
      step e f None i more = refl
      step e f (Some mid) i more = (f, (mid, i, more mid))

      go : (o : Option Event) → first_of (ready d c) ≡ o → ((mid : Config) → TakingFirst (suc k) mid (plays n mid)) → TakingFirst k c (chosen (plays n) c o)
      go None i more = refl
      go (Some e) i more = step e (first_is (ready d c) e i) (take d c e) refl more

  -- ---- edges

  pub at_place : (row : List Word) (store : Store) (nets : List Word) (i : ℕ) (xs : List FlatNet) (n : ℕ) (net : FlatNet) →
      slice_get xs n ≡ Some net → (k : ℕ) → i + n ≡ k → slice_get (nets_once d row store nets i xs) n ≡ Some (net_aim d row (scene_of d store nets) k net)
  at_place row store nets i [] n net e k m = absurd (let f : None ≡ Some net = e in cc)
  at_place row store nets i (x ∷ xs) zero net e k m =
      let same : i ≡ k = omega (arith, m) in
      let is : x ≡ net = some_is x net e in
      subst (λ j. Some (net_aim d row (scene_of d store nets) i x) ≡ Some (net_aim d row (scene_of d store nets) j net)) same (ap (λ y. Some (net_aim d row (scene_of d store nets) i y)) is)
  at_place row store nets i (x ∷ xs) (suc n) net e k m = at_place row store nets (suc i) xs n net e k (omega (arith, m))

  size_once : (row : List Word) (store : Store) (nets : List Word) (i : ℕ) (xs : List FlatNet) → length (nets_once d row store nets i xs) ≡ length xs
  size_once row store nets i [] = refl
  size_once row store nets i (x ∷ xs) = ap suc (size_once row store nets (suc i) xs)

  -- values that following each net once leaves as they are
  pub settled_is : (row : List Word) (store : Store) (nets : List Word) → nets_once d row store nets 0 d.nets ≡ nets → IsSettled d row store nets
  settled_is row store nets e = record {
    size = subst (λ ns. length ns ≡ length d.nets) e (size_once row store nets 0 d.nets);
    each = λ n net i. subst (λ ns. slice_get ns n ≡ Some (net_aim d row (scene_of d store nets) n net)) e (at_place row store nets 0 d.nets n net i n (omega arith));
  }

  abbrev pub edge_end : Config → Config
  edge_end c = (plays 200 c).1

  abbrev pub next_edge : Config → List Word → Config
  next_edge last row = record { edge = suc last.edge; row = row; store = last.store; nets = settled d row last.store; procs = map woken last.procs }

  abbrev pub rested : Config → Bool
  rested c = is_empty (ready d c) && not (list_any is_stuck c.procs)

  abbrev pub SettledNow : Config → Type 0
  SettledNow c = nets_once d c.row c.store c.nets 0 d.nets ≡ c.nets

  no_event : (es : List Event) → is_empty es ≡ true → es ≡ []
  no_event [] e = refl
  no_event (x ∷ xs) e = cc

  pub rests : (c : Config) → rested c ≡ true → IsAtRest d c
  rests c h = (no_event (ready d c) (left_of (is_empty (ready d c)) (not (list_any is_stuck c.procs)) h), not_so (list_any is_stuck c.procs) (right_of (is_empty (ready d c)) (not (list_any is_stuck c.procs)) h))

  abbrev pub listed_first : (Config → List (List Event)) → List Event × Config → List (List Event)
  listed_first more x = x.0 ∷ more x.1

  -- the events of the edges that are left, what is seen of them, and whether each comes to rest with its nets settled as it began
  abbrev pub rest_plays : List (List Word) → Config → List (List Event)
  rest_plays [] last = []
  rest_plays (row ∷ rows) last = listed_first (rest_plays rows) (plays 200 (next_edge last row))

  abbrev pub rest_trace : List (List Word) → Config → Trace
  rest_trace [] last = rest_seen d last ∷ []
  rest_trace (row ∷ rows) last = rest_seen d last ∷ rest_trace rows (plays 200 (next_edge last row)).1

  abbrev pub AllRest : List (List Word) → Config → Type 0
  AllRest [] last = rested last ≡ true
  AllRest (row ∷ rows) last = (rested last ≡ true) × SettledNow (next_edge last row) × AllRest rows (plays 200 (next_edge last row)).1

  pub goes : (rows : List (List Word)) (k : ℕ) (last : Config) → AllRest rows last → Goes d Any k last rows (rest_plays rows last) (rest_trace rows last)
  goes [] k last h = inr (rests last h, refl, refl)
  goes (row ∷ rows) k last h =
      let begin : Config = next_edge last row in
      let x : List Event × Config = plays 200 begin in (
        rests last h.0,
        (
          row,
          rows,
          begin,
          x.1,
          rest_trace rows x.1,
          refl,
          refl,
          record { edge = refl; row = refl; store = refl; procs = refl; nets = settled_is row last.store begin.nets h.1 },
          plays_takes 200 k begin,
          goes rows (k + length x.0) x.1 h.2,
        ),
      )

  -- ---- a run

  abbrev pub first_edge : List Word → List (List Reply) → Config
  first_edge row replies = record { edge = 0; row = row; store = start_store d; nets = settled d row (start_store d); procs = map started (zip d.procs replies) }

  pub runs : (row : List Word) (rows : List (List Word)) (replies : List (List Reply)) → SettledNow (first_edge row replies) → AllRest rows (plays 200 (first_edge row replies)).1 →
      (all : List (List Event)) × Runs d (record { rows = row ∷ rows; replies = replies }) all (rest_trace rows (plays 200 (first_edge row replies)).1)
  runs row rows replies s h =
      let begin : Config = first_edge row replies in
      let x : List Event × Config = plays 200 begin in (
        x.0 ∷ rest_plays rows x.1,
        (
          row,
          rows,
          begin,
          x.1,
          refl,
          record { edge = refl; row = refl; store = refl; procs = refl; nets = settled_is row (start_store d) begin.nets s },
          plays_takes 200 0 begin,
          goes rows (length x.0) x.1 h,
        ),
      )

  -- ---- edges of that run

  pub begins : (row : List Word) (rows : List (List Word)) (replies : List (List Reply)) → SettledNow (first_edge row replies) →
      EdgeBegins d (record { rows = row ∷ rows; replies = replies }) rows (first_edge row replies)
  begins row rows replies s =
      let begin : Config = first_edge row replies in
      edges.first_edge refl (record { edge = refl; row = refl; store = refl; procs = refl; nets = settled_is row (start_store d) begin.nets s })

  pub goes_on : (x : Stimulus) (row : List Word) (rows : List (List Word)) (begin : Config) → EdgeBegins d x (row ∷ rows) begin → rested (edge_end begin) ≡ true →
      SettledNow (next_edge (edge_end begin) row) → EdgeBegins d x rows (next_edge (edge_end begin) row)
  goes_on x row rows begin b r s =
      let last : Config = edge_end begin in
      let next : Config = next_edge last row in
      edges.next_edge (plays 200 begin).0 b (plays_takes 200 0 begin) (rests last r) (record { edge = refl; row = refl; store = refl; procs = refl; nets = settled_is row last.store next.nets s })

  pub edge_tells : (x : Stimulus) (rows : List (List Word)) (begin : Config) (telling : List Telling) → EdgeBegins d x rows begin → rested (edge_end begin) ≡ true →
      tellings d begin (plays 200 begin).0 ≡ map Some telling → EdgeTells d x rows telling
  edge_tells x rows begin telling b r t = (begin, (plays 200 begin).0, edge_end begin, b, plays_first 200 0 begin, rests (edge_end begin) r, t)
