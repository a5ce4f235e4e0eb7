-- Rule 82: how deep enables and calls nest, and the breaks that are listed are all that there are.
use Rattle.std.proofs.Common.{◌≡◌, ◌⊎◌, inl, inr, ℕ, zero, suc, ◌+◌, ◌<◌, ◌≤◌, min, true, List, [], ◌∷◌, map, Some, length, slice_get, refl, sym, ◌∙◌, ap, subst, arith}
use Rattle.std.specs.Prelude.{Contains, flat_map, nat_le, nat_lt}
use Rattle.std.proofs.lemmas.Bool.{leb-true, le-leb, lt-ltb}
use Rattle.std.proofs.lemmas.List.{length-map}
use Rattle.std.proofs.lemmas.List.Elements.{Contains-append_left, Contains-append_right, Contains-append_cases}
use Rattle.std.proofs.lemmas.Option.{get_or_from_slice_get, slice_get_within}
use Rattle.xt_base.specs.declared.refusals.Place.{Place}
use Rattle.xt_base.specs.declared.refusals.Refusal.{Refusal}
use Rattle.xt_graph.specs.Graph.{IsOrder}
use Rattle.el_design.specs.Plain.{Expr, Statement, FlatNet, FlatProc, Flat}
use Rattle.el_design.specs.Names.{nodes_of, called, calls_in, no_place}
use Rattle.el_design.specs.Calls as calls
use Rattle.el_design.specs.Calls.{Routine, TaskOf, FunctionOf, BodyIs, Uses, Chain}
use Rattle.el_design.specs.Rules as rules
use Rattle.el_design.specs.Rules.{NestsTooDeep, max_u}
use Rattle.el_design.specs.Sizes.{once, u_of, size_of, in_place}
use Rattle.el_design.proofs.OrderLists.{con_nil, con_head}
use Rattle.el_design.proofs.OrderPlaces.{con_got, got_con, con_map, con_flat, got_below}
use Rattle.el_design.proofs.WaysPuts.{one_of, first_of, second_of}
use Rattle.ck_call.specs.declared.lines.Line.{Line}
use Rattle.ck_call.specs.declared.measures.Measure.{Measure}
use Rattle.ck_call.specs.declared.nodes.Node.TheVariants as node
use Rattle.ck_call.specs.inner.Nodes.{node_of, named}
use Rattle.ck_call.specs.inner.Lines.{lines}
use Rattle.ck_call.specs.inner.Texts.{texts_of, value_line}
use Rattle.ck_call.specs.inner.Breaks.{break_at, only_if, breaks_by}
use Rattle.ck_call.specs.inner.Routines.{line_targets, text_targets, node_targets}
use Rattle.ck_call.specs.inner.Measures.{measure_at, deeper, nesting, routine_weights, measures, is_too_deep, text_measure, place_at, deep_processes, is_deep_net, nesting_breaks}
use Rattle.ck_call.proofs.Members.{any_has, has_any, only, is_only, un_filter}
use Rattle.ck_call.proofs.LinesAre.{one_named, only_one, plain_nodes}
use Rattle.ck_call.proofs.Bodies.{net_broken, broken_net, BrokenNet}
use Rattle.ck_call.proofs.Recursions.{tasks, funcs, rows, number, row_is, has_row, text_target, target_text, mapped_got, got_mapped, called_in, then_is, call_node}
use Rattle.ck_call.proofs.Tables.{all_measured, nested_in, in_nested}

module _ (d : Flat) (order : List ℕ) (ordered : IsOrder (rows d) order) where
  abbrev pub table : List Measure
  table = measures (rows d) (routine_weights (texts_of d)) order

  depth_is : {a : Routine} {s : Statement} → BodyIs d a s → (measure_at table (number d a)).depth ≡ nesting table (text_targets (tasks d) (funcs d) (lines s))
  depth_is {a = a} b = ap (λ m. m.depth) (all_measured (rows d) (routine_weights (texts_of d)) order ordered (number d a) (has_row d b)) ∙ ap (nesting table) (row_is d b)

  chain_nests : {n : ℕ} (s : Statement) → n ≤ 65 → Chain d n s → n ≤ nesting table (text_targets (tasks d) (funcs d) (lines s))
  chain_nests s l calls.no_more = omega arith
  chain_nests s l (calls.one_more {n = n} {x = x} {body = body} {r = r} h u b c) =
      let i = chain_nests body (omega (arith, l)) c in
      let j = nested_in table (text_targets (tasks d) (funcs d) (lines s)) (number d r) (text_target d s x r body h u b) in
      deep n (measure_at table (number d r)).depth (nesting table (text_targets (tasks d) (funcs d) (lines body))) (nesting table (text_targets (tasks d) (funcs d) (lines s))) (depth_is b) i j l
    where
      deep : (n k m t : ℕ) → k ≡ m → n ≤ m → deeper k ≤ t → suc n ≤ 65 → suc n ≤ t
      deep n k m t e i j l = omega (arith, e, i, j, l)

  nests_chain : (n : ℕ) (s : Statement) → n ≤ nesting table (text_targets (tasks d) (funcs d) (lines s)) → Chain d n s
  nests_chain zero s h = calls.no_more
  nests_chain (suc n) s h =
      let a = in_nested table (text_targets (tasks d) (funcs d) (lines s)) n h in
      let t = target_text d s a.0 a.1 in
      calls.one_more t.held t.used.uses t.used.body_is
      (nests_chain n t.used.body
      (low n (measure_at table a.0).depth (nesting table (text_targets (tasks d) (funcs d) (lines t.used.body))) a.2 (ap (λ z. (measure_at table z).depth) (sym t.used.is) ∙ depth_is t.used.body_is)))
    where
      low : (n k m : ℕ) → suc n ≤ deeper k → k ≡ m → n ≤ m
      low n k m h e = omega (arith, h, e)

  -- ---- processes

  process_at : (places : List Place) (from : ℕ) (procs : List (List Line)) (i : ℕ) (ls : List Line) (r : Refusal) → slice_get procs i ≡ Some ls →
      Contains (only_if (is_too_deep (text_measure table (tasks d) (funcs d) ls)) 82 (place_at places (from + i))) r → Contains (deep_processes table (tasks d) (funcs d) places from procs) r
  process_at places from [] i ls r e c = cc
  process_at places from (t ∷ more) zero ls r e c =
      let h : t ≡ ls = cc in
      let k : from + zero ≡ from = omega arith in
      Contains-append_left (only_if (is_too_deep (text_measure table (tasks d) (funcs d) t)) 82 (place_at places from)) (deep_processes table (tasks d) (funcs d) places (suc from) more) r
      (subst (λ n. Contains (only_if (is_too_deep (text_measure table (tasks d) (funcs d) t)) 82 (place_at places n)) r) k
      (subst (λ l. Contains (only_if (is_too_deep (text_measure table (tasks d) (funcs d) l)) 82 (place_at places (from + zero))) r) (sym h) c))
  process_at places from (t ∷ more) (suc i) ls r e c =
      let k : from + suc i ≡ suc from + i = omega arith in
      Contains-append_right (only_if (is_too_deep (text_measure table (tasks d) (funcs d) t)) 82 (place_at places from)) (deep_processes table (tasks d) (funcs d) places (suc from) more) r
      (process_at places (suc from) more i ls r e (subst (λ n. Contains (only_if (is_too_deep (text_measure table (tasks d) (funcs d) ls)) 82 (place_at places n)) r) k c))

  record ProcessAt (places : List Place) (from : ℕ) (procs : List (List Line)) (r : Refusal) : Type 0 where
    index : ℕ
    text : List Line
    is : slice_get procs index ≡ Some text
    found : is_too_deep (text_measure table (tasks d) (funcs d) text) ≡ true
    named : break_at 82 (place_at places (from + index)) ≡ r

  at_process : (places : List Place) (from : ℕ) (procs : List (List Line)) (r : Refusal) → Contains (deep_processes table (tasks d) (funcs d) places from procs) r → ProcessAt places from procs r
  at_process places from [] r c = absurd (con_nil r c)
  at_process places from (t ∷ more) r c =
      go (Contains-append_cases (only_if (is_too_deep (text_measure table (tasks d) (funcs d) t)) 82 (place_at places from)) (deep_processes table (tasks d) (funcs d) places (suc from) more) r c) (at_process places (suc from) more r)
    where
      go : Contains (only_if (is_too_deep (text_measure table (tasks d) (funcs d) t)) 82 (place_at places from)) r ⊎ Contains (deep_processes table (tasks d) (funcs d) places (suc from) more) r →
          (Contains (deep_processes table (tasks d) (funcs d) places (suc from) more) r → ProcessAt places (suc from) more r) → ProcessAt places from (t ∷ more) r
      go (inl k) rest =
          let o = only (is_too_deep (text_measure table (tasks d) (funcs d) t)) 82 (place_at places from) r k in
          let e : from + zero ≡ from = omega arith in
          record { index = zero; text = t; is = refl; found = o.0; named = ap (λ n. break_at 82 (place_at places n)) e ∙ o.1 }
      go (inr k) rest =
          let m = rest k in
          let e : from + suc m.index ≡ suc from + m.index = omega arith in
          record { index = suc m.index; text = m.text; is = m.is; found = m.found; named = ap (λ n. break_at 82 (place_at places n)) e ∙ m.named }

  place_is : (p : ℕ) (q : FlatProc) → slice_get d.procs p ≡ Some q → place_at (map (λ p. p.place) d.procs) p ≡ q.place
  place_is p q e = get_or_from_slice_get (map (λ p. p.place) d.procs) p q.place no_place (mapped_got (λ p. p.place) d.procs p q e)

  -- a process is as large as its measure says, up to the limit
  module _ (size_is : (q : FlatProc) → Contains d.procs q → (text_measure table (tasks d) (funcs d) (lines q.body)).size ≡ min (size_of (in_place d once) [] q.body) 20001) where
    large : (q : FlatProc) → Contains d.procs q → max_u < u_of d once q → nat_le 20000 (text_measure table (tasks d) (funcs d) (lines q.body)).size ≡ true
    large q c h = le-leb 20000 (text_measure table (tasks d) (funcs d) (lines q.body)).size (enough (size_of (in_place d once) [] q.body) (text_measure table (tasks d) (funcs d) (lines q.body)).size (size_is q c) h)
      where
        enough : (n m : ℕ) → m ≡ min n 20001 → 20000 < 1 + n → 20000 ≤ m
        enough n m e h = omega (arith, e, h)

    small : (q : FlatProc) → Contains d.procs q → nat_le 20000 (text_measure table (tasks d) (funcs d) (lines q.body)).size ≡ true → max_u < u_of d once q
    small q c h = enough (size_of (in_place d once) [] q.body) (text_measure table (tasks d) (funcs d) (lines q.body)).size (size_is q c) (leb-true 20000 (text_measure table (tasks d) (funcs d) (lines q.body)).size h)
      where
        enough : (n m : ℕ) → m ≡ min n 20001 → 20000 ≤ m → 20000 < 1 + n
        enough n m e h = omega (arith, e, h)

    at_body : (q : FlatProc) → Contains d.procs q → is_too_deep (text_measure table (tasks d) (funcs d) (lines q.body)) ≡ true → Contains (nesting_breaks table (map (λ p. p.place) d.procs) (texts_of d)) (break_at 82 q.place)
    at_body q c e =
        let g = got_con d.procs q c in
        let z : 0 + g.0 ≡ g.0 = omega arith in
        Contains-append_left (deep_processes table (tasks d) (funcs d) (map (λ p. p.place) d.procs) 0 (texts_of d).procs) (breaks_by (is_deep_net table (tasks d) (funcs d)) 82 (texts_of d).nets) (break_at 82 q.place)
        (process_at (map (λ p. p.place) d.procs) 0 (texts_of d).procs g.0 (lines q.body) (break_at 82 q.place) (mapped_got (λ p. lines p.body) d.procs g.0 q g.1)
        (subst (λ w. Contains (only_if (is_too_deep (text_measure table (tasks d) (funcs d) (lines q.body))) 82 w) (break_at 82 q.place)) (sym (place_is g.0 q g.1) ∙ ap (place_at (map (λ p. p.place) d.procs)) (sym z))
        (is_only (is_too_deep (text_measure table (tasks d) (funcs d) (lines q.body))) 82 q.place e)))

    call_target : (at : Place) (e : Expr) (f : ℕ) (body : Statement) → Contains (calls_in e) f → BodyIs d (FunctionOf f) body → Contains (line_targets (tasks d) (funcs d) (value_line at e)) (tasks d + f)
    call_target at e f body c (calls.function_body {g = g} i) =
        let b = un_filter called (nodes_of e) f c in
        let n = call_node b.0 f b.2 in
        let l : f < funcs d = (let k = slice_get_within d.funcs f g i in let h : funcs d ≡ length d.funcs = length-map d.funcs (λ f. lines f.body) in omega (arith, k, h)) in
        con_flat (node_targets (tasks d) (funcs d)) (named e) (node.Call f n.0) (tasks d + f)
        (subst (λ ns. Contains ns (node.Call f n.0)) (sym (one_named e)) (subst (λ k. Contains (plain_nodes (e ∷ [])) k) n.1 (con_map node_of (flat_map nodes_of (e ∷ [])) b.0 (con_flat nodes_of (e ∷ []) e b.0 (con_head e []) b.1))))
        (then_is (nat_lt f (funcs d)) (tasks d + f) (lt-ltb f (funcs d) l))

    pub nest_broken : (at : Place) → NestsTooDeep d at → Contains (nesting_breaks table (map (λ p. p.place) d.procs) (texts_of d)) (break_at 82 at)
    nest_broken _ (rules.process_nests {process = q} c n) =
        at_body q c
        (first_of (nat_le 65 (text_measure table (tasks d) (funcs d) (lines q.body)).depth) (nat_le 20000 (text_measure table (tasks d) (funcs d) (lines q.body)).size)
        (le-leb 65 (text_measure table (tasks d) (funcs d) (lines q.body)).depth (chain_nests q.body (omega arith) n)))
    nest_broken _ (rules.process_large {process = q} c l) =
        at_body q c (second_of (nat_le 65 (text_measure table (tasks d) (funcs d) (lines q.body)).depth) (nat_le 20000 (text_measure table (tasks d) (funcs d) (lines q.body)).size) (large q c l))
    nest_broken _ (rules.net_nests {f = f} {net = net} {e = e} {body = body} c i k b n) =
        let h = chain_nests body (omega arith) n in
        Contains-append_right (deep_processes table (tasks d) (funcs d) (map (λ p. p.place) d.procs) 0 (texts_of d).procs) (breaks_by (is_deep_net table (tasks d) (funcs d)) 82 (texts_of d).nets) (break_at 82 net.place)
        (net_broken d net e (is_deep_net table (tasks d) (funcs d)) 82 c i
        (has_any (λ r. nat_le 64 (measure_at table r).depth) (line_targets (tasks d) (funcs d) (value_line net.place e)) (tasks d + f) (call_target net.place e f body k b)
        (le-leb 64 (measure_at table (tasks d + f)).depth (subst (λ m. 64 ≤ m) (sym (depth_is b)) h))))

    deep_net : (net : FlatNet) (e : Expr) → Contains d.nets net → net.value ≡ Some e → is_deep_net table (tasks d) (funcs d) (value_line net.place e) ≡ true → NestsTooDeep d net.place
    deep_net net e c i h =
        let a = any_has (λ r. nat_le 64 (measure_at table r).depth) (line_targets (tasks d) (funcs d) (value_line net.place e)) h in
        let k = called_in d (e ∷ []) a.0 (subst (λ ns. Contains (flat_map (node_targets (tasks d) (funcs d)) ns) a.0) (one_named e) a.1) in
        let g = got_below d.funcs k.function k.below in
        let b : BodyIs d (FunctionOf k.function) g.0.body = calls.function_body g.1 in
        let deep : 64 ≤ (measure_at table (tasks d + k.function)).depth = subst (λ r. 64 ≤ (measure_at table r).depth) (sym k.is) (leb-true 64 (measure_at table a.0).depth a.2) in
        rules.net_nests c i (subst (λ w. Contains (calls_in w) k.function) (sym (only_one e k.whole k.there)) k.calls) b (nests_chain 64 g.0.body (subst (λ m. 64 ≤ m) (depth_is b) deep))

    deep_process : (q : FlatProc) → Contains d.procs q → is_too_deep (text_measure table (tasks d) (funcs d) (lines q.body)) ≡ true → NestsTooDeep d q.place
    deep_process q c e = go (one_of (nat_le 65 (text_measure table (tasks d) (funcs d) (lines q.body)).depth) (nat_le 20000 (text_measure table (tasks d) (funcs d) (lines q.body)).size) e)
      where
        go : (nat_le 65 (text_measure table (tasks d) (funcs d) (lines q.body)).depth ≡ true) ⊎ (nat_le 20000 (text_measure table (tasks d) (funcs d) (lines q.body)).size ≡ true) → NestsTooDeep d q.place
        go (inl h) = rules.process_nests c (nests_chain 65 q.body (leb-true 65 (text_measure table (tasks d) (funcs d) (lines q.body)).depth h))
        go (inr h) = rules.process_large c (small q c h)

    pub broken_nest : (r : Refusal) → Contains (nesting_breaks table (map (λ p. p.place) d.procs) (texts_of d)) r → (r.rule.0 ≡ 82) × NestsTooDeep d r.place
    broken_nest r c =
        go (Contains-append_cases (deep_processes table (tasks d) (funcs d) (map (λ p. p.place) d.procs) 0 (texts_of d).procs) (breaks_by (is_deep_net table (tasks d) (funcs d)) 82 (texts_of d).nets) r c)
      where
        process : ProcessAt (map (λ p. p.place) d.procs) 0 (texts_of d).procs r → (r.rule.0 ≡ 82) × NestsTooDeep d r.place
        process m =
            let g = got_mapped (λ p. lines p.body) d.procs m.index m.text m.is in
            let z : 0 + m.index ≡ m.index = omega arith in
            let named : break_at 82 g.0.place ≡ r = ap (break_at 82) (sym (place_is m.index g.0 g.1) ∙ ap (place_at (map (λ p. p.place) d.procs)) (sym z)) ∙ m.named in
            (ap (λ k. k.rule.0) (sym named), subst (λ k. NestsTooDeep d k.place) named (deep_process g.0 (con_got d.procs m.index g.0 g.1) (subst (λ l. is_too_deep (text_measure table (tasks d) (funcs d) l) ≡ true) (sym g.2) m.found)))

        net : BrokenNet d (is_deep_net table (tasks d) (funcs d)) 82 r → (r.rule.0 ≡ 82) × NestsTooDeep d r.place
        net b = (ap (λ k. k.rule.0) (sym b.is), subst (λ k. NestsTooDeep d k.place) b.is (deep_net b.net b.value b.there b.has b.found))

        go : Contains (deep_processes table (tasks d) (funcs d) (map (λ p. p.place) d.procs) 0 (texts_of d).procs) r ⊎ Contains (breaks_by (is_deep_net table (tasks d) (funcs d)) 82 (texts_of d).nets) r → (r.rule.0 ≡ 82) × NestsTooDeep d r.place
        go (inl k) = process (at_process (map (λ p. p.place) d.procs) 0 (texts_of d).procs r k)
        go (inr k) = net (broken_net d (is_deep_net table (tasks d) (funcs d)) 82 r k)
