-- Rule 50: the breaks that are listed are all that there are.
use Rattle.std.proofs.Common.{◌≡◌, ◌⊎◌, inl, inr, ◌||◌, ◌&&◌, not, ℕ, Bool, true, false, List, [], ◌∷◌, ◌++◌, map, Option, Some, None, length, slice_get, refl, sym, ◌∙◌, ap, subst}
use Rattle.std.specs.Prelude.{Contains, flat_map, nat_le}
use Rattle.std.specs.List.{list_any, list_all, filter_map}
use Rattle.std.proofs.lemmas.List.Elements.{Contains-append_left, Contains-append_right, Contains-append_cases, filter_map-append}
use Rattle.xt_base.specs.declared.refusals.Place.{Place}
use Rattle.xt_base.specs.declared.refusals.Refusal.{Refusal}
use Rattle.el_design.specs.declared.designs.Var.{Var}
use Rattle.el_design.specs.Plain as plain
use Rattle.el_design.specs.Plain.{Expr, Statement, Null, Skip, Seq, Block, Assign, If, Case, Arm, For, While, Repeat, Forever, Wait, Enable, Disable, Host, FlatFunc, Flat}
use Rattle.el_design.specs.Names.{nodes_of, variable_named, net_named, called, own_expressions, own_targets, target_variables, place_of_statement}
use Rattle.el_design.specs.Purity.{contains_number, variables_of, is_foreign, names_outside, reads_early, leaves_result}
use Rattle.el_design.specs.Calls as calls
use Rattle.el_design.specs.Calls.{IsImpure, IsPlaceOfFunction}
use Rattle.el_design.proofs.OrderLists.{con_nil}
use Rattle.el_design.proofs.OrderPlaces.{con_flat}
use Rattle.el_design.proofs.WaysPuts.{one_of, first_of, second_of}
use Rattle.ck_call.specs.inner.Nodes.{node_of}
use Rattle.ck_call.specs.inner.Lines.{form_of, line_of, lines}
use Rattle.ck_call.specs.inner.Breaks.{break_at, only_if, breaks_by, is_foreign_form, is_outside, is_impure, result_breaks, fails, function_breaks, purity_breaks}
use Rattle.ck_call.proofs.Members.{un_flat, only, is_only}
use Rattle.ck_call.proofs.LinesAre.{is_real, own_is, stored_is}
use Rattle.ck_call.proofs.Bodies.{body_broken, broken_body, Broken}
use Rattle.ck_call.proofs.Scans.{same_early, or_both}

foreign_is : (x : Statement) → is_foreign_form (form_of x) ≡ is_foreign x
foreign_is Null = refl
foreign_is Skip = refl
foreign_is (Seq a b) = refl
foreign_is (Block at None body) = refl
foreign_is (Block at (Some m) body) = refl
foreign_is (Assign at to e true) = refl
foreign_is (Assign at to e false) = refl
foreign_is (If at test a b) = refl
foreign_is (Case at on arms) = refl
foreign_is (Arm on labels body others) = refl
foreign_is (For at v first test next body) = refl
foreign_is (While at test body) = refl
foreign_is (Repeat at count body) = refl
foreign_is (Forever at body) = refl
foreign_is (Wait at falling) = refl
foreign_is (Enable at t ins outs) = refl
foreign_is (Disable at m) = refl
foreign_is (Host at f ins result outs) = refl

-- ---- names

filtered : {Y : Type 0} (h : Expr → Option Y) (es : List Expr) → flat_map (λ e. filter_map h (nodes_of e)) es ≡ filter_map h (flat_map nodes_of es)
filtered h [] = refl
filtered h (e ∷ es) = ap (λ l. filter_map h (nodes_of e) ++ l) (filtered h es) ∙ sym (filter_map-append h (nodes_of e) (flat_map nodes_of es))

all_append : {X : Type 0} (f : X → Bool) (xs ys : List X) → list_all f (xs ++ ys) ≡ (list_all f xs && list_all f ys)
all_append f [] ys = refl
all_append f (x ∷ xs) ys = ap (λ b. f x && b) (all_append f xs ys) ∙ and_assoc (f x) (list_all f xs) (list_all f ys)
  where
    and_assoc : (a b c : Bool) → (a && (b && c)) ≡ ((a && b) && c)
    and_assoc true b c = refl
    and_assoc false b c = refl

not_both : (c a r : Bool) → (not c || (not a || r)) ≡ (not (c && a) || r)
not_both true a r = refl
not_both false a r = refl

net_first : (a p q : Bool) → true ≡ (not a || (true || q))
net_first true p q = refl
net_first false p q = refl

call_first : (g a p q r : Bool) → r ≡ (not a || (p || q)) → (g || r) ≡ (not a || (p || (g || q)))
call_first false a p q r e = e
call_first true true true q r e = refl
call_first true true false q r e = refl
call_first true false p q r e = refl

module _ (own : List ℕ) (n : ℕ) where
  abbrev outer : List Expr → Bool
  outer es = not (list_all (contains_number own) (filter_map variable_named es)) || (list_any (λ n. true) (filter_map net_named es) || list_any (λ g. nat_le n g) (filter_map called es))

  abbrev vars_own : List Expr → Bool
  vars_own es = list_all (contains_number own) (filter_map variable_named es)

  abbrev has_net : List Expr → Bool
  has_net es = list_any (λ n. true) (filter_map net_named es)

  abbrev has_import : List Expr → Bool
  has_import es = list_any (λ g. nat_le n g) (filter_map called es)

  nodes_outside : (es : List Expr) → list_any (is_outside own n) (map node_of es) ≡ outer es
  nodes_outside [] = refl
  nodes_outside (plain.Variable s v ∷ es) = ap (λ r. not (contains_number own v) || r) (nodes_outside es) ∙ not_both (contains_number own v) (vars_own es) (has_net es || has_import es)
  nodes_outside (plain.MemoryWord s v i ∷ es) = ap (λ r. not (contains_number own v) || r) (nodes_outside es) ∙ not_both (contains_number own v) (vars_own es) (has_net es || has_import es)
  nodes_outside (plain.NetValue s m ∷ es) = net_first (vars_own es) true (has_import es)
  nodes_outside (plain.Call s f xs ∷ es) = call_first (nat_le n f) (vars_own es) (has_net es) (has_import es) (list_any (is_outside own n) (map node_of es)) (nodes_outside es)
  nodes_outside (plain.Number s m ∷ es) = nodes_outside es
  nodes_outside (plain.Select s x r lsb ∷ es) = nodes_outside es
  nodes_outside (plain.Unary s op x ∷ es) = nodes_outside es
  nodes_outside (plain.Binary s op x y ∷ es) = nodes_outside es
  nodes_outside (plain.Choice s c x y ∷ es) = nodes_outside es
  nodes_outside (plain.Concat s xs ∷ es) = nodes_outside es
  nodes_outside (plain.Copies s m x ∷ es) = nodes_outside es
  nodes_outside (plain.Sign s x ∷ es) = nodes_outside es
  nodes_outside (plain.Resize s x ∷ es) = nodes_outside es

joined : (f s a p q : Bool) → (f || not s || (not a || (p || q))) ≡ (f || (not (a && s) || p || q))
joined true true true p q = refl
joined true true false p q = refl
joined true false true p q = refl
joined true false false p q = refl
joined false true true true q = refl
joined false true true false q = refl
joined false true false p q = refl
joined false false true p q = refl
joined false false false p q = refl

module _ (d : Flat) where
  pub impure_is : (g : FlatFunc) (x : Statement) → is_impure (variables_of g) (length d.funcs) (line_of x) ≡ (is_foreign x || names_outside d g x)
  impure_is g x =
      or_both (or_both (foreign_is x) (ap (λ l. not (list_all c l)) (stored_is x))) (ap (list_any (is_outside (variables_of g) (length d.funcs))) (own_is x) ∙ nodes_outside (variables_of g) (length d.funcs) ns)
      ∙ joined (is_foreign x) (list_all c ts) (list_all c (filter_map variable_named ns)) (list_any (λ n. true) (filter_map net_named ns)) (list_any (λ g. nat_le (length d.funcs) g) (filter_map called ns))
      ∙ ap (λ b. is_foreign x || b)
      (or_both
      (or_both (ap not (sym (all_append c (filter_map variable_named ns) ts) ∙ ap (λ l. list_all c (l ++ ts)) (sym (filtered variable_named (own_expressions x)))))
      (ap (list_any (λ n. true)) (sym (filtered net_named (own_expressions x)))))
      (ap (list_any (λ g. nat_le (length d.funcs) g)) (sym (filtered called (own_expressions x)))))
    where
      c : ℕ → Bool
      c = contains_number (variables_of g)

      ns : List Expr
      ns = flat_map nodes_of (own_expressions x)

      ts : List ℕ
      ts = flat_map target_variables (own_targets x)

  pub fails_is : (g : FlatFunc) → fails g ≡ (reads_early g || leaves_result g)
  fails_is g = or_both (same_early (g.locals ++ g.result ∷ []) g.ins g.body) refl

  -- ---- what is foreign or names what is outside has a line

  foreign_real : (x : Statement) → is_foreign x ≡ true → is_real x ≡ true
  foreign_real Skip e = cc
  foreign_real (Seq a b) e = cc
  foreign_real (Arm on labels body others) e = cc
  foreign_real Null e = refl
  foreign_real (Block at mark body) e = refl
  foreign_real (Assign at to v held) e = refl
  foreign_real (If at test a b) e = refl
  foreign_real (Case at on arms) e = refl
  foreign_real (For at v first test next body) e = refl
  foreign_real (While at test body) e = refl
  foreign_real (Repeat at count body) e = refl
  foreign_real (Forever at body) e = refl
  foreign_real (Wait at falling) e = refl
  foreign_real (Enable at t ins outs) e = refl
  foreign_real (Disable at m) e = refl
  foreign_real (Host at f ins result outs) e = refl

  outside_real : (g : FlatFunc) (x : Statement) → names_outside d g x ≡ true → is_real x ≡ true
  outside_real g Skip e = cc
  outside_real g (Seq a b) e = cc
  outside_real g (Arm on labels body others) e = cc
  outside_real g Null e = refl
  outside_real g (Block at mark body) e = refl
  outside_real g (Assign at to v held) e = refl
  outside_real g (If at test a b) e = refl
  outside_real g (Case at on arms) e = refl
  outside_real g (For at v first test next body) e = refl
  outside_real g (While at test body) e = refl
  outside_real g (Repeat at count body) e = refl
  outside_real g (Forever at body) e = refl
  outside_real g (Wait at falling) e = refl
  outside_real g (Enable at t ins outs) e = refl
  outside_real g (Disable at m) e = refl
  outside_real g (Host at f ins result outs) e = refl

  -- ---- both ways

  result_broken : (o : Option Var) (v : Var) (b : Bool) → o ≡ Some v → b ≡ true → Contains (result_breaks b o) (break_at 50 v.place)
  result_broken None v b e h = cc
  result_broken (Some u) v b e h = let i : u ≡ v = cc in subst (λ z. Contains (only_if b 50 u.place) (break_at 50 z.place)) i (is_only b 50 u.place h)

  broken_result : (o : Option Var) (b : Bool) (r : Refusal) → Contains (result_breaks b o) r → (v : Var) × (o ≡ Some v) × (b ≡ true) × (break_at 50 v.place ≡ r)
  broken_result None b r c = absurd (con_nil r c)
  broken_result (Some v) b r c = let o = only b 50 v.place r c in (v, refl, o.0, o.1)

  statement_part : (g : FlatFunc) (r : Refusal) → Contains d.funcs g → Contains (breaks_by (is_impure (variables_of g) (length d.funcs)) 50 (lines g.body)) r → Contains (purity_breaks d) r
  statement_part g r c h = con_flat (function_breaks d) d.funcs g r c (Contains-append_left _ (result_breaks (fails g) (slice_get d.vars g.result)) r h)

  result_part : (g : FlatFunc) (r : Refusal) → Contains d.funcs g → Contains (result_breaks (fails g) (slice_get d.vars g.result)) r → Contains (purity_breaks d) r
  result_part g r c h = con_flat (function_breaks d) d.funcs g r c (Contains-append_right (breaks_by (is_impure (variables_of g) (length d.funcs)) 50 (lines g.body)) _ r h)

  at_function : (g : FlatFunc) (at : Place) → Contains d.funcs g → fails g ≡ true → IsPlaceOfFunction d g at → Contains (purity_breaks d) (break_at 50 at)
  at_function g at c e (calls.result_place {v = v} i p) = subst (λ z. Contains (purity_breaks d) (break_at 50 z)) p (result_part g (break_at 50 v.place) c (result_broken (slice_get d.vars g.result) v (fails g) i e))

  pub impure_broken : (at : Place) → IsImpure d at → Contains (purity_breaks d) (break_at 50 at)
  impure_broken _ (calls.foreign {g = g} {x = x} c h e) =
      statement_part g _ c (body_broken (is_impure (variables_of g) (length d.funcs)) 50 g.body x h (foreign_real x e) (impure_is g x ∙ first_of (is_foreign x) (names_outside d g x) e))
  impure_broken _ (calls.outside {g = g} {x = x} c h e) =
      statement_part g _ c (body_broken (is_impure (variables_of g) (length d.funcs)) 50 g.body x h (outside_real g x e) (impure_is g x ∙ second_of (is_foreign x) (names_outside d g x) e))
  impure_broken at (calls.early {g = g} c e p) = at_function g at c (fails_is g ∙ first_of (reads_early g) (leaves_result g) e) p
  impure_broken at (calls.leaves {g = g} c e p) = at_function g at c (fails_is g ∙ second_of (reads_early g) (leaves_result g) e) p

  pub broken_impure : (r : Refusal) → Contains (purity_breaks d) r → (r.rule.0 ≡ 50) × IsImpure d r.place
  broken_impure r c = let u = un_flat (function_breaks d) d.funcs r c in go u.0 u.1 (Contains-append_cases (breaks_by (is_impure (variables_of u.0) (length d.funcs)) 50 (lines u.0.body)) (result_breaks (fails u.0) (slice_get d.vars u.0.result)) r u.2)
    where
      by_statement : (g : FlatFunc) → Contains d.funcs g → Broken (is_impure (variables_of g) (length d.funcs)) 50 g.body r → IsImpure d r.place
      by_statement g c b = subst (λ k. IsImpure d k.place) b.is (choose (one_of (is_foreign b.statement) (names_outside d g b.statement) (sym (impure_is g b.statement) ∙ b.found)))
        where
          choose : (is_foreign b.statement ≡ true) ⊎ (names_outside d g b.statement ≡ true) → IsImpure d (place_of_statement b.statement)
          choose (inl e) = calls.foreign c b.held e
          choose (inr e) = calls.outside c b.held e

      by_result : (g : FlatFunc) (v : Var) → Contains d.funcs g → slice_get d.vars g.result ≡ Some v → (reads_early g ≡ true) ⊎ (leaves_result g ≡ true) → IsImpure d v.place
      by_result g v c i (inl e) = calls.early c e (calls.result_place i refl)
      by_result g v c i (inr e) = calls.leaves c e (calls.result_place i refl)

      go : (g : FlatFunc) → Contains d.funcs g → Contains (breaks_by (is_impure (variables_of g) (length d.funcs)) 50 (lines g.body)) r ⊎ Contains (result_breaks (fails g) (slice_get d.vars g.result)) r → (r.rule.0 ≡ 50) × IsImpure d r.place
      go g c (inl k) = let b = broken_body (is_impure (variables_of g) (length d.funcs)) 50 g.body r k in (ap (λ k. k.rule.0) (sym b.is), by_statement g c b)
      go g c (inr k) =
          let b = broken_result (slice_get d.vars g.result) (fails g) r k in
          (ap (λ k. k.rule.0) (sym b.3), subst (λ k. IsImpure d k.place) b.3 (by_result g b.0 c b.1 (one_of (reads_early g) (leaves_result g) (sym (fails_is g) ∙ b.2))))
