-- Rule 52: the breaks that are listed are all that there are.
use Rattle.std.proofs.Common.{◌≡◌, ◌⊎◌, inl, inr, ◌+◌, ◌-◌, ℕ, Bool, true, false, List, [], ◌∷◌, Option, Some, None, length, slice_get, refl, sym, ◌∙◌, ap, subst, arith}
use Rattle.std.specs.Prelude.{Contains, flat_map, nat_lt, is_some}
use Rattle.std.specs.List.{list_any}
use Rattle.std.proofs.lemmas.Bool.{lt-ltb}
use Rattle.std.proofs.lemmas.Option.{slice_get_within}
use Rattle.xt_base.specs.declared.refusals.Place.{Place}
use Rattle.xt_base.specs.declared.refusals.Refusal.{Refusal}
use Rattle.el_design.specs.declared.designs.Import.{Import}
use Rattle.el_design.specs.Plain.{Expr, Number, NetValue, Variable, MemoryWord, Select, Unary, Binary, Choice, Concat, Copies, Sign, Resize, Call, Exprs, Shape, Lvalue, Statement, Null, Skip, Seq, Block, Assign, If, Case, Arm, For, While, Repeat, Forever, Wait, Enable, Disable, Host, FlatTask, FlatFunc, Flat}
use Rattle.el_design.specs.Names.{nodes_of, own_expressions, place_of_statement, is_nowhere}
use Rattle.el_design.specs.Calls as calls
use Rattle.el_design.specs.Calls.{InText, HasMisfit, CallMisfits, IsImportNumber, StandsAt, enable_misfits, host_misfits, function_misfits, import_misfits, count_of_exprs}
use Rattle.el_design.proofs.OrderLists.{con_head}
use Rattle.el_design.proofs.OrderPlaces.{con_map, con_flat}
use Rattle.el_design.proofs.WaysPuts.{one_of, first_of, second_of}
use Rattle.ck_call.specs.inner.Nodes.{node_of, own_named}
use Rattle.ck_call.specs.inner.Lines.{form_of, line_of}
use Rattle.ck_call.specs.inner.Texts.{texts_of}
use Rattle.ck_call.specs.inner.Breaks.{break_at, form_misfits, node_misfits, call_misfits, function_differs, import_differs, task_differs, host_differs, misfits, misfit_breaks}
use Rattle.ck_call.proofs.Members.{un_map, un_flat, any_has, has_any}
use Rattle.ck_call.proofs.LinesAre.{own_is, has_own, plain_nodes, one_named, only_one}
use Rattle.ck_call.proofs.Bodies.{text_broken, value_broken, broken_text, BrokenText, BrokenNet, at_statement, at_net}

-- ---- a statement's own enable or call

enable_is : (o : Option FlatTask) (t : ℕ) (ins : List Expr) (outs : List Lvalue) → task_differs (record { number = t; ins = length ins; outs = length outs; nowhere = list_any is_nowhere outs }) o ≡ enable_misfits o ins outs
enable_is None t ins outs = refl
enable_is (Some task) t ins outs = refl

host_is : (o : Option Import) (f : ℕ) (ins : List Expr) (result : Option Lvalue) (outs : List Lvalue) →
    host_differs (record { number = f; ins = length ins; outs = length outs; nowhere = list_any is_nowhere outs }) (is_some result) o ≡ host_misfits o ins result outs
host_is None f ins result outs = refl
host_is (Some i) f ins None outs = refl
host_is (Some i) f ins (Some t) outs = refl

module _ (d : Flat) where
  form_misfit : (x : Statement) → InText d x → form_misfits d (form_of x) ≡ true → HasMisfit d (place_of_statement x)
  form_misfit (Enable at t ins outs) i e = calls.misfit_enable i (sym (enable_is (slice_get d.tasks t) t ins outs) ∙ e)
  form_misfit (Host at f ins result outs) i e = calls.misfit_host i (sym (host_is (slice_get d.imports f) f ins result outs) ∙ e)
  form_misfit Null i e = cc
  form_misfit Skip i e = cc
  form_misfit (Seq a b) i e = cc
  form_misfit (Block at None body) i e = cc
  form_misfit (Block at (Some m) body) i e = cc
  form_misfit (Assign at to v true) i e = cc
  form_misfit (Assign at to v false) i e = cc
  form_misfit (If at test a b) i e = cc
  form_misfit (Case at on arms) i e = cc
  form_misfit (Arm on labels body others) i e = cc
  form_misfit (For at v first test next body) i e = cc
  form_misfit (While at test body) i e = cc
  form_misfit (Repeat at count body) i e = cc
  form_misfit (Forever at body) i e = cc
  form_misfit (Wait at falling) i e = cc
  form_misfit (Disable at m) i e = cc

  -- ---- calls in expressions

  function_is : (o : Option FlatFunc) (es : Exprs) → function_differs (count_of_exprs es) o ≡ function_misfits o es
  function_is None es = refl
  function_is (Some f) es = refl

  import_is : (o : Option Import) (es : Exprs) → import_differs (count_of_exprs es) o ≡ import_misfits o es
  import_is None es = refl
  import_is (Some f) es = refl

  call_misfit : (s : Shape) (f : ℕ) (es : Exprs) → call_misfits d f (count_of_exprs es) ≡ true → CallMisfits d (Call s f es)
  call_misfit s f es e = go (nat_lt f (length d.funcs)) refl
    where
      go : (b : Bool) → nat_lt f (length d.funcs) ≡ b → CallMisfits d (Call s f es)
      go true i = let k = rw i at e in calls.of_function (sym (function_is (slice_get d.funcs f) es) ∙ k)
      go false i =
          let k = rw i at e in
          let l : f ≡ length d.funcs + (f - length d.funcs) = grind arith in
          calls.of_import (calls.import_number l) (sym (import_is (slice_get d.imports (f - length d.funcs)) es) ∙ k)

  some_misfit : (o : Option FlatFunc) (es : Exprs) → function_misfits o es ≡ true → (g : FlatFunc) × (o ≡ Some g)
  some_misfit None es e = cc
  some_misfit (Some g) es e = (g, refl)

  misfit_call : (s : Shape) (f : ℕ) (es : Exprs) → CallMisfits d (Call s f es) → call_misfits d f (count_of_exprs es) ≡ true
  misfit_call s f es (calls.of_function e) =
      let g = some_misfit (slice_get d.funcs f) es e in
      let l : nat_lt f (length d.funcs) ≡ true = lt-ltb f (length d.funcs) (slice_get_within d.funcs f g.0 g.1) in
      rw l (function_is (slice_get d.funcs f) es ∙ e)
  misfit_call s f es (calls.of_import (calls.import_number {i = i} n) e) =
      let l : nat_lt f (length d.funcs) ≡ false = grind arith in
      let k : f - length d.funcs ≡ i = omega arith in
      rw (l, k) (import_is (slice_get d.imports i) es ∙ e)

  node_misfit : (c : Expr) → node_misfits d (node_of c) ≡ true → CallMisfits d c
  node_misfit (Call s f es) e = call_misfit s f es e
  node_misfit (Number s b) e = cc
  node_misfit (NetValue s n) e = cc
  node_misfit (Variable s v) e = cc
  node_misfit (MemoryWord s v i) e = cc
  node_misfit (Select s v r lsb) e = cc
  node_misfit (Unary s op v) e = cc
  node_misfit (Binary s op a b) e = cc
  node_misfit (Choice s c a b) e = cc
  node_misfit (Concat s es) e = cc
  node_misfit (Copies s n v) e = cc
  node_misfit (Sign s v) e = cc
  node_misfit (Resize s v) e = cc

  misfit_node : (c : Expr) → CallMisfits d c → node_misfits d (node_of c) ≡ true
  misfit_node _ (calls.of_function {s = s} {f = f} {es = es} e) = misfit_call s f es (calls.of_function e)
  misfit_node _ (calls.of_import {s = s} {f = f} {i = i} {es = es} n e) = misfit_call s f es (calls.of_import n e)

  -- a list of expressions has a call that misfits
  record HasCall (es : List Expr) : Type 0 where
    whole : Expr
    there : Contains es whole
    call : Expr
    inside : Contains (nodes_of whole) call
    misfit : CallMisfits d call

  has_call : (es : List Expr) → list_any (node_misfits d) (plain_nodes es) ≡ true → HasCall es
  has_call es e =
      let a = any_has (node_misfits d) (plain_nodes es) e in
      let b = un_map node_of (flat_map nodes_of es) a.0 a.1 in
      let c = un_flat nodes_of es b.0 b.1 in
      record { whole = c.0; there = c.1; call = b.0; inside = c.2; misfit = node_misfit b.0 (subst (λ n. node_misfits d n ≡ true) (sym b.2) a.2) }

  call_has : (es : List Expr) (e c : Expr) → Contains es e → Contains (nodes_of e) c → CallMisfits d c → list_any (node_misfits d) (plain_nodes es) ≡ true
  call_has es e c i j m = has_any (node_misfits d) (plain_nodes es) (node_of c) (con_map node_of (flat_map nodes_of es) c (con_flat nodes_of es e c i j)) (misfit_node c m)

  -- ---- both ways

  statement_misfit : (x : Statement) → InText d x → misfits d (line_of x) ≡ true → HasMisfit d (place_of_statement x)
  statement_misfit x i e = go (one_of (form_misfits d (form_of x)) (list_any (node_misfits d) (own_named x)) e)
    where
      go : (form_misfits d (form_of x) ≡ true) ⊎ (list_any (node_misfits d) (own_named x) ≡ true) → HasMisfit d (place_of_statement x)
      go (inl f) = form_misfit x i f
      go (inr f) = let h = has_call (own_expressions x) (subst (λ l. list_any (node_misfits d) l ≡ true) (own_is x) f) in calls.misfit_call (calls.of_statement i h.there) h.inside h.misfit

  pub broken_misfit : (r : Refusal) → Contains (misfit_breaks d (texts_of d)) r → (r.rule.0 ≡ 52) × HasMisfit d r.place
  broken_misfit r c = go (broken_text d (misfits d) 52 r c)
    where
      net_misfit : BrokenNet d (misfits d) 52 r → HasMisfit d r.place
      net_misfit b =
          let h = has_call (b.value ∷ []) (subst (λ l. list_any (node_misfits d) l ≡ true) (one_named b.value) b.found) in
          subst (λ k. HasMisfit d k.place) b.is (calls.misfit_call (calls.of_net b.there (b.has ∙ ap Some (only_one b.value h.whole h.there))) h.inside h.misfit)

      go : BrokenText d (misfits d) 52 r → (r.rule.0 ≡ 52) × HasMisfit d r.place
      go (at_statement x i real e is) = (ap (λ k. k.rule.0) (sym is), subst (λ k. HasMisfit d k.place) is (statement_misfit x i e))
      go (at_net b) = (ap (λ k. k.rule.0) (sym b.is), net_misfit b)

  pub misfit_broken : (at : Place) → HasMisfit d at → Contains (misfit_breaks d (texts_of d)) (break_at 52 at)
  misfit_broken at (calls.misfit_enable {t = t} {ins = ins} {outs = outs} i e) =
      let x = Enable at t ins outs in
      text_broken d (misfits d) 52 x i refl (first_of (form_misfits d (form_of x)) (list_any (node_misfits d) (own_named x)) (enable_is (slice_get d.tasks t) t ins outs ∙ e))
  misfit_broken at (calls.misfit_host {f = f} {ins = ins} {result = result} {outs = outs} i e) =
      let x = Host at f ins result outs in
      text_broken d (misfits d) 52 x i refl (first_of (form_misfits d (form_of x)) (list_any (node_misfits d) (own_named x)) (host_is (slice_get d.imports f) f ins result outs ∙ e))
  misfit_broken at (calls.misfit_call {e = e} {c = c} s n m) = go s
    where
      go : {at : Place} → StandsAt d e at → Contains (misfit_breaks d (texts_of d)) (break_at 52 at)
      go (calls.of_statement {x = x} i k) =
          text_broken d (misfits d) 52 x i (has_own x e k)
          (second_of (form_misfits d (form_of x)) (list_any (node_misfits d) (own_named x)) (subst (λ l. list_any (node_misfits d) l ≡ true) (sym (own_is x)) (call_has (own_expressions x) e c k n m)))
      go (calls.of_net {net = net} k i) =
          value_broken d (misfits d) 52 net e k i (subst (λ l. list_any (node_misfits d) l ≡ true) (sym (one_named e)) (call_has (e ∷ []) e c (con_head e []) n m))
