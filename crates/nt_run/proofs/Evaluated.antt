-- The values of the nodes, as they are evaluated step by step.
use Rattle.std.proofs.Common.{◌≡◌, ℕ, zero, suc, ◌<◌, ◌≤◌, List, [], ◌∷◌, length, take, get_or, replicate, Bool, true, false, arith, refl, subst, sym, ap, ◌∙◌, Some}
use Rattle.std.specs.Prelude.{slice_get, slice_index, slice_set}
use Rattle.std.proofs.lemmas.Option.{slice_get_within}
use Rattle.std.proofs.lemmas.List.{length-map, get_or-take, get_or_default, same_lists, take-map, take_all}
use Rattle.std.proofs.Math.Seq.{map-set_same}
use Rattle.xt_bits.specs.Word as bits
use Rattle.xt_bits.specs.Word.{word}
use Rattle.nt_core.specs.declared.netlist.Node.{Node}
use Rattle.nt_core.specs.Forms.{widths, operands, HasOperands}
use Rattle.nt_core.specs.Sources.{Sources}
use Rattle.nt_core.specs.NodeValue.{value_at, value_of, values, node_value}
use Rattle.nt_core.specs.Fitting.{value_widths}
use Rattle.nt_core.specs.Conditions.{AreNodes}
use Rattle.nt_core.proofs.Values.{length-values, operand-width}
use Rattle.nt_core.proofs.FormValues.{same_form, operands_before, value_among_all}
use Rattle.nt_run.specs.declared.orders.Step.{Step}
use Rattle.nt_run.specs.Order.{AreMarked, marked, IsStep, IsOrder}

-- as many values as nodes
pub count_values : (nodes : List Node) (vs : List bits.Word) → value_widths vs ≡ widths nodes → length vs ≡ length nodes
count_values nodes vs e = sym (length-map vs (λ (v : bits.Word). v.width)) ∙ ap length e ∙ length-map nodes (λ (n : Node). n.width)

-- what is computed over the values so far, where the nodes that are read have theirs
value_in_order : (nodes : List Node) → AreNodes nodes → (s : Sources) (i : ℕ) (m : Node) → slice_get nodes i ≡ Some m → (marks : List Bool) (vs : List bits.Word)
    → ((a : ℕ) → get_or marks a false ≡ true → value_at vs a ≡ node_value nodes s a) → AreMarked marks (operands m.op)
    → value_of s (take i vs) m.op ≡ node_value nodes s i
value_in_order nodes are s i m at marks vs agree ready =
    same_form s (take i vs) (values nodes s) m.op (λ k d h.
    get_or-take i vs (get_or (operands m.op) k d) (word 1 0) (operands_before nodes are i m at k d h)
    ∙ agree (get_or (operands m.op) k d) (ready k d h))
    ∙ sym (value_among_all nodes s i m at are)

-- a value that is written in
agree_more : (marks : List Bool) (vs : List bits.Word) (i : ℕ) (v : bits.Word) (f : ℕ → bits.Word) → i < length vs → v ≡ f i
    → ((a : ℕ) → get_or marks a false ≡ true → value_at vs a ≡ f a) → (a : ℕ) → get_or (slice_set marks i true) a false ≡ true → value_at (slice_set vs i v) a ≡ f a
agree_more marks [] i v f l e h a k = absurd (omega arith)
agree_more [] (x ∷ vs) i v f l e h a k = cc
agree_more (m ∷ marks) (x ∷ vs) zero v f l e h zero k = e
agree_more (m ∷ marks) (x ∷ vs) zero v f l e h (suc a) k = h (suc a) k
agree_more (m ∷ marks) (x ∷ vs) (suc i) v f l e h zero k = h zero k
agree_more (m ∷ marks) (x ∷ vs) (suc i) v f l e h (suc a) k = agree_more marks vs i v (λ n. f (suc n)) (omega arith) e (λ n. h (suc n)) a k

-- the marked nodes have their values, and all have their widths
pub record IsDone (nodes : List Node) (s : Sources) (marks : List Bool) (vs : List bits.Word) : Type 0 where
  pub widths : value_widths vs ≡ widths nodes
  pub agree : (a : ℕ) → get_or marks a false ≡ true → value_at vs a ≡ node_value nodes s a

module _ (nodes : List Node) (are : AreNodes nodes) (s : Sources) (wide : value_widths (values nodes s) ≡ widths nodes) where
  -- one more has its value
  pub done_more : (marks : List Bool) (st : Step) → IsStep nodes marks st → (vs : List bits.Word) → IsDone nodes s marks vs → (v : bits.Word) → v ≡ value_of s (take st.place vs) st.op
      → IsDone nodes s (slice_set marks st.place true) (slice_set vs st.place v)
  done_more marks st is vs done v e =
      let within : st.place < length nodes = slice_get_within nodes st.place is.node is.at in
      let size : length vs ≡ length nodes = count_values nodes vs done.widths in
      let value : v ≡ node_value nodes s st.place =
      e ∙ ap (value_of s (take st.place vs)) (sym is.form) ∙ value_in_order nodes are s st.place is.node is.at marks vs done.agree is.operands in
      let width : v.width ≡ (value_at vs st.place).width =
      ap (λ (x : bits.Word). x.width) value
      ∙ operand-width (values nodes s) st.place (omega (arith, within, ap length wide, length-map nodes (λ (n : Node). n.width)))
      ∙ ap (λ ws. slice_index ws st.place) (wide ∙ sym done.widths)
      ∙ sym (operand-width vs st.place (omega (arith, within, ap length done.widths, length-map nodes (λ (n : Node). n.width)))) in
      record {
        widths = map-set_same (λ (x : bits.Word). x.width) vs st.place v (word 1 0) width ∙ done.widths;
        agree = agree_more marks vs st.place v (node_value nodes s) (omega (arith, within, size)) value done.agree;
      }

  -- all have theirs
  pub done_all : (steps : List Step) → IsOrder nodes steps → (k : ℕ) → length steps ≤ k → (vs : List bits.Word) → IsDone nodes s (marked (length nodes) (take k steps)) vs → vs ≡ values nodes s
  done_all steps is k h vs done =
      let size : length vs ≡ length nodes = count_values nodes vs done.widths in
      same_lists vs (values nodes s) (size ∙ sym (length-values nodes s)) (λ a d l.
      get_or_default vs a d (word 1 0) l
      ∙ done.agree a (subst (λ o. get_or (marked (length nodes) o) a false ≡ true) (sym (take_all k steps h)) (is.whole a (omega (arith, l, size))))
      ∙ get_or_default (values nodes s) a (word 1 0) d (omega (arith, l, size, length-values nodes s)))

-- a node's operands are among the values so far
pub operands_so_far : (nodes : List Node) → AreNodes nodes → (marks : List Bool) (st : Step) → IsStep nodes marks st → (vs : List bits.Word) → value_widths vs ≡ widths nodes
    → HasOperands (value_widths (take st.place vs)) st.op
operands_so_far nodes are marks st is vs e =
    subst (HasOperands (value_widths (take st.place vs))) is.form
    (subst (λ ws. HasOperands ws is.node.op) (ap (take st.place) (sym e) ∙ take-map (λ (v : bits.Word). v.width) st.place vs)
    (are.each st.place is.node is.at).operands)
