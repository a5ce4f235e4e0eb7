-- Typed names, selects and calls.
use Rattle.std.proofs.Common.{◌≡◌, ◌≤◌, ◌<◌, ◌+◌, ◌-◌, ◌*◌, ◌&&◌, ℕ, zero, suc, Bool, true, false, if◌then◌else◌, List, [], ◌∷◌, ◌++◌, map, drop, length, Option, Some, None, All, refl, sym, subst, ◌∙◌, ap, ap₂, arith}
use Rattle.std.specs.Prelude.{unwrap_or, option_map, slice_get, zip, max, get_or, ℤ, pos, negsuc, ◌-ℤ◌}
use Rattle.std.proofs.lemmas.List.Elements.{All-nil, All-cons}
use Rattle.xt_bits.specs.Word.{Word, word, integer_of}
use Rattle.xt_bits.specs.Operators.{select_of, extend_of}
use Rattle.el_design.specs.declared.expressions.TExpr.{TExpr}
use Rattle.el_design.specs.declared.expressions.Kind.{Kind}
use Rattle.el_design.specs.declared.expressions.Kind.TheVariants as kind
use Rattle.el_design.specs.declared.expressions.Pick.{Pick, out-Pick}
use Rattle.el_design.specs.declared.expressions.Pick.TheVariants as pick
use Rattle.el_design.specs.Plain as plain
use Rattle.el_design.specs.Plain.{Shape, Expr, Exprs, Range, Flat, FlatFunc}
use Rattle.el_design.specs.View.{expr_of, exprs_of, range_of}
use Rattle.el_design.specs.Store.{stored, place_of}
use Rattle.el_design.specs.Assign.{range_width}
use Rattle.el_design.specs.Value.{Scene, value, values, lowest, is_signed}
use Rattle.el_design.specs.Names.{nodes_of, nodes_of_all, range_nodes, is_constant}
use Rattle.el_design.specs.Sound.{IsWidth, IsNode, IsRange, IsNet, IsPlainVariable, IsMemory, FitsCall, calls_function, calls_import, calls_void, width, widths_in}
use Rattle.el_design.specs.Fits.{FitsScene, IsWellMade}
use Rattle.el_design.proofs.Equations.{expr_is, net_is, var_is, word_is, select_is, call_is}
use Rattle.el_width.specs.declared.environment.Object.{Object}
use Rattle.el_width.specs.declared.environment.Routine.{Routine}
use Rattle.el_width.specs.declared.selects.Taken.{Taken}
use Rattle.el_width.specs.Lengths.{width_of, larger}
use Rattle.el_width.specs.Operands.{Operand, Known, Made, node, by_itself, own, brought_value, selected, object, index_of, passed, arguments}
use Rattle.el_width.specs.Typed.{Typed, Chosen}
use Rattle.el_width.specs.Breaks.{operands, argument_breaks}
use Rattle.el_width.specs.Values.{alone_value, bits_value, passed_value, argument_values}
use Rattle.el_width.specs.Uses.{HaveWidths, IsRoutine, of_function, of_import, of_void}
use Rattle.el_width.proofs.Constants.{none_is}
use Rattle.el_width.proofs.Nodes.{false_is_true}
use Rattle.el_width.proofs.Forms.{IsForm, HasValue, all_both, form_width, form_sign, brought_form}

-- a select: so many bits, in range, of an index that is well made
pub record IsChosen (d : Flat) (c : Chosen) : Type 0 where
  pub length : ℕ
  pub is : c.taken.length ≡ Some length
  pub wide : IsWidth length
  pub range : IsRange (range_of c.taken.pick)
  pub size : range_width (range_of c.taken.pick) ≡ length
  pub nodes : All (IsNode d) (range_nodes (range_of c.taken.pick))
  pub lowest : (sc : Scene) → FitsScene d sc → lowest d sc (range_of c.taken.pick) ≡ c.span.lowest d sc
  pub span : c.span.width ≡ length

-- an index of a word
pub record IsIndex (d : Flat) (c : Chosen) : Type 0 where
  pub made : IsWellMade d (expr_of (index_of c.taken.pick))
  pub index : (sc : Scene) → FitsScene d sc → integer_of (value d sc (expr_of (index_of c.taken.pick))) (is_signed (expr_of (index_of c.taken.pick))) ≡ c.span.index d sc

-- the first select, if there is one
abbrev pub FirstIsChosen : Flat → List Chosen → Type 0
FirstIsChosen d [] = Unit {0}
FirstIsChosen d (t ∷ ts) = IsChosen d t

abbrev pub taken_of : List Chosen → List Taken
taken_of ts = map (λ t. t.taken) ts

-- something with a known length that is no constant
pub record IsKnown (d : Flat) (k : Known) (v : Scene → Word) : Type 0 where
  pub length : ℕ
  pub is : k.length ≡ Some length
  pub wide : IsWidth length
  pub form : IsForm d (node (width_of k.length) k.signed k.kind) v false None length k.signed

-- an argument as it is passed
pub record IsPassed (d : Flat) (formal : Option ℕ) (t : Typed) : Type 0 where
  pub size : ℕ
  pub least : (w : ℕ) → formal ≡ Some w → w ≤ size
  pub form : IsForm d (passed formal t.operand).form (λ sc. passed_value d sc formal t) t.operand.constant (passed formal t.operand).known size t.operand.signed

abbrev pub ArePassed : Flat → List ℕ → List Typed → Type 0
ArePassed d formals [] = Unit {0}
ArePassed d formals (t ∷ ts) = IsPassed d (slice_get formals 0) t × ArePassed d (drop 1 formals) ts

abbrev pub passed_forms : List ℕ → List Typed → List TExpr
passed_forms formals ts = map (λ x. x.form) (arguments formals (operands ts))

module _ (d : Flat) where
  plain_form : (w : ℕ) (s : Bool) (k : Kind) (v : Scene → Word) (x : Expr) → expr_of (node w s k) ≡ x → All (IsNode d) (nodes_of x) → ((sc : Scene) → FitsScene d sc → value d sc x ≡ v sc) → IsForm d (node w s k) v false None w s
  plain_form w s k v x e made is = record {
    wide = refl;
    sign = refl;
    made = subst (IsWellMade d) (sym e) made;
    is = λ sc g. ap (value d sc) e ∙ is sc g;
    fixed = λ h. false_is_true h;
    has = λ h. false_is_true h;
    told = λ sc x h. none_is x h;
  }

  one_node : (x : Expr) → IsNode d x → All (IsNode d) (x ∷ [])
  one_node x h = All-cons (IsNode d) x [] h (All-nil (IsNode d))

  abbrev shape : ℕ → Bool → Shape
  shape w s = record { width = w; signed = s }

  pub net_form : (w : ℕ) (s : Bool) (n : ℕ) → IsWidth w → IsNet d n w → IsForm d (node w s (kind.Net n)) (λ sc. get_or sc.nets n (word w 0)) false None w s
  net_form w s n l h = plain_form w s (kind.Net n) _ (plain.NetValue (shape w s) n) (expr_is (node w s (kind.Net n)) ∙ net_is n (shape w s)) (one_node (plain.NetValue (shape w s) n) (l, h)) (λ sc g. refl)

  pub variable_form : (w : ℕ) (s : Bool) (n : ℕ) → IsWidth w → IsPlainVariable d n w → IsForm d (node w s (kind.Var n)) (λ sc. stored sc.store n 0 w) false None w s
  variable_form w s n l h = plain_form w s (kind.Var n) _ (plain.Variable (shape w s) n) (expr_is (node w s (kind.Var n)) ∙ var_is n (shape w s)) (one_node (plain.Variable (shape w s) n) (l, h)) (λ sc g. refl)

  pub word_form : (w : ℕ) (s : Bool) (n : ℕ) (c : Chosen) → IsWidth w → IsMemory d n w → IsIndex d c →
      IsForm d (node w s (kind.Word n (index_of c.taken.pick))) (λ sc. stored sc.store n (place_of d n (c.span.index d sc)) w) false None w s
  word_form w s n c l h i =
      plain_form w s (kind.Word n (index_of c.taken.pick)) _ (plain.MemoryWord (shape w s) n (expr_of (index_of c.taken.pick)))
      (expr_is (node w s (kind.Word n (index_of c.taken.pick))) ∙ word_is n (index_of c.taken.pick) (shape w s))
      (All-cons (IsNode d) (plain.MemoryWord (shape w s) n (expr_of (index_of c.taken.pick))) (nodes_of (expr_of (index_of c.taken.pick))) (l, h) i.made)
      (λ sc g. ap (λ z. stored sc.store n (place_of d n z) w) (i.index sc g))

  -- ---- bits of something

  module _ (w : ℕ) (s : Bool) (k : Kind) (v : Scene → Word) (l : IsWidth w) (f : IsForm d (node w s k) v false None w s) (lsb : ℕ) where
    selected_form : (t : Chosen) (h : IsChosen d t) (n : ℕ) → n ≡ h.length →
        IsForm d (node n false (kind.Select (node w s k) t.taken.pick lsb)) (λ sc. select_of (v sc) (t.span.lowest d sc -ℤ pos lsb) t.span.width) false None n false
    selected_form t h n e =
        plain_form n false (kind.Select (node w s k) t.taken.pick lsb) _ x (expr_is (node n false (kind.Select (node w s k) t.taken.pick lsb)) ∙ select_is (node w s k) t.taken.pick lsb (shape n false))
        (All-cons (IsNode d) x (nodes_of (expr_of (node w s k)) ++ range_nodes (range_of t.taken.pick)) (subst IsWidth (sym e) h.wide, (h.range, h.size ∙ sym e)) (all_both d _ _ f.made h.nodes))
        (λ sc g. ap₂ (λ y z. select_of y (z -ℤ pos lsb) n) (f.is sc g) (h.lowest sc g) ∙ ap (select_of (v sc) (t.span.lowest d sc -ℤ pos lsb)) (e ∙ sym h.span))
      where
        x : Expr
        x = plain.Select (shape n false) (expr_of (node w s k)) (range_of t.taken.pick) lsb

    pub bits_form : (ts : List Chosen) → FirstIsChosen d ts → IsKnown d (selected (record { length = Some w; signed = s; kind = k }) lsb (taken_of ts)) (λ sc. bits_value d sc (v sc) lsb ts)
    bits_form [] h = record { length = w; is = refl; wide = l; form = f }
    bits_form (t ∷ ts) h =
        let e : width_of t.taken.length ≡ h.length = ap width_of h.is in
        record {
          length = h.length;
          is = h.is;
          wide = h.wide;
          form = subst (λ n. IsForm d (node (width_of t.taken.length) false (kind.Select (node w s k) t.taken.pick lsb)) (λ sc. select_of (v sc) (t.span.lowest d sc -ℤ pos lsb) t.span.width) false None n false)
              e (selected_form t h (width_of t.taken.length) e);
        }

  -- what is known, brought to a length and a sign
  pub known_brought : (token : ℕ) (k : Known) (v : Scene → Word) → IsKnown d k v → (w : ℕ) (s : Bool) → IsWidth w →
      IsForm d ((own token k.length k.signed false k.kind None).at w s).form (λ sc. extend_of (v sc) w s) false None w s
  known_brought token k v h w s l = brought_form d (node (width_of k.length) k.signed k.kind) v false None h.length k.signed h.form w s l

  -- ---- calls

  passed_made : (formals : List ℕ) (ts : List Typed) → ArePassed d formals ts → All (IsNode d) (nodes_of_all (exprs_of (map expr_of (passed_forms formals ts))))
  passed_made formals [] h = All-nil (IsNode d)
  passed_made formals (t ∷ ts) h = all_both d (nodes_of (expr_of (passed (slice_get formals 0) t.operand).form)) _ h.0.form.made (passed_made (drop 1 formals) ts h.1)

  passed_values : (sc : Scene) → FitsScene d sc → (formals : List ℕ) (ts : List Typed) → ArePassed d formals ts →
      values d sc (exprs_of (map expr_of (passed_forms formals ts))) ≡ argument_values d sc formals ts
  passed_values sc g formals [] h = refl
  passed_values sc g formals (t ∷ ts) h = ap₂ (λ x xs. x ∷ xs) (h.0.form.is sc g) (passed_values sc g (drop 1 formals) ts h.1)

  abbrev IsPair : ℕ × ℕ → Type 0
  IsPair p = (formal : ℕ) × IsPlainVariable d p.0 formal × (formal ≤ p.1)

  pairs_fit : (ins formals : List ℕ) (ts : List Typed) → HaveWidths d ins formals → ArePassed d formals ts → All IsPair (zip ins (widths_in (exprs_of (map expr_of (passed_forms formals ts)))))
  pairs_fit [] [] ts w h = All-nil IsPair
  pairs_fit [] (f ∷ fs) ts w h = absurd w
  pairs_fit (v ∷ vs) [] ts w h = absurd w
  pairs_fit (v ∷ vs) (f ∷ fs) [] w h = All-nil IsPair
  pairs_fit (v ∷ vs) (f ∷ fs) (t ∷ ts) w h =
      All-cons IsPair (v, width (expr_of (passed (Some f) t.operand).form)) (zip vs (widths_in (exprs_of (map expr_of (passed_forms fs ts)))))
      (f, w.0, subst (λ n. f ≤ n) (sym (form_width d _ _ _ _ _ _ h.0.form)) (h.0.least f refl)) (pairs_fit vs fs ts w.1 h.1)

  call_fits : (w f : ℕ) (formals : List ℕ) (ts : List Typed) → IsRoutine d w f formals → ArePassed d formals ts → FitsCall d w f (exprs_of (map expr_of (passed_forms formals ts)))
  call_fits w f formals ts (of_function {g = g} at result ins) h = calls_function at result (pairs_fit g.ins formals ts ins h)
  call_fits w f formals ts (of_import i number at result wide) h = calls_import i number at result wide
  call_fits w f formals ts (of_void i number at result wide) h = calls_void i number at result wide

  pub call_form : (w : ℕ) (s : Bool) (f : ℕ) (formals : List ℕ) (ts : List Typed) → IsWidth w → IsRoutine d w f formals → ArePassed d formals ts →
      IsForm d (node w s (kind.Call f (passed_forms formals ts))) (λ sc. word w (sc.call f (argument_values d sc formals ts)).value) false None w s
  call_form w s f formals ts l r h =
      plain_form w s (kind.Call f (passed_forms formals ts)) _ x (expr_is (node w s (kind.Call f (passed_forms formals ts))) ∙ call_is f (passed_forms formals ts) (shape w s))
      (All-cons (IsNode d) x (nodes_of_all (exprs_of (map expr_of (passed_forms formals ts)))) (l, call_fits w f formals ts r h) (passed_made formals ts h))
      (λ sc g. ap (λ vs. word w (sc.call f vs).value) (passed_values sc g formals ts h))
    where
      x : Expr
      x = plain.Call (shape w s) f (exprs_of (map expr_of (passed_forms formals ts)))
