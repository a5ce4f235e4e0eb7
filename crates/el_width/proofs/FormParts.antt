-- Typed concatenations, replications, and the arguments of calls: lists of typed expressions, each standing by itself.
use Rattle.std.proofs.Common.{◌≡◌, ◌≤◌, ◌<◌, ◌+◌, ◌-◌, ◌*◌, ◌&&◌, ℕ, zero, suc, Bool, true, false, if◌then◌else◌, List, [], ◌∷◌, ◌++◌, map, Option, Some, None, All, refl, sym, subst, ◌∙◌, ap, ap₂, arith, zero-add}
use Rattle.std.specs.Prelude.{fold, sum, unwrap_or}
use Rattle.std.specs.List.{list_all}
use Rattle.std.proofs.lemmas.List.Elements.{All-nil, All-cons}
use Rattle.xt_bits.specs.Word.{Word}
use Rattle.xt_bits.specs.Operators.{concat_of}
use Rattle.el_design.specs.declared.expressions.TExpr.{TExpr}
use Rattle.el_design.specs.declared.expressions.Kind.TheVariants as kind
use Rattle.el_design.specs.Plain as plain
use Rattle.el_design.specs.Plain.{Shape, Expr, Exprs, Flat}
use Rattle.el_design.specs.View.{expr_of, exprs_of}
use Rattle.el_design.specs.Value.{Scene, value, values, joined, copies}
use Rattle.el_design.specs.Names.{nodes_of, nodes_of_all, is_fixed, is_constant}
use Rattle.el_design.specs.Sound.{IsWidth, IsNode, width, widths_in}
use Rattle.el_design.specs.Fits.{FitsScene, IsWellMade}
use Rattle.el_design.proofs.Equations.{expr_is, concat_is, repeat_is}
use Rattle.el_width.specs.Lengths.{in_range, capped, total, width_of}
use Rattle.el_width.specs.Operands.{Operand, node, by_itself, all_constant, forms_of, total_length, known_joined, known_next, known_parts, joined_known, known_copies, repeated}
use Rattle.el_width.specs.Typed.{Typed}
use Rattle.el_width.specs.Breaks.{operands}
use Rattle.el_width.specs.Values.{alone_value}
use Rattle.el_width.proofs.Constants.{Tells, some_is, none_is, joined_tells, copies_tell}
use Rattle.el_width.proofs.Nodes.{in_range_is, total_is, uncapped}
use Rattle.el_width.proofs.Sized.{parts}
use Rattle.el_width.proofs.Forms.{HasValue, IsForm, all_both, constants_both, form_width, known_wide}

-- an expression that stands by itself
pub record IsAlone (d : Flat) (t : Typed) : Type 0 where
  pub length : ℕ
  pub is : t.operand.length ≡ Some length
  pub wide : IsWidth length
  pub form : IsForm d (by_itself t.operand).form (λ sc. alone_value d sc t) t.operand.constant (by_itself t.operand).known length t.operand.signed

abbrev pub AreAlone : Flat → List Typed → Type 0
AreAlone d [] = Unit {0}
AreAlone d (t ∷ ts) = IsAlone d t × AreAlone d ts

abbrev pub lengths_in : (d : Flat) (ts : List Typed) → AreAlone d ts → List ℕ
lengths_in d [] h = []
lengths_in d (t ∷ ts) h = h.0.length ∷ lengths_in d ts h.1

sum_up : (k : ℕ) (ns : List ℕ) → k ≤ fold (λ a x. a + x) k ns
sum_up k [] = omega arith
sum_up k (n ∷ ns) = let h : k + n ≤ fold (λ a x. a + x) (k + n) ns = sum_up (k + n) ns in omega (arith, h)

range_of_sum : (k n : ℕ) (ns : List ℕ) → 1 ≤ k → fold (λ a x. a + x) (k + n) ns ≤ 64 → IsWidth (k + n)
range_of_sum k n ns h l = let g : k + n ≤ fold (λ a x. a + x) (k + n) ns = sum_up (k + n) ns in (omega (arith, h), omega (arith, g, l))

module _ (d : Flat) where
  -- ---- lists

  lengths_are : (ts : List Typed) (h : AreAlone d ts) → map (λ a. a.length) (operands ts) ≡ map (λ n. Some n) (lengths_in d ts h)
  lengths_are [] h = refl
  lengths_are (t ∷ ts) h = ap₂ (λ x xs. x ∷ xs) h.0.is (lengths_are ts h.1)

  pub total_length_is : (ts : List Typed) (h : AreAlone d ts) → total_length (operands ts) ≡ Some (capped (sum (lengths_in d ts h)))
  total_length_is ts h = ap total (lengths_are ts h) ∙ total_is (lengths_in d ts h)

  pub exprs_in : List Typed → Exprs
  exprs_in ts = exprs_of (map expr_of (forms_of (operands ts)))

  widths_are : (ts : List Typed) (h : AreAlone d ts) → widths_in (exprs_of (map expr_of (forms_of (operands ts)))) ≡ lengths_in d ts h
  widths_are [] h = refl
  widths_are (t ∷ ts) h = ap₂ (λ x xs. x ∷ xs) (form_width d _ _ _ _ _ _ h.0.form) (widths_are ts h.1)

  made_all : (ts : List Typed) → AreAlone d ts → All (IsNode d) (nodes_of_all (exprs_of (map expr_of (forms_of (operands ts)))))
  made_all [] h = All-nil (IsNode d)
  made_all (t ∷ ts) h = all_both d (nodes_of (expr_of (by_itself t.operand).form)) _ h.0.form.made (made_all ts h.1)

  values_are : (sc : Scene) → FitsScene d sc → (ts : List Typed) → AreAlone d ts → values d sc (exprs_of (map expr_of (forms_of (operands ts)))) ≡ map (alone_value d sc) ts
  values_are sc g [] h = refl
  values_are sc g (t ∷ ts) h = ap₂ (λ x xs. x ∷ xs) (h.0.form.is sc g) (values_are sc g ts h.1)

  -- ---- which are constant

  constant_from : (b : Bool) (ts : List Typed) → fold (λ all a. all && a.constant) b (operands ts) ≡ true → (b ≡ true) × (list_all (λ t. t.operand.constant) ts ≡ true)
  constant_from b [] h = (h, refl)
  constant_from b (t ∷ ts) h = let g = constant_from (b && t.operand.constant) ts h in let p = parts b t.operand.constant g.0 in (p.0, ap₂ (λ x y. x && y) p.1 g.1)

  pub constant_each : (ts : List Typed) → all_constant (operands ts) ≡ true → list_all (λ t. t.operand.constant) ts ≡ true
  constant_each ts h = (constant_from true ts h).1

  fixed_all : (ts : List Typed) → AreAlone d ts → list_all (λ t. t.operand.constant) ts ≡ true → list_all is_fixed (nodes_of_all (exprs_of (map expr_of (forms_of (operands ts))))) ≡ true
  fixed_all [] h c = refl
  fixed_all (t ∷ ts) h c = let p = parts t.operand.constant _ c in constants_both (nodes_of (expr_of (by_itself t.operand).form)) _ (h.0.form.fixed p.0) (fixed_all ts h.1 p.1)

  -- ---- their values

  told_from : (sc : Scene) (k : Option Word) (v : Word) (ts : List Typed) → Tells k v → AreAlone d ts →
      Tells (unwrap_or (fold known_next (Some k) (map (λ a. (by_itself a).known) (operands ts))) None) (fold concat_of v (map (alone_value d sc) ts))
  told_from sc k v [] f h = f
  told_from sc k v (t ∷ ts) f h =
      told_from sc (known_joined k (by_itself t.operand).known) (concat_of v (alone_value d sc t)) ts
      (joined_tells k (by_itself t.operand).known v (alone_value d sc t) f (h.0.form.told sc)) h.1

  told_all : (sc : Scene) (ts : List Typed) → AreAlone d ts → Tells (joined_known (operands ts)) (joined (map (alone_value d sc) ts))
  told_all sc [] h = λ x g. none_is x g
  told_all sc (t ∷ ts) h = told_from sc (by_itself t.operand).known (alone_value d sc t) ts (h.0.form.told sc) h.1

  known_next_is : (y z : Word) (k : Option Word) → k ≡ Some z → IsWidth (y.width + z.width) → known_next (Some (Some y)) k ≡ Some (Some (concat_of y z))
  known_next_is y z k h l = ap (known_next (Some (Some y))) h ∙ ap (λ b. Some (if b then Some (concat_of y z) else None)) (in_range_is (y.width + z.width) l)

  has_from : (y : Word) (ts : List Typed) (h : AreAlone d ts) → list_all (λ t. t.operand.constant) ts ≡ true → 1 ≤ y.width → fold (λ a x. a + x) y.width (lengths_in d ts h) ≤ 64 →
      HasValue (unwrap_or (fold known_next (Some (Some y)) (map (λ a. (by_itself a).known) (operands ts))) None)
  has_from y [] h c p l = (y, refl)
  has_from y (t ∷ ts) h c p l =
      let cs = parts t.operand.constant _ c in
      let here : HasValue (by_itself t.operand).known = h.0.form.has cs.0 in
      let wide : here.0.width ≡ h.0.length = known_wide d _ _ _ _ _ _ h.0.form here.0 here.1 in
      let range : IsWidth (y.width + here.0.width) = subst (λ n. IsWidth (y.width + n)) (sym wide) (range_of_sum y.width h.0.length (lengths_in d ts h.1) p l) in
      let next = known_next_is y here.0 (by_itself t.operand).known here.1 range in
      let more = has_from (concat_of y here.0) ts h.1 cs.1 range.0 (subst (λ n. fold (λ a x. a + x) (y.width + n) (lengths_in d ts h.1) ≤ 64) (sym wide) l) in
      (more.0, ap (λ k. unwrap_or (fold known_next k (map (λ a. (by_itself a).known) (operands ts))) None) next ∙ more.1)

  sum_from : (n : ℕ) (ns : List ℕ) → sum (n ∷ ns) ≡ fold (λ a x. a + x) n ns
  sum_from n ns = ap (λ k. fold (λ a x. a + x) k ns) (zero-add n)

  has_all : (ts : List Typed) (h : AreAlone d ts) → list_all (λ t. t.operand.constant) ts ≡ true → IsWidth (sum (lengths_in d ts h)) → HasValue (joined_known (operands ts))
  has_all [] h c l = absurd (omega (arith, l.0))
  has_all (t ∷ ts) h c l =
      let cs = parts t.operand.constant _ c in
      let here : HasValue (by_itself t.operand).known = h.0.form.has cs.0 in
      let wide : here.0.width ≡ h.0.length = known_wide d _ _ _ _ _ _ h.0.form here.0 here.1 in
      let small : fold (λ a x. a + x) h.0.length (lengths_in d ts h.1) ≤ 64 = subst (λ n. n ≤ 64) (sum_from h.0.length (lengths_in d ts h.1)) l.1 in
      let more = has_from here.0 ts h.1 cs.1 (subst (λ n. 1 ≤ n) (sym wide) h.0.wide.0) (subst (λ n. fold (λ a x. a + x) n (lengths_in d ts h.1) ≤ 64) (sym wide) small) in
      (more.0, ap (λ k. unwrap_or (fold known_next (Some k) (map (λ a. (by_itself a).known) (operands ts))) None) here.1 ∙ more.1)

  -- ---- `{a, b}`

  module _ (ts : List Typed) (h : AreAlone d ts) (l : IsWidth (capped (sum (lengths_in d ts h)))) where
    bits : ℕ
    bits = sum (lengths_in d ts h)

    plain_wide : IsWidth (sum (lengths_in d ts h))
    plain_wide = subst IsWidth (uncapped (sum (lengths_in d ts h)) l) l

    pub concat_form : (w : ℕ) → w ≡ capped (sum (lengths_in d ts h)) →
        IsForm d (node w false (kind.Concat (forms_of (operands ts)))) (λ sc. joined (map (alone_value d sc) ts)) (all_constant (operands ts)) (joined_known (operands ts)) w false
    concat_form w e = record {
      wide = refl;
      sign = refl;
      made = subst (IsWellMade d) (sym r) (All-cons (IsNode d) (plain.Concat x (exprs_of (map expr_of (forms_of (operands ts))))) (nodes_of_all (exprs_of (map expr_of (forms_of (operands ts)))))
          (subst IsWidth (sym e) l, ap sum (widths_are ts h) ∙ sym (uncapped (sum (lengths_in d ts h)) l) ∙ sym e) (made_all ts h));
      is = λ sc g. ap (value d sc) r ∙ ap joined (values_are sc g ts h);
      fixed = λ c. ap is_constant r ∙ fixed_all ts h (constant_each ts c);
      has = λ c. has_all ts h (constant_each ts c) plain_wide;
      told = λ sc. told_all sc ts h;
    }
      where
        x : Shape
        x = record { width = w; signed = false }

        r : expr_of (node w false (kind.Concat (forms_of (operands ts)))) ≡ plain.Concat x (exprs_of (map expr_of (forms_of (operands ts))))
        r = expr_is (node w false (kind.Concat (forms_of (operands ts)))) ∙ concat_is (forms_of (operands ts)) x

  one_sum : (n : ℕ) → capped (sum (n ∷ [])) ≡ capped n
  one_sum n = ap capped (sum_from n [])

  one_capped : (n : ℕ) → IsWidth n → capped n ≡ n
  one_capped n h = grind (arith, h.0, h.1)

  -- what is repeated
  pub repeated_form : (ts : List Typed) (h : AreAlone d ts) (l : IsWidth (capped (sum (lengths_in d ts h)))) → (s : Bool) ×
      IsForm d (repeated (total_length (operands ts)) (forms_of (operands ts))) (λ sc. joined (map (alone_value d sc) ts)) (all_constant (operands ts)) (joined_known (operands ts)) (capped (sum (lengths_in d ts h))) s
  repeated_form [] h l = absurd (omega (arith, l.0))
  repeated_form (t ∷ []) h l = (
    t.operand.signed,
    subst (λ n. IsForm d (by_itself t.operand).form (λ sc. alone_value d sc t) t.operand.constant (by_itself t.operand).known n t.operand.signed)
        (sym (one_sum h.0.length ∙ one_capped h.0.length h.0.wide)) h.0.form,
  )
  repeated_form (t ∷ u ∷ ts) h l =
      (false, concat_form_at (t ∷ u ∷ ts) h l)
    where
      concat_form_at : (ts : List Typed) (h : AreAlone d ts) (l : IsWidth (capped (sum (lengths_in d ts h)))) →
          IsForm d (node (width_of (total_length (operands ts))) false (kind.Concat (forms_of (operands ts)))) (λ sc. joined (map (alone_value d sc) ts)) (all_constant (operands ts)) (joined_known (operands ts)) (capped (sum (lengths_in d ts h))) false
      concat_form_at ts h l =
          let e : width_of (total_length (operands ts)) ≡ capped (sum (lengths_in d ts h)) = ap width_of (total_length_is ts h) in
          subst (λ n. IsForm d (node (width_of (total_length (operands ts))) false (kind.Concat (forms_of (operands ts)))) (λ sc. joined (map (alone_value d sc) ts)) (all_constant (operands ts)) (joined_known (operands ts)) n false)
          e (concat_form ts h l (width_of (total_length (operands ts))) e)

  -- ---- `{n{a}}`

  module _ (n : ℕ) (e : TExpr) (v : Scene → Word) (c : Bool) (k : Option Word) (m : ℕ) (s : Bool) (f : IsForm d e v c k m s)
      (l : IsWidth (capped (n * m))) (p : 1 ≤ n) where
    size : capped (n * m) ≡ n * m
    size = uncapped (n * m) l

    has_copies : HasValue k → HasValue (known_copies n k)
    has_copies y =
        let wide : y.0.width ≡ m = known_wide d e v c k m s f y.0 y.1 in
        let range : in_range (n * y.0.width) ≡ true = ap (λ i. in_range (n * i)) wide ∙ in_range_is (n * m) (subst IsWidth size l) in
        (copies (n - 1) y.0, ap (known_copies n) y.1 ∙ ap (λ b. if b then Some (copies (n - 1) y.0) else None) range)

    pub copies_form : (w : ℕ) → w ≡ capped (n * m) → (b : Bool) → (b ≡ true → c ≡ true) → IsForm d (node w false (kind.Repeat n e)) (λ sc. copies (n - 1) (v sc)) b (known_copies n k) w false
    copies_form w q b only = record {
      wide = refl;
      sign = refl;
      made = subst (IsWellMade d) (sym r) (All-cons (IsNode d) (plain.Copies x n (expr_of e)) (nodes_of (expr_of e))
          (subst IsWidth (sym q) l, (p, ap (λ i. n * i) (form_width d e v c k m s f) ∙ sym size ∙ sym q)) f.made);
      is = λ sc g. ap (value d sc) r ∙ ap (copies (n - 1)) (f.is sc g);
      fixed = λ h. ap is_constant r ∙ f.fixed (only h);
      has = λ h. has_copies (f.has (only h));
      told = λ sc. copies_tell n k (v sc) (f.told sc);
    }
      where
        x : Shape
        x = record { width = w; signed = false }

        r : expr_of (node w false (kind.Repeat n e)) ≡ plain.Copies x n (expr_of e)
        r = expr_is (node w false (kind.Repeat n e)) ∙ repeat_is n e x
