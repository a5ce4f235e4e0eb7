-- Typed expressions, node by node: each is well made in a design, and has the value that its operands give.
use Rattle.std.proofs.Common.{◌≡◌, ◌≢◌, ◌≤◌, ◌<◌, ◌+◌, ◌-◌, ◌*◌, ◌^◌, ◌==◌, ◌&&◌, ℕ, zero, suc, Bool, true, false, not, if◌then◌else◌, List, [], ◌∷◌, ◌++◌, map, Option, Some, None, All, refl, sym, subst, ◌∙◌, ap, ap₂, arith}
use Rattle.std.specs.Prelude.{fold, sum, ℤ}
use Rattle.std.specs.List.{list_all}
use Rattle.std.proofs.lemmas.List.Elements.{All-nil, All-cons, All-head, All-tail}
use Rattle.std.proofs.lemmas.List.Folds.{list_all-append}
use Rattle.xt_bits.specs.Word.{Word, IsKept}
use Rattle.xt_bits.specs.Operators.{extend_of}
use Rattle.xt_bits.proofs.Readings.{extend_same}
use Rattle.vl_tree.specs.declared.operators.UnOp as source_un
use Rattle.vl_tree.specs.declared.operators.BinOp as source_bin
use Rattle.el_design.specs.declared.expressions.TExpr.{TExpr}
use Rattle.el_design.specs.declared.expressions.Kind.TheVariants as kind
use Rattle.el_design.specs.Plain as plain
use Rattle.el_design.specs.Plain.{Shape, Expr, Flat}
use Rattle.el_design.specs.View.{expr_of}
use Rattle.el_design.specs.Value.{Scene, value, shape_of, is_signed, is_up, unary_value, binary_value}
use Rattle.el_design.specs.Turns.{fixed}
use Rattle.el_design.specs.Names.{nodes_of, is_fixed, is_constant}
use Rattle.el_design.specs.Sound.{IsWidth, IsNode, IsDivisor, width}
use Rattle.el_design.specs.Fits.{IsWordOf, FitsScene, IsWellMade}
use Rattle.el_design.proofs.Equations.{expr_is, num_is, unary_is, binary_is, choice_is, sign_is, resize_is}
use Rattle.el_design.proofs.FitValues.{value_word}
use Rattle.el_design.proofs.FitStores.{empty_fits}
use Rattle.el_width.specs.declared.operators.Manner.{Manner}
use Rattle.el_width.specs.declared.operators.Manner.TheVariants.{Together, Shifts, Compares, Judges}
use Rattle.el_width.specs.Lengths.{in_range}
use Rattle.el_width.specs.Operators.{manner_of, keeps_length, unary_of, binary_of, divides}
use Rattle.el_width.specs.Operands.{node, same_sign, brought, brought_value, known_unary, known_binary, known_choice, fits_operator, is_zero}
use Rattle.el_width.proofs.Sized.{brought_has, same_is, number_is, parts}
use Rattle.el_width.proofs.Constants.{Tells, some_is, none_is, unary_tells, brought_tells, binary_tells, choice_tells}
use Rattle.el_width.proofs.Nodes.{shaped, shape_is, Fitting, fits_binary, FittingUnary, fits_unary, Agree, same_value, divides_together, divides_well, AreWide_at, as_wide, operator_fits, in_range_is, true_is_false}

abbrev pub HasValue : Option Word → Type 0
HasValue known = (x : Word) × (known ≡ Some x)

-- a typed expression of a width and a sign: it is well made and has this value; and if it is constant, it is so in the design, and its value is known
pub record IsForm (d : Flat) (e : TExpr) (v : Scene → Word) (constant : Bool) (known : Option Word) (w : ℕ) (s : Bool) : Type 0 where
  pub wide : e.width ≡ w
  pub sign : e.signed ≡ s
  pub made : IsWellMade d (expr_of e)
  pub is : (sc : Scene) → FitsScene d sc → value d sc (expr_of e) ≡ v sc
  pub fixed : constant ≡ true → is_constant (expr_of e) ≡ true
  pub has : constant ≡ true → HasValue known
  pub told : (sc : Scene) → Tells known (v sc)

pub both_true : (a b : Bool) → a ≡ true → b ≡ true → (a && b) ≡ true
both_true a b h k = ap₂ (λ p q. p && q) h k

pub constants_both : (xs ys : List Expr) → list_all is_fixed xs ≡ true → list_all is_fixed ys ≡ true → list_all is_fixed (xs ++ ys) ≡ true
constants_both xs ys h k = list_all-append is_fixed xs ys ∙ both_true _ _ h k

module _ (d : Flat) where
  fixed_fits : FitsScene d (fixed d)
  fixed_fits = (empty_fits d, λ n net x h k. none_is x k)

  pub all_both : (xs ys : List Expr) → All (IsNode d) xs → All (IsNode d) ys → All (IsNode d) (xs ++ ys)
  all_both [] ys h k = k
  all_both (x ∷ xs) ys h k = All-cons (IsNode d) x (xs ++ ys) (All-head (IsNode d) x xs h) (all_both xs ys (All-tail (IsNode d) x xs h) k)

  -- the width and the sign of what an expression stands for
  width_here : (e : TExpr) → width (expr_of e) ≡ e.width
  width_here e = ap (λ s. s.width) (shape_is e)

  sign_here : (e : TExpr) → is_signed (expr_of e) ≡ e.signed
  sign_here e = ap (λ s. s.signed) (shape_is e)

  module _ (e : TExpr) (v : Scene → Word) (c : Bool) (k : Option Word) (w : ℕ) (s : Bool) (f : IsForm d e v c k w s) where
    pub form_width : width (expr_of e) ≡ w
    form_width = width_here e ∙ f.wide

    pub form_sign : is_signed (expr_of e) ≡ s
    form_sign = sign_here e ∙ f.sign

    -- its value has its width
    pub form_word : (sc : Scene) → FitsScene d sc → IsWordOf w (v sc)
    form_word sc h = subst (λ n. IsWordOf n (v sc)) form_width (subst (IsWordOf (width (expr_of e))) (f.is sc h) (value_word d sc h (expr_of e) f.made))

    -- what is known has its width
    pub known_wide : (x : Word) → k ≡ Some x → x.width ≡ w
    known_wide x h = subst (λ y. y.width ≡ w) (f.told (fixed d) x h) (form_word (fixed d) fixed_fits).0

  -- ---- numbers

  pub number_form : (b : Word) (s : Bool) → IsKept b.width b.value → IsForm d (node b.width s (kind.Num b)) (λ sc. b) true (Some b) b.width s
  number_form b s h = record {
    wide = refl;
    sign = refl;
    made = subst (IsWellMade d) (sym e) (All-cons (IsNode d) x [] ((h.0, h.1), (refl, h.2)) (All-nil (IsNode d)));
    is = λ sc f. ap (value d sc) e;
    fixed = λ c. ap is_constant e;
    has = λ c. (b, refl);
    told = λ sc x h. some_is b x h;
  }
    where
      x : Expr
      x = plain.Number (record { width = b.width; signed = s }) b

      e : expr_of (node b.width s (kind.Num b)) ≡ x
      e = expr_is (node b.width s (kind.Num b)) ∙ num_is b (record { width = b.width; signed = s })

  -- ---- brought to a length and a sign

  brought_known : (w : ℕ) (s : Bool) (k : Option Word) → IsWidth w → HasValue k → HasValue (brought_value w s k)
  brought_known w s k l h = (extend_of h.0 w s, ap (brought_value w s) h.1 ∙ ap (λ b. if b then Some (extend_of h.0 w s) else None) (in_range_is w l))

  module _ (e : TExpr) (v : Scene → Word) (c : Bool) (k : Option Word) (n : ℕ) (t : Bool) (f : IsForm d e v c k n t) (w : ℕ) (s : Bool) (l : IsWidth w) where
    abbrev Brought : TExpr → Type 0
    Brought r = IsForm d r (λ sc. extend_of (v sc) w s) c (brought_value w s k) w s

    as_it_is : e.width ≡ w → e.signed ≡ s → Brought e
    as_it_is h i = record {
      wide = h;
      sign = i;
      made = f.made;
      is = λ sc g. f.is sc g ∙ same sc (form_word e v c k n t f sc g);
      fixed = f.fixed;
      has = λ h. brought_known w s k l (f.has h);
      told = λ sc. brought_tells w s k (v sc) (f.told sc);
    }
      where
        same : (sc : Scene) → IsWordOf n (v sc) → v sc ≡ extend_of (v sc) w s
        same sc g =
            let wide : (v sc).width ≡ w = g.0 ∙ sym f.wide ∙ h in
            sym (subst (λ m. extend_of (v sc) m s ≡ v sc) wide (extend_same (v sc) s (subst (λ m. (v sc).value < 2 ^ m) (sym g.0) g.1)))

    resized : Brought (node w s (kind.Resize e))
    resized = record {
      wide = refl;
      sign = refl;
      made = subst (IsWellMade d) (sym r) (All-cons (IsNode d) (plain.Resize x (expr_of e)) (nodes_of (expr_of e)) (l, tt) f.made);
      is = λ sc g. ap (value d sc) r ∙ ap (λ y. extend_of y w s) (f.is sc g);
      fixed = λ h. ap is_constant r ∙ f.fixed h;
      has = λ h. brought_known w s k l (f.has h);
      told = λ sc. brought_tells w s k (v sc) (f.told sc);
    }
      where
        x : Shape
        x = record { width = w; signed = s }

        r : expr_of (node w s (kind.Resize e)) ≡ plain.Resize x (expr_of e)
        r = expr_is (node w s (kind.Resize e)) ∙ resize_is e x

    pub brought_form : Brought (brought w s e)
    brought_form = go (e.width == w && same_sign e.signed s) refl
      where
        go : (b : Bool) → (e.width == w && same_sign e.signed s) ≡ b → Brought (if b then e else node w s (kind.Resize e))
        go true h = let p = parts (e.width == w) (same_sign e.signed s) h in as_it_is (number_is e.width w p.0) (same_is e.signed s p.1)
        go false h = resized

  -- ---- operators

  module _ (op : source_un.UnOp) (e : TExpr) (v : Scene → Word) (c : Bool) (k : Option Word) (n : ℕ) (t : Bool) (f : IsForm d e v c k n t) (w : ℕ) (s : Bool) (l : IsWidth w) where
    pub unary_form : FittingUnary (keeps_length op) w n → IsForm d (node w s (kind.Unary (unary_of op) e)) (λ sc. unary_value (unary_of op) (v sc)) c (known_unary (unary_of op) k) w s
    unary_form fits = record {
      wide = refl;
      sign = refl;
      made = subst (IsWellMade d) (sym r) (All-cons (IsNode d) (plain.Unary x (unary_of op) (expr_of e)) (nodes_of (expr_of e))
          (l, fits_unary op w (width (expr_of e)) (subst (FittingUnary (keeps_length op) w) (sym (form_width e v c k n t f)) fits)) f.made);
      is = λ sc g. ap (value d sc) r ∙ ap (unary_value (unary_of op)) (f.is sc g);
      fixed = λ h. ap is_constant r ∙ f.fixed h;
      has = λ h. let y = f.has h in (unary_value (unary_of op) y.0, ap (known_unary (unary_of op)) y.1);
      told = λ sc. unary_tells (unary_of op) k (v sc) (f.told sc);
    }
      where
        x : Shape
        x = record { width = w; signed = s }

        r : expr_of (node w s (kind.Unary (unary_of op) e)) ≡ plain.Unary x (unary_of op) (expr_of e)
        r = expr_is (node w s (kind.Unary (unary_of op) e)) ∙ unary_is (unary_of op) e x

  module _ (e : TExpr) (v : Scene → Word) (c : Bool) (k : Option Word) (n : ℕ) (t : Bool) (f : IsForm d e v c k n t) (w : ℕ) (s : Bool) (l : IsWidth w) where
    pub sign_form : w ≡ n → IsForm d (node w s (kind.Sign e)) v c k w s
    sign_form same = record {
      wide = refl;
      sign = refl;
      made = subst (IsWellMade d) (sym r) (All-cons (IsNode d) (plain.Sign x (expr_of e)) (nodes_of (expr_of e)) (l, form_width e v c k n t f ∙ sym same) f.made);
      is = λ sc g. ap (value d sc) r ∙ f.is sc g;
      fixed = λ h. ap is_constant r ∙ f.fixed h;
      has = f.has;
      told = f.told;
    }
      where
        x : Shape
        x = record { width = w; signed = s }

        r : expr_of (node w s (kind.Sign e)) ≡ plain.Sign x (expr_of e)
        r = expr_is (node w s (kind.Sign e)) ∙ sign_is e x

  not_zero : (x : Word) → (x.value == 0) ≡ false → x.value ≢ 0
  not_zero x h e = true_is_false (sym (ap (λ n. n == 0) e) ∙ h)

  -- two operands
  module _ (op : source_bin.BinOp)
      (a : TExpr) (u : Scene → Word) (c : Bool) (k : Option Word) (m : ℕ) (p : Bool) (f : IsForm d a u c k m p)
      (b : TExpr) (v : Scene → Word) (e : Bool) (j : Option Word) (n : ℕ) (q : Bool) (g : IsForm d b v e j n q)
      (w : ℕ) (s : Bool) (l : IsWidth w) (both : Bool)
      (fits : Fitting (manner_of op) w m n) (wide : AreWide_at (manner_of op) m n) (agree : Agree (manner_of op) (p && q) s both both)
      (divisor : divides (binary_of op) ≡ true → (e ≡ true) × (is_zero j ≡ false)) where
    abbrev x : Shape
    x = record { width = w; signed = s }

    r : expr_of (node w s (kind.Binary (binary_of op) a b)) ≡ plain.Binary x (binary_of op) (expr_of a) (expr_of b)
    r = expr_is (node w s (kind.Binary (binary_of op) a b)) ∙ binary_is (binary_of op) a b x

    is_divisor : divides (binary_of op) ≡ true → IsDivisor d (expr_of b)
    is_divisor h =
        let known : HasValue j = g.has (divisor h).0 in
        let here : value d (fixed d) (expr_of b) ≡ known.0 = g.is (fixed d) fixed_fits ∙ g.told (fixed d) known.0 known.1 in
        (g.fixed (divisor h).0, subst (λ y. y.value ≢ 0) (sym here) (not_zero known.0 (sym (ap is_zero known.1) ∙ (divisor h).1)))

    known_fits : (y z : Word) → k ≡ Some y → j ≡ Some z → fits_operator (binary_of op) y z ≡ true
    known_fits y z h i = operator_fits op y z
        (as_wide (manner_of op) y z m n (known_wide a u c k m p f y h) (known_wide b v e j n q g z i) wide)
        (λ t. sym (ap is_zero i) ∙ (divisor t).1)

    value_here : (sc : Scene) → FitsScene d sc → value d sc (plain.Binary x (binary_of op) (expr_of a) (expr_of b)) ≡ binary_value (binary_of op) both both (u sc) (v sc)
    value_here sc h =
        same_value op (is_signed (expr_of a) && is_signed (expr_of b)) s both both (value d sc (expr_of a)) (value d sc (expr_of b))
        (subst (λ t. Agree (manner_of op) t s both both) (sym (ap₂ (λ p q. p && q) (form_sign a u c k m p f) (form_sign b v e j n q g))) agree)
        ∙ ap₂ (binary_value (binary_of op) both both) (f.is sc h) (g.is sc h)

    pub binary_form : IsForm d (node w s (kind.Binary (binary_of op) a b)) (λ sc. binary_value (binary_of op) both both (u sc) (v sc)) (c && e) (known_binary (binary_of op) both k j) w s
    binary_form = record {
      wide = refl;
      sign = refl;
      made = subst (IsWellMade d) (sym r) (All-cons (IsNode d) (plain.Binary x (binary_of op) (expr_of a) (expr_of b)) (nodes_of (expr_of a) ++ nodes_of (expr_of b)) (
        l,
        (
          fits_binary op w (width (expr_of a)) (width (expr_of b))
              (subst (λ y. Fitting (manner_of op) w y (width (expr_of b))) (sym (form_width a u c k m p f)) (subst (Fitting (manner_of op) w m) (sym (form_width b v e j n q g)) fits)),
          divides_well d (binary_of op) (expr_of b) is_divisor,
        ),
      )
          (all_both (nodes_of (expr_of a)) (nodes_of (expr_of b)) f.made g.made));
      is = λ sc h. ap (value d sc) r ∙ value_here sc h;
      fixed = λ h. let t = parts c e h in ap is_constant r ∙ constants_both (nodes_of (expr_of a)) (nodes_of (expr_of b)) (f.fixed t.0) (g.fixed t.1);
      has = λ h. let t = parts c e h in here (f.has t.0) (g.has t.1);
      told = λ sc. binary_tells (binary_of op) both k j (u sc) (v sc) (f.told sc) (g.told sc);
    }
      where
        here : HasValue k → HasValue j → HasValue (known_binary (binary_of op) both k j)
        here y z = (
          binary_value (binary_of op) both both y.0 z.0,
          ap₂ (known_binary (binary_of op) both) y.1 z.1 ∙ ap (λ t. if t then Some (binary_value (binary_of op) both both y.0 z.0) else None) (known_fits y.0 z.0 y.1 z.1),
        )

  -- ---- choices

  module _ (t : TExpr) (u : Scene → Word) (c : Bool) (k : Option Word) (o : ℕ) (p : Bool) (f : IsForm d t u c k o p)
      (a : TExpr) (v : Scene → Word) (e : Bool) (j : Option Word)
      (b : TExpr) (y : Scene → Word) (r : Bool) (i : Option Word)
      (w : ℕ) (s : Bool) (l : IsWidth w) (g : IsForm d a v e j w s) (h : IsForm d b y r i w s) where
    abbrev chosen_shape : Shape
    chosen_shape = record { width = w; signed = s }

    is_here : expr_of (node w s (kind.Choice t a b)) ≡ plain.Choice chosen_shape (expr_of t) (expr_of a) (expr_of b)
    is_here = expr_is (node w s (kind.Choice t a b)) ∙ choice_is t a b chosen_shape

    pub choice_form : IsForm d (node w s (kind.Choice t a b)) (λ sc. if is_up (u sc) then v sc else y sc) (c && (e && r)) (known_choice k j i) w s
    choice_form = record {
      wide = refl;
      sign = refl;
      made = subst (IsWellMade d) (sym is_here) (All-cons (IsNode d) (plain.Choice chosen_shape (expr_of t) (expr_of a) (expr_of b)) ((nodes_of (expr_of t) ++ nodes_of (expr_of a)) ++ nodes_of (expr_of b))
          (l, (form_width a v e j w s g, form_width b y r i w s h))
          (all_both (nodes_of (expr_of t) ++ nodes_of (expr_of a)) (nodes_of (expr_of b)) (all_both (nodes_of (expr_of t)) (nodes_of (expr_of a)) f.made g.made) h.made));
      is = λ sc z. ap (value d sc) is_here ∙ ap (λ q. if is_up q then value d sc (expr_of a) else value d sc (expr_of b)) (f.is sc z)
          ∙ ap₂ (λ q r. if is_up (u sc) then q else r) (g.is sc z) (h.is sc z);
      fixed = λ z. let q = parts c (e && r) z in let n = parts e r q.1 in ap is_constant is_here ∙ constants_both (nodes_of (expr_of t) ++ nodes_of (expr_of a)) (nodes_of (expr_of b))
          (constants_both (nodes_of (expr_of t)) (nodes_of (expr_of a)) (f.fixed q.0) (g.fixed n.0)) (h.fixed n.1);
      has = λ z. let q = parts c (e && r) z in let n = parts e r q.1 in here (f.has q.0) (g.has n.0) (h.has n.1);
      told = λ sc. choice_tells k j i (u sc) (v sc) (y sc) (f.told sc) (g.told sc) (h.told sc);
    }
      where
        chosen : (b : Bool) → HasValue j → HasValue i → HasValue (if b then j else i)
        chosen true g h = g
        chosen false g h = h

        here : HasValue k → HasValue j → HasValue i → HasValue (known_choice k j i)
        here z g h = subst (λ q. HasValue (known_choice q j i)) (sym z.1) (chosen (is_up z.0) g h)
