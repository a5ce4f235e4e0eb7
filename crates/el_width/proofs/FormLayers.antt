-- Every expression: by induction on its layers.
use Rattle.std.proofs.Common.{◌≡◌, ◌≤◌, ◌<◌, ◌^◌, ◌&&◌, ℕ, Bool, true, false, not, List, [], ◌∷◌, ◌++◌, map, Option, Some, None, All, refl, sym, subst, ◌∙◌, ap, ap₂, arith}
use Rattle.std.specs.Prelude.{flat_map, max, option_map, IsSome}
use Rattle.std.proofs.lemmas.List.Elements.{All-head, All-tail}
use Rattle.xt_bits.specs.Word.{Word, word, IsKept}
use Rattle.xt_bits.specs.Operators.{extend_of}
use Rattle.vl_tree.specs.declared.exprs.Expr.{Expr, map-Expr}
use Rattle.vl_tree.specs.declared.exprs.Select.{Select, map-Select}
use Rattle.vl_tree.specs.declared.exprs.Expr.TheOpen as layer
use Rattle.vl_tree.specs.declared.exprs.Expr.TheViews.{roll-Expr, roll-Select}
use Rattle.vl_tree.specs.declared.exprs.Expr.TheFolds.{fold-roll-Expr, fold-roll-Select, fold-Select, ind-Expr}
use Rattle.el_design.specs.Plain.{Flat}
use Rattle.el_design.specs.View.{expr_of}
use Rattle.el_design.specs.Value.{Scene, value}
use Rattle.el_design.specs.Sound.{IsWidth}
use Rattle.el_design.specs.Fits.{FitsScene, IsWellMade}
use Rattle.el_design.proofs.FitValues.{all_left, all_right}
use Rattle.el_design.proofs.FitWords.{word_is}
use Rattle.el_width.specs.declared.numbers.Literal.{Literal}
use Rattle.el_width.specs.Environment.{Environment, means, spelled, break_at}
use Rattle.el_width.specs.Lengths.{in_range, capped, larger, width_of}
use Rattle.el_width.specs.Numbers.{based, decimal, unsized, sized, kept_width}
use Rattle.el_width.specs.Operators.{manner_of, keeps_length, is_signed_word}
use Rattle.el_width.specs.Operands.{only_if, literal, formals_of}
use Rattle.el_width.specs.Typed.{Typed, Chosen}
use Rattle.el_width.specs.Breaks.{alone, select_breaks, expr_breaks, argument_breaks}
use Rattle.el_width.specs.Expressions.{typed_node, chosen_node, typed_of, chosen_of, context_length, context_sign, in_context, expression_form, constant_breaks, constant_of, source_value}
use Rattle.el_width.specs.Uses.{Use, Read, Called, Within, begins_with_index, all_uses, select_uses, expr_uses, uses_of, FitsUse, NamesFit, IsContext}
use Rattle.el_width.proofs.Nodes.{in_range_is, wide_is, false_is_true}
use Rattle.el_width.proofs.Forms.{IsForm}
use Rattle.el_width.proofs.FormNames.{IsChosen, IsIndex}
use Rattle.el_width.proofs.FormLaw.{IsFine, max_wide, left_nil, right_nil, only_false, not_false, Fine, IsGiven, AreGiven, AreChosen, FirstIsIndex, given_alone, given_known, whole_known, index_chosen, index_word, part_chosen, counted, up_chosen, down_chosen, name_fine, call_fine, literal_fine, binary_fine, unary_fine, choice_fine, sign_fine, concat_fine, replicate_fine}

abbrev within_of : Select → Within
within_of = fold-Select (List Use) Within expr_uses select_uses

module _ (d : Flat) (env : Environment) where
  abbrev Fits : List Use → Type 0
  Fits us = All (FitsUse d env) us

  -- ---- numbers

  unsized_fine : (at : ℕ) (signed : Bool) (n : ℕ) (must : Bool) → only_if (not (unsized signed n).fits) (break_at env at 40) ≡ [] →
      IsFine d (literal at (unsized signed n)) (λ sc w s. extend_of (unsized signed n).bits w s) must
  unsized_fine at signed n must h = literal_fine d env at (unsized signed n) must (break_at env at 40) refl (omega arith, omega arith, (word_is 32 n).1) h (λ e. (omega arith, omega arith))

  sized_same : (size : ℕ) → in_range size ≡ true → capped size ≡ kept_width size
  sized_same size h = grind (arith, h)

  sized_fine : (at : ℕ) (signed : Bool) (size n : ℕ) (must : Bool) → only_if (not (sized signed size n).fits) (break_at env at 40) ≡ [] →
      IsFine d (literal at (sized signed size n)) (λ sc w s. extend_of (sized signed size n).bits w s) must
  sized_fine at signed size n must h =
      let fits : in_range size ≡ true = not_false (in_range size) (only_false (not (in_range size)) (break_at env at 40) h) in
      let same = sized_same size fits in
      let kept : IsWidth (kept_width size) = subst IsWidth same (capped_wide size fits) in
      literal_fine d env at (sized signed size n) must (break_at env at 40) same (kept.0, kept.1, (word_is (kept_width size) n).1) h (λ e. capped_wide size fits)
    where
      capped_wide : (size : ℕ) → in_range size ≡ true → IsWidth (capped size)
      capped_wide size h = let l = wide_is size h in (grind (arith, l.0, l.1), grind (arith, l.0, l.1))

  based_fine : (at : ℕ) (size : Option ℕ) (number : ℕ) (must : Bool) → only_if (not (based env size number).fits) (break_at env at 40) ≡ [] →
      IsFine d (literal at (based env size number)) (λ sc w s. extend_of (based env size number).bits w s) must
  based_fine at None number must h = unsized_fine at _ _ must h
  based_fine at (Some size) number must h = sized_fine at _ _ _ must h

  -- ---- layers

  abbrev IsTyped : Expr → Type 0
  IsTyped e = Fits (uses_of e) → IsGiven d env (typed_of env e)

  abbrev IsTaken : Select → Type 0
  IsTaken s = Fits (within_of s).uses → (must : Bool) → (chosen_of env s).broken must ≡ [] →
      IsChosen d (chosen_of env s) × ((within_of s).is_index ≡ true → IsIndex d (chosen_of env s))

  abbrev Kept : Type 0
  Kept = (e : Expr) × IsTyped e

  abbrev KeptSelect : Type 0
  KeptSelect = (s : Select) × IsTaken s

  abbrev bare : layer.Expr-F Kept KeptSelect → layer.Expr-F Expr Select
  bare y = map-Expr Kept KeptSelect Expr Select (λ e. e.0) (λ s. s.0) y

  abbrev bare_select : layer.Select-F Kept KeptSelect → layer.Select-F Expr Select
  bare_select y = map-Select Kept KeptSelect Expr Select (λ e. e.0) (λ s. s.0) y

  abbrev typed_layer : layer.Expr-F Expr Select → layer.Expr-F Typed Chosen
  typed_layer x = map-Expr Expr Select Typed Chosen (typed_of env) (chosen_of env) x

  abbrev chosen_layer : layer.Select-F Expr Select → layer.Select-F Typed Chosen
  chosen_layer x = map-Select Expr Select Typed Chosen (typed_of env) (chosen_of env) x

  abbrev uses_layer : layer.Expr-F Expr Select → layer.Expr-F (List Use) Within
  uses_layer x = map-Expr Expr Select (List Use) Within uses_of within_of x

  abbrev within_layer : layer.Select-F Expr Select → layer.Select-F (List Use) Within
  within_layer x = map-Select Expr Select (List Use) Within uses_of within_of x

  left : (xs ys : List Use) → Fits (xs ++ ys) → Fits xs
  left xs ys h = all_left (FitsUse d env) xs ys h

  right : (xs ys : List Use) → Fits (xs ++ ys) → Fits ys
  right xs ys h = all_right (FitsUse d env) xs ys h

  all_given : (es : List Kept) → Fits (all_uses (map uses_of (map (λ e. e.0) es))) → AreGiven d env (map (typed_of env) (map (λ e. e.0) es))
  all_given [] h = tt
  all_given (e ∷ es) h = (e.1 (left (uses_of e.0) _ h), all_given es (right (uses_of e.0) _ h))

  all_chosen : (ts : List KeptSelect) (must : Bool) → Fits (flat_map (λ t. t.uses) (map within_of (map (λ t. t.0) ts))) → flat_map (λ t. t.broken must) (map (chosen_of env) (map (λ t. t.0) ts)) ≡ [] →
      AreChosen d env (map (chosen_of env) (map (λ t. t.0) ts))
  all_chosen [] must h k = tt
  all_chosen (t ∷ ts) must h k =
      ((t.1 (left (within_of t.0).uses _ h) must (left_nil ((chosen_of env t.0).broken must) _ k)).0, all_chosen ts must (right (within_of t.0).uses _ h) (right_nil ((chosen_of env t.0).broken must) _ k))

  first_index : (ts : List KeptSelect) (must : Bool) → Fits (flat_map (λ t. t.uses) (map within_of (map (λ t. t.0) ts))) → flat_map (λ t. t.broken must) (map (chosen_of env) (map (λ t. t.0) ts)) ≡ [] →
      begins_with_index (map within_of (map (λ t. t.0) ts)) ≡ true → FirstIsIndex d env (map (chosen_of env) (map (λ t. t.0) ts))
  first_index [] must h k i = false_is_true i
  first_index (t ∷ ts) must h k i = (t.1 (left (within_of t.0).uses _ h) must (left_nil ((chosen_of env t.0).broken must) _ k)).1 i

  select_taken : (y : layer.Select-F Kept KeptSelect) → Fits (select_uses (within_layer (bare_select y))).uses → (must : Bool) → select_breaks env (chosen_layer (bare_select y)) must ≡ [] →
      IsChosen d (chosen_node env (chosen_layer (bare_select y))) × ((select_uses (within_layer (bare_select y))).is_index ≡ true → IsIndex d (chosen_node env (chosen_layer (bare_select y))))
  select_taken (layer.Index at i) h must k =
      let here = given_alone d env (typed_of env i.0) (i.1 h) must k in (index_chosen d env at (typed_of env i.0) here, λ e. index_word d env at (typed_of env i.0) here)
  select_taken (layer.Part at msb lsb) h must k =
      let m = typed_of env msb.0 in
      let l = typed_of env lsb.0 in
      let both = left_nil (alone true m ++ alone true l) _ k in
      let high = whole_known m.operand (given_known d env m (msb.1 (left (uses_of msb.0) (uses_of lsb.0) h)) (left_nil (alone true m) (alone true l) both)) in
      let low = whole_known l.operand (given_known d env l (lsb.1 (right (uses_of msb.0) (uses_of lsb.0) h)) (right_nil (alone true m) (alone true l) both)) in
      (part_chosen d env at m l high.0 low.0 high.1 low.1 (right_nil (alone true m ++ alone true l) _ k), λ e. false_is_true e)
  select_taken (layer.Up at base width) h must k =
      let b = typed_of env base.0 in
      let w = typed_of env width.0 in
      let both = left_nil (alone must b ++ alone true w) _ k in
      let count = counted d env at w (width.1 (right (uses_of base.0) (uses_of width.0) h)) (right_nil (alone must b) (alone true w) both) (right_nil (alone must b ++ alone true w) _ k) in
      (up_chosen d env at b w (given_alone d env b (base.1 (left (uses_of base.0) (uses_of width.0) h)) must (left_nil (alone must b) (alone true w) both)) count.0 count.1, λ e. false_is_true e)
  select_taken (layer.Down at base width) h must k =
      let b = typed_of env base.0 in
      let w = typed_of env width.0 in
      let both = left_nil (alone must b ++ alone true w) _ k in
      let count = counted d env at w (width.1 (right (uses_of base.0) (uses_of width.0) h)) (right_nil (alone must b) (alone true w) both) (right_nil (alone must b ++ alone true w) _ k) in
      (down_chosen d env at b w (given_alone d env b (base.1 (left (uses_of base.0) (uses_of width.0) h)) must (left_nil (alone must b) (alone true w) both)) count.0 count.1, λ e. false_is_true e)

  expr_given : (y : layer.Expr-F Kept KeptSelect) → Fits (expr_uses (uses_layer (bare y))) → IsGiven d env (typed_node env (typed_layer (bare y)))
  expr_given (layer.Choice at c a b) h must k =
      let test = typed_of env c.0 in
      let first = typed_of env a.0 in
      let second = typed_of env b.0 in
      let two = left (uses_of c.0 ++ uses_of a.0) (uses_of b.0) h in
      let both = left_nil (alone must test ++ first.broken must) (second.broken must) k in
      choice_fine d env at test first second must (c.1 (left (uses_of c.0) (uses_of a.0) two)) (left_nil (alone must test) (first.broken must) both)
      (a.1 (right (uses_of c.0) (uses_of a.0) two) must (right_nil (alone must test) (first.broken must) both))
      (b.1 (right (uses_of c.0 ++ uses_of a.0) (uses_of b.0) h) must (right_nil (alone must test ++ first.broken must) (second.broken must) k))
  expr_given (layer.Binary at op a b) h must k =
      let l = typed_of env a.0 in
      let r = typed_of env b.0 in
      let both = left_nil (l.broken must ++ r.broken must) _ k in
      binary_fine d env at op l r must (a.1 (left (uses_of a.0) (uses_of b.0) h) must (left_nil (l.broken must) (r.broken must) both))
      (b.1 (right (uses_of a.0) (uses_of b.0) h) must (right_nil (l.broken must) (r.broken must) both)) (right_nil (l.broken must ++ r.broken must) _ k)
  expr_given (layer.Unary at op a) h must k =
      let o = typed_of env a.0 in unary_fine d env at op o must (a.1 h must (left_nil (o.broken must) _ k)) (right_nil (o.broken must) _ k)
  expr_given (layer.Based at size number) h must k = based_fine at size number must k
  expr_given (layer.Decimal at number) h must k = unsized_fine at true _ must k
  expr_given (layer.Name at n ts) h must k =
      let named : FitsUse d env (Read n (begins_with_index (map within_of (map (λ t. t.0) ts)))) = All-head (FitsUse d env) _ _ h in
      let uses = All-tail (FitsUse d env) _ _ h in
      let clean = right_nil (only_if _ (break_at env n 32)) _ k in
      name_fine d env at (means env n) (begins_with_index (map within_of (map (λ t. t.0) ts))) (map (chosen_of env) (map (λ t. t.0) ts)) must (break_at env n 32) named (all_chosen ts must uses clean)
      (first_index ts must uses clean) (left_nil (only_if _ (break_at env n 32)) _ k)
  expr_given (layer.Call at n args) h must k =
      call_fine d env at (means env n) (map (typed_of env) (map (λ e. e.0) args)) must (All-head (FitsUse d env) _ _ h) (all_given args (All-tail (FitsUse d env) _ _ h))
      (only_false must (break_at env n 32) (left_nil (only_if must (break_at env n 32)) _ k)) (right_nil (only_if must (break_at env n 32)) _ k)
  expr_given (layer.Sign at sign value) h must k = sign_fine d env at (is_signed_word sign) (typed_of env value.0) must (value.1 h) k
  expr_given (layer.Concat at parts) h must k =
      let ts = map (typed_of env) (map (λ e. e.0) parts) in concat_fine d env at ts must (all_given parts h) (left_nil (flat_map (alone must) ts) _ k) (right_nil (flat_map (alone must) ts) _ k)
  expr_given (layer.Replicate at count parts) h must k =
      let c = typed_of env count.0 in
      let ts = map (typed_of env) (map (λ e. e.0) parts) in
      let both = left_nil (alone true c ++ flat_map (alone must) ts) _ k in
      replicate_fine d env at c ts must (count.1 (left (uses_of count.0) _ h)) (left_nil (alone true c) _ both) (all_given parts (right (uses_of count.0) _ h)) (right_nil (alone true c) _ both)
      (right_nil (alone true c ++ flat_map (alone must) ts) _ k)

  made_expr : (x : layer.Expr-F Expr Select) (y : layer.Expr-F Kept KeptSelect) → bare y ≡ x → IsTyped (roll-Expr x)
  made_expr x y is = subst (λ z. IsTyped (roll-Expr z)) is
      (λ h. subst (IsGiven d env) (sym (fold-roll-Expr Typed Chosen (typed_node env) (chosen_node env) (bare y)))
      (expr_given y (subst Fits (fold-roll-Expr (List Use) Within expr_uses select_uses (bare y)) h)))

  abbrev BothAre : Within → Chosen → Type 0
  BothAre u c = Fits u.uses → (must : Bool) → c.broken must ≡ [] → IsChosen d c × (u.is_index ≡ true → IsIndex d c)

  made_select : (x : layer.Select-F Expr Select) (y : layer.Select-F Kept KeptSelect) → bare_select y ≡ x → IsTaken (roll-Select x)
  made_select x y is = subst (λ z. IsTaken (roll-Select z)) is (λ h must k. both h must k)
    where
      c : chosen_of env (roll-Select (bare_select y)) ≡ chosen_node env (chosen_layer (bare_select y))
      c = fold-roll-Select Typed Chosen (typed_node env) (chosen_node env) (bare_select y)

      u : within_of (roll-Select (bare_select y)) ≡ select_uses (within_layer (bare_select y))
      u = fold-roll-Select (List Use) Within expr_uses select_uses (bare_select y)

      both : BothAre (within_of (roll-Select (bare_select y))) (chosen_of env (roll-Select (bare_select y)))
      both = subst (λ u. BothAre u (chosen_of env (roll-Select (bare_select y)))) (sym u) (subst (BothAre (select_uses (within_layer (bare_select y)))) (sym c) (select_taken y))

  pub is_given : (e : Expr) → NamesFit d env e → IsGiven d env (typed_of env e)
  is_given = ind-Expr IsTyped IsTaken made_expr made_select

  -- ---- in a context

  module _ (context : Option (ℕ × Bool)) (l : IsContext context) (e : Expr) (names : NamesFit d env e) (must : Bool) where
    abbrev it : Typed
    it = typed_of env e

    context_wide : Fine d env (typed_of env e) must → IsWidth (context_length context (typed_of env e).operand)
    context_wide f = go context l
      where
        go : (c : Option (ℕ × Bool)) → IsContext c → IsWidth (context_length c (typed_of env e).operand)
        go None l = subst IsWidth (sym (ap width_of f.is)) f.wide
        go (Some c) l = subst IsWidth (sym (ap (λ o. width_of (larger (Some c.0) o)) f.is)) (max_wide c.0 f.length l f.wide)

    pub context_form : (typed_of env e).broken must ++ (in_context context (typed_of env e).operand).broken ≡ [] →
        IsForm d (expression_form env context e) (λ sc. source_value env context e d sc) (typed_of env e).operand.constant (in_context context (typed_of env e).operand).known
        (context_length context (typed_of env e).operand) (context_sign context (typed_of env e).operand)
    context_form h =
        let f = is_given e names must (left_nil ((typed_of env e).broken must) _ h) in
        f.at (context_length context (typed_of env e).operand) (context_sign context (typed_of env e).operand) (context_wide f) (right_nil ((typed_of env e).broken must) _ h)

    pub is_constant_here : must ≡ true → (typed_of env e).broken must ++ (in_context context (typed_of env e).operand).broken ≡ [] → (typed_of env e).operand.constant ≡ true
    is_constant_here m h = (is_given e names must (left_nil ((typed_of env e).broken must) _ h)).constant m

  some_is_some : {X Y : Type 0} (f : X → Y) (o : Option X) (x : X) → o ≡ Some x → IsSome (option_map f o)
  some_is_some f o x h = subst (λ o. IsSome (option_map f o)) (sym h) refl

  pub has_value : (context : Option (ℕ × Bool)) → IsContext context → (e : Expr) → NamesFit d env e → constant_breaks env context e ≡ [] → IsSome (constant_of env context e)
  has_value context l e names h =
      let known = (context_form context l e names true h).has (is_constant_here context l e names true refl h) in
      some_is_some _ (in_context context (typed_of env e).operand).known known.0 known.1
