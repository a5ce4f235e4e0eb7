-- A clean expression whose names are those of a design becomes a well made one, with the source expression's value.
use Rattle.std.proofs.Common.{◌≡◌, ◌≢◌, ◌≤◌, ◌<◌, ◌+◌, ◌-◌, ◌*◌, ◌==◌, ◌&&◌, ◌||◌, ℕ, zero, suc, Bool, true, false, not, if◌then◌else◌, List, [], ◌∷◌, ◌++◌, map, drop, Option, Some, None, All, refl, sym, subst, ◌∙◌, ap, ap₂, arith}
use Rattle.std.specs.Prelude.{fold, unwrap_or, option_map, slice_get, flat_map, max, sum, min, nat_le, ℤ, pos, negsuc, ◌-ℤ◌}
use Rattle.std.proofs.lemmas.List.Elements.{All-nil, All-cons, All-head, All-tail}
use Rattle.xt_base.specs.declared.refusals.Refusal.{Refusal}
use Rattle.xt_bits.specs.Word.{Word, word, integer_of, IsKept}
use Rattle.xt_bits.specs.Operators.{extend_of}
use Rattle.vl_tree.specs.declared.operators.UnOp as source_un
use Rattle.vl_tree.specs.declared.operators.BinOp as source_bin
use Rattle.el_design.specs.declared.expressions.TExpr.{TExpr}
use Rattle.el_design.specs.declared.expressions.Kind.{Kind}
use Rattle.el_design.specs.declared.expressions.Kind.TheVariants as kind
use Rattle.el_design.specs.declared.expressions.Pick.TheVariants as pick
use Rattle.el_design.specs.Plain.{Flat}
use Rattle.el_design.specs.View.{expr_of, range_of}
use Rattle.el_design.specs.Assign.{range_width}
use Rattle.el_design.specs.Value.{Scene, value, lowest, is_signed, is_up, unary_value, binary_value, joined, copies}
use Rattle.el_design.specs.Names.{range_nodes}
use Rattle.el_design.specs.Sound.{IsWidth, IsNode, IsRange}
use Rattle.el_design.specs.Fits.{FitsScene, IsWellMade}
use Rattle.el_design.proofs.Equations.{pick_bit_is, pick_part_is, pick_up_is, pick_down_is}
use Rattle.el_design.proofs.FitWords.{word_is}
use Rattle.vl_tree.specs.declared.exprs.Expr.TheOpen.{Expr-F, Select-F}
use Rattle.el_width.specs.declared.environment.Meaning.{Meaning}
use Rattle.el_width.specs.declared.environment.Meaning.TheVariants as meaning
use Rattle.el_width.specs.declared.numbers.Literal.{Literal}
use Rattle.el_width.specs.declared.operators.Manner.{Manner}
use Rattle.el_width.specs.declared.operators.Manner.TheVariants.{Together, Shifts, Compares, Judges}
use Rattle.el_width.specs.Environment.{Environment, means}
use Rattle.el_width.specs.Lengths.{in_range, capped, larger, times, width_of, is_wrong_length, bounds, is_bounds, count_of}
use Rattle.el_width.specs.Numbers.{based, decimal}
use Rattle.el_width.specs.Operators.{manner_of, keeps_length, is_signed_word, unary_of, binary_of, divides}
use Rattle.el_width.specs.Operands.{Operand, Known, node, by_itself, whole, own, is_zero, only_if, divisor_breaks, compared_width, compared_sign, unary, binary, choice, with_sign, literal, concat, replicate, name, named, variable, call, called, formals_of, arguments, object, open_kind, index_in, part_of, known_copies, total_length, forms_of, repeated, count_known, copied_length, all_constant, joined_known, passed}
use Rattle.el_width.specs.Typed.{Typed, Chosen}
use Rattle.el_width.specs.Breaks.{alone, operands, bounds_breaks, part_breaks, length_breaks, inner_breaks, reduction_breaks, copies_breaks, is_none_of, argument_breaks, expr_breaks, select_breaks, name_breaks, call_breaks, is_parameter}
use Rattle.el_width.specs.Values.{alone_value, index_value, low_of, bits_value, word_value, variable_value, name_value, call_value, argument_values, binary_at, passed_value}
use Rattle.el_width.specs.Expressions.{typed_node, chosen_node, part_taken}
use Rattle.el_width.specs.Uses.{IsRead, IsCalled}
use Rattle.el_width.proofs.Constants.{some_is, none_is}
use Rattle.el_width.proofs.Sized.{parts}
use Rattle.el_width.proofs.Nodes.{true_is_false, false_is_true, Fitting, FittingUnary, Agree, AreWide_at, divides_together, in_range_is, wide_is}
use Rattle.el_width.proofs.Forms.{HasValue, IsForm, both_true, form_sign, number_form, brought_form, unary_form, sign_form, binary_form, choice_form}
use Rattle.el_width.proofs.FormParts.{IsAlone, AreAlone, lengths_in, total_length_is, concat_form, repeated_form, copies_form, constant_each}
use Rattle.el_width.proofs.FormNames.{IsChosen, IsIndex, FirstIsChosen, IsKnown, IsPassed, ArePassed, net_form, variable_form, word_form, bits_form, known_brought, call_form}

-- ---- nothing is broken

cons_is_nil : {X Y : Type 0} (x : X) (xs : List X) → x ∷ xs ≡ [] → Y
cons_is_nil x xs h = absurd (clash h)
  where
    clash : x ∷ xs ≡ [] → ⊥
    clash h = cc

pub left_nil : {X : Type 0} (xs ys : List X) → xs ++ ys ≡ [] → xs ≡ []
left_nil [] ys h = refl
left_nil (x ∷ xs) ys h = cons_is_nil x (xs ++ ys) h

pub right_nil : {X : Type 0} (xs ys : List X) → xs ++ ys ≡ [] → ys ≡ []
right_nil [] ys h = h
right_nil (x ∷ xs) ys h = cons_is_nil x (xs ++ ys) h

pub only_false : (b : Bool) (r : Refusal) → only_if b r ≡ [] → b ≡ false
only_false true r h = cons_is_nil r [] h
only_false false r h = refl

pub not_false : (b : Bool) → not b ≡ false → b ≡ true
not_false true h = refl
not_false false h = true_is_false h

either_false : (a b : Bool) → (a || b) ≡ false → (a ≡ false) × (b ≡ false)
either_false true b h = true_is_false h
either_false false b h = (refl, h)

-- ---- lengths

pub max_wide : (m n : ℕ) → IsWidth m → IsWidth n → IsWidth (max m n)
max_wide m n h k = wide_is (max m n) (grind (arith, h.0, h.1, k.0, k.1))

max_least : (m n : ℕ) → m ≤ max m n
max_least m n = grind arith

right_length : (n : ℕ) → is_wrong_length (Some n) ≡ false → IsWidth n
right_length n h = wide_is n (not_false (in_range n) h)

some_length : (o : Option ℕ) (n : ℕ) → o ≡ Some n → o ≡ Some (width_of o)
some_length o n h = h ∙ ap (λ k. Some (width_of k)) (sym h)

-- ---- bounds

order : (m l : ℕ) → is_bounds m l ≡ true → (l ≤ m) × (m < 65536)
order m l h = let p = parts (nat_le l m) (nat_le m 65535) h in (grind (arith, p.0), grind (arith, p.1))

bounds_are : (y z : ℤ) (b : ℕ × ℕ) → bounds y z ≡ Some b → (b.1 ≤ b.0) × (b.0 < 65536)
bounds_are (pos m) (pos l) b h = go (is_bounds m l) refl h
  where
    go : (c : Bool) → is_bounds m l ≡ c → (if c then Some (m, l) else None) ≡ Some b → (b.1 ≤ b.0) × (b.0 < 65536)
    go true e h = subst (λ b. (b.1 ≤ b.0) × (b.0 < 65536)) (some_is (m, l) b h) (order m l e)
    go false e h = none_is b h
bounds_are (pos m) (negsuc n) b h = none_is b h
bounds_are (negsuc n) z b h = none_is b h

part_size : (m l : ℕ) → l ≤ m → suc m - l ≡ m - l + 1
part_size m l h = omega (arith, h)

pub whole_known : (a : Operand) → HasValue (by_itself a).known → (z : ℤ) × (whole a ≡ Some z)
whole_known a h = (integer_of h.0 a.signed, ap (option_map (λ x. integer_of x a.signed)) h.1)

count_is : (a : Operand) → HasValue (by_itself a).known → (n : ℕ) × (count_known a ≡ Some n)
count_is a h = let z = whole_known a h in (count_of z.0, ap (option_map count_of) z.1)

-- an operand in which nothing is broken, with its value at each length and sign
pub record IsFine (d : Flat) (a : Operand) (v : Scene → ℕ → Bool → Word) (must : Bool) : Type 0 where
  pub length : ℕ
  pub is : a.length ≡ Some length
  pub wide : IsWidth length
  pub constant : must ≡ true → a.constant ≡ true
  pub at : (w : ℕ) (s : Bool) → IsWidth w → (a.at w s).broken ≡ [] → IsForm d (a.at w s).form (λ sc. v sc w s) a.constant (a.at w s).known w s

module _ (d : Flat) (env : Environment) where
  abbrev pub Fine : Typed → Bool → Type 0
  Fine t must = IsFine d t.operand (λ sc w s. t.value d sc w s) must

  abbrev pub IsGiven : Typed → Type 0
  IsGiven t = (must : Bool) → t.broken must ≡ [] → Fine t must

  alone_is : (t : Typed) (must : Bool) → Fine t must → (by_itself t.operand).broken ≡ [] → IsAlone d t
  alone_is t must f h =
      let e : width_of t.operand.length ≡ f.length = ap width_of f.is in
      record {
        length = f.length;
        is = f.is;
        wide = f.wide;
        form = subst (λ n. IsForm d (by_itself t.operand).form (λ sc. alone_value d sc t) t.operand.constant (by_itself t.operand).known n t.operand.signed) e
            (f.at (width_of t.operand.length) t.operand.signed (subst IsWidth (sym e) f.wide) h);
      }

  pub given_alone : (t : Typed) → IsGiven t → (must : Bool) → alone must t ≡ [] → IsAlone d t
  given_alone t g must h = alone_is t must (g must (left_nil (t.broken must) (by_itself t.operand).broken h)) (right_nil (t.broken must) (by_itself t.operand).broken h)

  given_constant : (t : Typed) → IsGiven t → alone true t ≡ [] → t.operand.constant ≡ true
  given_constant t g h = (g true (left_nil (t.broken true) (by_itself t.operand).broken h)).constant refl

  pub given_known : (t : Typed) → IsGiven t → alone true t ≡ [] → HasValue (by_itself t.operand).known
  given_known t g h = (given_alone t g true h).form.has (given_constant t g h)

  -- something with a length and a sign of its own
  own_fine : (token : ℕ) (length : Option ℕ) (signed constant : Bool) (k : Kind) (known : Option Word) (v : Scene → Word) (must : Bool) (n : ℕ) → length ≡ Some n → IsWidth n →
      (must ≡ true → constant ≡ true) → IsForm d (node (width_of length) signed k) v constant known n signed → IsFine d (own token length signed constant k known) (λ sc w s. extend_of (v sc) w s) must
  own_fine token length signed constant k known v must n e l c f = record {
    length = n;
    is = e;
    wide = l;
    constant = c;
    at = λ w s l h. brought_form d (node (width_of length) signed k) v constant known n signed f w s l;
  }

  -- ---- selects

  index_is : (i : Typed) → IsAlone d i → (sc : Scene) → FitsScene d sc → integer_of (value d sc (expr_of (by_itself i.operand).form)) (is_signed (expr_of (by_itself i.operand).form)) ≡ index_value d sc i
  index_is i h sc g = ap₂ integer_of (h.form.is sc g) (form_sign d _ _ _ _ _ _ h.form)

  pub index_chosen : (at : ℕ) (i : Typed) → IsAlone d i → IsChosen d (chosen_node env (Select-F.Index at i))
  index_chosen at i h =
      let e = pick_bit_is (by_itself i.operand).form in
      record {
        length = 1;
        is = refl;
        wide = (omega arith, omega arith);
        range = subst IsRange (sym e) tt;
        size = ap range_width e;
        nodes = subst (λ r. All (IsNode d) (range_nodes r)) (sym e) h.form.made;
        lowest = λ sc g. ap (lowest d sc) e ∙ index_is i h sc g;
        span = refl;
      }

  pub index_word : (at : ℕ) (i : Typed) → IsAlone d i → IsIndex d (chosen_node env (Select-F.Index at i))
  index_word at i h =
      let e = ap index_in (pick.outs-Bit (by_itself i.operand).form) in
      record {
        made = subst (λ x. IsWellMade d (expr_of x)) (sym e) h.form.made;
        index = λ sc g. ap (λ x. integer_of (value d sc (expr_of x)) (is_signed (expr_of x))) e ∙ index_is i h sc g;
      }

  bounds_clean : (at : ℕ) (o : Option (ℕ × ℕ)) → bounds_breaks env at o ≡ [] → (b : ℕ × ℕ) × (o ≡ Some b) × IsWidth (b.0 - b.1 + 1)
  bounds_clean at None h = cons_is_nil _ [] h
  bounds_clean at (Some b) h = (b, refl, wide_is (b.0 - b.1 + 1) (not_false _ (only_false _ _ h)))

  pub part_chosen : (at : ℕ) (msb lsb : Typed) (y z : ℤ) → whole msb.operand ≡ Some y → whole lsb.operand ≡ Some z → part_breaks env at (whole msb.operand) (whole lsb.operand) ≡ [] →
      IsChosen d (chosen_node env (Select-F.Part at msb lsb))
  part_chosen at msb lsb y z hy hz h =
      let here : bounds_breaks env at (bounds y z) ≡ [] = sym (ap₂ (part_breaks env at) hy hz) ∙ h in
      let clean = bounds_clean at (bounds y z) here in
      let b : ℕ × ℕ = clean.0 in
      let are = bounds_are y z b clean.1 in
      let taken : part_taken (whole msb.operand) (whole lsb.operand) ≡ part_of (Some b) = ap₂ part_taken hy hz ∙ ap part_of clean.1 in
      let low : low_of (whole msb.operand) (whole lsb.operand) ≡ b = ap₂ low_of hy hz ∙ ap (λ o. unwrap_or o (0, 0)) clean.1 in
      let e : range_of (part_taken (whole msb.operand) (whole lsb.operand)).pick ≡ range_of (part_of (Some b)).pick = ap (λ t. range_of t.pick) taken in
      let r = e ∙ pick_part_is b.0 b.1 in
      record {
        length = b.0 - b.1 + 1;
        is = ap (λ t. t.length) taken;
        wide = clean.2;
        range = subst IsRange (sym r) are;
        size = ap range_width r ∙ part_size b.0 b.1 are.0;
        nodes = subst (λ r. All (IsNode d) (range_nodes r)) (sym r) (All-nil (IsNode d));
        lowest = λ sc g. ap (lowest d sc) r ∙ ap (λ b. pos b.1) (sym low);
        span = ap (λ b. b.0 - b.1 + 1) low;
      }

  pub counted : (at : ℕ) (t : Typed) → IsGiven t → alone true t ≡ [] → length_breaks env at (count_known t.operand) ≡ [] → (count_known t.operand ≡ Some (width_of (count_known t.operand))) × IsWidth (width_of (count_known t.operand))
  counted at t g h l =
      let n = count_is t.operand (given_known t g h) in
      let e = some_length (count_known t.operand) n.0 n.1 in
      (e, right_length (width_of (count_known t.operand)) (ap is_wrong_length (sym e) ∙ only_false (is_wrong_length (count_known t.operand)) _ l))

  pub up_chosen : (at : ℕ) (base w : Typed) → IsAlone d base → count_known w.operand ≡ Some (width_of (count_known w.operand)) → IsWidth (width_of (count_known w.operand)) → IsChosen d (chosen_node env (Select-F.Up at base w))
  up_chosen at base w h e l =
      let r = pick_up_is (by_itself base.operand).form (width_of (count_known w.operand)) in
      record {
        length = width_of (count_known w.operand);
        is = e;
        wide = l;
        range = subst IsRange (sym r) l;
        size = ap range_width r;
        nodes = subst (λ r. All (IsNode d) (range_nodes r)) (sym r) h.form.made;
        lowest = λ sc g. ap (lowest d sc) r ∙ index_is base h sc g;
        span = refl;
      }

  pub down_chosen : (at : ℕ) (base w : Typed) → IsAlone d base → count_known w.operand ≡ Some (width_of (count_known w.operand)) → IsWidth (width_of (count_known w.operand)) → IsChosen d (chosen_node env (Select-F.Down at base w))
  down_chosen at base w h e l =
      let r = pick_down_is (by_itself base.operand).form (width_of (count_known w.operand)) in
      record {
        length = width_of (count_known w.operand);
        is = e;
        wide = l;
        range = subst IsRange (sym r) l;
        size = ap range_width r;
        nodes = subst (λ r. All (IsNode d) (range_nodes r)) (sym r) h.form.made;
        lowest = λ sc g. ap (lowest d sc) r ∙ ap (λ z. z -ℤ pos (width_of (count_known w.operand) - 1)) (index_is base h sc g);
        span = refl;
      }

  -- ---- names

  known_fine : (token : ℕ) (k : Known) (v : Scene → Word) → IsKnown d k v → (must : Bool) → must ≡ false → IsFine d (variable token k) (λ sc w s. extend_of (v sc) w s) must
  known_fine token k v h must never = own_fine token k.length k.signed false k.kind None v must h.length h.is h.wide (λ m. false_is_true (sym never ∙ m)) h.form

  abbrev pub AreChosen : List Chosen → Type 0
  AreChosen [] = Unit {0}
  AreChosen (t ∷ ts) = IsChosen d t × AreChosen ts

  first_chosen : (ts : List Chosen) → AreChosen ts → FirstIsChosen d ts
  first_chosen [] h = tt
  first_chosen (t ∷ ts) h = h.0

  -- the first select is there, and is an index
  abbrev pub FirstIsIndex : List Chosen → Type 0
  FirstIsIndex [] = ⊥
  FirstIsIndex (t ∷ ts) = IsIndex d t

  no_must : (must : Bool) (m : Meaning) (r : Refusal) → is_parameter m ≡ false → only_if (must && not (is_parameter m)) r ≡ [] → must ≡ false
  no_must true m r e h = let k : not (is_parameter m) ≡ false = only_false (not (is_parameter m)) r h in false_is_true (sym e ∙ not_false (is_parameter m) k)
  no_must false m r e h = refl

  pub name_fine : (at : ℕ) (m : Meaning) (indexed : Bool) (ts : List Chosen) (must : Bool) (r : Refusal) → IsRead d m indexed → AreChosen ts → (indexed ≡ true → FirstIsIndex ts) →
      only_if (must && not (is_parameter m)) r ≡ [] → IsFine d (name at m (map (λ t. t.taken) ts)) (λ sc w s. extend_of (name_value d sc m ts) w s) must
  name_fine at (meaning.Parameter value signed) indexed ts must r h c i clean =
      own_fine at (Some value.width) signed true (kind.Num value) (Some value) (λ sc. value) must value.width refl (h.0, h.1) (λ m. refl) (number_form d value signed h)
  name_fine at meaning.Unvalued indexed ts must r h c i clean = absurd h
  name_fine at meaning.Unknown indexed ts must r h c i clean = absurd h
  name_fine at (meaning.Net o) indexed ts must r h c i clean =
      known_fine at (named (meaning.Net o) (map (λ t. t.taken) ts)) _ (bits_form d o.width o.signed (kind.Net o.number) _ h.0 (net_form d o.width o.signed o.number h.0 h.1) o.lsb ts (first_chosen ts c)) must
      (no_must must (meaning.Net o) r refl clean)
  name_fine at (meaning.Variable o) indexed ts must r h c i clean =
      known_fine at (named (meaning.Variable o) (map (λ t. t.taken) ts)) _ (bits_form d o.width o.signed (kind.Var o.number) _ h.0 (variable_form d o.width o.signed o.number h.0 h.1) o.lsb ts (first_chosen ts c)) must
      (no_must must (meaning.Variable o) r refl clean)
  name_fine at (meaning.Memory o) indexed [] must r h c i clean = absurd (i h.0)
  name_fine at (meaning.Memory o) indexed (t ∷ ts) must r h c i clean =
      known_fine at (named (meaning.Memory o) (map (λ t. t.taken) (t ∷ ts))) _ (bits_form d o.width o.signed _ _ h.1 (word_form d o.width o.signed o.number t h.1 h.2 (i h.0)) o.lsb ts (first_chosen ts c.1)) must
      (no_must must (meaning.Memory o) r refl clean)
  name_fine at (meaning.Routine f) indexed ts must r h c i clean =
      let o = h.0 in
      let known = bits_form d o.width o.signed (kind.Var o.number) _ h.2 (variable_form d o.width o.signed o.number h.2 h.3) o.lsb ts (first_chosen ts c) in
      subst (λ q. IsFine d (variable at (unwrap_or (option_map (λ o. object o (kind.Var o.number) (map (λ t. t.taken) ts)) q) open_kind))
      (λ sc w s. extend_of (unwrap_or (option_map (λ o. variable_value d sc o ts) q) (word 1 0)) w s) must) (sym h.1)
      (known_fine at (object o (kind.Var o.number) (map (λ t. t.taken) ts)) _ known must (no_must must (meaning.Routine f) r refl clean))

  -- ---- calls

  must_not : (must : Bool) (r : Refusal) → only_if must r ≡ [] → must ≡ false
  must_not must r h = only_false must r h

  abbrev pub AreGiven : List Typed → Type 0
  AreGiven [] = Unit {0}
  AreGiven (t ∷ ts) = IsGiven t × AreGiven ts

  passed_is : (formal : Option ℕ) (t : Typed) (must : Bool) → (formal_wide : (w : ℕ) → formal ≡ Some w → IsWidth w) → Fine t must → (passed formal t.operand).broken ≡ [] → IsPassed d formal t
  passed_is None t must l f h =
      let a = alone_is t must f h in record { size = a.length; least = λ w e. none_is w e; form = a.form }
  passed_is (Some w) t must l f h =
      let e : width_of (larger (Some w) t.operand.length) ≡ max w f.length = ap (λ o. width_of (larger (Some w) o)) f.is in
      record {
        size = max w f.length;
        least = λ v q. subst (λ v. v ≤ max w f.length) (some_is w v q) (max_least w f.length);
        form = subst (λ n. IsForm d (passed (Some w) t.operand).form (λ sc. passed_value d sc (Some w) t) t.operand.constant (passed (Some w) t.operand).known n t.operand.signed) e
            (f.at (width_of (larger (Some w) t.operand.length)) t.operand.signed (subst IsWidth (sym e) (max_wide w f.length (l w refl) f.wide)) h);
      }

  first_wide : (formals : List ℕ) → All IsWidth formals → (w : ℕ) → slice_get formals 0 ≡ Some w → IsWidth w
  first_wide [] h w e = none_is w e
  first_wide (f ∷ fs) h w e = subst IsWidth (some_is f w e) (All-head IsWidth f fs h)

  rest_wide : (formals : List ℕ) → All IsWidth formals → All IsWidth (drop 1 formals)
  rest_wide [] h = h
  rest_wide (f ∷ fs) h = All-tail IsWidth f fs h

  passed_all : (formals : List ℕ) → All IsWidth formals → (ts : List Typed) (must : Bool) → AreGiven ts → argument_breaks must formals ts ≡ [] → ArePassed d formals ts
  passed_all formals l [] must g h = tt
  passed_all formals l (t ∷ ts) must g h =
      let here = left_nil (t.broken must ++ (passed (slice_get formals 0) t.operand).broken) (argument_breaks must (drop 1 formals) ts) h in (
        passed_is (slice_get formals 0) t must (first_wide formals l) (g.0 must (left_nil (t.broken must) _ here)) (right_nil (t.broken must) _ here),
        passed_all (drop 1 formals) (rest_wide formals l) ts must g.1 (right_nil (t.broken must ++ (passed (slice_get formals 0) t.operand).broken) (argument_breaks must (drop 1 formals) ts) h),
      )

  pub call_fine : (at : ℕ) (m : Meaning) (ts : List Typed) (must : Bool) → IsCalled d m → AreGiven ts → must ≡ false → argument_breaks must (formals_of m) ts ≡ [] →
      IsFine d (call at m (operands ts)) (λ sc w s. extend_of (call_value d sc m ts) w s) must
  call_fine at (meaning.Routine r) ts must h g never clean =
      let args = passed_all r.formals h.1 ts must g clean in
      known_fine at (called (meaning.Routine r) (map (λ x. x.form) (arguments r.formals (operands ts)))) _
      (record { length = r.width; is = refl; wide = h.0; form = call_form d r.width r.signed r.number r.formals ts h.0 h.2 args }) must never
  call_fine at (meaning.Parameter value signed) ts must h g never clean = absurd h
  call_fine at meaning.Unvalued ts must h g never clean = absurd h
  call_fine at meaning.Unknown ts must h g never clean = absurd h
  call_fine at (meaning.Net o) ts must h g never clean = absurd h
  call_fine at (meaning.Variable o) ts must h g never clean = absurd h
  call_fine at (meaning.Memory o) ts must h g never clean = absurd h

  -- ---- numbers

  pub literal_fine : (at : ℕ) (n : Literal) (must : Bool) (r : Refusal) → n.width ≡ n.bits.width → IsKept n.bits.width n.bits.value → only_if (not n.fits) r ≡ [] → (n.fits ≡ true → IsWidth n.width) →
      IsFine d (literal at n) (λ sc w s. extend_of n.bits w s) must
  literal_fine at n must r same kept clean wide =
      let l : IsWidth n.width = wide (not_false n.fits (only_false (not n.fits) r clean)) in
      let known : (if in_range n.width then Some n.bits else None) ≡ Some n.bits = ap (λ b. if b then Some n.bits else None) (in_range_is n.width l) in
      own_fine at (Some n.width) n.signed true (kind.Num n.bits) (if in_range n.width then Some n.bits else None) (λ sc. n.bits) must n.width refl l (λ m. refl)
      (subst (λ w. IsForm d (node w n.signed (kind.Num n.bits)) (λ sc. n.bits) true (if in_range n.width then Some n.bits else None) w n.signed) (sym same)
      (subst (λ k. IsForm d (node n.bits.width n.signed (kind.Num n.bits)) (λ sc. n.bits) true k n.bits.width n.signed) (sym known) (number_form d n.bits n.signed kept)))

  -- ---- operators

  divisor_is : (op : source_bin.BinOp) (w : ℕ) (constant : Bool) (known : Option Word) (r : Refusal) → IsWidth w → divisor_breaks (binary_of op) w constant known r ≡ [] →
      divides (binary_of op) ≡ true → (constant ≡ true) × (is_zero known ≡ false)
  divisor_is op w constant known r l h e =
      let k : (divides (binary_of op) && in_range w && (not constant || is_zero known)) ≡ false = only_false _ r h in
      let rest : (not constant || is_zero known) ≡ false = sym (ap₂ (λ p q. p && q && (not constant || is_zero known)) e (in_range_is w l)) ∙ k in
      let two = either_false (not constant) (is_zero known) rest in
      (not_false constant two.0, two.1)

  no_divisor : {X : Type 0} (op : source_bin.BinOp) (m : Manner) → manner_of op ≡ m → m ≢ Together → divides (binary_of op) ≡ true → X
  no_divisor op m e k h = absurd (k (sym e ∙ divides_together op h))

  shifts_differ : Shifts ≢ Together
  shifts_differ h = cc

  compares_differ : Compares ≢ Together
  compares_differ h = cc

  judges_differ : Judges ≢ Together
  judges_differ h = cc

  and_same : (s : Bool) → (s && s) ≡ s
  and_same true = refl
  and_same false = refl

  module _ (at : ℕ) (op : source_bin.BinOp) (a b : Typed) (must : Bool) (f : Fine a must) (g : Fine b must) where
    longest : IsWidth (compared_width a.operand b.operand)
    longest = subst IsWidth (sym (ap₂ (λ x y. width_of (larger x y)) f.is g.is)) (max_wide f.length g.length f.wide g.wide)

    constant_both : must ≡ true → (a.operand.constant && b.operand.constant) ≡ true
    constant_both m = both_true a.operand.constant b.operand.constant (f.constant m) (g.constant m)

    binary_as : (m : Manner) → manner_of op ≡ m → inner_breaks m a.operand b.operand ≡ [] → IsFine d (binary env at (binary_of op) m a.operand b.operand) (λ sc w s. binary_at d sc op m a b w s) must
    binary_as Together e h = record {
      length = max f.length g.length;
      is = ap₂ larger f.is g.is;
      wide = max_wide f.length g.length f.wide g.wide;
      constant = constant_both;
      at = λ w s l k.
          let both = left_nil ((a.operand.at w s).broken ++ (b.operand.at w s).broken) _ k in
          binary_form d op
          (a.operand.at w s).form (λ sc. a.value d sc w s) a.operand.constant (a.operand.at w s).known w s (f.at w s l (left_nil (a.operand.at w s).broken (b.operand.at w s).broken both))
          (b.operand.at w s).form (λ sc. b.value d sc w s) b.operand.constant (b.operand.at w s).known w s (g.at w s l (right_nil (a.operand.at w s).broken (b.operand.at w s).broken both))
          w s l s (subst (λ m. Fitting m w w w) (sym e) (refl, refl)) (subst (λ m. AreWide_at m w w) (sym e) refl) (subst (λ m. Agree m (s && s) s s s) (sym e) (and_same s))
          (divisor_is op w b.operand.constant (b.operand.at w s).known _ l (right_nil ((a.operand.at w s).broken ++ (b.operand.at w s).broken) _ k));
    }
    binary_as Shifts e h =
        let right = alone_is b must g h in record {
          length = f.length;
          is = f.is;
          wide = f.wide;
          constant = constant_both;
          at = λ w s l k.
              binary_form d op
              (a.operand.at w s).form (λ sc. a.value d sc w s) a.operand.constant (a.operand.at w s).known w s (f.at w s l k)
              (by_itself b.operand).form (λ sc. alone_value d sc b) b.operand.constant (by_itself b.operand).known right.length b.operand.signed right.form
              w s l s (subst (λ m. Fitting m w w right.length) (sym e) refl) (subst (λ m. AreWide_at m w right.length) (sym e) tt) (subst (λ m. Agree m (s && b.operand.signed) s s s) (sym e) refl)
              (λ t. no_divisor op Shifts e shifts_differ t);
        }
    binary_as Compares e h =
        let n : ℕ = compared_width a.operand b.operand in
        let s : Bool = compared_sign a.operand b.operand in
        own_fine at (Some 1) false (a.operand.constant && b.operand.constant) _ _ (λ sc. binary_value (binary_of op) s s (a.value d sc n s) (b.value d sc n s)) must 1 refl (omega arith, omega arith) constant_both
        (binary_form d op
        (a.operand.at n s).form (λ sc. a.value d sc n s) a.operand.constant (a.operand.at n s).known n s (f.at n s longest (left_nil (a.operand.at n s).broken (b.operand.at n s).broken h))
        (b.operand.at n s).form (λ sc. b.value d sc n s) b.operand.constant (b.operand.at n s).known n s (g.at n s longest (right_nil (a.operand.at n s).broken (b.operand.at n s).broken h))
        1 false (omega arith, omega arith) s (subst (λ m. Fitting m 1 n n) (sym e) (refl, refl)) (subst (λ m. AreWide_at m n n) (sym e) refl) (subst (λ m. Agree m (s && s) false s s) (sym e) (and_same s))
        (λ t. no_divisor op Compares e compares_differ t))
    binary_as Judges e h =
        let left = alone_is a must f (left_nil (by_itself a.operand).broken (by_itself b.operand).broken h) in
        let right = alone_is b must g (right_nil (by_itself a.operand).broken (by_itself b.operand).broken h) in
        own_fine at (Some 1) false (a.operand.constant && b.operand.constant) _ _ (λ sc. binary_value (binary_of op) false false (alone_value d sc a) (alone_value d sc b)) must 1 refl (omega arith, omega arith) constant_both
        (binary_form d op
        (by_itself a.operand).form (λ sc. alone_value d sc a) a.operand.constant (by_itself a.operand).known left.length a.operand.signed left.form
        (by_itself b.operand).form (λ sc. alone_value d sc b) b.operand.constant (by_itself b.operand).known right.length b.operand.signed right.form
        1 false (omega arith, omega arith) false (subst (λ m. Fitting m 1 left.length right.length) (sym e) refl) (subst (λ m. AreWide_at m left.length right.length) (sym e) tt)
        (subst (λ m. Agree m (a.operand.signed && b.operand.signed) false false false) (sym e) tt)
        (λ t. no_divisor op Judges e judges_differ t))

    pub binary_fine : inner_breaks (manner_of op) a.operand b.operand ≡ [] → IsFine d (binary env at (binary_of op) (manner_of op) a.operand b.operand) (λ sc w s. binary_at d sc op (manner_of op) a b w s) must
    binary_fine h = binary_as (manner_of op) refl h

  module _ (at : ℕ) (op : source_un.UnOp) (a : Typed) (must : Bool) (f : Fine a must) where
    unary_as : (keeps : Bool) → keeps_length op ≡ keeps → reduction_breaks keeps a.operand ≡ [] →
        IsFine d (unary at (unary_of op) keeps a.operand) (λ sc w s. if keeps then unary_value (unary_of op) (a.value d sc w s) else extend_of (unary_value (unary_of op) (alone_value d sc a)) w s) must
    unary_as true e h = record {
      length = f.length;
      is = f.is;
      wide = f.wide;
      constant = f.constant;
      at = λ w s l k. unary_form d op (a.operand.at w s).form (λ sc. a.value d sc w s) a.operand.constant (a.operand.at w s).known w s (f.at w s l k) w s l (subst (λ b. FittingUnary b w w) (sym e) refl);
    }
    unary_as false e h =
        let alone = alone_is a must f h in
        own_fine at (Some 1) false a.operand.constant _ _ (λ sc. unary_value (unary_of op) (alone_value d sc a)) must 1 refl (omega arith, omega arith) f.constant
        (unary_form d op (by_itself a.operand).form (λ sc. alone_value d sc a) a.operand.constant (by_itself a.operand).known alone.length a.operand.signed alone.form 1 false (omega arith, omega arith)
        (subst (λ b. FittingUnary b 1 alone.length) (sym e) refl))

    pub unary_fine : reduction_breaks (keeps_length op) a.operand ≡ [] →
        IsFine d (unary at (unary_of op) (keeps_length op) a.operand) (λ sc w s. if keeps_length op then unary_value (unary_of op) (a.value d sc w s) else extend_of (unary_value (unary_of op) (alone_value d sc a)) w s) must
    unary_fine h = unary_as (keeps_length op) refl h

  pub choice_fine : (at : ℕ) (c a b : Typed) (must : Bool) → IsGiven c → alone must c ≡ [] → Fine a must → Fine b must →
      IsFine d (choice at c.operand a.operand b.operand) (λ sc w s. if is_up (alone_value d sc c) then a.value d sc w s else b.value d sc w s) must
  choice_fine at c a b must given clean f g =
      let test = given_alone c given must clean in
      let fine = given must (left_nil (c.broken must) (by_itself c.operand).broken clean) in record {
        length = max f.length g.length;
        is = ap₂ larger f.is g.is;
        wide = max_wide f.length g.length f.wide g.wide;
        constant = λ m. both_true c.operand.constant _ (fine.constant m) (both_true a.operand.constant b.operand.constant (f.constant m) (g.constant m));
        at = λ w s l k. choice_form d
            (by_itself c.operand).form (λ sc. alone_value d sc c) c.operand.constant (by_itself c.operand).known test.length c.operand.signed test.form
            (a.operand.at w s).form (λ sc. a.value d sc w s) a.operand.constant (a.operand.at w s).known
            (b.operand.at w s).form (λ sc. b.value d sc w s) b.operand.constant (b.operand.at w s).known
            w s l (f.at w s l (left_nil (a.operand.at w s).broken (b.operand.at w s).broken k)) (g.at w s l (right_nil (a.operand.at w s).broken (b.operand.at w s).broken k));
      }

  pub sign_fine : (at : ℕ) (signed : Bool) (a : Typed) (must : Bool) → IsGiven a → alone must a ≡ [] → IsFine d (with_sign at signed a.operand) (λ sc w s. extend_of (alone_value d sc a) w s) must
  sign_fine at signed a must given clean =
      let here = given_alone a given must clean in
      let fine = given must (left_nil (a.broken must) (by_itself a.operand).broken clean) in
      let e : width_of a.operand.length ≡ here.length = ap width_of here.is in
      own_fine at a.operand.length signed a.operand.constant _ _ (λ sc. alone_value d sc a) must here.length here.is here.wide fine.constant
      (subst (λ n. IsForm d (node (width_of a.operand.length) signed (kind.Sign (by_itself a.operand).form)) (λ sc. alone_value d sc a) a.operand.constant (by_itself a.operand).known n signed) e
      (sign_form d (by_itself a.operand).form (λ sc. alone_value d sc a) a.operand.constant (by_itself a.operand).known here.length a.operand.signed here.form (width_of a.operand.length) signed (subst IsWidth (sym e) here.wide) e))

  -- ---- parts

  alone_all : (ts : List Typed) (must : Bool) → AreGiven ts → flat_map (alone must) ts ≡ [] → AreAlone d ts
  alone_all [] must g h = tt
  alone_all (t ∷ ts) must g h = (given_alone t g.0 must (left_nil (alone must t) (flat_map (alone must) ts) h), alone_all ts must g.1 (right_nil (alone must t) (flat_map (alone must) ts) h))

  constant_into : (b : Bool) (ts : List Typed) → b ≡ true → AreGiven ts → flat_map (alone true) ts ≡ [] → fold (λ all a. all && a.constant) b (operands ts) ≡ true
  constant_into b [] e g h = e
  constant_into b (t ∷ ts) e g h =
      constant_into (b && t.operand.constant) ts (both_true b t.operand.constant e (given_constant t g.0 (left_nil (alone true t) (flat_map (alone true) ts) h))) g.1 (right_nil (alone true t) (flat_map (alone true) ts) h)

  constant_all : (ts : List Typed) (must : Bool) → AreGiven ts → flat_map (alone must) ts ≡ [] → must ≡ true → all_constant (operands ts) ≡ true
  constant_all ts must g h m = constant_into true ts refl g (subst (λ b. flat_map (alone b) ts ≡ []) m h)

  pub concat_fine : (at : ℕ) (ts : List Typed) (must : Bool) → AreGiven ts → flat_map (alone must) ts ≡ [] → length_breaks env at (total_length (operands ts)) ≡ [] →
      IsFine d (concat at (operands ts)) (λ sc w s. extend_of (joined (map (alone_value d sc) ts)) w s) must
  concat_fine at ts must g h clean =
      let all = alone_all ts must g h in
      let e = total_length_is d ts all in
      let l : IsWidth (capped (sum (lengths_in d ts all))) = right_length (capped (sum (lengths_in d ts all))) (ap is_wrong_length (sym e) ∙ only_false (is_wrong_length (total_length (operands ts))) _ clean) in
      let w : width_of (total_length (operands ts)) ≡ capped (sum (lengths_in d ts all)) = ap width_of e in
      own_fine at (total_length (operands ts)) false (all_constant (operands ts)) _ _ (λ sc. joined (map (alone_value d sc) ts)) must (capped (sum (lengths_in d ts all))) e l (constant_all ts must g h)
      (subst (λ n. IsForm d (node (width_of (total_length (operands ts))) false (kind.Concat (forms_of (operands ts)))) (λ sc. joined (map (alone_value d sc) ts)) (all_constant (operands ts)) (joined_known (operands ts)) n false) w
      (concat_form d ts all l (width_of (total_length (operands ts))) w))

  some_more : (n : ℕ) → (n == 0) ≡ false → 1 ≤ n
  some_more n h = grind (arith, h)

  part_wide : (n m : ℕ) → 1 ≤ n → IsWidth (capped (n * m)) → IsWidth m
  part_wide n zero p l = absurd (grind (arith, l.0))
  part_wide zero (suc m) p l = absurd (omega (arith, p))
  part_wide (suc n) (suc m) p l = (omega arith, grind (arith, l.1))

  pub replicate_fine : (at : ℕ) (c : Typed) (ts : List Typed) (must : Bool) → IsGiven c → alone true c ≡ [] → AreGiven ts → flat_map (alone must) ts ≡ [] →
      copies_breaks env at (count_known c.operand) (copied_length c.operand (operands ts)) ≡ [] →
      IsFine d (replicate at c.operand (operands ts)) (λ sc w s. extend_of (copies (unwrap_or (count_known c.operand) 0 - 1) (joined (map (alone_value d sc) ts))) w s) must
  replicate_fine at c ts must given hc g h clean =
      let all = alone_all ts must g h in
      let count = count_is c.operand (given_known c given hc) in
      let n : ℕ = unwrap_or (count_known c.operand) 0 in
      let ec : count_known c.operand ≡ Some n = some_length (count_known c.operand) count.0 count.1 in
      let m : ℕ = capped (sum (lengths_in d ts all)) in
      let el : copied_length c.operand (operands ts) ≡ Some (capped (n * m)) = ap₂ times ec (total_length_is d ts all) in
      let two = either_false (is_none_of (count_known c.operand)) (is_wrong_length (copied_length c.operand (operands ts))) (only_false _ _ clean) in
      let p : 1 ≤ n = some_more n (ap is_none_of (sym ec) ∙ two.0) in
      let l : IsWidth (capped (n * m)) = right_length (capped (n * m)) (ap is_wrong_length (sym el) ∙ two.1) in
      let one = repeated_form d ts all (part_wide n m p l) in
      let w : width_of (copied_length c.operand (operands ts)) ≡ capped (n * m) = ap width_of el in
      own_fine at (copied_length c.operand (operands ts)) false (c.operand.constant && all_constant (operands ts)) _ _ (λ sc. copies (n - 1) (joined (map (alone_value d sc) ts))) must (capped (n * m)) el l
      (λ t. both_true c.operand.constant (all_constant (operands ts)) (given_constant c given hc) (constant_all ts must g h t))
      (subst (λ i. IsForm d (node (width_of (copied_length c.operand (operands ts))) false (kind.Repeat n (repeated (total_length (operands ts)) (forms_of (operands ts))))) (λ sc. copies (n - 1) (joined (map (alone_value d sc) ts)))
      (c.operand.constant && all_constant (operands ts)) (known_copies n (joined_known (operands ts))) i false) w
      (copies_form d n (repeated (total_length (operands ts)) (forms_of (operands ts))) (λ sc. joined (map (alone_value d sc) ts)) (all_constant (operands ts)) (joined_known (operands ts)) m one.0 one.1 l p
      (width_of (copied_length c.operand (operands ts))) w (c.operand.constant && all_constant (operands ts)) (λ t. (parts c.operand.constant (all_constant (operands ts)) t).1)))
