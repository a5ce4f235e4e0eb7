-- The sums that are read are sums of a source, and have a token for each term and each operator.
use Rattle.std.proofs.Common.{◌≡◌, ◌≢◌, ◌≤◌, ◌+◌, ◌*◌, ◌++◌, ℕ, suc, List, [], ◌∷◌, Option, Some, None, true, length, map, slice_get, refl, sym, ap, subst, ◌∙◌, arith}
use Rattle.std.specs.Prelude.{◌==◌, ◌&&◌, option_map}
use Rattle.std.proofs.lemmas.Bool.{and_parts}
use Rattle.std.proofs.lemmas.List.{length_push}
use Rattle.std.proofs.lemmas.List.Elements.{All-nil, All-push}
use Rattle.std.proofs.lemmas.Nat.{mod_below, pow_pos}
use Rattle.std.proofs.lemmas.Option.{slice_get-map}
use Rattle.xt_bits.specs.Word.{word}
use Rattle.vl_tree.specs.declared.terminals.Terminal.{Terminal}
use Rattle.vl_tree.specs.declared.exprs.Expr.{Expr, map-Expr}
use Rattle.vl_tree.specs.declared.exprs.Expr.TheVariants as exprs
use Rattle.vl_tree.specs.declared.exprs.Expr.TheOpen as layer
use Rattle.vl_tree.specs.declared.exprs.Expr.TheViews.{roll-Expr}
use Rattle.vl_tree.specs.declared.exprs.Expr.TheFolds.{fold-Select, fold-roll-Expr, ind-Expr}
use Rattle.vl_tree.specs.declared.exprs.Select.{Select}
use Rattle.vl_tree.specs.declared.operators.BinOp.{BinOp}
use Rattle.vl_tree.specs.declared.operators.BinOp.TheVariants as binary
use Rattle.vl_tree.specs.declared.operators.Sign.TheVariants as sign
use Rattle.vl_tree.specs.Expressions as grammar
use Rattle.vl_tree.specs.Expressions.{IsLevel, IsSelects}
use Rattle.vl_lex.specs.Numbers.{number_of}
use Rattle.xt_compile.specs.declared.first.reader.ports.Ports.{Ports}
use Rattle.xt_compile.specs.declared.first.source.Port.{Port}
use Rattle.xt_compile.specs.declared.first.source.Sum.{Sum}
use Rattle.xt_compile.specs.declared.first.source.Term.{Term}
use Rattle.xt_compile.specs.declared.first.source.Term.TheVariants as terms
use Rattle.xt_compile.specs.first.Source.{IsSum, IsTerm, widths}
use Rattle.xt_compile.specs.first.Tree.{◌>>=◌, width_of, based_of, found, alone, joined, sized_sum, port_sum, number_sum, name_sum, sum_step, sum_of}
use Rattle.xt_compile.proofs.first_form.Somes.{some_one, none_some, bind_some, test_some}
use Rattle.xt_compile.proofs.first_form.NumberTests.{number_is}
use Rattle.xt_compile.proofs.first_form.Found.{found_is}

no_length : {X : Type 0} (xs : List X) → (length xs == 0) ≡ true → xs ≡ []
no_length [] e = refl
no_length (x ∷ xs) e = let n = number_is (length (x ∷ xs)) 0 e in absurd (omega arith)

module _ (names : List (List ℕ)) (ps : Ports) where
  -- ---- what an expression is, by its first node

  name_is : (at name : ℕ) (selects : List Select) → sum_of names ps (exprs.Name at name selects) ≡ sum_step names ps (layer.Name at name (map (fold-Select (Option Sum) (Unit {0}) (sum_step names ps) (λ _. tt)) selects))
  name_is at name selects = ap (sum_of names ps) (sym (exprs.rolls-Name at name selects)) ∙ fold-roll-Expr (Option Sum) (Unit {0}) (sum_step names ps) (λ _. tt) (layer.Name at name selects)

  -- a name with selects
  pub other_name : (at name : ℕ) (selects : List Select) → selects ≢ [] → sum_of names ps (exprs.Name at name selects) ≡ None
  other_name at name [] some = absurd (some refl)
  other_name at name (s ∷ ss) some = name_is at name (s ∷ ss)

  based_is : (at value : ℕ) (size : Option ℕ) → sum_of names ps (exprs.Based at size value) ≡ sum_step names ps (layer.Based at size value)
  based_is at value size = ap (sum_of names ps) (sym (exprs.rolls-Based at size value)) ∙ fold-roll-Expr (Option Sum) (Unit {0}) (sum_step names ps) (λ _. tt) (layer.Based at size value)

  binary_is : (at : ℕ) (op : BinOp) (left right : Expr) → sum_of names ps (exprs.Binary at op left right) ≡ sum_step names ps (layer.Binary at op (sum_of names ps left) (sum_of names ps right))
  binary_is at op left right = ap (sum_of names ps) (sym (exprs.rolls-Binary at op left right)) ∙ fold-roll-Expr (Option Sum) (Unit {0}) (sum_step names ps) (λ _. tt) (layer.Binary at op left right)

  -- ---- terms and sums of terms

  -- a sum of one term
  pub record IsAlone (sum : Sum) : Type 0 where
    pub is : IsSum ps.inputs ps.outputs sum
    pub none : sum.more ≡ []

  alone_is : (term : Term) (w : ℕ) (sum : Sum) → alone term w ≡ sum → IsTerm ps.inputs ps.outputs w term → IsAlone sum
  alone_is term w sum e is = subst IsAlone e (record { is = record { first = is; more = All-nil (IsTerm ps.inputs ps.outputs w) }; none = refl })

  width_there : (list : List Port) (bytes : List ℕ) (f : ℕ × ℕ) → found bytes list ≡ Some f → slice_get (widths list) f.0 ≡ Some f.1
  width_there list bytes f e =
      let (port, there, named, width) = found_is bytes list f e in
      slice_get-map (λ (p : Port). p.width) list f.0 ∙ ap (option_map (λ (p : Port). p.width)) there ∙ ap (λ (w : ℕ). Some w) width

  port_alone : (bytes : List ℕ) (sum : Sum) (a b : Option (ℕ × ℕ)) → found bytes ps.inputs ≡ a → found bytes ps.outputs ≡ b → port_sum a b ≡ Some sum → IsAlone sum
  port_alone bytes sum (Some f) b ins outs e = alone_is (terms.Input f.0) f.1 sum (some_one e) (width_there ps.inputs bytes f ins)
  port_alone bytes sum None (Some f) ins outs e = alone_is (terms.Output f.0) f.1 sum (some_one e) (width_there ps.outputs bytes f outs)
  port_alone bytes sum None None ins outs e = absurd (none_some e)

  name_alone : (name : ℕ) (sum : Sum) → name_sum names ps name ≡ Some sum → IsAlone sum
  name_alone name sum e =
      let b = bind_some (slice_get names name) (λ bytes. port_sum (found bytes ps.inputs) (found bytes ps.outputs)) sum e in
      port_alone b.val sum (found b.val ps.inputs) (found b.val ps.outputs) refl refl b.rest

  sized_alone : (size value : Option ℕ) (sum : Sum) → sized_sum size value ≡ Some sum → IsAlone sum
  sized_alone (Some w) (Some n) sum e = alone_is (terms.Number (word w n)) w sum (some_one e) (refl, mod_below n _ (pow_pos w))
  sized_alone (Some w) None sum e = absurd (none_some e)
  sized_alone None value sum e = absurd (none_some e)

  number_alone : (size value : ℕ) (sum : Sum) → number_sum names size value ≡ Some sum → IsAlone sum
  number_alone size value sum e =
      let bits = bind_some (slice_get names size) (λ bits. slice_get names value >>= λ digits. sized_sum (width_of (number_of 10 bits)) (based_of digits)) sum e in
      let digits = bind_some (slice_get names value) (λ digits. sized_sum (width_of (number_of 10 bits.val)) (based_of digits)) sum bits.rest in
      sized_alone (width_of (number_of 10 bits.val)) (based_of digits.val) sum digits.rest

  pub record IsJoined (a b sum : Sum) : Type 0 where
    pub none : b.more ≡ []
    pub width : b.width ≡ a.width
    pub is : record { width = a.width; first = a.first; more = a.more ++ b.first ∷ [] } ≡ sum

  joined_is : (a b sum : Sum) → joined a b ≡ Some sum → IsJoined a b sum
  joined_is a b sum e =
      let t = test_some (length b.more == 0 && b.width == a.width) (Some (record { width = a.width; first = a.first; more = a.more ++ b.first ∷ [] })) sum e in
      let parts = and_parts (length b.more == 0) (b.width == a.width) t.holds in
      record { none = no_length b.more parts.0; width = number_is b.width a.width parts.1; is = some_one t.rest }

  joined_sum : (a b sum : Sum) → IsSum ps.inputs ps.outputs a → IsSum ps.inputs ps.outputs b → IsJoined a b sum → IsSum ps.inputs ps.outputs sum
  joined_sum a b sum l r j =
      subst (IsSum ps.inputs ps.outputs) j.is
      (record { first = l.first; more = All-push (IsTerm ps.inputs ps.outputs a.width) a.more b.first l.more (subst (λ (w : ℕ). IsTerm ps.inputs ps.outputs w b.first) j.width r.first) })

  joined_length : (a b sum : Sum) → IsJoined a b sum → length sum.more ≡ length a.more + 1
  joined_length a b sum j = sym (ap (λ (s : Sum). length s.more) j.is) ∙ length_push a.more b.first

  -- both parts of an addition
  pub record Added (left right : Expr) (sum : Sum) : Type 0 where
    pub a : Sum
    pub b : Sum
    pub first : sum_of names ps left ≡ Some a
    pub second : sum_of names ps right ≡ Some b
    pub joins : IsJoined a b sum

  added_is : (at : ℕ) (op : BinOp) (left right : Expr) (sum : Sum) → sum_step names ps (layer.Binary at op (sum_of names ps left) (sum_of names ps right)) ≡ Some sum → Added left right sum
  added_is at binary.Add left right sum e =
      let a = bind_some (sum_of names ps left) (λ a. sum_of names ps right >>= λ b. joined a b) sum e in
      let b = bind_some (sum_of names ps right) (λ b. joined a.val b) sum a.rest in
      record { a = a.val; b = b.val; first = a.first; second = b.first; joins = joined_is a.val b.val sum b.rest }
  added_is at op left right sum e = absurd (none_some e)

  -- ---- each expression

  abbrev IsRight : Expr → Type 0
  IsRight e = (sum : Sum) → sum_of names ps e ≡ Some sum → IsSum ps.inputs ps.outputs sum

  named_right : (at name : ℕ) (selects : List Select) → IsRight (exprs.Name at name selects)
  named_right at name [] sum e = (name_alone name sum (sym (name_is at name []) ∙ e)).is
  named_right at name (s ∷ ss) sum e = absurd (none_some (sym (name_is at name (s ∷ ss)) ∙ e))

  based_right : (at value : ℕ) (size : Option ℕ) → IsRight (exprs.Based at size value)
  based_right at value (Some size) sum e = (number_alone size value sum (sym (based_is at value (Some size)) ∙ e)).is
  based_right at value None sum e = absurd (none_some (sym (based_is at value None) ∙ e))

  binary_right : (at : ℕ) (op : BinOp) (left right : Expr) → IsRight left → IsRight right → IsRight (exprs.Binary at op left right)
  binary_right at op left right l r sum e =
      let x = added_is at op left right sum (sym (binary_is at op left right) ∙ e) in
      joined_sum x.a x.b sum (l x.a x.first) (r x.b x.second) x.joins

  -- a node with what is shown of its parts
  abbrev Shown : Type 0
  Shown = layer.Expr-F ((e : Expr) × IsRight e) ((s : Select) × Unit {0})

  abbrev bare : Shown → layer.Expr-F Expr Select
  bare y = map-Expr ((e : Expr) × IsRight e) ((s : Select) × Unit {0}) Expr Select (λ e. e.0) (λ s. s.0) y

  node_right : (y : Shown) → IsRight (roll-Expr (bare y))
  node_right (layer.Name at name selects) = subst IsRight (sym (exprs.rolls-Name at name (map (λ s. s.0) selects))) (named_right at name (map (λ s. s.0) selects))
  node_right (layer.Based at size value) = subst IsRight (sym (exprs.rolls-Based at size value)) (based_right at value size)
  node_right (layer.Binary at op l r) = subst IsRight (sym (exprs.rolls-Binary at op l.0 r.0)) (binary_right at op l.0 r.0 l.1 r.1)
  node_right y = λ sum e. absurd (none_some (sym (fold-roll-Expr (Option Sum) (Unit {0}) (sum_step names ps) (λ _. tt) (bare y)) ∙ e))

  pub sum_right : (e : Expr) → IsRight e
  sum_right = ind-Expr IsRight (λ _. Unit {0}) (λ x y is. subst (λ z. IsRight (roll-Expr z)) is (node_right y)) (λ x y is. tt)

  -- ---- tokens

  -- an expression with another first node
  not_sum : (y : layer.Expr-F Expr Select) (e : Expr) (sum : Sum) → roll-Expr y ≡ e → sum_of names ps (roll-Expr y) ≡ None → sum_of names ps e ≡ Some sum → ⊥
  not_sum y e sum rolls none h = none_some (sym none ∙ ap (sum_of names ps) rolls ∙ h)

  module _ (ls : List Terminal) where
    name_tokens : {n : ℕ} (i : ℕ) {j : ℕ} {ss : List Select} → IsSelects ls n (i + 1) j ss → (sum : Sum) → sum_of names ps (exprs.Name i i ss) ≡ Some sum → suc (i + 2 * length sum.more) ≤ j
    name_tokens i grammar.no_select sum e =
        let none = ap (λ (ts : List Term). length ts) (name_alone i sum (sym (name_is i i []) ∙ e)).none in
        omega (arith, none)
    name_tokens i (grammar.one_select {s = s} h) sum e = absurd (none_some (sym (name_is i i (s ∷ [])) ∙ e))
    name_tokens i (grammar.two_selects {s = s} h g) sum e = absurd (none_some (sym (name_is i i (_ ∷ s ∷ [])) ∙ e))

    pub sum_tokens : {n l i j : ℕ} {e : Expr} → IsLevel ls n l i j e → (sum : Sum) → sum_of names ps e ≡ Some sum → suc (i + 2 * length sum.more) ≤ j
    sum_tokens {i = i} (grammar.choice {a = a} {b = b} {c = c} p q r s t) sum e = absurd (not_sum (layer.Choice i a b c) _ sum (exprs.rolls-Choice i a b c) (fold-roll-Expr (Option Sum) (Unit {0}) (sum_step names ps) (λ _. tt) (layer.Choice i a b c)) e)
    sum_tokens {i = i} (grammar.binary_op {op = op} {a = a} {b = b} p q r s) sum e =
        let x = added_is i op a b sum (sym (binary_is i op a b) ∙ e) in
        let left = sum_tokens p x.a x.first in
        let right = sum_tokens s x.b x.second in
        let size = joined_length x.a x.b sum x.joins in
        omega (arith, left, right, size)
    sum_tokens (grammar.tighter h) sum e = sum_tokens h sum e
    sum_tokens {i = i} (grammar.unary_op {op = op} {e = x} p q r) sum e = absurd (not_sum (layer.Unary i op x) _ sum (exprs.rolls-Unary i op x) (fold-roll-Expr (Option Sum) (Unit {0}) (sum_step names ps) (λ _. tt) (layer.Unary i op x)) e)
    sum_tokens {i = i} (grammar.sized p q) sum e =
        let none = ap (λ (ts : List Term). length ts) (number_alone i (i + 1) sum (sym (based_is i (i + 1) (Some i)) ∙ e)).none in
        omega (arith, none)
    sum_tokens {i = i} (grammar.based p) sum e = absurd (none_some (sym (based_is i i None) ∙ e))
    sum_tokens {i = i} (grammar.decimal p) sum e = absurd (not_sum (layer.Decimal i i) _ sum (exprs.rolls-Decimal i i) (fold-roll-Expr (Option Sum) (Unit {0}) (sum_step names ps) (λ _. tt) (layer.Decimal i i)) e)
    sum_tokens {i = i} (grammar.name p h) sum e = name_tokens i h sum e
    sum_tokens {i = i} (grammar.call {es = es} p h) sum e = absurd (not_sum (layer.Call i i es) _ sum (exprs.rolls-Call i i es) (fold-roll-Expr (Option Sum) (Unit {0}) (sum_step names ps) (λ _. tt) (layer.Call i i es)) e)
    sum_tokens {i = i} (grammar.to_signed {e = x} p q r s) sum e = absurd (not_sum (layer.Sign i sign.Signed x) _ sum (exprs.rolls-Sign i sign.Signed x) (fold-roll-Expr (Option Sum) (Unit {0}) (sum_step names ps) (λ _. tt) (layer.Sign i sign.Signed x)) e)
    sum_tokens {i = i} (grammar.to_unsigned {e = x} p q r s) sum e = absurd (not_sum (layer.Sign i sign.Unsigned x) _ sum (exprs.rolls-Sign i sign.Unsigned x) (fold-roll-Expr (Option Sum) (Unit {0}) (sum_step names ps) (λ _. tt) (layer.Sign i sign.Unsigned x)) e)
    sum_tokens (grammar.parens p h q) sum e = let more = sum_tokens h sum e in omega (arith, more)
    sum_tokens {i = i} (grammar.concat {es = es} p h q) sum e = absurd (not_sum (layer.Concat i es) _ sum (exprs.rolls-Concat i es) (fold-roll-Expr (Option Sum) (Unit {0}) (sum_step names ps) (λ _. tt) (layer.Concat i es)) e)
    sum_tokens {i = i} (grammar.replicate {e = x} {es = es} p h q g r s) sum e = absurd (not_sum (layer.Replicate i x es) _ sum (exprs.rolls-Replicate i x es) (fold-roll-Expr (Option Sum) (Unit {0}) (sum_step names ps) (λ _. tt) (layer.Replicate i x es)) e)
