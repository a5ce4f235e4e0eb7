-- The value of a constant is the expression's value, in every design and scene.
use Rattle.std.proofs.Common.{◌≡◌, ℕ, ◌+◌, ◌-◌, ◌*◌, Bool, true, false, ◌&&◌, if◌then◌else◌, List, [], ◌∷◌, map, Option, Some, None, refl, sym, subst, ◌∙◌, ap}
use Rattle.std.specs.Prelude.{fold, unwrap_or}
use Rattle.xt_bits.specs.Word.{Word}
use Rattle.xt_bits.specs.Operators.{extend_of, concat_of}
use Rattle.vl_tree.specs.declared.exprs.Expr.{Expr, map-Expr}
use Rattle.vl_tree.specs.declared.exprs.Select.{Select}
use Rattle.vl_tree.specs.declared.exprs.Expr.TheOpen as layer
use Rattle.vl_tree.specs.declared.exprs.Expr.TheViews.{roll-Expr}
use Rattle.vl_tree.specs.declared.exprs.Expr.TheFolds.{fold-roll-Expr, ind-Expr}
use Rattle.vl_tree.specs.declared.operators.BinOp as source_bin
use Rattle.el_design.specs.declared.expressions.UnOp.{UnOp}
use Rattle.el_design.specs.declared.expressions.BinOp.{BinOp}
use Rattle.el_design.specs.Plain.{Flat}
use Rattle.el_design.specs.Value.{Scene, unary_value, binary_value, is_up, joined, copies}
use Rattle.el_width.specs.declared.environment.Meaning.{Meaning}
use Rattle.el_width.specs.declared.environment.Meaning.TheVariants as meaning
use Rattle.el_width.specs.declared.numbers.Literal.{Literal}
use Rattle.el_width.specs.declared.operators.Manner.{Manner}
use Rattle.el_width.specs.declared.operators.Manner.TheVariants.{Together, Shifts, Compares, Judges}
use Rattle.el_width.specs.Environment.{Environment, means}
use Rattle.el_width.specs.Lengths.{in_range, width_of, larger}
use Rattle.el_width.specs.Numbers.{based, decimal}
use Rattle.el_width.specs.Operators.{manner_of, keeps_length, unary_of, binary_of}
use Rattle.el_width.specs.Operands.{by_itself, known_unary, known_binary, known_choice, known_joined, known_next, known_parts, known_copies, fits_operator, brought_value, binary, unary, name}
use Rattle.el_width.specs.Typed.{Typed, Chosen}
use Rattle.el_width.specs.Values.{alone_value, binary_at, name_value}
use Rattle.el_width.specs.Expressions.{typed_node, chosen_node, typed_of, chosen_of}

pub some_is : {X : Type 0} (a b : X) → Some a ≡ Some b → a ≡ b
some_is a b h = cc

pub none_is : {X Y : Type 0} (b : X) → None ≡ Some b → Y
none_is b h = absurd (clash h)
  where
    clash : None ≡ Some b → ⊥
    clash h = cc

-- what is known is the value
abbrev pub Tells : Option Word → Word → Type 0
Tells known v = (x : Word) → known ≡ Some x → v ≡ x

pub unary_tells : (op : UnOp) (k : Option Word) (v : Word) → Tells k v → Tells (known_unary op k) (unary_value op v)
unary_tells op None v f x h = none_is x h
unary_tells op (Some y) v f x h = ap (unary_value op) (f y refl) ∙ some_is (unary_value op y) x h

pub brought_tells : (w : ℕ) (s : Bool) (k : Option Word) (v : Word) → Tells k v → Tells (brought_value w s k) (extend_of v w s)
brought_tells w s None v f x h = none_is x h
brought_tells w s (Some y) v f x h = go (in_range w) h
  where
    go : (b : Bool) → (if b then Some (extend_of y w s) else None) ≡ Some x → extend_of v w s ≡ x
    go true h = ap (λ z. extend_of z w s) (f y refl) ∙ some_is (extend_of y w s) x h
    go false h = none_is x h

pub binary_tells : (op : BinOp) (s : Bool) (k l : Option Word) (u v : Word) → Tells k u → Tells l v → Tells (known_binary op s k l) (binary_value op s s u v)
binary_tells op s None l u v f g x h = none_is x h
binary_tells op s (Some y) None u v f g x h = none_is x h
binary_tells op s (Some y) (Some z) u v f g x h = go (fits_operator op y z) h
  where
    go : (b : Bool) → (if b then Some (binary_value op s s y z) else None) ≡ Some x → binary_value op s s u v ≡ x
    go true h = ap (λ p. binary_value op s s p v) (f y refl) ∙ ap (λ q. binary_value op s s y q) (g z refl) ∙ some_is (binary_value op s s y z) x h
    go false h = none_is x h

pub choice_tells : (c k l : Option Word) (t u v : Word) → Tells c t → Tells k u → Tells l v → Tells (known_choice c k l) (if is_up t then u else v)
choice_tells None k l t u v e f g x h = none_is x h
choice_tells (Some c) k l t u v e f g x h = ap (λ p. if is_up p then u else v) (e c refl) ∙ go (is_up c) h
  where
    go : (b : Bool) → (if b then k else l) ≡ Some x → (if b then u else v) ≡ x
    go true h = f x h
    go false h = g x h

pub joined_tells : (k l : Option Word) (u v : Word) → Tells k u → Tells l v → Tells (known_joined k l) (concat_of u v)
joined_tells None l u v f g x h = none_is x h
joined_tells (Some y) None u v f g x h = none_is x h
joined_tells (Some y) (Some z) u v f g x h = go (in_range (y.width + z.width)) h
  where
    go : (b : Bool) → (if b then Some (concat_of y z) else None) ≡ Some x → concat_of u v ≡ x
    go true h = ap (λ p. concat_of p v) (f y refl) ∙ ap (λ q. concat_of y q) (g z refl) ∙ some_is (concat_of y z) x h
    go false h = none_is x h

pub copies_tell : (n : ℕ) (k : Option Word) (v : Word) → Tells k v → Tells (known_copies n k) (copies (n - 1) v)
copies_tell n None v f x h = none_is x h
copies_tell n (Some y) v f x h = go (in_range (n * y.width)) h
  where
    go : (b : Bool) → (if b then Some (copies (n - 1) y) else None) ≡ Some x → copies (n - 1) v ≡ x
    go true h = ap (copies (n - 1)) (f y refl) ∙ some_is (copies (n - 1) y) x h
    go false h = none_is x h

literal_tells : (n : Literal) → Tells (if in_range n.width then Some n.bits else None) n.bits
literal_tells n x h = go (in_range n.width) h
  where
    go : (b : Bool) → (if b then Some n.bits else None) ≡ Some x → n.bits ≡ x
    go true h = some_is n.bits x h
    go false h = none_is x h

module _ (env : Environment) (d : Flat) (sc : Scene) where
  -- at every length and sign
  abbrev IsTold : Typed → Type 0
  IsTold t = (w : ℕ) (s : Bool) → Tells (t.operand.at w s).known (t.value d sc w s)

  alone_told : (t : Typed) → IsTold t → Tells (by_itself t.operand).known (alone_value d sc t)
  alone_told t f = f (width_of t.operand.length) t.operand.signed

  -- ---- lists of parts

  abbrev AreTold : List Typed → Type 0
  AreTold [] = Unit {0}
  AreTold (t ∷ ts) = IsTold t × AreTold ts

  from_told : (k : Option Word) (v : Word) (ts : List Typed) → Tells k v → AreTold ts →
      Tells (unwrap_or (fold known_next (Some k) (map (λ a. (by_itself a).known) (map (λ t. t.operand) ts))) None) (fold concat_of v (map (alone_value d sc) ts))
  from_told k v [] f fs = f
  from_told k v (t ∷ ts) f fs =
      from_told (known_joined k (by_itself t.operand).known) (concat_of v (alone_value d sc t)) ts
      (joined_tells k (by_itself t.operand).known v (alone_value d sc t) f (alone_told t fs.0)) fs.1

  parts_told : (ts : List Typed) → AreTold ts → Tells (known_parts (map (λ a. (by_itself a).known) (map (λ t. t.operand) ts))) (joined (map (alone_value d sc) ts))
  parts_told [] fs = λ x h. none_is x h
  parts_told (t ∷ ts) fs = from_told (by_itself t.operand).known (alone_value d sc t) ts (alone_told t fs.0) fs.1

  -- ---- nodes

  binary_told : (at : ℕ) (op : source_bin.BinOp) (m : Manner) (a b : Typed) → IsTold a → IsTold b →
      (w : ℕ) (s : Bool) → Tells ((binary env at (binary_of op) m a.operand b.operand).at w s).known (binary_at d sc op m a b w s)
  binary_told at op Together a b f g w s = binary_tells (binary_of op) s _ _ _ _ (f w s) (g w s)
  binary_told at op Shifts a b f g w s = binary_tells (binary_of op) s _ _ _ _ (f w s) (alone_told b g)
  binary_told at op Compares a b f g w s =
      let length = width_of (larger a.operand.length b.operand.length) in
      let sign = a.operand.signed && b.operand.signed in
      brought_tells w s _ _ (binary_tells (binary_of op) sign _ _ _ _ (f length sign) (g length sign))
  binary_told at op Judges a b f g w s = brought_tells w s _ _ (binary_tells (binary_of op) false _ _ _ _ (alone_told a f) (alone_told b g))

  unary_told : (at : ℕ) (op : UnOp) (keeps : Bool) (a : Typed) → IsTold a → (w : ℕ) (s : Bool) →
      Tells ((unary at op keeps a.operand).at w s).known (if keeps then unary_value op (a.value d sc w s) else extend_of (unary_value op (alone_value d sc a)) w s)
  unary_told at op true a f w s = unary_tells op _ _ (f w s)
  unary_told at op false a f w s = brought_tells w s _ _ (unary_tells op _ _ (alone_told a f))

  name_told : (at : ℕ) (m : Meaning) (ts : List Chosen) (w : ℕ) (s : Bool) → Tells ((name at m (map (λ t. t.taken) ts)).at w s).known (extend_of (name_value d sc m ts) w s)
  name_told at (meaning.Parameter value signed) ts w s = brought_tells w s (Some value) value (λ x h. some_is value x h)
  name_told at meaning.Unvalued ts w s = λ x h. none_is x h
  name_told at meaning.Unknown ts w s = λ x h. none_is x h
  name_told at (meaning.Net o) ts w s = λ x h. none_is x h
  name_told at (meaning.Variable o) ts w s = λ x h. none_is x h
  name_told at (meaning.Memory o) ts w s = λ x h. none_is x h
  name_told at (meaning.Routine r) ts w s = λ x h. none_is x h

  abbrev IsTyped : Expr → Type 0
  IsTyped e = IsTold (typed_of env e)

  abbrev Kept : Type 0
  Kept = (e : Expr) × IsTyped e

  abbrev KeptSelect : Type 0
  KeptSelect = (s : Select) × Unit {0}

  abbrev bare : layer.Expr-F Kept KeptSelect → layer.Expr-F Expr Select
  bare y = map-Expr Kept KeptSelect Expr Select (λ e. e.0) (λ s. s.0) y

  all_told : (es : List Kept) → AreTold (map (typed_of env) (map (λ e. e.0) es))
  all_told [] = tt
  all_told (e ∷ es) = (e.1, all_told es)

  abbrev typed_layer : layer.Expr-F Expr Select → layer.Expr-F Typed Chosen
  typed_layer x = map-Expr Expr Select Typed Chosen (typed_of env) (chosen_of env) x

  layer_told : (y : layer.Expr-F Kept KeptSelect) → IsTold (typed_node env (typed_layer (bare y)))
  layer_told (layer.Choice at c a b) w s = choice_tells _ _ _ _ _ _ (alone_told (typed_of env c.0) c.1) (a.1 w s) (b.1 w s)
  layer_told (layer.Binary at op a b) w s = binary_told at op (manner_of op) (typed_of env a.0) (typed_of env b.0) a.1 b.1 w s
  layer_told (layer.Unary at op a) w s = unary_told at (unary_of op) (keeps_length op) (typed_of env a.0) a.1 w s
  layer_told (layer.Based at size number) w s = brought_tells w s _ _ (literal_tells (based env size number))
  layer_told (layer.Decimal at number) w s = brought_tells w s _ _ (literal_tells (decimal env number))
  layer_told (layer.Name at n selects) w s = name_told at (means env n) (map (chosen_of env) (map (λ t. t.0) selects)) w s
  layer_told (layer.Call at n args) w s = λ x h. none_is x h
  layer_told (layer.Sign at sign value) w s = brought_tells w s _ _ (alone_told (typed_of env value.0) value.1)
  layer_told (layer.Concat at parts) w s = brought_tells w s _ _ (parts_told (map (typed_of env) (map (λ e. e.0) parts)) (all_told parts))
  layer_told (layer.Replicate at n parts) w s =
      brought_tells w s _ _ (copies_tell _ _ _ (parts_told (map (typed_of env) (map (λ e. e.0) parts)) (all_told parts)))

  made_told : (x : layer.Expr-F Expr Select) (y : layer.Expr-F Kept KeptSelect) → bare y ≡ x → IsTyped (roll-Expr x)
  made_told x y is = subst (λ z. IsTyped (roll-Expr z)) is
      (subst IsTold (sym (fold-roll-Expr Typed Chosen (typed_node env) (chosen_node env) (bare y))) (layer_told y))

  pub is_told : (e : Expr) → IsTyped e
  is_told = ind-Expr IsTyped (λ _. Unit {0}) made_told (λ x y is. tt)
