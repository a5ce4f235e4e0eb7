-- In what fits a design, a well made expression has a word of its node's width.
use Rattle.std.proofs.Common.{◌≡◌, ℕ, zero, suc, ◌+◌, ◌-◌, ◌*◌, ◌≤◌, ◌^◌, ◌<◌, ◌&&◌, Bool, true, false, if◌then◌else◌, List, [], ◌∷◌, ◌++◌, Some, All, map, fold, sum, slice_get, get_or, refl, sym, ◌∙◌, ap, ap₂, subst, arith, zero-add, suc-mul, one-mul}
use Rattle.std.proofs.lemmas.List.Elements.{All-nil, All-cons, All-head, All-tail}
use Rattle.std.proofs.lemmas.Option.{get_or_from_slice_get, slice_get_within}
use Rattle.xt_bits.specs.Word.{Word, word}
use Rattle.xt_bits.specs.Operators.{concat_of}
use Rattle.el_design.specs.declared.designs.Var.{Var}
use Rattle.el_design.specs.declared.expressions.UnOp.{UnOp}
use Rattle.el_design.specs.declared.expressions.UnOp.TheVariants as unary
use Rattle.el_design.specs.declared.expressions.BinOp.{BinOp}
use Rattle.el_design.specs.declared.expressions.BinOp.TheVariants as binary
use Rattle.el_design.specs.Plain.{Expr, Number, NetValue, Variable, MemoryWord, Select, Unary, Binary, Choice, Concat, Copies, Sign, Resize, Call, Exprs, NoExpr, More, Flat}
use Rattle.el_design.specs.Store.{Store, stored}
use Rattle.el_design.specs.Value.{Scene, value, values, is_signed, is_up, unary_value, binary_value, joined, copies}
use Rattle.el_design.specs.Names.{nodes_of, nodes_of_all, range_nodes}
use Rattle.el_design.specs.Sound.{IsNode, IsNet, IsPlainVariable, IsMemory, FitsUnary, FitsBinary, width, widths_in}
use Rattle.el_design.specs.Fits.{IsWordOf, FitsVariable, FitsStore, FitNets, FitsScene, IsWellMade}
use Rattle.el_design.proofs.FitWords.{word_is, int_word_is, not_is, sar_is, extend_is, select_is, truth_is}

-- ---- parts of lists

pub all_at : {X : Type 0} (P : X → Type 0) (xs : List X) (i : ℕ) (x : X) → slice_get xs i ≡ Some x → All P xs → P x
all_at P xs i x e h = subst P (get_or_from_slice_get xs i x x e) (h i x (slice_get_within xs i x e))

pub all_left : {X : Type 0} (P : X → Type 0) (xs ys : List X) → All P (xs ++ ys) → All P xs
all_left P [] ys h = All-nil P
all_left P (x ∷ xs) ys h = All-cons P x xs (All-head P x (xs ++ ys) h) (all_left P xs ys (All-tail P x (xs ++ ys) h))

pub all_right : {X : Type 0} (P : X → Type 0) (xs ys : List X) → All P (xs ++ ys) → All P ys
all_right P [] ys h = h
all_right P (x ∷ xs) ys h = all_right P xs ys (All-tail P x (xs ++ ys) h)

-- ---- parts of well made expressions

-- the nodes below an expression's own
abbrev below : Expr → List Expr
below (Number s b) = []
below (NetValue s n) = []
below (Variable s v) = []
below (MemoryWord s v i) = nodes_of i
below (Select s e r lsb) = nodes_of e ++ range_nodes r
below (Unary s op e) = nodes_of e
below (Binary s op a b) = nodes_of a ++ nodes_of b
below (Choice s c a b) = nodes_of c ++ nodes_of a ++ nodes_of b
below (Concat s es) = nodes_of_all es
below (Copies s n e) = nodes_of e
below (Sign s e) = nodes_of e
below (Resize s e) = nodes_of e
below (Call s f es) = nodes_of_all es

nodes_are : (e : Expr) → nodes_of e ≡ e ∷ below e
nodes_are (Number s b) = refl
nodes_are (NetValue s n) = refl
nodes_are (Variable s v) = refl
nodes_are (MemoryWord s v i) = refl
nodes_are (Select s e r lsb) = refl
nodes_are (Unary s op e) = refl
nodes_are (Binary s op a b) = refl
nodes_are (Choice s c a b) = refl
nodes_are (Concat s es) = refl
nodes_are (Copies s n e) = refl
nodes_are (Sign s e) = refl
nodes_are (Resize s e) = refl
nodes_are (Call s f es) = refl

-- ---- words

as_wide : (v w : ℕ) (x : Word) → v ≡ w → IsWordOf v x → IsWordOf w x
as_wide v w x e h = subst (λ n. IsWordOf n x) e h

-- a word of its own width is one of that width
own_word : (w : ℕ) (x : Word) → x.width ≡ w → IsWordOf x.width x → IsWordOf w x
own_word w x e h = as_wide x.width w x e h

word_at : (ws : List Word) (place w : ℕ) → All (IsWordOf w) ws → IsWordOf w (get_or ws place (word w 0))
word_at [] place w h = word_is w 0
word_at (x ∷ ws) zero w h = All-head (IsWordOf w) x ws h
word_at (x ∷ ws) (suc place) w h = word_at ws place w (All-tail (IsWordOf w) x ws h)

pub stored_word : (d : Flat) (store : Store) (v place w : ℕ) (var : Var) → FitsStore d store → slice_get d.vars v ≡ Some var → var.width ≡ w → IsWordOf w (stored store v place w)
stored_word d store v place w var f is wide = go (f v var is)
  where
    go : (words : List Word) × (slice_get store v ≡ Some words) × FitsVariable var words → IsWordOf w (stored store v place w)
    go h = subst (λ ws. IsWordOf w (get_or ws place (word w 0))) (sym (get_or_from_slice_get store v h.0 [] h.1)) (word_at h.0 place w (subst (λ n. All (IsWordOf n) h.0) wide h.2.wide))

net_word : (d : Flat) (nets : List Word) (n w : ℕ) → FitNets d nets → IsNet d n w → IsWordOf w (get_or nets n (word w 0))
net_word d nets n w f is = go nets n (λ x e. as_wide is.net.width w x is.wide (f n is.net x is.is e))
  where
    go : (xs : List Word) (i : ℕ) → ((x : Word) → slice_get xs i ≡ Some x → IsWordOf w x) → IsWordOf w (get_or xs i (word w 0))
    go [] i h = word_is w 0
    go (x ∷ xs) zero h = h x refl
    go (x ∷ xs) (suc i) h = go xs i h

-- ---- operators

unary_word : (op : UnOp) (x : Word) (w a : ℕ) → IsWordOf a x → FitsUnary op w a → IsWordOf w (unary_value op x)
unary_word unary.Plus x w a h e = as_wide a w x e h
unary_word unary.Minus x w a h e = own_word w _ (h.0 ∙ e) (int_word_is x.width _)
unary_word unary.Inv x w a h e = own_word w _ (h.0 ∙ e) (not_is x)
unary_word op x w a h e = as_wide 1 w _ (sym e) (truth_is _)

shifted_word : (signed : Bool) (x y : Word) → IsWordOf x.width (binary_value binary.Ashr true signed x y)
shifted_word true x y = sar_is x y.value
shifted_word false x y = word_is x.width _

binary_word : (op : BinOp) (both signed : Bool) (x y : Word) (w a b : ℕ) → IsWordOf a x → FitsBinary op w a b → IsWordOf w (binary_value op both signed x y)
binary_word binary.Mul both signed x y w a b h e = own_word w _ (h.0 ∙ e.0) (word_is x.width _)
binary_word binary.Div both signed x y w a b h e = own_word w _ (h.0 ∙ e.0) (int_word_is x.width _)
binary_word binary.Rem both signed x y w a b h e = own_word w _ (h.0 ∙ e.0) (int_word_is x.width _)
binary_word binary.Add both signed x y w a b h e = own_word w _ (h.0 ∙ e.0) (word_is x.width _)
binary_word binary.Sub both signed x y w a b h e = own_word w _ (h.0 ∙ e.0) (int_word_is x.width _)
binary_word binary.Shl both signed x y w a b h e = own_word w _ (h.0 ∙ e) (word_is x.width _)
binary_word binary.Shr both signed x y w a b h e = own_word w _ (h.0 ∙ e) (word_is x.width _)
binary_word binary.Ashl both signed x y w a b h e = own_word w _ (h.0 ∙ e) (word_is x.width _)
binary_word binary.Ashr both signed x y w a b h e = as_wide x.width w _ (h.0 ∙ e) (shifted_word signed x y)
binary_word binary.Lt both signed x y w a b h e = as_wide 1 w _ (sym e.0) (truth_is _)
binary_word binary.Le both signed x y w a b h e = as_wide 1 w _ (sym e.0) (truth_is _)
binary_word binary.Gt both signed x y w a b h e = as_wide 1 w _ (sym e.0) (truth_is _)
binary_word binary.Ge both signed x y w a b h e = as_wide 1 w _ (sym e.0) (truth_is _)
binary_word binary.Eq both signed x y w a b h e = as_wide 1 w _ (sym e.0) (truth_is _)
binary_word binary.Ne both signed x y w a b h e = as_wide 1 w _ (sym e.0) (truth_is _)
binary_word binary.CaseEq both signed x y w a b h e = as_wide 1 w _ (sym e.0) (truth_is _)
binary_word binary.CaseNe both signed x y w a b h e = as_wide 1 w _ (sym e.0) (truth_is _)
binary_word binary.And both signed x y w a b h e = own_word w _ (h.0 ∙ e.0) (word_is x.width _)
binary_word binary.Xor both signed x y w a b h e = own_word w _ (h.0 ∙ e.0) (word_is x.width _)
binary_word binary.Xnor both signed x y w a b h e = own_word w _ (h.0 ∙ e.0) (not_is _)
binary_word binary.Or both signed x y w a b h e = own_word w _ (h.0 ∙ e.0) (word_is x.width _)
binary_word binary.LogAnd both signed x y w a b h e = as_wide 1 w _ (sym e) (truth_is _)
binary_word binary.LogOr both signed x y w a b h e = as_wide 1 w _ (sym e) (truth_is _)

chosen_word : (c : Bool) (a b : Word) (w : ℕ) → IsWordOf w a → IsWordOf w b → IsWordOf w (if c then a else b)
chosen_word true a b w e f = e
chosen_word false a b w e f = f

-- so many bits in all
abbrev bits_in : List Word → ℕ
bits_in xs = sum (map (λ x. x.width) xs)

joined_more : (x : Word) (xs : List Word) → IsWordOf x.width x → IsWordOf (fold (λ a x. a + x) x.width (map (λ x. x.width) xs)) (fold concat_of x xs)
joined_more x [] h = h
joined_more x (y ∷ ys) h = joined_more (concat_of x y) ys (word_is (x.width + y.width) _)

joined_word : (xs : List Word) → 1 ≤ bits_in xs → All (λ x. IsWordOf x.width x) xs → IsWordOf (bits_in xs) (joined xs)
joined_word [] l h = absurd (omega arith)
joined_word (x ∷ xs) l h =
    as_wide _ (bits_in (x ∷ xs)) _ (ap (λ a. fold (λ a x. a + x) a (map (λ x. x.width) xs)) (sym (zero-add x.width))) (joined_more x xs (All-head (λ x. IsWordOf x.width x) x xs h))

copies_word : (n : ℕ) (a : Word) → IsWordOf a.width a → IsWordOf (suc n * a.width) (copies n a)
copies_word zero a h = as_wide a.width _ _ (sym (one-mul a.width)) h
copies_word (suc n) a h =
    let before : IsWordOf (suc n * a.width) (copies n a) = copies_word n a h in
    own_word _ _ (ap (λ k. k + a.width) before.0 ∙ sym (suc-mul (suc n) a.width)) (word_is ((copies n a).width + a.width) _)

-- a word of some width is one of its own
of_own : (w : ℕ) (x : Word) → IsWordOf w x → IsWordOf x.width x
of_own w x h = as_wide w x.width x (sym h.0) h

-- ---- values

module _ (d : Flat) where
  pub made_node : (e : Expr) → IsWellMade d e → IsNode d e
  made_node e h = All-head (IsNode d) e (below e) (subst (All (IsNode d)) (nodes_are e) h)

  made_below : (e : Expr) → IsWellMade d e → All (IsNode d) (below e)
  made_below e h = All-tail (IsNode d) e (below e) (subst (All (IsNode d)) (nodes_are e) h)

  module _ (s : Scene) (f : FitsScene d s) where
    mutual
      pub value_word : (e : Expr) → IsWellMade d e → IsWordOf (width e) (value d s e)
      value_word (Number x b) h =
          let is : (b.width ≡ x.width) × (b.value < 2 ^ b.width) = (made_node (Number x b) h).1 in own_word x.width b is.0 (refl, is.1)
      value_word (NetValue x n) h = net_word d s.nets n x.width f.1 (made_node (NetValue x n) h).1
      value_word (Variable x v) h = let is : IsPlainVariable d v x.width = (made_node (Variable x v) h).1 in stored_word d s.store v 0 x.width is.var f.0 is.is is.wide
      value_word (MemoryWord x v i) h = let is : IsMemory d v x.width = (made_node (MemoryWord x v i) h).1 in stored_word d s.store v _ x.width is.var f.0 is.is is.wide
      value_word (Select x e r lsb) h = select_is (value d s e) _ x.width
      value_word (Unary x op e) h = unary_word op (value d s e) x.width (width e) (value_word e (made_below (Unary x op e) h)) (made_node (Unary x op e) h).1
      value_word (Binary x op a b) h =
          binary_word op (is_signed a && is_signed b) x.signed (value d s a) (value d s b) x.width (width a) (width b)
          (value_word a (all_left (IsNode d) (nodes_of a) (nodes_of b) (made_below (Binary x op a b) h))) (made_node (Binary x op a b) h).1.0
      value_word (Choice x c a b) h =
          let parts : All (IsNode d) ((nodes_of c ++ nodes_of a) ++ nodes_of b) = made_below (Choice x c a b) h in
          let is : (width a ≡ x.width) × (width b ≡ x.width) = (made_node (Choice x c a b) h).1 in
          chosen_word (is_up (value d s c)) (value d s a) (value d s b) x.width
          (as_wide (width a) x.width _ is.0 (value_word a (all_right (IsNode d) (nodes_of c) (nodes_of a) (all_left (IsNode d) (nodes_of c ++ nodes_of a) (nodes_of b) parts))))
          (as_wide (width b) x.width _ is.1 (value_word b (all_right (IsNode d) (nodes_of c ++ nodes_of a) (nodes_of b) parts)))
      value_word (Concat x es) h =
          let words = values_words es (made_below (Concat x es) h) in
          let e : bits_in (values d s es) ≡ x.width = ap sum words.0 ∙ (made_node (Concat x es) h).1 in
          as_wide (bits_in (values d s es)) x.width _ e (joined_word (values d s es) (subst (λ n. 1 ≤ n) (sym e) (made_node (Concat x es) h).0.0) words.1)
      value_word (Copies x n e) h =
          let is : (1 ≤ n) × (n * width e ≡ x.width) = (made_node (Copies x n e) h).1 in
          let here : IsWordOf (width e) (value d s e) = value_word e (made_below (Copies x n e) h) in
          let count : suc (n - 1) ≡ n = omega (arith, is.0) in
          as_wide _ x.width _ (ap₂ (λ m w. m * w) count here.0 ∙ is.1) (copies_word (n - 1) (value d s e) (of_own (width e) _ here))
      value_word (Sign x e) h = as_wide (width e) x.width _ (made_node (Sign x e) h).1 (value_word e (made_below (Sign x e) h))
      value_word (Resize x e) h = extend_is (value d s e) x.width x.signed
      value_word (Call x g es) h = word_is x.width _

      values_words : (es : Exprs) → All (IsNode d) (nodes_of_all es) → (map (λ x. x.width) (values d s es) ≡ widths_in es) × All (λ x. IsWordOf x.width x) (values d s es)
      values_words NoExpr h = (refl, All-nil (λ x. IsWordOf x.width x))
      values_words (More e es) h =
          let here : IsWordOf (width e) (value d s e) = value_word e (all_left (IsNode d) (nodes_of e) (nodes_of_all es) h) in
          let others = values_words es (all_right (IsNode d) (nodes_of e) (nodes_of_all es) h) in
          (ap₂ (λ w ws. w ∷ ws) here.0 others.0, All-cons (λ x. IsWordOf x.width x) (value d s e) (values d s es) (of_own (width e) _ here) others.1)
