-- What is evaluated depends on the variables and nets that it names alone.
use Rattle.std.proofs.Common.{◌≡◌, ℕ, ◌-◌, true, ◌&&◌, if◌then◌else◌, List, [], ◌∷◌, ◌++◌, get_or, Contains, pos, ◌-ℤ◌, refl, ◌∙◌, ap, ap₂}
use Rattle.std.proofs.lemmas.List.Elements.{Contains-append_left, Contains-append_right}
use Rattle.xt_bits.specs.Word.{Word, word, integer_of}
use Rattle.xt_bits.specs.Operators.{select_of, extend_of}
use Rattle.el_design.specs.Plain.{Expr, Number, NetValue, Variable, MemoryWord, Select, Unary, Binary, Choice, Concat, Copies, Sign, Resize, Call, Exprs, NoExpr, More, Range, Bit, Part, Up, Down, Flat}
use Rattle.el_design.specs.Store.{place_of, stored}
use Rattle.el_design.specs.Value.{Scene, value, values, lowest, is_signed, is_up, unary_value, binary_value, joined, copies}
use Rattle.el_design.specs.Names.{nodes_of, nodes_of_all, range_nodes, variable_named, variables_in, net_named, nets_in, is_fixed, is_constant}
use Rattle.el_design.proofs.OrderLists.{con_head, con_tail, con_all, con_mapped}

-- a node names a variable or net of these
abbrev pub Names : (ℕ → Type 0) → (ℕ → Type 0) → Expr → Type 0
Names A N (NetValue s n) = N n
Names A N (Variable s v) = A v
Names A N (MemoryWord s v i) = A v
Names A N e = Unit {0}

abbrev pub NamesAll : (ℕ → Type 0) → (ℕ → Type 0) → List Expr → Type 0
NamesAll A N es = (x : Expr) → Contains es x → Names A N x

-- two scenes are the same to these variables and nets
pub record Agree (A N : ℕ → Type 0) (s t : Scene) : Type 0 where
  pub calls : s.call ≡ t.call
  pub words : (v : ℕ) → A v → get_or s.store v [] ≡ get_or t.store v []
  pub values : (n : ℕ) (w : Word) → N n → get_or s.nets n w ≡ get_or t.nets n w

module _ (A N : ℕ → Type 0) (d : Flat) (s t : Scene) (g : Agree A N s t) where
  under : (x : Expr) (es : List Expr) → NamesAll A N (x ∷ es) → NamesAll A N es
  under x es h y c = h y (con_tail x y es c)

  left_of : (xs ys : List Expr) → NamesAll A N (xs ++ ys) → NamesAll A N xs
  left_of xs ys h y c = h y (Contains-append_left xs ys y c)

  right_of : (xs ys : List Expr) → NamesAll A N (xs ++ ys) → NamesAll A N ys
  right_of xs ys h y c = h y (Contains-append_right xs ys y c)

  word_same : (v place w : ℕ) → A v → stored s.store v place w ≡ stored t.store v place w
  word_same v place w h = ap (λ ws. get_or ws place (word w 0)) (g.words v h)

  mutual
    pub value_same : (e : Expr) → NamesAll A N (nodes_of e) → value d s e ≡ value d t e
    value_same (Number x b) h = refl
    value_same (NetValue x n) h = g.values n (word x.width 0) (h _ (con_head (NetValue x n) []))
    value_same (Variable x v) h = word_same v 0 x.width (h (Variable x v) (con_head (Variable x v) []))
    value_same (MemoryWord x v i) h =
        ap (λ w. stored s.store v (place_of d v (integer_of w (is_signed i))) x.width) (value_same i (under _ _ h)) ∙ word_same v _ x.width (h (MemoryWord x v i) (con_head _ _))
    value_same (Select x e r lsb) h =
        ap₂ (λ w l. select_of w (l -ℤ pos lsb) x.width) (value_same e (left_of _ (range_nodes r) (under _ _ h))) (lowest_same r (right_of (nodes_of e) _ (under _ _ h)))
    value_same (Unary x op e) h = ap (unary_value op) (value_same e (under _ _ h))
    value_same (Binary x op a b) h =
        ap₂ (binary_value op (is_signed a && is_signed b) x.signed) (value_same a (left_of _ (nodes_of b) (under _ _ h))) (value_same b (right_of (nodes_of a) _ (under _ _ h)))
    value_same (Choice x c a b) h =
        let k : NamesAll A N (nodes_of c ++ nodes_of a) = left_of (nodes_of c ++ nodes_of a) (nodes_of b) (under _ _ h) in
        ap₂ (λ (w : Word) (f : Word × Word). if is_up w then f.0 else f.1) (value_same c (left_of _ (nodes_of a) k))
        (ap₂ (λ u v. (u, v)) (value_same a (right_of (nodes_of c) _ k)) (value_same b (right_of (nodes_of c ++ nodes_of a) _ (under _ _ h))))
    value_same (Concat x es) h = ap joined (values_same es (under _ _ h))
    value_same (Copies x n e) h = ap (copies (n - 1)) (value_same e (under _ _ h))
    value_same (Sign x e) h = value_same e (under _ _ h)
    value_same (Resize x e) h = ap (λ w. extend_of w x.width x.signed) (value_same e (under _ _ h))
    value_same (Call x f es) h = ap₂ (λ call ws. word x.width (call f ws).value) g.calls (values_same es (under _ _ h))

    pub values_same : (es : Exprs) → NamesAll A N (nodes_of_all es) → values d s es ≡ values d t es
    values_same NoExpr h = refl
    values_same (More e es) h = ap₂ (λ w ws. w ∷ ws) (value_same e (left_of _ (nodes_of_all es) h)) (values_same es (right_of (nodes_of e) _ h))

    pub lowest_same : (r : Range) → NamesAll A N (range_nodes r) → lowest d s r ≡ lowest d t r
    lowest_same (Bit e) h = ap (λ w. integer_of w (is_signed e)) (value_same e h)
    lowest_same (Part high low) h = refl
    lowest_same (Up e w) h = ap (λ x. integer_of x (is_signed e)) (value_same e h)
    lowest_same (Down e w) h = ap (λ x. integer_of x (is_signed e) -ℤ pos (w - 1)) (value_same e h)

-- what an expression's names are, node by node
pub named_nodes : (A N : ℕ → Type 0) (e : Expr) → ((v : ℕ) → Contains (variables_in e) v → A v) → ((n : ℕ) → Contains (nets_in e) n → N n) → NamesAll A N (nodes_of e)
named_nodes A N e h k (NetValue s n) c = k n (con_mapped net_named (nodes_of e) (NetValue s n) n c refl)
named_nodes A N e h k (Variable s v) c = h v (con_mapped variable_named (nodes_of e) (Variable s v) v c refl)
named_nodes A N e h k (MemoryWord s v i) c = h v (con_mapped variable_named (nodes_of e) (MemoryWord s v i) v c refl)
named_nodes A N e h k (Number s b) c = tt
named_nodes A N e h k (Select s x r lsb) c = tt
named_nodes A N e h k (Unary s op x) c = tt
named_nodes A N e h k (Binary s op a b) c = tt
named_nodes A N e h k (Choice s x a b) c = tt
named_nodes A N e h k (Concat s es) c = tt
named_nodes A N e h k (Copies s n x) c = tt
named_nodes A N e h k (Sign s x) c = tt
named_nodes A N e h k (Resize s x) c = tt
named_nodes A N e h k (Call s f es) c = tt

abbrev None_of : ℕ → Type 0
None_of n = ⊥

fixed_names : (x : Expr) → is_fixed x ≡ true → Names None_of None_of x
fixed_names (NetValue s n) h = cc
fixed_names (Variable s v) h = cc
fixed_names (MemoryWord s v i) h = cc
fixed_names (Number s b) h = tt
fixed_names (Select s x r lsb) h = tt
fixed_names (Unary s op x) h = tt
fixed_names (Binary s op a b) h = tt
fixed_names (Choice s x a b) h = tt
fixed_names (Concat s es) h = tt
fixed_names (Copies s n x) h = tt
fixed_names (Sign s x) h = tt
fixed_names (Resize s x) h = tt
fixed_names (Call s f es) h = tt

-- a constant has one value
pub constant_same : (d : Flat) (s t : Scene) (e : Expr) → s.call ≡ t.call → is_constant e ≡ true → value d s e ≡ value d t e
constant_same d s t e calls h =
    value_same None_of None_of d s t (record { calls = calls; words = λ v x. absurd x; values = λ n w x. absurd x }) e (λ x c. fixed_names x (con_all is_fixed (nodes_of e) x h c))
