-- What is evaluated depends on what the functions give that it calls, and on no other.
use Rattle.std.proofs.Common.{◌≡◌, ◌⊎◌, inl, inr, ℕ, ◌-◌, ◌&&◌, ◌||◌, if◌then◌else◌, List, [], ◌∷◌, ◌++◌, Contains, flat_map, pos, ◌-ℤ◌, refl, ◌∙◌, ap, ap₂}
use Rattle.std.proofs.lemmas.List.Elements.{Contains-append_left, Contains-append_right, Contains-append_cases}
use Rattle.xt_bits.specs.Word.{Word, word, integer_of}
use Rattle.xt_bits.specs.Operators.{eq_of, select_of, extend_of}
use Rattle.el_design.specs.Plain.{Expr, Number, NetValue, Variable, MemoryWord, Select, Unary, Binary, Choice, Concat, Copies, Sign, Resize, Call, Exprs, NoExpr, More, Range, Bit, Part, Up, Down, Lvalue, ToVariable, ToPart, ToWord, ToWordPart, Both, Nowhere, Flat}
use Rattle.el_design.specs.Store.{Store, declared, width_of, place_of, stored, Whole, Within, writes_to}
use Rattle.el_design.specs.Value.{Scene, value, values, lowest, is_signed, is_up, unary_value, binary_value, joined, copies}
use Rattle.el_design.specs.Assign.{range_width, spots, writes_of, has_label, natural, count_of}
use Rattle.el_design.specs.Names.{nodes_of, nodes_of_all, range_nodes, range_indexes, target_indexes, called, calls_in}
use Rattle.el_design.proofs.OrderLists.{con_head, con_tail, con_nil, con_mapped}

module _ (d : Flat) (call other : ℕ → List Word → Word) (nets : List Word) (store : Store) where
  abbrev scene_with : (ℕ → List Word → Word) → Scene
  scene_with c = record { call = c; nets = nets; store = store }

  -- two meanings of calls agree on a function
  abbrev pub AgreeOn : ℕ → Type 0
  AgreeOn f = (args : List Word) → call f args ≡ other f args

  abbrev AgreeAt : Expr → Type 0
  AgreeAt (Call s f es) = AgreeOn f
  AgreeAt e = Unit {0}

  abbrev AgreeAll : List Expr → Type 0
  AgreeAll es = (x : Expr) → Contains es x → AgreeAt x

  under : (x : Expr) (es : List Expr) → AgreeAll (x ∷ es) → AgreeAll es
  under x es h y c = h y (con_tail x y es c)

  left_of : (xs ys : List Expr) → AgreeAll (xs ++ ys) → AgreeAll xs
  left_of xs ys h y c = h y (Contains-append_left xs ys y c)

  right_of : (xs ys : List Expr) → AgreeAll (xs ++ ys) → AgreeAll ys
  right_of xs ys h y c = h y (Contains-append_right xs ys y c)

  mutual
    value_called : (e : Expr) → AgreeAll (nodes_of e) → value d (scene_with call) e ≡ value d (scene_with other) e
    value_called (Number x b) h = refl
    value_called (NetValue x n) h = refl
    value_called (Variable x v) h = refl
    value_called (MemoryWord x v i) h = ap (λ w. stored store v (place_of d v (integer_of w (is_signed i))) x.width) (value_called i (under _ _ h))
    value_called (Select x e r lsb) h =
        ap₂ (λ w l. select_of w (l -ℤ pos lsb) x.width) (value_called e (left_of _ (range_nodes r) (under _ _ h))) (lowest_called r (right_of (nodes_of e) _ (under _ _ h)))
    value_called (Unary x op e) h = ap (unary_value op) (value_called e (under _ _ h))
    value_called (Binary x op a b) h =
        ap₂ (binary_value op (is_signed a && is_signed b) x.signed) (value_called a (left_of _ (nodes_of b) (under _ _ h))) (value_called b (right_of (nodes_of a) _ (under _ _ h)))
    value_called (Choice x c a b) h =
        let k : AgreeAll (nodes_of c ++ nodes_of a) = left_of (nodes_of c ++ nodes_of a) (nodes_of b) (under _ _ h) in
        ap₂ (λ (w : Word) (f : Word × Word). if is_up w then f.0 else f.1) (value_called c (left_of _ (nodes_of a) k))
        (ap₂ (λ u v. (u, v)) (value_called a (right_of (nodes_of c) _ k)) (value_called b (right_of (nodes_of c ++ nodes_of a) _ (under _ _ h))))
    value_called (Concat x es) h = ap joined (values_called es (under _ _ h))
    value_called (Copies x n e) h = ap (copies (n - 1)) (value_called e (under _ _ h))
    value_called (Sign x e) h = value_called e (under _ _ h)
    value_called (Resize x e) h = ap (λ w. extend_of w x.width x.signed) (value_called e (under _ _ h))
    value_called (Call x f es) h =
        ap (λ ws. word x.width (call f ws).value) (values_called es (under _ _ h)) ∙ ap (λ w. word x.width w.value) (h (Call x f es) (con_head (Call x f es) (nodes_of_all es)) (values d (scene_with other) es))

    values_called : (es : Exprs) → AgreeAll (nodes_of_all es) → values d (scene_with call) es ≡ values d (scene_with other) es
    values_called NoExpr h = refl
    values_called (More e es) h = ap₂ (λ w ws. w ∷ ws) (value_called e (left_of _ (nodes_of_all es) h)) (values_called es (right_of (nodes_of e) _ h))

    lowest_called : (r : Range) → AgreeAll (range_nodes r) → lowest d (scene_with call) r ≡ lowest d (scene_with other) r
    lowest_called (Bit e) h = ap (λ w. integer_of w (is_signed e)) (value_called e h)
    lowest_called (Part high low) h = refl
    lowest_called (Up e w) h = ap (λ x. integer_of x (is_signed e)) (value_called e h)
    lowest_called (Down e w) h = ap (λ x. integer_of x (is_signed e) -ℤ pos (w - 1)) (value_called e h)

  -- ---- by the functions that an expression calls

  abbrev pub AgreeIn : List Expr → Type 0
  AgreeIn es = (f : ℕ) → Contains (flat_map calls_in es) f → AgreeOn f

  nodes_agree : (e : Expr) → ((f : ℕ) → Contains (calls_in e) f → AgreeOn f) → AgreeAll (nodes_of e)
  nodes_agree e h (Call s f es) c = h f (con_mapped called (nodes_of e) (Call s f es) f c refl)
  nodes_agree e h (NetValue s n) c = tt
  nodes_agree e h (Variable s v) c = tt
  nodes_agree e h (MemoryWord s v i) c = tt
  nodes_agree e h (Number s b) c = tt
  nodes_agree e h (Select s x r lsb) c = tt
  nodes_agree e h (Unary s op x) c = tt
  nodes_agree e h (Binary s op a b) c = tt
  nodes_agree e h (Choice s x a b) c = tt
  nodes_agree e h (Concat s es) c = tt
  nodes_agree e h (Copies s n x) c = tt
  nodes_agree e h (Sign s x) c = tt
  nodes_agree e h (Resize s x) c = tt

  pub in_first : (e : Expr) (es : List Expr) → AgreeIn (e ∷ es) → AgreeIn (e ∷ [])
  in_first e es h f c = go (Contains-append_cases (calls_in e) [] f c)
    where
      go : Contains (calls_in e) f ⊎ Contains [] f → AgreeOn f
      go (inl k) = h f (Contains-append_left (calls_in e) (flat_map calls_in es) f k)
      go (inr k) = absurd (con_nil f k)

  pub in_rest : (e : Expr) (es : List Expr) → AgreeIn (e ∷ es) → AgreeIn es
  in_rest e es h f c = h f (Contains-append_right (calls_in e) (flat_map calls_in es) f c)

  pub in_left : (es fs : List Expr) → AgreeIn (es ++ fs) → AgreeIn es
  in_left [] fs h f c = absurd (con_nil f c)
  in_left (e ∷ es) fs h f c = go (Contains-append_cases (calls_in e) (flat_map calls_in es) f c) (λ k. in_left es fs (in_rest e (es ++ fs) h) f k)
    where
      go : Contains (calls_in e) f ⊎ Contains (flat_map calls_in es) f → (Contains (flat_map calls_in es) f → AgreeOn f) → AgreeOn f
      go (inl k) more = h f (Contains-append_left (calls_in e) (flat_map calls_in (es ++ fs)) f k)
      go (inr k) more = more k

  pub in_right : (es fs : List Expr) → AgreeIn (es ++ fs) → AgreeIn fs
  in_right [] fs h = h
  in_right (e ∷ es) fs h = in_right es fs (in_rest e (es ++ fs) h)

  pub value_agrees : (e : Expr) → AgreeIn (e ∷ []) → value d (scene_with call) e ≡ value d (scene_with other) e
  value_agrees e h = value_called e (nodes_agree e (λ f c. h f (Contains-append_left (calls_in e) [] f c)))

  lowest_agrees : (r : Range) → AgreeIn (range_indexes r) → lowest d (scene_with call) r ≡ lowest d (scene_with other) r
  lowest_agrees (Bit e) h = ap (λ w. integer_of w (is_signed e)) (value_agrees e h)
  lowest_agrees (Part high low) h = refl
  lowest_agrees (Up e w) h = ap (λ x. integer_of x (is_signed e)) (value_agrees e h)
  lowest_agrees (Down e w) h = ap (λ x. integer_of x (is_signed e) -ℤ pos (w - 1)) (value_agrees e h)

  spots_agree : (to : Lvalue) → AgreeIn (target_indexes to) → spots d (scene_with call) to ≡ spots d (scene_with other) to
  spots_agree (ToVariable v) h = refl
  spots_agree (ToPart v r) h = ap (λ z. Within v 0 (z -ℤ pos (declared d v (λ x. x.lsb))) (range_width r) ∷ []) (lowest_agrees r h)
  spots_agree (ToWord v i) h = ap (λ w. Whole v (place_of d v (integer_of w (is_signed i))) (width_of d v) ∷ []) (value_agrees i h)
  spots_agree (ToWordPart v i r) h =
      ap₂ (λ w z. Within v (place_of d v (integer_of w (is_signed i))) (z -ℤ pos (declared d v (λ x. x.lsb))) (range_width r) ∷ []) (value_agrees i (in_first i (range_indexes r) h))
      (lowest_agrees r (in_rest i (range_indexes r) h))
  spots_agree (Both a b) h = ap₂ (λ x y. x ++ y) (spots_agree a (in_left (target_indexes a) (target_indexes b) h)) (spots_agree b (in_right (target_indexes a) (target_indexes b) h))
  spots_agree Nowhere h = refl

  pub assigned_agrees : (to : Lvalue) (e : Expr) → AgreeIn (target_indexes to ++ e ∷ []) →
      writes_of d (scene_with call) to (value d (scene_with call) e) ≡ writes_of d (scene_with other) to (value d (scene_with other) e)
  assigned_agrees to e h = ap₂ (λ ps x. writes_to ps x) (spots_agree to (in_left (target_indexes to) (e ∷ []) h)) (value_agrees e (in_right (target_indexes to) (e ∷ []) h))

  pub label_agrees : (on : Expr) (labels : List Expr) → AgreeIn (on ∷ []) → AgreeIn labels → has_label d (scene_with call) on labels ≡ has_label d (scene_with other) on labels
  label_agrees on [] h k = refl
  label_agrees on (l ∷ ls) h k =
      ap₂ (λ a b. a || b) (ap₂ eq_of (value_agrees on h) (value_agrees l (in_first l ls k))) (label_agrees on ls h (in_rest l ls k))

  pub count_agrees : (e : Expr) → AgreeIn (e ∷ []) → count_of d (scene_with call) e ≡ count_of d (scene_with other) e
  count_agrees e h = ap (λ w. natural (integer_of w (is_signed e))) (value_agrees e h)
