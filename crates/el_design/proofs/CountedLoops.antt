-- A counted `for` asks its test for just the values that are alike by the lowest bit of its step, and so it ends, or it is endless.
use Rattle.std.proofs.Common.{◌≡◌, ◌≢◌, ◌⊎◌, inl, inr, ℕ, zero, suc, ◌+◌, ◌-◌, ◌*◌, ◌/◌, ◌%◌, ◌^◌, ◌<◌, ◌≤◌, ◌==◌, ◌&&◌, Bool, true, false, List, [], ◌∷◌, ◌++◌, All, slice_get, get_or, pos, ◌-ℤ◌, option_map, unwrap_or, refl, sym, ◌∙◌, ap, subst, arith, T, eqb→eq, eq-eqb}
use Rattle.std.specs.Prelude.{neg_ℤ}
use Rattle.std.specs.Int.{int_rem_euclid, bit_at}
use Rattle.std.proofs.Math.Nat.{add-mod_right, add-mod-mod, mod-add-mod}
use Rattle.std.proofs.lemmas.Nat.{pow_pos, mod_below}
use Rattle.std.proofs.lemmas.Bool.{leb-true, lt-ltb}
use Rattle.xt_base.specs.declared.TheConstants.{MAX_WIDTH}
use Rattle.xt_base.specs.declared.refusals.Place.{Place}
use Rattle.xt_bits.specs.Word.{Word, word, int_word, bit_of, number_of}
use Rattle.xt_bits.specs.Operators.{extended_bit, extend_of, neg_of, sub_of, add_of, select_of}
use Rattle.xt_bits.proofs.Numbers.{mod_mod, number_of-bits, bit_at-number_of, below_max}
use Rattle.xt_bits.proofs.Integers.{difference, negative}
use Rattle.xt_bits.proofs.Readings.{select_number}
use Rattle.el_design.specs.declared.expressions.BinOp.{BinOp}
use Rattle.el_design.specs.declared.expressions.BinOp.TheVariants as binary
use Rattle.el_design.specs.Plain.{Shape, Expr, Number, NetValue, Variable, MemoryWord, Select, Unary, Binary, Choice, Concat, Copies, Sign, Resize, Call, Statement, For, Flat}
use Rattle.el_design.specs.Store.{stored, width_of, empty_store}
use Rattle.el_design.specs.Value.{Scene, value, is_up}
use Rattle.el_design.specs.Names.{nodes_of, is_constant}
use Rattle.el_design.specs.Sound.{width, IsNode, IsPlainVariable, IsStatement}
use Rattle.el_design.specs.Turns.{fixed, is_kept, is_variable, is_advance, is_step_of, turned, goes_on, IsCounted, of_for, IsEndlessFor, endless_for}
use Rattle.el_design.specs.Fits.{IsWordOf, IsWellMade}
use Rattle.el_design.specs.Progression.{value_after}
use Rattle.el_design.specs.CountedLoops.{first_of, step_of, holding, tests, IsTaken, Ends, EndsByValues}
use Rattle.el_design.proofs.Progression.{takes_all_alike}
use Rattle.el_design.proofs.OrderLists.{some_is}
use Rattle.std.proofs.lemmas.List.Elements.{All-tail}
use Rattle.el_design.proofs.OrderFoot.{Agree, value_same, constant_same}
use Rattle.el_design.proofs.OrderRule.{one_word, takes_value, empty_shaped, turned_shaped, test_names}
use Rattle.el_design.proofs.FitWords.{extended-lt, word_is, int_word_is, extend_is}
use Rattle.el_design.proofs.FitStores.{empty_fits}
use Rattle.el_design.proofs.FitValues.{all_left, all_right, made_node, value_word}
use Rattle.el_design.proofs.WaysPuts.{left_of, right_of}

-- ---- low bits

-- a vector that is made longer keeps its low bits
own_bit : (a : Word) (signed : Bool) (i : ℕ) → i < a.width → extended_bit a signed i ≡ bit_at a.value i
unfolding extended_bit bit_of
own_bit a signed i h = rw (lt-ltb i a.width h) refl

extended_low : (a : Word) (m w : ℕ) (signed : Bool) → w ≤ a.width → w ≤ m → ((i : ℕ) → extended_bit a signed i < 2) → (extend_of a m signed).value % 2 ^ w ≡ a.value % 2 ^ w
extended_low a m w signed h k bits =
    number_of-bits w (number_of m (extended_bit a signed)) (bit_at a.value) (λ i l. bit_at-number_of m (extended_bit a signed) bits i (omega (arith, l, k)) ∙ own_bit a signed i (omega (arith, l, h)))
    ∙ sym (number_of-bits w a.value (bit_at a.value) (λ i l. refl))

-- sums keep low bits
sum_low : (u w a b x : ℕ) → w ≤ u → a % 2 ^ w ≡ x % 2 ^ w → (a + b) % 2 ^ u % 2 ^ w ≡ (x + b) % 2 ^ w
sum_low u w a b x h e =
    mod_mod (a + b) w u h ∙ sym (mod-add-mod a (2 ^ w) b) ∙ ap (λ n. (n + b) % 2 ^ w) e ∙ mod-add-mod x (2 ^ w) b

-- a difference is a sum with what stands for minus the other
less : ℕ → ℕ
less b = (2 ^ MAX_WIDTH - b) % 2 ^ MAX_WIDTH

whole_less : (b : ℕ) → b < 2 ^ MAX_WIDTH → (less b + b) % 2 ^ MAX_WIDTH ≡ 0
unfolding less
whole_less b h =
    let e : 2 ^ MAX_WIDTH - b + b ≡ 0 + 2 ^ MAX_WIDTH = omega (arith, h) in
    mod-add-mod (2 ^ MAX_WIDTH - b) (2 ^ MAX_WIDTH) b ∙ ap (λ n. n % 2 ^ MAX_WIDTH) e ∙ add-mod_right 0 (2 ^ MAX_WIDTH)

difference_low : (x y : Word) (w : ℕ) → x.width ≡ y.width → x.width ≤ MAX_WIDTH → x.value < 2 ^ x.width → y.value < 2 ^ x.width → w ≤ x.width →
    (sub_of x y).value % 2 ^ w ≡ (x.value + (neg_of y).value) % 2 ^ w
unfolding less
difference_low x y w e h p q l =
    let small : y.value < 2 ^ MAX_WIDTH = below_max x.width y.value h q in
    let a : (x.value + (2 ^ MAX_WIDTH - y.value)) % 2 ^ MAX_WIDTH % 2 ^ x.width ≡ (sub_of x y).value = difference x.width x.value y.value h p q in
    let n : less y.value % 2 ^ x.width ≡ (int_word x.width (neg_ℤ (pos y.value))).value =
    negative x.width y.value (less y.value) h q (mod_below (2 ^ MAX_WIDTH - y.value) (2 ^ MAX_WIDTH) (pow_pos MAX_WIDTH)) (whole_less y.value small) in
    let m : less y.value % 2 ^ x.width ≡ (neg_of y).value = n ∙ ap (λ k. (int_word k (neg_ℤ (pos y.value))).value) e in
    let whole : (x.value + (2 ^ MAX_WIDTH - y.value)) % 2 ^ MAX_WIDTH ≡ (x.value + less y.value) % 2 ^ MAX_WIDTH = sym (add-mod-mod x.value (2 ^ MAX_WIDTH - y.value) (2 ^ MAX_WIDTH)) in
    ap (λ k. k % 2 ^ w) (sym a ∙ ap (λ k. k % 2 ^ x.width) whole ∙ mod_mod (x.value + less y.value) x.width MAX_WIDTH h)
    ∙ mod_mod (x.value + less y.value) w x.width l
    ∙ sym (add-mod-mod x.value (less y.value) (2 ^ w))
    ∙ ap (λ k. (x.value + k) % 2 ^ w) (sym (mod_mod (less y.value) w x.width l))
    ∙ add-mod-mod x.value (less y.value % 2 ^ x.width) (2 ^ w)
    ∙ ap (λ k. (x.value + k) % 2 ^ w) m

-- ---- a variable's value in expressions

-- a word of an expression's width, which isn't less than that of the variable, whose low bits are those of a number
record LowIs (w n : ℕ) (e : Expr) (x : Word) : Type 0 where
  is : IsWordOf (width e) x
  enough : w ≤ width e
  low : x.value % 2 ^ w ≡ n % 2 ^ w

low_of_sum : (w b x n : ℕ) → n % 2 ^ w ≡ x % 2 ^ w → (n + b) % 2 ^ w ≡ (x + b) % 2 ^ w
low_of_sum w b x n e = sym (mod-add-mod n (2 ^ w) b) ∙ ap (λ k. (k + b) % 2 ^ w) e ∙ mod-add-mod x (2 ^ w) b

-- a number kept to a width, where another is left alike
abbrev held : ℕ → ℕ → List Word
held w n = word w n ∷ []

same_word : (w a b : ℕ) → a % 2 ^ w ≡ b % 2 ^ w → word w a ≡ word w b
same_word w a b e = ap (λ n. record { width = w; value = n }) e

whole_select : (x : Word) (w : ℕ) → select_of x (pos 0) w ≡ word w x.value
whole_select x w = let e : x.value / 1 ≡ x.value = omega arith in select_number x 0 w ∙ ap (word w) e

one_more : (a k s : ℕ) → a + k * s + s ≡ a + suc k * s
one_more a k s = grind arith

-- the first number of which a test says no
first_no : (f : ℕ → Bool) (left n : ℕ) → ((j : ℕ) → j < n → f j ≡ true) → f (n + left) ≡ false → (m : ℕ) × ((j : ℕ) → j < m → f j ≡ true) × (f m ≡ false)
first_no f zero n all fails = (n, all, let e : n + 0 ≡ n = omega arith in subst (λ k. f k ≡ false) e fails)
first_no f (suc left) n all fails = go (f n) refl (λ more. first_no f left (suc n) more (let e : n + suc left ≡ suc n + left = omega arith in subst (λ k. f k ≡ false) e fails))
  where
    go : (b : Bool) → f n ≡ b → (((j : ℕ) → j < suc n → f j ≡ true) → (m : ℕ) × ((j : ℕ) → j < m → f j ≡ true) × (f m ≡ false)) → (m : ℕ) × ((j : ℕ) → j < m → f j ≡ true) × (f m ≡ false)
    go false e more = (n, all, e)
    go true e more = more below
      where
        below : (j : ℕ) → j < suc n → f j ≡ true
        below j h = pick (j == n) refl
          where
            pick : (b : Bool) → (j == n) ≡ b → f j ≡ true
            pick true i = subst (λ k. f k ≡ true) (sym (eqb→eq j n (subst T (sym i) tt))) e
            pick false i = all j (let k : j ≢ n = (λ q. let z : false ≡ true = sym i ∙ eq-eqb j n q in cc) in omega (arith, h, k))

-- of the numbers below a bound each that is asked for passes, or one doesn't
all_or_one : (asked f : ℕ → Bool) (m : ℕ) → ((x : ℕ) → x < m → asked x ≡ true → f x ≡ true) ⊎ ((x : ℕ) × (x < m) × (asked x ≡ true) × (f x ≡ false))
all_or_one asked f zero = inl (λ x h a. absurd (omega (arith, h)))
all_or_one asked f (suc m) = go (all_or_one asked f m) (asked m) refl (f m) refl
  where
    Found : ℕ → Type 0
    Found k = (x : ℕ) × (x < k) × (asked x ≡ true) × (f x ≡ false)

    at_top : (asked m ≡ true → f m ≡ true) → ((x : ℕ) → x < m → asked x ≡ true → f x ≡ true) → (x : ℕ) → x < suc m → asked x ≡ true → f x ≡ true
    at_top t all x h a = pick (x == m) refl
      where
        pick : (b : Bool) → (x == m) ≡ b → f x ≡ true
        pick true i = let e : x ≡ m = eqb→eq x m (subst T (sym i) tt) in subst (λ k. f k ≡ true) (sym e) (t (subst (λ k. asked k ≡ true) e a))
        pick false i = all x (let k : x ≢ m = (λ q. let z : false ≡ true = sym i ∙ eq-eqb x m q in cc) in omega (arith, h, k)) a

    go : ((x : ℕ) → x < m → asked x ≡ true → f x ≡ true) ⊎ Found m → (b : Bool) → asked m ≡ b → (c : Bool) → f m ≡ c → ((x : ℕ) → x < suc m → asked x ≡ true → f x ≡ true) ⊎ Found (suc m)
    go (inr k) b i c j = inr (k.0, let l = k.1 in omega (arith, l), k.2, k.3)
    go (inl all) b i true j = inl (at_top (λ a. j) all)
    go (inl all) false i false j = inl (at_top (λ a. let z : false ≡ true = sym i ∙ a in cc) all)
    go (inl all) true i false j = inr (m, omega arith, i, j)

module _ (d : Flat) (v : ℕ) (plain : IsPlainVariable d v (width_of d v)) where
  abbrev w : ℕ
  w = width_of d v

  -- a variable of that number has that width
  same_width : (u q : ℕ) → IsPlainVariable d u q → v ≡ u → w ≡ q
  same_width u q p e = sym plain.wide ∙ ap (λ x. x.width) (some_is plain.var p.var (sym plain.is ∙ ap (slice_get d.vars) e ∙ p.is)) ∙ p.wide

  longer : (x : Shape) (e : Expr) (n : ℕ) (y : Word) → is_kept x e ≡ true → LowIs w n e y → LowIs w n (Resize x e) (extend_of y x.width x.signed)
  longer x e n y k h =
      let wider : width e ≤ x.width = leb-true (width e) x.width k in
      let wide : y.width ≡ width e = h.is.0 in
      let enough : w ≤ width e = h.enough in
      record {
        is = extend_is y x.width x.signed;
        enough = omega (arith, wider, enough);
        low = extended_low y x.width w x.signed (omega (arith, wide, enough)) (omega (arith, wider, enough)) (extended-lt y x.signed) ∙ h.low;
      }

  module _ (s : Scene) (calls : s.call ≡ (fixed d).call) (n : ℕ) (holds : stored s.store v 0 w ≡ word w n) where
    abbrev Reads : ℕ → ℕ → Type 0
    Reads u q = IsWordOf q (stored s.store u 0 q) × (q ≡ w) × ((stored s.store u 0 q).value % 2 ^ w ≡ n % 2 ^ w)

    reads_own : Reads v w
    reads_own = (subst (IsWordOf w) (sym holds) (word_is w n), refl, ap (λ x. x.value % 2 ^ w) holds ∙ mod_mod n w w (omega arith))

    reads : (e : Expr) → is_variable v e ≡ true → IsWellMade d e → LowIs w n e (value d s e)
    reads (Variable x u) h m =
        let e : v ≡ u = sym (eqb→eq u v (subst T (sym h) tt)) in
        let q : w ≡ x.width = same_width u x.width (made_node d (Variable x u) m).1 e in
        let r : Reads u x.width = subst (λ k. Reads k x.width) e (subst (Reads v) q reads_own) in
        record { is = r.0; enough = let l = r.1 in omega (arith, l); low = r.2 }
    reads (Resize x e) h m = longer x e n (value d s e) (left_of (is_kept x e) (is_variable v e) h) (reads e (right_of (is_kept x e) (is_variable v e) h) (All-tail (IsNode d) (Resize x e) (nodes_of e) m))
    reads (Number x b) h m = cc
    reads (NetValue x k) h m = cc
    reads (MemoryWord x k i) h m = cc
    reads (Select x y r lsb) h m = cc
    reads (Unary x op y) h m = cc
    reads (Binary x op a b) h m = cc
    reads (Choice x y a b) h m = cc
    reads (Concat x es) h m = cc
    reads (Copies x k y) h m = cc
    reads (Sign x y) h m = cc
    reads (Call x f es) h m = cc

    advances : (x : Shape) (op : BinOp) (a b : Expr) → (is_advance op && is_variable v a && is_constant b) ≡ true → IsWellMade d (Binary x op a b) → LowIs w n a (value d s a) → IsWordOf (width b) (value d (fixed d) b) →
        value d s b ≡ value d (fixed d) b → LowIs w (n + step_of d (Binary x op a b)) (Binary x op a b) (value d s (Binary x op a b))
    advances x binary.Add a b h m l r e =
        let fits : (width a ≡ x.width) × (width b ≡ x.width) = (made_node d (Binary x binary.Add a b) m).1.0 in
        let wide : (value d s a).width ≡ x.width = l.is.0 ∙ fits.0 in
        let enough : w ≤ width a = l.enough in
        let same : width a ≡ x.width = fits.0 in
        record {
          is = subst (λ k. IsWordOf k (add_of (value d s a) (value d s b))) wide (word_is (value d s a).width ((value d s a).value + (value d s b).value));
          enough = omega (arith, enough, same);
          low =
              sum_low (value d s a).width w (value d s a).value (value d s b).value n (omega (arith, wide, enough, same)) l.low
              ∙ ap (λ y. (n + y.value) % 2 ^ w) e;
        }
    advances x binary.Sub a b h m l r e =
        let fits : (width a ≡ x.width) × (width b ≡ x.width) = (made_node d (Binary x binary.Sub a b) m).1.0 in
        let range : x.width ≤ MAX_WIDTH = (made_node d (Binary x binary.Sub a b) m).0.1 in
        let wide : (value d s a).width ≡ x.width = l.is.0 ∙ fits.0 in
        let other : (value d s b).width ≡ x.width = ap (λ y. y.width) e ∙ r.0 ∙ fits.1 in
        let enough : w ≤ width a = l.enough in
        let same : width a ≡ x.width = fits.0 in
        let a_below : (value d s a).value < 2 ^ (value d s a).width = subst (λ k. (value d s a).value < 2 ^ k) (sym l.is.0) l.is.1 in
        let b_below : (value d s b).value < 2 ^ (value d s a).width = subst (λ k. (value d s b).value < 2 ^ k) (fits.1 ∙ sym wide) (subst (λ y. y.value < 2 ^ width b) (sym e) r.1) in
        record {
          is = subst (λ k. IsWordOf k (sub_of (value d s a) (value d s b))) wide (int_word_is (value d s a).width (pos (value d s a).value -ℤ pos (value d s b).value));
          enough = omega (arith, enough, same);
          low =
              difference_low (value d s a) (value d s b) w (wide ∙ sym other) (omega (arith, wide, range)) a_below b_below (omega (arith, wide, enough, same))
              ∙ low_of_sum w (neg_of (value d s b)).value n (value d s a).value l.low
              ∙ ap (λ y. (n + (neg_of y).value) % 2 ^ w) e;
        }
    advances x op a b h m l r e = cc

    steps : (e : Expr) → is_step_of v e ≡ true → IsWellMade d e → LowIs w (n + step_of d e) e (value d s e)
    steps (Binary x op a b) h m =
        let below : All (IsNode d) (nodes_of a ++ nodes_of b) = All-tail (IsNode d) (Binary x op a b) (nodes_of a ++ nodes_of b) m in
        let ab : (is_advance op && is_variable v a) ≡ true = left_of (is_advance op && is_variable v a) (is_constant b) h in
        advances x op a b h m (reads a (right_of (is_advance op) (is_variable v a) ab) (all_left (IsNode d) (nodes_of a) (nodes_of b) below))
        (value_word d (fixed d) (empty_fits d, λ k net y i j. cc) b (all_right (IsNode d) (nodes_of a) (nodes_of b) below))
        (constant_same d s (fixed d) b calls (right_of (is_advance op && is_variable v a) (is_constant b) h))
    steps (Resize x e) h m = longer x e (n + step_of d e) (value d s e) (left_of (is_kept x e) (is_step_of v e) h) (steps e (right_of (is_kept x e) (is_step_of v e) h) (All-tail (IsNode d) (Resize x e) (nodes_of e) m))
    steps (Number x b) h m = cc
    steps (NetValue x k) h m = cc
    steps (Variable x u) h m = cc
    steps (MemoryWord x k i) h m = cc
    steps (Select x y r lsb) h m = cc
    steps (Unary x op y) h m = cc
    steps (Choice x y a b) h m = cc
    steps (Concat x es) h m = cc
    steps (Copies x k y) h m = cc
    steps (Sign x y) h m = cc
    steps (Call x f es) h m = cc

  -- ---- turns

  module _ (at : Place) (first test next : Expr) (body : Statement) (counted : IsCounted d v first test next body) (made : IsWellMade d next) where
    abbrev step : ℕ
    step = step_of d next

    abbrev start : ℕ
    start = first_of d first

    abbrev scene_at : ℕ → Scene
    scene_at k = record (fixed d) { store = turned d v first next k }

    next_word : (k : ℕ) → get_or (turned d v first next k) v [] ≡ held w (start + k * step) → LowIs w (start + k * step + step) next (value d (scene_at k) next)
    next_word k e = steps (scene_at k) refl (start + k * step) (ap (λ ws. get_or ws 0 (word w 0)) e) next counted.step_is made

    held_after : (k : ℕ) → get_or (turned d v first next k) v [] ≡ held w (start + k * step)
    held_after zero =
        takes_value d (fixed d) (empty_store d) v (value d (fixed d) first) (one_word d (empty_store d) v w (empty_shaped d) plain)
        ∙ ap (λ x. x ∷ []) (whole_select (value d (fixed d) first) w ∙ ap (word w) (let e : start ≡ start + 0 * step = omega arith in e))
    held_after (suc k) =
        takes_value d (scene_at k) (turned d v first next k) v (value d (scene_at k) next) (one_word d (turned d v first next k) v w (turned_shaped d v first next k) plain)
        ∙ ap (λ x. x ∷ [])
        (whole_select (value d (scene_at k) next) w
        ∙ same_word w (value d (scene_at k) next).value (start + suc k * step) ((next_word k (held_after k)).low ∙ ap (λ m. m % 2 ^ w) (one_more start k step)))

    holds_it : (x : ℕ) → get_or (holding d v x) v [] ≡ held w x
    holds_it x =
        takes_value d (fixed d) (empty_store d) v (word w x) (one_word d (empty_store d) v w (empty_shaped d) plain)
        ∙ ap (λ y. y ∷ []) (whole_select (word w x) w ∙ same_word w (x % 2 ^ w) x (mod_mod x w w (omega arith)))

    abbrev Only : ℕ → Type 0
    Only u = v ≡ u

    abbrev NoNet : ℕ → Type 0
    NoNet m = ⊥

    abbrev there : ℕ → Scene
    there k = record (fixed d) { store = holding d v (value_after w start step k) }

    same : (k : ℕ) → get_or (turned d v first next k) v [] ≡ get_or (holding d v (value_after w start step k)) v []
    same k = held_after k ∙ ap (λ x. x ∷ []) (same_word w (start + k * step) (value_after w start step k) (sym (mod_mod (start + k * step) w w (omega arith)))) ∙ sym (holds_it (value_after w start step k))

    agree : (k : ℕ) → Agree Only NoNet (scene_at k) (there k)
    agree k = record {
      calls = refl;
      words = λ u i. subst (λ u. get_or (turned d v first next k) u [] ≡ get_or (holding d v (value_after w start step k)) u []) i (same k);
      values = λ m x h. absurd h;
    }

    each_turn : (k : ℕ) → goes_on d v first test next k ≡ tests d v test (value_after w start step k)
    each_turn k = ap is_up (value_same Only NoNet d (scene_at k) (there k) (agree k) test (test_names v test counted.test_is))

    taken : (k : ℕ) → IsTaken d v first next (value_after w start step k)
    taken k = record { fits = mod_below (start + k * step) (2 ^ w) (pow_pos w); alike = (takes_all_alike w start step).only k }

    endless : ((x : ℕ) → IsTaken d v first next x → tests d v test x ≡ true) → IsEndlessFor d (For at v first test next body)
    endless f = endless_for counted (λ k. each_turn k ∙ f (value_after w start step k) (taken k))

    ends : (x : ℕ) → IsTaken d v first next x → tests d v test x ≡ false → Ends d (For at v first test next body)
    ends x t e =
        let k : (k : ℕ) × (value_after w start step k ≡ x) = (takes_all_alike w start step).each x t.fits t.alike in
        let fails : goes_on d v first test next k.0 ≡ false = each_turn k.0 ∙ ap (tests d v test) k.1 ∙ e in
        let i : 0 + k.0 ≡ k.0 = omega arith in
        let m = first_no (goes_on d v first test next) k.0 0 (λ j h. absurd (omega (arith, h))) (subst (λ q. goes_on d v first test next q ≡ false) (sym i) fails) in
        (m.0, of_for counted m.1 m.2)

    abbrev asked : ℕ → Bool
    asked x = (x % 2 ^ Rattle.std.specs.Int.Count.count_trailing_zeros w step) == (start % 2 ^ Rattle.std.specs.Int.Count.count_trailing_zeros w step)

    either : IsEndlessFor d (For at v first test next body) ⊎ Ends d (For at v first test next body)
    either = go (all_or_one asked (tests d v test) (2 ^ w))
      where
        go : ((x : ℕ) → x < 2 ^ w → asked x ≡ true → tests d v test x ≡ true) ⊎ ((x : ℕ) × (x < 2 ^ w) × (asked x ≡ true) × (tests d v test x ≡ false)) →
            IsEndlessFor d (For at v first test next body) ⊎ Ends d (For at v first test next body)
        go (inl f) = inl (endless (λ x t. f x t.fits (eq-eqb _ _ t.alike)))
        go (inr h) = inr (ends h.0 (record { fits = h.1; alike = eqb→eq _ _ (subst T (sym h.2) tt) }) h.3)

-- a variable at its declared width
declared_width : (d : Flat) (v w : ℕ) → IsPlainVariable d v w → IsPlainVariable d v (width_of d v)
declared_width d v w p =
    let e : width_of d v ≡ w = ap (λ o. unwrap_or (option_map (λ x. x.width) o) 0) p.is ∙ p.wide in
    record { var = p.var; is = p.is; plain = p.plain; wide = p.wide ∙ sym e }

pub ends_by_values : (d : Flat) (at : Place) (v : ℕ) (first test next : Expr) (body : Statement) → IsStatement d (For at v first test next body) → IsCounted d v first test next body → EndsByValues d at v first test next body
ends_by_values d at v first test next body s c =
    let plain : IsPlainVariable d v (width_of d v) = declared_width d v s.fits.0 s.fits.1 in
    let made : IsWellMade d next = (s.expressions 2 next (omega arith)).nodes in
    record {
      each_turn = each_turn d v plain at first test next body c made;
      endless = endless d v plain at first test next body c made;
      ends = ends d v plain at first test next body c made;
      either = either d v plain at first test next body c made;
    }
