-- What the rules say of loops, and how a counted loop's variable goes from turn to turn.
use Rattle.std.proofs.Common.{◌≡◌, ◌⊎◌, inl, inr, ℕ, zero, suc, ◌<◌, ◌≤◌, max, ◌&&◌, ◌||◌, Bool, true, false, List, [], ◌∷◌, ◌++◌, Some, None, Contains, slice_get, get_or, set, map, length, option_map, pos, refl, sym, ◌∙◌, ap, ap₂, subst, arith, length-set, get_or-set_same, eqb→eq, T}
use Rattle.std.proofs.Math.Seq.{map-set_same}
use Rattle.std.proofs.lemmas.Option.{slice_get-map}
use Rattle.xt_bits.specs.Word.{Word, word}
use Rattle.xt_bits.specs.Operators.{select_of, eq_of}
use Rattle.el_design.specs.declared.designs.Var.{Var}
use Rattle.el_design.specs.declared.expressions.BinOp.{BinOp}
use Rattle.el_design.specs.Plain.{Shape, Expr, Number, NetValue, Variable, MemoryWord, Select, Unary, Binary, Choice, Concat, Copies, Sign, Resize, Call, ToVariable, Statement, Arm, FlatProc, Flat}
use Rattle.el_design.specs.Store.{Store, Write, width_of, empty_store, put_write, put_all, spot_variable}
use Rattle.el_design.specs.Value.{Scene, value, is_up}
use Rattle.el_design.specs.Function.{call_of}
use Rattle.std.specs.List.{list_all}
use Rattle.std.proofs.lemmas.List.Folds.{list_all-append}
use Rattle.el_design.specs.Assign.{writes_of, has_label, count_of}
use Rattle.el_design.specs.Names.{nodes_of, is_constant, is_fixed, labels_in}
use Rattle.el_design.specs.Stack.{Work, below_mark}
use Rattle.el_design.specs.InPlace.{Meets, LoopAt, loop_of_process}
use Rattle.el_design.specs.Turns.{fixed, is_kept, is_variable, is_relation, is_advance, is_test_of, is_step_of, turned, goes_on, HasTurns, IsEndlessFor, body_of}
use Rattle.el_design.specs.Walk.{MayGo, HasWalk, IsUnrolled, is_constant_case}
use Rattle.el_design.specs.Sizes.{CountsTurns}
use Rattle.el_design.specs.Rules.{max_turns, most_turns, loop_spins, always_spins, too_many, without_end, spins, turns, IsClean}
use Rattle.el_design.specs.Sound.{IsPlainVariable}
use Rattle.el_design.specs.Alone.{Doing, Setting, seen, stepped, is_tested}
use Rattle.el_design.proofs.OrderLists.{con_nil, con_all, con_cases}
use Rattle.el_design.proofs.OrderFoot.{Names, NamesAll, Agree, value_same, constant_same}
use Rattle.el_design.proofs.OrderWalk.{Surely, IsConstantLoop, Leaves}
pub use Rattle.el_design.proofs.Bounds.{split}
use Rattle.el_design.proofs.Bounds.{no_bound_of}

-- ---- numbers

-- an order of numbers that can't but hold, holds
pub stable : (a b : ℕ) → Surely (a ≤ b) → a ≤ b
stable a b s = go (split a b)
  where
    go : (a ≤ b) ⊎ (b < a) → a ≤ b
    go (inl h) = h
    go (inr h) = absurd (s (λ g. omega arith))

-- ---- rules

-- the marks that are open round a statement are open in the stack below it
abbrev pub Opens : List ℕ → List Work → Type 0
Opens marks below = (m : ℕ) → Contains marks m → below_mark m below ≡ None → ⊥

pub walked : (d : Flat) (marks : List ℕ) (below : List Work) (body : Statement) → Opens marks below → Leaves d below body None → Surely (HasWalk d marks body)
walked d marks below body o v = v marks [] [] (λ m e. (refl, λ c. o m c e)) refl

module _ (d : Flat) (clean : IsClean d) where
  -- a loop of which the body may be walked through is constant
  pub spins_not : {p : ℕ} {marks : List ℕ} {x body : Statement} → Meets d p marks x → body_of x ≡ Some body → HasWalk d marks body → Surely (IsConstantLoop d x)
  spins_not m b w n = clean 12 61 _ (spins (loop_spins (loop_of_process m) b (no_bound_of d n) w))

  pub few_turns : {p n : ℕ} {marks : List ℕ} {x body : Statement} → Meets d p marks x → body_of x ≡ Some body → HasTurns d x n → HasWalk d marks body → n ≤ max_turns
  few_turns {n = n} m b t w = go (split n max_turns)
    where
      go : (n ≤ max_turns) ⊎ (max_turns < n) → n ≤ max_turns
      go (inl h) = h
      go (inr h) = absurd (clean 12 83 _ (turns (too_many (loop_of_process m) b t h w)))

  pub no_end : {p : ℕ} {marks : List ℕ} {x body : Statement} → Meets d p marks x → body_of x ≡ Some body → IsEndlessFor d x → HasWalk d marks body → ⊥
  no_end m b e w = clean 12 83 _ (turns (without_end (loop_of_process m) b e w))

  pub always_waits : {process : FlatProc} → Contains d.procs process → process.always ≡ true → HasWalk d [] process.body → ⊥
  always_waits c a w = clean 12 61 _ (spins (always_spins c a w))

-- ---- tests and counts

pub scenes : (d : Flat) (nets : List Word) (store : Store) → Scene
scenes d nets store = record { call = call_of d; nets = nets; store = store }

pub tested_way : (c : Setting) (x : Doing) (test : Expr) (way : Bool) → is_tested c test x ≡ way → MayGo c.design test way
tested_way c x test way e k = ap is_up (constant_same c.design (fixed c.design) (seen c x) test refl k) ∙ e

pub counted_turns : (c : Setting) (x : Doing) (count : Expr) → is_constant count ≡ true → count_of c.design (seen c x) count ≡ count_of c.design (fixed c.design) count
counted_turns c x count k = ap (λ w. Rattle.el_design.specs.Assign.natural (Rattle.xt_bits.specs.Word.integer_of w (Rattle.el_design.specs.Value.is_signed count))) (constant_same c.design (seen c x) (fixed c.design) count refl k)

-- ---- the variable of a counted loop

abbrev Only : ℕ → ℕ → Type 0
Only v u = v ≡ u

abbrev NoNet : ℕ → Type 0
NoNet n = ⊥

and_left : (a b : Bool) → (a && b) ≡ true → a ≡ true
and_left true b e = refl
and_left false b e = cc

and_right : (a b : Bool) → (a && b) ≡ true → b ≡ true
and_right true b e = e
and_right false b e = cc

fixed_only : (v : ℕ) (e : Expr) → is_constant e ≡ true → NamesAll (Only v) NoNet (nodes_of e)
fixed_only v e k x c = go x (con_all is_fixed (nodes_of e) x k c)
  where
    go : (x : Expr) → is_fixed x ≡ true → Names (Only v) NoNet x
    go (NetValue s n) h = cc
    go (Variable s n) h = cc
    go (MemoryWord s n i) h = cc
    go (Number s b) h = tt
    go (Select s y r lsb) h = tt
    go (Unary s op y) h = tt
    go (Binary s op a b) h = tt
    go (Choice s y a b) h = tt
    go (Concat s es) h = tt
    go (Copies s n y) h = tt
    go (Sign s y) h = tt
    go (Resize s y) h = tt
    go (Call s f es) h = tt

under : (v : ℕ) (y : Expr) (es : List Expr) → Names (Only v) NoNet y → NamesAll (Only v) NoNet es → NamesAll (Only v) NoNet (y ∷ es)
under v y es n h x c = go (con_cases y x es c)
  where
    go : (y ≡ x) ⊎ Contains es x → Names (Only v) NoNet x
    go (inl e) = subst (Names (Only v) NoNet) e n
    go (inr k) = h x k

joined_names : (v : ℕ) (xs ys : List Expr) → NamesAll (Only v) NoNet xs → NamesAll (Only v) NoNet ys → NamesAll (Only v) NoNet (xs ++ ys)
joined_names v xs ys h k x c = go (Rattle.std.proofs.lemmas.List.Elements.Contains-append_cases xs ys x c)
  where
    go : Contains xs x ⊎ Contains ys x → Names (Only v) NoNet x
    go (inl a) = h x a
    go (inr b) = k x b

no_names : (v : ℕ) → NamesAll (Only v) NoNet []
no_names v x c = absurd (con_nil x c)

variable_names : (v : ℕ) (e : Expr) → is_variable v e ≡ true → NamesAll (Only v) NoNet (nodes_of e)
variable_names v (Variable s w) h = under v (Variable s w) [] (sym (eqb→eq w v (subst T (sym h) tt))) (no_names v)
variable_names v (Resize s e) h = under v (Resize s e) (nodes_of e) tt (variable_names v e (and_right (is_kept s e) (is_variable v e) h))
variable_names v (Number s b) h = cc
variable_names v (NetValue s n) h = cc
variable_names v (MemoryWord s n i) h = cc
variable_names v (Select s y r lsb) h = cc
variable_names v (Unary s op y) h = cc
variable_names v (Binary s op a b) h = cc
variable_names v (Choice s y a b) h = cc
variable_names v (Concat s es) h = cc
variable_names v (Copies s n y) h = cc
variable_names v (Sign s y) h = cc
variable_names v (Call s f es) h = cc

binary_names : (v : ℕ) (s : Shape) (op : BinOp) (a b : Expr) (t : Bool) → (t && is_variable v a && is_constant b) ≡ true → NamesAll (Only v) NoNet (nodes_of (Binary s op a b))
binary_names v s op a b t h =
    under v (Binary s op a b) (nodes_of a ++ nodes_of b) tt
    (joined_names v (nodes_of a) (nodes_of b) (variable_names v a (and_right t (is_variable v a) (and_left (t && is_variable v a) (is_constant b) h))) (fixed_only v b (and_right (t && is_variable v a) (is_constant b) h)))

pub test_names : (v : ℕ) (e : Expr) → is_test_of v e ≡ true → NamesAll (Only v) NoNet (nodes_of e)
test_names v (Binary s op a b) h = binary_names v s op a b (is_relation op) h
test_names v (Resize s e) h = under v (Resize s e) (nodes_of e) tt (test_names v e h)
test_names v (Variable s w) h = cc
test_names v (Number s b) h = cc
test_names v (NetValue s n) h = cc
test_names v (MemoryWord s n i) h = cc
test_names v (Select s y r lsb) h = cc
test_names v (Unary s op y) h = cc
test_names v (Choice s y a b) h = cc
test_names v (Concat s es) h = cc
test_names v (Copies s n y) h = cc
test_names v (Sign s y) h = cc
test_names v (Call s f es) h = cc

pub step_names : (v : ℕ) (e : Expr) → is_step_of v e ≡ true → NamesAll (Only v) NoNet (nodes_of e)
step_names v (Binary s op a b) h = binary_names v s op a b (is_advance op) h
step_names v (Resize s e) h = under v (Resize s e) (nodes_of e) tt (step_names v e (and_right (is_kept s e) (is_step_of v e) h))
step_names v (Variable s w) h = cc
step_names v (Number s b) h = cc
step_names v (NetValue s n) h = cc
step_names v (MemoryWord s n i) h = cc
step_names v (Select s y r lsb) h = cc
step_names v (Unary s op y) h = cc
step_names v (Choice s y a b) h = cc
step_names v (Concat s es) h = cc
step_names v (Copies s n y) h = cc
step_names v (Sign s y) h = cc
step_names v (Call s f es) h = cc

-- ---- stores keep their shape

abbrev pub IsShaped : Flat → Store → Type 0
IsShaped d store = map length store ≡ map (λ x. max 1 x.words) d.vars

pub shaped_write : (store : Store) (w : Write) → map length (put_write store w) ≡ map length store
shaped_write store w = map-set_same length store (spot_variable w.spot) _ [] (length-set (get_or store (spot_variable w.spot) []) _ _)

pub shaped_all : (store : Store) (ws : List Write) → map length (put_all store ws) ≡ map length store
shaped_all store [] = refl
shaped_all store (w ∷ ws) = shaped_all (put_write store w) ws ∙ shaped_write store w

pub record OneWord (store : Store) (v : ℕ) : Type 0 where
  pub there : v < length store
  pub single : length (get_or store v []) ≡ 1

one_word_at : (xs : List (List Word)) (v n : ℕ) → slice_get (map length xs) v ≡ Some n → (v < length xs) × (length (get_or xs v []) ≡ n)
one_word_at [] v n e = cc
one_word_at (x ∷ xs) zero n e = (omega arith, some_is (length x) n e)
  where
    some_is : (a b : ℕ) → Some a ≡ Some b → a ≡ b
    some_is a b e = cc
one_word_at (x ∷ xs) (suc v) n e = let h : (v < length xs) × (length (get_or xs v []) ≡ n) = one_word_at xs v n e in (let g : v < length xs = h.0 in omega arith, h.1)

pub one_word : (d : Flat) (store : Store) (v w : ℕ) → IsShaped d store → IsPlainVariable d v w → OneWord store v
one_word d store v w s p =
    let e : slice_get (map length store) v ≡ Some 1 = ap (λ xs. slice_get xs v) s ∙ slice_get-map (λ x. max 1 x.words) d.vars v ∙ ap (option_map (λ x. max 1 x.words)) p.is ∙ ap (λ n. Some (max 1 n)) p.plain in
    let h : (v < length store) × (length (get_or store v []) ≡ 1) = one_word_at store v 1 e in
    record { there = h.0; single = h.1 }

set_only : (ws : List Word) (b : Word) → length ws ≡ 1 → set ws 0 b ≡ b ∷ []
set_only [] b e = absurd (omega arith)
set_only (a ∷ []) b e = refl
set_only (a ∷ c ∷ ws) b e = absurd (omega arith)

-- a whole variable takes a value
pub takes_value : (d : Flat) (s : Scene) (store : Store) (v : ℕ) (x : Word) → OneWord store v →
    get_or (put_all store (writes_of d s (ToVariable v) x)) v [] ≡ select_of x (pos 0) (width_of d v) ∷ []
takes_value d s store v x o = get_or-set_same store v _ [] o.there ∙ set_only (get_or store v []) _ o.single

pub empty_shaped : (d : Flat) → IsShaped d (empty_store d)
empty_shaped d = go d.vars
  where
    go : (vs : List Var) → map length (map (λ v. Rattle.std.specs.Prelude.replicate (max 1 v.words) (word v.width 0)) vs) ≡ map (λ x. max 1 x.words) vs
    go [] = refl
    go (v ∷ vs) = ap₂ (λ a b. a ∷ b) (Rattle.std.proofs.lemmas.List.length-replicate _ _) (go vs)

pub turned_shaped : (d : Flat) (v : ℕ) (first next : Expr) (n : ℕ) → IsShaped d (turned d v first next n)
turned_shaped d v first next zero = shaped_all (empty_store d) (writes_of d (fixed d) (ToVariable v) (value d (fixed d) first)) ∙ empty_shaped d
turned_shaped d v first next (suc n) = let s : Scene = record (fixed d) { store = turned d v first next n } in
    shaped_all (turned d v first next n) (writes_of d s (ToVariable v) (value d s next)) ∙ turned_shaped d v first next n

only_agree : (d : Flat) (v : ℕ) (s t : Scene) → s.call ≡ t.call → get_or s.store v [] ≡ get_or t.store v [] → Agree (Only v) NoNet s t
only_agree d v s t c e = record { calls = c; words = λ u i. subst (λ u. get_or s.store u [] ≡ get_or t.store u []) i e; values = λ n w x. absurd x }

-- the first assignment of a counted loop gives its variable the value of turn 0
pub turn_first : (c : Setting) (x : Doing) (v w : ℕ) (first next : Expr) → IsShaped c.design x.store → IsPlainVariable c.design v w → is_constant first ≡ true →
    get_or (stepped c v first x).store v [] ≡ get_or (turned c.design v first next 0) v []
turn_first c x v w first next s p k =
    takes_value c.design (seen c x) x.store v _ (one_word c.design x.store v w s p)
    ∙ ap (λ y. select_of y (pos 0) (width_of c.design v) ∷ []) (constant_same c.design (seen c x) (fixed c.design) first refl k)
    ∙ sym (takes_value c.design (fixed c.design) (empty_store c.design) v _ (one_word c.design (empty_store c.design) v w (empty_shaped c.design) p))

-- its step leads from turn to turn
pub turn_next : (c : Setting) (x : Doing) (v w j : ℕ) (first next : Expr) → IsShaped c.design x.store → IsPlainVariable c.design v w → is_step_of v next ≡ true →
    get_or x.store v [] ≡ get_or (turned c.design v first next j) v [] → get_or (stepped c v next x).store v [] ≡ get_or (turned c.design v first next (suc j)) v []
turn_next c x v w j first next s p k e =
    takes_value c.design (seen c x) x.store v _ (one_word c.design x.store v w s p)
    ∙ ap (λ y. select_of y (pos 0) (width_of c.design v) ∷ [])
    (value_same (Only v) NoNet c.design (seen c x) (record (fixed c.design) { store = turned c.design v first next j }) (only_agree c.design v _ _ refl e) next (step_names v next k))
    ∙ sym (takes_value c.design (record (fixed c.design) { store = turned c.design v first next j }) (turned c.design v first next j) v _ (one_word c.design (turned c.design v first next j) v w (turned_shaped c.design v first next j) p))

-- and its test is that of the turn
pub turn_test : (c : Setting) (x : Doing) (v j : ℕ) (first test next : Expr) → is_test_of v test ≡ true →
    get_or x.store v [] ≡ get_or (turned c.design v first next j) v [] → is_tested c test x ≡ goes_on c.design v first test next j
turn_test c x v j first test next k e =
    ap is_up (value_same (Only v) NoNet c.design (seen c x) (record (fixed c.design) { store = turned c.design v first next j }) (only_agree c.design v _ _ refl e) test (test_names v test k))

-- ---- the choice of a `case`

labels_same : (d : Flat) (s t : Scene) (on : Expr) (labels : List Expr) → s.call ≡ t.call → is_constant on ≡ true → list_all is_constant labels ≡ true → has_label d s on labels ≡ has_label d t on labels
labels_same d s t on [] c e f = refl
labels_same d s t on (l ∷ ls) c e f =
    ap₂ (λ a b. a || b) (ap₂ (λ a b. eq_of a b) (constant_same d s t on c e) (constant_same d s t l c (and_left (is_constant l) (list_all is_constant ls) f)))
    (labels_same d s t on ls c e (and_right (is_constant l) (list_all is_constant ls) f))

-- a constant choice is the one that is made
pub label_way : (d : Flat) (s : Scene) → s.call ≡ call_of d → (on by : Expr) (labels : List Expr) (body others : Statement) (way : Bool) → by ≡ on → has_label d s by labels ≡ way →
    is_constant_case on (Arm by labels body others) ≡ true → (has_label d (fixed d) by labels ≡ way) × (is_constant_case on others ≡ true)
label_way d s calls on by labels body others way e f k =
    let a : is_constant on ≡ true = and_left (is_constant on) (list_all is_constant (labels ++ labels_in others)) k in
    let b : (list_all is_constant labels && list_all is_constant (labels_in others)) ≡ true =
    sym (list_all-append is_constant labels (labels_in others)) ∙ and_right (is_constant on) (list_all is_constant (labels ++ labels_in others)) k in (
      labels_same d (fixed d) s by labels (sym calls) (subst (λ q. is_constant q ≡ true) (sym e) a) (and_left (list_all is_constant labels) (list_all is_constant (labels_in others)) b) ∙ f,
      ap₂ (λ p q. p && q) a (and_right (list_all is_constant labels) (list_all is_constant (labels_in others)) b),
    )

-- ---- how often loops count

-- at a place that a process meets each loop counts at least once, and one that is unrolled there, once more than it has turns
pub record CountsEnough (d : Flat) (times : List ℕ → Statement → ℕ) : Type 0 where
  pub once : {p : ℕ} (marks : List ℕ) (s : Statement) → Meets d p marks s → 1 ≤ times marks s
  pub unrolled : {p : ℕ} (marks : List ℕ) (s : Statement) (n : ℕ) → Meets d p marks s → IsUnrolled d marks s n → suc n ≤ times marks s

pub counts_enough : (d : Flat) (times : List ℕ → Statement → ℕ) → CountsTurns d times → CountsEnough d times
counts_enough d times c = record {
  once = λ marks s m. stable 1 (times marks s) (λ n. n (some marks s (loop_of_process m) n));
  unrolled = λ marks s n m u. let e : times marks s ≡ suc n = c.unrolled marks s n (loop_of_process m) u in omega arith;
}
  where
    some : (marks : List ℕ) (s : Statement) → LoopAt d marks s → (1 ≤ times marks s → ⊥) → 1 ≤ times marks s
    some marks s l n = let e : times marks s ≡ 1 = c.others marks s l (λ k u. n (let e : times marks s ≡ suc k = c.unrolled marks s k l u in omega arith)) in omega arith

-- as often as a loop may take turns is enough
pub most_enough : (d : Flat) → IsClean d → CountsEnough d most_turns
most_enough d clean = record {
  once = λ marks s m. omega arith;
  unrolled = λ marks s n m u. let h : n ≤ max_turns = few_turns d clean m u.body_is u.turns_are u.walk in omega arith;
}
