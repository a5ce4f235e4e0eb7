-- The bodies of functions of a design that breaks no rule end.
use Rattle.std.proofs.Common.{◌≡◌, ◌⊎◌, inl, inr, ℕ, zero, suc, ◌+◌, ◌-◌, ◌<◌, ◌≤◌, ◌^◌, ◌%◌, ◌/◌, not, Bool, true, false, if◌then◌else◌, List, [], ◌∷◌, ◌++◌, Option, Some, None, Contains, get_or, fold, zip, map, length, refl, sym, ◌∙◌, ap, subst, arith}
use Rattle.std.proofs.Math.Nat.{mod-lt}
use Rattle.std.proofs.lemmas.Nat.{pow_pos}
use Rattle.std.proofs.Math.Seq.{map-set_same}
use Rattle.std.proofs.lemmas.List.Elements.{Contains-append_left, Contains-append_right, All-contains}
use Rattle.xt_base.specs.declared.refusals.Place.{Place}
use Rattle.xt_bits.specs.Word.{Word, word}
use Rattle.xt_bits.proofs.Readings.{select_number}
use Rattle.el_design.specs.Plain.{Expr, ToVariable, Statement, Null, Skip, Seq, Block, Assign, If, Case, Arm, For, While, Repeat, Forever, Wait, Enable, Disable, Host, Flat}
use Rattle.el_design.specs.Store.{Store, Write, width_of, put_all, empty_store}
use Rattle.el_design.specs.Value.{value, is_up}
use Rattle.el_design.specs.Assign.{writes_of, has_label, count_of}
use Rattle.el_design.specs.Function.{times, while_up, body_scene, assigned, body_store, bound, call_of}
use Rattle.el_design.specs.Names.{is_constant, target_variables}
use Rattle.el_design.specs.Purity.{is_foreign, variables_of}
use Rattle.el_design.specs.InPlace.{Stands, itself, in_first, in_rest, in_block, in_named, in_then, in_else, in_case, in_arm, in_others, in_for, in_while, in_repeat, in_forever, LoopAt, loop_of_function}
use Rattle.el_design.specs.Turns.{fixed, holds, stored_by, turned, goes_on, IsFreeOf, IsCounted, HasBound, bound_repeat, bound_while, body_of}
use Rattle.el_design.specs.Walk.{is_constant_case, HasWalk}
use Rattle.el_design.specs.Calls.{foreign, in_function}
use Rattle.el_design.specs.Rules.{max_turns, loop_spins, too_many, without_end, spins, turns, impure, disables, recursive, IsClean, IsCleanBefore}
use Rattle.el_design.specs.Sound.{IsPlainVariable, IsStatement, arms_fit, IsSound}
use Rattle.el_design.specs.Bodies.{EndsWithin, Turns, Ends, FunctionsEnd}
use Rattle.el_design.specs.Alone.{Doing, Setting, setting}
use Rattle.el_design.proofs.Texts.{free_met}
use Rattle.el_design.proofs.OrderFoot.{constant_same}
use Rattle.el_design.proofs.OrderRule.{split, IsShaped, shaped_all, empty_shaped, one_word, takes_value, turned_shaped, turn_first, turn_next, turn_test}
use Rattle.el_design.proofs.Bounds.{Surely, IsConstantLoop, constant_for}
use Rattle.el_design.proofs.OrderWrites.{WritesIn, writes_in, kept_all}
use Rattle.el_design.proofs.OrderSane.{In}
use Rattle.el_design.proofs.OrderDepth.{Apart, Below, few}
use Rattle.el_design.proofs.OrderPlaces.{con_got, con_map}
use Rattle.el_design.proofs.OrderLists.{con_head, con_nil, con_cases}
use Rattle.el_design.proofs.Ways.{Ways, Past, is_zero, turning, repeating, fors, may, Mode, Lone, Any, Fixed, mode_of, all_ways}
use Rattle.el_design.proofs.WaysPuts.{first_of, second_of, left_of, right_of, both_are, true_or_false, clash, is_counted}
use Rattle.el_design.proofs.WaysFound.{go_may, loops, free_for, for_is, walk_found}
use Rattle.el_design.proofs.WaysBack.{choose_first, choose_second}
use Rattle.el_design.specs.Loops.{first_off}
use Rattle.el_design.proofs.Counts.{IsOff, Finds, finds, in_text}

lone : (v u : ℕ) → Contains (v ∷ []) u → v ≡ u
lone v u c = go (con_cases v u [] c)
  where
    go : (v ≡ u) ⊎ Contains [] u → v ≡ u
    go (inl e) = e
    go (inr k) = absurd (con_nil u k)

-- ---- what a body's store keeps

times_keeps : (P : Store → Type 0) (turn : Store → Store) → ((st : Store) → P st → P (turn st)) → (n : ℕ) (st : Store) → P st → P (times n turn st)
times_keeps P turn f zero st h = h
times_keeps P turn f (suc n) st h = times_keeps P turn f n (turn st) (f st h)

while_keeps : (P : Store → Type 0) (test : Store → Bool) (turn : Store → Store) → ((st : Store) → P st → P (turn st)) → (n : ℕ) (st : Store) → P st → P (while_up n test turn st)
while_keeps P test turn f zero st h = h
while_keeps P test turn f (suc n) st h = go (test st) (while_keeps P test turn f n (turn st) (f st h))
  where
    go : (b : Bool) → P (while_up n test turn (turn st)) → P (elim b [ true ↦ while_up n test turn (turn st) | false ↦ st ])
    go true k = k
    go false k = h

one_keeps : (P : Store → Type 0) (b : Bool) (x y : Store) → P x → P y → P (if b then x else y)
one_keeps P true x y h k = h
one_keeps P false x y h k = k

module _ (d : Flat) (A : ℕ → Type 0) (P : Store → Type 0) (writes : (st : Store) (ws : List Write) → WritesIn A ws → P st → P (put_all st ws)) where
  assigned_keeps : (v : ℕ) (e : Expr) → A v → (st : Store) → P st → P (assigned d (call_of d) v e st)
  assigned_keeps v e a st h =
      writes st (writes_of d (body_scene (call_of d) st) (ToVariable v) (value d (body_scene (call_of d) st) e))
      (writes_in A d (body_scene (call_of d) st) (ToVariable v) (value d (body_scene (call_of d) st) e) (λ u c. subst A (lone v u c) a)) h

  keeps : (marks : List ℕ) (s : Statement) → ((o : List ℕ) (x : Statement) → Stands d.tasks marks s o x → (v : ℕ) → Contains (stored_by d x) v → A v) →
      (st : Store) → P st → P (body_store d (call_of d) s st)
  keeps marks Null f st h = h
  keeps marks Skip f st h = h
  keeps marks (Seq a b) f st h =
      keeps marks b (λ o x k. f o x (in_rest k)) (body_store d (call_of d) a st) (keeps marks a (λ o x k. f o x (in_first k)) st h)
  keeps marks (Block at None body) f st h = keeps marks body (λ o x k. f o x (in_block k)) st h
  keeps marks (Block at (Some m) body) f st h = keeps (m ∷ marks) body (λ o x k. f o x (in_named k)) st h
  keeps marks (Assign at to e held) f st h =
      writes st (writes_of d (body_scene (call_of d) st) to (value d (body_scene (call_of d) st) e))
      (writes_in A d (body_scene (call_of d) st) to (value d (body_scene (call_of d) st) e) (λ v c. f marks (Assign at to e held) itself v (Contains-append_left (target_variables to) [] v c))) h
  keeps marks (If at test a b) f st h =
      one_keeps P (is_up (value d (body_scene (call_of d) st) test)) _ _ (keeps marks a (λ o x k. f o x (in_then k)) st h) (keeps marks b (λ o x k. f o x (in_else k)) st h)
  keeps marks (Case at on arms) f st h = keeps marks arms (λ o x k. f o x (in_case k)) st h
  keeps marks (Arm on labels body others) f st h =
      one_keeps P (has_label d (body_scene (call_of d) st) on labels) _ _ (keeps marks body (λ o x k. f o x (in_arm k)) st h) (keeps marks others (λ o x k. f o x (in_others k)) st h)
  keeps marks (For at v first test next body) f st h =
      while_keeps P (λ q. is_up (value d (body_scene (call_of d) q) test)) (λ q. assigned d (call_of d) v next (body_store d (call_of d) body q))
      (λ q k. assigned_keeps v next (f marks (For at v first test next body) itself v (con_head v [])) (body_store d (call_of d) body q) (keeps marks body (λ o x i. f o x (in_for i)) q k))
      (2 ^ width_of d v) (assigned d (call_of d) v first st) (assigned_keeps v first (f marks (For at v first test next body) itself v (con_head v [])) st h)
  keeps marks (While at test body) f st h = h
  keeps marks (Repeat at count body) f st h =
      times_keeps P (body_store d (call_of d) body) (λ q k. keeps marks body (λ o x i. f o x (in_repeat i)) q k) (count_of d (body_scene (call_of d) st) count) st h
  keeps marks (Forever at body) f st h = h
  keeps marks (Wait at falling) f st h = h
  keeps marks (Enable at t ins outs) f st h = h
  keeps marks (Disable at m) f st h = h
  keeps marks (Host at g ins result outs) f st h = h

abbrev plus : ℕ → ℕ → ℕ
plus zero i = i
plus (suc t) i = suc (plus t i)

plus_is : (t i : ℕ) → plus t i ≡ t + i
plus_is zero i = omega arith
plus_is (suc t) i = let e : plus t i ≡ t + i = plus_is t i in omega arith

-- ---- the turns of a counted loop are no more than its variable has values

module _ (d : Flat) (v w : ℕ) (first test next : Expr) (plain : IsPlainVariable d v w) (body : Statement) (counted : IsCounted d v first test next body) where
  abbrev words : ℕ → List Word
  words n = get_or (turned d v first next n) v []

  abbrev number : ℕ → ℕ
  number n = (get_or (words n) 0 (word 1 0)).value

  -- its words after so many turns
  a_word : (n : ℕ) → (x : ℕ) × (words n ≡ word (width_of d v) x ∷ [])
  a_word zero =
      let x : Word = value d (fixed d) first in
      (x.value / 2 ^ 0, takes_value d (fixed d) (empty_store d) v x (one_word d (empty_store d) v w (empty_shaped d) plain) ∙ ap (λ y. y ∷ []) (select_number x 0 (width_of d v)))
  a_word (suc n) =
      let x : Word = value d (record (fixed d) { store = turned d v first next n }) next in (
        x.value / 2 ^ 0,
        takes_value d (record (fixed d) { store = turned d v first next n }) (turned d v first next n) v x (one_word d (turned d v first next n) v w (turned_shaped d v first next n) plain)
            ∙ ap (λ y. y ∷ []) (select_number x 0 (width_of d v)),
      )

  number_is : (n x : ℕ) → words n ≡ word (width_of d v) x ∷ [] → number n ≡ x % 2 ^ width_of d v
  number_is n x e = ap (λ l. (get_or l 0 (word 1 0)).value) e

  number_below : (n : ℕ) → number n < 2 ^ width_of d v
  number_below n = let x : (x : ℕ) × (words n ≡ word (width_of d v) x ∷ []) = a_word n in subst (λ m. m < 2 ^ width_of d v) (sym (number_is n x.0 x.1)) (mod-lt x.0 (pow_pos (width_of d v)))

  number_words : (n : ℕ) → words n ≡ record { width = width_of d v; value = number n } ∷ []
  number_words n = let x : (x : ℕ) × (words n ≡ word (width_of d v) x ∷ []) = a_word n in x.1 ∙ ap (λ m. record { width = width_of d v; value = m } ∷ []) (sym (number_is n x.0 x.1))

  a_setting : Setting
  a_setting = setting d [] 0 0

  abbrev at_store : Store → Doing
  at_store st = record { store = st; updates = []; replies = []; calls = []; delays = []; events = 0 }

  -- where two turns begin alike, so do those after them
  alike : (i j t : ℕ) → words i ≡ words j → words (plus t i) ≡ words (plus t j)
  unfolding a_setting
  alike i j zero e = e
  alike i j (suc t) e =
      turn_next a_setting (at_store (turned d v first next (plus t i))) v w (plus t j) first next (turned_shaped d v first next (plus t i)) plain counted.step_is (alike i j t e)

  same_test : (i j : ℕ) → words i ≡ words j → goes_on d v first test next i ≡ goes_on d v first test next j
  unfolding a_setting
  same_test i j e = turn_test a_setting (at_store (turned d v first next i)) v j first test next counted.test_is e

  abbrev numbers : ℕ → List ℕ
  numbers zero = number 0 ∷ []
  numbers (suc n) = number (suc n) ∷ numbers n

  among : (m n : ℕ) → In m (numbers n) → (i : ℕ) × (i ≤ n) × (number i ≡ m)
  among m zero (inl e) = (0, omega arith, e)
  among m zero (inr k) = elim k [ ]
  among m (suc n) (inl e) = (suc n, omega arith, e)
  among m (suc n) (inr k) = let x : (i : ℕ) × (i ≤ n) × (number i ≡ m) = among m n k in (x.0, (let l : x.0 ≤ n = x.1 in omega arith), x.2)

  below_all : (n : ℕ) → Below (2 ^ width_of d v) (numbers n)
  below_all zero = (number_below 0, tt)
  below_all (suc n) = (number_below (suc n), below_all n)

  size_of_numbers : (n : ℕ) → length (numbers n) ≡ suc n
  size_of_numbers zero = refl
  size_of_numbers (suc n) = ap suc (size_of_numbers n)

  module _ (k : ℕ) (off : IsOff (goes_on d v first test next) k) where
    -- no two turns up to the last begin alike
    differ : (i n : ℕ) → i ≤ n → suc n ≤ k → number i ≡ number (suc n) → ⊥
    differ i n h l e =
        let same : words i ≡ words (suc n) = number_words i ∙ ap (λ m. record { width = width_of d v; value = m } ∷ []) e ∙ sym (number_words (suc n)) in
        later (k - suc n) (omega arith) (alike i (suc n) (k - suc n) same)
      where
        later : (t : ℕ) → t + suc n ≡ k → words (plus t i) ≡ words (plus t (suc n)) → ⊥
        later t q e =
            let at_i : plus t i ≡ t + i = plus_is t i in
            clash (goes_on d v first test next (plus t i)) (off.0 (plus t i) (omega arith))
            (same_test (plus t i) (plus t (suc n)) e ∙ ap (goes_on d v first test next) (plus_is t (suc n) ∙ q) ∙ off.1)

    apart : (n : ℕ) → n ≤ k → Apart (numbers n)
    apart zero l = ((λ i. i), tt)
    apart (suc n) l = ((λ i. let x : (i : ℕ) × (i ≤ n) × (number i ≡ number (suc n)) = among (number (suc n)) n i in differ x.0 n x.1 l x.2), apart n (omega arith))

    few_values : k < 2 ^ width_of d v
    few_values = let h : length (numbers k) ≤ 2 ^ width_of d v = few (2 ^ width_of d v) (numbers k) (apart k (omega arith)) (below_all k) in let e : length (numbers k) ≡ suc k = size_of_numbers k in omega arith

-- ---- statements of functions

module _ (d : Flat) (sound : IsSound d) (clean : IsClean d) where
  before : IsCleanBefore d 13
  before other rule at h b = clean other rule at b

  abbrev out : Mode → List ℕ → Statement → Ways
  out = all_ways d (loops d before) before

  -- what stands in the text of a function
  record InFunction (marks : List ℕ) (x : Statement) : Type 0 where
    loop_at : LoopAt d marks x
    own : is_foreign x ≡ true → ⊥
    stays : (at : Place) (m : ℕ) → x ≡ Disable at m → ⊥
    state : IsStatement d x

  abbrev Within : List ℕ → Statement → Type 0
  Within marks s = (o : List ℕ) (x : Statement) → Stands [] marks s o x → InFunction o x

  in_place : (marks : List ℕ) (s : Statement) → Within marks s → (o : List ℕ) (x : Statement) → Stands d.tasks marks s o x → LoopAt d o x
  in_place marks s f o x st = (f o x (in_text d before st (λ q y k. (f q y k).own))).loop_at

  -- a loop of which the body may be walked through is constant
  walk_of : (marks : List ℕ) (body : Statement) → Within marks body → out Lone marks body Past ≡ true → Surely (HasWalk d marks body)
  walk_of marks body f h = walk_found d before marks body (in_place marks body f) h

  never_free : (marks : List ℕ) (x body : Statement) → LoopAt d marks x → body_of x ≡ Some body → Within marks body → out Lone marks body Past ≡ true → (HasBound d x → ⊥) → ⊥
  never_free marks x body l b f h n = walk_of marks body f h (λ w. clean 12 61 _ (spins (loop_spins l b n w)))

  for_counted : (marks : List ℕ) (at : Place) (v : ℕ) (first test next : Expr) (body : Statement) → Within marks (For at v first test next body) → out Lone marks body Past ≡ true → loops d before v first test next body ≡ true
  for_counted marks at v first test next body f h = go (true_or_false (loops d before v first test next body))
    where
      go : (loops d before v first test next body ≡ true) ⊎ (loops d before v first test next body ≡ false) → loops d before v first test next body ≡ true
      go (inl e) = e
      go (inr e) = absurd (never_free marks (For at v first test next body) body (f marks (For at v first test next body) itself).loop_at refl (λ o x st. f o x (in_for st)) h (free_for d before at v first test next body e))

  while_bound : (at : Place) (test : Expr) (body : Statement) → HasBound d (While at test body) → (is_constant test ≡ true) × (holds d test ≡ false)
  while_bound at test body (bound_while c h) = (c, h)

  while_off : (marks : List ℕ) (at : Place) (test : Expr) (body : Statement) → Within marks (While at test body) → out Lone marks body Past ≡ true → (is_constant test ≡ true) × (holds d test ≡ false)
  while_off marks at test body f h = go (true_or_false (is_constant test)) (true_or_false (holds d test))
    where
      free : (HasBound d (While at test body) → ⊥) → ⊥
      free g = never_free marks (While at test body) body (f marks (While at test body) itself).loop_at refl (λ o x st. f o x (in_while st)) h g

      go : (is_constant test ≡ true) ⊎ (is_constant test ≡ false) → (holds d test ≡ true) ⊎ (holds d test ≡ false) → (is_constant test ≡ true) × (holds d test ≡ false)
      go (inl c) (inr e) = (c, e)
      go (inl c) (inl e) = absurd (free (λ b. clash (holds d test) e (while_bound at test body b).1))
      go (inr c) e = absurd (free (λ b. clash (is_constant test) (while_bound at test body b).0 c))

  repeat_constant : (marks : List ℕ) (at : Place) (count : Expr) (body : Statement) → Within marks (Repeat at count body) → out Lone marks body Past ≡ true → is_constant count ≡ true
  repeat_constant marks at count body f h = go (true_or_false (is_constant count))
    where
      go : (is_constant count ≡ true) ⊎ (is_constant count ≡ false) → is_constant count ≡ true
      go (inl c) = c
      go (inr c) = absurd (never_free marks (Repeat at count body) body (f marks (Repeat at count body) itself).loop_at refl (λ o x st. f o x (in_repeat st)) h bound)
        where
          bound : HasBound d (Repeat at count body) → ⊥
          bound (bound_repeat k) = clash (is_constant count) k c

  no_forever : (marks : List ℕ) (at : Place) (body : Statement) → Within marks (Forever at body) → out Lone marks body Past ≡ true → ⊥
  no_forever marks at body f h = never_free marks (Forever at body) body (f marks (Forever at body) itself).loop_at refl (λ o x st. f o x (in_forever st)) h (λ b. elim b [ ])

  -- ---- such a statement may be walked through

  abbrev is_inner : Mode → Bool
  is_inner Lone = false
  is_inner Any = true
  is_inner Fixed = true

  may_some : (test : Expr) → (may d test true ≡ true) ⊎ (may d test false ≡ true)
  may_some test = go (true_or_false (holds d test))
    where
      go : (holds d test ≡ true) ⊎ (holds d test ≡ false) → (may d test true ≡ true) ⊎ (may d test false ≡ true)
      go (inl e) = inl (go_may d test true (λ c. e))
      go (inr e) = inr (go_may d test false (λ c. e))

  if_past : (test : Expr) (a b : Ways) → a Past ≡ true → b Past ≡ true → Rattle.el_design.proofs.Ways.choosing (may d test true) a (may d test false) b Past ≡ true
  if_past test a b h k = go (may_some test)
    where
      go : (may d test true ≡ true) ⊎ (may d test false ≡ true) → Rattle.el_design.proofs.Ways.choosing (may d test true) a (may d test false) b Past ≡ true
      go (inl e) = choose_first (may d test true) (may d test false) a b None e h
      go (inr e) = choose_second (may d test true) (may d test false) a b None e k

  fixed_past : (b : Bool) (x y : Ways) → x Past ≡ true → y Past ≡ true → Rattle.el_design.proofs.Ways.choosing b x (not b) y Past ≡ true
  fixed_past true x y h k = choose_first true false x y None refl h
  fixed_past false x y h k = choose_second false true x y None refl k

  case_past : (marks : List ℕ) (arms : Statement) (b : Bool) → out Any marks arms Past ≡ true → out Fixed marks arms Past ≡ true → out (mode_of b) marks arms Past ≡ true
  case_past marks arms true h k = k
  case_past marks arms false h k = h

  past : (mode : Mode) (marks : List ℕ) (s : Statement) → Within marks s → arms_fit (is_inner mode) s ≡ true → out mode marks s Past ≡ true
  past mode marks Null f a = refl
  past mode marks Skip f a = refl
  past mode marks (Seq x y) f a =
      both_are _ _ (past Lone marks x (λ o z st. f o z (in_first st)) (left_of (arms_fit false x) (arms_fit false y) a)) (past Lone marks y (λ o z st. f o z (in_rest st)) (right_of (arms_fit false x) (arms_fit false y) a))
  past mode marks (Block at None body) f a = past Lone marks body (λ o z st. f o z (in_block st)) a
  past mode marks (Block at (Some m) body) f a = first_of _ _ (past Lone (m ∷ marks) body (λ o z st. f o z (in_named st)) a)
  past mode marks (Assign at to e held) f a = refl
  past mode marks (If at test x y) f a =
      if_past test (out Lone marks x) (out Lone marks y) (past Lone marks x (λ o z st. f o z (in_then st)) (left_of (arms_fit false x) (arms_fit false y) a))
      (past Lone marks y (λ o z st. f o z (in_else st)) (right_of (arms_fit false x) (arms_fit false y) a))
  past mode marks (Case at on arms) f a =
      case_past marks arms (is_constant_case on arms) (past Any marks arms (λ o z st. f o z (in_case st)) a) (past Fixed marks arms (λ o z st. f o z (in_case st)) a)
  past Lone marks (Arm on labels body others) f a = cc
  past Any marks (Arm on labels body others) f a =
      choose_first true true (out Lone marks body) (out Any marks others) None refl (past Lone marks body (λ o z st. f o z (in_arm st)) (left_of (arms_fit false body) (arms_fit true others) a))
  past Fixed marks (Arm on labels body others) f a =
      fixed_past (has_label d (fixed d) on labels) (out Lone marks body) (out Fixed marks others) (past Lone marks body (λ o z st. f o z (in_arm st)) (left_of (arms_fit false body) (arms_fit true others) a))
      (past Fixed marks others (λ o z st. f o z (in_others st)) (right_of (arms_fit false body) (arms_fit true others) a))
  past mode marks (For at v first test next body) f a =
      let h : out Lone marks body Past ≡ true = past Lone marks body (λ o z st. f o z (in_for st)) a in
      subst (λ b. fors (stored_by d (For at v first test next body)) b (goes_on d v first test next 0) (may d test false) (may d test true) (out Lone marks body) Past ≡ true)
      (sym (for_counted marks at v first test next body f h)) (second_of (not (goes_on d v first test next 0)) (out Lone marks body Past) h)
  past mode marks (While at test body) f a =
      let h : out Lone marks body Past ≡ true = past Lone marks body (λ o z st. f o z (in_while st)) a in first_of (may d test false) false (go_may d test false (λ c. (while_off marks at test body f h).1))
  past mode marks (Repeat at count body) f a =
      let h : out Lone marks body Past ≡ true = past Lone marks body (λ o z st. f o z (in_repeat st)) a in
      subst (λ b. repeating b (count_of d (fixed d) count) (out Lone marks body) Past ≡ true) (sym (repeat_constant marks at count body f h)) (second_of (is_zero (count_of d (fixed d) count)) (out Lone marks body Past) h)
  past mode marks (Forever at body) f a = absurd (no_forever marks at body f (past Lone marks body (λ o z st. f o z (in_forever st)) a))
  past mode marks (Wait at falling) f a = absurd ((f marks (Wait at falling) itself).own refl)
  past mode marks (Enable at t ins outs) f a = absurd ((f marks (Enable at t ins outs) itself).own refl)
  past mode marks (Disable at m) f a = absurd ((f marks (Disable at m) itself).stays at m refl)
  past mode marks (Host at g ins result outs) f a = absurd ((f marks (Host at g ins result outs) itself).own refl)

  -- ---- and ends

  shaped : (marks : List ℕ) (s : Statement) (st : Store) → IsShaped d st → IsShaped d (body_store d (call_of d) s st)
  shaped marks s st h = keeps d (λ v. Unit {0}) (IsShaped d) (λ q ws k i. shaped_all q ws ∙ i) marks s (λ o x k v c. tt) st h

  stands_still : (marks : List ℕ) (s : Statement) (v : ℕ) → IsFreeOf d v s → (st : Store) (l : List Word) → get_or st v [] ≡ l → get_or (body_store d (call_of d) s st) v [] ≡ l
  stands_still marks s v free st l h =
      keeps d (λ u. u ≡ v → ⊥) (λ q. get_or q v [] ≡ l) (λ q ws k i. kept_all (λ u. u ≡ v → ⊥) q ws v k (λ n. n refl) ∙ i) marks s (λ o x k u c e. free_met d v s free x k (subst (Contains (stored_by d x)) e c)) st h

  repeated : (body : Statement) (marks : List ℕ) → ((st : Store) → IsShaped d st → Ends d (call_of d) body false st) → (n : ℕ) (st : Store) → IsShaped d st →
      Turns n (Ends d (call_of d) body false) (body_store d (call_of d) body) st
  repeated body marks f zero st h = tt
  repeated body marks f (suc n) st h = (f st h, repeated body marks f n (body_store d (call_of d) body st) (shaped marks body st h))

  -- a counted `for`, from its test at a turn
  module _ (marks : List ℕ) (v w : ℕ) (first test next : Expr) (plain : IsPlainVariable d v w) (body : Statement) (c : IsCounted d v first test next body) (k : ℕ)
      (off : IsOff (goes_on d v first test next) k) (inner : (st : Store) → IsShaped d st → Ends d (call_of d) body false st) where
    abbrev tested : Store → Bool
    tested st = is_up (value d (body_scene (call_of d) st) test)

    abbrev turn_of : Store → Store
    turn_of st = assigned d (call_of d) v next (body_store d (call_of d) body st)

    own_setting : Setting
    own_setting = setting d [] 0 0

    abbrev own_store : Store → Doing
    own_store st = record { store = st; updates = []; replies = []; calls = []; delays = []; events = 0 }

    abbrev AtTurn : ℕ → Store → Type 0
    AtTurn j st = get_or st v [] ≡ get_or (turned d v first next j) v []

    test_at : (j : ℕ) (st : Store) → AtTurn j st → tested st ≡ goes_on d v first test next j
    unfolding own_setting
    test_at j st e = turn_test own_setting (own_store st) v j first test next c.test_is e

    next_at : (j : ℕ) (st : Store) → IsShaped d st → AtTurn j st → AtTurn (suc j) (turn_of st)
    unfolding own_setting
    next_at j st h e =
        turn_next own_setting (own_store (body_store d (call_of d) body st)) v w j first next (shaped marks body st h) plain c.step_is
        (stands_still marks body v c.free st (get_or (turned d v first next j) v []) e)

    assigned_shaped : (e : Expr) (st : Store) → IsShaped d st → IsShaped d (assigned d (call_of d) v e st)
    assigned_shaped e st h = shaped_all st (writes_of d (body_scene (call_of d) st) (ToVariable v) (value d (body_scene (call_of d) st) e)) ∙ h

    ends_from : (n j : ℕ) (st : Store) → k ≤ j + n → j ≤ k → IsShaped d st → AtTurn j st → EndsWithin n tested (Ends d (call_of d) body false) turn_of st
    ends_from zero j st l m h e = let i : j ≡ k = omega arith in test_at j st e ∙ ap (goes_on d v first test next) i ∙ off.1
    ends_from (suc n) j st l m h e = λ up. (inner st h, ends_from n (suc j) (turn_of st) (omega arith) (before_last up) (assigned_shaped next (body_store d (call_of d) body st) (shaped marks body st h)) (next_at j st h e))
      where
        before_last : tested st ≡ true → suc j ≤ k
        before_last up = go (split k j)
          where
            go : (k ≤ j) ⊎ (j < k) → suc j ≤ k
            go (inr i) = omega arith
            go (inl i) = let q : j ≡ k = omega arith in clash (goes_on d v first test next j) (sym (test_at j st e) ∙ up) (ap (goes_on d v first test next) q ∙ off.1)

    from_start : (st : Store) → IsShaped d st → k ≤ 2 ^ width_of d v → EndsWithin (2 ^ width_of d v) tested (Ends d (call_of d) body false) turn_of (assigned d (call_of d) v first st)
    unfolding own_setting
    from_start st h l =
        ends_from (2 ^ width_of d v) 0 (assigned d (call_of d) v first st) (omega arith) (omega arith) (assigned_shaped first st h) (turn_first own_setting (own_store st) v w first next h plain c.start_is)

  -- its turns are found
  turns_are : (marks : List ℕ) (at : Place) (v : ℕ) (first test next : Expr) (body : Statement) → Within marks (For at v first test next body) → out Lone marks body Past ≡ true → IsCounted d v first test next body →
      (k : ℕ) × IsOff (goes_on d v first test next) k
  turns_are marks at v first test next body f h c = go (first_off (goes_on d v first test next) (suc max_turns)) (finds (goes_on d v first test next) (suc max_turns))
    where
      l : LoopAt d marks (For at v first test next body)
      l = (f marks (For at v first test next body) itself).loop_at

      never_ends : ((j : ℕ) → j < suc max_turns → goes_on d v first test next j ≡ true) → HasWalk d marks body → IsConstantLoop d (For at v first test next body) → ⊥
      never_ends all walk (inr e) = clean 12 83 _ (turns (without_end l refl e walk))
      never_ends all walk (inl t) = many (split t.0 max_turns)
        where
          many : (t.0 ≤ max_turns) ⊎ (max_turns < t.0) → ⊥
          many (inl i) = clash (goes_on d v first test next t.0) (all t.0 (omega arith)) (for_is d at v t.0 first test next body t.1).2
          many (inr i) = clean 12 83 _ (turns (too_many l refl t.1 i walk))

      go : (o : Option ℕ) → Finds (goes_on d v first test next) (suc max_turns) o → (k : ℕ) × IsOff (goes_on d v first test next) k
      go (Some k) g = (k, g.1)
      go None g = absurd (walk_of marks body (λ o x st. f o x (in_for st)) h (λ walk. constant_for d at v first test next body c (never_ends g walk)))

  ends : (inner : Bool) (marks : List ℕ) (s : Statement) → Within marks s → arms_fit inner s ≡ true → (st : Store) → IsShaped d st → Ends d (call_of d) s inner st
  ends inner marks Null f a st h = tt
  ends inner marks Skip f a st h = tt
  ends inner marks (Seq x y) f a st h = (
    ends false marks x (λ o z k. f o z (in_first k)) (left_of (arms_fit false x) (arms_fit false y) a) st h,
    ends false marks y (λ o z k. f o z (in_rest k)) (right_of (arms_fit false x) (arms_fit false y) a) (body_store d (call_of d) x st) (shaped marks x st h),
  )
  ends inner marks (Block at None body) f a st h = ends false marks body (λ o z k. f o z (in_block k)) a st h
  ends inner marks (Block at (Some m) body) f a st h = ends false (m ∷ marks) body (λ o z k. f o z (in_named k)) a st h
  ends inner marks (Assign at to e true) f a st h = absurd ((f marks (Assign at to e true) itself).own refl)
  ends inner marks (Assign at to e false) f a st h = refl
  ends inner marks (If at test x y) f a st h = (
    λ e. ends false marks x (λ o z k. f o z (in_then k)) (left_of (arms_fit false x) (arms_fit false y) a) st h,
    λ e. ends false marks y (λ o z k. f o z (in_else k)) (right_of (arms_fit false x) (arms_fit false y) a) st h,
  )
  ends inner marks (Case at on arms) f a st h = ends true marks arms (λ o z k. f o z (in_case k)) a st h
  ends true marks (Arm on labels body others) f a st h = (
    λ e. ends false marks body (λ o z k. f o z (in_arm k)) (left_of (arms_fit false body) (arms_fit true others) a) st h,
    λ e. ends true marks others (λ o z k. f o z (in_others k)) (right_of (arms_fit false body) (arms_fit true others) a) st h,
  )
  ends false marks (Arm on labels body others) f a st h = cc
  ends inner marks (For at v first test next body) f a st h =
      let p : out Lone marks body Past ≡ true = past Lone marks body (λ o z k. f o z (in_for k)) a in
      let c : IsCounted d v first test next body = is_counted d before v first test next body (for_counted marks at v first test next body f p) in
      let t : (k : ℕ) × IsOff (goes_on d v first test next) k = turns_are marks at v first test next body f p c in
      let fits : (w : ℕ) × IsPlainVariable d v w × (w ≤ Rattle.el_design.specs.Sound.width first) × (w ≤ Rattle.el_design.specs.Sound.width next) = (f marks (For at v first test next body) itself).state.fits in
      let l : t.0 < 2 ^ width_of d v = few_values d v fits.0 first test next fits.1 body c t.0 t.1 in
      from_start marks v fits.0 first test next fits.1 body c t.0 t.1 (λ q i. ends false marks body (λ o z k. f o z (in_for k)) a q i) st h (omega arith)
  ends inner marks (While at test body) f a st h =
      let z : (is_constant test ≡ true) × (holds d test ≡ false) = while_off marks at test body f (past Lone marks body (λ o x k. f o x (in_while k)) a) in
      ap is_up (constant_same d (body_scene (call_of d) st) (fixed d) test refl z.0) ∙ z.1
  ends inner marks (Repeat at count body) f a st h =
      repeated body marks (λ q i. ends false marks body (λ o z k. f o z (in_repeat k)) a q i) (count_of d (body_scene (call_of d) st) count) st h
  ends inner marks (Forever at body) f a st h = absurd (no_forever marks at body f (past Lone marks body (λ o z k. f o z (in_forever k)) a))
  ends inner marks (Wait at falling) f a st h = absurd ((f marks (Wait at falling) itself).own refl)
  ends inner marks (Enable at t ins outs) f a st h = absurd ((f marks (Enable at t ins outs) itself).own refl)
  ends inner marks (Disable at m) f a st h = absurd ((f marks (Disable at m) itself).stays at m refl)
  ends inner marks (Host at g ins result outs) f a st h = absurd ((f marks (Host at g ins result outs) itself).own refl)

  -- ---- the store of a call

  bound_shaped : (ins : List ℕ) (args : List Word) (st : Store) → ((v : ℕ) → Contains ins v → (w : ℕ) × IsPlainVariable d v w) → IsShaped d st → IsShaped d (fold (bound d) st (zip ins args))
  bound_shaped [] args st f h = h
  bound_shaped (v ∷ vs) [] st f h = h
  bound_shaped (v ∷ vs) (x ∷ xs) st f h =
      bound_shaped vs xs (bound d st (v, x)) (λ u c. f u (Rattle.el_design.proofs.OrderLists.con_tail v u vs c)) (one (f v (con_head v vs)))
    where
      one : (w : ℕ) × IsPlainVariable d v w → IsShaped d (bound d st (v, x))
      one p = map-set_same length st v (word (width_of d v) x.value ∷ []) [] (sym (one_word d st v p.0 h p.1).single) ∙ h

  pub functions_end : FunctionsEnd d
  functions_end f g args e = ends false [] g.body within fit (fold (bound d) (empty_store d) (zip g.ins args))
      (bound_shaped g.ins args (empty_store d) (λ v c. All-contains (λ v. (w : ℕ) × IsPlainVariable d v w) (variables_of g) v (sound.funcs f g e).there (Contains-append_left (g.ins ++ g.locals) (g.result ∷ []) v (Contains-append_left g.ins g.locals v c))) (empty_shaped d))
    where
      here : Contains d.funcs g
      here = con_got d.funcs f g e

      of_design : Contains (Rattle.el_design.specs.Sound.bodies_of d) g.body
      of_design = Contains-append_right (map (λ p. p.body) d.procs ++ map (λ t. t.body) d.tasks) (map (λ f. f.body) d.funcs) g.body (con_map (λ f. f.body) d.funcs g here)

      within : Within [] g.body
      within o x st = record {
        loop_at = loop_of_function here st;
        own = λ i. clean 11 50 _ (impure (foreign here (o, st) i));
        stays = λ at m i. clean 11 53 _ (disables (λ p r. clean 11 51 _ (recursive r)) (in_function here (o, subst (λ y. Stands [] [] g.body o y) i st)));
        state = sound.statements g.body x of_design (o, st);
      }

      fit : arms_fit false g.body ≡ true
      fit = All-contains (λ s. arms_fit false s ≡ true) (Rattle.el_design.specs.Sound.bodies_of d) g.body sound.arms of_design
