-- In a design that breaks no rule, how often each loop counts is a number, in U and in S.
use Rattle.std.proofs.Common.{◌≡◌, ◌⊎◌, inl, inr, ℕ, zero, suc, ◌<◌, ◌≤◌, ◌&&◌, not, Bool, true, false, if◌then◌else◌, List, [], Option, Some, None, refl, sym, ◌∙◌, ap, subst, arith}
use Rattle.el_design.specs.Plain.{Statement, Null, Skip, Seq, Block, Assign, If, Case, Arm, For, While, Repeat, Forever, Wait, Enable, Disable, Host, FlatTask, Flat}
use Rattle.el_design.specs.Assign.{count_of}
use Rattle.el_design.specs.Names.{is_constant}
use Rattle.el_design.specs.InPlace.{Stands, itself, in_first, in_rest, in_block, in_named, in_then, in_else, in_case, in_arm, in_others, in_for, in_while, in_repeat, in_forever, in_task, LoopAt, loop_of_process, loop_of_function}
use Rattle.el_design.specs.Turns.{fixed, holds, goes_on, HasTurns, of_repeat, of_while, of_for, body_of}
use Rattle.el_design.specs.Walk.{IsUnrolled}
use Rattle.el_design.specs.Calls.{foreign}
use Rattle.el_design.specs.Rules.{max_turns, too_many, turns, impure, IsCleanBefore}
use Rattle.el_design.specs.Laws.{LoopsCount}
use Rattle.el_design.specs.Loops.{first_off}
use Rattle.el_design.proofs.OrderRule.{split}
use Rattle.el_design.proofs.OrderWalk.{Surely, sure, surely}
use Rattle.el_design.proofs.Places.{onward, body_stands}
use Rattle.el_design.proofs.Ways.{Past, Lone, all_ways}
use Rattle.el_design.proofs.WaysPuts.{left_of, right_of, not_so, so_not, both_are, clash, is_counted, counted_is}
use Rattle.el_design.proofs.WaysFound.{loops, walk_found}
use Rattle.el_design.proofs.WaysBack.{walk_back}

-- ---- the first number below a bound at which a test fails

abbrev pub IsOff : (ℕ → Bool) → ℕ → Type 0
IsOff f k = ((j : ℕ) → j < k → f j ≡ true) × (f k ≡ false)

some_is : (a b : ℕ) → Some a ≡ Some b → a ≡ b
some_is a b e = cc

-- what is found fails, and all before it hold
abbrev pub Finds : (ℕ → Bool) → ℕ → Option ℕ → Type 0
Finds f n None = (j : ℕ) → j < n → f j ≡ true
Finds f n (Some k) = (k < n) × IsOff f k

pub finds : (f : ℕ → Bool) (n : ℕ) → Finds f n (first_off f n)
finds f zero = λ j h. absurd (let l : j < 0 = h in omega arith)
finds f (suc n) = go (first_off f n) (finds f n) (f n) refl
  where
    upto : ((j : ℕ) → j < n → f j ≡ true) → f n ≡ true → (j : ℕ) → j < suc n → f j ≡ true
    upto all e j h = at (split n j)
      where
        at : (n ≤ j) ⊎ (j < n) → f j ≡ true
        at (inr l) = all j l
        at (inl l) = let i : n ≡ j = omega arith in subst (λ k. f k ≡ true) i e

    go : (o : Option ℕ) → Finds f n o → (b : Bool) → f n ≡ b → Finds f (suc n) (elim o [ Some k ↦ Some k | None ↦ if f n then None else Some n ])
    go (Some k) h b e = let l : k < n = h.0 in (omega arith, h.1)
    go None h true e = rw e (upto h e)
    go None h false e = rw e (omega arith, (h, e))

found_is : (f : ℕ → Bool) (n k : ℕ) (o : Option ℕ) → Finds f n o → k < n → IsOff f k → o ≡ Some k
found_is f n k None h l i = clash (f k) (h k l) i.1
found_is f n k (Some j) h l i = ap Some (same (split j k) (split k j))
  where
    same : (j ≤ k) ⊎ (k < j) → (k ≤ j) ⊎ (j < k) → j ≡ k
    same (inr a) b = clash (f k) (h.1.0 k a) i.1
    same (inl a) (inr b) = clash (f j) (i.0 j b) h.1.1
    same (inl a) (inl b) = omega arith

module _ (d : Flat) (clean : IsCleanBefore d 13) where
  -- ---- the turns of a loop, where they are no more than the rules leave

  abbrev turns_found : Statement → Option ℕ
  turns_found (For at v first test next body) = if loops d clean v first test next body then first_off (goes_on d v first test next) (suc max_turns) else None
  turns_found (While at test body) = if is_constant test && not (holds d test) then Some 0 else None
  turns_found (Repeat at count body) = if is_constant count then Some (count_of d (fixed d) count) else None
  turns_found s = None

  has_found : (s : Statement) (n : ℕ) → HasTurns d s n → n ≤ max_turns → turns_found s ≡ Some n
  has_found s n (of_repeat c) h = rw c refl
  has_found s n (of_while {test = test} c e) h = rw (both_are (is_constant test) (not (holds d test)) c (so_not (holds d test) e)) refl
  has_found s n (of_for {v = v} {first = first} {test = test} {next = next} {body = body} c f g) h =
      rw (counted_is d clean v first test next body c) (found_is (goes_on d v first test next) (suc max_turns) n (first_off (goes_on d v first test next) (suc max_turns)) (finds (goes_on d v first test next) (suc max_turns)) (omega arith) (f, g))

  found_has : (s : Statement) (n : ℕ) → turns_found s ≡ Some n → HasTurns d s n
  found_has (For at v first test next body) n e = go (loops d clean v first test next body) refl (first_off (goes_on d v first test next) (suc max_turns)) (finds (goes_on d v first test next) (suc max_turns)) e
    where
      go : (b : Bool) → loops d clean v first test next body ≡ b → (o : Option ℕ) → Finds (goes_on d v first test next) (suc max_turns) o → (if loops d clean v first test next body then o else None) ≡ Some n →
          HasTurns d (For at v first test next body) n
      go false i o h e = let k : None ≡ Some n = ap (λ b. if b then o else None) (sym i) ∙ e in cc
      go true i None h e = let k : None ≡ Some n = ap (λ b. if b then None else None) (sym i) ∙ e in cc
      go true i (Some j) h e =
          let k : Some j ≡ Some n = ap (λ b. if b then Some j else None) (sym i) ∙ e in
          subst (λ m. HasTurns d (For at v first test next body) m) (some_is j n k) (of_for (is_counted d clean v first test next body i) h.1.0 h.1.1)
  found_has (While at test body) n e = go (is_constant test && not (holds d test)) refl e
    where
      go : (b : Bool) → (is_constant test && not (holds d test)) ≡ b → (if b then Some 0 else None) ≡ Some n → HasTurns d (While at test body) n
      go false i e = cc
      go true i e =
          subst (λ m. HasTurns d (While at test body) m) (some_is 0 n e)
          (of_while (left_of (is_constant test) (not (holds d test)) i) (not_so (holds d test) (right_of (is_constant test) (not (holds d test)) i)))
  found_has (Repeat at count body) n e = go (is_constant count) refl e
    where
      go : (b : Bool) → is_constant count ≡ b → (if b then Some (count_of d (fixed d) count) else None) ≡ Some n → HasTurns d (Repeat at count body) n
      go false i e = cc
      go true i e = subst (λ m. HasTurns d (Repeat at count body) m) (some_is (count_of d (fixed d) count) n e) (of_repeat i)
  found_has Null n e = cc
  found_has Skip n e = cc
  found_has (Seq a b) n e = cc
  found_has (Block at m body) n e = cc
  found_has (Assign at to x held) n e = cc
  found_has (If at test a b) n e = cc
  found_has (Case at on arms) n e = cc
  found_has (Arm on labels body others) n e = cc
  found_has (Forever at body) n e = cc
  found_has (Wait at falling) n e = cc
  found_has (Enable at t ins outs) n e = cc
  found_has (Disable at m) n e = cc
  found_has (Host at f ins result outs) n e = cc

  -- ---- unrolled loops

  -- the turns, where the body may be walked through
  abbrev walked_turns : List ℕ → Option Statement → Option ℕ → Option ℕ
  walked_turns marks None o = None
  walked_turns marks (Some body) o = if all_ways d (loops d clean) clean Lone marks body Past then o else None

  abbrev unrolls : List ℕ → Statement → Option ℕ
  unrolls marks s = walked_turns marks (body_of s) (turns_found s)

  -- where no task is enabled, what stands in place stands in the text
  pub in_text : {tasks : List FlatTask} {marks o : List ℕ} {s x : Statement} → Stands tasks marks s o x →
      ((q : List ℕ) (y : Statement) → Stands [] marks s q y → Rattle.el_design.specs.Purity.is_foreign y ≡ true → ⊥) → Stands [] marks s o x
  in_text itself f = itself
  in_text (in_first h) f = in_first (in_text h (λ q y st. f q y (in_first st)))
  in_text (in_rest h) f = in_rest (in_text h (λ q y st. f q y (in_rest st)))
  in_text (in_block h) f = in_block (in_text h (λ q y st. f q y (in_block st)))
  in_text (in_named h) f = in_named (in_text h (λ q y st. f q y (in_named st)))
  in_text (in_then h) f = in_then (in_text h (λ q y st. f q y (in_then st)))
  in_text (in_else h) f = in_else (in_text h (λ q y st. f q y (in_else st)))
  in_text (in_case h) f = in_case (in_text h (λ q y st. f q y (in_case st)))
  in_text (in_arm h) f = in_arm (in_text h (λ q y st. f q y (in_arm st)))
  in_text (in_others h) f = in_others (in_text h (λ q y st. f q y (in_others st)))
  in_text (in_for h) f = in_for (in_text h (λ q y st. f q y (in_for st)))
  in_text (in_while h) f = in_while (in_text h (λ q y st. f q y (in_while st)))
  in_text (in_repeat h) f = in_repeat (in_text h (λ q y st. f q y (in_repeat st)))
  in_text (in_forever h) f = in_forever (in_text h (λ q y st. f q y (in_forever st)))
  in_text {marks = marks} (in_task {at = at} {t = t} {ins = ins} {outs = outs} e h) f = absurd (f marks (Enable at t ins outs) itself refl)

  -- what stands in a statement where it stands, stands there too
  pub placed : {marks o : List ℕ} {s x : Statement} → LoopAt d marks s → Stands d.tasks marks s o x → LoopAt d o x
  placed (loop_of_process m) st = loop_of_process (record { process = m.process; is = m.is; stands = onward m.stands st })
  placed (loop_of_function c h) st = loop_of_function c (onward h (in_text st (λ q y k i. clean 11 50 _ (omega arith) (impure (foreign c (q, onward h k) i)))))

  unrolled_is : (marks : List ℕ) (s : Statement) (n : ℕ) → LoopAt d marks s → IsUnrolled d marks s n → unrolls marks s ≡ Some n
  unrolled_is marks s n l u =
      ap (λ o. walked_turns marks o (turns_found s)) u.body_is ∙ ap (λ b. if b then turns_found s else None) (walk_back d clean marks u.body u.walk) ∙ has_found s n u.turns_are (few (split n max_turns))
    where
      few : (n ≤ max_turns) ⊎ (max_turns < n) → n ≤ max_turns
      few (inl h) = h
      few (inr h) = absurd (clean 12 83 _ (omega arith) (turns (too_many l u.body_is u.turns_are h u.walk)))

  is_unrolled : (marks : List ℕ) (s : Statement) (n : ℕ) → LoopAt d marks s → unrolls marks s ≡ Some n → Surely (IsUnrolled d marks s n)
  is_unrolled marks s n l e = go (body_of s) refl e
    where
      go : (o : Option Statement) → body_of s ≡ o → walked_turns marks o (turns_found s) ≡ Some n → Surely (IsUnrolled d marks s n)
      go None i e = cc
      go (Some body) i e = by_way (all_ways d (loops d clean) clean Lone marks body Past) refl e
        where
          by_way : (b : Bool) → all_ways d (loops d clean) clean Lone marks body Past ≡ b → (if b then turns_found s else None) ≡ Some n → Surely (IsUnrolled d marks s n)
          by_way false j e = cc
          by_way true j e =
              surely (walk_found d clean marks body (λ o x st. placed l (onward (body_stands d.tasks marks s body i) st)) j)
              (λ w. sure (record { turns_are = found_has s n e; body = body; body_is = i; walk = w }))

  -- ---- how often loops count

  abbrev or_once : (ℕ → ℕ) → Option ℕ → ℕ
  or_once f None = 1
  or_once f (Some n) = f n

  not_unrolled : (f : ℕ → ℕ) (marks : List ℕ) (s : Statement) → LoopAt d marks s → ((n : ℕ) → IsUnrolled d marks s n → ⊥) → or_once f (unrolls marks s) ≡ 1
  not_unrolled f marks s l none_is = go (unrolls marks s) refl
    where
      go : (o : Option ℕ) → unrolls marks s ≡ o → or_once f o ≡ 1
      go None e = refl
      go (Some n) e = absurd (is_unrolled marks s n l e (none_is n))

  pub loops_count : LoopsCount d
  loops_count = (
    (
      λ marks s. or_once suc (unrolls marks s),
      record { unrolled = λ marks s n l u. ap (or_once suc) (unrolled_is marks s n l u); others = λ marks s l h. not_unrolled suc marks s l h },
    ),
    (
      λ marks s. or_once (λ n. n) (unrolls marks s),
      record { unrolled = λ marks s n l u. ap (or_once (λ n. n)) (unrolled_is marks s n l u); others = λ marks s l h. not_unrolled (λ n. n) marks s l h },
    ),
  )
