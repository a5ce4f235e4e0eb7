-- The lengths of enables with the bodies of tasks in place are those of the bodies.
use Rattle.std.proofs.Common.{◌≡◌, ℕ, List, [], ◌∷◌, Option, Some, None, slice_get, length, refl, ap, ap₂}
use Rattle.el_design.specs.Plain.{Statement, Null, Skip, Seq, Block, Assign, If, Case, Arm, For, While, Repeat, Forever, Wait, Enable, Disable, Host, FlatTask, Flat}
use Rattle.el_design.specs.Assign.{has_label, count_of}
use Rattle.el_design.specs.Names.{is_constant}
use Rattle.el_design.specs.Turns.{fixed}
use Rattle.el_design.specs.Walk.{is_constant_case}
use Rattle.el_design.specs.Rules.{IsFinite}
use Rattle.el_design.specs.Exits.{may_hold, may_fail, Told, Arms, Alone, takes, skips, arms_of}
use Rattle.el_design.specs.Lengths.{Lengths, no_length, in_turn, stepped, marked, either_of, any_turns, over_again, for_lengths, repeat_lengths, TaskLengths, enable_lengths, lengths, body_lengths, lengths_to}
use Rattle.el_design.proofs.OrderLists.{con_head}
use Rattle.el_design.proofs.Nested.{made_of_task}
use Rattle.el_design.proofs.ExitsInPlace.{OfEnables, of_only, of_left, of_right}

module _ (d : Flat) (told : Statement → Told) (waits : Option ℕ) where
  module _ (c e : TaskLengths) where
    abbrev Same : ℕ → Type 0
    Same t = (marks : List ℕ) → c t marks ≡ e t marks

    same : (arms : Arms) (marks : List ℕ) (s : Statement) → OfEnables Same s → lengths d told waits c arms marks s ≡ lengths d told waits e arms marks s
    same arms marks (Seq a b) f = ap₂ in_turn (same Alone marks a (of_left Same (Seq a b) a b refl f)) (same Alone marks b (of_right Same (Seq a b) a b refl f))
    same arms marks (Block at None body) f = ap stepped (same Alone marks body (of_only Same (Block at None body) body refl f))
    same arms marks (Block at (Some m) body) f = ap (marked m) (same Alone (m ∷ marks) body (of_only Same (Block at (Some m) body) body refl f))
    same arms marks (If at test a b) f =
        ap₂ (λ x y. stepped (either_of (may_hold d test) x (may_fail d test) y)) (same Alone marks a (of_left Same (If at test a b) a b refl f)) (same Alone marks b (of_right Same (If at test a b) a b refl f))
    same arms marks (Case at on others) f = ap stepped (same (arms_of (is_constant_case on others)) marks others (of_only Same (Case at on others) others refl f))
    same arms marks (Arm on labels a b) f =
        ap₂ (λ x y. either_of (takes arms (has_label d (fixed d) on labels)) x (skips arms (has_label d (fixed d) on labels)) y)
        (same Alone marks a (of_left Same (Arm on labels a b) a b refl f)) (same arms marks b (of_right Same (Arm on labels a b) a b refl f))
    same arms marks (For at v first test next body) f =
        ap (for_lengths (told (For at v first test next body)) (may_hold d test) (may_fail d test)) (same Alone marks body (of_only Same (For at v first test next body) body refl f))
    same arms marks (While at test body) f = ap (any_turns (may_fail d test) (may_hold d test)) (same Alone marks body (of_only Same (While at test body) body refl f))
    same arms marks (Repeat at count body) f = ap (repeat_lengths (is_constant count) (count_of d (fixed d) count)) (same Alone marks body (of_only Same (Repeat at count body) body refl f))
    same arms marks (Forever at body) f = ap over_again (same Alone marks body (of_only Same (Forever at body) body refl f))
    same arms marks (Enable at t ins outs) f = ap (enable_lengths (slice_get d.tasks t)) (f at t ins outs (con_head _ []) marks)
    same arms marks Null f = refl
    same arms marks Skip f = refl
    same arms marks (Assign at to x held) f = refl
    same arms marks (Wait at falling) f = refl
    same arms marks (Disable at m) f = refl
    same arms marks (Host at g ins result outs) f = refl

  pub task_is : IsFinite d → (t : ℕ) (task : FlatTask) (marks : List ℕ) → slice_get d.tasks t ≡ Some task →
      lengths_to d told waits (length d.tasks) t marks ≡ lengths d told waits (lengths_to d told waits (length d.tasks)) Alone (task.mark ∷ marks) task.body
  task_is finite t task marks e =
      made_of_task d finite (List ℕ) Lengths no_length (λ c x i. lengths d told waits c Alone (x.mark ∷ i) x.body) (λ c o i. body_lengths d told waits c i o) (lengths_to d told waits)
      (λ c i. refl) (λ c x i. refl) (λ q i. refl) (λ n q i. refl) (λ a b x f i. same a b Alone (x.mark ∷ i) x.body f) t task e marks
