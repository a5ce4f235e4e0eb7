-- The exits of enables with the bodies of tasks in place are those of the bodies.
use Rattle.std.proofs.Common.{◌≡◌, ℕ, false, List, [], ◌∷◌, ◌++◌, Some, None, Contains, slice_get, refl, ap, ap₂}
use Rattle.std.proofs.lemmas.List.Elements.{Contains-append_left, Contains-append_right}
use Rattle.xt_base.specs.declared.refusals.Place.{Place}
use Rattle.el_design.specs.Plain.{Expr, Lvalue, Statement, Null, Skip, Seq, Block, Assign, If, Case, Arm, For, While, Repeat, Forever, Wait, Enable, Disable, Host, Flat}
use Rattle.el_design.specs.Assign.{has_label, count_of}
use Rattle.el_design.specs.Names.{is_constant}
use Rattle.el_design.specs.Texts.{texts}
use Rattle.el_design.specs.Turns.{fixed}
use Rattle.el_design.specs.Walk.{is_constant_case}
use Rattle.el_design.specs.Rules.{IsFinite}
use Rattle.el_design.specs.Exits.{Exits, no_exit, after, inside, choosing, looping, endless_of, for_exits, repeat_exits, may_hold, may_fail, Told, Arms, Alone, takes, skips, arms_of, TaskExits, enable_exits, exits, body_exits, exits_to, exits_in_place, AreOfTasks}
use Rattle.el_design.proofs.OrderLists.{con_head, con_tail}
use Rattle.el_design.proofs.Nested.{made_of_task}

-- what is so of the enables in a text is so of those in a part of it
abbrev pub OfEnables : (ℕ → Type 0) → Statement → Type 0
OfEnables P s = (at : Place) (t : ℕ) (ins : List Expr) (outs : List Lvalue) → Contains (texts s) (Enable at t ins outs) → P t

pub of_only : (P : ℕ → Type 0) (s x : Statement) → texts s ≡ s ∷ texts x → OfEnables P s → OfEnables P x
of_only P s x e f at t ins outs h = f at t ins outs (rw e (con_tail s _ (texts x) h))

pub of_left : (P : ℕ → Type 0) (s x y : Statement) → texts s ≡ s ∷ texts x ++ texts y → OfEnables P s → OfEnables P x
of_left P s x y e f at t ins outs h = f at t ins outs (rw e (con_tail s _ (texts x ++ texts y) (Contains-append_left (texts x) (texts y) _ h)))

pub of_right : (P : ℕ → Type 0) (s x y : Statement) → texts s ≡ s ∷ texts x ++ texts y → OfEnables P s → OfEnables P y
of_right P s x y e f at t ins outs h = f at t ins outs (rw e (con_tail s _ (texts x ++ texts y) (Contains-append_right (texts x) (texts y) _ h)))

module _ (d : Flat) (told : Statement → Told) where
  module _ (c e : TaskExits) where
    abbrev Same : ℕ → Type 0
    Same t = (marks : List ℕ) → c t marks ≡ e t marks

    same : (arms : Arms) (marks : List ℕ) (s : Statement) → OfEnables Same s → exits d told c arms marks s ≡ exits d told e arms marks s
    same arms marks (Seq a b) f = ap₂ after (same Alone marks a (of_left Same (Seq a b) a b refl f)) (same Alone marks b (of_right Same (Seq a b) a b refl f))
    same arms marks (Block at None body) f = same Alone marks body (of_only Same (Block at None body) body refl f)
    same arms marks (Block at (Some m) body) f = ap (inside m) (same Alone (m ∷ marks) body (of_only Same (Block at (Some m) body) body refl f))
    same arms marks (If at test a b) f =
        ap₂ (λ x y. choosing (may_hold d test) x (may_fail d test) y) (same Alone marks a (of_left Same (If at test a b) a b refl f)) (same Alone marks b (of_right Same (If at test a b) a b refl f))
    same arms marks (Case at on others) f = same (arms_of (is_constant_case on others)) marks others (of_only Same (Case at on others) others refl f)
    same arms marks (Arm on labels a b) f =
        ap₂ (λ x y. choosing (takes arms (has_label d (fixed d) on labels)) x (skips arms (has_label d (fixed d) on labels)) y)
        (same Alone marks a (of_left Same (Arm on labels a b) a b refl f)) (same arms marks b (of_right Same (Arm on labels a b) a b refl f))
    same arms marks (For at v first test next body) f =
        ap (for_exits (told (For at v first test next body)) (may_hold d test) (may_fail d test)) (same Alone marks body (of_only Same (For at v first test next body) body refl f))
    same arms marks (While at test body) f = ap (looping (may_fail d test) false (may_hold d test)) (same Alone marks body (of_only Same (While at test body) body refl f))
    same arms marks (Repeat at count body) f = ap (repeat_exits (is_constant count) (count_of d (fixed d) count)) (same Alone marks body (of_only Same (Repeat at count body) body refl f))
    same arms marks (Forever at body) f = ap endless_of (same Alone marks body (of_only Same (Forever at body) body refl f))
    same arms marks (Enable at t ins outs) f = ap (enable_exits (slice_get d.tasks t)) (f at t ins outs (con_head _ []) marks)
    same arms marks Null f = refl
    same arms marks Skip f = refl
    same arms marks (Assign at to x held) f = refl
    same arms marks (Wait at falling) f = refl
    same arms marks (Disable at m) f = refl
    same arms marks (Host at g ins result outs) f = refl

  pub are_in_place : IsFinite d → AreOfTasks d told (exits_in_place d told)
  are_in_place finite t task marks e =
      made_of_task d finite (List ℕ) Exits no_exit (λ c x i. exits d told c Alone (x.mark ∷ i) x.body) (λ c o i. body_exits d told c i o) (exits_to d told) (λ c i. refl) (λ c x i. refl) (λ q i. refl) (λ n q i. refl)
      (λ a b x f i. same a b Alone (x.mark ∷ i) x.body f) t task e marks

pub exits_unfold : (d : Flat) → IsFinite d → (told : Statement → Told) → AreOfTasks d told (exits_in_place d told)
exits_unfold d finite told = are_in_place d told finite
