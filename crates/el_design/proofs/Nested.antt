-- Where no task leads back to itself, what is made of statements with the bodies of tasks in place is the same for each depth that has room for all tasks.
use Rattle.std.proofs.Common.{◌≡◌, inl, inr, ℕ, zero, suc, ◌+◌, ◌≤◌, List, [], ◌∷◌, Option, Some, None, Contains, slice_get, length, refl, sym, ◌∙◌, ap, subst, arith}
use Rattle.std.proofs.lemmas.Option.{slice_get_within}
use Rattle.xt_base.specs.declared.refusals.Place.{Place}
use Rattle.el_design.specs.Plain.{Expr, Lvalue, Enable, FlatTask, Flat}
use Rattle.el_design.specs.Texts.{texts}
use Rattle.el_design.specs.Calls.{Routine, TaskOf, task_body, enables, Leads, leads, LeadsTo, there, onward, leads_back}
use Rattle.el_design.specs.Rules.{IsFinite}
use Rattle.el_design.proofs.OrderSane.{In, Comes, IsUnder}
use Rattle.el_design.proofs.OrderDepth.{under_few}
use Rattle.el_design.proofs.Texts.{holds_is}

led_on : {d : Flat} {b c r : Routine} {at : Place} → LeadsTo d b c → Leads d c r at → LeadsTo d b r
led_on there l = onward l there
led_on (onward k rest) l = onward k (led_on rest l)

module _ (d : Flat) (finite : IsFinite d) where
  inside : (under : List ℕ) (t : ℕ) (task : FlatTask) → slice_get d.tasks t ≡ Some task → IsUnder d under → ((u : ℕ) → In u under → Comes d u t) → IsUnder d (t ∷ under)
  inside under t task e tasks before = (slice_get_within d.tasks t task e, (λ j. let c : Comes d t t = before t j in finite c.1 (leads_back c.2 c.3)), tasks)

  comes_on : (under : List ℕ) (t : ℕ) (task : FlatTask) → slice_get d.tasks t ≡ Some task → ((u : ℕ) → In u under → Comes d u t) →
      (at : Place) (q : ℕ) (ins : List Expr) (outs : List Lvalue) → Contains (texts task.body) (Enable at q ins outs) → (u : ℕ) → In u (t ∷ under) → Comes d u q
  comes_on under t task e before at q ins outs c u (inl j) =
      subst (λ k. Comes d k q) j (TaskOf q, at, leads (task_body e) ((holds_is task.body (Enable at q ins outs)).1 c) enables, there)
  comes_on under t task e before at q ins outs c u (inr j) =
      let k : Comes d u t = before u j in
      (k.0, k.1, k.2, led_on k.3 (leads (task_body e) ((holds_is task.body (Enable at q ins outs)).1 c) enables))

  -- `value` makes something of a task, from what is made of the tasks that its body enables, for each of some uses; `made` does so for tasks in one another so deep
  module _ (I A : Type 0) (none : A) (value : (ℕ → I → A) → FlatTask → I → A) (body_value : (ℕ → I → A) → Option FlatTask → I → A) (made : ℕ → ℕ → I → A)
      (body_none : (c : ℕ → I → A) (i : I) → body_value c None i ≡ none) (body_some : (c : ℕ → I → A) (task : FlatTask) (i : I) → body_value c (Some task) i ≡ value c task i)
      (made_zero : (t : ℕ) (i : I) → made zero t i ≡ none) (made_suc : (n t : ℕ) (i : I) → made (suc n) t i ≡ body_value (made n) (slice_get d.tasks t) i)
      (same : (c e : ℕ → I → A) (task : FlatTask) → ((at : Place) (t : ℕ) (ins : List Expr) (outs : List Lvalue) → Contains (texts task.body) (Enable at t ins outs) → (i : I) → c t i ≡ e t i) →
      (i : I) → value c task i ≡ value e task i)
    where
      made_none : (n t : ℕ) (i : I) → slice_get d.tasks t ≡ None → made (suc n) t i ≡ none
      made_none n t i e = made_suc n t i ∙ ap (λ o. body_value (made n) o i) e ∙ body_none (made n) i

      made_some : (n t : ℕ) (task : FlatTask) (i : I) → slice_get d.tasks t ≡ Some task → made (suc n) t i ≡ value (made n) task i
      made_some n t task i e = made_suc n t i ∙ ap (λ o. body_value (made n) o i) e ∙ body_some (made n) task i

      deep : (n : ℕ) (under : List ℕ) (t : ℕ) → IsUnder d under → length d.tasks ≤ length under + n → ((u : ℕ) → In u under → Comes d u t) → (i : I) → made n t i ≡ made (suc n) t i
      deep zero under t tasks room before i = go (slice_get d.tasks t) refl
        where
          go : (o : Option FlatTask) → slice_get d.tasks t ≡ o → made zero t i ≡ made 1 t i
          go None e = made_zero t i ∙ sym (made_none zero t i e)
          go (Some task) e = absurd (let k : length (t ∷ under) ≤ length d.tasks = under_few d (t ∷ under) (inside under t task e tasks before) in omega arith)
      deep (suc m) under t tasks room before i = go (slice_get d.tasks t) refl (λ q h b. deep m (t ∷ under) q h (omega arith) b)
        where
          go : (o : Option FlatTask) → slice_get d.tasks t ≡ o →
              ((q : ℕ) → IsUnder d (t ∷ under) → ((u : ℕ) → In u (t ∷ under) → Comes d u q) → (j : I) → made m q j ≡ made (suc m) q j) → made (suc m) t i ≡ made (suc (suc m)) t i
          go None e deeper = made_none m t i e ∙ sym (made_none (suc m) t i e)
          go (Some task) e deeper =
              made_some m t task i e
              ∙ same (made m) (made (suc m)) task (λ at q ins outs c. deeper q (inside under t task e tasks before) (comes_on under t task e before at q ins outs c)) i
              ∙ sym (made_some (suc m) t task i e)

      -- with room for all tasks, what is made of a task is what is made of its body
      pub made_of_task : (t : ℕ) (task : FlatTask) → slice_get d.tasks t ≡ Some task → (i : I) → made (length d.tasks) t i ≡ value (made (length d.tasks)) task i
      made_of_task t task e i = deep (length d.tasks) [] t tt (omega arith) (λ u j. absurd j) i ∙ made_some (length d.tasks) t task i e
