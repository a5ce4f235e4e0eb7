-- What is told of each `for` of a sound design is so.
use Rattle.std.proofs.Common.{◌≡◌, ◌⊎◌, inl, inr, ℕ, zero, suc, ◌+◌, ◌*◌, ◌%◌, ◌^◌, ◌&&◌, not, Bool, true, false, if◌then◌else◌, List, [], ◌∷◌, ◌++◌, flat_map, Option, Some, None, Contains, slice_get, length, refl, sym, ◌∙◌, ap, ap₂, subst}
use Rattle.std.proofs.Math.Nat.{add-mod-mod}
use Rattle.std.proofs.lemmas.Nat.{mul-mod_first, pow_pos, mod_below}
use Rattle.std.proofs.lemmas.List.Concat.{flat_map-cons}
use Rattle.std.proofs.lemmas.List.Elements.{Contains-append_left, Contains-append_right, Contains-append_cases}
use Rattle.xt_base.specs.declared.refusals.Place.{Place}
use Rattle.el_design.specs.Plain.{Expr, Lvalue, Statement, Null, Skip, Seq, Block, Assign, If, Case, Arm, For, While, Repeat, Forever, Wait, Enable, Disable, Host, FlatTask, Flat}
use Rattle.el_design.specs.Store.{width_of}
use Rattle.el_design.specs.Names.{is_constant}
use Rattle.el_design.specs.Purity.{contains_number}
use Rattle.el_design.specs.Texts.{texts}
use Rattle.el_design.specs.InPlace.{InPlace, in_text, in_body}
use Rattle.el_design.specs.Turns.{is_test_of, is_step_of, stored_by, goes_on, IsCounted, HasBound, bound_for, of_for, endless_for}
use Rattle.el_design.specs.Rules.{IsFinite}
use Rattle.el_design.specs.Sound.{IsStatement, IsSound}
use Rattle.el_design.specs.Fits.{IsSoundText}
use Rattle.el_design.specs.Progression.{value_after}
use Rattle.el_design.specs.CountedLoops.{first_of, step_of, tests}
use Rattle.el_design.specs.Exits.{NotCounted, Says, TellsRightly}
use Rattle.el_design.specs.Loops.{enabled_by, stored_in, body_stores, stores_to, stored_in_place, is_counted, first_off, told_of_turns, told_of}
use Rattle.el_design.proofs.OrderLists.{con_nil, con_head, con_tail, con_cases}
use Rattle.el_design.proofs.Texts.{holds_is}
use Rattle.el_design.proofs.WaysPuts.{clash, has_con, con_has}
use Rattle.el_design.proofs.Nested.{made_of_task}
use Rattle.el_design.proofs.FitStatements.{task_body}
use Rattle.el_design.proofs.CountedLoops.{ends_by_values}
use Rattle.el_design.proofs.Counts.{Finds, finds}

-- ---- lists

flat_from : {X Y : Type 0} (f : X → List Y) (xs : List X) (y : Y) → Contains (flat_map f xs) y → (x : X) × Contains xs x × Contains (f x) y
flat_from f [] y c = absurd (con_nil y c)
flat_from f (x ∷ xs) y c = go (Contains-append_cases (f x) (flat_map f xs) y (subst (λ l. Contains l y) (flat_map-cons f x xs) c)) (flat_from f xs y)
  where
    go : Contains (f x) y ⊎ Contains (flat_map f xs) y → (Contains (flat_map f xs) y → (z : _) × Contains xs z × Contains (f z) y) → (z : _) × Contains (x ∷ xs) z × Contains (f z) y
    go (inl h) more = (x, con_head x xs, h)
    go (inr h) more = let r = more h in (r.0, con_tail x r.0 xs r.1, r.2)

flat_to : {X Y : Type 0} (f : X → List Y) (xs : List X) (x : X) (y : Y) → Contains xs x → Contains (f x) y → Contains (flat_map f xs) y
flat_to f [] x y c h = absurd (con_nil x c)
flat_to f (z ∷ xs) x y c h = subst (λ l. Contains l y) (sym (flat_map-cons f z xs)) (go (con_cases z x xs c) (flat_to f xs x y))
  where
    go : (z ≡ x) ⊎ Contains xs x → (Contains xs x → Contains (f x) y → Contains (flat_map f xs) y) → Contains (f z ++ flat_map f xs) y
    go (inl e) more = Contains-append_left (f z) (flat_map f xs) y (subst (λ w. Contains (f w) y) (sym e) h)
    go (inr k) more = Contains-append_right (f z) (flat_map f xs) y (more k h)

flat_same : {X Y : Type 0} (f g : X → List Y) (xs : List X) → ((x : X) → Contains xs x → f x ≡ g x) → flat_map f xs ≡ flat_map g xs
flat_same f g [] h = refl
flat_same f g (x ∷ xs) h = flat_map-cons f x xs ∙ ap₂ (λ a b. a ++ b) (h x (con_head x xs)) (flat_same f g xs (λ y c. h y (con_tail x y xs c))) ∙ sym (flat_map-cons g x xs)

-- ---- what a statement in place stores to

record Enabling (x : Statement) (t : ℕ) : Type 0 where
  at : Place
  ins : List Expr
  outs : List Lvalue
  is : x ≡ Enable at t ins outs

enabling : (x : Statement) (t : ℕ) → Contains (enabled_by x) t → Enabling x t
enabling (Enable at u ins outs) t c = go (con_cases u t [] c)
  where
    go : (u ≡ t) ⊎ Contains [] t → Enabling (Enable at u ins outs) t
    go (inl e) = record { at = at; ins = ins; outs = outs; is = ap (λ n. Enable at n ins outs) e }
    go (inr h) = absurd (con_nil t h)
enabling Null t c = absurd (con_nil t c)
enabling Skip t c = absurd (con_nil t c)
enabling (Seq a b) t c = absurd (con_nil t c)
enabling (Block at m body) t c = absurd (con_nil t c)
enabling (Assign at to v held) t c = absurd (con_nil t c)
enabling (If at v a b) t c = absurd (con_nil t c)
enabling (Case at on arms) t c = absurd (con_nil t c)
enabling (Arm on labels body others) t c = absurd (con_nil t c)
enabling (For at v a b n body) t c = absurd (con_nil t c)
enabling (While at v body) t c = absurd (con_nil t c)
enabling (Repeat at v body) t c = absurd (con_nil t c)
enabling (Forever at body) t c = absurd (con_nil t c)
enabling (Wait at falling) t c = absurd (con_nil t c)
enabling (Disable at m) t c = absurd (con_nil t c)
enabling (Host at f ins result outs) t c = absurd (con_nil t c)

module _ (d : Flat) where
  abbrev stored_at : (ℕ → List ℕ) → Statement → List ℕ
  stored_at tasks x = stored_by d x ++ flat_map tasks (enabled_by x)

  -- a statement in place that stores to a variable
  record Storing (s : Statement) (v : ℕ) : Type 0 where
    by : Statement
    there : InPlace d.tasks by s
    stores : Contains (stored_by d by) v

  -- a task whose body has one
  record InTask (t v : ℕ) : Type 0 where
    task : FlatTask
    is : slice_get d.tasks t ≡ Some task
    has : Storing task.body v

  by_task : (c : ℕ → List ℕ) (s : Statement) (v : ℕ) → ((t : ℕ) → Contains (c t) v → InTask t v) → Contains (stored_in d c s) v → Storing s v
  by_task c s v f h = go x.0 x.1 (Contains-append_cases (stored_by d x.0) (flat_map c (enabled_by x.0)) v x.2)
    where
      x : (y : Statement) × Contains (texts s) y × Contains (stored_at c y) v
      x = flat_from (stored_at c) (texts s) v h

      go : (y : Statement) → Contains (texts s) y → Contains (stored_by d y) v ⊎ Contains (flat_map c (enabled_by y)) v → Storing s v
      go y i (inl k) = record { by = y; there = in_text i; stores = k }
      go y i (inr k) =
          let t = flat_from c (enabled_by y) v k in
          let e : Enabling y t.0 = enabling y t.0 t.1 in
          let r : InTask t.0 v = f t.0 t.2 in
          record { by = r.has.by; there = in_body (subst (λ z. Contains (texts s) z) e.is i) r.is r.has.there; stores = r.has.stores }

  in_some_task : (c : ℕ → List ℕ) (t v : ℕ) → ((body : Statement) → Contains (stored_in d c body) v → Storing body v) → Contains (body_stores d c (slice_get d.tasks t)) v → InTask t v
  in_some_task c t v f = go (slice_get d.tasks t) refl
    where
      go : (o : Option FlatTask) → slice_get d.tasks t ≡ o → Contains (body_stores d c o) v → InTask t v
      go None e h = absurd (con_nil v h)
      go (Some task) e h = record { task = task; is = e; has = f task.body h }

  stored_found : (n : ℕ) (s : Statement) (v : ℕ) → Contains (stored_in d (stores_to d n) s) v → Storing s v
  stored_found zero s v c = by_task (stores_to d zero) s v (λ t h. absurd (con_nil v h)) c
  stored_found (suc n) s v c = by_task (stores_to d (suc n)) s v (λ t h. in_some_task (stores_to d n) t v (λ body k. stored_found n body v k) h) c

  module _ (finite : IsFinite d) where
    abbrev tasks : ℕ → List ℕ
    tasks = stores_to d (length d.tasks)

    same : (c e : ℕ → List ℕ) (s : Statement) → ((at : Place) (t : ℕ) (ins : List Expr) (outs : List Lvalue) → Contains (texts s) (Enable at t ins outs) → c t ≡ e t) → stored_in d c s ≡ stored_in d e s
    same c e s f = flat_same (stored_at c) (stored_at e) (texts s) (λ x i. ap (λ l. stored_by d x ++ l) (flat_same c e (enabled_by x) (λ t h.
        let k : Enabling x t = enabling x t h in f k.at t k.ins k.outs (subst (λ y. Contains (texts s) y) k.is i))))

    task_is : (t : ℕ) (task : FlatTask) → slice_get d.tasks t ≡ Some task → tasks t ≡ stored_in d tasks task.body
    task_is t task e =
        made_of_task d finite (Unit {0}) (List ℕ) [] (λ c x i. stored_in d (λ q. c q tt) x.body) (λ c o i. body_stores d (λ q. c q tt) o) (λ n q i. stores_to d n q) (λ c i. refl) (λ c x i. refl) (λ q i. refl) (λ n q i. refl)
        (λ a b x f i. same (λ q. a q tt) (λ q. b q tt) x.body (λ at q ins outs h. f at q ins outs h tt)) t task e tt

    stored_has : (x : Statement) (v : ℕ) (s : Statement) → InPlace d.tasks x s → Contains (stored_by d x) v → Contains (stored_in_place d s) v
    stored_has x v s (in_text c) h = flat_to (stored_at tasks) (texts s) x v c (Contains-append_left (stored_by d x) _ v h)
    stored_has x v s (in_body {at = at} {t = t} {ins = ins} {outs = outs} {task = task} c e i) h =
        let below : Contains (tasks t) v = subst (λ l. Contains l v) (sym (task_is t task e)) (stored_has x v task.body i h) in
        flat_to (stored_at tasks) (texts s) (Enable at t ins outs) v c (Contains-append_right (stored_by d (Enable at t ins outs)) _ v (flat_to tasks (t ∷ []) t v (con_head t []) below))

    -- ---- loops

    all_four : (p q r s : Bool) → (p && q && r && not s) ≡ true → (p ≡ true) × (q ≡ true) × (r ≡ true) × (s ≡ false)
    all_four true true true false e = (refl, refl, refl, refl)
    all_four true true true true e = cc
    all_four true true false s e = cc
    all_four true false r s e = cc
    all_four false q r s e = cc

    four_are : (p q r s : Bool) → p ≡ true → q ≡ true → r ≡ true → s ≡ false → (p && q && r && not s) ≡ true
    four_are true true true false e f g h = refl
    four_are true true true true e f g h = cc
    four_are true true false s e f g h = cc
    four_are true false r s e f g h = cc
    four_are false q r s e f g h = cc

    counted_is : (v : ℕ) (first test next : Expr) (body : Statement) → is_counted d v first test next body ≡ true → IsCounted d v first test next body
    counted_is v first test next body h =
        let parts = all_four (is_constant first) (is_test_of v test) (is_step_of v next) (contains_number (stored_in_place d body) v) h in
        record {
          start_is = parts.0;
          test_is = parts.1;
          step_is = parts.2;
          free = λ x i c. clash (contains_number (stored_in_place d body) v) (has_con (stored_in_place d body) v (stored_has x v body i c)) parts.3;
        }

    is_so : (v : ℕ) (first test next : Expr) (body : Statement) → IsCounted d v first test next body → is_counted d v first test next body ≡ true
    is_so v first test next body c =
        four_are (is_constant first) (is_test_of v test) (is_step_of v next) (contains_number (stored_in_place d body) v) c.start_is c.test_is c.step_is (shut (contains_number (stored_in_place d body) v) refl)
      where
        shut : (b : Bool) → contains_number (stored_in_place d body) v ≡ b → contains_number (stored_in_place d body) v ≡ false
        shut false e = e
        shut true e = let r : Storing body v = stored_found (length d.tasks) body v (con_has (stored_in_place d body) v e) in absurd (c.free r.by r.there r.stores)

    bound_counted : (at : Place) (v : ℕ) (first test next : Expr) (body : Statement) → HasBound d (For at v first test next body) → IsCounted d v first test next body
    bound_counted at v first test next body (bound_for c) = c

    -- a variable's values come again after as many turns as it has values
    comes_again : (w start step k : ℕ) → value_after w start step k ≡ value_after w start step (k % 2 ^ w)
    comes_again w start step k =
        sym (add-mod-mod start (k * step) (2 ^ w)) ∙ ap (λ x. (start + x) % 2 ^ w) (sym (mul-mod_first k step (2 ^ w))) ∙ add-mod-mod start (k % 2 ^ w * step) (2 ^ w)

    for_told : (at : Place) (v : ℕ) (first test next : Expr) (body : Statement) → IsStatement d (For at v first test next body) → Says d (For at v first test next body) (told_of d (For at v first test next body))
    for_told at v first test next body s = go (is_counted d v first test next body) refl
      where
        turns_told : IsCounted d v first test next body → (o : Option ℕ) → Finds (goes_on d v first test next) (2 ^ width_of d v) o → Says d (For at v first test next body) (told_of_turns o)
        turns_told c (Some n) f = of_for c f.1.0 f.1.1
        turns_told c None f = endless_for c (λ k.
            let values = ends_by_values d at v first test next body s c in
            values.each_turn k ∙ ap (tests d v test) (comes_again (width_of d v) (first_of d first) (step_of d next) k) ∙ sym (values.each_turn (k % 2 ^ width_of d v))
            ∙ f (k % 2 ^ width_of d v) (mod_below k (2 ^ width_of d v) (pow_pos (width_of d v))))

        go : (b : Bool) → is_counted d v first test next body ≡ b →
            Says d (For at v first test next body) (if b then told_of_turns (first_off (goes_on d v first test next) (2 ^ width_of d v)) else NotCounted)
        go true e = turns_told (counted_is v first test next body e) (first_off (goes_on d v first test next) (2 ^ width_of d v)) (finds (goes_on d v first test next) (2 ^ width_of d v))
        go false e = λ h. clash (is_counted d v first test next body) (is_so v first test next body (bound_counted at v first test next body h)) e

    module _ (sound : IsSound d) where
      sound_in_place : (x s : Statement) → IsSoundText d s → InPlace d.tasks x s → IsStatement d x
      sound_in_place x s f (in_text c) = f x ((holds_is s x).1 c)
      sound_in_place x s f (in_body {t = t} {task = task} c e i) = sound_in_place x task.body (task_body d sound t task e) i

      pub are_told : (s : Statement) → IsSoundText d s → TellsRightly d (told_of d) s
      are_told s f at v first test next body i = for_told at v first test next body (sound_in_place (For at v first test next body) s f i)

pub loops_are_told : (d : Flat) → IsSound d → IsFinite d → (s : Statement) → IsSoundText d s → TellsRightly d (told_of d) s
loops_are_told d sound finite s f = are_told d finite sound s f
