-- A statement that is left from a wait in it, and the same statement run from its start: where no walk leads from its start to that exit, the two have
-- no more events together than its size, since they pass different parts of it.
use Rattle.std.proofs.Common.{◌≡◌, ◌⊎◌, inl, inr, ℕ, zero, suc, ◌+◌, ◌*◌, ◌<◌, ◌≤◌, ◌&&◌, ◌==◌, Bool, true, false, if◌then◌else◌, List, [], ◌∷◌, ◌++◌, Option, Some, None, Contains, slice_get, get_or, zip, map, length, refl, sym, ◌∙◌, ap, subst, arith, suc-mul, one-mul, mul-le-mul, le_refl}
use Rattle.xt_base.specs.declared.refusals.Place.{Place}
use Rattle.xt_bits.specs.Word.{Word}
use Rattle.el_design.specs.Plain.{Expr, Lvalue, Statement, Seq, Block, If, Case, Arm, For, While, Repeat, Forever, Wait, Enable, FlatTask, Flat}
use Rattle.el_design.specs.Store.{Store}
use Rattle.el_design.specs.Assign.{has_label, arm_chosen}
use Rattle.el_design.specs.Stack.{Work, Do, End, Return, Step, Turns}
use Rattle.el_design.specs.InPlace.{Stands, itself, Meets}
use Rattle.el_design.specs.InPlace as place
use Rattle.el_design.specs.Turns.{fixed, goes_on, turned, IsCounted, HasTurns, IsEndlessFor}
use Rattle.el_design.specs.Walk.{choices, is_constant_case, HasWalk}
use Rattle.el_design.specs.Sizes.{size_of, exprs_size, expr_size, counting, task_size}
use Rattle.el_design.specs.Rules.{max_turns, IsClean}
use Rattle.el_design.specs.Sound.{IsSound, ChooseBy, IsPlainVariable}
use Rattle.el_design.specs.Act.{copied_in, copied_out}
use Rattle.el_design.specs.Alone.{Doing, Outcome, Falls, Stops, Jumps, Lost, seen, counted, writing, stepped, is_tested, and_then, closed, returned, loop, turns_of, enabling, go, enabled_at, setting}
use Rattle.el_design.proofs.Texts.{free_met}
use Rattle.el_design.proofs.OrderLists.{con_head, con_tail}
use Rattle.el_design.proofs.OrderRule.{CountsEnough, label_way, split, stable, spins_not, no_end, tested_way, counted_turns, IsShaped, shaped_all, turn_first, turn_next, turn_test}
use Rattle.el_design.proofs.OrderWrites.{left_in}
use Rattle.el_design.proofs.OrderWalk.{Surely, sure, surely, either, IsConstantLoop, Leaves, leaves_seq, leaves_first, leaves_block, leaves_named, leaves_ended, leaves_through, leaves_then, leaves_else, LeavesArms, leaves_case, leaves_enable, leaves_task, leaves_enabled, leaves_forever, leaves_while_turn, leaves_for, leaves_for_turn, leaves_repeat, leaves_repeat_turn}
use Rattle.el_design.proofs.OrderOutcome.{FreeIn, Kept, kept_store, kept_then, Fine, Sane, sane_map, sane_then, sane_closed, sane_returned, InTurn, Paused, at_wait, in_first, in_rest, in_block, in_named, in_then, in_else, in_case, in_arm, in_others, in_for, in_while, in_repeat, in_forever, in_task, Rests, at_least, turns_fit}
use Rattle.el_design.proofs.OrderSane.{Here, here_part, here_named, Stated, Armed, Claimed, fine_part, three_sizes, some_turns, for_turns, endless_turns, repeat_turns, repeat_ends, AtTest, ForSpent, ForLeft, for_sane, step_kept, RepeatSpent, RepeatLeft, repeat_sane, while_never, while_sane, has_walk, here_task, forever_ends}
use Rattle.el_design.proofs.OrderDepth.{sizes_at, any, started, sound_tasks, tasks_stated, under_few}
use Rattle.el_design.proofs.OrderResume.{resume}
use Rattle.el_design.proofs.OrderAlike.{Alike, alike, alike_tasks}

-- ---- bounds of outcomes

abbrev pub AnyLeft : Option ℕ → Doing → Type 0
AnyLeft e y = Unit {0}

abbrev pub AnyRest : List Work → Doing → Type 0
AnyRest l y = Unit {0}

-- an outcome, with so many events more, has no more than n
abbrev pub With : ℕ → ℕ → Outcome → Type 0
With k n o = Sane AnyLeft (λ u. k + u.events ≤ n) AnyRest o

pub with_stable : (k n : ℕ) (o : Outcome) → Surely (With k n o) → With k n o
with_stable k n (Falls y) s = (tt, stable (k + y.events) n (surely s (λ w. sure w.1)))
with_stable k n (Stops l y) s = (tt, stable (k + y.events) n (surely s (λ w. sure w.1)))
with_stable k n (Jumps m y) s = (tt, stable (k + y.events) n (surely s (λ w. sure w.1)))
with_stable k n Lost s = s (λ w. w)

pub with_more : (k n j m : ℕ) (o : Outcome) → ((u : Doing) → k + u.events ≤ n → j + u.events ≤ m) → With k n o → With j m o
with_more k n j m o f w = sane_map AnyLeft AnyLeft (λ u. k + u.events ≤ n) (λ u. j + u.events ≤ m) AnyRest AnyRest (λ e y l g. tt) f (λ l y r g. tt) o w

pub with_sane : (L : Option ℕ → Doing → Type 0) (F : Doing → Type 0) (R : List Work → Doing → Type 0) (k n : ℕ) (o : Outcome) → ((u : Doing) → F u → k + u.events ≤ n) → Sane L F R o → With k n o
with_sane L F R k n o f w = sane_map L AnyLeft F (λ u. k + u.events ≤ n) R AnyRest (λ e y l g. tt) f (λ l y r g. tt) o w

pub with_alike : (k n : ℕ) (o p : Outcome) → Alike o p → With k n o → With k n p
with_alike k n (Falls y) (Falls z) a w = (tt, subst (λ u. k + u.events ≤ n) a w.1)
with_alike k n (Falls y) (Stops l z) a w = absurd a
with_alike k n (Falls y) (Jumps m z) a w = absurd a
with_alike k n (Falls y) Lost a w = absurd a
with_alike k n (Stops l y) (Falls z) a w = absurd a
with_alike k n (Stops l y) (Stops q z) a w = (tt, subst (λ u. k + u.events ≤ n) a w.1)
with_alike k n (Stops l y) (Jumps m z) a w = absurd a
with_alike k n (Stops l y) Lost a w = absurd a
with_alike k n (Jumps m y) (Falls z) a w = absurd a
with_alike k n (Jumps m y) (Stops l z) a w = absurd a
with_alike k n (Jumps m y) (Jumps q z) a w = (tt, subst (λ u. k + u.events ≤ n) a.1 w.1)
with_alike k n (Jumps m y) Lost a w = absurd a
with_alike k n Lost p a w = absurd w

pub with_if : (k n : ℕ) (t : Bool) (a b : Outcome) → (t ≡ true → With k n a) → (t ≡ false → With k n b) → With k n (if t then a else b)
with_if k n true a b f g = f refl
with_if k n false a b f g = g refl

pub sane_both : (L M : Option ℕ → Doing → Type 0) (F G : Doing → Type 0) (R S : List Work → Doing → Type 0) (o : Outcome) → Sane L F R o → Sane M G S o → Sane (λ e y. L e y × M e y) (λ y. F y × G y) (λ l y. R l y × S l y) o
sane_both L M F G R S (Falls y) s t = ((s.0, t.0), (s.1, t.1))
sane_both L M F G R S (Stops l y) s t = ((s.0, t.0), (s.1, t.1))
sane_both L M F G R S (Jumps m y) s t = ((s.0, t.0), (s.1, t.1))
sane_both L M F G R S Lost s t = s

-- what is known of an outcome if something doesn't hold
pub sane_given : (P : Type 0) (L : Option ℕ → Doing → Type 0) (F G : Doing → Type 0) (R : List Work → Doing → Type 0) (o : Outcome) → Sane L F R o → ((P → ⊥) → Sane AnyLeft G AnyRest o) → Sane L (λ y. F y × ((P → ⊥) → G y)) R o
sane_given P L F G R (Falls y) s t = (s.0, (s.1, λ n. (t n).1))
sane_given P L F G R (Stops l y) s t = (s.0, (s.1, λ n. (t n).1))
sane_given P L F G R (Jumps m y) s t = (s.0, (s.1, λ n. (t n).1))
sane_given P L F G R Lost s t = s

-- an outcome that doesn't fall through
abbrev pub NoFall : Outcome → Type 0
NoFall (Falls y) = ⊥
NoFall (Stops l y) = Unit {0}
NoFall (Jumps m y) = Unit {0}
NoFall Lost = Unit {0}

pub no_fall : (L : Option ℕ → Doing → Type 0) (F : Doing → Type 0) (R : List Work → Doing → Type 0) (o : Outcome) → Sane L F R o → ((y : Doing) → L None y → ⊥) → NoFall o
no_fall L F R (Falls y) s n = n y s.0
no_fall L F R (Stops l y) s n = tt
no_fall L F R (Jumps m y) s n = tt
no_fall L F R Lost s n = tt

pub still_none : (o : Outcome) (f : Doing → Outcome) → NoFall o → NoFall (and_then o f)
still_none (Falls y) f n = absurd n
still_none (Stops l y) f n = tt
still_none (Jumps m y) f n = tt
still_none Lost f n = tt

pub with_none : (k n : ℕ) (o : Outcome) (f : Doing → Outcome) → NoFall o → With k n o → With k n (and_then o f)
with_none k n (Falls y) f x w = absurd x
with_none k n (Stops l y) f x w = w
with_none k n (Jumps m y) f x w = w
with_none k n Lost f x w = w

module _ (d : Flat) (p : ℕ) (clean : IsClean d) (sound : IsSound d) (times : List ℕ → Statement → ℕ) (counts : CountsEnough d times) (nets : List Word) (turns : ℕ) (enough : max_turns < turns) where
  abbrev pub size : ℕ → List ℕ → Statement → ℕ
  size b marks s = size_of (sizes_at d times b) marks s

  abbrev pub LeftBy : Bool → Expr → List Work → Statement → Option ℕ → Type 0
  LeftBy false on below s e = Leaves d below s e
  LeftBy true on below s e = LeavesArms d below on s e

  -- from x the statement was left by e in y, or stopped there; and any run from its start
  abbrev pub Beside : Bool → Expr → ℕ → List ℕ → Statement → List Work → Doing → Option ℕ → Doing → Type 0
  Beside chosen on b marks s below x e y = (a : ℕ) → b ≤ a → (z : Doing) → IsShaped d z.store → (LeftBy chosen on below s e → ⊥) →
      With y.events (size b marks s + (x.events + z.events)) (go (setting d nets turns a) chosen s below z)

  abbrev pub Resumed : Bool → Expr → ℕ → List ℕ → Statement → List Work → Doing → Outcome → Type 0
  Resumed chosen on b marks s below x o = Sane (λ e y. Beside chosen on b marks s below x e y) (Fine d marks s (size b marks s) x) (Rests d marks s below) o

  pub lift : (chosen : Bool) (on : Expr) (b : ℕ) (marks : List ℕ) (s : Statement) (below : List Work) (x : Doing) (o : Outcome) → choices s ≡ s ∷ [] → arm_chosen d (fixed d) s ≡ s →
      ((a : ℕ) (z : Doing) → go (setting d nets turns a) chosen s below z ≡ go (setting d nets turns a) false s below z) → Resumed false any b marks s below x o → Resumed chosen on b marks s below x o
  lift false on b marks s below x o e f g h = h
  lift true on b marks s below x o e f g h =
      sane_map (λ e y. Beside false any b marks s below x e y) (λ e y. Beside true on b marks s below x e y) (Fine d marks s (size b marks s) x) (Fine d marks s (size b marks s) x) (Rests d marks s below) (Rests d marks s below)
      (λ q y k fy a l z sh n. subst (λ o. With y.events (size b marks s + (x.events + z.events)) o) (sym (g a z))
      (k a l z sh (λ v. n (record { chosen = s; among = subst (λ l. Contains l s) (sym e) (con_head s []); fixed_choice = λ c. sym f; leaves = v }))))
      (λ y g. g) (λ l y r g. r) o h

  module _ (b : ℕ) (under : List ℕ) (room : length d.tasks ≤ length under + b) where
    pub start : (a : ℕ) → b ≤ a → (s : Statement) (marks : List ℕ) (below : List Work) → Here d p marks s below under → (z : Doing) → IsShaped d z.store →
        Stated d p clean times counts nets turns enough marks s below (size b marks s) z (go (setting d nets turns a) false s below z)
    start a l s marks below h z sh = started d p clean sound times counts nets turns enough a b under l room false any s marks below h (λ e. absurd (let f : false ≡ true = e in cc)) z sh

    pub start_arms : (a : ℕ) → b ≤ a → (on : Expr) (s : Statement) (marks : List ℕ) (below : List Work) → Here d p marks s below under → ChooseBy on s → (z : Doing) → IsShaped d z.store →
        Armed d p clean times counts nets turns enough on marks s below (size b marks s) z (go (setting d nets turns a) true s below z)
    start_arms a l on s marks below h c z sh = started d p clean sound times counts nets turns enough a b under l room true on s marks below h (λ e. c) z sh

    shaped : (A : ℕ → Type 0) (x y : Doing) → IsShaped d x.store → Kept A x y → IsShaped d y.store
    shaped A x y s k = k.shape ∙ s

    abbrev fine_of : List ℕ → List ℕ → Statement → Statement → ℕ → ℕ → Type 0
    fine_of marks inner s t n m = (x y z : Doing) → ((v : ℕ) → FreeIn d marks s v → FreeIn d inner t v) → m + y.events ≤ n + x.events → Kept (FreeIn d marks s) x y → Fine d inner t m y z → Fine d marks s n x z

    -- ---- one after another

    pub res_first : (u v : Statement) (marks : List ℕ) (below : List Work) → Here d p marks (Seq u v) below under → (x : Doing) → IsShaped d x.store → (a : ℕ) → b ≤ a → (o : Outcome) →
        Resumed false any b marks u (Do v ∷ below) x o → Resumed false any b marks (Seq u v) below x (and_then o (go (setting d nets turns a) false v below))
    res_first u v marks below h x sh a l o ih =
        sane_then (λ e y. Beside false any b marks u (Do v ∷ below) x e y) (λ e y. Beside false any b marks (Seq u v) below x e y) (Fine d marks u (size b marks u) x) (Fine d marks (Seq u v) (size b marks (Seq u v)) x)
        (Rests d marks u (Do v ∷ below)) (Rests d marks (Seq u v) below) o (go (setting d nets turns a) false v below) ih
        (λ y bu fu. sane_map (λ e w. Leaves d below v e) (λ e w. Beside false any b marks (Seq u v) below x e w) (Fine d marks v (size b marks v) y) (Fine d marks (Seq u v) (size b marks (Seq u v)) x)
        (Rests d marks v below) (Rests d marks (Seq u v) below)
        (λ e w lv fv. later y w e bu fu lv fv)
        (λ w fv. fine_part d p clean times counts nets turns enough marks marks (Seq u v) v (size b marks (Seq u v)) (size b marks v) x y w (λ v f o x st. f o x (place.in_rest st)) (let n : y.events ≤ size b marks u + x.events = fu.spent in omega arith)
        (from_first x y fu) fv)
        (λ l w r g at q k i. in_rest (r at q k i)) (go (setting d nets turns a) false v below y) (start a l v marks below hv y (shaped (FreeIn d marks u) x y sh fu.kept)))
        (λ m y bu fu. now m y bu)
        (λ y fu. fine_part d p clean times counts nets turns enough marks marks (Seq u v) u (size b marks (Seq u v)) (size b marks u) x x y (λ v f o x st. f o x (place.in_first st)) (omega arith) (kept_store (FreeIn d marks (Seq u v)) x x refl) fu)
        (λ l y r g at q k i. in_first (r at q k i))
      where
        hu : Here d p marks u (Do v ∷ below) under
        hu = here_part (λ tasks m o x st. place.in_first st) (λ m e. e) h

        hv : Here d p marks v below under
        hv = here_part (λ tasks m o x st. place.in_rest st) (λ m e. e) h

        from_first : (x y : Doing) → Fine d marks u (size b marks u) x y → Kept (FreeIn d marks (Seq u v)) x y
        from_first x y fu = kept_then (FreeIn d marks (Seq u v)) (FreeIn d marks (Seq u v)) (FreeIn d marks u) x x y (λ v f. f) (λ v f o x st. f o x (place.in_first st)) (kept_store (FreeIn d marks (Seq u v)) x x refl) fu.kept

        later : (y w : Doing) (e : Option ℕ) → Beside false any b marks u (Do v ∷ below) x None y → Fine d marks u (size b marks u) x y → Leaves d below v e → Fine d marks v (size b marks v) y w → Beside false any b marks (Seq u v) below x e w
        later y w e bu fu lv fv a l z shz n =
            let never : Leaves d (Do v ∷ below) u None → ⊥ = λ lu. n (leaves_seq d below u v e lu lv) in
            let f : w.events ≤ size b marks v + y.events = fv.spent in
            let su : Stated d p clean times counts nets turns enough marks u (Do v ∷ below) (size b marks u) z (go (setting d nets turns a) false u (Do v ∷ below) z) = start a l u marks (Do v ∷ below) hu z shz in
            with_none w.events _ (go (setting d nets turns a) false u (Do v ∷ below) z) (go (setting d nets turns a) false v below)
            (no_fall (λ q t. Leaves d (Do v ∷ below) u q) _ _ _ su (λ t lt. never lt))
            (with_more y.events (size b marks u + (x.events + z.events)) w.events _ (go (setting d nets turns a) false u (Do v ∷ below) z) (λ t g. omega arith) (bu a l z shz never))

        now : (m : ℕ) (y : Doing) → Beside false any b marks u (Do v ∷ below) x (Some m) y → Beside false any b marks (Seq u v) below x (Some m) y
        now m y bu a l z shz n =
            let never : Leaves d (Do v ∷ below) u (Some m) → ⊥ = λ lu. n (leaves_first d below u v m lu) in
            sane_then (λ q t. Leaves d (Do v ∷ below) u q × AnyLeft q t) AnyLeft (λ t. Fine d marks u (size b marks u) z t × (y.events + t.events ≤ size b marks u + (x.events + z.events))) (λ t. y.events + t.events ≤ size b marks (Seq u v) + (x.events + z.events))
            (λ q t. Rests d marks u (Do v ∷ below) q t × AnyRest q t) AnyRest (go (setting d nets turns a) false u (Do v ∷ below) z) (go (setting d nets turns a) false v below)
            (sane_both (λ q t. Leaves d (Do v ∷ below) u q) AnyLeft (Fine d marks u (size b marks u) z) (λ t. y.events + t.events ≤ size b marks u + (x.events + z.events)) (Rests d marks u (Do v ∷ below)) AnyRest (go (setting d nets turns a) false u (Do v ∷ below) z)
            (start a l u marks (Do v ∷ below) hu z shz) (bu a l z shz never))
            (λ t lt ft. with_sane (λ q r. Leaves d below v q) (Fine d marks v (size b marks v) t) (Rests d marks v below) y.events _ (go (setting d nets turns a) false v below t)
            (λ r g. let i : r.events ≤ size b marks v + t.events = g.spent in let j : y.events + t.events ≤ size b marks u + (x.events + z.events) = ft.1 in omega arith) (start a l v marks below hv t (shaped (FreeIn d marks u) z t shz ft.0.kept)))
            (λ m t lt ft. tt)
            (λ t ft. let j : y.events + t.events ≤ size b marks u + (x.events + z.events) = ft.1 in omega arith)
            (λ q t r g. tt)

    pub res_rest : (u v : Statement) (marks : List ℕ) (below : List Work) → Here d p marks (Seq u v) below under → (x : Doing) → (o : Outcome) →
        Resumed false any b marks v below x o → Resumed false any b marks (Seq u v) below x o
    res_rest u v marks below h x o ih =
        sane_map (λ e y. Beside false any b marks v below x e y) (λ e y. Beside false any b marks (Seq u v) below x e y) (Fine d marks v (size b marks v) x) (Fine d marks (Seq u v) (size b marks (Seq u v)) x)
        (Rests d marks v below) (Rests d marks (Seq u v) below)
        (λ e y bv fv. beside e y bv fv)
        (λ y fv. fine_part d p clean times counts nets turns enough marks marks (Seq u v) v (size b marks (Seq u v)) (size b marks v) x x y (λ v f o x st. f o x (place.in_rest st)) (omega arith) (kept_store (FreeIn d marks (Seq u v)) x x refl) fv)
        (λ l y r g at q k i. in_rest (r at q k i)) o ih
      where
        hu : Here d p marks u (Do v ∷ below) under
        hu = here_part (λ tasks m o x st. place.in_first st) (λ m e. e) h

        beside : (e : Option ℕ) (y : Doing) → Beside false any b marks v below x e y → Fine d marks v (size b marks v) x y → Beside false any b marks (Seq u v) below x e y
        beside e y bv fv a l z shz n =
            let f : y.events ≤ size b marks v + x.events = fv.spent in
            sane_then (λ q t. Leaves d (Do v ∷ below) u q) AnyLeft (Fine d marks u (size b marks u) z) (λ t. y.events + t.events ≤ size b marks (Seq u v) + (x.events + z.events))
            (Rests d marks u (Do v ∷ below)) AnyRest (go (setting d nets turns a) false u (Do v ∷ below) z) (go (setting d nets turns a) false v below) (start a l u marks (Do v ∷ below) hu z shz)
            (λ t lt ft. with_more y.events (size b marks v + (x.events + t.events)) y.events _ (go (setting d nets turns a) false v below t)
            (λ r g. let j : t.events ≤ size b marks u + z.events = ft.spent in omega arith)
            (bv a l t (shaped (FreeIn d marks u) z t shz ft.kept) (λ lv. n (leaves_seq d below u v e lt lv))))
            (λ m t lt ft. tt)
            (λ t ft. let j : t.events ≤ size b marks u + z.events = ft.spent in omega arith)
            (λ q t r g. tt)

    -- ---- blocks

    pub res_block : (at : Place) (body : Statement) (marks : List ℕ) (below : List Work) (x : Doing) (o : Outcome) → Resumed false any b marks body below x o → Resumed false any b marks (Block at None body) below x o
    res_block at body marks below x o ih =
        sane_map (λ e y. Beside false any b marks body below x e y) (λ e y. Beside false any b marks (Block at None body) below x e y) (Fine d marks body (size b marks body) x) (Fine d marks (Block at None body) (size b marks (Block at None body)) x)
        (Rests d marks body below) (Rests d marks (Block at None body) below)
        (λ e y bu fu a l z shz n. with_more y.events (size b marks body + (x.events + z.events)) y.events _ (go (setting d nets turns a) false body below z) (λ t g. omega arith) (bu a l z shz (λ v. n (leaves_block d below at body e v))))
        (λ y fu. fine_part d p clean times counts nets turns enough marks marks (Block at None body) body (size b marks (Block at None body)) (size b marks body) x x y (λ v f o x st. f o x (place.in_block st)) (omega arith) (kept_store (FreeIn d marks (Block at None body)) x x refl) fu)
        (λ l y r g at q k i. in_block (r at q k i)) o ih

    pub res_named : (at : Place) (m : ℕ) (body : Statement) (marks : List ℕ) (below : List Work) (x : Doing) (o : Outcome) → Resumed false any b (m ∷ marks) body (End m ∷ below) x o →
        Resumed false any b marks (Block at (Some m) body) below x (closed m o)
    res_named at m body marks below x o ih =
        sane_closed (λ e y. Beside false any b (m ∷ marks) body (End m ∷ below) x e y) (λ e y. Beside false any b marks (Block at (Some m) body) below x e y) (Fine d (m ∷ marks) body (size b (m ∷ marks) body) x) (Fine d marks (Block at (Some m) body) (size b marks (Block at (Some m) body)) x)
        (Rests d (m ∷ marks) body (End m ∷ below)) (Rests d marks (Block at (Some m) body) below) m o ih
        (λ y bu fu. through None None y (λ v. leaves_named d below at m body v) bu)
        (λ n y e bu fu. through (Some n) None y (λ v. leaves_ended d below at m n body e v) bu)
        (λ n y e bu fu. through (Some n) (Some n) y (λ v. leaves_through d below at m n body e v) bu)
        (λ y fu. fine_part d p clean times counts nets turns enough marks (m ∷ marks) (Block at (Some m) body) body (size b marks (Block at (Some m) body)) (size b (m ∷ marks) body) x x y (λ v f o x st. f o x (place.in_named st)) (omega arith) (kept_store (FreeIn d marks (Block at (Some m) body)) x x refl) fu)
        (λ l y r g at q k i. in_named (r at q k i))
      where
        through : (e q : Option ℕ) (y : Doing) → (Leaves d (End m ∷ below) body e → Leaves d below (Block at (Some m) body) q) → Beside false any b (m ∷ marks) body (End m ∷ below) x e y → Beside false any b marks (Block at (Some m) body) below x q y
        through e q y f bu a l z shz n =
            sane_closed AnyLeft AnyLeft (λ t. y.events + t.events ≤ size b (m ∷ marks) body + (x.events + z.events)) (λ t. y.events + t.events ≤ size b marks (Block at (Some m) body) + (x.events + z.events)) AnyRest AnyRest m
            (go (setting d nets turns a) false body (End m ∷ below) z) (bu a l z shz (λ v. n (f v))) (λ t l g. tt) (λ n t e l g. tt) (λ n t e l g. tt) (λ t g. omega arith) (λ q t r g. tt)

    -- ---- choices

    pub res_then : (at : Place) (test : Expr) (u v : Statement) (marks : List ℕ) (below : List Work) → Here d p marks (If at test u v) below under → (x : Doing) (o : Outcome) → Resumed false any b marks u below x o → Resumed false any b marks (If at test u v) below x o
    res_then at test u v marks below h x o ih =
        sane_map (λ e y. Beside false any b marks u below x e y) (λ e y. Beside false any b marks (If at test u v) below x e y) (Fine d marks u (size b marks u) x) (Fine d marks (If at test u v) (size b marks (If at test u v)) x)
        (Rests d marks u below) (Rests d marks (If at test u v) below)
        (λ e y bu fu a l z shz n. let f : y.events ≤ size b marks u + x.events = fu.spent in
        with_if y.events _ (is_tested (setting d nets turns a) test z) (go (setting d nets turns a) false u below (counted z)) (go (setting d nets turns a) false v below (counted z))
        (λ t. with_more y.events (size b marks u + (x.events + suc z.events)) y.events _ (go (setting d nets turns a) false u below (counted z)) (λ r g. omega arith)
        (bu a l (counted z) shz (λ lu. n (leaves_then d below at test u v e (tested_way (setting d nets turns a) z test true t) lu))))
        (λ t. with_sane (λ q r. Leaves d below v q) (Fine d marks v (size b marks v) (counted z)) (Rests d marks v below) y.events _ (go (setting d nets turns a) false v below (counted z))
        (λ r g. let j : r.events ≤ size b marks v + suc z.events = g.spent in omega arith) (start a l v marks below (here_part (λ tasks m o x st. place.in_else st) (λ m e. e) h) (counted z) shz)))
        (λ y fu. fine_part d p clean times counts nets turns enough marks marks (If at test u v) u (size b marks (If at test u v)) (size b marks u) x x y (λ v f o x st. f o x (place.in_then st)) (omega arith) (kept_store (FreeIn d marks (If at test u v)) x x refl) fu)
        (λ l y r g at q k i. in_then (r at q k i)) o ih

    pub res_else : (at : Place) (test : Expr) (u v : Statement) (marks : List ℕ) (below : List Work) → Here d p marks (If at test u v) below under → (x : Doing) (o : Outcome) → Resumed false any b marks v below x o → Resumed false any b marks (If at test u v) below x o
    res_else at test u v marks below h x o ih =
        sane_map (λ e y. Beside false any b marks v below x e y) (λ e y. Beside false any b marks (If at test u v) below x e y) (Fine d marks v (size b marks v) x) (Fine d marks (If at test u v) (size b marks (If at test u v)) x)
        (Rests d marks v below) (Rests d marks (If at test u v) below)
        (λ e y bu fu a l z shz n. let f : y.events ≤ size b marks v + x.events = fu.spent in
        with_if y.events _ (is_tested (setting d nets turns a) test z) (go (setting d nets turns a) false u below (counted z)) (go (setting d nets turns a) false v below (counted z))
        (λ t. with_sane (λ q r. Leaves d below u q) (Fine d marks u (size b marks u) (counted z)) (Rests d marks u below) y.events _ (go (setting d nets turns a) false u below (counted z))
        (λ r g. let j : r.events ≤ size b marks u + suc z.events = g.spent in omega arith) (start a l u marks below (here_part (λ tasks m o x st. place.in_then st) (λ m e. e) h) (counted z) shz))
        (λ t. with_more y.events (size b marks v + (x.events + suc z.events)) y.events _ (go (setting d nets turns a) false v below (counted z)) (λ r g. omega arith)
        (bu a l (counted z) shz (λ lu. n (leaves_else d below at test u v e (tested_way (setting d nets turns a) z test false t) lu)))))
        (λ y fu. fine_part d p clean times counts nets turns enough marks marks (If at test u v) v (size b marks (If at test u v)) (size b marks v) x x y (λ v f o x st. f o x (place.in_else st)) (omega arith) (kept_store (FreeIn d marks (If at test u v)) x x refl) fu)
        (λ l y r g at q k i. in_else (r at q k i)) o ih

    pub res_case : (at : Place) (by : Expr) (arms : Statement) (marks : List ℕ) (below : List Work) (x : Doing) (o : Outcome) → Resumed true by b marks arms below x o → Resumed false any b marks (Case at by arms) below x o
    res_case at by arms marks below x o ih =
        sane_map (λ e y. Beside true by b marks arms below x e y) (λ e y. Beside false any b marks (Case at by arms) below x e y) (Fine d marks arms (size b marks arms) x) (Fine d marks (Case at by arms) (size b marks (Case at by arms)) x)
        (Rests d marks arms below) (Rests d marks (Case at by arms) below)
        (λ e y bu fu a l z shz n. with_more y.events (size b marks arms + (x.events + suc z.events)) y.events _ (go (setting d nets turns a) true arms below (counted z)) (λ r g. omega arith)
        (bu a l (counted z) shz (λ lu. n (leaves_case d below at by arms e lu))))
        (λ y fu. fine_part d p clean times counts nets turns enough marks marks (Case at by arms) arms (size b marks (Case at by arms)) (size b marks arms) x x y (λ v f o x st. f o x (place.in_case st)) (omega arith) (kept_store (FreeIn d marks (Case at by arms)) x x refl) fu)
        (λ l y r g at q k i. in_case (r at q k i)) o ih

    arm_fine : (by : Expr) (labels : List Expr) (body others : Statement) (marks : List ℕ) (x y : Doing) → Fine d marks body (size b marks body) x y → Fine d marks (Arm by labels body others) (size b marks (Arm by labels body others)) x y
    arm_fine by labels body others marks x y fu =
        fine_part d p clean times counts nets turns enough marks marks (Arm by labels body others) body (size b marks (Arm by labels body others)) (size b marks body) x x y (λ v f o x st. f o x (place.in_arm st)) (omega arith) (kept_store (FreeIn d marks (Arm by labels body others)) x x refl) fu

    others_fine : (by : Expr) (labels : List Expr) (body others : Statement) (marks : List ℕ) (x y : Doing) → Fine d marks others (size b marks others) x y → Fine d marks (Arm by labels body others) (size b marks (Arm by labels body others)) x y
    others_fine by labels body others marks x y fu =
        fine_part d p clean times counts nets turns enough marks marks (Arm by labels body others) others (size b marks (Arm by labels body others)) (size b marks others) x x y (λ v f o x st. f o x (place.in_others st)) (omega arith) (kept_store (FreeIn d marks (Arm by labels body others)) x x refl) fu

    pub res_arm : (chosen : Bool) (on by : Expr) (labels : List Expr) (body others : Statement) (marks : List ℕ) (below : List Work) → Here d p marks (Arm by labels body others) below under →
        (chosen ≡ true → ChooseBy on (Arm by labels body others)) → (x : Doing) (o : Outcome) → Resumed false any b marks body below x o → Resumed chosen on b marks (Arm by labels body others) below x o
    res_arm false on by labels body others marks below h c x o ih =
        sane_map (λ e y. Beside false any b marks body below x e y) (λ e y. Beside false on b marks (Arm by labels body others) below x e y) (Fine d marks body (size b marks body) x) (Fine d marks (Arm by labels body others) (size b marks (Arm by labels body others)) x)
        (Rests d marks body below) (Rests d marks (Arm by labels body others) below)
        (λ e y bu fu a l z shz n. let f : y.events ≤ size b marks (Arm by labels body others) + x.events = (arm_fine by labels body others marks x y fu).spent in (tt, omega arith))
        (λ y fu. arm_fine by labels body others marks x y fu) (λ l y r g at q k i. in_arm (r at q k i)) o ih
    res_arm true on by labels body others marks below h c x o ih =
        sane_map (λ e y. Beside false any b marks body below x e y) (λ e y. Beside true on b marks (Arm by labels body others) below x e y) (Fine d marks body (size b marks body) x) (Fine d marks (Arm by labels body others) (size b marks (Arm by labels body others)) x)
        (Rests d marks body below) (Rests d marks (Arm by labels body others) below)
        (λ e y bu fu a l z shz n. let f : y.events ≤ size b marks body + x.events = fu.spent in
        with_if y.events _ (has_label d (seen (setting d nets turns a) z) by labels) (go (setting d nets turns a) false body below z) (go (setting d nets turns a) true others below z)
        (λ t. with_more y.events (size b marks body + (x.events + z.events)) y.events _ (go (setting d nets turns a) false body below z) (λ r g. omega arith)
        (bu a l z shz (λ lu. n (record {
          chosen = body;
          among = con_head body (choices others);
          fixed_choice = λ k. sym (ap (λ q. if q then body else arm_chosen d (fixed d) others) (label_way d (seen (setting d nets turns a) z) refl on by labels body others true (c refl).0 t k).0);
          leaves = lu;
        }))))
        (λ t. with_sane (λ q r. LeavesArms d below on others q) (Fine d marks others (size b marks others) z) (Rests d marks others below) y.events _ (go (setting d nets turns a) true others below z)
        (λ r g. let j : r.events ≤ size b marks others + z.events = g.spent in omega arith) (start_arms a l on others marks below (here_part (λ tasks m o x st. place.in_others st) (λ m e. e) h) (c refl).1 z shz)))
        (λ y fu. arm_fine by labels body others marks x y fu) (λ l y r g at q k i. in_arm (r at q k i)) o ih

    pub res_others : (chosen : Bool) (on by : Expr) (labels : List Expr) (body others : Statement) (marks : List ℕ) (below : List Work) → Here d p marks (Arm by labels body others) below under →
        (chosen ≡ true → ChooseBy on (Arm by labels body others)) → (x : Doing) (o : Outcome) → Resumed chosen on b marks others below x o → Resumed chosen on b marks (Arm by labels body others) below x o
    res_others false on by labels body others marks below h c x o ih =
        sane_map (λ e y. Beside false on b marks others below x e y) (λ e y. Beside false on b marks (Arm by labels body others) below x e y) (Fine d marks others (size b marks others) x) (Fine d marks (Arm by labels body others) (size b marks (Arm by labels body others)) x)
        (Rests d marks others below) (Rests d marks (Arm by labels body others) below)
        (λ e y bu fu a l z shz n. let f : y.events ≤ size b marks (Arm by labels body others) + x.events = (others_fine by labels body others marks x y fu).spent in (tt, omega arith))
        (λ y fu. others_fine by labels body others marks x y fu) (λ l y r g at q k i. in_others (r at q k i)) o ih
    res_others true on by labels body others marks below h c x o ih =
        sane_map (λ e y. Beside true on b marks others below x e y) (λ e y. Beside true on b marks (Arm by labels body others) below x e y) (Fine d marks others (size b marks others) x) (Fine d marks (Arm by labels body others) (size b marks (Arm by labels body others)) x)
        (Rests d marks others below) (Rests d marks (Arm by labels body others) below)
        (λ e y bu fu a l z shz n. let f : y.events ≤ size b marks others + x.events = fu.spent in
        with_if y.events _ (has_label d (seen (setting d nets turns a) z) by labels) (go (setting d nets turns a) false body below z) (go (setting d nets turns a) true others below z)
        (λ t. with_sane (λ q r. Leaves d below body q) (Fine d marks body (size b marks body) z) (Rests d marks body below) y.events _ (go (setting d nets turns a) false body below z)
        (λ r g. let j : r.events ≤ size b marks body + z.events = g.spent in omega arith) (start a l body marks below (here_part (λ tasks m o x st. place.in_arm st) (λ m e. e) h) z shz))
        (λ t. with_more y.events (size b marks others + (x.events + z.events)) y.events _ (go (setting d nets turns a) true others below z) (λ r g. omega arith)
        (bu a l z shz (λ la. n (record {
          chosen = la.chosen;
          among = con_tail body la.chosen (choices others) la.among;
          fixed_choice = λ k. let w : (has_label d (fixed d) by labels ≡ false) × (is_constant_case on others ≡ true) = label_way d (seen (setting d nets turns a) z) refl on by labels body others false (c refl).0 t k in
              la.fixed_choice w.1 ∙ sym (ap (λ q. if q then body else arm_chosen d (fixed d) others) w.0);
          leaves = la.leaves;
        })))))
        (λ y fu. others_fine by labels body others marks x y fu) (λ l y r g at q k i. in_others (r at q k i)) o ih

    -- ---- a `for`

    and_then_step : (o : Outcome) (f : Doing → Doing) (g : Doing → Outcome) → and_then o (λ y. g (f y)) ≡ and_then (and_then o (λ y. Falls (f y))) g
    and_then_step (Falls y) f g = refl
    and_then_step (Stops l y) f g = refl
    and_then_step (Jumps m y) f g = refl
    and_then_step Lost f g = refl

    module _ (at : Place) (v : ℕ) (first test next : Expr) (body : Statement) (marks : List ℕ) (below : List Work) (h : Here d p marks (For at v first test next body) below under) where
      inner : (a : ℕ) → b ≤ a → (y : Doing) → IsShaped d y.store →
          Stated d p clean times counts nets turns enough marks body (Step at v test next body ∷ below) (size b marks body) y (go (setting d nets turns a) false body (Step at v test next body ∷ below) y)
      inner a l y = start a l body marks (Step at v test next body ∷ below) (here_part (λ tasks m o x st. place.in_for st) (λ m e. e) h) y

      meets : Meets d p marks (For at v first test next body)
      meets = h.meets marks (For at v first test next body) itself

      fits : (w : ℕ) × IsPlainVariable d v w × (w ≤ Rattle.el_design.specs.Sound.width first) × (w ≤ Rattle.el_design.specs.Sound.width next)
      fits = (h.sound h.text (For at v first test next body) itself).fits

      abbrev loop_at : ℕ → Doing → Outcome
      loop_at a = loop turns (is_tested (setting d nets turns a) test) (λ y. and_then (go (setting d nets turns a) false body (Step at v test next body ∷ below) y) (λ z. Falls (stepped (setting d nets turns a) v next z)))

      abbrev own : ℕ
      own = 3 + exprs_size ((counting d times b).calls) (first ∷ test ∷ next ∷ []) + size b marks body

      own_more : size b marks body + 6 ≤ own
      own_more = let e : 3 ≤ exprs_size ((counting d times b).calls) (first ∷ test ∷ next ∷ []) = three_sizes ((counting d times b).calls) first test next in omega arith

      own_once : own ≤ size b marks (For at v first test next body)
      own_once = at_least (times marks (For at v first test next body)) own (some_turns d p clean times counts nets turns enough marks (For at v first test next body) (h.meets marks (For at v first test next body) itself))

      -- where the body isn't walked through, a run from a test has at most one turn
      for_once : (a : ℕ) → b ≤ a → (k n fuel : ℕ) (y : Doing) → IsShaped d y.store → 1 ≤ fuel → (Leaves d below body None → ⊥) → (is_tested (setting d nets turns a) test y ≡ false → k + suc y.events ≤ n) →
          (is_tested (setting d nets turns a) test y ≡ true → With k n (go (setting d nets turns a) false body (Step at v test next body ∷ below) (counted y))) →
          With k n (loop fuel (is_tested (setting d nets turns a) test) (λ y. and_then (go (setting d nets turns a) false body (Step at v test next body ∷ below) y) (λ z. Falls (stepped (setting d nets turns a) v next z))) y)
      for_once a l k n zero y sh some never down up = absurd (omega arith)
      for_once a l k n (suc fuel) y sh some never down up =
          with_if k n (is_tested (setting d nets turns a) test y) (and_then (and_then o (λ z. Falls (stepped (setting d nets turns a) v next z))) _) (Falls (counted y))
          (λ t. with_none k n (and_then o (λ z. Falls (stepped (setting d nets turns a) v next z))) _ (still_none o (λ z. Falls (stepped (setting d nets turns a) v next z)) stops) (with_none k n o (λ z. Falls (stepped (setting d nets turns a) v next z)) stops (up t)))
          (λ t. (tt, down t))
        where
          o : Outcome
          o = go (setting d nets turns a) false body (Step at v test next body ∷ below) (counted y)

          stops : NoFall o
          stops = no_fall (λ q t. Leaves d below body q) (Fine d marks body (size b marks body) (counted y)) (Rests d marks body (Step at v test next body ∷ below)) o (inner a l (counted y) sh) (λ t lt. never lt)

      abbrev begun : ℕ → Doing → Doing
      begun a z = stepped (setting d nets turns a) v first z

      begun_shaped : (a : ℕ) → b ≤ a → (z : Doing) → IsShaped d z.store → IsShaped d (begun a z).store
      begun_shaped a l z sh = shaped (FreeIn d marks (For at v first test next body)) z (begun a z) sh
          (step_kept d p clean times counts nets turns enough (enabled_at d nets turns a) marks below at v fits.0 first test next body (size b marks body) meets h.opens fits.1 (inner a l) first z)

      -- a walk by a jump, where the first test of a run from the start holds
      first_turn : (a : ℕ) → b ≤ a → (z : Doing) → IsShaped d z.store → is_tested (setting d nets turns a) test (begun a z) ≡ true → (m : ℕ) → Leaves d below body (Some m) → Leaves d below (For at v first test next body) (Some m)
      first_turn a l z sh t m lb = leaves_for_turn d below at v first test next body m (tested_way (setting d nets turns a) (begun a z) test true t) no_zero lb
        where
          no_zero : HasTurns d (For at v first test next body) 0 → ⊥
          no_zero turns_are =
              let q : IsCounted d v first test next body × ((k : ℕ) → k < 0 → goes_on d v first test next k ≡ true) × (goes_on d v first test next 0 ≡ false) = for_turns d p clean times counts nets turns enough at v 0 first test next body turns_are in
              let e : is_tested (setting d nets turns a) test (begun a z) ≡ goes_on d v first test next 0 =
              turn_test (setting d nets turns a) (begun a z) v 0 first test next q.0.test_is (turn_first (setting d nets turns a) z v fits.0 first next sh fits.1 q.0.start_is) in
              let f : true ≡ false = sym t ∙ e ∙ q.2 in cc

      -- the resumed body jumps
      for_jumps : (x : Doing) (m : ℕ) (y : Doing) → Beside false any b marks body (Step at v test next body ∷ below) x (Some m) y → y.events ≤ size b marks body + x.events → Beside false any b marks (For at v first test next body) below x (Some m) y
      for_jumps x m y bu spent a l z shz n =
          with_stable y.events _ (loop_at a (begun a z)) (either {P = Leaves d below body None} unrolled (λ never. sure (once never)))
        where
          bound : ℕ
          bound = size b marks (For at v first test next body) + (x.events + z.events)

          once : (Leaves d below body None → ⊥) → With y.events bound (loop_at a (begun a z))
          once never = for_once a l y.events bound turns (begun a z) (begun_shaped a l z shz) (omega arith) never
              (λ t. let q : size b marks body + 6 ≤ own = own_more in let r : own ≤ size b marks (For at v first test next body) = own_once in omega arith)
              (λ t. with_more y.events (size b marks body + (x.events + suc (suc z.events))) y.events bound (go (setting d nets turns a) false body (Step at v test next body ∷ below) (counted (begun a z)))
              (λ u g. let q : size b marks body + 6 ≤ own = own_more in let r : own ≤ size b marks (For at v first test next body) = own_once in omega arith)
              (bu a l (counted (begun a z)) (begun_shaped a l z shz) (λ lb. n (first_turn a l z shz t m lb))))

          unrolled : Leaves d below body None → Surely (With y.events bound (loop_at a (begun a z)))
          unrolled lb = surely (has_walk d p clean times counts nets turns enough marks below body h.opens lb) (λ walk. surely (spins_not d clean meets refl walk) (λ k. sure (constant walk k)))
            where
              constant : HasWalk d marks body → IsConstantLoop d (For at v first test next body) → With y.events bound (loop_at a (begun a z))
              constant walk (inr t) = absurd (no_end d clean meets refl t walk)
              constant walk (inl t) =
                  with_sane (ForLeft d p clean times counts nets turns enough (enabled_at d nets turns a) marks below at v fits.0 first test next body (size b marks body) meets h.opens fits.1 (inner a l) 0 (begun a z))
                  (ForSpent d p clean times counts nets turns enough (enabled_at d nets turns a) marks below at v fits.0 first test next body (size b marks body) meets h.opens fits.1 (inner a l) 0 (begun a z))
                  (Rests d marks (For at v first test next body) below) y.events bound (loop_at a (begun a z)) fit
                  (for_sane d p clean times counts nets turns enough (enabled_at d nets turns a) marks below at v fits.0 first test next body (size b marks body) meets h.opens fits.1 (inner a l) turns 0 (begun a z) (begun_shaped a l z shz)
                  (λ c. (turn_first (setting d nets turns a) z v fits.0 first next shz fits.1 c.start_is, λ i k. absurd (omega arith))) (omega arith) (λ q. omega arith))
                where
                  q : IsCounted d v first test next body × ((k : ℕ) → k < t.0 → goes_on d v first test next k ≡ true) × (goes_on d v first test next t.0 ≡ false)
                  q = for_turns d p clean times counts nets turns enough at v t.0 first test next body t.1

                  e : suc t.0 ≤ times marks (For at v first test next body)
                  e = counts.unrolled marks (For at v first test next body) t.0 meets (record { turns_are = t.1; body = body; body_is = refl; walk = walk })

                  fit : (u : Doing) → ForSpent d p clean times counts nets turns enough (enabled_at d nets turns a) marks below at v fits.0 first test next body (size b marks body) meets h.opens fits.1 (inner a l) 0 (begun a z) u → y.events + u.events ≤ bound
                  fit u g = count (split g.more t.0)
                    where
                      count : (g.more ≤ t.0) ⊎ (t.0 < g.more) → y.events + u.events ≤ bound
                      count (inr k) = absurd (let f : true ≡ false = sym (g.held q.0 t.0 (omega arith)) ∙ q.2 in cc)
                      count (inl k) =
                          let i : g.more * (size b marks body + 2) ≤ t.0 * (size b marks body + 2) = mul-le-mul k (le_refl (size b marks body + 2)) in
                          let r : size b marks body + 6 ≤ own = own_more in
                          let j : 1 + suc t.0 * (size b marks body + 2) ≤ suc t.0 * own = turns_fit t.0 t.0 (size b marks body + 2) own (omega arith) (omega arith) in
                          let m : suc t.0 * (size b marks body + 2) ≡ t.0 * (size b marks body + 2) + (size b marks body + 2) = suc-mul t.0 (size b marks body + 2) in
                          let s : u.events ≤ g.more * (size b marks body + 2) + suc (suc z.events) = g.spent in
                          let ro : suc t.0 * own ≤ times marks (For at v first test next body) * own = mul-le-mul e (le_refl own) in omega arith

      abbrev left_at : (a : ℕ) → b ≤ a → ℕ → Doing → Option ℕ → Doing → Type 0
      left_at a l = ForLeft d p clean times counts nets turns enough (enabled_at d nets turns a) marks below at v fits.0 first test next body (size b marks body) meets h.opens fits.1 (inner a l)

      abbrev spent_at : (a : ℕ) → b ≤ a → ℕ → Doing → Doing → Type 0
      spent_at a l = ForSpent d p clean times counts nets turns enough (enabled_at d nets turns a) marks below at v fits.0 first test next body (size b marks body) meets h.opens fits.1 (inner a l)

      free_in : (u : ℕ) → FreeIn d marks (For at v first test next body) u → FreeIn d marks body u
      free_in u f o x st = f o x (place.in_for st)

      for_falls : (x : Doing) → IsShaped d x.store → (j : ℕ) → InTurn d x.store v first test next body j → (a : ℕ) → b ≤ a → (y : Doing) → Beside false any b marks body (Step at v test next body ∷ below) x None y → Fine d marks body (size b marks body) x y →
          Sane (λ e u. Beside false any b marks (For at v first test next body) below x e u) (Fine d marks (For at v first test next body) (size b marks (For at v first test next body)) x) (Rests d marks (For at v first test next body) below) (loop_at a (stepped (setting d nets turns a) v next y))
      for_falls x sh j same a l y bu fu =
          sane_map (left_at a l (suc j) (stepped (setting d nets turns a) v next y)) (λ e u. Beside false any b marks (For at v first test next body) below x e u)
          (λ u. spent_at a l (suc j) (stepped (setting d nets turns a) v next y) u × ((Leaves d below body None → ⊥) → 0 + u.events ≤ size b marks body + 2 + x.events)) (Fine d marks (For at v first test next body) (size b marks (For at v first test next body)) x)
          (Rests d marks (For at v first test next body) below) (Rests d marks (For at v first test next body) below)
          beside fine (λ l u r g. r) (loop_at a (stepped (setting d nets turns a) v next y))
          (sane_given (Leaves d below body None) (left_at a l (suc j) (stepped (setting d nets turns a) v next y)) (spent_at a l (suc j) (stepped (setting d nets turns a) v next y)) (λ u. 0 + u.events ≤ size b marks body + 2 + x.events) (Rests d marks (For at v first test next body) below)
          (loop_at a (stepped (setting d nets turns a) v next y))
          (for_sane d p clean times counts nets turns enough (enabled_at d nets turns a) marks below at v fits.0 first test next body (size b marks body) meets h.opens fits.1 (inner a l) turns (suc j) (stepped (setting d nets turns a) v next y) shaped_next at_next (omega arith) (λ q. omega arith))
          limited)
        where
          spent : y.events ≤ size b marks body + x.events
          spent = fu.spent

          kept_next : Kept (FreeIn d marks (For at v first test next body)) y (stepped (setting d nets turns a) v next y)
          kept_next = step_kept d p clean times counts nets turns enough (enabled_at d nets turns a) marks below at v fits.0 first test next body (size b marks body) meets h.opens fits.1 (inner a l) next y

          shaped_y : IsShaped d y.store
          shaped_y = shaped (FreeIn d marks body) x y sh fu.kept

          shaped_next : IsShaped d (stepped (setting d nets turns a) v next y).store
          shaped_next = shaped (FreeIn d marks (For at v first test next body)) y (stepped (setting d nets turns a) v next y) shaped_y kept_next

          at_next : AtTest d p clean times counts nets turns enough (enabled_at d nets turns a) marks below at v fits.0 first test next body (size b marks body) meets h.opens fits.1 (inner a l) (suc j) (stepped (setting d nets turns a) v next y)
          at_next c = (turn_next (setting d nets turns a) y v fits.0 j first next shaped_y fits.1 c.step_is (fu.kept.words v (λ o x st k. free_met d v body c.free x st k) ∙ (same c).0), λ i k. (same c).1 i (omega arith))

          limited : (Leaves d below body None → ⊥) → With 0 (size b marks body + 2 + x.events) (loop_at a (stepped (setting d nets turns a) v next y))
          limited never = for_once a l 0 (size b marks body + 2 + x.events) turns (stepped (setting d nets turns a) v next y) shaped_next (omega arith) never
              (λ t. omega arith)
              (λ t. with_more y.events (size b marks body + (x.events + suc (suc y.events))) 0 _ (go (setting d nets turns a) false body (Step at v test next body ∷ below) (counted (stepped (setting d nets turns a) v next y))) (λ u g. omega arith)
              (bu a l (counted (stepped (setting d nets turns a) v next y)) shaped_next never))

          fine : (u : Doing) → spent_at a l (suc j) (stepped (setting d nets turns a) v next y) u × ((Leaves d below body None → ⊥) → 0 + u.events ≤ size b marks body + 2 + x.events) → Fine d marks (For at v first test next body) (size b marks (For at v first test next body)) x u
          fine u g = record {
            spent = stable u.events (size b marks (For at v first test next body) + x.events) (either {P = Leaves d below body None} unrolled (λ never. sure (let i : 0 + u.events ≤ size b marks body + 2 + x.events = g.1 never in
                let q : size b marks body + 6 ≤ own = own_more in let r : own ≤ size b marks (For at v first test next body) = own_once in omega arith)));
            kept = kept_then Free Free Free x (stepped (setting d nets turns a) v next y) u (λ v f. f) (λ v f. f) (kept_then Free (FreeIn d marks body) Free x y (stepped (setting d nets turns a) v next y) free_in (λ v f. f) fu.kept kept_next) g.0.kept;
          }
            where
              Free : ℕ → Type 0
              Free n = FreeIn d marks (For at v first test next body) n

              unrolled : Leaves d below body None → Surely (u.events ≤ size b marks (For at v first test next body) + x.events)
              unrolled lb = surely (has_walk d p clean times counts nets turns enough marks below body h.opens lb) (λ walk. surely (spins_not d clean meets refl walk) (λ k. sure (constant walk k)))
                where
                  constant : HasWalk d marks body → IsConstantLoop d (For at v first test next body) → u.events ≤ size b marks (For at v first test next body) + x.events
                  constant walk (inr t) = absurd (no_end d clean meets refl t walk)
                  constant walk (inl t) = count (split (suc j + g.0.more) t.0)
                    where
                      q : IsCounted d v first test next body × ((k : ℕ) → k < t.0 → goes_on d v first test next k ≡ true) × (goes_on d v first test next t.0 ≡ false)
                      q = for_turns d p clean times counts nets turns enough at v t.0 first test next body t.1

                      e : suc t.0 ≤ times marks (For at v first test next body)
                      e = counts.unrolled marks (For at v first test next body) t.0 meets (record { turns_are = t.1; body = body; body_is = refl; walk = walk })

                      count : (suc j + g.0.more ≤ t.0) ⊎ (t.0 < suc j + g.0.more) → u.events ≤ size b marks (For at v first test next body) + x.events
                      count (inr k) = absurd (let f : true ≡ false = sym (g.0.held q.0 t.0 k) ∙ q.2 in cc)
                      count (inl k) =
                          let i : suc g.0.more * (size b marks body + 2) ≤ t.0 * (size b marks body + 2) = mul-le-mul (let n : suc g.0.more ≤ t.0 = omega arith in n) (le_refl (size b marks body + 2)) in
                          let r : size b marks body + 6 ≤ own = own_more in
                          let w : 1 + suc t.0 * (size b marks body + 2) ≤ suc t.0 * own = turns_fit t.0 t.0 (size b marks body + 2) own (omega arith) (omega arith) in
                          let m : suc t.0 * (size b marks body + 2) ≡ t.0 * (size b marks body + 2) + (size b marks body + 2) = suc-mul t.0 (size b marks body + 2) in
                          let f : suc g.0.more * (size b marks body + 2) ≡ g.0.more * (size b marks body + 2) + (size b marks body + 2) = suc-mul g.0.more (size b marks body + 2) in
                          let s : u.events ≤ g.0.more * (size b marks body + 2) + suc (suc y.events) = g.0.spent in
                          let ro : suc t.0 * own ≤ times marks (For at v first test next body) * own = mul-le-mul e (le_refl own) in omega arith

          beside : (e : Option ℕ) (u : Doing) → left_at a l (suc j) (stepped (setting d nets turns a) v next y) e u → spent_at a l (suc j) (stepped (setting d nets turns a) v next y) u × ((Leaves d below body None → ⊥) → 0 + u.events ≤ size b marks body + 2 + x.events) →
              Beside false any b marks (For at v first test next body) below x e u
          beside (Some m) u lf g a2 l2 z shz n = absurd (n (leaves_for_turn d below at v first test next body m lf.1
              (λ t. let q : IsCounted d v first test next body × ((k : ℕ) → k < 0 → goes_on d v first test next k ≡ true) × (goes_on d v first test next 0 ≡ false) = for_turns d p clean times counts nets turns enough at v 0 first test next body t in
              let f : true ≡ false = sym (lf.2 q.0) ∙ q.2 in cc) lf.0))
          beside None u lf g a2 l2 z shz n = again (last lf.2)
            where
              never : Leaves d below body None → ⊥
              never lb = n (leaves_for d below at v first test next body lf.0
                  (λ t. let c : IsCounted d v first test next body × ((k : ℕ) → goes_on d v first test next k ≡ true) = endless_turns d p clean times counts nets turns enough at v first test next body t in let f : true ≡ false = sym (c.1 lf.1.0) ∙ lf.1.1 c.0 in cc)
                  (λ n t. inr lb))

              last : Leaves d below body None ⊎ ((IsCounted d v first test next body → goes_on d v first test next (suc j) ≡ false) × (u.events ≡ suc (suc y.events))) → u.events ≡ suc (suc y.events)
              last (inl lb) = absurd (never lb)
              last (inr q) = q.1

              again : u.events ≡ suc (suc y.events) → With u.events (size b marks (For at v first test next body) + (x.events + z.events)) (loop_at a2 (begun a2 z))
              again ev = for_once a2 l2 u.events (size b marks (For at v first test next body) + (x.events + z.events)) turns (begun a2 z) (begun_shaped a2 l2 z shz) (omega arith) never
                  (λ t. let q : size b marks body + 6 ≤ own = own_more in let r : own ≤ size b marks (For at v first test next body) = own_once in omega arith)
                  (λ t. with_more y.events (size b marks body + (x.events + suc (suc z.events))) u.events _ (go (setting d nets turns a2) false body (Step at v test next body ∷ below) (counted (begun a2 z)))
                  (λ w g. let q : size b marks body + 6 ≤ own = own_more in let r : own ≤ size b marks (For at v first test next body) = own_once in omega arith)
                  (bu a2 l2 (counted (begun a2 z)) (begun_shaped a2 l2 z shz) never))

      pub res_for : (x : Doing) → IsShaped d x.store → (j : ℕ) → InTurn d x.store v first test next body j → (a : ℕ) → b ≤ a → (o : Outcome) → Resumed false any b marks body (Step at v test next body ∷ below) x o →
          Resumed false any b marks (For at v first test next body) below x (and_then (and_then o (λ z. Falls (stepped (setting d nets turns a) v next z))) (loop_at a))
      res_for x sh j same a l o ih =
          subst (λ q. Resumed false any b marks (For at v first test next body) below x q) (and_then_step o (stepped (setting d nets turns a) v next) (loop_at a))
          (sane_then (λ e y. Beside false any b marks body (Step at v test next body ∷ below) x e y) (λ e y. Beside false any b marks (For at v first test next body) below x e y)
          (Fine d marks body (size b marks body) x) (Fine d marks (For at v first test next body) (size b marks (For at v first test next body)) x)
          (Rests d marks body (Step at v test next body ∷ below)) (Rests d marks (For at v first test next body) below) o (λ y. loop_at a (stepped (setting d nets turns a) v next y)) ih
          falls
          (λ m y bu fu. for_jumps x m y bu fu.spent)
          (λ y fu. fine_part d p clean times counts nets turns enough marks marks (For at v first test next body) body (size b marks (For at v first test next body)) (size b marks body) x x y free_in
          (let q : size b marks body + 6 ≤ own = own_more in let r : own ≤ size b marks (For at v first test next body) = own_once in omega arith) (kept_store (FreeIn d marks (For at v first test next body)) x x refl) fu)
          (λ l y r g at q k i. in_for j (in_turn y g) (r at q k i)))
        where
          in_turn : (y : Doing) → Fine d marks body (size b marks body) x y → InTurn d y.store v first test next body j
          in_turn y g c = (g.kept.words v (λ o x st k. free_met d v body c.free x st k) ∙ (same c).0, (same c).1)

          falls : (y : Doing) → Beside false any b marks body (Step at v test next body ∷ below) x None y → Fine d marks body (size b marks body) x y →
              Sane (λ e u. Beside false any b marks (For at v first test next body) below x e u) (Fine d marks (For at v first test next body) (size b marks (For at v first test next body)) x) (Rests d marks (For at v first test next body) below) (loop_at a (stepped (setting d nets turns a) v next y))
          falls y bu fu = for_falls x sh j same a l y bu fu

    -- ---- a `while`

    module _ (at : Place) (test : Expr) (body : Statement) (marks : List ℕ) (below : List Work) (h : Here d p marks (While at test body) below under) where
      inner_while : (a : ℕ) → b ≤ a → (y : Doing) → IsShaped d y.store →
          Stated d p clean times counts nets turns enough marks body (Do (While at test body) ∷ below) (size b marks body) y (go (setting d nets turns a) false body (Do (While at test body) ∷ below) y)
      inner_while a l y = start a l body marks (Do (While at test body) ∷ below) (here_part (λ tasks m o x st. place.in_while st) (λ m e. e) h) y

      abbrev while_at : ℕ → Doing → Outcome
      while_at a = loop turns (is_tested (setting d nets turns a) test) (go (setting d nets turns a) false body (Do (While at test body) ∷ below))

      while_room : 1 + size b marks body + 1 ≤ size b marks (While at test body)
      while_room =
          let e : 1 ≤ expr_size ((counting d times b).calls) test = Rattle.el_design.proofs.OrderSane.some_size ((counting d times b).calls) test in
          let r : 1 + expr_size ((counting d times b).calls) test + size b marks body ≤ size b marks (While at test body) =
          at_least (times marks (While at test body)) (1 + expr_size ((counting d times b).calls) test + size b marks body) (some_turns d p clean times counts nets turns enough marks (While at test body) (h.meets marks (While at test body) itself)) in omega arith

      never_while : (a : ℕ) → b ≤ a → (y : Doing) → is_tested (setting d nets turns a) test y ≡ true → Leaves d below body None → ⊥
      never_while a l = while_never d p clean times counts nets turns enough (enabled_at d nets turns a) marks below at test body (size b marks body) (h.meets marks (While at test body) itself) h.opens (inner_while a l)

      while_once : (a : ℕ) → b ≤ a → (k n fuel : ℕ) (y : Doing) → IsShaped d y.store → 1 ≤ fuel → (is_tested (setting d nets turns a) test y ≡ false → k + suc y.events ≤ n) →
          (is_tested (setting d nets turns a) test y ≡ true → With k n (go (setting d nets turns a) false body (Do (While at test body) ∷ below) (counted y))) →
          With k n (loop fuel (is_tested (setting d nets turns a) test) (go (setting d nets turns a) false body (Do (While at test body) ∷ below)) y)
      while_once a l k n zero y sh some down up = absurd (omega arith)
      while_once a l k n (suc fuel) y sh some down up =
          with_if k n (is_tested (setting d nets turns a) test y) (and_then o (loop fuel (is_tested (setting d nets turns a) test) (go (setting d nets turns a) false body (Do (While at test body) ∷ below)))) (Falls (counted y))
          (λ t. with_none k n o _ (no_fall (λ q t. Leaves d below body q) (Fine d marks body (size b marks body) (counted y)) (Rests d marks body (Do (While at test body) ∷ below)) o (inner_while a l (counted y) sh) (λ u lt. never_while a l y t lt)) (up t))
          (λ t. (tt, down t))
        where
          o : Outcome
          o = go (setting d nets turns a) false body (Do (While at test body) ∷ below) (counted y)

      pub res_while : (x : Doing) → IsShaped d x.store → (a : ℕ) → b ≤ a → (o : Outcome) → Resumed false any b marks body (Do (While at test body) ∷ below) x o →
          Resumed false any b marks (While at test body) below x (and_then o (while_at a))
      res_while x sh a l o ih =
          sane_then (λ e y. Beside false any b marks body (Do (While at test body) ∷ below) x e y) (λ e y. Beside false any b marks (While at test body) below x e y)
          (Fine d marks body (size b marks body) x) (Fine d marks (While at test body) (size b marks (While at test body)) x) (Rests d marks body (Do (While at test body) ∷ below)) (Rests d marks (While at test body) below) o (while_at a) ih
          falls jumps
          (λ y fu. fine_part d p clean times counts nets turns enough marks marks (While at test body) body (size b marks (While at test body)) (size b marks body) x x y free_in
          (let r : 1 + size b marks body + 1 ≤ size b marks (While at test body) = while_room in omega arith) (kept_store (FreeIn d marks (While at test body)) x x refl) fu)
          (λ l y r g at q k i. in_while (r at q k i))
        where
          free_in : (u : ℕ) → FreeIn d marks (While at test body) u → FreeIn d marks body u
          free_in u f o x st = f o x (place.in_while st)

          jumps : (m : ℕ) (y : Doing) → Beside false any b marks body (Do (While at test body) ∷ below) x (Some m) y → Fine d marks body (size b marks body) x y → Beside false any b marks (While at test body) below x (Some m) y
          jumps m y bu fu a2 l2 z shz n =
              let s : y.events ≤ size b marks body + x.events = fu.spent in
              let r : 1 + size b marks body + 1 ≤ size b marks (While at test body) = while_room in
              while_once a2 l2 y.events (size b marks (While at test body) + (x.events + z.events)) turns z shz (omega arith) (λ t. omega arith)
              (λ t. with_more y.events (size b marks body + (x.events + suc z.events)) y.events _ (go (setting d nets turns a2) false body (Do (While at test body) ∷ below) (counted z)) (λ u g. omega arith)
              (bu a2 l2 (counted z) shz (λ lb. n (leaves_while_turn d below at test body m (tested_way (setting d nets turns a2) z test true t) lb))))

          falls : (y : Doing) → Beside false any b marks body (Do (While at test body) ∷ below) x None y → Fine d marks body (size b marks body) x y →
              Sane (λ e u. Beside false any b marks (While at test body) below x e u) (Fine d marks (While at test body) (size b marks (While at test body)) x) (Rests d marks (While at test body) below) (while_at a y)
          falls y bu fu =
              sane_map (λ e u. Leaves d below (While at test body) e × AnyLeft e u) (λ e u. Beside false any b marks (While at test body) below x e u)
              (λ u. Fine d marks (While at test body) (1 + size b marks body) y u × (0 + u.events ≤ 1 + size b marks body + x.events)) (Fine d marks (While at test body) (size b marks (While at test body)) x)
              (λ q u. Rests d marks (While at test body) below q u × AnyRest q u) (Rests d marks (While at test body) below)
              (λ e u lw g a2 l2 z shz n. absurd (n lw.0))
              (λ u g. record {
                spent = (let i : 0 + u.events ≤ 1 + size b marks body + x.events = g.1 in let r : 1 + size b marks body + 1 ≤ size b marks (While at test body) = while_room in omega arith);
                kept = kept_then (FreeIn d marks (While at test body)) (FreeIn d marks body) (FreeIn d marks (While at test body)) x y u free_in (λ v f. f) fu.kept g.0.kept;
              })
              (λ q u r g. r.0) (while_at a y)
              (sane_both (λ e u. Leaves d below (While at test body) e) AnyLeft (Fine d marks (While at test body) (1 + size b marks body) y) (λ u. 0 + u.events ≤ 1 + size b marks body + x.events) (Rests d marks (While at test body) below) AnyRest (while_at a y)
              (while_sane d p clean times counts nets turns enough (enabled_at d nets turns a) marks below at test body (size b marks body) (h.meets marks (While at test body) itself) h.opens (inner_while a l) turns y shy (omega arith))
              (while_once a l 0 (1 + size b marks body + x.events) turns y shy (omega arith) (λ t. let s : y.events ≤ size b marks body + x.events = fu.spent in omega arith)
              (λ t. with_more y.events (size b marks body + (x.events + suc y.events)) 0 _ (go (setting d nets turns a) false body (Do (While at test body) ∷ below) (counted y)) (λ u g. omega arith) (bu a l (counted y) shy (never_while a l y t)))))
            where
              shy : IsShaped d y.store
              shy = shaped (FreeIn d marks body) x y sh fu.kept

    -- ---- a `repeat`

    module _ (at : Place) (count : Expr) (body : Statement) (marks : List ℕ) (below : List Work) (h : Here d p marks (Repeat at count body) below under) where
      inner_repeat : (a : ℕ) → b ≤ a → (n : ℕ) (y : Doing) → IsShaped d y.store →
          Stated d p clean times counts nets turns enough marks body (Turns at n body ∷ below) (size b marks body) y (go (setting d nets turns a) false body (Turns at n body ∷ below) y)
      inner_repeat a l n y = start a l body marks (Turns at n body ∷ below) (here_part (λ tasks m o x st. place.in_repeat st) (λ m e. e) h) y

      abbrev repeat_at : ℕ → ℕ → Doing → Outcome
      repeat_at a n = turns_of n (λ left. go (setting d nets turns a) false body (Turns at left body ∷ below))

      abbrev own_repeat : ℕ
      own_repeat = 2 + expr_size ((counting d times b).calls) count + size b marks body

      repeat_once_room : own_repeat ≤ size b marks (Repeat at count body)
      repeat_once_room = at_least (times marks (Repeat at count body)) own_repeat (some_turns d p clean times counts nets turns enough marks (Repeat at count body) (h.meets marks (Repeat at count body) itself))

      own_repeat_more : size b marks body + 3 ≤ own_repeat
      own_repeat_more = let e : 1 ≤ expr_size ((counting d times b).calls) count = Rattle.el_design.proofs.OrderSane.some_size ((counting d times b).calls) count in omega arith

      repeat_once : (a : ℕ) → b ≤ a → (k n left : ℕ) (y : Doing) → IsShaped d y.store → (Leaves d below body None → ⊥) → (left ≡ 0 → k + y.events ≤ n) →
          ((m : ℕ) → left ≡ suc m → With k n (go (setting d nets turns a) false body (Turns at m body ∷ below) y)) → With k n (repeat_at a left y)
      repeat_once a l k n zero y sh never down up = (tt, down refl)
      repeat_once a l k n (suc m) y sh never down up =
          with_none k n (go (setting d nets turns a) false body (Turns at m body ∷ below) y) _
          (no_fall (λ q t. Leaves d below body q) (Fine d marks body (size b marks body) y) (Rests d marks body (Turns at m body ∷ below)) _ (inner_repeat a l m y sh) (λ u lt. never lt)) (up m refl)

      turns_count : (a : ℕ) (z : Doing) (n : ℕ) → HasTurns d (Repeat at count body) n → n ≡ Rattle.el_design.specs.Assign.count_of d (seen (setting d nets turns a) z) count
      turns_count a z n t = let q : (Rattle.el_design.specs.Names.is_constant count ≡ true) × (n ≡ Rattle.el_design.specs.Assign.count_of d (fixed d) count) = repeat_turns d p clean times counts nets turns enough at n count body t in
          q.1 ∙ sym (counted_turns (setting d nets turns a) z count q.0)

      -- above so many turns or others it is the same
      other_turns : (a m n k j : ℕ) (z : Doing) → With k j (go (setting d nets turns a) false body (Turns at m body ∷ below) z) → With k j (go (setting d nets turns a) false body (Turns at n body ∷ below) z)
      other_turns a m n k j z w = with_alike k j _ _ (alike (setting d nets turns a) (alike_tasks d nets turns a) false body (Turns at m body ∷ below) (Turns at n body ∷ below) z (λ q. refl)) w

      pub res_repeat : (x : Doing) → IsShaped d x.store → (left : ℕ) → ((n : ℕ) → HasTurns d (Repeat at count body) n → left < n) → (a : ℕ) → b ≤ a → (o : Outcome) → Resumed false any b marks body (Turns at left body ∷ below) x o →
          Resumed false any b marks (Repeat at count body) below x (and_then o (λ y. repeat_at a left (counted y)))
      res_repeat x sh left bound a l o ih =
          sane_then (λ e y. Beside false any b marks body (Turns at left body ∷ below) x e y) (λ e y. Beside false any b marks (Repeat at count body) below x e y)
          (Fine d marks body (size b marks body) x) (Fine d marks (Repeat at count body) (size b marks (Repeat at count body)) x) (Rests d marks body (Turns at left body ∷ below)) (Rests d marks (Repeat at count body) below) o (λ y. repeat_at a left (counted y)) ih
          falls jumps
          (λ y fu. fine_part d p clean times counts nets turns enough marks marks (Repeat at count body) body (size b marks (Repeat at count body)) (size b marks body) x x y free_in
          (let r : own_repeat ≤ size b marks (Repeat at count body) = repeat_once_room in omega arith) (kept_store (FreeIn d marks (Repeat at count body)) x x refl) fu)
          (λ l y r g at q k i. in_repeat left bound (r at q k i))
        where
          free_in : (u : ℕ) → FreeIn d marks (Repeat at count body) u → FreeIn d marks body u
          free_in u f o x st = f o x (place.in_repeat st)

          so_many : ℕ → Doing → ℕ
          so_many a z = Rattle.el_design.specs.Assign.count_of d (seen (setting d nets turns a) z) count

          some_turn : (m : ℕ) → HasTurns d (Repeat at count body) 0 → ⊥
          some_turn m t = let i : left < 0 = bound 0 t in omega arith

          jumps : (m : ℕ) (y : Doing) → Beside false any b marks body (Turns at left body ∷ below) x (Some m) y → Fine d marks body (size b marks body) x y → Beside false any b marks (Repeat at count body) below x (Some m) y
          jumps m y bu fu a2 l2 z shz n =
              with_stable y.events _ (repeat_at a2 (so_many a2 z) (counted z)) (either {P = Leaves d below body None} unrolled (λ never. sure (once never)))
            where
              spent : y.events ≤ size b marks body + x.events
              spent = fu.spent

              once : (Leaves d below body None → ⊥) → With y.events (size b marks (Repeat at count body) + (x.events + z.events)) (repeat_at a2 (so_many a2 z) (counted z))
              once never = repeat_once a2 l2 y.events (size b marks (Repeat at count body) + (x.events + z.events)) (so_many a2 z) (counted z) shz never
                  (λ e. let r : own_repeat ≤ size b marks (Repeat at count body) = repeat_once_room in let s : size b marks body + 3 ≤ own_repeat = own_repeat_more in omega arith)
                  (λ k e. with_more y.events (size b marks body + (x.events + suc z.events)) y.events _ (go (setting d nets turns a2) false body (Turns at k body ∷ below) (counted z))
                  (λ u g. let r : own_repeat ≤ size b marks (Repeat at count body) = repeat_once_room in let s : size b marks body + 3 ≤ own_repeat = own_repeat_more in omega arith)
                  (other_turns a2 left k y.events _ (counted z) (bu a2 l2 (counted z) shz (λ lb. n (leaves_repeat_turn d below at count body m (some_turn m) lb)))))

              unrolled : Leaves d below body None → Surely (With y.events (size b marks (Repeat at count body) + (x.events + z.events)) (repeat_at a2 (so_many a2 z) (counted z)))
              unrolled lb = surely (has_walk d p clean times counts nets turns enough marks below body h.opens lb) (λ walk. surely (spins_not d clean (h.meets marks (Repeat at count body) itself) refl walk) (λ k. sure (constant walk k)))
                where
                  constant : HasWalk d marks body → IsConstantLoop d (Repeat at count body) → With y.events (size b marks (Repeat at count body) + (x.events + z.events)) (repeat_at a2 (so_many a2 z) (counted z))
                  constant walk (inr t) = absurd (repeat_ends d p clean times counts nets turns enough at count body t)
                  constant walk (inl t) =
                      with_sane (RepeatLeft d p clean times counts nets turns enough (enabled_at d nets turns a2) marks below at count body (size b marks body) (inner_repeat a2 l2) (so_many a2 z))
                      (RepeatSpent d p clean times counts nets turns enough (enabled_at d nets turns a2) marks below at count body (size b marks body) (inner_repeat a2 l2) (so_many a2 z) (counted z)) (Rests d marks (Repeat at count body) below)
                      y.events _ (repeat_at a2 (so_many a2 z) (counted z)) fit
                      (repeat_sane d p clean times counts nets turns enough (enabled_at d nets turns a2) marks below at count body (size b marks body) (inner_repeat a2 l2) (so_many a2 z) (counted z) shz (λ n t. let i : n ≡ so_many a2 z = turns_count a2 z n t in omega arith))
                    where
                      e : suc t.0 ≤ times marks (Repeat at count body)
                      e = counts.unrolled marks (Repeat at count body) t.0 (h.meets marks (Repeat at count body) itself) (record { turns_are = t.1; body = body; body_is = refl; walk = walk })

                      fit : (u : Doing) → RepeatSpent d p clean times counts nets turns enough (enabled_at d nets turns a2) marks below at count body (size b marks body) (inner_repeat a2 l2) (so_many a2 z) (counted z) u → y.events + u.events ≤ size b marks (Repeat at count body) + (x.events + z.events)
                      fit u g =
                          let i : u.events ≤ so_many a2 z * (size b marks body + 1) + suc z.events = g.spent in
                          let j : u.events ≤ t.0 * (size b marks body + 1) + suc z.events = subst (λ n. u.events ≤ n * (size b marks body + 1) + suc z.events) (sym (turns_count a2 z t.0 t.1)) i in
                          let s : size b marks body + 3 ≤ own_repeat = own_repeat_more in
                          let w : 1 + suc t.0 * (size b marks body + 1) ≤ suc t.0 * own_repeat = turns_fit t.0 t.0 (size b marks body + 1) own_repeat (omega arith) (omega arith) in
                          let m : suc t.0 * (size b marks body + 1) ≡ t.0 * (size b marks body + 1) + (size b marks body + 1) = suc-mul t.0 (size b marks body + 1) in
                          let ro : suc t.0 * own_repeat ≤ times marks (Repeat at count body) * own_repeat = mul-le-mul e (le_refl own_repeat) in omega arith

          falls : (y : Doing) → Beside false any b marks body (Turns at left body ∷ below) x None y → Fine d marks body (size b marks body) x y →
              Sane (λ e u. Beside false any b marks (Repeat at count body) below x e u) (Fine d marks (Repeat at count body) (size b marks (Repeat at count body)) x) (Rests d marks (Repeat at count body) below) (repeat_at a left (counted y))
          falls y bu fu =
              sane_map (RepeatLeft d p clean times counts nets turns enough (enabled_at d nets turns a) marks below at count body (size b marks body) (inner_repeat a l) left) (λ e u. Beside false any b marks (Repeat at count body) below x e u)
              (λ u. spent_repeat u × ((Leaves d below body None → ⊥) → 0 + u.events ≤ size b marks body + 1 + x.events)) (Fine d marks (Repeat at count body) (size b marks (Repeat at count body)) x)
              (Rests d marks (Repeat at count body) below) (Rests d marks (Repeat at count body) below) beside fine (λ q u r g. r) (repeat_at a left (counted y))
              (sane_given (Leaves d below body None) (RepeatLeft d p clean times counts nets turns enough (enabled_at d nets turns a) marks below at count body (size b marks body) (inner_repeat a l) left) spent_repeat (λ u. 0 + u.events ≤ size b marks body + 1 + x.events) (Rests d marks (Repeat at count body) below)
              (repeat_at a left (counted y))
              (repeat_sane d p clean times counts nets turns enough (enabled_at d nets turns a) marks below at count body (size b marks body) (inner_repeat a l) left (counted y) shy (λ n t. let i : left < n = bound n t in omega arith))
              (λ never. repeat_once a l 0 (size b marks body + 1 + x.events) left (counted y) shy never (λ e. omega arith)
              (λ m e. with_more y.events (size b marks body + (x.events + suc y.events)) 0 _ (go (setting d nets turns a) false body (Turns at m body ∷ below) (counted y)) (λ u g. omega arith) (other_turns a left m y.events _ (counted y) (bu a l (counted y) shy never)))))
            where
              spent : y.events ≤ size b marks body + x.events
              spent = fu.spent

              spent_repeat : Doing → Type 0
              spent_repeat = RepeatSpent d p clean times counts nets turns enough (enabled_at d nets turns a) marks below at count body (size b marks body) (inner_repeat a l) left (counted y)

              shy : IsShaped d y.store
              shy = shaped (FreeIn d marks body) x y sh fu.kept

              fine : (u : Doing) → spent_repeat u × ((Leaves d below body None → ⊥) → 0 + u.events ≤ size b marks body + 1 + x.events) → Fine d marks (Repeat at count body) (size b marks (Repeat at count body)) x u
              fine u g = record {
                spent = stable u.events (size b marks (Repeat at count body) + x.events) (either {P = Leaves d below body None} unrolled (λ never. sure (let i : 0 + u.events ≤ size b marks body + 1 + x.events = g.1 never in
                    let r : own_repeat ≤ size b marks (Repeat at count body) = repeat_once_room in omega arith)));
                kept = kept_then (FreeIn d marks (Repeat at count body)) (FreeIn d marks body) (FreeIn d marks (Repeat at count body)) x y u free_in (λ v f. f) fu.kept (record { words = g.0.kept.words; shape = g.0.kept.shape });
              }
                where
                  unrolled : Leaves d below body None → Surely (u.events ≤ size b marks (Repeat at count body) + x.events)
                  unrolled lb = surely (has_walk d p clean times counts nets turns enough marks below body h.opens lb) (λ walk. surely (spins_not d clean (h.meets marks (Repeat at count body) itself) refl walk) (λ k. sure (constant walk k)))
                    where
                      constant : HasWalk d marks body → IsConstantLoop d (Repeat at count body) → u.events ≤ size b marks (Repeat at count body) + x.events
                      constant walk (inr t) = absurd (repeat_ends d p clean times counts nets turns enough at count body t)
                      constant walk (inl t) =
                          let e : suc t.0 ≤ times marks (Repeat at count body) = counts.unrolled marks (Repeat at count body) t.0 (h.meets marks (Repeat at count body) itself) (record { turns_are = t.1; body = body; body_is = refl; walk = walk }) in
                          let i : suc left * (size b marks body + 1) ≤ t.0 * (size b marks body + 1) = mul-le-mul (bound t.0 t.1) (le_refl (size b marks body + 1)) in
                          let w : 1 + suc t.0 * (size b marks body + 1) ≤ suc t.0 * own_repeat = turns_fit t.0 t.0 (size b marks body + 1) own_repeat (omega arith) (let s : size b marks body + 3 ≤ own_repeat = own_repeat_more in omega arith) in
                          let m : suc t.0 * (size b marks body + 1) ≡ t.0 * (size b marks body + 1) + (size b marks body + 1) = suc-mul t.0 (size b marks body + 1) in
                          let f : suc left * (size b marks body + 1) ≡ left * (size b marks body + 1) + (size b marks body + 1) = suc-mul left (size b marks body + 1) in
                          let s : u.events ≤ left * (size b marks body + 1) + suc y.events = g.0.spent in
                          let ro : suc t.0 * own_repeat ≤ times marks (Repeat at count body) * own_repeat = mul-le-mul e (le_refl own_repeat) in omega arith

              beside : (e : Option ℕ) (u : Doing) → RepeatLeft d p clean times counts nets turns enough (enabled_at d nets turns a) marks below at count body (size b marks body) (inner_repeat a l) left e u →
                  spent_repeat u × ((Leaves d below body None → ⊥) → 0 + u.events ≤ size b marks body + 1 + x.events) → Beside false any b marks (Repeat at count body) below x e u
              beside (Some m) u lf g a2 l2 z shz n = absurd (n (leaves_repeat_turn d below at count body m (some_turn m) lf.0))
              beside None u lf g a2 l2 z shz n =
                  repeat_once a2 l2 u.events (size b marks (Repeat at count body) + (x.events + z.events)) (so_many a2 z) (counted z) shz never
                  (λ e. let s : u.events ≤ suc y.events = last lf in let r : own_repeat ≤ size b marks (Repeat at count body) = repeat_once_room in let q : size b marks body + 3 ≤ own_repeat = own_repeat_more in omega arith)
                  (λ k e. with_more y.events (size b marks body + (x.events + suc z.events)) u.events _ (go (setting d nets turns a2) false body (Turns at k body ∷ below) (counted z))
                  (λ w g. let s : u.events ≤ suc y.events = last lf in let r : own_repeat ≤ size b marks (Repeat at count body) = repeat_once_room in let q : size b marks body + 3 ≤ own_repeat = own_repeat_more in omega arith)
                  (other_turns a2 left k y.events _ (counted z) (bu a2 l2 (counted z) shz never)))
                where
                  never : Leaves d below body None → ⊥
                  never lb = n (leaves_repeat d below at count body (λ k t. inr lb))

                  last : (left ≡ 0) ⊎ Leaves d below body None → u.events ≤ suc y.events
                  last (inr lb) = absurd (never lb)
                  last (inl e) = let s : u.events ≤ 0 * (size b marks body + 1) + suc y.events = subst (λ n. u.events ≤ n * (size b marks body + 1) + suc y.events) e g.0.spent in
                      let q : 0 * (size b marks body + 1) ≡ 0 = Rattle.std.proofs.Common.zero-mul (size b marks body + 1) in omega arith

    -- ---- a `forever`

    pub res_forever : (at : Place) (body : Statement) (marks : List ℕ) (below : List Work) → Here d p marks body (Do (Forever at body) ∷ below) under → (Leaves d below body None → ⊥) → (x : Doing) → IsShaped d x.store → (a : ℕ) → b ≤ a → (o : Outcome) →
        Resumed false any b marks body (Do (Forever at body) ∷ below) x o → Resumed false any b marks (Forever at body) below x (and_then o (go (setting d nets turns a) false (Forever at body) below))
    res_forever at body marks below h never x sh a l o ih =
        sane_then (λ e y. Beside false any b marks body (Do (Forever at body) ∷ below) x e y) (λ e y. Beside false any b marks (Forever at body) below x e y)
        (Fine d marks body (size b marks body) x) (Fine d marks (Forever at body) (size b marks (Forever at body)) x) (Rests d marks body (Do (Forever at body) ∷ below)) (Rests d marks (Forever at body) below) o
        (go (setting d nets turns a) false (Forever at body) below) ih
        falls jumps
        (λ y fu. fine_part d p clean times counts nets turns enough marks marks (Forever at body) body (size b marks (Forever at body)) (size b marks body) x x y free_in (omega arith) (kept_store (FreeIn d marks (Forever at body)) x x refl) fu)
        (λ l y r g at q k i. in_forever (r at q k i))
      where
        free_in : (u : ℕ) → FreeIn d marks (Forever at body) u → FreeIn d marks body u
        free_in u f o x st = f o x (place.in_forever st)

        turn : ℕ → Doing → Outcome
        turn a = go (setting d nets turns a) false body (Do (Forever at body) ∷ below)

        begins : (a : ℕ) → b ≤ a → (z : Doing) → IsShaped d z.store → Stated d p clean times counts nets turns enough marks body (Do (Forever at body) ∷ below) (size b marks body) z (go (setting d nets turns a) false body (Do (Forever at body) ∷ below) z)
        begins a l z = start a l body marks (Do (Forever at body) ∷ below) h z

        jumps : (m : ℕ) (y : Doing) → Beside false any b marks body (Do (Forever at body) ∷ below) x (Some m) y → Fine d marks body (size b marks body) x y → Beside false any b marks (Forever at body) below x (Some m) y
        jumps m y bu fu a2 l2 z shz n =
            with_none y.events _ (go (setting d nets turns a2) false body (Do (Forever at body) ∷ below) z) (λ y. Lost)
            (no_fall (λ q t. Leaves d (Do (Forever at body) ∷ below) body q) (Fine d marks body (size b marks body) z) (Rests d marks body (Do (Forever at body) ∷ below)) _ (begins a2 l2 z shz) (λ u lt. never lt))
            (with_more y.events (size b marks body + (x.events + z.events)) y.events _ (go (setting d nets turns a2) false body (Do (Forever at body) ∷ below) z) (λ u g. omega arith) (bu a2 l2 z shz (λ lb. n (leaves_forever d below at body m lb))))

        falls : (y : Doing) → Beside false any b marks body (Do (Forever at body) ∷ below) x None y → Fine d marks body (size b marks body) x y →
            Sane (λ e u. Beside false any b marks (Forever at body) below x e u) (Fine d marks (Forever at body) (size b marks (Forever at body)) x) (Rests d marks (Forever at body) below) (go (setting d nets turns a) false (Forever at body) below y)
        falls y bu fu =
            sane_then (λ e u. Leaves d (Do (Forever at body) ∷ below) body e × AnyLeft e u) (λ e u. Beside false any b marks (Forever at body) below x e u)
            (λ u. Fine d marks body (size b marks body) y u × (0 + u.events ≤ size b marks body + x.events)) (Fine d marks (Forever at body) (size b marks (Forever at body)) x)
            (λ q u. Rests d marks body (Do (Forever at body) ∷ below) q u × AnyRest q u) (Rests d marks (Forever at body) below) (go (setting d nets turns a) false body (Do (Forever at body) ∷ below) y) (λ y. Lost)
            (sane_both (λ e u. Leaves d (Do (Forever at body) ∷ below) body e) AnyLeft (Fine d marks body (size b marks body) y) (λ u. 0 + u.events ≤ size b marks body + x.events) (Rests d marks body (Do (Forever at body) ∷ below)) AnyRest
            (go (setting d nets turns a) false body (Do (Forever at body) ∷ below) y) (begins a l y shy)
            (with_more y.events (size b marks body + (x.events + y.events)) 0 _ (go (setting d nets turns a) false body (Do (Forever at body) ∷ below) y) (λ u g. omega arith) (bu a l y shy never)))
            (λ u lu g. absurd (never lu.0))
            (λ m u lu g a2 l2 z shz n. absurd (n (leaves_forever d below at body m lu.0)))
            (λ u g. record {
              spent = (let i : 0 + u.events ≤ size b marks body + x.events = g.1 in omega arith);
              kept = kept_then (FreeIn d marks (Forever at body)) (FreeIn d marks body) (FreeIn d marks body) x y u free_in free_in fu.kept g.0.kept;
            })
            (λ l u r g at q k i. in_forever (r.0 at q k i))
          where
            shy : IsShaped d y.store
            shy = shaped (FreeIn d marks body) x y sh fu.kept

  -- ---- an enable: its task's body is one enable deeper

  module _ (b : ℕ) (under : List ℕ) (room : length d.tasks ≤ length under + suc b) where
    pub task_here : (at : Place) (t : ℕ) (ins : List Expr) (outs : List Lvalue) (task : FlatTask) (marks : List ℕ) (below : List Work) → slice_get d.tasks t ≡ Some task → Here d p marks (Enable at t ins outs) below under →
        Here d p (task.mark ∷ marks) task.body (Return at task.mark (zip task.outs outs) ∷ below) (t ∷ under)
    task_here at t ins outs task marks below is h =
        here_task d p clean times counts nets turns enough (sound_tasks d sound) (enabled_at d nets turns (suc b)) ((counting d times (suc b)).calls) ((counting d times (suc b)).tasks) under
        (tasks_stated d p clean sound times counts nets turns enough (suc b) (suc b) under (omega arith) room) marks below at t ins outs task (zip task.outs outs) is h

    pub res_task : (at : Place) (t : ℕ) (ins : List Expr) (outs : List Lvalue) (task : FlatTask) (marks : List ℕ) (below : List Work) → slice_get d.tasks t ≡ Some task → Here d p marks (Enable at t ins outs) below under →
        (x : Doing) → IsShaped d x.store → (a : ℕ) → suc b ≤ a → (o : Outcome) → Resumed false any b (task.mark ∷ marks) task.body (Return at task.mark (zip task.outs outs) ∷ below) x o →
        Resumed false any (suc b) marks (Enable at t ins outs) below x (returned (λ y. writing (copied_out d (seen (setting d nets turns a) y) (zip task.outs outs)) y) task.mark o)
    res_task at t ins outs task marks below is h x sh a l o ih =
        sane_returned (λ e y. Beside false any b (task.mark ∷ marks) task.body (Return at task.mark (zip task.outs outs) ∷ below) x e y) (λ e y. Beside false any (suc b) marks (Enable at t ins outs) below x e y)
        (Fine d (task.mark ∷ marks) task.body (size b (task.mark ∷ marks) task.body) x) (Fine d marks (Enable at t ins outs) (size (suc b) marks (Enable at t ins outs)) x)
        (Rests d (task.mark ∷ marks) task.body (Return at task.mark (zip task.outs outs) ∷ below)) (Rests d marks (Enable at t ins outs) below)
        (λ y. writing (copied_out d (seen (setting d nets turns a) y) (zip task.outs outs)) y) task.mark o ih
        (λ y bu fu. (returns y bu fu, left y fu))
        (λ n y e bu fu. through (Some n) None y (λ v. leaves_task d below at t n ins outs task (zip task.outs outs) is e v) bu)
        (λ n y e bu fu. through (Some n) (Some n) y (λ v. leaves_enabled d below at t n ins outs task (zip task.outs outs) is e v) bu)
        (λ y fu. inside y fu)
        (λ l y r g at q k i. in_task is (r at q k i))
      where
        rest : ℕ
        rest = 2 + exprs_size ((counting d times (suc b)).calls) ins + Rattle.el_design.specs.Sizes.targets_size ((counting d times (suc b)).calls) outs

        whole_is : size (suc b) marks (Enable at t ins outs) ≡ rest + size b (task.mark ∷ marks) task.body
        whole_is = ap (λ n. rest + n) (ap (task_size (counting d times b) marks) is ∙ sym (ap (λ c. size_of c (task.mark ∷ marks) task.body) (Rattle.el_design.proofs.OrderDepth.sizes_are d times b)))

        Own : ℕ → Type 0
        Own v = Contains (Rattle.el_design.specs.Turns.stored_by d (Enable at t ins outs)) v

        free_in : (v : ℕ) → FreeIn d marks (Enable at t ins outs) v → FreeIn d (task.mark ∷ marks) task.body v
        free_in v f o z st = f o z (place.in_task is st)

        inside : (y : Doing) → Fine d (task.mark ∷ marks) task.body (size b (task.mark ∷ marks) task.body) x y → Fine d marks (Enable at t ins outs) (size (suc b) marks (Enable at t ins outs)) x y
        inside y g = fine_part d p clean times counts nets turns enough marks (task.mark ∷ marks) (Enable at t ins outs) task.body (size (suc b) marks (Enable at t ins outs)) (size b (task.mark ∷ marks) task.body) x x y free_in
            (let e : size (suc b) marks (Enable at t ins outs) ≡ rest + size b (task.mark ∷ marks) task.body = whole_is in omega arith) (kept_store (FreeIn d marks (Enable at t ins outs)) x x refl) g

        left : (y : Doing) → Fine d (task.mark ∷ marks) task.body (size b (task.mark ∷ marks) task.body) x y → Fine d marks (Enable at t ins outs) (size (suc b) marks (Enable at t ins outs)) x (writing (copied_out d (seen (setting d nets turns a) y) (zip task.outs outs)) y)
        left y g = record {
          spent = (let n : y.events ≤ size b (task.mark ∷ marks) task.body + x.events = g.spent in let e : size (suc b) marks (Enable at t ins outs) ≡ rest + size b (task.mark ∷ marks) task.body = whole_is in omega arith);
          kept = kept_then (FreeIn d marks (Enable at t ins outs)) (FreeIn d marks (Enable at t ins outs)) (FreeIn d marks (Enable at t ins outs)) x y (writing (copied_out d (seen (setting d nets turns a) y) (zip task.outs outs)) y) (λ v f. f) (λ v f. f) (inside y g).kept
              (Rattle.el_design.proofs.OrderOutcome.kept_writes (FreeIn d marks (Enable at t ins outs)) Own y (writing (copied_out d (seen (setting d nets turns a) y) (zip task.outs outs)) y) (copied_out d (seen (setting d nets turns a) y) (zip task.outs outs)) refl
              (left_in Own d (seen (setting d nets turns a) y) task.outs outs (λ v c. Rattle.std.proofs.lemmas.List.Elements.Contains-append_right (Rattle.el_design.specs.Turns.formals_in d (Enable at t ins outs)) (Rattle.std.specs.Prelude.flat_map Rattle.el_design.specs.Names.target_variables outs) v c)) (λ v f c. f marks (Enable at t ins outs) itself c));
        }

        -- a run of the enable from its start
        entered : ℕ → Doing → Doing
        entered a z = writing (copied_in d (seen (setting d nets turns a) z) (zip task.ins ins)) z

        from_start : (a : ℕ) → suc b ≤ a → (k n m : ℕ) (z : Doing) → IsShaped d z.store → ((c : ℕ) → b ≤ c → With k n (go (setting d nets turns c) false task.body (Return at task.mark (zip task.outs outs) ∷ below) (entered a z))) → n ≤ m →
            ((c : ℕ) → b ≤ c → (u : Doing) → k + u.events ≤ n → (k + suc u.events ≤ m) ⊎ NoFall (go (setting d nets turns c) false task.body (Return at task.mark (zip task.outs outs) ∷ below) (entered a z))) →
            With k m (go (setting d nets turns a) false (Enable at t ins outs) below z)
        from_start zero l k n m z shz w j f = absurd (omega arith)
        from_start (suc c) l k n m z shz w j f =
            subst (λ o. With k m (enabling (setting d nets turns (suc c)) at ins outs below z o)) (sym is) (closes (go (setting d nets turns c) false task.body (Return at task.mark (zip task.outs outs) ∷ below) (entered (suc c) z)) (w c (omega arith)) (f c (omega arith)))
          where
            closes : (o : Outcome) → With k n o → ((u : Doing) → k + u.events ≤ n → (k + suc u.events ≤ m) ⊎ NoFall o) → With k m (returned (λ y. writing (copied_out d (seen (setting d nets turns (suc c)) y) (zip task.outs outs)) y) task.mark o)
            closes (Falls u) w f = pick (f u w.1)
              where
                pick : (k + suc u.events ≤ m) ⊎ ⊥ → With k m (Falls (writing (copied_out d (seen (setting d nets turns (suc c)) u) (zip task.outs outs)) u))
                pick (inl g) = (tt, g)
                pick (inr g) = absurd g
            closes (Stops q u) w f = (tt, let g : k + u.events ≤ n = w.1 in omega arith)
            closes (Jumps q u) w f = mark (task.mark == q)
              where
                mark : (b : Bool) → With k m (if b then Falls u else Jumps q u)
                mark true = (tt, let g : k + u.events ≤ n = w.1 in omega arith)
                mark false = (tt, let g : k + u.events ≤ n = w.1 in omega arith)
            closes Lost w f = absurd w

        entered_shaped : (a : ℕ) (z : Doing) → IsShaped d z.store → IsShaped d (entered a z).store
        entered_shaped a z s = shaped_all z.store (copied_in d (seen (setting d nets turns a) z) (zip task.ins ins)) ∙ s

        through : (e q : Option ℕ) (y : Doing) → (Leaves d (Return at task.mark (zip task.outs outs) ∷ below) task.body e → Leaves d below (Enable at t ins outs) q) →
            Beside false any b (task.mark ∷ marks) task.body (Return at task.mark (zip task.outs outs) ∷ below) x e y → Beside false any (suc b) marks (Enable at t ins outs) below x q y
        through e q y f bu a2 l2 z shz n =
            from_start a2 l2 y.events (size b (task.mark ∷ marks) task.body + (x.events + suc z.events)) _ z shz (λ c k. bu c k (entered a2 z) (entered_shaped a2 z shz) (λ v. n (f v)))
            (let e : size (suc b) marks (Enable at t ins outs) ≡ rest + size b (task.mark ∷ marks) task.body = whole_is in omega arith)
            (λ c k u g. inl (let e : size (suc b) marks (Enable at t ins outs) ≡ rest + size b (task.mark ∷ marks) task.body = whole_is in omega arith))

        returns : (y : Doing) → Beside false any b (task.mark ∷ marks) task.body (Return at task.mark (zip task.outs outs) ∷ below) x None y → Fine d (task.mark ∷ marks) task.body (size b (task.mark ∷ marks) task.body) x y →
            Beside false any (suc b) marks (Enable at t ins outs) below x None (writing (copied_out d (seen (setting d nets turns a) y) (zip task.outs outs)) y)
        returns y bu fu a2 l2 z shz n =
            from_start a2 l2 (suc y.events) (suc (size b (task.mark ∷ marks) task.body + (x.events + suc z.events))) _ z shz
            (λ c k. with_more y.events (size b (task.mark ∷ marks) task.body + (x.events + suc z.events)) (suc y.events) _ (go (setting d nets turns c) false task.body (Return at task.mark (zip task.outs outs) ∷ below) (entered a2 z)) (λ u g. omega arith)
            (bu c k (entered a2 z) (entered_shaped a2 z shz) never))
            (let e : size (suc b) marks (Enable at t ins outs) ≡ rest + size b (task.mark ∷ marks) task.body = whole_is in omega arith)
            (λ c k u g. inr (no_fall (λ q t. Leaves d (Return at task.mark (zip task.outs outs) ∷ below) task.body q) (Fine d (task.mark ∷ marks) task.body (size b (task.mark ∷ marks) task.body) (entered a2 z)) (Rests d (task.mark ∷ marks) task.body (Return at task.mark (zip task.outs outs) ∷ below)) _
            (start b (t ∷ under) (omega arith) c k task.body (task.mark ∷ marks) (Return at task.mark (zip task.outs outs) ∷ below)
            (task_here at t ins outs task marks below is h) (entered a2 z) (entered_shaped a2 z shz)) (λ u lt. never lt)))
          where
            never : Leaves d (Return at task.mark (zip task.outs outs) ∷ below) task.body None → ⊥
            never v = n (leaves_enable d below at t ins outs task (zip task.outs outs) is v)

  -- ---- all statements

  pub resumed : {store : Store} (a b : ℕ) (under : List ℕ) → b ≤ a → length d.tasks ≤ length under + b → (chosen : Bool) (on : Expr) {marks : List ℕ} {s : Statement} {below k : List Work} (q : Paused d store marks s below k) →
      Here d p marks s below under → (chosen ≡ true → ChooseBy on s) → (x : Doing) → x.store ≡ store → IsShaped d x.store → Resumed chosen on b marks s below x (resume (setting d nets turns a) q x)
  resumed a b under l r chosen on (at_wait {marks = marks} {below = below} {at = at} {falling = falling}) h c x e sh =
      lift chosen on b marks (Wait at falling) below x (Falls x) refl refl (λ a z. refl)
      ((λ a2 l2 z shz n. (tt, omega arith)), record { spent = omega arith; kept = kept_store (FreeIn d marks (Wait at falling)) x x refl })
  resumed a b under l r chosen on (in_first {marks = marks} {below = below} {a = u} {b = v} q) h c x e sh =
      lift chosen on b marks (Seq u v) below x _ refl refl (λ a z. refl)
      (res_first b under r u v marks below h x sh a l (resume (setting d nets turns a) q x) (resumed a b under l r false any q (here_part (λ tasks m o x st. place.in_first st) (λ m e. e) h) (λ f. absurd (let g : false ≡ true = f in cc)) x e sh))
  resumed a b under l r chosen on (in_rest {marks = marks} {below = below} {a = u} {b = v} q) h c x e sh =
      lift chosen on b marks (Seq u v) below x _ refl refl (λ a z. refl)
      (res_rest b under r u v marks below h x (resume (setting d nets turns a) q x) (resumed a b under l r false any q (here_part (λ tasks m o x st. place.in_rest st) (λ m e. e) h) (λ f. absurd (let g : false ≡ true = f in cc)) x e sh))
  resumed a b under l r chosen on (in_block {marks = marks} {below = below} {at = at} {body = body} q) h c x e sh =
      lift chosen on b marks (Block at None body) below x _ refl refl (λ a z. refl)
      (res_block b under r at body marks below x (resume (setting d nets turns a) q x) (resumed a b under l r false any q (here_part (λ tasks m o x st. place.in_block st) (λ m e. e) h) (λ f. absurd (let g : false ≡ true = f in cc)) x e sh))
  resumed a b under l r chosen on (in_named {marks = marks} {below = below} {at = at} {m = m} {body = body} q) h c x e sh =
      lift chosen on b marks (Block at (Some m) body) below x _ refl refl (λ a z. refl)
      (res_named b under r at m body marks below x (resume (setting d nets turns a) q x) (resumed a b under l r false any q (here_named h) (λ f. absurd (let g : false ≡ true = f in cc)) x e sh))
  resumed a b under l r chosen on (in_then {marks = marks} {below = below} {at = at} {test = test} {a = u} {b = v} q) h c x e sh =
      lift chosen on b marks (If at test u v) below x _ refl refl (λ a z. refl)
      (res_then b under r at test u v marks below h x (resume (setting d nets turns a) q x) (resumed a b under l r false any q (here_part (λ tasks m o x st. place.in_then st) (λ m e. e) h) (λ f. absurd (let g : false ≡ true = f in cc)) x e sh))
  resumed a b under l r chosen on (in_else {marks = marks} {below = below} {at = at} {test = test} {a = u} {b = v} q) h c x e sh =
      lift chosen on b marks (If at test u v) below x _ refl refl (λ a z. refl)
      (res_else b under r at test u v marks below h x (resume (setting d nets turns a) q x) (resumed a b under l r false any q (here_part (λ tasks m o x st. place.in_else st) (λ m e. e) h) (λ f. absurd (let g : false ≡ true = f in cc)) x e sh))
  resumed a b under l r chosen on (in_case {marks = marks} {below = below} {at = at} {on = by} {arms = arms} q) h c x e sh =
      lift chosen on b marks (Case at by arms) below x _ refl refl (λ a z. refl)
      (res_case b under r at by arms marks below x (resume (setting d nets turns a) q x) (resumed a b under l r true by q (here_part (λ tasks m o x st. place.in_case st) (λ m e. e) h) (λ f. (h.sound h.text (Case at by arms) itself).fits.1) x e sh))
  resumed a b under l r chosen on (in_arm {marks = marks} {below = below} {on = by} {labels = labels} {body = body} {others = others} q) h c x e sh =
      res_arm b under r chosen on by labels body others marks below h c x (resume (setting d nets turns a) q x)
      (resumed a b under l r false any q (here_part (λ tasks m o x st. place.in_arm st) (λ m e. e) h) (λ f. absurd (let g : false ≡ true = f in cc)) x e sh)
  resumed a b under l r chosen on (in_others {marks = marks} {below = below} {on = by} {labels = labels} {body = body} {others = others} q) h c x e sh =
      res_others b under r chosen on by labels body others marks below h c x (resume (setting d nets turns a) q x)
      (resumed a b under l r chosen on q (here_part (λ tasks m o x st. place.in_others st) (λ m e. e) h) (λ f. (c f).1) x e sh)
  resumed a b under l r chosen on (in_for {marks = marks} {below = below} {at = at} {v = v} {first = first} {test = test} {next = next} {body = body} j f q) h c x e sh =
      lift chosen on b marks (For at v first test next body) below x _ refl refl (λ a z. refl)
      (res_for b under r at v first test next body marks below h x sh j (subst (λ s. InTurn d s v first test next body j) (sym e) f) a l (resume (setting d nets turns a) q x)
      (resumed a b under l r false any q (here_part (λ tasks m o x st. place.in_for st) (λ m e. e) h) (λ f. absurd (let g : false ≡ true = f in cc)) x e sh))
  resumed a b under l r chosen on (in_while {marks = marks} {below = below} {at = at} {test = test} {body = body} q) h c x e sh =
      lift chosen on b marks (While at test body) below x _ refl refl (λ a z. refl)
      (res_while b under r at test body marks below h x sh a l (resume (setting d nets turns a) q x)
      (resumed a b under l r false any q (here_part (λ tasks m o x st. place.in_while st) (λ m e. e) h) (λ f. absurd (let g : false ≡ true = f in cc)) x e sh))
  resumed a b under l r chosen on (in_repeat {marks = marks} {below = below} {at = at} {count = count} {body = body} left f q) h c x e sh =
      lift chosen on b marks (Repeat at count body) below x _ refl refl (λ a z. refl)
      (res_repeat b under r at count body marks below h x sh left f a l (resume (setting d nets turns a) q x)
      (resumed a b under l r false any q (here_part (λ tasks m o x st. place.in_repeat st) (λ m e. e) h) (λ f. absurd (let g : false ≡ true = f in cc)) x e sh))
  resumed a b under l r chosen on (in_forever {marks = marks} {below = below} {at = at} {body = body} q) h c x e sh =
      lift chosen on b marks (Forever at body) below x _ refl refl (λ a z. refl)
      (res_forever b under r at body marks below (here_part (λ tasks m o x st. place.in_forever st) (λ m e. e) h)
      (λ lb. has_walk d p clean times counts nets turns enough marks below body h.opens lb (λ walk. spins_not d clean (h.meets marks (Forever at body) itself) refl walk (forever_ends d p clean times counts nets turns enough at body)))
      x sh a l (resume (setting d nets turns a) q x)
      (resumed a b under l r false any q (here_part (λ tasks m o x st. place.in_forever st) (λ m e. e) h) (λ f. absurd (let g : false ≡ true = f in cc)) x e sh))
  resumed a zero under l r chosen on (in_task {marks = marks} {below = below} {at = at} {t = t} {ins = ins} {outs = outs} {task = task} i q) h c x e sh =
      absurd (let n : length (t ∷ under) ≤ length d.tasks = under_few d (t ∷ under)
      (here_task d p clean times counts nets turns enough (sound_tasks d sound) (enabled_at d nets turns zero) ((counting d times zero).calls) ((counting d times zero).tasks) under
      (tasks_stated d p clean sound times counts nets turns enough zero zero under (omega arith) r) marks below at t ins outs task (zip task.outs outs) i h).tasks in omega arith)
  resumed a (suc b) under l r chosen on (in_task {marks = marks} {below = below} {at = at} {t = t} {ins = ins} {outs = outs} {task = task} i q) h c x e sh =
      lift chosen on (suc b) marks (Enable at t ins outs) below x _ refl refl (λ a z. refl)
      (res_task b under r at t ins outs task marks below i h x sh a l (resume (setting d nets turns a) q x)
      (resumed a b (t ∷ under) (omega arith) (omega arith) false any q (task_here b under r at t ins outs task marks below i h) (λ f. absurd (let g : false ≡ true = f in cc)) x e sh))
