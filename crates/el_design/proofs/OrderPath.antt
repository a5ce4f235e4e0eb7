-- A process's run alone is a schedule of its events among all.
use Rattle.std.proofs.Common.{◌≡◌, ℕ, zero, suc, ◌+◌, ◌<◌, ◌==◌, Bool, true, false, if◌then◌else◌, List, [], ◌∷◌, ◌++◌, Option, Some, None, slice_get, option_map, set, length, refl, sym, ◌∙◌, ap, ap₂, subst, arith, set-set}
use Rattle.std.proofs.lemmas.Option.{slice_get_within}
use Rattle.xt_bits.specs.Word.{Word}
use Rattle.el_design.specs.Plain.{Flat}
use Rattle.el_design.specs.Store.{put_all}
use Rattle.el_design.specs.Stack.{Work}
use Rattle.el_design.specs.Act.{Acted, act}
use Rattle.el_design.specs.Queue.{Config, scene_of, Event, Run, Follow, Update, with_process, take_run}
use Rattle.el_design.specs.Alone.{Doing, Lone, lone_step, process_of, lone, Goes, stays, takes}
use Rattle.el_design.proofs.OrderDiamond.{count, Path}
use Rattle.el_design.proofs.OrderCommute.{step, Fine, step_fine}
use Rattle.el_design.proofs.OrderPlaces.{set_got}
use Rattle.el_design.specs.Sound.{IsSound}

pub path_on : (d : Flat) (es fs : List Event) (a b c : Config) → Path (step d) es a b → Path (step d) fs b c → Path (step d) (es ++ fs) a c
path_on d [] fs a b c p q = subst (λ x. Path (step d) fs x c) (sym p) q
path_on d (e ∷ es) fs a b c p q = (p.0, p.1, path_on d es fs p.0 b c p.2 q)

pub path_fine : (d : Flat) → IsSound d → (es : List Event) (a b : Config) → Path (step d) es a b → Fine d a → Fine d b
path_fine d s [] a b p f = subst (Fine d) p f
path_fine d s (e ∷ es) a b p f = path_fine d s es p.0 b p.2 (step_fine d s a p.0 e f p.1)

pub count_both : (f : Event → Bool) (es fs : List Event) → count f (es ++ fs) ≡ count f es + count f fs
count_both f [] fs = omega arith
count_both f (e ∷ es) fs = go (f e) (count_both f es fs)
  where
    go : (b : Bool) → count f (es ++ fs) ≡ count f es + count f fs → (if b then suc (count f (es ++ fs)) else count f (es ++ fs)) ≡ (if b then suc (count f es) else count f es) + count f fs
    go true h = omega arith
    go false h = h

-- an event of this process
abbrev pub is_run : ℕ → Event → Bool
is_run q (Run i) = i == q
is_run q (Follow n) = false
is_run q (Update i) = false

-- the configuration with one process further
abbrev pub further : Config → ℕ → List Work → Doing → Config
further c i l y = record c { store = y.store; procs = set c.procs i (process_of l y) }

set_itself : {X : Type 0} (xs : List X) (i : ℕ) (x : X) → slice_get xs i ≡ Some x → set xs i x ≡ xs
set_itself [] i x e = cc
set_itself (y ∷ ys) zero x e = ap (λ z. z ∷ ys) (some_is x y (sym e))
  where
    some_is : {X : Type 0} (a b : X) → Some a ≡ Some b → a ≡ b
    some_is a b e = cc
set_itself (y ∷ ys) (suc i) x e = ap (λ zs. y ∷ zs) (set_itself ys i x e)

-- what one event alone is
record Once (d : Flat) (nets : List Word) (k : List Work) (x : Doing) (mid : List Work) (y : Doing) : Type 0 where
  acted : Acted
  acts : act d (scene_of d x.store nets) (process_of k x) ≡ Some acted
  store : put_all x.store acted.writes ≡ y.store
  process : acted.process ≡ process_of mid y

once : (d : Flat) (nets : List Word) (k mid : List Work) (x y : Doing) → lone_step d nets (lone k x) ≡ Some (lone mid y) → Once d nets k x mid y
once d nets k mid x y h = go (act d (scene_of d x.store nets) (process_of k x)) refl h
  where
    some_is : (a b : Lone) → Some a ≡ Some b → a ≡ b
    some_is a b e = cc

    go : (o : Option Acted) → act d (scene_of d x.store nets) (process_of k x) ≡ o → option_map (λ e. record { store = put_all x.store e.writes; process = e.process }) o ≡ Some (lone mid y) → Once d nets k x mid y
    go None e h = cc
    go (Some a) e h = let q : record { store = put_all x.store a.writes; process = a.process } ≡ lone mid y = some_is _ _ h in
        record { acted = a; acts = e; store = ap (λ l. l.store) q; process = ap (λ l. l.process) q }

-- so many events of process i
pub record Ways (d : Flat) (i : ℕ) (c : Config) (l : List Work) (x y : Doing) : Type 0 where
  pub events : List Event
  pub path : Path (step d) events c (further c i l y)
  pub own : count (is_run i) events + x.events ≡ y.events
  pub others : (q : ℕ) → (i == q) ≡ false → count (is_run q) events ≡ 0

pub ways : {d : Flat} {nets : List Word} {k l : List Work} {x y : Doing} (i : ℕ) (c : Config) → c.nets ≡ nets → c.store ≡ x.store → slice_get c.procs i ≡ Some (process_of k x) → (i == i) ≡ true → Goes d nets k x l y → Ways d i c l x y
ways {x = x} i c n s p t (stays {k = k}) = record {
  events = [];
  path = ap₂ (λ st ps. record c { store = st; procs = ps }) s (sym (set_itself c.procs i (process_of k x) p));
  own = omega arith;
  others = λ q e. refl;
}
ways {d} {nets} {k} {l} {x} {y} i c n s p t (takes {mid = mid} {y = z} e m g) = whole (once d nets k mid x z e) (λ a b q. ways i (further c i mid z) n refl q t g)
  where
    inside : i < length c.procs
    inside = slice_get_within c.procs i (process_of k x) p

    got : slice_get (set c.procs i (process_of mid z)) i ≡ Some (process_of mid z)
    got = set_got c.procs i (process_of mid z) inside

    whole : Once d nets k x mid z → ((a : ℕ) (b : ℕ) → slice_get (set c.procs i (process_of mid z)) i ≡ Some (process_of mid z) → Ways d i (further c i mid z) l z y) → Ways d i c l x y
    whole o more = let w : Ways d i (further c i mid z) l z y = more 0 0 got in record {
      events = Run i ∷ w.events;
      path = (further c i mid z, first, subst (λ ps. Path (step d) w.events (further c i mid z) (record c { store = y.store; procs = ps })) (set-set c.procs i (process_of mid z) (process_of l y)) w.path);
      own = (let a : count (is_run i) w.events + z.events ≡ y.events = w.own in let b : (if i == i then suc (count (is_run i) w.events) else count (is_run i) w.events) ≡ suc (count (is_run i) w.events) = ap (λ b. if b then suc (count (is_run i) w.events) else count (is_run i) w.events) t in omega arith);
      others = λ q f. ap (λ b. if b then suc (count (is_run q) w.events) else count (is_run q) w.events) f ∙ w.others q f;
    }
      where
        first : step d (Run i) c ≡ Some (further c i mid z)
        first = ap (take_run d c i) p
            ∙ ap₂ (λ st ns. option_map (λ a. with_process c i a.writes a.process) (act d (scene_of d st ns) (process_of k x))) s n
            ∙ ap (option_map (λ a. with_process c i a.writes a.process)) o.acts
            ∙ ap₂ (λ st q. Some (record c { store = st; procs = set c.procs i q })) (ap (λ st. put_all st o.acted.writes) s ∙ o.store) o.process
