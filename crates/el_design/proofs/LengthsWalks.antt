-- The lengths of a statement bound its walks; and in a design that breaks no rule of walks no loop of a process spins.
use Rattle.std.proofs.Common.{◌≡◌, inl, inr, ℕ, suc, ◌+◌, Bool, true, false, if◌then◌else◌, List, [], ◌∷◌, Option, Some, None, Contains, slice_get, refl, sym, ◌∙◌, ap, subst, arith, eq-eqb}
use Rattle.xt_base.specs.declared.refusals.Place.{Place}
use Rattle.el_design.specs.Plain.{Statement, Forever, Disable, FlatProc, Flat}
use Rattle.el_design.specs.Names.{place_of_statement}
use Rattle.el_design.specs.Stack.{Work, Do, below_mark}
use Rattle.el_design.specs.InPlace.{itself, in_forever, loop_of_process}
use Rattle.el_design.specs.Turns.{HasBound, IsEndlessFor}
use Rattle.el_design.specs.Rules.{recursive, loop_spins, always_spins, without_end, spins, turns, IsFinite, IsCleanBefore}
use Rattle.el_design.specs.Walk.{Walks, HasWalk}
use Rattle.el_design.specs.Exits.{Past, Away, Told, exits_in_place, TellsRightly}
use Rattle.el_design.specs.Lengths.{Ahead, one_more, leaving, lengths_in_place, to_exit, aheads, NoneSpins, whole_of, IsWithin, steps_of, StepsGoDown, LengthsBoundWalks}
use Rattle.el_design.proofs.OrderPlaces.{con_got}
use Rattle.el_design.proofs.Bounds.{bound_turns}
use Rattle.el_design.proofs.ExitsBack.{opened_round}
use Rattle.el_design.proofs.ExitsInPlace.{exits_unfold}
use Rattle.el_design.proofs.ExitsWalks.{all_are_walks}
use Rattle.el_design.specs.Sound.{IsSound}
use Rattle.el_design.specs.Fits.{IsSoundText}
use Rattle.el_design.specs.Loops.{told_of}
use Rattle.el_design.proofs.FitStatements.{process_body}
use Rattle.el_design.proofs.FitSteps.{always_fits}
use Rattle.el_design.proofs.LoopsTold.{loops_are_told}
use Rattle.el_design.proofs.LengthsAlike.{length_exit}
use Rattle.el_design.proofs.LengthsDown.{Under, lower, goal_ahead, walk_within}

module _ (d : Flat) (finite : IsFinite d) (told : Statement → Told) (marks : List ℕ) (s : Statement) (right : TellsRightly d told s) (waiting : NoneSpins d marks s) where
  within : (n : ℕ) (o : Option ℕ) → Under (Some n) o → IsWithin n o
  within n o h = h

  pub go_down : StepsGoDown d told marks s
  go_down waits ahead k next n placed step e = within (suc n) _ (subst (λ o. Under (one_more o) (aheads d told waits marks ahead k Past)) e (lower d finite told marks s right waiting waits ahead step placed))

  abbrev ahead_of : Option ℕ → Ahead → List Work → Ahead
  ahead_of waits goal k = aheads d told waits marks goal k

  -- a walk to what is meant
  bound : (waits : Option ℕ) (goal : Ahead) {end : List Work} (w : Walks d marks (Do s ∷ []) end) → ahead_of waits goal end Past ≡ Some 0 → IsWithin (steps_of w) (lengths_in_place d told waits marks s goal)
  bound waits goal w e = subst (λ n. IsWithin n (lengths_in_place d told waits marks s goal)) (let z : steps_of w + 0 ≡ steps_of w = omega arith in z) (walk_within d finite told marks s right waiting waits goal w 0 (itself, tt) e)

  to_mark : (m : ℕ) → to_exit (Away m) (Away m) ≡ Some 0
  to_mark m = rw (eq-eqb m m refl) refl

  left_at : (m : ℕ) (at : Place) (below : List Work) → below_mark m below ≡ None → Contains marks m → ahead_of None (to_exit (Away m)) (Do (Disable at m) ∷ below) Past ≡ Some 0
  left_at m at below e c =
      ap (λ b. leaving b m (ahead_of None (to_exit (Away m)) below)) (opened_round below marks m c)
      ∙ goal_ahead d finite told marks s right waiting None (to_exit (Away m)) m below e ∙ to_mark m

  pub bound_walks : LengthsBoundWalks d told marks s
  bound_walks =
      let are = all_are_walks d finite told (exits_in_place d told) (exits_unfold d finite told) marks s right in
      record {
        past = λ w. bound None (to_exit Past) w refl;
        past_only = λ n e. are.past (length_exit d told marks s Past n e);
        away = λ m w. bound None (to_exit (Away m)) w.walk (left_at m w.at w.below w.not_within w.open_round);
        away_only = λ m n e. are.away m (length_exit d told marks s (Away m) n e);
        waits = λ at falling k w. bound (Some 0) (λ e. None) w refl;
      }

-- ---- in a design that breaks no rule of a pass before the one on sizes

module _ (d : Flat) (clean : IsCleanBefore d 13) (p : ℕ) (process : FlatProc) (is : slice_get d.procs p ≡ Some process) where
  -- no loop in the process's statement spins
  none_in : NoneSpins d [] process.body
  none_in o x body st b no_turns w = unbound no_bound
    where
      endless : IsEndlessFor d x → ⊥
      endless e = clean 12 83 (place_of_statement x) (omega arith) (turns (without_end (loop_of_process (record { process = process; is = is; stands = st })) b e w))

      no_bound : HasBound d x → ⊥
      no_bound h = bound_turns d h (λ c. elim c [ inl t ↦ no_turns t.0 t.1 | inr e ↦ endless e ])

      unbound : (HasBound d x → ⊥) → ⊥
      unbound n = clean 12 61 (place_of_statement x) (omega arith) (spins (loop_spins (loop_of_process (record { process = process; is = is; stands = st })) b n w))

  some_is : {X : Type 0} (a b : X) → Some a ≡ Some b → a ≡ b
  some_is a b e = cc

  -- nor does the statement that an `always` repeats
  none_always : process.always ≡ true → NoneSpins d [] (Forever process.place process.body)
  none_always a o x body itself b no_turns w =
      clean 12 61 process.place (omega arith) (spins (always_spins (con_got d.procs p process is) a (subst (HasWalk d []) (sym (some_is process.body body b)) w)))
  none_always a o x body (in_forever st) b no_turns w = none_in o x body st b no_turns w

  pub none_spins : NoneSpins d [] (whole_of process)
  none_spins = go process.always refl
    where
      go : (b : Bool) → process.always ≡ b → NoneSpins d [] (if b then Forever process.place process.body else process.body)
      go true e = none_always e
      go false e = none_in

-- ---- and each process of a sound one is bounded so

module _ (d : Flat) (sound : IsSound d) (clean : IsCleanBefore d 13) where
  finite : IsFinite d
  finite at h = clean 11 51 at (omega arith) (recursive h)

  whole_sound : (process : FlatProc) → Contains d.procs process → IsSoundText d (whole_of process)
  whole_sound process c = go process.always
    where
      go : (b : Bool) → IsSoundText d (if b then Forever process.place process.body else process.body)
      go true = always_fits d sound process.place process.body (process_body d sound process c)
      go false = process_body d sound process c

  module _ (p : ℕ) (process : FlatProc) (is : slice_get d.procs p ≡ Some process) where
    right : TellsRightly d (told_of d) (whole_of process)
    right = loops_are_told d sound finite (whole_of process) (whole_sound process (con_got d.procs p process is))

    pub process_bounded : LengthsBoundWalks d (told_of d) [] (whole_of process)
    process_bounded = bound_walks d finite (told_of d) [] (whole_of process) right (none_spins d clean p process is)

    pub process_down : StepsGoDown d (told_of d) [] (whole_of process)
    process_down = go_down d finite (told_of d) [] (whole_of process) right (none_spins d clean p process is)
