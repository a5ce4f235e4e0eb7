-- A statement's exits by its structure are those to which walks without a clock wait lead.
use Rattle.std.proofs.Common.{◌≡◌, ℕ, true, false, List, [], None, Contains, refl, ◌⊎◌, inl, inr}
use Rattle.el_design.specs.Plain.{Statement, Flat}
use Rattle.el_design.specs.Stack.{below_mark}
use Rattle.el_design.specs.Purity.{contains_number}
use Rattle.el_design.specs.Rules.{IsFinite}
use Rattle.el_design.specs.InPlace.{Stands}
use Rattle.el_design.specs.Exits.{Exit, Past, Away, Told, Alone, TaskExits, exits, TellsRightly, AreOfTasks, WalksAway, ExitsAreWalks}
use Rattle.el_design.proofs.Texts.{stands_in_place}
use Rattle.el_design.proofs.WaysPuts.{true_or_false, con_has}
use Rattle.el_design.proofs.WaysFound.{ends, opens}
use Rattle.el_design.proofs.OrderWalk.{Agrees}
use Rattle.el_design.proofs.Leaving.{Leaves}
use Rattle.el_design.proofs.ExitsFound.{Right, right_in, shut, exit_found}
use Rattle.el_design.proofs.ExitsBack.{past_back, away_back}

module _ (d : Flat) (finite : IsFinite d) (told : Statement → Told) (tasks : TaskExits) (given : AreOfTasks d told tasks) (marks : List ℕ) (s : Statement) (right : TellsRightly d told s) where
  placed : (o : List ℕ) (x : Statement) → Stands d.tasks marks s o x → Right d told x
  placed o x st = right_in d told s right x (stands_in_place s x st)

  found : (e : Exit) → exits d told tasks Alone marks s e ≡ true → Leaves d (ends marks) s e
  found = exit_found d told tasks finite given marks s placed

  agrees : Agrees (ends marks) marks []
  agrees m e = (refl, λ c. opens marks m c e)

  open_round : (m : ℕ) → (below_mark m (ends marks) ≡ None → ⊥) → Contains marks m
  open_round m o = go (true_or_false (contains_number marks m))
    where
      go : (contains_number marks m ≡ true) ⊎ (contains_number marks m ≡ false) → Contains marks m
      go (inl h) = con_has marks m h
      go (inr h) = absurd (o (shut marks m h))

  away : (m : ℕ) → exits d told tasks Alone marks s (Away m) ≡ true → WalksAway d marks s m
  away m h =
      let l : Leaves d (ends marks) s (Away m) = found (Away m) h in
      let c = l.1 marks [] agrees in
      record { at = c.0; below = c.1; walk = c.2; not_within = c.3; open_round = open_round m l.0 }

  pub all_are_walks : ExitsAreWalks d told tasks marks s
  all_are_walks = record {
    past = λ h. (found Past h).1 marks [] agrees;
    past_only = past_back d told tasks given marks s placed;
    away = away;
    away_only = λ m w. away_back d told tasks given marks s placed m w.at w.below w.walk w.not_within w.open_round;
  }

pub exits_are_walks : (d : Flat) → IsFinite d → (told : Statement → Told) → (tasks : TaskExits) → AreOfTasks d told tasks → (marks : List ℕ) → (s : Statement) → TellsRightly d told s → ExitsAreWalks d told tasks marks s
exits_are_walks d finite told tasks given marks s right = all_are_walks d finite told tasks given marks s right
