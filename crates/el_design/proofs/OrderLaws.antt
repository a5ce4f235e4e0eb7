-- The laws of every order.
use Rattle.std.proofs.Common.{◌≡◌, inl, inr, ℕ, suc, ◌≤◌, ◌==◌, Bool, true, false, if◌then◌else◌, List, [], ◌∷◌, length, refl, ap, subst}
use Rattle.std.specs.List.{list_any}
use Rattle.xt_bits.specs.Word.{Word}
use Rattle.xt_bits.specs.Stimulus.{Stimulus}
use Rattle.el_design.specs.Plain.{Statement, Flat}
use Rattle.el_design.specs.Rules.{most_turns}
use Rattle.el_design.specs.Queue.{Config, is_stuck, Event, Run, Follow, Update, ready}
use Rattle.el_design.specs.Run.{Takes, Any}
use Rattle.el_design.specs.Checked.{IsChecked}
use Rattle.el_design.specs.Laws.{EdgeBegins, first_edge, next_edge, IsOver, EveryEdgeEnds, events_of, HasAtMostU, AtMostUEvents, AtMostMaxEvents, EveryOrder}
use Rattle.el_design.proofs.OrderRule.{CountsEnough, counts_enough, most_enough}
use Rattle.el_design.proofs.OrderDiamond.{count, Path}
use Rattle.el_design.proofs.OrderFollows.{Finished, finishes}
use Rattle.el_design.proofs.OrderCommute.{step, Fine, diamond}
use Rattle.el_design.proofs.OrderDigits.{weight, digits}
use Rattle.el_design.proofs.OrderCore.{taking, core, is_agent, Good}
use Rattle.el_design.proofs.OrderRest.{follows, ready_ended, ended_ready, may_go}
use Rattle.el_design.proofs.OrderPath.{is_run}
use Rattle.el_design.proofs.OrderTrace as trace
use Rattle.el_design.proofs.OrderTrace.{takes_path}
use Rattle.el_design.proofs.OrderEnds.{Begins, Rested, starts_begins, continues_begins, edge_bound, edge_few, edge_rest}

-- events that lead from a state are events that any chooser may pass
pub path_takes : (d : Flat) (k : ℕ) (c end : Config) (es : List Event) → Path (taking d) es c end → Takes d Any k c es end
path_takes d k c end [] p = p
path_takes d k c end (e ∷ es) p = (tt, (p.0, p.1, path_takes d (suc k) p.0 end es p.2))

over : (d : Flat) (c : Config) → ready d c ≡ [] → IsOver d c
over d c h = go (list_any is_stuck c.procs) refl
  where
    go : (b : Bool) → list_any is_stuck c.procs ≡ b → IsOver d c
    go true e = inr (h, e)
    go false e = inl (h, e)

pub begins : (d : Flat) (order : List ℕ) → IsChecked d order → (x : Stimulus) (rows : List (List Word)) (c : Config) → EdgeBegins d x rows c → Begins d c
begins d order checked x rows c (first_edge {row = row} e s) = starts_begins d order checked x row c s
begins d order checked x rows c (next_edge {row = row} {more = more} {begin = begin} {end = end} es b t r n) =
    let r2 : Rested d end = (edge_rest d order checked begin (begins d order checked x (row ∷ more) begin b) es end (takes_path d Any 0 begin end es t) (ready_ended d end r.0)).1 in
    continues_begins d end row c r2 r.1 n

pub every_edge_ends : (d : Flat) (order : List ℕ) → IsChecked d order → EveryEdgeEnds d
every_edge_ends d order checked x rows begin e =
    ((bound.0, λ es end t. bound.1 es end (takes_path d Any 0 begin end es t)), λ es end t h. over d end h, (last.events, last.last, path_takes d 0 begin last.last last.events last.path, over d last.last (ended_ready d last.last last.ended)))
  where
    b : Begins d begin
    b = begins d order checked x rows begin e

    bound : (n : ℕ) × ((es : List Event) (t : Config) → Path (taking d) es begin t → length es ≤ n)
    bound = edge_bound d order checked begin b

    last : Finished Config Config Event (taking d) (step d) (core begin.nets) is_agent (Fine d) (Good d begin.row begin.store begin.nets) (digits d order) (weight order)
        (diamond d checked.sound checked.clean) (follows d order checked begin.row begin.store begin.nets b.settled) begin
    last = finishes Config Config Event (taking d) (step d) (core begin.nets) is_agent (Fine d) (Good d begin.row begin.store begin.nets) (digits d order) (weight order)
        (diamond d checked.sound checked.clean) (follows d order checked begin.row begin.store begin.nets b.settled) bound.0 (λ s. may_go d s) begin bound.1

counted : (p : ℕ) (es : List Event) → count (is_run p) es ≡ events_of p es
counted p [] = refl
counted p (Run i ∷ es) = ap (λ n. if i == p then suc n else n) (counted p es)
counted p (Follow n ∷ es) = counted p es
counted p (Update i ∷ es) = counted p es

at_most : (d : Flat) (order : List ℕ) → IsChecked d order → (times : List ℕ → Statement → ℕ) → CountsEnough d times → HasAtMostU d times
at_most d order checked times counts x rows begin end es e t p process here =
    subst (λ n. n ≤ Rattle.el_design.specs.Sizes.u_of d times process) (counted p es)
    (edge_few d order checked times counts begin (begins d order checked x rows begin e) p process here es end (takes_path d Any 0 begin end es t))

pub at_most_u_events : (d : Flat) (order : List ℕ) → IsChecked d order → AtMostUEvents d
at_most_u_events d order checked times counts = at_most d order checked times (counts_enough d times counts)

pub at_most_max_events : (d : Flat) (order : List ℕ) → IsChecked d order → AtMostMaxEvents d
at_most_max_events d order checked = at_most d order checked most_turns (most_enough d checked.clean)

pub every_order : (d : Flat) (order : List ℕ) → IsChecked d order → EveryOrder d
every_order d order checked = trace.every_order d order checked Any Any
