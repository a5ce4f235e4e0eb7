-- A walk depth first, step by step: what is to be done, the last first, and what is finished.
use Rattle.std.proofs.Common.{◌≡◌, ◌⊎◌, inl, inr, ◌<◌, ◌≤◌, ◌+◌, ℕ, zero, suc, Bool, true, false, cond, List, [], ◌∷◌, ◌++◌, length, get_or, set, replicate, map, reverse, Some, refl, sym, ◌∙◌, ap, subst, arith}
use Rattle.std.specs.Prelude.{slice_get}
use Rattle.std.proofs.lemmas.List.{length-set, length-replicate, length-append, length-map, map-append, append_assoc, reverse-append}
use Rattle.std.proofs.lemmas.Bool.{cases_lt}
use Rattle.xt_graph.specs.declared.finishing.Visit.{Visit}
use Rattle.xt_graph.specs.declared.finishing.Visit.TheVariants.{Enter, Finish}
use Rattle.xt_graph.specs.Graph.{row, Points, Leads, there, onward}
use Rattle.xt_graph.specs.inner.Searching.{is_marked}
use Rattle.xt_graph.specs.inner.Finishing.{Walking, all_to_enter, entered, visited, turn, IsFinishing}
use Rattle.xt_graph.proofs.Lists.{In, in_contains, in_left, in_right, in_push, in_reverse, reverse_in, got_in, got_push, Marked, marked_within, unmarked_within, marked_node, not_marked, mark_made, mark_kept, mark_old, none_marked, unmarked, unmarked_less, all_unmarked, none_unmarked, points_in, in_points}
use Rattle.xt_graph.proofs.Turns.{turn_within, within_turn, turn_kept, turn_new}
use Rattle.xt_graph.proofs.Circle.{then_leads}

-- ---- what is to be done, the last first

-- a node is open: it was entered and is to be finished
abbrev pub IsOpen : ℕ → List Visit → Type 0
IsOpen n [] = ⊥
IsOpen n (Enter m ∷ todo) = IsOpen n todo
IsOpen n (Finish m ∷ todo) = (n ≡ m) ⊎ IsOpen n todo

abbrev pub IsAsked : ℕ → List Visit → Type 0
IsAsked n [] = ⊥
IsAsked n (Enter m ∷ todo) = (n ≡ m) ⊎ IsAsked n todo
IsAsked n (Finish m ∷ todo) = IsAsked n todo

abbrev pub opened : List Visit → ℕ
opened [] = 0
opened (Enter m ∷ todo) = opened todo
opened (Finish m ∷ todo) = suc (opened todo)

-- no node is opened twice
abbrev pub OpensOnce : List Visit → Type 0
OpensOnce [] = Unit {0}
OpensOnce (Enter m ∷ todo) = OpensOnce todo
OpensOnce (Finish m ∷ todo) = (IsOpen m todo → ⊥) × OpensOnce todo

abbrev pub node_of : Visit → ℕ
node_of (Enter m) = m
node_of (Finish m) = m

-- each open node leads to all above it
abbrev pub Nests : List (List ℕ) → List Visit → Type 0
Nests g [] = Unit {0}
Nests g (v ∷ todo) = ((x : ℕ) → IsOpen x todo → node_of v < length g → Leads (Points g) x (node_of v)) × Nests g todo

-- each node to which an open one points was entered, or is to be entered above it
abbrev pub Follows : List (List ℕ) → List Bool → List ℕ → List Visit → Type 0
Follows g marks above [] = Unit {0}
Follows g marks above (Enter m ∷ todo) = Follows g marks (m ∷ above) todo
Follows g marks above (Finish m ∷ todo) = ((t : ℕ) → Points g m t → Marked marks t ⊎ In t above) × Follows g marks above todo

-- nodes that are to be entered, on top
open_under : (x : ℕ) (ns : List ℕ) (todo : List Visit) → IsOpen x (map Enter ns ++ todo) → IsOpen x todo
open_under x [] todo h = h
open_under x (n ∷ ns) todo h = open_under x ns todo h

open_over : (x : ℕ) (ns : List ℕ) (todo : List Visit) → IsOpen x todo → IsOpen x (map Enter ns ++ todo)
open_over x [] todo h = h
open_over x (n ∷ ns) todo h = open_over x ns todo h

asked_over : (x : ℕ) (ns : List ℕ) (todo : List Visit) → IsAsked x todo → IsAsked x (map Enter ns ++ todo)
asked_over x [] todo h = h
asked_over x (n ∷ ns) todo h = inr (asked_over x ns todo h)

opened_over : (ns : List ℕ) (todo : List Visit) → opened (map Enter ns ++ todo) ≡ opened todo
opened_over [] todo = refl
opened_over (n ∷ ns) todo = opened_over ns todo

once_over : (ns : List ℕ) (todo : List Visit) → OpensOnce todo → OpensOnce (map Enter ns ++ todo)
once_over [] todo h = h
once_over (n ∷ ns) todo h = once_over ns todo h

nests_over : (g : List (List ℕ)) (ns : List ℕ) (todo : List Visit) → ((x t : ℕ) → IsOpen x todo → In t ns → t < length g → Leads (Points g) x t) → Nests g todo → Nests g (map Enter ns ++ todo)
nests_over g [] todo lead h = h
nests_over g (n ∷ ns) todo lead h = (λ x o l. lead x n (open_under x ns todo o) (inl refl) l, nests_over g ns todo (λ x t o i l. lead x t o (inr i) l) h)

follows_over : (g : List (List ℕ)) (marks : List Bool) (ns above : List ℕ) (todo : List Visit) →
    ((all : List ℕ) → ((t : ℕ) → In t ns → In t all) → ((t : ℕ) → In t above → In t all) → Follows g marks all todo) → Follows g marks above (map Enter ns ++ todo)
follows_over g marks [] above todo h = h above (λ t i. absurd i) (λ t i. i)
follows_over g marks (n ∷ ns) above todo h =
    follows_over g marks ns (n ∷ above) todo (λ all f k. h all (λ t i. first all f k t i) (λ t i. k t (inr i)))
  where
    first : (all : List ℕ) → ((t : ℕ) → In t ns → In t all) → ((t : ℕ) → In t (n ∷ above) → In t all) → (t : ℕ) → In t (n ∷ ns) → In t all
    first all f k t (inl e) = k t (inl e)
    first all f k t (inr i) = f t i

-- more marks, and what was above is marked or still above
follows_more : (g : List (List ℕ)) (marks later : List Bool) (above after : List ℕ) (todo : List Visit) →
    ((t : ℕ) → Marked marks t → Marked later t) → ((t : ℕ) → t < length g → In t above → Marked later t ⊎ In t after) → Follows g marks above todo → Follows g later after todo
follows_more g marks later above after [] keep more h = h
follows_more g marks later above after (Enter m ∷ todo) keep more h = follows_more g marks later (m ∷ above) (m ∷ after) todo keep wider h
  where
    wider : (t : ℕ) → t < length g → In t (m ∷ above) → Marked later t ⊎ In t (m ∷ after)
    wider t l (inl e) = inr (inl e)
    wider t l (inr i) = elim (more t l i) [ inl a ↦ inl a | inr b ↦ inr (inr b) ]
follows_more g marks later above after (Finish m ∷ todo) keep more h = (here, follows_more g marks later above after todo keep more h.1)
  where
    here : (t : ℕ) → Points g m t → Marked later t ⊎ In t after
    here t p = elim (h.0 t p) [ inl a ↦ inl (keep t a) | inr b ↦ more t p.node b ]

-- ---- a walk under way

pub record IsUnderWay (g : List (List ℕ)) (marks : List Bool) (todo : List Visit) (finished : List ℕ) : Type 0 where
  pub size : length marks ≡ length g
  pub nests : Nests g todo
  pub follows : Follows g marks [] todo
  pub once : OpensOnce todo
  pub known : (x : ℕ) → Marked marks x → In x finished ⊎ IsOpen x todo
  pub open_marked : (x : ℕ) → IsOpen x todo → Marked marks x
  pub open_not : (x : ℕ) → IsOpen x todo → In x finished → ⊥
  pub done_marked : (x : ℕ) → In x finished → Marked marks x
  pub ends : (x t : ℕ) → In x finished → Points g x t → In t finished ⊎ IsOpen t todo
  pub back : (u x y : ℕ) → turn finished x ≤ turn finished u → turn finished u < length finished → turn finished u < turn finished y → Points g x y → Leads (Points g) y u
  pub places : (k n : ℕ) → slice_get finished k ≡ Some n → turn finished n ≡ k
  pub asked : (n : ℕ) → n < length g → Marked marks n ⊎ IsAsked n todo
  pub count : length finished + opened todo + unmarked marks ≡ length g

module _ (g : List (List ℕ)) (marks : List Bool) (todo : List Visit) (finished : List ℕ) where
  -- a node that was entered, or is none, is entered no more
  pub passed : (n : ℕ) → get_or marks n true ≡ true → IsUnderWay g marks (Enter n ∷ todo) finished → IsUnderWay g marks todo finished
  passed n is w = record {
    size = w.size;
    nests = w.nests.1;
    follows = follows_more g marks marks (n ∷ []) [] todo (λ t m. m) here w.follows;
    once = w.once;
    known = w.known;
    open_marked = w.open_marked;
    open_not = w.open_not;
    done_marked = w.done_marked;
    ends = w.ends;
    back = w.back;
    places = w.places;
    asked = λ m l. still m l (w.asked m l);
    count = w.count;
  }
    where
      here : (t : ℕ) → t < length g → In t (n ∷ []) → Marked marks t ⊎ In t []
      here t l (inl e) = inl (marked_node marks t (subst (λ k. t < k) (sym w.size) l) (subst (λ k. get_or marks k true ≡ true) (sym e) is))
      here t l (inr i) = absurd i

      still : (m : ℕ) → m < length g → Marked marks m ⊎ IsAsked m (Enter n ∷ todo) → Marked marks m ⊎ IsAsked m todo
      still m l (inl a) = inl a
      still m l (inr (inl e)) = elim (here m l (inl e)) [ inl a ↦ inl a | inr b ↦ absurd b ]
      still m l (inr (inr a)) = inr a

  -- one that wasn't is marked and opened, and those to which it points are to be entered above it
  pub opens : (n : ℕ) (ns : List ℕ) → ((t : ℕ) → In t (row g n) → In t ns) → ((t : ℕ) → In t ns → In t (row g n)) → get_or marks n true ≡ false →
      IsUnderWay g marks (Enter n ∷ todo) finished → IsUnderWay g (set marks n true) (map Enter ns ++ Finish n ∷ todo) finished
  opens n ns to from is w = record {
    size = length-set marks n true ∙ w.size;
    nests = nests_over g ns (Finish n ∷ todo) lead (w.nests.0, w.nests.1);
    follows = follows_over g (set marks n true) ns [] (Finish n ∷ todo) (λ all f k. (λ t p. inr (f t (to t (points_in g n t p))), follows_more g marks (set marks n true) (n ∷ []) all todo (mark_kept marks n) (here all) w.follows));
    once = once_over ns (Finish n ∷ todo) (λ o. fresh (w.open_marked n o), w.once);
    known = known;
    open_marked = λ x o. open_marked x (open_under x ns (Finish n ∷ todo) o);
    open_not = λ x o. open_not x (open_under x ns (Finish n ∷ todo) o);
    done_marked = λ x i. mark_kept marks n x (w.done_marked x i);
    ends = λ x t i p. elim (w.ends x t i p) [ inl a ↦ inl a | inr b ↦ inr (open_over t ns (Finish n ∷ todo) (inr b)) ];
    back = w.back;
    places = w.places;
    asked = λ m l. still m (w.asked m l);
    count = let e = unmarked_less marks n is in let f = w.count in let k = opened_over ns (Finish n ∷ todo) in omega (arith, e, f, k);
  }
    where
      within : n < length marks
      within = unmarked_within marks n is

      fresh : Marked marks n → ⊥
      fresh = not_marked marks n is

      node : n < length g
      node = subst (λ k. n < k) w.size within

      lead : (x t : ℕ) → IsOpen x (Finish n ∷ todo) → In t ns → t < length g → Leads (Points g) x t
      lead x t (inl e) i l = subst (λ k. Leads (Points g) k t) (sym e) (onward (in_points g n t (from t i) l) there)
      lead x t (inr o) i l = then_leads (w.nests.0 x o node) (onward (in_points g n t (from t i) l) there)

      here : (all : List ℕ) (t : ℕ) → t < length g → In t (n ∷ []) → Marked (set marks n true) t ⊎ In t all
      here all t l (inl e) = inl (subst (Marked (set marks n true)) (sym e) (mark_made marks n within))
      here all t l (inr i) = absurd i

      known : (x : ℕ) → Marked (set marks n true) x → In x finished ⊎ IsOpen x (map Enter ns ++ Finish n ∷ todo)
      known x m = elim (mark_old marks n x m) [
        | inl e ↦ inr (open_over x ns (Finish n ∷ todo) (inl e))
        | inr a ↦ elim (w.known x a) [ inl b ↦ inl b | inr o ↦ inr (open_over x ns (Finish n ∷ todo) (inr o)) ]
      ]

      open_marked : (x : ℕ) → IsOpen x (Finish n ∷ todo) → Marked (set marks n true) x
      open_marked x (inl e) = subst (Marked (set marks n true)) (sym e) (mark_made marks n within)
      open_marked x (inr o) = mark_kept marks n x (w.open_marked x o)

      open_not : (x : ℕ) → IsOpen x (Finish n ∷ todo) → In x finished → ⊥
      open_not x (inl e) i = fresh (subst (Marked marks) e (w.done_marked x i))
      open_not x (inr o) i = w.open_not x o i

      still : (m : ℕ) → Marked marks m ⊎ IsAsked m (Enter n ∷ todo) → Marked (set marks n true) m ⊎ IsAsked m (map Enter ns ++ Finish n ∷ todo)
      still m (inl a) = inl (mark_kept marks n m a)
      still m (inr (inl e)) = inl (subst (Marked (set marks n true)) (sym e) (mark_made marks n within))
      still m (inr (inr a)) = inr (asked_over m ns (Finish n ∷ todo) a)

  -- what is finished is put behind the others
  pub finishes : (n : ℕ) → IsUnderWay g marks (Finish n ∷ todo) finished → IsUnderWay g marks todo (finished ++ n ∷ [])
  finishes n w = record {
    size = w.size;
    nests = w.nests.1;
    follows = w.follows.1;
    once = w.once.1;
    known = λ x m. known x (w.known x m);
    open_marked = λ x o. w.open_marked x (inr o);
    open_not = λ x o i. elim (in_push x n finished i) [ inl a ↦ w.open_not x (inr o) a | inr e ↦ w.once.0 (subst (λ k. IsOpen k todo) e o) ];
    done_marked = λ x i. elim (in_push x n finished i) [ inl a ↦ w.done_marked x a | inr e ↦ subst (Marked marks) (sym e) here ];
    ends = λ x t i p. ends x t (in_push x n finished i) p;
    back = back;
    places = λ k m e. places k m (got_push finished n k m e);
    asked = w.asked;
    count = let c = w.count in let l = length-append finished (n ∷ []) in omega (arith, c, l);
  }
    where
      here : Marked marks n
      here = w.open_marked n (inl refl)

      fresh : In n finished → ⊥
      fresh = w.open_not n (inl refl)

      known : (x : ℕ) → In x finished ⊎ IsOpen x (Finish n ∷ todo) → In x (finished ++ n ∷ []) ⊎ IsOpen x todo
      known x (inl i) = inl (in_left x finished (n ∷ []) i)
      known x (inr (inl e)) = inl (in_right x finished (n ∷ []) (inl e))
      known x (inr (inr o)) = inr o

      next : (t : ℕ) → Points g n t → Marked marks t ⊎ In t [] → In t (finished ++ n ∷ []) ⊎ IsOpen t todo
      next t p (inl m) = known t (w.known t m)
      next t p (inr i) = absurd i

      ends : (x t : ℕ) → In x finished ⊎ (x ≡ n) → Points g x t → In t (finished ++ n ∷ []) ⊎ IsOpen t todo
      ends x t (inl i) p = known t (w.ends x t i p)
      ends x t (inr e) p = let q = subst (λ k. Points g k t) e p in next t q (w.follows.0 t q)

      places : (k m : ℕ) → (slice_get finished k ≡ Some m) ⊎ ((k ≡ length finished) × (m ≡ n)) → turn (finished ++ n ∷ []) m ≡ k
      places k m (inl e) = turn_kept finished n m (got_in finished k m e) ∙ w.places k m e
      places k m (inr e) = ap (turn (finished ++ n ∷ [])) e.1 ∙ turn_new finished n fresh ∙ sym e.0

      size : length (finished ++ n ∷ []) ≡ length finished + 1
      size = length-append finished (n ∷ [])

      -- the new one is the last by now
      last : (x y : ℕ) → In x (finished ++ n ∷ []) → length finished < turn (finished ++ n ∷ []) y → Points g x y → Leads (Points g) y n
      last x y i l p = elim (ends x y (in_push x n finished i) p) [
        | inl a ↦ let k = turn_within (finished ++ n ∷ []) y a in absurd (omega (arith, k, l, size))
        | inr o ↦ w.nests.0 y o (subst (λ k. n < k) w.size (marked_within marks n here))
      ]

      -- earlier ones keep their places
      early : (u x y : ℕ) → In u finished → turn (finished ++ n ∷ []) x ≤ turn (finished ++ n ∷ []) u → turn (finished ++ n ∷ []) u < turn (finished ++ n ∷ []) y → Points g x y → Leads (Points g) y u
      early u x y i h l p =
          let ku = turn_kept finished n u i in
          let lu = turn_within finished u i in
          let ix = before x (omega (arith, ku, lu, h)) in
          let kx = turn_kept finished n x ix in
          w.back u x y (omega (arith, ku, kx, h)) lu (later y (turn finished u) lu (omega (arith, ku, l))) p
        where
          before : (x : ℕ) → turn (finished ++ n ∷ []) x < length finished → In x finished
          before x l = elim (in_push x n finished (within_turn (finished ++ n ∷ []) x (omega (arith, l, size)))) [
            | inl a ↦ a
            | inr e ↦ let f = ap (turn (finished ++ n ∷ [])) e ∙ turn_new finished n fresh in absurd (omega (arith, f, l))
          ]

          later : (y k : ℕ) → k < length finished → k < turn (finished ++ n ∷ []) y → k < turn finished y
          later y k h l = elim (cases_lt (turn finished y) (length finished)) [
            | inl a ↦ let e = turn_kept finished n y (within_turn finished y a) in omega (arith, e, l)
            | inr a ↦ omega (arith, a, h)
          ]

      back : (u x y : ℕ) → turn (finished ++ n ∷ []) x ≤ turn (finished ++ n ∷ []) u → turn (finished ++ n ∷ []) u < length (finished ++ n ∷ [])
          → turn (finished ++ n ∷ []) u < turn (finished ++ n ∷ []) y → Points g x y → Leads (Points g) y u
      back u x y h m l p = elim (in_push u n finished (within_turn (finished ++ n ∷ []) u m)) [
        | inl i ↦ early u x y i h l p
        | inr e ↦
            let f = ap (turn (finished ++ n ∷ [])) e ∙ turn_new finished n fresh in
            subst (λ k. Leads (Points g) y k) (sym e) (last x y (within_turn (finished ++ n ∷ []) x (omega (arith, f, h, size))) (omega (arith, f, l)) p)
      ]

-- ---- from the beginning to the end

begins_asked : (nodes n : ℕ) → n < nodes → IsAsked n (reverse (all_to_enter nodes))
begins_asked zero n h = absurd (omega arith)
begins_asked (suc nodes) n h = subst (IsAsked n) (sym (reverse-append (all_to_enter nodes) (Enter nodes ∷ []))) (elim (cases_lt n nodes) [ inl l ↦ inr (begins_asked nodes n l) | inr l ↦ inl (omega (arith, h, l)) ])

no_open : (nodes x : ℕ) → IsOpen x (reverse (all_to_enter nodes)) → ⊥
no_open zero x h = h
no_open (suc nodes) x h = no_open nodes x (subst (IsOpen x) (reverse-append (all_to_enter nodes) (Enter nodes ∷ [])) h)

none_opened : (nodes : ℕ) → opened (reverse (all_to_enter nodes)) ≡ 0
none_opened zero = refl
none_opened (suc nodes) = ap opened (reverse-append (all_to_enter nodes) (Enter nodes ∷ [])) ∙ none_opened nodes

opens_none : (nodes : ℕ) → OpensOnce (reverse (all_to_enter nodes))
opens_none zero = tt
opens_none (suc nodes) = subst OpensOnce (sym (reverse-append (all_to_enter nodes) (Enter nodes ∷ []))) (opens_none nodes)

begins_nested : (g : List (List ℕ)) (nodes : ℕ) → Nests g (reverse (all_to_enter nodes))
begins_nested g zero = tt
begins_nested g (suc nodes) = subst (Nests g) (sym (reverse-append (all_to_enter nodes) (Enter nodes ∷ []))) (λ x o l. absurd (no_open nodes x o), begins_nested g nodes)

follows_none : (g : List (List ℕ)) (marks : List Bool) (above : List ℕ) (todo : List Visit) → ((x : ℕ) → IsOpen x todo → ⊥) → Follows g marks above todo
follows_none g marks above [] h = tt
follows_none g marks above (Enter m ∷ todo) h = follows_none g marks (m ∷ above) todo h
follows_none g marks above (Finish m ∷ todo) h = absurd (h m (inl refl))

pub begins : (g : List (List ℕ)) → IsUnderWay g (replicate (length g) false) (reverse (all_to_enter (length g))) []
begins g = record {
  size = length-replicate (length g) false;
  nests = begins_nested g (length g);
  follows = follows_none g _ [] (reverse (all_to_enter (length g))) (no_open (length g));
  once = opens_none (length g);
  known = λ x m. absurd (none_marked (length g) x m);
  open_marked = λ x o. absurd (no_open (length g) x o);
  open_not = λ x o i. i;
  done_marked = λ x i. absurd i;
  ends = λ x t i p. absurd i;
  back = λ u x y h m l p. absurd (omega (arith, m));
  places = λ k n e. cc;
  asked = λ n l. inr (begins_asked (length g) n l);
  count = let o = none_opened (length g) in let u = all_unmarked (length g) in omega (arith, o, u);
}

pub at_end : (g : List (List ℕ)) (marks : List Bool) (finished : List ℕ) → IsUnderWay g marks [] finished → IsFinishing g finished
at_end g marks finished w = record {
  size = let c = w.count in let u = none_unmarked marks (λ n l. all n (subst (λ k. n < k) w.size l)) in omega (arith, c, u);
  each = λ n l. in_contains n finished (done n l);
  nodes = λ k n e. (subst (λ j. n < j) w.size (marked_within marks n (w.done_marked n (got_in finished k n e))), w.places k n e);
  back = λ u x y h l p. let m = turn_within finished y (done y p.node) in w.back u x y h (omega (arith, m, l)) l p;
}
  where
    all : (n : ℕ) → n < length g → Marked marks n
    all n l = elim (w.asked n l) [ inl m ↦ m | inr a ↦ absurd a ]

    done : (n : ℕ) → n < length g → In n finished
    done n l = elim (w.known n (all n l)) [ inl i ↦ i | inr o ↦ absurd o ]

-- ---- what is left to do falls

-- a node that isn't entered yet costs one visit for itself, one for its end, and one for each node that it points to
abbrev pub owed : List (List ℕ) → List Bool → ℕ
owed [] marks = 0
owed (r ∷ rows) [] = 0
owed (r ∷ rows) (true ∷ marks) = owed rows marks
owed (r ∷ rows) (false ∷ marks) = suc (suc (length r)) + owed rows marks

owed_less : (rows : List (List ℕ)) (marks : List Bool) (n : ℕ) → n < length rows → get_or marks n true ≡ false → owed rows marks ≡ suc (suc (length (row rows n))) + owed rows (set marks n true)
owed_less [] marks n h e = absurd (omega arith)
owed_less (r ∷ rows) [] n h e = cc
owed_less (r ∷ rows) (true ∷ marks) zero h e = cc
owed_less (r ∷ rows) (false ∷ marks) zero h e = refl
owed_less (r ∷ rows) (true ∷ marks) (suc n) h e = owed_less rows marks n (omega arith) e
owed_less (r ∷ rows) (false ∷ marks) (suc n) h e = let l = owed_less rows marks n (omega arith) e in omega (arith, l)

-- ---- a visit

entered_back : (ns : List ℕ) → reverse (map Enter ns) ≡ map Enter (reverse ns)
entered_back [] = refl
entered_back (n ∷ ns) =
    reverse-append (Enter n ∷ []) (map Enter ns) ∙ ap (λ t. t ++ Enter n ∷ []) (entered_back ns) ∙ sym (map-append Enter (reverse ns) (n ∷ [])) ∙ ap (map Enter) (sym (reverse-append (n ∷ []) ns))

module _ (g : List (List ℕ)) (rest : Walking) (w : Walking) where
  abbrev pub IsStep : Type 0
  IsStep = IsUnderWay g w.marks (reverse w.todo) w.finished × (length w.todo + owed g w.marks < suc (length rest.todo + owed g rest.marks))

  enter_case : (n : ℕ) → IsUnderWay g rest.marks (Enter n ∷ reverse rest.todo) rest.finished → (b : Bool) → is_marked rest.marks n ≡ b → w ≡ cond b rest (entered g rest n) → IsStep
  enter_case n h true is e = (
    subst (λ (v : Walking). IsUnderWay g v.marks (reverse v.todo) v.finished) (sym e) (passed g rest.marks (reverse rest.todo) rest.finished n is h),
    subst (λ (v : Walking). length v.todo + owed g v.marks < suc (length rest.todo + owed g rest.marks)) (sym e) (omega arith),
  )
  enter_case n h false is e = (
    subst (λ (v : Walking). IsUnderWay g v.marks (reverse v.todo) v.finished) (sym e)
        (subst (λ todo. IsUnderWay g (set rest.marks n true) todo rest.finished) (sym top)
        (opens g rest.marks (reverse rest.todo) rest.finished n (reverse (row g n)) (λ t i. in_reverse t (row g n) i) (λ t i. reverse_in t (row g n) i) is h)),
    subst (λ (v : Walking). length v.todo + owed g v.marks < suc (length rest.todo + owed g rest.marks)) (sym e)
        (let l = length-append rest.todo (Finish n ∷ map Enter (row g n)) in let m = length-map (row g n) Enter in
        let o = owed_less g rest.marks n (subst (λ k. n < k) h.size (unmarked_within rest.marks n is)) is in omega (arith, l, m, o)),
  )
    where
      top : reverse (rest.todo ++ Finish n ∷ map Enter (row g n)) ≡ map Enter (reverse (row g n)) ++ Finish n ∷ reverse rest.todo
      top = reverse-append rest.todo (Finish n ∷ map Enter (row g n)) ∙ ap (λ t. t ++ reverse rest.todo) (reverse-append (Finish n ∷ []) (map Enter (row g n)) ∙ ap (λ t. t ++ Finish n ∷ []) (entered_back (row g n)))
          ∙ append_assoc (map Enter (reverse (row g n))) (Finish n ∷ []) (reverse rest.todo)

  pub visit_kept : (v : Visit) → IsUnderWay g rest.marks (v ∷ reverse rest.todo) rest.finished → w ≡ visited g rest v → IsStep
  visit_kept (Enter n) h e = enter_case n h (is_marked rest.marks n) refl e
  visit_kept (Finish n) h e = (
    subst (λ (v : Walking). IsUnderWay g v.marks (reverse v.todo) v.finished) (sym e) (finishes g rest.marks (reverse rest.todo) rest.finished n h),
    subst (λ (v : Walking). length v.todo + owed g v.marks < suc (length rest.todo + owed g rest.marks)) (sym e) (omega arith),
  )

-- the last that is to do is done
pub step : (g : List (List ℕ)) (walk : Walking) (marks : List Bool) (todo rest : List Visit) (finished : List ℕ) (v : Visit) (new : Walking) → record { marks = marks; todo = todo; finished = finished } ≡ walk →
    IsUnderWay g walk.marks (reverse walk.todo) walk.finished → todo ≡ rest ++ v ∷ [] → new ≡ visited g (record { marks = marks; todo = rest; finished = finished }) v →
    IsUnderWay g new.marks (reverse new.todo) new.finished × (length new.todo + owed g new.marks < length walk.todo + owed g walk.marks)
step g walk marks todo rest finished v new is h more e =
    let k = visit_kept g (record { marks = marks; todo = rest; finished = finished }) new v
    (subst (λ t. IsUnderWay g marks t finished) (ap reverse more ∙ reverse-append rest (v ∷ [])) (subst (λ (w : Walking). IsUnderWay g w.marks (reverse w.todo) w.finished) (sym is) h)) e in (
      k.0,
      subst (λ (w : Walking). length new.todo + owed g new.marks < length w.todo + owed g w.marks) is
          (let l = k.1 in let a = ap length more in let b = length-append rest (v ∷ []) in omega (arith, l, a, b)),
    )

pub ended : (g : List (List ℕ)) (walk : Walking) (marks : List Bool) (todo : List Visit) (finished : List ℕ) → record { marks = marks; todo = todo; finished = finished } ≡ walk →
    IsUnderWay g walk.marks (reverse walk.todo) walk.finished → todo ≡ [] → IsFinishing g finished
ended g walk marks todo finished is h none =
    at_end g marks finished (subst (λ t. IsUnderWay g marks (reverse t) finished) none (subst (λ (w : Walking). IsUnderWay g w.marks (reverse w.todo) w.finished) (sym is) h))
