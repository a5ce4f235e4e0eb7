-- The next values of variables, assignment by assignment.
use Rattle.std.proofs.Common.{◌≡◌, ◌<◌, ◌≤◌, ◌+◌, ◌^◌, ◌++◌, ℕ, suc, Bool, true, false, if◌then◌else◌, List, [], ◌∷◌, Some, length, get_or, set, take, refl, sym, ap, ◌∙◌, subst, arith}
use Rattle.std.specs.Prelude.{slice_get, ◌==◌}
use Rattle.std.proofs.lemmas.List.{get_or-map, map-set, map_more, set-get_or, append-nil, take_all}
use Rattle.std.proofs.lemmas.List.Sums.{fold-append}
use Rattle.xt_bits.specs.Word.{Word, word, truth}
use Rattle.xt_bits.specs.Operators.{any_of, add_of}
use Rattle.xt_base.specs.declared.refusals.Place.{Place}
use Rattle.nt_core.specs.declared.netlist.Node.{Node}
use Rattle.nt_core.specs.Conditions.{Drive}
use Rattle.nt_core.specs.NodeValue.{node_value}
use Rattle.nt_core.specs.Sources.{Sources}
use Rattle.el_design.specs.declared.designs.Design.{Design}
use Rattle.el_design.specs.Plain.{Expr, Statement, Assign, Wait, ToVariable, Flat}
use Rattle.el_design.specs.Value.{Scene, value}
use Rattle.el_design.specs.View.{flat_of, statement_of}
use Rattle.el_design.specs.declared.statements.Stmt.{Stmt}
use Rattle.xt_compile.specs.declared.first.compile.expression.ValueMap.{ValueMap}
use Rattle.el_design.specs.Names.{no_place}
use Rattle.xt_compile.specs.first.Form.{var_widths}
use Rattle.xt_compile.specs.first.Nodes.{Extends, HasWidth, Means, Assigns, IsMap, values_at, scene_at, assigned, all_assigned, run_from, waits, state_width}
use Rattle.xt_compile.specs.first.Machine.{is_wait, statements_of}
use Rattle.xt_compile.proofs.first_form.Growing.{extends_refl, extends_trans, drive_grows, value_grows, values_grow, scene_grows, node_there, means_later, means_still, means_as}
use Rattle.xt_compile.proofs.first_form.Nexts.{drive_set}

all_append : (d : Flat) (sc : Scene) (xs ys : List Statement) (vs : List Word) → all_assigned d sc (xs ++ ys) vs ≡ all_assigned d sc ys (all_assigned d sc xs vs)
all_append d sc xs ys vs = fold-append (assigned d sc) vs xs ys

-- nothing is assigned
pub assigns_none : (d : Design) (ns : List Node) (m : ValueMap) (is : List ℕ) (ss : Sources → List Statement) → Drive ns is (var_widths d)
    → ((s : Sources) → all_assigned (flat_of d) (scene_at d ns m s) (ss s) (values_at ns s is) ≡ values_at ns s is) → Assigns d ns ns m is is ss
assigns_none d ns m is ss drive same = record { extends = extends_refl d ns; widths = drive; values = λ s. sym (same s) }

-- the same in other words
pub assigns_as : (d : Design) (a b : List Node) (m : ValueMap) (is js : List ℕ) (ss more : Sources → List Statement) → Assigns d a b m is js ss → ((s : Sources) → ss s ≡ more s) → Assigns d a b m is js more
assigns_as d a b m is js ss more h same = record {
  extends = h.extends;
  widths = h.widths;
  values = λ s. h.values s ∙ ap (λ (xs : List Statement). all_assigned (flat_of d) (scene_at d a m s) xs (values_at a s is)) (same s);
}

-- with other nodes added before
pub assigns_later : (d : Design) (a b c : List Node) (m : ValueMap) (is js : List ℕ) (ss : Sources → List Statement) → Extends d a b → IsMap d a m → Drive a is (var_widths d)
    → Assigns d b c m is js ss → Assigns d a c m is js ss
assigns_later d a b c m is js ss e map_is drive h = record {
  extends = extends_trans d a b c e h.extends;
  widths = h.widths;
  values = λ s.
      h.values s
      ∙ ap (λ (sc : Scene). all_assigned (flat_of d) sc (ss s) (values_at b s is)) (scene_grows d a b m e.grows map_is s)
      ∙ ap (all_assigned (flat_of d) (scene_at d a m s) (ss s)) (values_grow a b is (var_widths d) e.grows drive s);
}

-- with other nodes added behind
pub assigns_still : (d : Design) (a b c : List Node) (m : ValueMap) (is js : List ℕ) (ss : Sources → List Statement) → Assigns d a b m is js ss → Extends d b c → Assigns d a c m is js ss
assigns_still d a b c m is js ss h e = record {
  extends = extends_trans d a b c h.extends e;
  widths = drive_grows b c js (var_widths d) e.grows h.widths;
  values = λ s. values_grow b c js (var_widths d) e.grows h.widths s ∙ h.values s;
}

-- one after the other
pub assigns_then : (d : Design) (a b c : List Node) (m : ValueMap) (is js ks : List ℕ) (ss more : Sources → List Statement) → IsMap d a m
    → Assigns d a b m is js ss → Assigns d b c m js ks more → Assigns d a c m is ks (λ s. ss s ++ more s)
assigns_then d a b c m is js ks ss more map_is h g = record {
  extends = extends_trans d a b c h.extends g.extends;
  widths = g.widths;
  values = λ s.
      g.values s
      ∙ ap (λ (sc : Scene). all_assigned (flat_of d) sc (more s) (values_at b s js)) (scene_grows d a b m h.extends.grows map_is s)
      ∙ ap (all_assigned (flat_of d) (scene_at d a m s) (more s)) (h.values s)
      ∙ sym (all_append (flat_of d) (scene_at d a m s) (ss s) (more s) (values_at a s is));
}

-- a value in place of another one, where a condition is up
chosen : (d : Flat) (sc : Scene) (vs : List Word) (v : ℕ) (e : Expr) (x : Word) (up : Bool) → x ≡ (if up then value d sc e else get_or vs v (word 1 0))
    → set vs v x ≡ all_assigned d sc (if up then Assign no_place (ToVariable v) e true ∷ [] else []) vs
chosen d sc vs v e x true is = ap (set vs v) is
chosen d sc vs v e x false is = ap (set vs v) is ∙ set-get_or vs v (word 1 0)

pub assigns_set : (d : Design) (a b c : List Node) (m : ValueMap) (is : List ℕ) (here v w x old k : ℕ) (e : Expr) → IsMap d a m → Drive a is (var_widths d) → HasWidth a here 1 → slice_get (var_widths d) v ≡ Some w
    → Means d a b x w (λ s. value (flat_of d) (scene_at d a m s) e)
    → old ≡ get_or is v 0
    → Means d b c k w (λ s. if any_of (node_value b s here) then node_value b s x else node_value b s old)
    → Assigns d a c m is (set is v k) (λ s. if any_of (node_value a s here) then Assign no_place (ToVariable v) e true ∷ [] else [])
assigns_set d a b c m is here v w x old k e map_is drive here_is there fresh old_is next =
    let all = extends_trans d a b c fresh.extends next.extends in
    record {
      extends = all;
      widths = drive_set c is (var_widths d) v k w (drive_grows a c is (var_widths d) all.grows drive) there next.width;
      values = λ s.
          let within : v < length is = node_there a is (var_widths d) v w drive there in
          let was : node_value b s old ≡ get_or (values_at a s is) v (word 1 0) =
          ap (node_value b s) old_is ∙ sym (get_or-map (node_value b s) is v 0 (word 1 0) within) ∙ ap (λ (vs : List Word). get_or vs v (word 1 0)) (values_grow a b is (var_widths d) fresh.extends.grows drive s) in
          let is_up : any_of (node_value b s here) ≡ any_of (node_value a s here) = ap any_of (value_grows a b here 1 fresh.extends.grows here_is s) in
          let now : node_value c s k ≡ (if any_of (node_value a s here) then value (flat_of d) (scene_at d a m s) e else get_or (values_at a s is) v (word 1 0)) =
          next.value s
          ∙ ap (λ (up : Bool). if up then node_value b s x else node_value b s old) is_up
          ∙ ap (λ (y : Word). if any_of (node_value a s here) then y else node_value b s old) (fresh.value s)
          ∙ ap (λ (y : Word). if any_of (node_value a s here) then value (flat_of d) (scene_at d a m s) e else y) was in
          map-set (node_value c s) is v k
          ∙ ap (λ (vs : List Word). set vs v (node_value c s k)) (values_grow a c is (var_widths d) all.grows drive s)
          ∙ chosen (flat_of d) (scene_at d a m s) (values_at a s is) v e (node_value c s k) (any_of (node_value a s here)) now;
    }

-- ---- control points

waits_more : (xs : List Statement) (x : Statement) → waits (xs ++ x ∷ []) ≡ (if is_wait x then suc (waits xs) else waits xs)
waits_more [] x = refl
waits_more (y ∷ xs) x = go (is_wait y) (is_wait x) (waits_more xs x)
  where
    go : (a b : Bool) → waits (xs ++ x ∷ []) ≡ (if b then suc (waits xs) else waits xs)
        → (if a then suc (waits (xs ++ x ∷ [])) else waits (xs ++ x ∷ [])) ≡ (if b then suc (if a then suc (waits xs) else waits xs) else (if a then suc (waits xs) else waits xs))
    go true true h = ap suc h
    go true false h = ap suc h
    go false true h = h
    go false false h = h

run_more : (q p : ℕ) (xs : List Statement) (x : Statement) → run_from q p (xs ++ x ∷ []) ≡ run_from q p xs ++ run_from q (p + waits xs) (x ∷ [])
run_more q p [] x = ap (λ (k : ℕ). run_from q k (x ∷ [])) (omega arith)
run_more q p (y ∷ xs) x = go (is_wait y) (q == p) (run_more q p xs x) (run_more q (suc p) xs x)
  where
    go : (a b : Bool) → run_from q p (xs ++ x ∷ []) ≡ run_from q p xs ++ run_from q (p + waits xs) (x ∷ [])
        → run_from q (suc p) (xs ++ x ∷ []) ≡ run_from q (suc p) xs ++ run_from q (suc p + waits xs) (x ∷ [])
        → (if a then run_from q (suc p) (xs ++ x ∷ []) else (if b then y ∷ run_from q p (xs ++ x ∷ []) else run_from q p (xs ++ x ∷ [])))
        ≡ (if a then run_from q (suc p) xs else (if b then y ∷ run_from q p xs else run_from q p xs)) ++ run_from q (p + (if a then suc (waits xs) else waits xs)) (x ∷ [])
    go true b h g = g ∙ ap (λ (k : ℕ). run_from q (suc p) xs ++ run_from q k (x ∷ [])) (omega arith)
    go false true h g = ap (λ (zs : List Statement). y ∷ zs) h
    go false false h g = h

-- one more wait
run_wait : (q : ℕ) (xs : List Statement) (x : Statement) → is_wait x ≡ true → run_from q 0 xs ≡ run_from q 0 (xs ++ x ∷ [])
run_wait q xs x h =
    let last : run_from q (0 + waits xs) (x ∷ []) ≡ [] = ap (λ (b : Bool). if b then [] else (if q == 0 + waits xs then x ∷ [] else [])) h in
    sym (run_more q 0 xs x ∙ ap (λ (zs : List Statement). run_from q 0 xs ++ zs) last ∙ append-nil (run_from q 0 xs))

-- one more assignment
run_assign : (q : ℕ) (xs : List Statement) (x : Statement) → is_wait x ≡ false → run_from q 0 xs ++ (if q == waits xs then x ∷ [] else []) ≡ run_from q 0 (xs ++ x ∷ [])
run_assign q xs x h =
    let e : waits xs ≡ 0 + waits xs = omega arith in
    let last : run_from q (0 + waits xs) (x ∷ []) ≡ (if q == waits xs then x ∷ [] else []) =
    ap (λ (b : Bool). if b then [] else (if q == 0 + waits xs then x ∷ [] else [])) h ∙ sym (ap (λ (k : ℕ). if q == k then x ∷ [] else []) e) in
    sym (run_more q 0 xs x ∙ ap (λ (zs : List Statement). run_from q 0 xs ++ zs) last)

pub truth_up : (b : Bool) → any_of (truth b) ≡ b
truth_up true = refl
truth_up false = refl

-- The walk has come through the statements `done`: `here` tells whether the process is at the last of their waits, and `js` are the next values so far.
pub record WalkedTo (d : Design) (first now : List Node) (m : ValueMap) (state : ℕ) (is js : List ℕ) (point here : ℕ) (done : List Statement) : Type 0 where
  pub points : point ≡ waits done
  pub below : point < 2 ^ state_width
  pub last : Means d first now here 1 (λ s. truth ((node_value first s state).value == point))
  pub nexts : Assigns d first now m is js (λ s. run_from (node_value first s state).value 0 done)

pub walked_none : (d : Design) (first now : List Node) (m : ValueMap) (state : ℕ) (is : List ℕ) (here : ℕ) → IsMap d first m → Drive first is (var_widths d)
    → Means d first now here 1 (λ s. truth ((node_value first s state).value == 0)) → WalkedTo d first now m state is is 0 here []
walked_none d first now m state is here map_is drive h = record {
  points = refl;
  below = omega arith;
  last = h;
  nexts = assigns_later d first now now m is is (λ s. []) h.extends map_is drive (assigns_none d now m is (λ s. []) (drive_grows first now is (var_widths d) h.extends.grows drive) (λ s. refl));
}

pub walked_wait : (d : Design) (first now new : List Node) (m : ValueMap) (state : ℕ) (is js : List ℕ) (point here point' here' : ℕ) (done : List Statement) (x : Statement) → HasWidth first state state_width
    → WalkedTo d first now m state is js point here done → is_wait x ≡ true → point' ≡ suc point → point' < 2 ^ state_width
    → Means d now new here' 1 (λ s. truth ((node_value now s state).value == point')) → WalkedTo d first new m state is js point' here' (done ++ x ∷ [])
walked_wait d first now new m state is js point here point' here' done x state_is walked wait next below means = record {
  points = next ∙ ap suc walked.points ∙ sym (waits_more done x ∙ ap (λ (b : Bool). if b then suc (waits done) else waits done) wait);
  below = below;
  last =
      means_as d first new here' 1 _ _ (means_later d first now new here' 1 _ walked.last.extends means)
      (λ s. ap (λ (k : Word). truth (k.value == point')) (value_grows first now state state_width walked.last.extends.grows state_is s));
  nexts =
      assigns_as d first new m is js _ _ (assigns_still d first now new m is js _ walked.nexts means.extends)
      (λ s. run_wait (node_value first s state).value done x wait);
}

pub walked_assign : (d : Design) (first now new : List Node) (m : ValueMap) (state : ℕ) (is js ks : List ℕ) (point here : ℕ) (done : List Statement) (x : Statement) → IsMap d first m
    → WalkedTo d first now m state is js point here done → is_wait x ≡ false
    → Assigns d now new m js ks (λ s. if any_of (node_value now s here) then x ∷ [] else []) → WalkedTo d first new m state is ks point here (done ++ x ∷ [])
walked_assign d first now new m state is js ks point here done x map_is walked wait assigns = record {
  points = walked.points ∙ sym (waits_more done x ∙ ap (λ (b : Bool). if b then suc (waits done) else waits done) wait);
  below = walked.below;
  last = means_still d first now new here 1 _ walked.last assigns.extends;
  nexts =
      assigns_as d first new m is ks _ _ (assigns_then d first now new m is js ks _ _ map_is walked.nexts assigns)
      (λ s.
      ap (λ (b : Bool). run_from (node_value first s state).value 0 done ++ (if b then x ∷ [] else []))
      (ap any_of (walked.last.value s) ∙ truth_up ((node_value first s state).value == point) ∙ ap (λ (k : ℕ). (node_value first s state).value == k) walked.points)
      ∙ run_assign (node_value first s state).value done x wait);
}

-- the next point: 1 behind the last wait
pub means_next : (d : Design) (a b c new : List Node) (state last one further k : ℕ) → HasWidth a state state_width → HasWidth a last 1
    → Means d a b one state_width (λ s. word state_width 1)
    → Means d b c further state_width (λ s. add_of (node_value b s state) (node_value b s one))
    → Means d c new k state_width (λ s. if any_of (node_value c s last) then node_value c s one else node_value c s further)
    → Means d a new k state_width (λ s. if any_of (node_value a s last) then word state_width 1 else add_of (node_value a s state) (word state_width 1))
means_next d a b c new state last one further k state_is last_is first second third = record {
  extends = extends_trans d a b new first.extends (extends_trans d b c new second.extends third.extends);
  width = third.width;
  value = λ s.
      let both : Extends d a c = extends_trans d a b c first.extends second.extends in
      let up : any_of (node_value c s last) ≡ any_of (node_value a s last) = ap any_of (value_grows a c last 1 both.grows last_is s) in
      let one_is : node_value c s one ≡ word state_width 1 = value_grows b c one state_width second.extends.grows first.width s ∙ first.value s in
      let further_is : node_value c s further ≡ add_of (node_value a s state) (word state_width 1) =
      second.value s ∙ ap (λ (x : Word). add_of x (node_value b s one)) (value_grows a b state state_width first.extends.grows state_is s) ∙ ap (add_of (node_value a s state)) (first.value s) in
      third.value s
      ∙ ap (λ (b : Bool). if b then node_value c s one else node_value c s further) up
      ∙ ap (λ (x : Word). if any_of (node_value a s last) then x else node_value c s further) one_is
      ∙ ap (λ (x : Word). if any_of (node_value a s last) then word state_width 1 else x) further_is;
}

-- ---- one statement

-- where it isn't come to, a statement assigns nothing
none_assigned : (d : Flat) (sc : Scene) (vs : List Word) (x : Statement) (up : Bool) → assigned d sc vs x ≡ vs → all_assigned d sc (if up then x ∷ [] else []) vs ≡ vs
none_assigned d sc vs x true same = same
none_assigned d sc vs x false same = refl

-- nor does a wait
pub assigns_wait : (d : Design) (ns : List Node) (m : ValueMap) (is : List ℕ) (x : Statement) (at : Place) (up : Sources → Bool) → Drive ns is (var_widths d) → x ≡ Wait at false
    → Assigns d ns ns m is is (λ s. if up s then x ∷ [] else [])
assigns_wait d ns m is x at up drive wait =
    assigns_none d ns m is (λ s. if up s then x ∷ [] else []) drive
    (λ s. none_assigned (flat_of d) (scene_at d ns m s) (values_at ns s is) x (up s) (ap (assigned (flat_of d) (scene_at d ns m s) (values_at ns s is)) wait))

-- an assignment at another place assigns the same
same_assigned : (d : Flat) (sc : Scene) (vs : List Word) (at from : Place) (v : ℕ) (e : Expr) (held : Bool) (up : Bool)
    → all_assigned d sc (if up then Assign from (ToVariable v) e true ∷ [] else []) vs ≡ all_assigned d sc (if up then Assign at (ToVariable v) e held ∷ [] else []) vs
same_assigned d sc vs at from v e held true = refl
same_assigned d sc vs at from v e held false = refl

pub assigns_at : (d : Design) (a b : List Node) (m : ValueMap) (is js : List ℕ) (x : Statement) (at : Place) (v : ℕ) (e : Expr) (held : Bool) (up : Sources → Bool) → x ≡ Assign at (ToVariable v) e held
    → Assigns d a b m is js (λ s. if up s then Assign no_place (ToVariable v) e true ∷ [] else []) → Assigns d a b m is js (λ s. if up s then x ∷ [] else [])
assigns_at d a b m is js x at v e held up is_x h = record {
  extends = h.extends;
  widths = h.widths;
  values = λ s.
      h.values s
      ∙ same_assigned (flat_of d) (scene_at d a m s) (values_at a s is) at no_place v e held (up s)
      ∙ sym (ap (λ (y : Statement). all_assigned (flat_of d) (scene_at d a m s) (if up s then y ∷ [] else []) (values_at a s is)) is_x);
}

-- ---- statements under one condition

if_more : (b : Bool) (xs : List Statement) (x : Statement) → (if b then xs else []) ++ (if b then x ∷ [] else []) ≡ (if b then xs ++ x ∷ [] else [])
if_more true xs x = refl
if_more false xs x = refl

none_if : (b : Bool) (d : Flat) (sc : Scene) (vs : List Word) → all_assigned d sc (if b then [] else []) vs ≡ vs
none_if true d sc vs = refl
none_if false d sc vs = refl

pub assigned_none : (d : Design) (ns : List Node) (m : ValueMap) (is : List ℕ) (here : ℕ) → Drive ns is (var_widths d) → Assigns d ns ns m is is (λ s. if any_of (node_value ns s here) then [] else [])
assigned_none d ns m is here drive =
    assigns_none d ns m is (λ s. if any_of (node_value ns s here) then [] else []) drive (λ s. none_if (any_of (node_value ns s here)) (flat_of d) (scene_at d ns m s) (values_at ns s is))

pub assigned_more : (d : Design) (first now new : List Node) (m : ValueMap) (is js ks : List ℕ) (here : ℕ) (xs : List Statement) (x : Statement) → IsMap d first m → HasWidth first here 1
    → Assigns d first now m is js (λ s. if any_of (node_value first s here) then xs else [])
    → Assigns d now new m js ks (λ s. if any_of (node_value now s here) then x ∷ [] else [])
    → Assigns d first new m is ks (λ s. if any_of (node_value first s here) then xs ++ x ∷ [] else [])
assigned_more d first now new m is js ks here xs x map_is here_is h g =
    assigns_as d first new m is ks _ _ (assigns_then d first now new m is js ks _ _ map_is h g)
    (λ s.
    ap (λ (b : Bool). (if any_of (node_value first s here) then xs else []) ++ (if b then x ∷ [] else [])) (ap any_of (value_grows first now here 1 h.extends.grows here_is s))
    ∙ if_more (any_of (node_value first s here)) xs x)

-- ---- lists of statements of the code

pub statements_more : (ss : List Stmt) (i : ℕ) (x : Stmt) → i < length ss → x ≡ get_or ss i x → statements_of (take (i + 1) ss) ≡ statements_of (take i ss) ++ statement_of x ∷ []
statements_more ss i x h is = map_more statement_of ss i x h ∙ ap (λ (y : Stmt). statements_of (take i ss) ++ statement_of y ∷ []) (sym is)

pub statements_all : (ss : List Stmt) (i : ℕ) → length ss ≤ i → statements_of (take i ss) ≡ statements_of ss
statements_all ss i h = ap statements_of (take_all i ss h)

pub walked_all : (d : Design) (first now : List Node) (m : ValueMap) (state : ℕ) (is js : List ℕ) (point here : ℕ) (ss : List Stmt) (i : ℕ) → length ss ≤ i
    → WalkedTo d first now m state is js point here (statements_of (take i ss)) → WalkedTo d first now m state is js point here (statements_of ss)
walked_all d first now m state is js point here ss i h walked = subst (λ (done : List Statement). WalkedTo d first now m state is js point here done) (statements_all ss i h) walked

pub walked_last : (d : Design) (first now : List Node) (m : ValueMap) (state : ℕ) (is js : List ℕ) (point here : ℕ) (done : List Statement) → WalkedTo d first now m state is js point here done
    → Means d first now here 1 (λ s. truth ((node_value first s state).value == waits done))
walked_last d first now m state is js point here done walked =
    means_as d first now here 1 _ _ walked.last (λ s. ap (λ (k : ℕ). truth ((node_value first s state).value == k)) walked.points)
