-- What the forms of a statement leave assigned and read early, by the nodes that they name.
use Rattle.std.proofs.Common.{◌≡◌, ◌||◌, ℕ, Bool, true, false, List, [], ◌∷◌, ◌++◌, map, Result, Ok, Err, refl, sym, ◌∙◌, ap, ap₂}
use Rattle.std.specs.Prelude.{IfOk, flat_map}
use Rattle.std.proofs.lemmas.List.{map-append}
use Rattle.std.specs.List.{list_any, filter_map}
use Rattle.el_design.specs.Plain as plain
use Rattle.el_design.specs.Plain.{Expr, Lvalue, Statement, Null, Skip, Seq, Block, Assign, If, Case, Arm, For, While, Repeat, Forever, Wait, Enable, Disable, Host}
use Rattle.el_design.specs.Names.{nodes_of, variable_named, own_expressions, whole_variables}
use Rattle.el_design.specs.Purity.{both_of, assigned_after, is_early, are_early, early_in}
use Rattle.el_design.specs.View.{statement_of, arms_of, arm_of, parts_of, PlainArm}
use Rattle.el_design.specs.declared.statements.Arm as code
use Rattle.el_design.specs.declared.statements.Stmt.{Stmt}
use Rattle.xt_base.specs.declared.refusals.Place.{Place}
use Rattle.ck_call.specs.declared.nodes.Node.{Node}
use Rattle.ck_call.specs.inner.Nodes.{node_of, named, own_named}
use Rattle.ck_call.specs.inner.Assigned.{is_unassigned, node_early, any_early, own_early, early_by, arms_after, arms_early}
use Rattle.ck_call.proofs.LinesAre.{own_is, named_is, plain_nodes}

pub parts_whole : (ts : List Lvalue) → whole_variables (parts_of ts) ≡ flat_map whole_variables ts
parts_whole [] = refl
parts_whole (t ∷ ts) = ap (λ l. whole_variables t ++ l) (parts_whole ts)

-- ---- arms

or_assoc : (a b c : Bool) → (a || (b || c)) ≡ ((a || b) || c)
or_assoc true b c = refl
or_assoc false b c = refl

pub arms_are_early : (w b : List ℕ) (on : Expr) (arms : List PlainArm) (other : Statement) → early_by w b (arms_of on arms other) ≡ (arms_early w b arms || early_by w b other)
arms_are_early w b on [] other = refl
arms_are_early w b on (a ∷ more) other = ap (λ e. early_by w b a.body || e) (arms_are_early w b on more other) ∙ or_assoc (early_by w b a.body) (arms_early w b more) (early_by w b other)

pub arms_leave : (b : List ℕ) (on : Expr) (arms : List PlainArm) (other : Statement) → assigned_after b (arms_of on arms other) ≡ arms_after b arms (assigned_after b other)
arms_leave b on [] other = refl
arms_leave b on (a ∷ more) other = ap (both_of (assigned_after b a.body)) (arms_leave b on more other)

-- ---- the arms of the scan

pub or_both : {a b c d : Bool} → a ≡ c → b ≡ d → (a || b) ≡ (c || d)
or_both e f = ap₂ (λ x y. x || y) e f

-- a statement of which only its own expressions matter
pub own_arm : (w b b1 : List ℕ) (s x : Statement) (early : Bool) → s ≡ x → early_by w b x ≡ any_early w b (own_named x) → b1 ≡ b → early ≡ any_early w b1 (own_named s) → early ≡ early_by w b s
own_arm w b b1 s x early e h i k = k ∙ ap₂ (λ y z. any_early w y (own_named z)) i e ∙ sym h ∙ ap (early_by w b) (sym e)

pub own_result : {E : Type 0} (w b b1 : List ℕ) (s x : Statement) (r : Result Bool E) → s ≡ x → early_by w b x ≡ any_early w b (own_named x) → b1 ≡ b → IfOk r (λ early. early ≡ any_early w b1 (own_named s)) → IfOk r (λ early. early ≡ early_by w b s)
own_result w b b1 s x (Ok early) e h i k = own_arm w b b1 s x early e h i k
own_result w b b1 s x (Err z) e h i k = tt

pub if_arm : (w b b1 b2 : List ℕ) (s x : Statement) (ns : List Node) (body last got other : Stmt) (own first second mid early : Bool) → s ≡ x →
    early_by w b x ≡ ((any_early w b ns || early_by w b (statement_of body)) || early_by w b (statement_of last)) →
    b1 ≡ b → own ≡ any_early w b1 ns → got ≡ body → first ≡ early_by w b (statement_of got) → b2 ≡ b → other ≡ last → second ≡ early_by w b2 (statement_of other) →
    mid ≡ (own || first) → early ≡ (mid || second) → early ≡ early_by w b s
if_arm w b b1 b2 s x ns body last got other own first second mid early e h i o y f j n g m k =
    k ∙ or_both (m ∙ or_both (o ∙ ap (λ z. any_early w z ns) i) (f ∙ ap (λ z. early_by w b (statement_of z)) y)) (g ∙ ap₂ (λ z t. early_by w z (statement_of t)) j n) ∙ sym h ∙ ap (early_by w b) (sym e)

pub loop_arm : (w b b1 b2 : List ℕ) (s x : Statement) (ns : List Node) (body got : Stmt) (own inner early : Bool) → s ≡ x → early_by w b x ≡ (any_early w b ns || early_by w b (statement_of body)) →
    b1 ≡ b → own ≡ any_early w b1 ns → b2 ≡ b → got ≡ body → inner ≡ early_by w b2 (statement_of got) → early ≡ (own || inner) → early ≡ early_by w b s
loop_arm w b b1 b2 s x ns body got own inner early e h i o j g f k =
    k ∙ or_both (o ∙ ap (λ z. any_early w z ns) i) (f ∙ ap₂ (λ z t. early_by w z (statement_of t)) j g) ∙ sym h ∙ ap (early_by w b) (sym e)

pub for_arm : (w b bv b2 b3 after : List ℕ) (s x : Statement) (v : ℕ) (first test next : List Node) (body got : Stmt) (header inner step mid early : Bool) → s ≡ x →
    early_by w b x ≡ (((any_early w b first || any_early w (b ++ v ∷ []) test) || early_by w (b ++ v ∷ []) (statement_of body)) || any_early w (assigned_after (b ++ v ∷ []) (statement_of body)) next) →
    header ≡ (any_early w b first || any_early w (b ++ v ∷ []) test) → bv ≡ b ++ v ∷ [] → b2 ≡ bv → got ≡ body → inner ≡ early_by w b2 (statement_of got) → after ≡ assigned_after b2 (statement_of got) →
    b3 ≡ after → step ≡ any_early w b3 next → mid ≡ (header || inner) → early ≡ (mid || step) → early ≡ early_by w b s
for_arm w b bv b2 b3 after s x v first test next body got header inner step mid early e h d i j g f a l n m k =
    k ∙ or_both (m ∙ or_both d (f ∙ ap₂ (λ z t. early_by w z (statement_of t)) (j ∙ i) g)) (n ∙ ap (λ z. any_early w z next) (l ∙ a ∙ ap₂ (λ z t. assigned_after z (statement_of t)) (j ∙ i) g)) ∙ sym h ∙ ap (early_by w b) (sym e)

pub case_arm : (w b b1 b2 b4 : List ℕ) (s : Statement) (at : Place) (on : Expr) (arms those : List code.Arm) (other got : Stmt) (own chosen default mid early : Bool) →
    s ≡ Case at on (arms_of on (map arm_of arms) (statement_of other)) →
    b1 ≡ b → own ≡ any_early w b1 (own_named s) → b2 ≡ b → got ≡ other → default ≡ early_by w b2 (statement_of got) → b4 ≡ b → those ≡ arms → chosen ≡ arms_early w b4 (map arm_of those) →
    mid ≡ (chosen || default) → early ≡ (own || mid) → early ≡ early_by w b s
case_arm w b b1 b2 b4 s at on arms those other got own chosen default mid early e i o j g f l a c m k =
    k
    ∙ or_both (o ∙ ap₂ (λ z t. any_early w z (own_named t)) i e)
    (m ∙ or_both (c ∙ ap₂ (λ z t. arms_early w z (map arm_of t)) l a) (f ∙ ap₂ (λ z t. early_by w z (statement_of t)) j g) ∙ sym (arms_are_early w b on (map arm_of arms) (statement_of other)))
    ∙ ap (early_by w b) (sym e)

pub case_after : (b b2 b4 : List ℕ) (s : Statement) (at : Place) (on : Expr) (arms those : List code.Arm) (other got : Stmt) (rest after : List ℕ) → s ≡ Case at on (arms_of on (map arm_of arms) (statement_of other)) →
    b2 ≡ b → got ≡ other → rest ≡ assigned_after b2 (statement_of got) → b4 ≡ b → those ≡ arms → after ≡ arms_after b4 (map arm_of those) rest → after ≡ assigned_after b s
case_after b b2 b4 s at on arms those other got rest after e j g f l a c =
    c ∙ ap₂ (λ z t. arms_after z (map arm_of t) rest) l a ∙ ap (arms_after b (map arm_of arms)) (f ∙ ap₂ (λ z t. assigned_after z (statement_of t)) j g)
    ∙ sym (arms_leave b on (map arm_of arms) (statement_of other)) ∙ ap (assigned_after b) (sym e)

-- ---- reads by nodes are reads by names

pub any_append : {X : Type 0} (f : X → Bool) (xs ys : List X) → list_any f (xs ++ ys) ≡ (list_any f xs || list_any f ys)
any_append f [] ys = refl
any_append f (x ∷ xs) ys = ap (λ b. f x || b) (any_append f xs ys) ∙ or_assoc (f x) (list_any f xs) (list_any f ys)

module _ (w b : List ℕ) where
  nodes_early : (es : List Expr) → list_any (node_early w b) (map node_of es) ≡ list_any (is_unassigned w b) (filter_map variable_named es)
  nodes_early [] = refl
  nodes_early (plain.Variable s v ∷ es) = ap (λ r. is_unassigned w b v || r) (nodes_early es)
  nodes_early (plain.MemoryWord s v i ∷ es) = ap (λ r. is_unassigned w b v || r) (nodes_early es)
  nodes_early (plain.Number s n ∷ es) = nodes_early es
  nodes_early (plain.NetValue s n ∷ es) = nodes_early es
  nodes_early (plain.Select s x r lsb ∷ es) = nodes_early es
  nodes_early (plain.Unary s op x ∷ es) = nodes_early es
  nodes_early (plain.Binary s op x y ∷ es) = nodes_early es
  nodes_early (plain.Choice s c x y ∷ es) = nodes_early es
  nodes_early (plain.Concat s xs ∷ es) = nodes_early es
  nodes_early (plain.Copies s n x ∷ es) = nodes_early es
  nodes_early (plain.Sign s x ∷ es) = nodes_early es
  nodes_early (plain.Resize s x ∷ es) = nodes_early es
  nodes_early (plain.Call s f xs ∷ es) = nodes_early es

  pub named_early : (e : Expr) → any_early w b (named e) ≡ is_early w b e
  named_early e = ap (any_early w b) (named_is e) ∙ nodes_early (nodes_of e)

  lists_early : (es : List Expr) → any_early w b (plain_nodes es) ≡ are_early w b es
  lists_early [] = refl
  lists_early (e ∷ es) =
      ap (any_early w b) (map-append node_of (nodes_of e) (flat_map nodes_of es)) ∙ any_append (node_early w b) (map node_of (nodes_of e)) (plain_nodes es) ∙ or_both (nodes_early (nodes_of e)) (lists_early es)

  pub own_reads : (x : Statement) → own_early w b x ≡ are_early w b (own_expressions x)
  own_reads x = ap (any_early w b) (own_is x) ∙ lists_early (own_expressions x)

pub same_early : (w b : List ℕ) (x : Statement) → early_by w b x ≡ early_in w b x
same_early w b Null = refl
same_early w b Skip = refl
same_early w b (Seq x y) = or_both (same_early w b x) (same_early w (assigned_after b x) y)
same_early w b (Block at mark body) = same_early w b body
same_early w b (Assign at to e held) = own_reads w b (Assign at to e held)
same_early w b (If at test x y) = or_both (or_both (named_early w b test) (same_early w b x)) (same_early w b y)
same_early w b (Case at on arms) = or_both (own_reads w b (Case at on arms)) (same_early w b arms)
same_early w b (Arm on labels body others) = or_both (same_early w b body) (same_early w b others)
same_early w b (For at v first test next body) =
    or_both (or_both (or_both (named_early w b first) (named_early w (b ++ v ∷ []) test)) (same_early w (b ++ v ∷ []) body)) (named_early w (assigned_after (b ++ v ∷ []) body) next)
same_early w b (While at test body) = or_both (named_early w b test) (same_early w b body)
same_early w b (Repeat at count body) = or_both (named_early w b count) (same_early w b body)
same_early w b (Forever at body) = same_early w b body
same_early w b (Wait at falling) = refl
same_early w b (Enable at t ins outs) = own_reads w b (Enable at t ins outs)
same_early w b (Disable at m) = refl
same_early w b (Host at f ins result outs) = own_reads w b (Host at f ins result outs)
