-- Tests of soundness that answer with a proof: where one answers at all, what it is of is sound. They compute, so a design is proved sound by running them.
-- A test may answer nothing of what is sound.
use Rattle.std.proofs.Common.{◌≡◌, ◌≢◌, ◌⊎◌, inl, inr, ◌<◌, ◌≤◌, ◌^◌, ◌+◌, ◌*◌, ◌&&◌, ◌||◌, not, ℕ, zero, suc, Bool, true, false, List, [], ◌∷◌, ◌++◌, zip, sum, length, slice_get, Option, Some, None, All, AllPairs, IfSome, refl, sym, subst, arith}
use Rattle.std.specs.Prelude.{Contains, is_some, eqb, leb, ltb}
use Rattle.std.specs.List.{list_all}
use Rattle.std.proofs.lemmas.Bool.{eqb-true, leb-true, ltb-true}
use Rattle.std.proofs.lemmas.List.Elements.{All-contains, All-nil, Contains-get_or}
use Rattle.std.proofs.lemmas.List.Kept.{AllPairs-cons}
use Rattle.xt_base.specs.declared.TheConstants.{MAX_WIDTH}
use Rattle.el_design.specs.declared.designs.Var.{Var}
use Rattle.el_design.specs.declared.designs.Pin.{Pin}
use Rattle.el_design.specs.declared.designs.Port.{Port}
use Rattle.el_design.specs.declared.designs.Import.{Import}
use Rattle.el_design.specs.declared.designs.Source.{Source}
use Rattle.el_design.specs.declared.designs.Source.TheVariants as sources
use Rattle.el_design.specs.declared.expressions.UnOp.{UnOp}
use Rattle.el_design.specs.declared.expressions.UnOp.TheVariants as unary
use Rattle.el_design.specs.declared.expressions.BinOp.{BinOp}
use Rattle.el_design.specs.declared.expressions.BinOp.TheVariants as binary
use Rattle.el_design.specs.Plain.{Expr, Number, NetValue, Variable, MemoryWord, Select, Unary, Binary, Choice, Concat, Copies, Sign, Resize, Call, Exprs, Range, Bit, Part, Up, Down, Lvalue, ToVariable, ToPart, ToWord, ToWordPart, Both, Nowhere, Statement, Assign, Case, Arm, For, Wait, Enable, Disable, Host, FlatNet, FlatTask, FlatFunc, Flat}
use Rattle.el_design.specs.Value.{value}
use Rattle.el_design.specs.Turns.{fixed}
use Rattle.el_design.specs.Assign.{range_width}
use Rattle.el_design.specs.Names.{nodes_of, is_constant, own_expressions, own_targets, variables_in, labels_in, listed}
use Rattle.el_design.specs.InPlace.{Holds}
use Rattle.el_design.specs.Texts.{texts}
use Rattle.el_design.specs.Purity.{variables_of, contains_number}
use Rattle.el_design.specs.Sound as sound
use Rattle.el_design.specs.Sound.{IsWidth, width, IsPlainVariable, IsMemory, IsNet, IsRange, FitsUnary, FitsBinary, IsDivisor, DividesWell, FitsCall, calls_function, Fits, IsNode, IsExpr, IsTarget, IsParts, IsOutput, FitsFormal, FitsPort, FitsTask, FitsImport, FitsStatement, IsStatement, variables_at, KeepsToItself, IsVariable, IsFlatNet, IsImport, HasSource, IsInput, bodies_of, all_marks, statement_depth, arms_fit, widths_in, max_depth, depth, IsSound}
use Rattle.el_design.proofs.OrderLists.{con_all}
use Rattle.el_design.proofs.WaysPuts.{has_con, con_has, not_so, clash, one_of, left_of, right_of}
use Rattle.el_design.proofs.Texts.{holds_is}

-- ---- answers

pub answered : {X : Type 0} (o : Option X) → is_some o ≡ true → X
answered (Some x) e = x
answered None e = cc

abbrev pub from : {X Y : Type 0} → (X → Y) → Option X → Option Y
from f (Some x) = Some (f x)
from f None = None

abbrev pub from_two : {X Y Z : Type 0} → (X → Y → Z) → Option X → Option Y → Option Z
from_two f (Some x) o = from (f x) o
from_two f None o = None

abbrev pub from_three : {X Y Z W : Type 0} → (X → Y → Z → W) → Option X → Option Y → Option Z → Option W
from_three f (Some x) o p = from_two (f x) o p
from_three f None o p = None

abbrev pub both : {X Y : Type 0} → Option X → Option Y → Option (X × Y)
both a b = from_two (λ x y. (x, y)) a b

-- a test that holds
abbrev pub holds_by : (b c : Bool) → b ≡ c → Option (b ≡ true)
holds_by b true e = Some e
holds_by b false e = None

abbrev pub holding : (b : Bool) → Option (b ≡ true)
holding b = holds_by b b refl

abbrev pub same : (a b : ℕ) → Option (a ≡ b)
same a b = from (eqb-true a b) (holding (eqb a b))

abbrev pub at_most : (a b : ℕ) → Option (a ≤ b)
at_most a b = from (leb-true a b) (holding (leb a b))

abbrev pub below : (a b : ℕ) → Option (a < b)
below a b = from (ltb-true a b) (holding (ltb a b))

pub all_cons : {X : Type 0} (P : X → Type 0) (x : X) (xs : List X) → P x → All P xs → All P (x ∷ xs)
all_cons P x xs p ps zero d h = p
all_cons P x xs p ps (suc k) d h = ps k d (omega (arith, h))

-- each element of a list
abbrev pub each : {X : Type 0} (P : X → Type 0) → ((x : X) → Option (P x)) → (xs : List X) → Option (All P xs)
each P f [] = Some (All-nil P)
each P f (x ∷ xs) = from_two (all_cons P x xs) (f x) (each P f xs)

-- each element with its number
abbrev pub Numbered : {X : Type 0} → (ℕ → X → Type 0) → List X → Type 0
Numbered {X = X} P xs = (i : ℕ) (x : X) → slice_get xs i ≡ Some x → P i x

some_one : {X : Type 0} (a b : X) → Some a ≡ Some b → a ≡ b
some_one a b e = cc

pub numbered_nil : {X : Type 0} (P : ℕ → X → Type 0) → Numbered P []
numbered_nil P i x e = absurd (let f : None ≡ Some x = e in cc)

pub numbered_cons : {X : Type 0} (P : ℕ → X → Type 0) (x : X) (xs : List X) → P 0 x → Numbered (λ i. P (suc i)) xs → Numbered P (x ∷ xs)
numbered_cons P x xs p ps zero y e = subst (P 0) (some_one x y e) p
numbered_cons P x xs p ps (suc i) y e = ps i y e

abbrev pub numbered : {X : Type 0} (P : ℕ → X → Type 0) → ((i : ℕ) (x : X) → Option (P i x)) → (xs : List X) → Option (Numbered P xs)
numbered P f [] = Some (numbered_nil P)
numbered P f (x ∷ xs) = from_two (numbered_cons P x xs) (f 0 x) (numbered (λ i. P (suc i)) (λ i. f (suc i)) xs)

-- two lists of numbers have nothing in common
abbrev pub Apart : List ℕ → List ℕ → Type 0
Apart xs ys = (v : ℕ) → Contains xs v → Contains ys v → ⊥

abbrev pub is_apart : List ℕ → List ℕ → Bool
is_apart xs ys = list_all (λ v. not (contains_number ys v)) xs

pub apart_is : (xs ys : List ℕ) → is_apart xs ys ≡ true → Apart xs ys
apart_is xs ys h v c e = clash (contains_number ys v) (has_con ys v e) (not_so (contains_number ys v) (con_all (λ x. not (contains_number ys x)) xs v h c))

abbrev pub apart : (xs ys : List ℕ) → Option (Apart xs ys)
apart xs ys = from (apart_is xs ys) (holding (is_apart xs ys))

-- the elements of a list differ
pub differs : (x : ℕ) (xs : List ℕ) → not (contains_number xs x) ≡ true → All (λ y. x ≢ y) xs
differs x xs h k d b e = clash (contains_number xs x) (has_con xs x (subst (Contains xs) (sym e) (Contains-get_or xs k d b))) (not_so (contains_number xs x) h)

abbrev pub distinct : (xs : List ℕ) → Option (AllPairs (λ a b. a ≢ b) xs)
distinct [] = Some (λ i j d h k. absurd (omega (arith, h, k)))
distinct (x ∷ xs) = from_two (λ h ps. AllPairs-cons (λ a b. a ≢ b) x xs (differs x xs h) ps) (holding (not (contains_number xs x))) (distinct xs)

-- ---- what numbers name

abbrev pub width_in_range : (w : ℕ) → Option (IsWidth w)
width_in_range w = both (at_most 1 w) (at_most w MAX_WIDTH)

-- an equal list's element
abbrev pub with_element : {X Y : Type 0} (o : Option X) → ((x : X) → o ≡ Some x → Option Y) → Option Y
with_element None f = None
with_element (Some x) f = f x refl

abbrev pub plain_variable : (d : Flat) (v w : ℕ) → Option (IsPlainVariable d v w)
plain_variable d v w = with_element (slice_get d.vars v) (λ x e. from_two (λ p q. record { var = x; is = e; plain = p; wide = q }) (same x.words 0) (same x.width w))

abbrev pub some_variable : (d : Flat) (v : ℕ) → Option ((w : ℕ) × IsPlainVariable d v w)
some_variable d v = with_element (slice_get d.vars v) (λ x e. from (λ p. (x.width, record { var = x; is = e; plain = p; wide = refl })) (same x.words 0))

abbrev pub memory : (d : Flat) (v w : ℕ) → Option (IsMemory d v w)
memory d v w = with_element (slice_get d.vars v) (λ x e. from_two (λ p q. record { var = x; is = e; words = p; wide = q }) (at_most 1 x.words) (same x.width w))

abbrev pub some_memory : (d : Flat) (v : ℕ) → Option ((w : ℕ) × IsMemory d v w)
some_memory d v = with_element (slice_get d.vars v) (λ x e. from (λ p. (x.width, record { var = x; is = e; words = p; wide = refl })) (at_most 1 x.words))

abbrev pub net_of_width : (d : Flat) (n w : ℕ) → Option (IsNet d n w)
net_of_width d n w = with_element (slice_get d.nets n) (λ x e. from (λ q. record { net = x; is = e; wide = q }) (same x.width w))

-- ---- nodes of expressions

abbrev pub range_is : (r : Range) → Option (IsRange r)
range_is (Bit e) = Some tt
range_is (Part high low) = both (at_most low high) (below high 65536)
range_is (Up e w) = width_in_range w
range_is (Down e w) = width_in_range w

abbrev pub unary_fits : (op : UnOp) (w a : ℕ) → Option (FitsUnary op w a)
unary_fits unary.Plus w a = same a w
unary_fits unary.Minus w a = same a w
unary_fits unary.Inv w a = same a w
unary_fits op w a = same w 1

abbrev pub binary_fits : (op : BinOp) (w a b : ℕ) → Option (FitsBinary op w a b)
binary_fits binary.Shl w a b = same a w
binary_fits binary.Shr w a b = same a w
binary_fits binary.Ashl w a b = same a w
binary_fits binary.Ashr w a b = same a w
binary_fits binary.Lt w a b = both (same w 1) (same a b)
binary_fits binary.Le w a b = both (same w 1) (same a b)
binary_fits binary.Gt w a b = both (same w 1) (same a b)
binary_fits binary.Ge w a b = both (same w 1) (same a b)
binary_fits binary.Eq w a b = both (same w 1) (same a b)
binary_fits binary.Ne w a b = both (same w 1) (same a b)
binary_fits binary.CaseEq w a b = both (same w 1) (same a b)
binary_fits binary.CaseNe w a b = both (same w 1) (same a b)
binary_fits binary.LogAnd w a b = same w 1
binary_fits binary.LogOr w a b = same w 1
binary_fits op w a b = both (same a w) (same b w)

pub not_zero : (n : ℕ) → 0 < n → n ≢ 0
not_zero n h e = omega (arith, h, e)

abbrev pub divisor : (d : Flat) (e : Expr) → Option (IsDivisor d e)
divisor d e = both (holding (is_constant e)) (from (not_zero (value d (fixed d) e).value) (below 0 (value d (fixed d) e).value))

abbrev pub divides_well : (d : Flat) (op : BinOp) (e : Expr) → Option (DividesWell d op e)
divides_well d binary.Div e = divisor d e
divides_well d binary.Rem e = divisor d e
divides_well d op e = Some tt

abbrev pub wide_enough : (d : Flat) (v w : ℕ) → Option ((x : ℕ) × IsPlainVariable d v x) → Option ((formal : ℕ) × IsPlainVariable d v formal × (formal ≤ w))
wide_enough d v w None = None
wide_enough d v w (Some x) = from (λ p. (x.0, x.1, p)) (at_most x.0 w)

abbrev pub argument : (d : Flat) (p : ℕ × ℕ) → Option ((formal : ℕ) × IsPlainVariable d p.0 formal × (formal ≤ p.1))
argument d p = wide_enough d p.0 p.1 (some_variable d p.0)

-- a call of a function; of an import no answer is given
abbrev pub call_fits : (d : Flat) (w f : ℕ) (es : Exprs) → Option (FitsCall d w f es)
call_fits d w f es = with_element (slice_get d.funcs f) (λ g e. from_two (λ p q. calls_function e p q) (plain_variable d g.result w)
    (each (λ p. (formal : ℕ) × IsPlainVariable d p.0 formal × (formal ≤ p.1)) (argument d) (zip g.ins (widths_in es))))

abbrev pub node_fits : (d : Flat) (e : Expr) → Option (Fits d e)
node_fits d (Number s b) = both (same b.width s.width) (below b.value (2 ^ b.width))
node_fits d (NetValue s n) = net_of_width d n s.width
node_fits d (Variable s v) = plain_variable d v s.width
node_fits d (MemoryWord s v i) = memory d v s.width
node_fits d (Select s e r lsb) = both (range_is r) (same (range_width r) s.width)
node_fits d (Unary s op e) = unary_fits op s.width (width e)
node_fits d (Binary s op a b) = both (binary_fits op s.width (width a) (width b)) (divides_well d op b)
node_fits d (Choice s c a b) = both (same (width a) s.width) (same (width b) s.width)
node_fits d (Concat s es) = same (sum (widths_in es)) s.width
node_fits d (Copies s n e) = both (at_most 1 n) (same (n * width e) s.width)
node_fits d (Sign s e) = same (width e) s.width
node_fits d (Resize s e) = Some tt
node_fits d (Call s f es) = call_fits d s.width f es

abbrev pub node : (d : Flat) (e : Expr) → Option (IsNode d e)
node d e = both (width_in_range (width e)) (node_fits d e)

abbrev pub expression : (d : Flat) (e : Expr) → Option (IsExpr d e)
expression d e = from_two (λ p q. record { nodes = p; shallow = q }) (each (IsNode d) (node d) (nodes_of e)) (at_most (depth e) max_depth)

-- ---- targets

abbrev pub SomeTarget : Flat → Lvalue → Type 0
SomeTarget d t = (w : ℕ) × IsTarget d t w

abbrev pub SomeParts : Flat → Lvalue → Type 0
SomeParts d t = (w : ℕ) × IsParts d t w

abbrev mutual
  pub target : (d : Flat) (t : Lvalue) → Option (SomeTarget d t)
  target d (ToVariable v) = from (λ x. (x.0, sound.variable x.1)) (some_variable d v)
  target d (ToPart v r) = from_two (λ x p. (range_width r, sound.part x.0 x.1 p)) (some_variable d v) (range_is r)
  target d (ToWord v i) = from (λ x. (x.0, sound.word x.1)) (some_memory d v)
  target d (ToWordPart v i r) = from_two (λ x p. (range_width r, sound.word_part x.0 x.1 p)) (some_memory d v) (range_is r)
  target d (Both a b) = from_two (λ x y. (x.0 + y.0, sound.parts x.1 y.1)) (target d a) (parts d b)
  target d Nowhere = None

  pub parts : (d : Flat) (t : Lvalue) → Option (SomeParts d t)
  parts d Nowhere = Some (0, sound.no_part)
  parts d (Both a b) = from_two (λ x y. (x.0 + y.0, sound.more_parts x.1 y.1)) (target d a) (parts d b)
  parts d t = None

-- with a width in range
abbrev pub sized : (d : Flat) (t : Lvalue) → Option (SomeTarget d t) → Option ((w : ℕ) × IsTarget d t w × IsWidth w)
sized d t None = None
sized d t (Some x) = from (λ p. (x.0, x.1, p)) (width_in_range x.0)

abbrev pub sized_target : (d : Flat) (t : Lvalue) → Option ((w : ℕ) × IsTarget d t w × IsWidth w)
sized_target d t = sized d t (target d t)

abbrev pub output : (d : Flat) (t : Lvalue) → Option (IsOutput d t)
output d Nowhere = Some (inl refl)
output d t = from inr (sized_target d t)

-- ---- statements

abbrev pub formal_fits : (d : Flat) (x : ℕ × Expr) → Option (FitsFormal d x)
formal_fits d x = wide_enough d x.0 (width x.1) (some_variable d x.0)

abbrev pub task_fits : (d : Flat) (ins : List Expr) (o : Option FlatTask) → Option (FitsTask d ins o)
task_fits d ins None = None
task_fits d ins (Some t) = each (FitsFormal d) (formal_fits d) (zip t.ins ins)

abbrev pub import_fits : (ins : List Expr) (o : Option Import) → Option (FitsImport ins o)
import_fits ins None = None
import_fits ins (Some f) = each FitsPort (λ x. at_most x.0.width (width x.1)) (zip f.ins ins)

-- a `case` that hasn't an arm; of one that has no answer is given
abbrev pub no_arms : (on : Expr) (arms : Statement) → Option (sound.ChooseBy on arms)
no_arms on (Arm e labels body others) = None
no_arms on s = Some tt

abbrev pub assign_fits : (d : Flat) (to : Lvalue) (e : Expr) → Option ((w : ℕ) × IsTarget d to w × IsWidth w) → Option ((w : ℕ) × IsTarget d to w × IsWidth w × (w ≤ width e))
assign_fits d to e None = None
assign_fits d to e (Some x) = from (λ p. (x.0, x.1, x.2, p)) (at_most x.0 (width e))

abbrev pub for_fits : (d : Flat) (v : ℕ) (first next : Expr) → Option ((w : ℕ) × IsPlainVariable d v w) → Option ((w : ℕ) × IsPlainVariable d v w × (w ≤ width first) × (w ≤ width next))
for_fits d v first next None = None
for_fits d v first next (Some x) = from_two (λ p q. (x.0, x.1, p, q)) (at_most x.0 (width first)) (at_most x.0 (width next))

abbrev pub result_fits : (d : Flat) (r : Option Lvalue) → Option (IfSome r (λ t. (w : ℕ) × IsTarget d t w × IsWidth w))
result_fits d None = Some tt
result_fits d (Some t) = sized_target d t

abbrev pub mark_there : (ms : List ℕ) (m : ℕ) → Option (Contains ms m)
mark_there ms m = from (con_has ms m) (holding (contains_number ms m))

abbrev pub no_falling : (b : Bool) → Option (b ≡ false)
no_falling true = None
no_falling false = Some refl

abbrev pub statement_fits : (d : Flat) (x : Statement) → Option (FitsStatement d x)
statement_fits d (Assign at to e held) = assign_fits d to e (sized_target d to)
statement_fits d (Case at on arms) = both (each (λ l. width l ≡ width on) (λ l. same (width l) (width on)) (labels_in arms)) (no_arms on arms)
statement_fits d (For at v first test next body) = for_fits d v first next (some_variable d v)
statement_fits d (Enable at t ins outs) = task_fits d ins (slice_get d.tasks t)
statement_fits d (Wait at falling) = no_falling falling
statement_fits d (Disable at m) = mark_there (all_marks d) m
statement_fits d (Host at f ins result outs) = both (import_fits ins (slice_get d.imports f)) (result_fits d result)
statement_fits d x = Some tt

abbrev pub statement : (d : Flat) (x : Statement) → Option (IsStatement d x)
statement d x = from_three (λ p q r. record { expressions = p; outputs = q; fits = r }) (each (IsExpr d) (expression d) (own_expressions x)) (each (IsOutput d) (output d) (own_targets x)) (statement_fits d x)

-- of each text the statements that stand in it
abbrev pub Sound-texts : Flat → Statement → Type 0
Sound-texts d s = All (IsStatement d) (texts s)

abbrev pub texts_sound : (d : Flat) (s : Statement) → Option (Sound-texts d s)
texts_sound d s = each (IsStatement d) (statement d) (texts s)

pub held_sound : (d : Flat) → All (Sound-texts d) (bodies_of d) → (s x : Statement) → Contains (bodies_of d) s → Holds s x → IsStatement d x
held_sound d h s x c st = All-contains (IsStatement d) (texts s) x (All-contains (Sound-texts d) (bodies_of d) s h c) ((holds_is s x).0 st)

-- ---- variables of functions

-- no statement of a text names one of these
abbrev pub keeps_off : List ℕ → Statement → Bool
keeps_off vs s = list_all (λ x. is_apart (variables_at x) vs) (texts s)

pub kept_off : (vs : List ℕ) (s x : Statement) (v : ℕ) → keeps_off vs s ≡ true → Holds s x → Contains (variables_at x) v → Contains vs v → ⊥
kept_off vs s x v h st c e = apart_is (variables_at x) vs (con_all (λ y. is_apart (variables_at y) vs) (texts s) x h ((holds_is s x).0 st)) v c e

-- of each element that has another number
abbrev pub others_pass : {X : Type 0} → (X → Bool) → ℕ → ℕ → List X → Bool
others_pass p f i [] = true
others_pass p f i (x ∷ xs) = (eqb i f || p x) && others_pass p f (suc i) xs

pub other_passes : {X : Type 0} (p : X → Bool) (f j : ℕ) (xs : List X) (i : ℕ) (x : X) → others_pass p f j xs ≡ true → slice_get xs i ≡ Some x → j + i ≢ f → p x ≡ true
other_passes p f j [] i x h e n = absurd (let g : None ≡ Some x = e in cc)
other_passes p f j (y ∷ ys) zero x h e n = go (one_of (eqb j f) (p y) (left_of (eqb j f || p y) (others_pass p f (suc j) ys) h))
  where
    go : (eqb j f ≡ true) ⊎ (p y ≡ true) → p x ≡ true
    go (inl k) = let same_number : j ≡ f = eqb-true j f k in absurd (n (omega (arith, same_number)))
    go (inr k) = subst (λ z. p z ≡ true) (some_one y x e) k
other_passes p f j (y ∷ ys) (suc i) x h e n = other_passes p f (suc j) ys i x (right_of (eqb j f || p y) (others_pass p f (suc j) ys) h) e (λ k. n (omega (arith, k)))

abbrev pub pin_keeps_off : List ℕ → Source → Bool
pin_keeps_off vs (sources.Var v) = not (contains_number vs v)
pin_keeps_off vs (sources.Net n) = true

pub pin_kept_off : (vs : List ℕ) (s : Source) (v : ℕ) → pin_keeps_off vs s ≡ true → s ≡ sources.Var v → Contains vs v → ⊥
pin_kept_off vs s v h e c =
    let k : pin_keeps_off vs (sources.Var v) ≡ true = subst (λ z. pin_keeps_off vs z ≡ true) e h in
    clash (contains_number vs v) (has_con vs v c) (not_so (contains_number vs v) k)

abbrev pub value_keeps_off : List ℕ → Option Expr → Bool
value_keeps_off vs None = true
value_keeps_off vs (Some e) = is_apart (variables_in e) vs

pub value_kept_off : (vs : List ℕ) (o : Option Expr) (e : Expr) (v : ℕ) → value_keeps_off vs o ≡ true → o ≡ Some e → Contains (variables_in e) v → Contains vs v → ⊥
value_kept_off vs o e v h i c k = apart_is (variables_in e) vs (subst (λ z. value_keeps_off vs z ≡ true) i h) v c k

module _ (d : Flat) (f : ℕ) (g : FlatFunc) where
  abbrev pub own : List ℕ
  own = variables_of g

  abbrev pub texts_keep : Bool
  texts_keep = list_all (λ p. keeps_off own p.body) d.procs

  abbrev pub tasks_keep : Bool
  tasks_keep = list_all (λ t. keeps_off own t.body) d.tasks

  abbrev pub formals_keep : Bool
  formals_keep = list_all (λ t. is_apart (t.ins ++ t.outs) own) d.tasks

  abbrev pub functions_keep : Bool
  functions_keep = others_pass (λ h. keeps_off own h.body) f 0 d.funcs

  abbrev pub others_keep : Bool
  others_keep = others_pass (λ h. is_apart (variables_of h) own) f 0 d.funcs

  abbrev pub pins_keep : Bool
  pins_keep = list_all (λ pin. pin_keeps_off own pin.from) d.outputs

  abbrev pub nets_keep : Bool
  nets_keep = list_all (λ n. value_keeps_off own n.value) d.nets

  abbrev pub Kept : Type 0
  Kept = (texts_keep ≡ true) × (tasks_keep ≡ true) × (formals_keep ≡ true) × (functions_keep ≡ true) × (others_keep ≡ true) × (pins_keep ≡ true) × (nets_keep ≡ true)

  pub keeps : Kept → All (λ v. (w : ℕ) × IsPlainVariable d v w) own → AllPairs (λ a b. a ≢ b) own → KeepsToItself d f g
  keeps h there apart_all = record {
    there = there;
    distinct = apart_all;
    processes = λ p x v c st k. kept_off own p.body x v (con_all (λ q. keeps_off own q.body) d.procs p h.0 c) st k;
    tasks = λ t x v c st k. kept_off own t.body x v (con_all (λ q. keeps_off own q.body) d.tasks t h.1 c) st k;
    formals = λ t v c k. apart_is (t.ins ++ t.outs) own (con_all (λ q. is_apart (q.ins ++ q.outs) own) d.tasks t h.2 c) v k;
    functions = λ i o x v e n st k. kept_off own o.body x v (other_passes (λ q. keeps_off own q.body) f 0 d.funcs i o h.3 e (λ m. n (omega (arith, m)))) st k;
    others = λ i o v e n k. apart_is (variables_of o) own (other_passes (λ q. is_apart (variables_of q) own) f 0 d.funcs i o h.4 e (λ m. n (omega (arith, m)))) v k;
    pins = λ pin v c e. pin_kept_off own pin.from v (con_all (λ q. pin_keeps_off own q.from) d.outputs pin h.5 c) e;
    nets = λ n e v c i. value_kept_off own n.value e v (con_all (λ q. value_keeps_off own q.value) d.nets n h.6 c) i;
  }

  abbrev pub kept : Option Kept
  kept = from_three (λ a b c. (a.0, a.1, b.0, b.1, c.0, c.1.0, c.1.1)) (both (holding texts_keep) (holding tasks_keep)) (both (holding formals_keep) (holding functions_keep))
      (both (holding others_keep) (both (holding pins_keep) (holding nets_keep)))

  abbrev pub keeping : Option (KeepsToItself d f g)
  keeping = from_three keeps kept (each (λ v. (w : ℕ) × IsPlainVariable d v w) (some_variable d) own) (distinct own)

-- ---- the lists

abbrev pub variable_is : (v : Var) → Option (IsVariable v)
variable_is v = from_three (λ p q r. let s : (v.lsb + v.width ≤ 65536) × (v.low + v.words ≤ 65536) = r in record { wide = p; start = q.0; fits = q.1; bits = s.0; places = s.1 })
    (width_in_range v.width) (both (same v.start.width v.width) (below v.start.value (2 ^ v.start.width))) (both (at_most (v.lsb + v.width) 65536) (at_most (v.low + v.words) 65536))

abbrev pub value_is : (d : Flat) (w : ℕ) (o : Option Expr) → Option (IfSome o (λ e. IsExpr d e × (w ≤ width e)))
value_is d w None = Some tt
value_is d w (Some e) = both (expression d e) (at_most w (width e))

abbrev pub flat_net : (d : Flat) (n : FlatNet) → Option (IsFlatNet d n)
flat_net d n = from_three (λ p q r. record { wide = p; bits = q; value = r }) (width_in_range n.width) (at_most (n.lsb + n.width) 65536) (value_is d n.width n.value)

abbrev pub ports : (ps : List Port) → Option (sound.ArePorts ps)
ports ps = each (λ p. IsWidth p.width) (λ p. width_in_range p.width) ps

abbrev pub result_width : (o : Option Port) → Option (IfSome o (λ p. IsWidth p.width))
result_width None = Some tt
result_width (Some p) = width_in_range p.width

abbrev pub import_is : (f : Import) → Option (IsImport f)
import_is f = from_three (λ p q r. record { ins = p.0; outs = p.1; result = q; few_ins = r.0; few_outs = r.1 })
    (both (ports f.ins) (ports f.outs)) (result_width f.result) (both (at_most (length f.ins) 16) (at_most (length (listed f.result) + length f.outs) 16))

abbrev pub no_value : (o : Option Expr) → Option (o ≡ None)
no_value None = Some refl
no_value (Some e) = None

abbrev pub input_is : (d : Flat) (n : ℕ) → Option (IsInput d n)
input_is d n = with_element (slice_get d.nets n) (λ x e. from (λ p. (x, e, p)) (no_value x.value))

abbrev pub some_net : (d : Flat) (n : ℕ) → Option ((w : ℕ) × IsNet d n w)
some_net d n = with_element (slice_get d.nets n) (λ x e. Some (x.width, record { net = x; is = e; wide = refl }))

abbrev pub source_is : (d : Flat) (name : List ℕ) (s : Source) → Option (HasSource d (record { name = name; from = s }))
source_is d name (sources.Var v) = some_variable d v
source_is d name (sources.Net n) = some_net d n

abbrev pub pin_is : (d : Flat) (pin : Pin) → Option (HasSource d pin)
pin_is d pin = source_is d pin.name pin.from

abbrev pub formals_there : (d : Flat) (t : FlatTask) → Option (All (λ v. (w : ℕ) × IsPlainVariable d v w) (t.ins ++ t.outs))
formals_there d t = each (λ v. (w : ℕ) × IsPlainVariable d v w) (some_variable d) (t.ins ++ t.outs)

-- ---- a design

abbrev pub Lists : Flat → Type 0
Lists d =
    All IsVariable d.vars × All (IsFlatNet d) d.nets × All IsImport d.imports × All (λ t. All (λ v. (w : ℕ) × IsPlainVariable d v w) (t.ins ++ t.outs)) d.tasks
    × Numbered (KeepsToItself d) d.funcs

abbrev pub Texts : Flat → Type 0
Texts d = All (Sound-texts d) (bodies_of d) × All (λ s. arms_fit false s ≡ true) (bodies_of d) × All (λ s. statement_depth s ≤ max_depth) (bodies_of d)

abbrev pub Marks : Flat → Type 0
Marks d = All (λ m. m < d.marks) (all_marks d) × AllPairs (λ a b. a ≢ b) (all_marks d) × All (IsInput d) d.inputs × AllPairs (λ a b. a ≢ b) d.inputs × All (HasSource d) d.outputs

pub put_together : (d : Flat) → Lists d → Texts d → Marks d → IsSound d
put_together d l t m = record {
  vars = l.0;
  nets = l.1;
  imports = l.2;
  tasks = l.3;
  funcs = l.4;
  statements = held_sound d t.0;
  arms = t.1;
  shallow = t.2;
  marks_below = m.0;
  marks_distinct = m.1;
  inputs = m.2;
  inputs_once = m.3;
  outputs = m.4;
}

abbrev pub lists : (d : Flat) → Option (Lists d)
lists d = from_three (λ p q r. (p, q.0, q.1, r.0, r.1)) (each IsVariable variable_is d.vars) (both (each (IsFlatNet d) (flat_net d) d.nets) (each IsImport import_is d.imports))
    (both (each (λ t. All (λ v. (w : ℕ) × IsPlainVariable d v w) (t.ins ++ t.outs)) (formals_there d) d.tasks) (numbered (KeepsToItself d) (keeping d) d.funcs))

abbrev pub all_texts : (d : Flat) → Option (Texts d)
all_texts d = from_three (λ p q r. (p, q, r)) (each (Sound-texts d) (texts_sound d) (bodies_of d)) (each (λ s. arms_fit false s ≡ true) (λ s. holding (arms_fit false s)) (bodies_of d))
    (each (λ s. statement_depth s ≤ max_depth) (λ s. at_most (statement_depth s) max_depth) (bodies_of d))

abbrev pub marks : (d : Flat) → Option (Marks d)
marks d = from_three (λ p q r. (p.0, p.1, q.0, q.1, r)) (both (each (λ m. m < d.marks) (λ m. below m d.marks) (all_marks d)) (distinct (all_marks d)))
    (both (each (IsInput d) (input_is d) d.inputs) (distinct d.inputs)) (each (HasSource d) (pin_is d) d.outputs)

abbrev pub is_sound : (d : Flat) → Option (IsSound d)
is_sound d = from_three (put_together d) (lists d) (all_texts d) (marks d)
