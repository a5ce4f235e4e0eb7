-- Sound flat designs: what every design keeps that the front end answers. All of it is this project's own.
use Rattle.std.specs.Prelude.{◌≡◌, ◌≢◌, ◌⊎◌, ◌+◌, ◌*◌, ◌^◌, ◌<◌, ◌≤◌, ◌&&◌, ℕ, suc, Bool, true, false, List, [], ◌∷◌, ◌++◌, Option, Some, None, IfSome, Contains, All, AllPairs, map, flat_map, sum, length, slice_get, max, zip}
use Rattle.xt_base.specs.declared.TheConstants.{MAX_WIDTH}
use Rattle.el_design.specs.declared.designs.Var.{Var}
use Rattle.el_design.specs.declared.designs.Pin.{Pin}
use Rattle.el_design.specs.declared.designs.Port.{Port}
use Rattle.el_design.specs.declared.designs.Import.{Import}
use Rattle.el_design.specs.declared.designs.Source.{Source}
use Rattle.el_design.specs.declared.designs.Source.TheVariants as sources
use Rattle.el_design.specs.declared.expressions.UnOp.{UnOp}
use Rattle.el_design.specs.declared.expressions.UnOp.TheVariants as unary
use Rattle.el_design.specs.declared.expressions.BinOp.{BinOp}
use Rattle.el_design.specs.declared.expressions.BinOp.TheVariants as binary
use Rattle.el_design.specs.Plain.{Expr, Number, NetValue, Variable, MemoryWord, Select, Unary, Binary, Choice, Concat, Copies, Sign, Resize, Call, Exprs, NoExpr, More, Range, Bit, Part, Up, Down, Lvalue, ToVariable, ToPart, ToWord, ToWordPart, Both, Nowhere, Statement, Skip, Seq, Block, Assign, If, Case, Arm, For, While, Repeat, Forever, Wait, Enable, Disable, Host, FlatNet, FlatTask, FlatFunc, FlatProc, Flat}
use Rattle.el_design.specs.Value.{shape_of, value}
use Rattle.el_design.specs.Assign.{range_width}
use Rattle.el_design.specs.Turns.{fixed}
use Rattle.el_design.specs.Names.{nodes_of, is_constant, variables_in, is_nowhere, target_variables, own_expressions, own_targets, labels_in, listed}
use Rattle.el_design.specs.InPlace.{Holds}
use Rattle.el_design.specs.Purity.{variables_of}

abbrev pub IsWidth : ℕ → Type 0
IsWidth w = (1 ≤ w) × (w ≤ MAX_WIDTH)

abbrev pub width : Expr → ℕ
width e = (shape_of e).width

-- ---- what numbers name

pub record IsPlainVariable (d : Flat) (v w : ℕ) : Type 0 where
  pub var : Var
  pub is : slice_get d.vars v ≡ Some var
  pub plain : var.words ≡ 0
  pub wide : var.width ≡ w

pub record IsMemory (d : Flat) (v w : ℕ) : Type 0 where
  pub var : Var
  pub is : slice_get d.vars v ≡ Some var
  pub words : 1 ≤ var.words
  pub wide : var.width ≡ w

pub record IsNet (d : Flat) (n w : ℕ) : Type 0 where
  pub net : FlatNet
  pub is : slice_get d.nets n ≡ Some net
  pub wide : net.width ≡ w

-- ---- nodes of expressions (IEEE 1364-2005, 5.4)

abbrev pub widths_in : Exprs → List ℕ
widths_in NoExpr = []
widths_in (More e es) = width e ∷ widths_in es

-- the bounds of a part, highest first, each below 65,536
abbrev pub IsRange : Range → Type 0
IsRange (Bit e) = Unit {0}
IsRange (Part high low) = (low ≤ high) × (high < 65536)
IsRange (Up e w) = IsWidth w
IsRange (Down e w) = IsWidth w

-- the operators whose operand has the node's width; the others give one bit
abbrev pub FitsUnary : UnOp → ℕ → ℕ → Type 0
FitsUnary unary.Plus w a = a ≡ w
FitsUnary unary.Minus w a = a ≡ w
FitsUnary unary.Inv w a = a ≡ w
FitsUnary op w a = w ≡ 1

-- a divisor is constant, and isn't 0
abbrev pub IsDivisor : Flat → Expr → Type 0
IsDivisor d e = (is_constant e ≡ true) × ((value d (fixed d) e).value ≢ 0)

abbrev pub FitsBinary : BinOp → ℕ → ℕ → ℕ → Type 0
FitsBinary binary.Shl w a b = a ≡ w
FitsBinary binary.Shr w a b = a ≡ w
FitsBinary binary.Ashl w a b = a ≡ w
FitsBinary binary.Ashr w a b = a ≡ w
FitsBinary binary.Lt w a b = (w ≡ 1) × (a ≡ b)
FitsBinary binary.Le w a b = (w ≡ 1) × (a ≡ b)
FitsBinary binary.Gt w a b = (w ≡ 1) × (a ≡ b)
FitsBinary binary.Ge w a b = (w ≡ 1) × (a ≡ b)
FitsBinary binary.Eq w a b = (w ≡ 1) × (a ≡ b)
FitsBinary binary.Ne w a b = (w ≡ 1) × (a ≡ b)
FitsBinary binary.CaseEq w a b = (w ≡ 1) × (a ≡ b)
FitsBinary binary.CaseNe w a b = (w ≡ 1) × (a ≡ b)
FitsBinary binary.LogAnd w a b = w ≡ 1
FitsBinary binary.LogOr w a b = w ≡ 1
FitsBinary op w a b = (a ≡ w) × (b ≡ w)

abbrev pub DividesWell : Flat → BinOp → Expr → Type 0
DividesWell d binary.Div e = IsDivisor d e
DividesWell d binary.Rem e = IsDivisor d e
DividesWell d op e = Unit {0}

-- an argument is as wide as its formal at least
pub data FitsCall (d : Flat) (w f : ℕ) (es : Exprs) : Type 0 where
  calls_function : {g : FlatFunc} → slice_get d.funcs f ≡ Some g → IsPlainVariable d g.result w →
      All (λ p. (formal : ℕ) × IsPlainVariable d p.0 formal × (formal ≤ p.1)) (zip g.ins (widths_in es)) → FitsCall d w f es
  calls_import : (i : ℕ) → {g : Import} {p : Port} → f ≡ length d.funcs + i → slice_get d.imports i ≡ Some g → g.result ≡ Some p → p.width ≡ w → FitsCall d w f es
  calls_void : (i : ℕ) → {g : Import} → f ≡ length d.funcs + i → slice_get d.imports i ≡ Some g → g.result ≡ None → w ≡ 1 → FitsCall d w f es

-- a node fits its operands
abbrev pub Fits : Flat → Expr → Type 0
Fits d (Number s b) = (b.width ≡ s.width) × (b.value < 2 ^ b.width)
Fits d (NetValue s n) = IsNet d n s.width
Fits d (Variable s v) = IsPlainVariable d v s.width
Fits d (MemoryWord s v i) = IsMemory d v s.width
Fits d (Select s e r lsb) = IsRange r × (range_width r ≡ s.width)
Fits d (Unary s op e) = FitsUnary op s.width (width e)
Fits d (Binary s op a b) = FitsBinary op s.width (width a) (width b) × DividesWell d op b
Fits d (Choice s c a b) = (width a ≡ s.width) × (width b ≡ s.width)
Fits d (Concat s es) = sum (widths_in es) ≡ s.width
Fits d (Copies s n e) = (1 ≤ n) × (n * width e ≡ s.width)
Fits d (Sign s e) = width e ≡ s.width
Fits d (Resize s e) = Unit {0}
Fits d (Call s f es) = FitsCall d s.width f es

-- a node is well made: its width is in range, and it fits
abbrev pub IsNode : Flat → Expr → Type 0
IsNode d e = IsWidth (width e) × Fits d e

-- how many nodes stand in one another, where what brings an operand to a width isn't counted
abbrev mutual
  pub depth : Expr → ℕ
  depth (Number s b) = 1
  depth (NetValue s n) = 1
  depth (Variable s v) = 1
  depth (MemoryWord s v i) = suc (depth i)
  depth (Select s e r lsb) = suc (max (depth e) (range_depth r))
  depth (Unary s op e) = suc (depth e)
  depth (Binary s op a b) = suc (max (depth a) (depth b))
  depth (Choice s c a b) = suc (max (depth c) (max (depth a) (depth b)))
  depth (Concat s es) = suc (depth_all es)
  depth (Copies s n e) = suc (depth e)
  depth (Sign s e) = suc (depth e)
  depth (Resize s e) = depth e
  depth (Call s f es) = suc (depth_all es)

  pub depth_all : Exprs → ℕ
  depth_all NoExpr = 0
  depth_all (More e es) = max (depth e) (depth_all es)

  pub range_depth : Range → ℕ
  range_depth (Bit e) = depth e
  range_depth (Part high low) = 0
  range_depth (Up e w) = depth e
  range_depth (Down e w) = depth e

abbrev pub max_depth : ℕ
max_depth = 1024

pub record IsExpr (d : Flat) (e : Expr) : Type 0 where
  pub nodes : All (IsNode d) (nodes_of e)
  pub shallow : depth e ≤ max_depth

-- ---- targets: their widths in bits

mutual
  pub data IsTarget (d : Flat) : Lvalue → ℕ → Type 0 where
    variable : {v w : ℕ} → IsPlainVariable d v w → IsTarget d (ToVariable v) w
    part : {v : ℕ} (w : ℕ) → {r : Range} → IsPlainVariable d v w → IsRange r → IsTarget d (ToPart v r) (range_width r)
    word : {v w : ℕ} {i : Expr} → IsMemory d v w → IsTarget d (ToWord v i) w
    word_part : {v : ℕ} (w : ℕ) → {i : Expr} {r : Range} → IsMemory d v w → IsRange r → IsTarget d (ToWordPart v i r) (range_width r)
    parts : {t more : Lvalue} {w ws : ℕ} → IsTarget d t w → IsParts d more ws → IsTarget d (Both t more) (w + ws)

  -- the further parts of a concatenation
  pub data IsParts (d : Flat) : Lvalue → ℕ → Type 0 where
    no_part : IsParts d Nowhere 0
    more_parts : {t more : Lvalue} {w ws : ℕ} → IsTarget d t w → IsParts d more ws → IsParts d (Both t more) (w + ws)

-- a target of a width in range, or what stands for an output argument that can't be stored to
abbrev pub IsOutput : Flat → Lvalue → Type 0
IsOutput d t = (is_nowhere t ≡ true) ⊎ ((w : ℕ) × IsTarget d t w × IsWidth w)

-- ---- marks: each block with a name and each task has one of its own

abbrev pub marks_in : Statement → List ℕ
marks_in (Seq a b) = marks_in a ++ marks_in b
marks_in (Block at None body) = marks_in body
marks_in (Block at (Some m) body) = m ∷ marks_in body
marks_in (If at test a b) = marks_in a ++ marks_in b
marks_in (Case at on arms) = marks_in arms
marks_in (Arm on labels body others) = marks_in body ++ marks_in others
marks_in (For at v first test next body) = marks_in body
marks_in (While at test body) = marks_in body
marks_in (Repeat at count body) = marks_in body
marks_in (Forever at body) = marks_in body
marks_in x = []

abbrev pub bodies_of : Flat → List Statement
bodies_of d = map (λ p. p.body) d.procs ++ map (λ t. t.body) d.tasks ++ map (λ f. f.body) d.funcs

abbrev pub all_marks : Flat → List ℕ
all_marks d = map (λ t. t.mark) d.tasks ++ flat_map marks_in (bodies_of d)

-- how many nodes of a target and of a statement stand in one another
abbrev mutual
  pub target_depth : Lvalue → ℕ
  target_depth (ToVariable v) = 1
  target_depth (ToPart v r) = suc (range_depth r)
  target_depth (ToWord v i) = suc (depth i)
  target_depth (ToWordPart v i r) = suc (max (depth i) (range_depth r))
  target_depth (Both a b) = suc (max (target_depth a) (parts_depth b))
  target_depth Nowhere = 1

  -- the parts of a concatenation stand beside one another
  pub parts_depth : Lvalue → ℕ
  parts_depth (Both a b) = max (target_depth a) (parts_depth b)
  parts_depth t = 0

abbrev pub deepest : List ℕ → ℕ
deepest [] = 0
deepest (n ∷ ns) = max n (deepest ns)

abbrev pub own_depth : Statement → ℕ
own_depth x = max (deepest (map depth (own_expressions x))) (deepest (map target_depth (own_targets x)))

abbrev pub statement_depth : Statement → ℕ
statement_depth Skip = 0
statement_depth (Seq a b) = max (statement_depth a) (statement_depth b)
statement_depth (Arm on labels body others) = max (statement_depth body) (statement_depth others)
statement_depth (Block at mark body) = suc (statement_depth body)
statement_depth (If at test a b) = suc (max (depth test) (max (statement_depth a) (statement_depth b)))
statement_depth (Case at on arms) = suc (max (own_depth (Case at on arms)) (statement_depth arms))
statement_depth (For at v first test next body) = suc (max (own_depth (For at v first test next body)) (statement_depth body))
statement_depth (While at test body) = suc (max (depth test) (statement_depth body))
statement_depth (Repeat at count body) = suc (max (depth count) (statement_depth body))
statement_depth (Forever at body) = suc (statement_depth body)
statement_depth x = suc (own_depth x)

-- ---- statements

-- each arm stands in a `case`; `inner` is up for what a `case` has
abbrev pub arms_fit : Bool → Statement → Bool
arms_fit inner (Seq a b) = arms_fit false a && arms_fit false b
arms_fit inner (Block at mark body) = arms_fit false body
arms_fit inner (If at test a b) = arms_fit false a && arms_fit false b
arms_fit inner (Case at on arms) = arms_fit true arms
arms_fit inner (Arm on labels body others) = inner && arms_fit false body && arms_fit true others
arms_fit inner (For at v first test next body) = arms_fit false body
arms_fit inner (While at test body) = arms_fit false body
arms_fit inner (Repeat at count body) = arms_fit false body
arms_fit inner (Forever at body) = arms_fit false body
arms_fit inner x = true

-- an argument is as wide as the formal of its place at least
abbrev pub FitsFormal : Flat → ℕ × Expr → Type 0
FitsFormal d x = (w : ℕ) × IsPlainVariable d x.0 w × (w ≤ width x.1)

abbrev pub FitsPort : Port × Expr → Type 0
FitsPort x = x.0.width ≤ width x.1

abbrev pub FitsTask : Flat → List Expr → Option FlatTask → Type 0
FitsTask d ins None = ⊥
FitsTask d ins (Some t) = All (FitsFormal d) (zip t.ins ins)

abbrev pub FitsImport : List Expr → Option Import → Type 0
FitsImport ins None = ⊥
FitsImport ins (Some f) = All FitsPort (zip f.ins ins)

-- the arms of a `case` have its expression
abbrev pub ChooseBy : Expr → Statement → Type 0
ChooseBy on (Arm e labels body others) = (e ≡ on) × ChooseBy on others
ChooseBy on s = Unit {0}

-- what a statement itself keeps beside its expressions and targets
abbrev pub FitsStatement : Flat → Statement → Type 0
FitsStatement d (Assign at to e held) = (w : ℕ) × IsTarget d to w × IsWidth w × (w ≤ width e)
FitsStatement d (Case at on arms) = All (λ l. width l ≡ width on) (labels_in arms) × ChooseBy on arms
FitsStatement d (For at v first test next body) = (w : ℕ) × IsPlainVariable d v w × (w ≤ width first) × (w ≤ width next)
FitsStatement d (Enable at t ins outs) = FitsTask d ins (slice_get d.tasks t)
-- a wait is on the rising edge of the clock
FitsStatement d (Wait at falling) = falling ≡ false
FitsStatement d (Disable at m) = Contains (all_marks d) m
FitsStatement d (Host at f ins result outs) = FitsImport ins (slice_get d.imports f) × IfSome result (λ t. (w : ℕ) × IsTarget d t w × IsWidth w)
FitsStatement d x = Unit {0}

pub record IsStatement (d : Flat) (x : Statement) : Type 0 where
  pub expressions : All (IsExpr d) (own_expressions x)
  pub outputs : All (IsOutput d) (own_targets x)
  pub fits : FitsStatement d x

-- ---- variables of functions

abbrev pub variables_at : Statement → List ℕ
variables_at x = flat_map variables_in (own_expressions x) ++ flat_map target_variables (own_targets x)

-- what isn't a function's body names none of its formals, locals and its result
pub record KeepsToItself (d : Flat) (f : ℕ) (g : FlatFunc) : Type 0 where
  pub there : All (λ v. (w : ℕ) × IsPlainVariable d v w) (variables_of g)
  pub distinct : AllPairs (λ a b. a ≢ b) (variables_of g)
  pub processes : (p : FlatProc) (x : Statement) (v : ℕ) → Contains d.procs p → Holds p.body x → Contains (variables_at x) v → Contains (variables_of g) v → ⊥
  pub tasks : (t : FlatTask) (x : Statement) (v : ℕ) → Contains d.tasks t → Holds t.body x → Contains (variables_at x) v → Contains (variables_of g) v → ⊥
  pub formals : (t : FlatTask) (v : ℕ) → Contains d.tasks t → Contains (t.ins ++ t.outs) v → Contains (variables_of g) v → ⊥
  pub functions : (i : ℕ) (h : FlatFunc) (x : Statement) (v : ℕ) → slice_get d.funcs i ≡ Some h → i ≢ f → Holds h.body x → Contains (variables_at x) v → Contains (variables_of g) v → ⊥
  pub others : (i : ℕ) (h : FlatFunc) (v : ℕ) → slice_get d.funcs i ≡ Some h → i ≢ f → Contains (variables_of h) v → Contains (variables_of g) v → ⊥
  pub pins : (pin : Pin) (v : ℕ) → Contains d.outputs pin → pin.from ≡ sources.Var v → Contains (variables_of g) v → ⊥
  pub nets : (n : FlatNet) (e : Expr) (v : ℕ) → Contains d.nets n → n.value ≡ Some e → Contains (variables_in e) v → Contains (variables_of g) v → ⊥

-- ---- the lists

-- a variable's width and its start value's are one, and it is in range
pub record IsVariable (v : Var) : Type 0 where
  pub wide : IsWidth v.width
  pub start : v.start.width ≡ v.width
  pub fits : v.start.value < 2 ^ v.start.width
  pub bits : v.lsb + v.width ≤ 65536
  pub places : v.low + v.words ≤ 65536

pub record IsFlatNet (d : Flat) (n : FlatNet) : Type 0 where
  pub wide : IsWidth n.width
  pub bits : n.lsb + n.width ≤ 65536
  pub value : IfSome n.value (λ e. IsExpr d e × (n.width ≤ width e))

abbrev pub ArePorts : List Port → Type 0
ArePorts ps = All (λ p. IsWidth p.width) ps

-- at most 16 inputs, and 16 outputs with the result
pub record IsImport (f : Import) : Type 0 where
  pub ins : ArePorts f.ins
  pub outs : ArePorts f.outs
  pub result : IfSome f.result (λ p. IsWidth p.width)
  pub few_ins : length f.ins ≤ 16
  pub few_outs : length (listed f.result) + length f.outs ≤ 16

abbrev pub HasSource : Flat → Pin → Type 0
HasSource d pin = source pin.from where
  source : Source → Type 0
  source (sources.Var v) = (w : ℕ) × IsPlainVariable d v w
  source (sources.Net n) = (w : ℕ) × IsNet d n w

-- an input pin's net is there and has no expression
abbrev pub IsInput : Flat → ℕ → Type 0
IsInput d n = (net : FlatNet) × (slice_get d.nets n ≡ Some net) × (net.value ≡ None)

pub record IsSound (d : Flat) : Type 0 where
  pub vars : All IsVariable d.vars
  pub nets : All (IsFlatNet d) d.nets
  pub imports : All IsImport d.imports
  pub tasks : All (λ t. All (λ v. (w : ℕ) × IsPlainVariable d v w) (t.ins ++ t.outs)) d.tasks
  pub funcs : (f : ℕ) (g : FlatFunc) → slice_get d.funcs f ≡ Some g → KeepsToItself d f g
  pub statements : (s x : Statement) → Contains (bodies_of d) s → Holds s x → IsStatement d x
  pub arms : All (λ s. arms_fit false s ≡ true) (bodies_of d)
  pub shallow : All (λ s. statement_depth s ≤ max_depth) (bodies_of d)
  pub marks_below : All (λ m. m < d.marks) (all_marks d)
  pub marks_distinct : AllPairs (λ a b. a ≢ b) (all_marks d)
  pub inputs : All (IsInput d) d.inputs
  pub inputs_once : AllPairs (λ a b. a ≢ b) d.inputs
  pub outputs : All (HasSource d) d.outputs
