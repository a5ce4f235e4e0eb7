-- What stands in expressions, targets and statements, and what these name. All of it is this project's own.
use Rattle.std.specs.Prelude.{ℕ, Bool, true, false, List, [], ◌∷◌, ◌++◌, Option, Some, None, flat_map}
use Rattle.std.specs.List.{filter_map, list_all}
use Rattle.xt_base.specs.declared.refusals.Place.{Place}
use Rattle.el_design.specs.Plain.{Expr, Number, NetValue, Variable, MemoryWord, Select, Unary, Binary, Choice, Concat, Copies, Sign, Resize, Call, Exprs, NoExpr, More, Range, Bit, Part, Up, Down, Lvalue, ToVariable, ToPart, ToWord, ToWordPart, Both, Nowhere, Statement, Block, Assign, If, Case, Arm, For, While, Repeat, Forever, Wait, Enable, Disable, Host}

-- all nodes of an expression, itself first
abbrev mutual
  pub nodes_of : Expr → List Expr
  nodes_of (Number s b) = Number s b ∷ []
  nodes_of (NetValue s n) = NetValue s n ∷ []
  nodes_of (Variable s v) = Variable s v ∷ []
  nodes_of (MemoryWord s v i) = MemoryWord s v i ∷ nodes_of i
  nodes_of (Select s e r lsb) = Select s e r lsb ∷ nodes_of e ++ range_nodes r
  nodes_of (Unary s op e) = Unary s op e ∷ nodes_of e
  nodes_of (Binary s op a b) = Binary s op a b ∷ nodes_of a ++ nodes_of b
  nodes_of (Choice s c a b) = Choice s c a b ∷ nodes_of c ++ nodes_of a ++ nodes_of b
  nodes_of (Concat s es) = Concat s es ∷ nodes_of_all es
  nodes_of (Copies s n e) = Copies s n e ∷ nodes_of e
  nodes_of (Sign s e) = Sign s e ∷ nodes_of e
  nodes_of (Resize s e) = Resize s e ∷ nodes_of e
  nodes_of (Call s f es) = Call s f es ∷ nodes_of_all es

  pub nodes_of_all : Exprs → List Expr
  nodes_of_all NoExpr = []
  nodes_of_all (More e es) = nodes_of e ++ nodes_of_all es

  -- those of the index of a select; bounds and widths are plain numbers
  pub range_nodes : Range → List Expr
  range_nodes (Bit e) = nodes_of e
  range_nodes (Part high low) = []
  range_nodes (Up e w) = nodes_of e
  range_nodes (Down e w) = nodes_of e

-- the variable that a node names; a memory is one variable
abbrev pub variable_named : Expr → Option ℕ
variable_named (Variable s v) = Some v
variable_named (MemoryWord s v i) = Some v
variable_named e = None

abbrev pub net_named : Expr → Option ℕ
net_named (NetValue s n) = Some n
net_named e = None

-- the number that a node calls: of a function or, behind these, of an import
abbrev pub called : Expr → Option ℕ
called (Call s f es) = Some f
called e = None

abbrev pub variables_in : Expr → List ℕ
variables_in e = filter_map variable_named (nodes_of e)

abbrev pub nets_in : Expr → List ℕ
nets_in e = filter_map net_named (nodes_of e)

abbrev pub calls_in : Expr → List ℕ
calls_in e = filter_map called (nodes_of e)

abbrev pub is_fixed : Expr → Bool
is_fixed (NetValue s n) = false
is_fixed (Variable s v) = false
is_fixed (MemoryWord s v i) = false
is_fixed (Call s f es) = false
is_fixed e = true

-- an expression that names no net, variable or memory and calls nothing
abbrev pub is_constant : Expr → Bool
is_constant e = list_all is_fixed (nodes_of e)

-- ---- targets

-- the indexes in a range
abbrev pub range_indexes : Range → List Expr
range_indexes (Bit e) = e ∷ []
range_indexes (Part high low) = []
range_indexes (Up e w) = e ∷ []
range_indexes (Down e w) = e ∷ []

-- the indexes in a target
abbrev pub target_indexes : Lvalue → List Expr
target_indexes (ToVariable v) = []
target_indexes (ToPart v r) = range_indexes r
target_indexes (ToWord v i) = i ∷ []
target_indexes (ToWordPart v i r) = i ∷ range_indexes r
target_indexes (Both a b) = target_indexes a ++ target_indexes b
target_indexes Nowhere = []

-- the variables that a target stores to
abbrev pub target_variables : Lvalue → List ℕ
target_variables (ToVariable v) = v ∷ []
target_variables (ToPart v r) = v ∷ []
target_variables (ToWord v i) = v ∷ []
target_variables (ToWordPart v i r) = v ∷ []
target_variables (Both a b) = target_variables a ++ target_variables b
target_variables Nowhere = []

-- those of which it stores the whole
abbrev pub whole_variables : Lvalue → List ℕ
whole_variables (ToVariable v) = v ∷ []
whole_variables (ToPart v r) = []
whole_variables (ToWord v i) = []
whole_variables (ToWordPart v i r) = []
whole_variables (Both a b) = whole_variables a ++ whole_variables b
whole_variables Nowhere = []

-- an output argument that can't be stored to
abbrev pub is_nowhere : Lvalue → Bool
is_nowhere Nowhere = true
is_nowhere t = false

-- ---- statements

abbrev pub listed : {X : Type 0} → Option X → List X
listed None = []
listed (Some t) = t ∷ []

-- the labels of the arms of a `case`
abbrev pub labels_in : Statement → List Expr
labels_in (Arm on labels body others) = labels ++ labels_in others
labels_in s = []

-- the targets of a statement itself, without those of the statements in it; the header of a `for` has its variable
abbrev pub own_targets : Statement → List Lvalue
own_targets (Assign at to e held) = to ∷ []
own_targets (For at v first test next body) = ToVariable v ∷ []
own_targets (Enable at t ins outs) = outs
own_targets (Host at f ins result outs) = listed result ++ outs
own_targets s = []

-- the expressions of a statement itself, its targets' indexes among them; labels belong to their `case`
abbrev pub own_expressions : Statement → List Expr
own_expressions (Assign at to e held) = target_indexes to ++ e ∷ []
own_expressions (If at test a b) = test ∷ []
own_expressions (Case at on arms) = on ∷ labels_in arms
own_expressions (For at v first test next body) = first ∷ test ∷ next ∷ []
own_expressions (While at test body) = test ∷ []
own_expressions (Repeat at count body) = count ∷ []
own_expressions (Enable at t ins outs) = ins ++ flat_map target_indexes outs
own_expressions (Host at f ins result outs) = ins ++ flat_map target_indexes (listed result ++ outs)
own_expressions s = []

abbrev pub no_place : Place
no_place = record { file = 0; line = 0; instance = 0 }

-- the place of a statement; null statements and lists have none
abbrev pub place_of_statement : Statement → Place
place_of_statement (Block at mark body) = at
place_of_statement (Assign at to e held) = at
place_of_statement (If at test a b) = at
place_of_statement (Case at on arms) = at
place_of_statement (For at v first test next body) = at
place_of_statement (While at test body) = at
place_of_statement (Repeat at count body) = at
place_of_statement (Forever at body) = at
place_of_statement (Wait at falling) = at
place_of_statement (Enable at t ins outs) = at
place_of_statement (Disable at m) = at
place_of_statement (Host at f ins result outs) = at
place_of_statement s = no_place
