-- Which syntax trees are sources of the form that is read today, and which source each of them is: one module with its ports and one `always`, whose statements are
-- clock waits and nonblocking assignments of sums (IEEE 1364-2005, 12.1, 12.3, 9.9.2, 9.7.2, 9.2.2 and clause 5). What the form leaves out is this project's own.
use Rattle.std.specs.Prelude.{◌≡◌, ◌==◌, ◌&&◌, ◌||◌, ◌+◌, ℕ, suc, nat_le, not, List, [], ◌∷◌, ◌++◌, Option, Some, None, Bool, true, false, Result, Ok, Err, get_or, slice_get, length, is_none, is_some, bytes_eq, option_map, count_by, codes, if◌then◌else◌}
use Rattle.xt_base.specs.declared.TheConstants.{MAX_WIDTH}
use Rattle.xt_base.specs.declared.refusals.Place.{Place}
use Rattle.xt_bits.specs.Word.{word}
use Rattle.nt_core.specs.Names.{is_pin_name}
use Rattle.vl_tree.specs.declared.terminals.Terminal.{Terminal}
use Rattle.vl_tree.specs.declared.terminals.Terminal.TheVariants as terminals
use Rattle.vl_tree.specs.declared.exprs.Expr.{Expr, out-Expr}
use Rattle.vl_tree.specs.declared.exprs.Expr.TheOpen as exprs
use Rattle.vl_tree.specs.declared.exprs.Expr.TheFolds.{fold-Expr}
use Rattle.vl_tree.specs.declared.exprs.Select.{Select}
use Rattle.vl_tree.specs.declared.exprs.Lvalue.{Lvalue, out-Lvalue}
use Rattle.vl_tree.specs.declared.exprs.Lvalue.TheOpen as lvalues
use Rattle.vl_tree.specs.declared.operators.BinOp.TheVariants as binary
use Rattle.vl_tree.specs.declared.modules.Tree.{Tree}
use Rattle.vl_tree.specs.declared.modules.Module.{Module}
use Rattle.vl_tree.specs.declared.modules.Range.{Range}
use Rattle.vl_tree.specs.declared.modules.Port as trees
use Rattle.vl_tree.specs.declared.modules.Dir.{Dir}
use Rattle.vl_tree.specs.declared.modules.Dir.TheVariants as dirs
use Rattle.vl_tree.specs.declared.modules.Direction.{Direction}
use Rattle.vl_tree.specs.declared.modules.Direction.TheVariants.{Input, Output}
use Rattle.vl_tree.specs.declared.modules.Item.{Item}
use Rattle.vl_tree.specs.declared.modules.Item.TheVariants as items
use Rattle.vl_tree.specs.declared.statements.Stmt.{Stmt, out-Stmt}
use Rattle.vl_tree.specs.declared.statements.Citem.TheOpen as stmts
use Rattle.vl_tree.specs.declared.statements.Citem.{Citem}
use Rattle.vl_tree.specs.declared.statements.Edge.TheVariants as edges
use Rattle.xt_compile.specs.declared.first.reader.ports.Ports.{Ports}
use Rattle.xt_compile.specs.declared.first.source.Source.{Source}
use Rattle.xt_compile.specs.declared.first.source.Port.{Port}
use Rattle.xt_compile.specs.declared.first.source.Sum.{Sum}
use Rattle.xt_compile.specs.declared.first.source.Term.{Term}
use Rattle.xt_compile.specs.declared.first.source.Term.TheVariants as terms
use Rattle.xt_compile.specs.declared.first.source.Step.{Step}
use Rattle.xt_compile.specs.declared.first.source.Step.TheVariants.{Wait, Assign}
use Rattle.xt_compile.specs.declared.first.tokens.FormError.{FormError}
use Rattle.xt_compile.specs.declared.first.tokens.FormError.TheVariants as errors
use Rattle.xt_compile.specs.first.Source.{is_wait, most_tokens}
use Rattle.vl_lex.specs.Numbers.{number_of}

-- the greatest number of operators in an expression
abbrev pub most_operators : ℕ
most_operators = 16

-- a function of the code gives what reading gives, unless memory ran out
abbrev pub Gives : {X : Type 0} → Result X FormError → Option X → Type 0
Gives (Ok x) read = read ≡ Some x
Gives (Err errors.OutOfForm) read = read ≡ None
Gives (Err errors.Memory) read = Unit {0}

infixl 10 ◌>>=◌
abbrev pub ◌>>=◌ : {A B : Type 0} → Option A → (A → Option B) → Option B
None >>= f = None
(Some x) >>= f = f x

-- the one thing in a list
abbrev pub only : {X : Type 0} → List X → Option X
only (x ∷ []) = Some x
only _ = None

-- ---- tokens

abbrev pub is_bytes : Option (List ℕ) → List ℕ → Bool
is_bytes None bytes = false
is_bytes (Some found) bytes = bytes_eq found bytes

-- what tokens spell, and where they stand
pub record Lexed : Type 0 where
  pub names : List (List ℕ)
  pub places : List Place
  -- of how many stretches the text is
  pub stretches : ℕ

-- line 0 stands for the file as a whole
abbrev pub whole_file : Place
whole_file = record { file = 0; line = 0; instance = 0 }

-- the place of the token with this number
abbrev pub place_at : List Place → ℕ → Place
place_at places at = get_or places at whole_file

-- whether the token with this number is spelled so
abbrev pub spells : List (List ℕ) → ℕ → List ℕ → Bool
spells names at bytes = is_bytes (slice_get names at) bytes

-- the number as a width in bits, if it is one
abbrev pub width_of : ℕ → Option ℕ
width_of n = if nat_le 1 n && nat_le n MAX_WIDTH then Some n else None

-- the radix of a base that the form has: `h` and `d` in either case
abbrev pub radix_of : ℕ → Option ℕ
radix_of letter = if letter == 104 || letter == 72 then Some 16 else (if letter == 100 || letter == 68 then Some 10 else None)

-- the value of a number with such a base. A quote is 39.
abbrev pub based_of : List ℕ → Option ℕ
based_of (quote ∷ letter ∷ digits) = if quote == 39 then option_map (λ radix. number_of radix digits) (radix_of letter) else None
based_of _ = None

-- ---- ports

-- the place and the width in bits of the first port of that name; the first of the ports has this place
abbrev pub found_from : ℕ → List ℕ → List Port → Option (ℕ × ℕ)
found_from at name [] = None
found_from at name (p ∷ ps) = if bytes_eq p.name name then Some (at, p.width) else found_from (at + 1) name ps

abbrev pub found : List ℕ → List Port → Option (ℕ × ℕ)
found name ps = found_from 0 name ps

-- whether the clock or another port has the name
abbrev pub is_declared : List ℕ → Ports → List ℕ → Bool
is_declared clock ps name = bytes_eq clock name || is_some (found name ps.inputs) || is_some (found name ps.outputs)

abbrev pub no_ports : Ports
no_ports = record { inputs = []; outputs = [] }

-- with one port more
abbrev pub added : Ports → Direction × Port → Ports
added ps (Input, p) = record { inputs = ps.inputs ++ p ∷ []; outputs = ps.outputs }
added ps (Output, p) = record { inputs = ps.inputs; outputs = ps.outputs ++ p ∷ [] }

-- a port whose name is a pin's and new
abbrev pub checked : List ℕ → Ports → Direction × Port → Option (Direction × Port)
checked clock ps p = if is_pin_name p.1.name && not (is_declared clock ps p.1.name) then Some p else None

abbrev pub decimal_layer : exprs.Expr-F Expr Select → Option ℕ
decimal_layer (exprs.Decimal at number) = Some number
decimal_layer _ = None

-- the token of a plain number
abbrev pub decimal_of : Expr → Option ℕ
decimal_of e = decimal_layer (out-Expr e)

abbrev pub named_port : Direction × ℕ → List ℕ → Place → Direction × Port
named_port (direction, width) name place = (direction, record { name = name; width = width; place = place })

module _ (names : List (List ℕ)) where
  abbrev pub bounds_width : ℕ → ℕ → Option ℕ
  bounds_width msb lsb = if spells names lsb (codes "0") then (slice_get names msb >>= λ bytes. width_of (suc (number_of 10 bytes))) else None

  -- the width of a range, which is 1 without one
  abbrev pub range_width : Option Range → Option ℕ
  range_width None = Some 1
  range_width (Some range) = decimal_of range.msb >>= λ msb. decimal_of range.lsb >>= λ lsb. bounds_width msb lsb

  -- the direction and the width that leading words say
  abbrev pub lead_of : Option Dir → Option (Direction × ℕ)
  lead_of (Some (dirs.Net at Input false false range)) = range_width range >>= λ width. Some (Input, width)
  lead_of (Some (dirs.Reg at false range)) = range_width range >>= λ width. Some (Output, width)
  lead_of _ = None

module _ (names : List (List ℕ)) (places : List Place) where
  -- what a port of the tree is
  abbrev pub port_of : trees.Port → Option (Direction × Port)
  port_of p = if is_none p.value then (lead_of names p.dir >>= λ lead. slice_get names p.name >>= λ name. Some (named_port lead name (place_at places p.name))) else None

  -- what it is behind these ports
  abbrev pub next_port : List ℕ → Ports → trees.Port → Option (Direction × Port)
  next_port clock ps p = port_of p >>= checked clock ps

  -- these ports and those behind them
  abbrev pub ports_from : List ℕ → Ports → List trees.Port → Option Ports
  ports_from clock ps [] = Some ps
  ports_from clock ps (p ∷ more) = next_port clock ps p >>= λ q. ports_from clock (added ps q) more

-- ---- sums

abbrev pub alone : Term → ℕ → Sum
alone term width = record { width = width; first = term; more = [] }

-- a sum and one term more
abbrev pub joined : Sum → Sum → Option Sum
joined left right = if length right.more == 0 && right.width == left.width then Some (record { width = left.width; first = left.first; more = left.more ++ right.first ∷ [] }) else None

-- the number of a width
abbrev pub sized_sum : Option ℕ → Option ℕ → Option Sum
sized_sum size value = size >>= λ width. value >>= λ n. Some (alone (terms.Number (word width n)) width)

-- the input or else the output that is found
abbrev pub port_sum : Option (ℕ × ℕ) → Option (ℕ × ℕ) → Option Sum
port_sum (Some input) output = Some (alone (terms.Input input.0) input.1)
port_sum None (Some output) = Some (alone (terms.Output output.0) output.1)
port_sum None None = None

module _ (names : List (List ℕ)) where
  abbrev pub number_sum : ℕ → ℕ → Option Sum
  number_sum size value =
      slice_get names size >>= λ bits. slice_get names value >>= λ digits.
      sized_sum (width_of (number_of 10 bits)) (based_of digits)

  abbrev pub name_sum : Ports → ℕ → Option Sum
  name_sum ps at = slice_get names at >>= λ name. port_sum (found name ps.inputs) (found name ps.outputs)

  -- the sum that an expression is, from those that its operands are
  abbrev pub sum_step : Ports → exprs.Expr-F (Option Sum) (Unit {0}) → Option Sum
  sum_step ps (exprs.Name at name []) = name_sum ps name
  sum_step ps (exprs.Based at (Some size) value) = number_sum size value
  sum_step ps (exprs.Binary at binary.Add left right) = left >>= λ a. right >>= λ b. joined a b
  sum_step ps _ = None

  abbrev pub sum_of : Ports → Expr → Option Sum
  sum_of ps = fold-Expr (Option Sum) (Unit {0}) (sum_step ps) (λ _. tt)

-- ---- steps

abbrev pub null_layer : stmts.Stmt-F Citem Stmt → Bool
null_layer (stmts.Null at) = true
null_layer _ = false

-- whether a statement is `;`
abbrev pub is_null : Stmt → Bool
is_null s = null_layer (out-Stmt s)

-- the assignment of a sum to an output, which goes by its place among the outputs and has this width
abbrev pub assign_of : Place → ℕ × ℕ → Sum → Option Step
assign_of place output sum = if sum.width == output.1 && nat_le (length sum.more) most_operators then Some (Assign place output.0 sum) else None

module _ (names : List (List ℕ)) where
  abbrev pub target_layer : Ports → lvalues.Lvalue-F Lvalue → Option (ℕ × ℕ)
  target_layer ps (lvalues.Name at name []) = slice_get names name >>= λ bytes. found bytes ps.outputs
  target_layer ps _ = None

  -- the place and the width in bits of the output that a target is
  abbrev pub target_of : Ports → Lvalue → Option (ℕ × ℕ)
  target_of ps t = target_layer ps (out-Lvalue t)

  abbrev pub assigned : Ports → Place → Lvalue → Expr → Option Step
  assigned ps place target value = target_of ps target >>= λ output. sum_of names ps value >>= assign_of place output

module _ (names : List (List ℕ)) (places : List Place) where
  abbrev pub step_layer : Ports → List ℕ → stmts.Stmt-F Citem Stmt → Option Step
  step_layer ps clock (stmts.Wait at edges.Posedge name body) = if spells names name clock && is_null body then Some (Wait (place_at places at)) else None
  step_layer ps clock (stmts.Nonblocking at target value) = assigned names ps (place_at places at) target value
  step_layer ps clock _ = None

  -- the step that a statement is
  abbrev pub step_of : Ports → List ℕ → Stmt → Option Step
  step_of ps clock s = step_layer ps clock (out-Stmt s)

  -- these steps and those of the statements behind them
  abbrev pub steps_from : Ports → List ℕ → List Step → List Stmt → Option (List Step)
  steps_from ps clock steps [] = Some steps
  steps_from ps clock steps (s ∷ more) = step_of ps clock s >>= λ step. steps_from ps clock (steps ++ step ∷ []) more

-- ---- the module

-- `input` and nothing else
abbrev pub is_plain : Option Dir → Bool
is_plain (Some (dirs.Net at Input false false None)) = true
is_plain _ = false

-- an unnamed block: the number of its first token, and its statements
abbrev pub block_layer : stmts.Stmt-F Citem Stmt → Option (ℕ × List Stmt)
block_layer (stmts.Block at None body) = Some (at, body)
block_layer _ = None

abbrev pub block_of : Stmt → Option (ℕ × List Stmt)
block_of s = block_layer (out-Stmt s)

-- a module's header: the places of its name and of the clock's, and the ports behind the clock's
abbrev pub Header : Type 0
Header = Place × Place × List trees.Port

-- a process: the places of `always` and of its block, and the block's statements
abbrev pub Process : Type 0
Process = Place × Place × List Stmt

abbrev pub source_with : List ℕ → Header → Process → Ports → List Step → Source
source_with clock header process ps steps = record {
  head = header.0;
  clock = clock;
  clock_place = header.1;
  inputs = ps.inputs;
  outputs = ps.outputs;
  process = process.0;
  block = process.1;
  steps = steps;
}

module _ (names : List (List ℕ)) where
  abbrev pub is_clock : List ℕ → trees.Port → Bool
  is_clock clock p = is_plain p.dir && is_none p.value && spells names p.name clock

module _ (names : List (List ℕ)) (places : List Place) where
  abbrev pub behind_clock : List ℕ → Place → Option (List trees.Port) → Option Header
  behind_clock clock head (Some (p ∷ ps)) = if is_clock names clock p then Some (head, place_at places p.name, ps) else None
  behind_clock clock head _ = None

  -- the header of a module of that name
  abbrev pub header_of : List ℕ → List ℕ → Module → Option Header
  header_of top clock m = if is_none m.params && spells names m.name top then behind_clock clock (place_at places m.name) m.ports else None

module _ (places : List Place) where
  abbrev pub always_of : Option Item → Option Process
  always_of (Some (items.Always at body)) = option_map (λ block. (place_at places at, place_at places block.0, block.1)) (block_of body)
  always_of _ = None

  -- an `always` alone
  abbrev pub process_of : Module → Option Process
  process_of m = always_of (only m.items)

module _ (names : List (List ℕ)) (places : List Place) where
  -- No name but those of the ports stands in the process, and no parentheses stand in an expression: of those that are opened, one pair is the ports', and each wait has one.
  abbrev pub parts_source : List ℕ → ℕ → Header → Process → Option Source
  parts_source clock opened header process =
      ports_from names places clock no_ports header.2 >>= λ ps. steps_from names places ps clock [] process.2 >>= λ steps.
      if opened == suc (count_by is_wait steps) then Some (source_with clock header process ps steps) else None

  abbrev pub module_source : List ℕ → List ℕ → ℕ → Module → Option Source
  module_source top clock opened m = header_of names places top clock m >>= λ header. process_of places m >>= λ process. parts_source clock opened header process

-- `(`
abbrev pub opens : Terminal → Bool
opens terminals.OpenParen = true
opens _ = false

-- the source that a tree is, with this module name and this clock
abbrev pub source_of : List Terminal → List (List ℕ) → List Place → List ℕ → List ℕ → Tree → Option Source
source_of ls names places top clock tree =
    if nat_le (length names) most_tokens && is_pin_name clock then (only tree.modules >>= module_source names places top clock (count_by opens ls)) else None

-- a tree is this source of the form
abbrev pub IsForm : List Terminal → List (List ℕ) → List Place → List ℕ → List ℕ → Tree → Source → Type 0
IsForm ls names places top clock tree source = source_of ls names places top clock tree ≡ Some source
