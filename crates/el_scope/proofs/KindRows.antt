-- Which names may stand where: each row of the table of kinds with its neighbours, worked by hand.
use Rattle.std.proofs.Common.{◌≡◌, ℕ, Bool, List, [], ◌∷◌, Option, Some, None, false, true, refl}
use Rattle.std.specs.Prelude.{codes}
use Rattle.vl_tree.specs.declared.modules.Direction.TheVariants as direction
use Rattle.vl_tree.specs.declared.routines.Fdir.TheVariants as fdir
use Rattle.vl_names.specs.Declarations.{inner, definitions, integers_declare, formal_ranged}
use Rattle.el_scope.specs.Kinds.{may_stand}
use Rattle.el_scope.specs.Naming.{mention_breaks, is_late}
use Rattle.el_scope.specs.Table.{SymbolTable}
use Rattle.xt_base.specs.declared.refusals.Refusal.{Refusal}
use Rattle.vl_names.specs.declared.kinds.EntityKind.{EntityKind}
use Rattle.vl_names.specs.declared.kinds.EntityKind.TheVariants as kind
use Rattle.vl_names.specs.declared.kinds.Mention.TheVariants.{Stands, Ends, Instantiates}
use Rattle.vl_names.specs.declared.kinds.Role.{Role}
use Rattle.vl_names.specs.declared.kinds.Role.TheVariants as role
use Rattle.vl_names.specs.declared.kinds.Selects.TheVariants as selects
use Rattle.el_scope.proofs.Rows.{table_of, breaks, one_function}

-- whether the name of a thing of this kind, with bits to select or without, may stand in a role outside a function of its own
abbrev may : Role → EntityKind → Bool → Bool
may r k ranged = may_stand r false (inner k 5 1 ranged)

-- ---- alone in an expression: a parameter, net or variable

reads_parameter : may (role.Read selects.Alone) kind.Param false ≡ true
reads_parameter = refl

reads_net : may (role.Read selects.Alone) kind.Net false ≡ true
reads_net = refl

reads_variable : may (role.Read selects.Alone) kind.Var false ≡ true
reads_variable = refl

reads_memory : may (role.Read selects.Alone) kind.Memory true ≡ false
reads_memory = refl

reads_task : may (role.Read selects.Alone) kind.Task false ≡ false
reads_task = refl

reads_function_outside : may (role.Read selects.Alone) kind.Function false ≡ false
reads_function_outside = refl

reads_result_inside : may_stand (role.Read selects.Alone) true (inner kind.Function 5 1 false) ≡ true
reads_result_inside = refl

reads_module : may (role.Read selects.Alone) kind.Module false ≡ false
reads_module = refl

-- ---- with one select: a net or variable with bits to select; a memory with a plain index; a result with bits to select

selects_net : may (role.Read selects.Index) kind.Net true ≡ true
selects_net = refl

selects_net_of_one_bit : may (role.Read selects.Index) kind.Net false ≡ false
selects_net_of_one_bit = refl

selects_part_of_variable : may (role.Read selects.Part) kind.Var true ≡ true
selects_part_of_variable = refl

selects_parameter : may (role.Read selects.Index) kind.Param true ≡ false
selects_parameter = refl

selects_word : may (role.Read selects.Index) kind.Memory false ≡ true
selects_word = refl

selects_words : may (role.Read selects.Part) kind.Memory true ≡ false
selects_words = refl

selects_result : may_stand (role.Read selects.Index) true (inner kind.Function 5 1 true) ≡ true
selects_result = refl

selects_result_of_one_bit : may_stand (role.Read selects.Index) true (inner kind.Function 5 1 false) ≡ false
selects_result_of_one_bit = refl

-- ---- with two: a memory whose words have a range

selects_bit_of_word : may (role.Read selects.Two) kind.Memory true ≡ true
selects_bit_of_word = refl

selects_bit_of_word_of_one_bit : may (role.Read selects.Two) kind.Memory false ≡ false
selects_bit_of_word_of_one_bit = refl

selects_bit_of_bit : may (role.Read selects.Two) kind.Var true ≡ false
selects_bit_of_bit = refl

-- ---- the target of an assignment in a process, and the variable of a `for`

stores_variable : may (role.Stored selects.Alone) kind.Var false ≡ true
stores_variable = refl

stores_net : may (role.Stored selects.Alone) kind.Net false ≡ false
stores_net = refl

stores_parameter : may (role.Stored selects.Alone) kind.Param false ≡ false
stores_parameter = refl

stores_memory : may (role.Stored selects.Alone) kind.Memory true ≡ false
stores_memory = refl

stores_word : may (role.Stored selects.Index) kind.Memory true ≡ true
stores_word = refl

stores_part_of_word : may (role.Stored selects.Two) kind.Memory true ≡ true
stores_part_of_word = refl

stores_result : may_stand (role.Stored selects.Alone) true (inner kind.Function 5 1 false) ≡ true
stores_result = refl

stores_function_outside : may (role.Stored selects.Alone) kind.Function false ≡ false
stores_function_outside = refl

counts_variable : may role.Counted kind.Var false ≡ true
counts_variable = refl

counts_memory : may role.Counted kind.Memory true ≡ false
counts_memory = refl

-- ---- the target of `assign`, calls, statements, waits

drives_net : may role.Driven kind.Net false ≡ true
drives_net = refl

drives_variable : may role.Driven kind.Var false ≡ false
drives_variable = refl

calls_function : may role.Called kind.Function false ≡ true
calls_function = refl

calls_import : may role.Called kind.Import false ≡ true
calls_import = refl

calls_task : may role.Called kind.Task false ≡ false
calls_task = refl

enables_task : may role.Enabled kind.Task false ≡ true
enables_task = refl

enables_import : may role.Enabled kind.Import false ≡ true
enables_import = refl

enables_function : may role.Enabled kind.Function false ≡ false
enables_function = refl

enables_block : may role.Enabled kind.Block false ≡ false
enables_block = refl

waits_for_net : may role.Waited kind.Net false ≡ true
waits_for_net = refl

waits_for_variable : may role.Waited kind.Var false ≡ false
waits_for_variable = refl

-- ---- what is no value

reads_instance : may (role.Read selects.Alone) kind.Instance false ≡ false
reads_instance = refl

reads_import : may (role.Read selects.Alone) kind.Import false ≡ false
reads_import = refl

reads_block : may (role.Read selects.Alone) kind.Block false ≡ false
reads_block = refl

drives_parameter : may role.Driven kind.Param false ≡ false
drives_parameter = refl

drives_memory : may role.Driven kind.Memory true ≡ false
drives_memory = refl

-- ---- `integer` has bits to select, a formal of it too

integer_is_ranged : integers_declare 1 (record { at = 5; name = 5; value = None } ∷ []) ≡ inner kind.Var 5 1 true ∷ []
integer_is_ranged = refl

formal_integer_is_ranged : formal_ranged (Some (fdir.Integer 5 direction.Input)) ≡ true
formal_integer_is_ranged = refl

formal_of_one_bit : formal_ranged (Some (fdir.Vector 5 direction.Input false false None)) ≡ false
formal_of_one_bit = refl

-- ---- in a constant of a declaration a parameter is declared before

declared_before : is_late (Some 6) (inner kind.Param 5 1 false) ≡ false
declared_before = refl

own_value : is_late (Some 5) (inner kind.Param 5 1 false) ≡ true
own_value = refl

declared_later : is_late (Some 4) (inner kind.Param 5 1 false) ≡ true
declared_later = refl

elsewhere : is_late None (inner kind.Param 5 1 false) ≡ false
elsewhere = refl

-- ---- names by their tokens: `m` with a net w, a variable fifo, a task t with a block b in it; and a module fifo. Tokens 7 to 11 are names
-- that stand somewhere in m.

abbrev known : SymbolTable
known = table_of
    (codes "module" ∷ codes "m" ∷ codes "w" ∷ codes "fifo" ∷ codes "t" ∷ codes "b" ∷ codes "fifo" ∷
    codes "fifo" ∷ codes "none" ∷ codes "w" ∷ codes "t" ∷ codes "b" ∷ [])
    (inner kind.Module 1 definitions false ∷ inner kind.Net 2 1 false ∷ inner kind.Var 3 1 false ∷ inner kind.Task 4 1 false ∷
    inner kind.Block 5 4 false ∷ inner kind.Module 6 definitions false ∷ [])

-- a module is looked for in its own name space
instance_of_module : mention_breaks known (Instantiates 7 1) ≡ []
instance_of_module = refl

instance_of_nothing : mention_breaks known (Instantiates 8 1) ≡ breaks 30 8 ∷ []
instance_of_nothing = refl

instance_of_net : mention_breaks known (Instantiates 9 1) ≡ breaks 33 9 ∷ []
instance_of_net = refl

-- elsewhere the scopes come first
read_of_variable : mention_breaks known (Stands 7 (role.Read selects.Alone) (record { scope = 1; before = None })) ≡ []
read_of_variable = refl

read_of_nothing : mention_breaks known (Stands 8 (role.Read selects.Alone) (record { scope = 1; before = None })) ≡ breaks 30 8 ∷ []
read_of_nothing = refl

read_of_task : mention_breaks known (Stands 10 (role.Read selects.Alone) (record { scope = 1; before = None })) ≡ breaks 33 10 ∷ []
read_of_task = refl

-- `disable t`, `disable t.b`, `disable b` outside of t, `disable t.none`, `disable w.none`, `disable b` in t
end_of_task : mention_breaks known (Ends (10 ∷ []) 1) ≡ []
end_of_task = refl

end_of_block_by_path : mention_breaks known (Ends (10 ∷ 11 ∷ []) 1) ≡ []
end_of_block_by_path = refl

end_of_block_outside : mention_breaks known (Ends (11 ∷ []) 1) ≡ breaks 30 11 ∷ []
end_of_block_outside = refl

end_of_nothing_by_path : mention_breaks known (Ends (10 ∷ 8 ∷ []) 1) ≡ breaks 30 8 ∷ []
end_of_nothing_by_path = refl

end_of_net_by_path : mention_breaks known (Ends (9 ∷ 8 ∷ []) 1) ≡ breaks 33 9 ∷ []
end_of_net_by_path = refl

end_of_outer_task_by_path : mention_breaks known (Ends (10 ∷ 10 ∷ []) 4) ≡ breaks 30 10 ∷ []
end_of_outer_task_by_path = refl

end_of_block_inside : mention_breaks known (Ends (11 ∷ []) 4) ≡ []
end_of_block_inside = refl

abbrev with_variable : SymbolTable
with_variable = table_of (codes "module" ∷ codes "m" ∷ codes "t" ∷ codes "v" ∷ codes "v" ∷ [])
    (inner kind.Module 1 definitions false ∷ inner kind.Task 2 1 false ∷ inner kind.Var 3 2 false ∷ [])

-- `disable t.v` of a variable v of the task t
end_of_variable_by_path : mention_breaks with_variable (Ends (2 ∷ 4 ∷ []) 1) ≡ breaks 33 4 ∷ []
end_of_variable_by_path = refl

-- ---- names of parameters: `module m; parameter P = 1;` and P at token 3

abbrev with_parameter : SymbolTable
with_parameter = table_of (codes "module" ∷ codes "m" ∷ codes "P" ∷ codes "P" ∷ []) (inner kind.Module 1 definitions false ∷ inner kind.Param 2 1 false ∷ [])

abbrev parameter_before : Option ℕ → List Refusal
parameter_before limit = mention_breaks with_parameter (Stands 3 (role.Read selects.Alone) (record { scope = 1; before = limit }))

parameter_declared_before : parameter_before (Some 3) ≡ []
parameter_declared_before = refl

parameter_in_own_value : parameter_before (Some 2) ≡ breaks 30 3 ∷ []
parameter_in_own_value = refl

parameter_declared_later : parameter_before (Some 1) ≡ breaks 30 3 ∷ []
parameter_declared_later = refl

parameter_where_none_rests_on_it : parameter_before None ≡ []
parameter_where_none_rests_on_it = refl

-- ---- the own name of a function: in it, in a block of it, outside, and where a formal has it

abbrev result_read : List ℕ → ℕ → List Refusal
result_read formal scope = mention_breaks (one_function formal) (Stands 26 (role.Read selects.Alone) (record { scope = scope; before = None }))

result_in_function : result_read (codes "a") 7 ≡ []
result_in_function = refl

result_in_block : result_read (codes "a") 15 ≡ []
result_in_block = refl

result_outside : result_read (codes "a") 1 ≡ breaks 33 26 ∷ []
result_outside = refl

formal_in_its_place : result_read (codes "f") 7 ≡ []
formal_in_its_place = refl
