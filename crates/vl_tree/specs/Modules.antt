-- Modules, their headers and their items, and the source (IEEE 1364-2005, A.1 to A.4).
use Rattle.std.specs.Prelude.{◌≡◌, ◌&&◌, ◌||◌, ℕ, ◌+◌, List, [], ◌∷◌, Option, Some, None, Bool, true, false, is_none, length}
use Rattle.vl_tree.specs.declared.terminals.Terminal.{Terminal}
use Rattle.vl_tree.specs.declared.terminals.Terminal.TheVariants as lex
use Rattle.vl_tree.specs.declared.exprs.Expr.{Expr}
use Rattle.vl_tree.specs.declared.modules.Tree.{Tree}
use Rattle.vl_tree.specs.declared.modules.Module.{Module}
use Rattle.vl_tree.specs.declared.modules.Pdecl.{Pdecl}
use Rattle.vl_tree.specs.declared.modules.Ptype.{Ptype}
use Rattle.vl_tree.specs.declared.modules.Port.{Port}
use Rattle.vl_tree.specs.declared.modules.Dir.{Dir}
use Rattle.vl_tree.specs.declared.modules.Dir.TheVariants as dir
use Rattle.vl_tree.specs.declared.modules.Direction.{Direction}
use Rattle.vl_tree.specs.declared.modules.Range.{Range}
use Rattle.vl_tree.specs.declared.modules.Item.{Item}
use Rattle.vl_tree.specs.declared.modules.Item.TheVariants as item
use Rattle.vl_tree.specs.declared.modules.ParamWord.{ParamWord}
use Rattle.vl_tree.specs.declared.modules.ParamWord.TheVariants as word
use Rattle.vl_tree.specs.declared.modules.Binding.{Binding}
use Rattle.vl_tree.specs.declared.modules.Declared.{Declared}
use Rattle.vl_tree.specs.declared.modules.Rname.{Rname}
use Rattle.vl_tree.specs.declared.modules.Rname.TheVariants as rname
use Rattle.vl_tree.specs.declared.modules.Instance.{Instance}
use Rattle.vl_tree.specs.declared.modules.Conns.{Conns}
use Rattle.vl_tree.specs.declared.modules.Conns.TheVariants as conns
use Rattle.vl_tree.specs.declared.modules.Named.{Named}
use Rattle.vl_tree.specs.declared.routines.Task.{Task}
use Rattle.vl_tree.specs.declared.routines.Function.{Function}
use Rattle.vl_tree.specs.declared.routines.Import.{Import}
use Rattle.vl_tree.specs.declared.statements.Stmt.{Stmt}
use Rattle.vl_tree.specs.Places.{At, IsName}
use Rattle.vl_tree.specs.Lists.{Commas, MaybeCommas, Many, Maybe, Flag, first_led}
use Rattle.vl_tree.specs.Expressions.{IsExpr, IsExprs}
use Rattle.vl_tree.specs.Declarations.{IsRange, IsPtype}
use Rattle.vl_tree.specs.Statements.{IsStmt}
use Rattle.vl_tree.specs.Routines.{IsDirection, IsTask, IsFunction, IsImport}

-- "=" expr
pub data IsValue (ls : List Terminal) (n : ℕ) : ℕ → ℕ → Expr → Type 0 where
  value : {i j : ℕ} {e : Expr} → At ls i lex.Equals → IsExpr ls n (i + 1) j e → IsValue ls n i j e

-- "parameter" ptype
pub data IsLead (ls : List Terminal) (n : ℕ) : ℕ → ℕ → Ptype → Type 0 where
  lead : {i j : ℕ} {t : Ptype} → At ls i lex.Parameter → IsPtype ls n (i + 1) j t → IsLead ls n i j t

-- pdecl = [ "parameter" ptype ] ID "=" expr
pub data IsPdecl (ls : List Terminal) (n : ℕ) : ℕ → ℕ → Pdecl → Type 0 where
  pdecl : {i j k : ℕ} {t : Option Ptype} {e : Expr} →
      Maybe (IsLead ls n) i j t → IsName ls j → IsValue ls n (j + 1) k e →
      IsPdecl ls n i k (record { at = i; ptype = t; name = j; value = e })

-- dir = ( "input" | "output" ) [ "wire" ] [ "signed" ] [ range ] | "output" "reg" [ "signed" ] [ range ]
pub data IsDir (ls : List Terminal) (n : ℕ) : ℕ → ℕ → Dir → Type 0 where
  net_port : {i j k m : ℕ} {d : Direction} {wire signed : Bool} {range : Option Range} →
      IsDirection ls i (i + 1) d → Flag ls lex.Wire (i + 1) j wire → Flag ls lex.Signed j k signed →
      Maybe (IsRange ls n) k m range → IsDir ls n i m (dir.Net i d wire signed range)
  reg_port : {i j k : ℕ} {signed : Bool} {range : Option Range} →
      At ls i lex.Output → At ls (i + 1) lex.Reg → Flag ls lex.Signed (i + 2) j signed →
      Maybe (IsRange ls n) j k range → IsDir ls n i k (dir.Reg i signed range)

-- port = [ dir ] ID [ "=" expr ]
pub data IsPort (ls : List Terminal) (n : ℕ) : ℕ → ℕ → Port → Type 0 where
  port : {i j k : ℕ} {d : Option Dir} {e : Option Expr} →
      Maybe (IsDir ls n) i j d → IsName ls j → Maybe (IsValue ls n) (j + 1) k e →
      IsPort ls n i k (record { at = i; dir = d; name = j; value = e })

-- whether a port's words are "output" "reg": its own, or else those before it
abbrev pub is_output_reg : Bool → Option Dir → Bool
is_output_reg before None = before
is_output_reg before (Some (dir.Net at d wire signed range)) = false
is_output_reg before (Some (dir.Reg at signed range)) = true

-- a port has "=" expr only with "output" "reg"; the first argument says whether the words before are such
abbrev pub values_fit : Bool → List Port → Bool
values_fit before [] = true
values_fit before (p ∷ ps) = (is_none p.value || is_output_reg before p.dir) && values_fit (is_output_reg before p.dir) ps

-- ID "=" expr
pub data IsBinding (ls : List Terminal) (n : ℕ) : ℕ → ℕ → Binding → Type 0 where
  binding : {i j : ℕ} {e : Expr} →
      IsName ls i → IsValue ls n (i + 1) j e → IsBinding ls n i j (record { at = i; name = i; value = e })

-- ID [ "=" expr ]
pub data IsDeclared (ls : List Terminal) (n : ℕ) : ℕ → ℕ → Declared → Type 0 where
  declared : {i j : ℕ} {e : Option Expr} →
      IsName ls i → Maybe (IsValue ls n) (i + 1) j e → IsDeclared ls n i j (record { at = i; name = i; value = e })

-- rname = ID [ "=" expr | range ]
pub data IsRname (ls : List Terminal) (n : ℕ) : ℕ → ℕ → Rname → Type 0 where
  variable : {i j : ℕ} {e : Option Expr} →
      IsName ls i → Maybe (IsValue ls n) (i + 1) j e → IsRname ls n i j (rname.Variable i i e)
  memory : {i j : ℕ} {r : Range} →
      IsName ls i → IsRange ls n (i + 1) j r → IsRname ls n i j (rname.Memory i i r)

-- named = "." ID "(" [ expr ] ")"
pub data IsNamed (ls : List Terminal) (n : ℕ) : ℕ → ℕ → Named → Type 0 where
  named : {i j : ℕ} {e : Option Expr} →
      At ls i lex.Dot → IsName ls (i + 1) → At ls (i + 2) lex.OpenParen →
      Maybe (IsExpr ls n) (i + 3) j e → At ls j lex.CloseParen →
      IsNamed ls n i (j + 1) (record { at = i; name = i + 1; value = e })

-- conns = expr { "," expr } | named { "," named }
pub data IsConns (ls : List Terminal) (n : ℕ) : ℕ → ℕ → Conns → Type 0 where
  ordered : {i j : ℕ} {es : List Expr} → IsExprs ls n i j es → IsConns ls n i j (conns.Ordered i es)
  by_name : {i j : ℕ} {all : List Named} → Commas ls (IsNamed ls n) i j all → IsConns ls n i j (conns.Named i all)

-- "#" "(" conns ")"
pub data IsOverride (ls : List Terminal) (n : ℕ) : ℕ → ℕ → Conns → Type 0 where
  override : {i j : ℕ} {c : Conns} →
      At ls i lex.Hash → At ls (i + 1) lex.OpenParen → IsConns ls n (i + 2) j c → At ls j lex.CloseParen →
      IsOverride ls n i (j + 1) c

-- ID "(" [ conns ] ")"
pub data IsInstance (ls : List Terminal) (n : ℕ) : ℕ → ℕ → Instance → Type 0 where
  «instance» : {i j : ℕ} {c : Option Conns} →
      IsName ls i → At ls (i + 1) lex.OpenParen → Maybe (IsConns ls n) (i + 2) j c → At ls j lex.CloseParen →
      IsInstance ls n i (j + 1) (record { at = i; name = i; conns = c })

-- "parameter" | "localparam"
pub data IsParamWord (ls : List Terminal) : ℕ → ℕ → ParamWord → Type 0 where
  parameter : {i : ℕ} → At ls i lex.Parameter → IsParamWord ls i (i + 1) word.Parameter
  localparam : {i : ℕ} → At ls i lex.Localparam → IsParamWord ls i (i + 1) word.Localparam

pub data IsItem (ls : List Terminal) (names : List (List ℕ)) (n : ℕ) : ℕ → ℕ → Item → Type 0 where
  -- ( "parameter" | "localparam" ) ptype ID "=" expr { "," ID "=" expr } ";"
  params : {i j k : ℕ} {w : ParamWord} {t : Ptype} {all : List Binding} →
      IsParamWord ls i (i + 1) w → IsPtype ls n (i + 1) j t → Commas ls (IsBinding ls n) j k all →
      At ls k lex.Semicolon → IsItem ls names n i (k + 1) (item.Params i w t all)
  -- "wire" [ "signed" ] [ range ] ID [ "=" expr ] { "," ID [ "=" expr ] } ";"
  wires : {i j k m : ℕ} {signed : Bool} {range : Option Range} {all : List Declared} →
      At ls i lex.Wire → Flag ls lex.Signed (i + 1) j signed → Maybe (IsRange ls n) j k range →
      Commas ls (IsDeclared ls n) k m all → At ls m lex.Semicolon →
      IsItem ls names n i (m + 1) (item.Wires i signed range all)
  -- "reg" [ "signed" ] [ range ] rname { "," rname } ";"
  regs : {i j k m : ℕ} {signed : Bool} {range : Option Range} {all : List Rname} →
      At ls i lex.Reg → Flag ls lex.Signed (i + 1) j signed → Maybe (IsRange ls n) j k range →
      Commas ls (IsRname ls n) k m all → At ls m lex.Semicolon →
      IsItem ls names n i (m + 1) (item.Regs i signed range all)
  -- "integer" ID [ "=" expr ] { "," ID [ "=" expr ] } ";"
  integers : {i j : ℕ} {all : List Declared} →
      At ls i lex.Integer → Commas ls (IsDeclared ls n) (i + 1) j all → At ls j lex.Semicolon →
      IsItem ls names n i (j + 1) (item.Integers i all)
  -- "assign" ID "=" expr { "," ID "=" expr } ";"
  assigns : {i j : ℕ} {all : List Binding} →
      At ls i lex.Assign → Commas ls (IsBinding ls n) (i + 1) j all → At ls j lex.Semicolon →
      IsItem ls names n i (j + 1) (item.Assigns i all)
  -- "always" stmt
  always : {i j : ℕ} {dangling : Bool} {s : Stmt} →
      At ls i lex.Always → IsStmt ls names n dangling (i + 1) j s → IsItem ls names n i j (item.Always i s)
  -- "initial" stmt
  initial : {i j : ℕ} {dangling : Bool} {s : Stmt} →
      At ls i lex.Initial → IsStmt ls names n dangling (i + 1) j s → IsItem ls names n i j (item.Initial i s)
  -- task
  task : {i j : ℕ} {t : Task} → IsTask ls names n i j t → IsItem ls names n i j (item.Task i t)
  -- function
  function : {i j : ℕ} {f : Function} → IsFunction ls names n i j f → IsItem ls names n i j (item.Function i f)
  -- import
  «import» : {i j : ℕ} {m : Import} → IsImport ls n i j m → IsItem ls names n i j (item.Import i m)
  -- ID [ "#" "(" conns ")" ] ID "(" [ conns ] ")" { "," ID "(" [ conns ] ")" } ";"
  instances : {i j k : ℕ} {c : Option Conns} {all : List Instance} →
      IsName ls i → Maybe (IsOverride ls n) (i + 1) j c → Commas ls (IsInstance ls n) j k all →
      At ls k lex.Semicolon → IsItem ls names n i (k + 1) (item.Instances i i c all)

-- "#" "(" pdecl { "," pdecl } ")"; the first has its leading words
pub data IsParams (ls : List Terminal) (n : ℕ) : ℕ → ℕ → List Pdecl → Type 0 where
  params_of_module : {i j : ℕ} {all : List Pdecl} →
      At ls i lex.Hash → At ls (i + 1) lex.OpenParen → Commas ls (IsPdecl ls n) (i + 2) j all →
      first_led (λ p. p.ptype) all ≡ true → At ls j lex.CloseParen → IsParams ls n i (j + 1) all

-- "(" [ port { "," port } ] ")"; the first has its leading words, and one has a value only with "output" "reg"
pub data IsPorts (ls : List Terminal) (n : ℕ) : ℕ → ℕ → List Port → Type 0 where
  ports : {i j : ℕ} {all : List Port} →
      At ls i lex.OpenParen → MaybeCommas ls (IsPort ls n) (i + 1) j all →
      first_led (λ p. p.dir) all ≡ true → values_fit false all ≡ true →
      At ls j lex.CloseParen → IsPorts ls n i (j + 1) all

-- module = "module" ID [ "#" "(" pdecl { "," pdecl } ")" ] [ "(" [ port { "," port } ] ")" ] ";" { item } "endmodule"
pub data IsModule (ls : List Terminal) (names : List (List ℕ)) (n : ℕ) : ℕ → ℕ → Module → Type 0 where
  «module» : {i j k m : ℕ} {params : Option (List Pdecl)} {ports : Option (List Port)} {items : List Item} →
      At ls i lex.Module → IsName ls (i + 1) → Maybe (IsParams ls n) (i + 2) j params →
      Maybe (IsPorts ls n) j k ports → At ls k lex.Semicolon → Many (IsItem ls names n) (k + 1) m items →
      At ls m lex.Endmodule →
      IsModule ls names n i (m + 1)
      (record { at = i; name = i + 1; params = params; ports = ports; items = items })

-- source = { module }, all of the tokens
abbrev pub IsSource : List Terminal → List (List ℕ) → ℕ → Tree → Type 0
IsSource ls names n tree = Many (IsModule ls names n) 0 (length ls) tree.modules
