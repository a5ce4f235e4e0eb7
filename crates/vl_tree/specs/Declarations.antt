-- Ranges, types and local variables (IEEE 1364-2005, A.2).
use Rattle.std.specs.Prelude.{ℕ, ◌+◌, List, Option, Bool}
use Rattle.vl_tree.specs.declared.terminals.Terminal.{Terminal}
use Rattle.vl_tree.specs.declared.terminals.Terminal.TheVariants as lex
use Rattle.vl_tree.specs.declared.exprs.Expr.{Expr}
use Rattle.vl_tree.specs.declared.modules.Range.{Range}
use Rattle.vl_tree.specs.declared.modules.Ptype.{Ptype}
use Rattle.vl_tree.specs.declared.modules.Ptype.TheVariants as ptype
use Rattle.vl_tree.specs.declared.routines.Local.{Local}
use Rattle.vl_tree.specs.declared.routines.Local.TheVariants as local
use Rattle.vl_tree.specs.Places.{At}
use Rattle.vl_tree.specs.Lists.{Commas, Maybe, Flag, Name}
use Rattle.vl_tree.specs.Expressions.{IsExpr}

-- range = "[" expr ":" expr "]"
pub data IsRange (ls : List Terminal) (n : ℕ) : ℕ → ℕ → Range → Type 0 where
  range : {i j k : ℕ} {a b : Expr} →
      At ls i lex.OpenBracket → IsExpr ls n (i + 1) j a → At ls j lex.Colon →
      IsExpr ls n (j + 1) k b → At ls k lex.CloseBracket →
      IsRange ls n i (k + 1) (record { at = i; msb = a; lsb = b })

-- ptype = [ "signed" ] [ range ] | "integer"
pub data IsPtype (ls : List Terminal) (n : ℕ) : ℕ → ℕ → Ptype → Type 0 where
  vector : {i j k : ℕ} {signed : Bool} {range : Option Range} →
      Flag ls lex.Signed i j signed → Maybe (IsRange ls n) j k range → IsPtype ls n i k (ptype.Vector i signed range)
  integer : {i : ℕ} → At ls i lex.Integer → IsPtype ls n i (i + 1) (ptype.Integer i)

-- local = "reg" [ "signed" ] [ range ] ID { "," ID } ";" | "integer" ID { "," ID } ";"
pub data IsLocal (ls : List Terminal) (n : ℕ) : ℕ → ℕ → Local → Type 0 where
  reg_local : {i j k m : ℕ} {signed : Bool} {range : Option Range} {names : List ℕ} →
      At ls i lex.Reg → Flag ls lex.Signed (i + 1) j signed → Maybe (IsRange ls n) j k range →
      Commas ls (Name ls) k m names → At ls m lex.Semicolon →
      IsLocal ls n i (m + 1) (local.Reg i signed range names)
  integer_local : {i j : ℕ} {names : List ℕ} →
      At ls i lex.Integer → Commas ls (Name ls) (i + 1) j names → At ls j lex.Semicolon →
      IsLocal ls n i (j + 1) (local.Integer i names)
