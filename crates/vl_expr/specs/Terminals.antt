-- What each token is for the grammar, by its kind and its bytes.
use Rattle.std.specs.Prelude.{ℕ, List, [], ◌∷◌, Option, Some, None, bytes_eq, codes, map, unwrap_or, if◌then◌else◌}
use Rattle.vl_lex.specs.declared.kinds.Kind.{Kind}
use Rattle.vl_lex.specs.declared.kinds.Kind.TheVariants as kind
use Rattle.vl_lex.specs.declared.kinds.Token.{Token}
use Rattle.vl_lex.specs.Views.{spelling}
use Rattle.vl_tree.specs.declared.terminals.Terminal.{Terminal}
use Rattle.vl_tree.specs.declared.terminals.Terminal.TheVariants as lex

-- bytes with what they stand for
abbrev pub Table : Type 0
Table = List (List ℕ × Terminal)

-- what the bytes stand for in a table
abbrev pub listed : Table → List ℕ → Option Terminal
listed [] bytes = None
listed (entry ∷ table) bytes = if bytes_eq entry.0 bytes then Some entry.1 else listed table bytes

-- the identifiers that have a meaning in an import declaration (IEEE 1800-2005, annex B)
unfoldable pub import_words : Table
import_words =
    (codes "import", lex.Import) ∷ (codes "context", lex.Context) ∷ (codes "void", lex.Void) ∷ (codes "bit", lex.Bit) ∷
    (codes "byte", lex.Byte) ∷ (codes "shortint", lex.Shortint) ∷ (codes "int", lex.Int) ∷ (codes "longint", lex.Longint) ∷ []

-- the keywords of the grammar (IEEE 1364-2005, annex B)
unfoldable pub keywords : Table
keywords =
    (codes "begin", lex.Begin) ∷ (codes "end", lex.End) ∷ (codes "if", lex.If) ∷ (codes "else", lex.Else) ∷
    (codes "input", lex.Input) ∷ (codes "output", lex.Output) ∷ (codes "reg", lex.Reg) ∷ (codes "wire", lex.Wire) ∷
    (codes "posedge", lex.Posedge) ∷ (codes "always", lex.Always) ∷ (codes "assign", lex.Assign) ∷
    (codes "module", lex.Module) ∷ (codes "endmodule", lex.Endmodule) ∷ (codes "signed", lex.Signed) ∷
    (codes "integer", lex.Integer) ∷ (codes "parameter", lex.Parameter) ∷ (codes "localparam", lex.Localparam) ∷
    (codes "case", lex.Case) ∷ (codes "endcase", lex.Endcase) ∷ (codes "default", lex.Default) ∷ (codes "for", lex.For) ∷
    (codes "while", lex.While) ∷ (codes "repeat", lex.Repeat) ∷ (codes "forever", lex.Forever) ∷
    (codes "disable", lex.Disable) ∷ (codes "task", lex.Task) ∷ (codes "endtask", lex.Endtask) ∷
    (codes "function", lex.Function) ∷ (codes "endfunction", lex.Endfunction) ∷ (codes "initial", lex.Initial) ∷
    (codes "negedge", lex.Negedge) ∷ (codes "unsigned", lex.Unsigned) ∷ []

-- the operators and punctuation (IEEE 1364-2005, 3.4 and annex A)
unfoldable pub operators : Table
operators =
    (codes ";", lex.Semicolon) ∷ (codes ",", lex.Comma) ∷ (codes "(", lex.OpenParen) ∷ (codes ")", lex.CloseParen) ∷
    (codes "[", lex.OpenBracket) ∷ (codes "]", lex.CloseBracket) ∷ (codes ":", lex.Colon) ∷ (codes "=", lex.Equals) ∷
    (codes "<=", lex.LessEqual) ∷ (codes "+", lex.Plus) ∷ (codes "-", lex.Minus) ∷ (codes "{", lex.OpenBrace) ∷
    (codes "}", lex.CloseBrace) ∷ (codes "@", lex.AtSign) ∷ (codes ".", lex.Dot) ∷ (codes "#", lex.Hash) ∷
    (codes "?", lex.Question) ∷ (codes "&", lex.Ampersand) ∷ (codes "|", lex.Bar) ∷ (codes "^", lex.Caret) ∷
    (codes "~", lex.Tilde) ∷ (codes "!", lex.Bang) ∷ (codes "<", lex.Less) ∷ (codes ">", lex.Greater) ∷
    (codes "*", lex.Star) ∷ (codes "/", lex.Slash) ∷ (codes "%", lex.Percent) ∷ (codes "==", lex.Equal) ∷
    (codes "!=", lex.NotEqual) ∷ (codes ">=", lex.GreaterEqual) ∷ (codes "&&", lex.DoubleAmpersand) ∷
    (codes "||", lex.DoubleBar) ∷ (codes "<<", lex.ShiftLeft) ∷ (codes ">>", lex.ShiftRight) ∷
    (codes "+:", lex.PlusColon) ∷ (codes "-:", lex.MinusColon) ∷ (codes "~&", lex.TildeAmpersand) ∷
    (codes "~|", lex.TildeBar) ∷ (codes "~^", lex.TildeCaret) ∷ (codes "^~", lex.TildeCaret) ∷
    (codes "===", lex.CaseEqual) ∷ (codes "!==", lex.CaseNotEqual) ∷ (codes "<<<", lex.ArithmeticLeft) ∷
    (codes ">>>", lex.ArithmeticRight) ∷ []

-- the strings that an import declaration has (IEEE 1800-2005, A.2.6)
unfoldable pub imports : Table
imports = (codes "\"DPI-C\"", lex.Dpi) ∷ (codes "\"DPI\"", lex.Dpi) ∷ []

-- the system functions of the grammar (IEEE 1364-2005, 5.5)
unfoldable pub signs : Table
signs = (codes "$signed", lex.ToSigned) ∷ (codes "$unsigned", lex.ToUnsigned) ∷ []

-- what a token of a kind is for the grammar
abbrev pub terminal_of : Kind → List ℕ → Terminal
terminal_of kind.Word bytes = unwrap_or (listed import_words bytes) lex.Identifier
terminal_of kind.Reserved bytes = unwrap_or (listed keywords bytes) lex.Other
terminal_of kind.Decimal bytes = lex.Decimal
terminal_of kind.Based bytes = lex.Based
terminal_of kind.Quoted bytes = unwrap_or (listed imports bytes) lex.Other
terminal_of kind.Operator bytes = unwrap_or (listed operators bytes) lex.Other
terminal_of kind.System bytes = unwrap_or (listed signs bytes) lex.Other

-- the tokens of a text as the grammar sees them
abbrev pub terminals_of : List ℕ → List Token → List Terminal
terminals_of text ts = map (λ t. terminal_of t.kind (spelling text t)) ts
