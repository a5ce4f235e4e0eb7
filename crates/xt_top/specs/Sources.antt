-- The source of a command: its text, its tokens, its tree and its flat design. All of it is this project's own.
use Rattle.std.specs.Prelude.{◌≡◌, ℕ, true, List, Result, Ok}
use Rattle.xt_base.specs.Outside.{Held}
use Rattle.vl_pre.specs.Text.{Expanded}
use Rattle.vl_pre.specs.Files.{Reading, Stop, source_expansion}
use Rattle.vl_lex.specs.Tokens.{AreTokens}
use Rattle.vl_lex.specs.Views.{places_of, spellings_of}
use Rattle.vl_lex.specs.declared.kinds.Token.{Token}
use Rattle.vl_tree.specs.Modules.{IsSource}
use Rattle.vl_tree.specs.declared.modules.Tree.{Tree}
use Rattle.vl_expr.specs.Terminals.{terminals_of}
use Rattle.vl_expr.specs.Reading as reads
use Rattle.vl_parse.specs.Modules as parse
use Rattle.el_design.specs.declared.designs.Design.{Design}
use Rattle.xt_compile.specs.declared.first.source.Source.{Source}
use Rattle.xt_compile.specs.first.Flatten.{design_of}
use Rattle.xt_compile.specs.first.Source.{waits}
use Rattle.xt_compile.specs.first.Tree.{IsForm}
use Rattle.xt_top.specs.Command.{SourceWords}

-- the expanded text of a source over the files that are held, or why there is none
abbrev pub expanded : Held → SourceWords → Result Reading Stop
expanded h s = source_expansion h s.file s.defines

-- a tree of tokens of a text is at most so deep
abbrev pub most_depth : ℕ
most_depth = 128

-- a tree of tokens of a text
abbrev pub IsTreeOf : Expanded → List Token → Tree → Type 0
IsTreeOf text ts tree = IsSource (terminals_of text.bytes ts) (spellings_of text.bytes ts) most_depth tree

-- what reading the tokens of a text from left to right comes to: their tree, or the number of the token at which it stops
abbrev pub read_from : Expanded → List Token → reads.Reading Tree
read_from text ts = parse.source_of (terminals_of text.bytes ts) (spellings_of text.bytes ts) most_depth

-- the tokens of a text and the tree of these tokens; a text has at most one of each
pub record HasTree (text : Expanded) (ts : List Token) (tree : Tree) : Type 0 where
  pub are_tokens : AreTokens text.bytes ts
  pub is_tree : IsTreeOf text ts tree

-- a source of the form, with the module and the clock that the words name
abbrev pub IsFormOf : Expanded → SourceWords → List Token → Tree → Source → Type 0
IsFormOf text s ts tree source = IsForm (terminals_of text.bytes ts) (spellings_of text.bytes ts) (places_of text ts) s.top s.clock tree source

-- a text is a source of the form whose process waits: it breaks no rule
pub record Accepts (text : Expanded) (s : SourceWords) (source : Source) : Type 0 where
  pub tokens : List Token
  pub tree : Tree
  pub has_tree : HasTree text tokens tree
  pub form : IsFormOf text s tokens tree source
  pub waits : waits source ≡ true

-- the flat design of a source over the files that are held; there is one exactly where the source breaks no rule and misses no file
pub record IsSourceOf (h : Held) (s : SourceWords) (d : Design) : Type 0 where
  pub reading : Reading
  pub expands : expanded h s ≡ Ok reading
  pub source : Source
  pub accepts : Accepts reading.text s source
  pub flat : d ≡ design_of source
