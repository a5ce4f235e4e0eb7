-- What is known of the names of a source. All of it is this project's own.
use Rattle.std.specs.Prelude.{ℕ, Bool, true, false, List, [], ◌∷◌, slice_index_or, bytes_eq}
use Rattle.xt_base.specs.declared.refusals.Place.{Place}
use Rattle.xt_base.specs.declared.refusals.Refusal.{Refusal}
use Rattle.vl_lex.specs.declared.kinds.Token.{Token}
use Rattle.vl_lex.specs.Views.{spellings_of, places_of}
use Rattle.vl_pre.specs.Text.{Expanded}
use Rattle.vl_tree.specs.declared.modules.Tree.{Tree}
use Rattle.vl_names.specs.declared.kinds.Declaration.{Declaration}
use Rattle.vl_names.specs.Declarations.{tree_declares}

-- the files that places name, what each token spells, where it stands, and all declarations in the order of the text
pub record SymbolTable : Type 0 where
  pub files : List (List ℕ)
  pub names : List (List ℕ)
  pub places : List Place
  pub declarations : List Declaration

-- the table of declarations over the tokens of a text
abbrev pub table_with : Expanded → List Token → List Declaration → SymbolTable
table_with text tokens ds =
    record { files = text.names; names = spellings_of text.bytes tokens; places = places_of text tokens; declarations = ds }

-- the table of a source
abbrev pub table_of : Expanded → List Token → Tree → SymbolTable
table_of text tokens tree = table_with text tokens (tree_declares tree)

-- what the token with this number spells
abbrev pub spelled : SymbolTable → ℕ → List ℕ
spelled t at = slice_index_or t.names at []

abbrev pub spells : SymbolTable → ℕ → List ℕ → Bool
spells t at name = bytes_eq (spelled t at) name

abbrev pub no_place : Place
no_place = record { file = 0; line = 0; instance = 0 }

-- the break of the rule with this number at a token; the rules on names look at each module once, as instance 0
abbrev pub break_at : SymbolTable → ℕ → ℕ → Refusal
break_at t at rule = record { rule = record { 0 = rule }; place = slice_index_or t.places at no_place }

abbrev pub only_if : {X : Type 0} → Bool → X → List X
only_if false x = []
only_if true x = x ∷ []
