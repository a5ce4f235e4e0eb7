-- The first rule that a source breaks, and its place. The order of rules is this project's own.
use Rattle.std.specs.Prelude.{◌≡◌, ℕ, false, List, Some, Ok, Err, slice_get}
use Rattle.xt_base.specs.Outside.{Held}
use Rattle.xt_base.specs.declared.refusals.Refusal.{Refusal}
use Rattle.vl_pre.specs.Text.{Expanded}
use Rattle.vl_pre.specs.Files.{Reading}
use Rattle.vl_pre.specs.Faults.{IsRefused}
use Rattle.vl_lex.specs.Refusals.{no_token}
use Rattle.vl_lex.specs.Tokens.{FailsAt, AreTokens}
use Rattle.vl_lex.specs.declared.kinds.Token.{Token}
use Rattle.vl_tree.specs.declared.modules.Tree.{Tree}
use Rattle.vl_expr.specs.Refusals.{IsNoTree}
use Rattle.xt_compile.specs.declared.first.source.Source.{Source}
use Rattle.xt_compile.specs.first.Source.{waits}
use Rattle.xt_top.specs.Command.{Request, SourceWords, source_of}
use Rattle.xt_top.specs.Loads.{AreHeld}
use Rattle.xt_top.specs.Sources.{expanded, read_from, HasTree, IsFormOf, IsTreeOf}

-- a tree that is no source of the form is refused for the file as a whole
abbrev pub not_of_form : Refusal
not_of_form = record { rule = record { 0 = 90 }; place = record { file = 0; line = 0; instance = 0 } }

-- a process without a wait is refused at its first token
abbrev pub without_wait : Source → Refusal
without_wait source = record { rule = record { 0 = 61 }; place = source.process }

-- The first rule that an expanded text breaks, in this order: no token begins at a byte, at the byte's place; its tokens have no tree, at the place of the token at which
-- reading stops; its tree is no source of the form, which is told of the file as a whole; its process has no wait, at the process's first token.
pub data FirstBreak (text : Expanded) (s : SourceWords) : Refusal → Type 0 where
  at_byte : (at : ℕ) → FailsAt text.bytes at → FirstBreak text s (no_token text at)
  at_token : (ts : List Token) → AreTokens text.bytes ts → ((tree : Tree) → IsTreeOf text ts tree → ⊥) → (stop : ℕ) → read_from text ts ≡ Err stop → (refusal : Refusal) → IsNoTree text ts stop refusal → FirstBreak text s refusal
  out_of_form : (ts : List Token) (tree : Tree) → HasTree text ts tree → ((source : Source) → IsFormOf text s ts tree source → ⊥) → FirstBreak text s not_of_form
  no_wait : (ts : List Token) (tree : Tree) (source : Source) → HasTree text ts tree → IsFormOf text s ts tree source → waits source ≡ false → FirstBreak text s (without_wait source)

-- The first rule that the source of a command breaks, with the name of the file of its place: in its expansion, or else, where all that the command takes is held, in
-- its expanded text.
pub data IsBroken (h : Held) (r : Request) : Refusal → List ℕ → Type 0 where
  in_expansion : (s : SourceWords) → source_of r ≡ Some s → (refusal : Refusal) (file : List ℕ) → IsRefused refusal file (expanded h s) → IsBroken h r refusal file
  in_text : (s : SourceWords) → source_of r ≡ Some s → AreHeld h r → (reading : Reading) → expanded h s ≡ Ok reading →
      (refusal : Refusal) → FirstBreak reading.text s refusal → (file : List ℕ) → slice_get reading.text.names refusal.place.file ≡ Some file → IsBroken h r refusal file
