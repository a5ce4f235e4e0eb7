-- Answers over files of which each byte is written out.
use Rattle.std.proofs.Common.{◌≡◌, refl, arith, if◌then◌else◌, Bool, false, true, ℕ, List, [], ◌∷◌, Some, None}
use Rattle.std.proofs.lemmas.List.Elements.{All-nil}
use Rattle.std.specs.Prelude.{Ok, Err, codes}
use Rattle.std.specs.Fmt.{digits}
use Rattle.xt_base.specs.Outside.{Held}
use Rattle.vl_pre.specs.Directives as directives
use Rattle.vl_pre.specs.Files as files
use Rattle.vl_pre.specs.Files.{Reading, Stop}
use Rattle.vl_pre.specs.Macros.{no_macros}
use Rattle.vl_pre.specs.Pieces as pieces
use Rattle.vl_tree.specs.Lists.{end}
use Rattle.vl_tree.specs.declared.modules.Tree.{Tree}
use Rattle.nt_core.specs.Names.{is_pin_name}
use Rattle.xt_compile.specs.declared.first.source.Source.{Source}
use Rattle.xt_top.specs.declared.status.Status.TheVariants.{Refused, ReadFault}
use Rattle.xt_top.specs.Answer.{Answers, not_held, refused}
use Rattle.xt_top.specs.Breaks.{out_of_form, not_of_form, in_text}
use Rattle.xt_top.specs.Command.{SourceWords, compile, source_words}
use Rattle.xt_top.specs.Loads.{of_source}
use Rattle.xt_top.specs.Note.{refused_line}
use Rattle.xt_top.specs.Sources.{HasTree, IsFormOf, expanded}

abbrev words : List (List ℕ)
words = codes "compile" ∷ codes "m.v" ∷ codes "m" ∷ codes "clk" ∷ []

abbrev source : SourceWords
source = source_words (codes "m.v") (codes "m") (codes "clk") []

-- ---- an empty file has a tree without modules, which is no source of the form

abbrev empty : Held
empty = (codes "m.v", []) ∷ []

abbrev nothing : Reading
nothing = record { macros = no_macros; uses = 0; loads = codes "m.v" ∷ []; text = record { bytes = []; places = []; names = codes "m.v" ∷ [] } }

empty_expands : expanded empty source ≡ Ok nothing
unfolding files.source_expansion files.file_expansion pieces.end_at
empty_expands = refl

abbrev no_modules : Tree
no_modules = record { modules = [] }

empty_has_tree : HasTree nothing.text [] no_modules
empty_has_tree = record { are_tokens = record { order = omega arith; each = λ at from to. absurd (omega (arith, from, to)) }; is_tree = end }

none_either : {X : Type 0} (b : Bool) (x : X) → (if b then None else None) ≡ Some x → ⊥
none_either true x is = cc
none_either false x is = cc

no_form : (s : Source) → IsFormOf nothing.text source [] no_modules s → ⊥
no_form s is = none_either (is_pin_name (codes "clk")) s is

empty_row : Answers words (Some empty) Refused (refused_line 90 (codes "m.v") 0) []
empty_row =
    refused (compile source) refl not_of_form (codes "m.v")
    (in_text source refl (record { source = rw empty_expands refl; files = All-nil _ }) nothing empty_expands not_of_form (out_of_form [] no_modules empty_has_tree no_form) (codes "m.v") refl)

empty_line : refused_line 90 (codes "m.v") 0 ≡ codes "refused 90 m.v 0\n"
unfolding digits
empty_line = refl

-- ---- an include of a file that isn't held

abbrev including : Held
including = (codes "m.v", codes "`include \"x.v\"\n") ∷ []

abbrev missed : Stop
missed = record { broken = None; loads = codes "m.v" ∷ codes "x.v" ∷ [] }

include_misses : expanded including source ≡ Err missed
unfolding files.source_expansion files.file_expansion pieces.end_at directives.directive_of directives.directive_names
include_misses = refl

include_row : Answers words (Some including) ReadFault (codes "read fault\n") []
include_row = not_held (compile source) refl (of_source source refl (rw include_misses refl))
