-- The formals and the locals of a task or function, whether they stand in parentheses or behind `;` (IEEE 1364-2005, A.2.6 and A.2.7).
use Rattle.std.specs.Prelude.{ℕ, List, [], ◌∷◌, ◌++◌, Option, Some, None, map, flat_map, option_copied}
use Rattle.std.specs.List.{filter_map}
use Rattle.vl_tree.specs.declared.routines.Args.{Args}
use Rattle.vl_tree.specs.declared.routines.Args.TheVariants as args
use Rattle.vl_tree.specs.declared.routines.Arg.{Arg}
use Rattle.vl_tree.specs.declared.routines.Arg.TheVariants as arg
use Rattle.vl_tree.specs.declared.routines.Formal.{Formal}
use Rattle.vl_tree.specs.declared.routines.Fdir.{Fdir}
use Rattle.vl_tree.specs.declared.routines.Local.{Local}
use Rattle.vl_tree.specs.declared.argument_list.Argument.{Argument}
use Rattle.vl_tree.specs.declared.argument_list.Argument.TheVariants as argument
use Rattle.vl_tree.specs.Words.{own_or}

-- a formal with the words that hold at it and the token of its name, or a declaration of locals
pub data PlainArgument : Type 0 where
  formal : Option Fdir → ℕ → PlainArgument
  locals : Local → PlainArgument

-- formals in parentheses, behind these words
abbrev pub listed_formals : Option Fdir → List Formal → List PlainArgument
listed_formals before [] = []
listed_formals before (f ∷ fs) = formal (own_or f.fdir before) f.name ∷ listed_formals (own_or f.fdir before) fs

abbrev pub declared_arguments : Arg → List PlainArgument
declared_arguments (arg.Formals at words names) = map (λ name. formal (Some words) name) names
declared_arguments (arg.Local at l) = locals l ∷ []

-- both in the order of the text
abbrev pub arguments_of : Args → List PlainArgument
arguments_of (args.Listed at formals all) = listed_formals None formals ++ map locals all
arguments_of (args.Declared at all) = flat_map declared_arguments all

abbrev pub as_formal : PlainArgument → Option (Option Fdir × ℕ)
as_formal (formal words name) = Some (words, name)
as_formal (locals l) = None

abbrev pub as_local : PlainArgument → Option Local
as_local (formal words name) = None
as_local (locals l) = Some l

-- the formals in order, each with its words and the token of its name
abbrev pub formals_of : Args → List (Option Fdir × ℕ)
formals_of a = filter_map as_formal (arguments_of a)

-- the declarations of locals in order
abbrev pub locals_of : Args → List Local
locals_of a = filter_map as_local (arguments_of a)

-- what the code's reference to one stands for
abbrev pub argument_of : Argument → PlainArgument
argument_of (argument.Formal words name) = formal (option_copied words) name
argument_of (argument.Locals l) = locals l.now
