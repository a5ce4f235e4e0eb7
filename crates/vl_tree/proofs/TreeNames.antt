-- The numbers in a source of the grammar are those of tokens.
use Rattle.std.proofs.Common.{ℕ, List, Option}
use Rattle.std.specs.Prelude.{All, IfSome}
use Rattle.vl_tree.specs.declared.terminals.Terminal.{Terminal}
use Rattle.vl_tree.specs.declared.exprs.Expr.{Expr}
use Rattle.vl_tree.specs.declared.modules.Tree.{Tree}
use Rattle.vl_tree.specs.declared.modules.Module.{Module}
use Rattle.vl_tree.specs.declared.modules.Pdecl.{Pdecl}
use Rattle.vl_tree.specs.declared.modules.Ptype.{Ptype}
use Rattle.vl_tree.specs.declared.modules.Port.{Port}
use Rattle.vl_tree.specs.declared.modules.Dir.{Dir}
use Rattle.vl_tree.specs.declared.modules.Direction.{Direction}
use Rattle.vl_tree.specs.declared.modules.Item.{Item}
use Rattle.vl_tree.specs.declared.modules.ParamWord.{ParamWord}
use Rattle.vl_tree.specs.declared.modules.Binding.{Binding}
use Rattle.vl_tree.specs.declared.modules.Declared.{Declared}
use Rattle.vl_tree.specs.declared.modules.Rname.{Rname}
use Rattle.vl_tree.specs.declared.modules.Instance.{Instance}
use Rattle.vl_tree.specs.declared.modules.Conns.{Conns}
use Rattle.vl_tree.specs.declared.modules.Named.{Named}
use Rattle.vl_tree.specs.declared.routines.Task.{Task}
use Rattle.vl_tree.specs.declared.routines.Function.{Function}
use Rattle.vl_tree.specs.declared.routines.Args.{Args}
use Rattle.vl_tree.specs.declared.routines.Arg.{Arg}
use Rattle.vl_tree.specs.declared.routines.Formal.{Formal}
use Rattle.vl_tree.specs.declared.routines.Fdir.{Fdir}
use Rattle.vl_tree.specs.declared.routines.Import.{Import}
use Rattle.vl_tree.specs.declared.routines.Rtype.{Rtype}
use Rattle.vl_tree.specs.declared.routines.Itype.{Itype}
use Rattle.vl_tree.specs.declared.routines.IntWord.{IntWord}
use Rattle.vl_tree.specs.declared.routines.Iarg.{Iarg}
use Rattle.vl_tree.specs.Places.{IsName}
use Rattle.vl_tree.specs.Lists.{Commas, Maybe}
use Rattle.vl_tree.specs.Expressions.{IsExpr}
use Rattle.vl_tree.specs.Routines.{IsDirection, IsFdir, IsFormal, IsArg, IsArgs, IsTask, IsFunction, IsIntWord, IsItype, IsRtype, IsIarg, IsImport}
use Rattle.vl_tree.specs.Modules.{IsValue, IsLead, IsPdecl, IsDir, IsPort, IsBinding, IsDeclared, IsRname, IsNamed, IsConns, IsOverride, IsInstance, IsParamWord, IsItem, IsParams, IsPorts, IsModule, IsSource}
use Rattle.vl_tree.specs.Names
use Rattle.vl_tree.specs.Names.{IsToken, ExprNames}
use Rattle.vl_tree.proofs.Tokens.{at_within, name_within}
use Rattle.vl_tree.proofs.ExprNames.{level_names, exprs_names, exprs_begin}
use Rattle.vl_tree.proofs.StmtNames
use Rattle.vl_tree.proofs.StmtNames.{commas_all, commas_begin, maybe_commas_all, many_all, maybe_holds, names_are, maybe_range, ptype_names, local_names, local_begins, locals_names, stmt_names}

module _ (ls : List Terminal) where
  direction_begins : {i j : ℕ} {d : Direction} → IsDirection ls i j d → IsToken ls i
  direction_begins (IsDirection.input h) = at_within ls _ _ h
  direction_begins (IsDirection.output h) = at_within ls _ _ h

  word_begins : {i j : ℕ} {w : IntWord} → IsIntWord ls i j w → IsToken ls i
  word_begins (IsIntWord.byte h) = at_within ls _ _ h
  word_begins (IsIntWord.shortint h) = at_within ls _ _ h
  word_begins (IsIntWord.int h) = at_within ls _ _ h
  word_begins (IsIntWord.longint h) = at_within ls _ _ h

  itype_begins : {i j : ℕ} {t : Itype} → IsItype ls i j t → IsToken ls i
  itype_begins (IsItype.itype w s) = word_begins w

  itype_token : {i j : ℕ} {t : Itype} → IsItype ls i j t → IsToken ls t.at
  itype_token (IsItype.itype w s) = word_begins w

  rtype_names : {i j : ℕ} {t : Rtype} → IsRtype ls i j t → Names.RtypeNames ls t
  rtype_names (IsRtype.void h) = at_within ls _ _ h
  rtype_names (IsRtype.bit h) = at_within ls _ _ h
  rtype_names (IsRtype.number t) = (itype_begins t, itype_token t)

  word_token : {i j : ℕ} {w : ParamWord} → IsParamWord ls i j w → IsToken ls i
  word_token (IsParamWord.parameter h) = at_within ls _ _ h
  word_token (IsParamWord.localparam h) = at_within ls _ _ h

  module _ (n : ℕ) where
    -- ---- tasks, functions and imports

    fdir_begins : {i j : ℕ} {d : Fdir} → IsFdir ls n i j d → IsToken ls i
    fdir_begins (IsFdir.vector_formal d reg s r) = direction_begins d
    fdir_begins (IsFdir.integer_formal d h) = direction_begins d

    fdir_names : {i j : ℕ} {d : Fdir} → IsFdir ls n i j d → Names.FdirNames ls d
    fdir_names (IsFdir.vector_formal d reg s r) = (direction_begins d, maybe_range ls n r)
    fdir_names (IsFdir.integer_formal d h) = direction_begins d

    fdir_or_name : {i j : ℕ} {d : Option Fdir} → Maybe (IsFdir ls n) i j d → IsName ls j → IsToken ls i
    fdir_or_name {i = i} Maybe.absent h = name_within ls i h
    fdir_or_name (Maybe.present d) h = fdir_begins d

    formal_names : {i j : ℕ} {f : Formal} → IsFormal ls n i j f → Names.FormalNames ls f
    formal_names (IsFormal.formal d h) = (fdir_or_name d h, maybe_holds (IsFdir ls n) (Names.FdirNames ls) (λ i j x h. fdir_names h) d, h)

    arg_names : {i j : ℕ} {a : Arg} → IsArg ls n i j a → Names.ArgNames ls a
    arg_names (IsArg.formals d names c) = (fdir_begins d, fdir_names d, names_are ls names)
    arg_names (IsArg.local l) = (local_begins ls n l, local_names ls n l)

    args_names : {i j : ℕ} {a : Args} → IsArgs ls n i j a → Names.ArgsNames ls a
    args_names (IsArgs.listed o formals c led s locals) =
        (at_within ls _ _ o, maybe_commas_all ls (IsFormal ls n) (Names.FormalNames ls) (λ i j x h. formal_names h) formals, locals_names ls n locals)
    args_names (IsArgs.declared s all) = (at_within ls _ _ s, many_all (IsArg ls n) (Names.ArgNames ls) (λ i j x h. arg_names h) all)

    iarg_names : {i j : ℕ} {a : Iarg} → IsIarg ls n i j a → Names.IargNames ls a
    iarg_names (IsIarg.bits d b r h) = (direction_begins d, maybe_range ls n r, h)
    iarg_names (IsIarg.numbers d t h) = (direction_begins d, itype_token t, h)

    import_names : {i j : ℕ} {m : Import} → IsImport ls n i j m → Names.ImportNames ls m
    import_names (IsImport.«import» h q x f t name o all c s) =
        (at_within ls _ _ h, q, rtype_names t, name, maybe_commas_all ls (IsIarg ls n) (Names.IargNames ls) (λ i j x h. iarg_names h) all)

    import_begins : {i j : ℕ} {m : Import} → IsImport ls n i j m → IsToken ls i
    import_begins (IsImport.«import» h q x f t name o all c s) = at_within ls _ _ h

    -- ---- modules

    value_names : {i j : ℕ} {e : Expr} → IsValue ls n i j e → ExprNames ls e
    value_names (IsValue.value q e) = level_names ls e

    maybe_value : {i j : ℕ} {e : Option Expr} → Maybe (IsValue ls n) i j e → IfSome e (ExprNames ls)
    maybe_value h = maybe_holds (IsValue ls n) (ExprNames ls) (λ i j x h. value_names h) h

    lead_or_name : {i j : ℕ} {t : Option Ptype} → Maybe (IsLead ls n) i j t → IsName ls j → IsToken ls i
    lead_or_name {i = i} Maybe.absent h = name_within ls i h
    lead_or_name (Maybe.present (IsLead.lead p t)) h = at_within ls _ _ p

    maybe_lead : {i j : ℕ} {t : Option Ptype} → Maybe (IsLead ls n) i j t → IsToken ls j → IfSome t (Names.PtypeNames ls)
    maybe_lead Maybe.absent h = tt
    maybe_lead (Maybe.present (IsLead.lead p t)) h = ptype_names ls n t h

    pdecl_names : {i j : ℕ} {p : Pdecl} → IsPdecl ls n i j p → Names.PdeclNames ls p
    pdecl_names (IsPdecl.pdecl {j = j} t h e) = (lead_or_name t h, maybe_lead t (name_within ls j h), h, value_names e)

    dir_begins : {i j : ℕ} {d : Dir} → IsDir ls n i j d → IsToken ls i
    dir_begins (IsDir.net_port d w s r) = direction_begins d
    dir_begins (IsDir.reg_port h reg s r) = at_within ls _ _ h

    dir_names : {i j : ℕ} {d : Dir} → IsDir ls n i j d → Names.DirNames ls d
    dir_names (IsDir.net_port d w s r) = (direction_begins d, maybe_range ls n r)
    dir_names (IsDir.reg_port h reg s r) = (at_within ls _ _ h, maybe_range ls n r)

    dir_or_name : {i j : ℕ} {d : Option Dir} → Maybe (IsDir ls n) i j d → IsName ls j → IsToken ls i
    dir_or_name {i = i} Maybe.absent h = name_within ls i h
    dir_or_name (Maybe.present d) h = dir_begins d

    port_names : {i j : ℕ} {p : Port} → IsPort ls n i j p → Names.PortNames ls p
    port_names (IsPort.port d h e) = (dir_or_name d h, maybe_holds (IsDir ls n) (Names.DirNames ls) (λ i j x h. dir_names h) d, h, maybe_value e)

    binding_names : {i j : ℕ} {b : Binding} → IsBinding ls n i j b → Names.BindingNames ls b
    binding_names (IsBinding.binding {i = i} h e) = (name_within ls i h, h, value_names e)

    binding_begins : {i j : ℕ} {b : Binding} → IsBinding ls n i j b → IsToken ls i
    binding_begins (IsBinding.binding {i = i} h e) = name_within ls i h

    bindings_names : {i j : ℕ} {bs : List Binding} → Commas ls (IsBinding ls n) i j bs → All (Names.BindingNames ls) bs
    bindings_names h = commas_all ls (IsBinding ls n) (Names.BindingNames ls) (λ i j x h. binding_names h) h

    declared_names : {i j : ℕ} {d : Declared} → IsDeclared ls n i j d → Names.DeclaredNames ls d
    declared_names (IsDeclared.declared {i = i} h e) = (name_within ls i h, h, maybe_value e)

    all_declared : {i j : ℕ} {ds : List Declared} → Commas ls (IsDeclared ls n) i j ds → All (Names.DeclaredNames ls) ds
    all_declared h = commas_all ls (IsDeclared ls n) (Names.DeclaredNames ls) (λ i j x h. declared_names h) h

    rname_names : {i j : ℕ} {r : Rname} → IsRname ls n i j r → Names.RnameNames ls r
    rname_names (IsRname.variable {i = i} h e) = (name_within ls i h, h, maybe_value e)
    rname_names (IsRname.memory {i = i} h r) = (name_within ls i h, h, StmtNames.range_names ls n r)

    named_names : {i j : ℕ} {m : Named} → IsNamed ls n i j m → Names.NamedNames ls m
    named_names (IsNamed.named d h o e c) = (at_within ls _ _ d, h, maybe_holds (IsExpr ls n) (ExprNames ls) (λ i j x h. level_names ls h) e)

    named_begins : {i j : ℕ} {m : Named} → IsNamed ls n i j m → IsToken ls i
    named_begins (IsNamed.named d h o e c) = at_within ls _ _ d

    conns_names : {i j : ℕ} {c : Conns} → IsConns ls n i j c → Names.ConnsNames ls c
    conns_names (IsConns.ordered es) = (exprs_begin ls es, exprs_names ls es)
    conns_names (IsConns.by_name all) =
        (commas_begin ls (IsNamed ls n) (λ i j x h. named_begins h) all, commas_all ls (IsNamed ls n) (Names.NamedNames ls) (λ i j x h. named_names h) all)

    override_names : {i j : ℕ} {c : Conns} → IsOverride ls n i j c → Names.ConnsNames ls c
    override_names (IsOverride.override h o c d) = conns_names c

    instance_names : {i j : ℕ} {x : Instance} → IsInstance ls n i j x → Names.InstanceNames ls x
    instance_names (IsInstance.«instance» {i = i} h o c d) =
        (name_within ls i h, h, maybe_holds (IsConns ls n) (Names.ConnsNames ls) (λ i j x h. conns_names h) c)

    params_names : {i j : ℕ} {ps : List Pdecl} → IsParams ls n i j ps → All (Names.PdeclNames ls) ps
    params_names (IsParams.params_of_module h o all led c) = commas_all ls (IsPdecl ls n) (Names.PdeclNames ls) (λ i j x h. pdecl_names h) all

    ports_names : {i j : ℕ} {ps : List Port} → IsPorts ls n i j ps → All (Names.PortNames ls) ps
    ports_names (IsPorts.ports o all led fit c) = maybe_commas_all ls (IsPort ls n) (Names.PortNames ls) (λ i j x h. port_names h) all

    module _ (names : List (List ℕ)) where
      task_names : {i j : ℕ} {t : Task} → IsTask ls names n i j t → Names.TaskNames ls t
      task_names (IsTask.task h name a s e) = (at_within ls _ _ h, name, args_names a, stmt_names ls names s)

      task_begins : {i j : ℕ} {t : Task} → IsTask ls names n i j t → IsToken ls i
      task_begins (IsTask.task h name a s e) = at_within ls _ _ h

      function_names : {i j : ℕ} {f : Function} → IsFunction ls names n i j f → Names.FunctionNames ls f
      function_names (IsFunction.function {j = j} h t name a inputs s e) =
          (at_within ls _ _ h, ptype_names ls n t (name_within ls j name), name, args_names a, stmt_names ls names s)

      function_begins : {i j : ℕ} {f : Function} → IsFunction ls names n i j f → IsToken ls i
      function_begins (IsFunction.function h t name a inputs s e) = at_within ls _ _ h

      item_names : {i j : ℕ} {x : Item} → IsItem ls names n i j x → Names.ItemNames ls x
      item_names (IsItem.params w t all c) =
          (word_token w, ptype_names ls n t (commas_begin ls (IsBinding ls n) (λ i j x h. binding_begins h) all), bindings_names all)
      item_names (IsItem.wires h s r all c) = (at_within ls _ _ h, maybe_range ls n r, all_declared all)
      item_names (IsItem.regs h s r all c) = (at_within ls _ _ h, maybe_range ls n r, commas_all ls (IsRname ls n) (Names.RnameNames ls) (λ i j x h. rname_names h) all)
      item_names (IsItem.integers h all c) = (at_within ls _ _ h, all_declared all)
      item_names (IsItem.assigns h all c) = (at_within ls _ _ h, bindings_names all)
      item_names (IsItem.always h s) = (at_within ls _ _ h, stmt_names ls names s)
      item_names (IsItem.initial h s) = (at_within ls _ _ h, stmt_names ls names s)
      item_names (IsItem.task t) = (task_begins t, task_names t)
      item_names (IsItem.function f) = (function_begins f, function_names f)
      item_names (IsItem.«import» m) = (import_begins m, import_names m)
      item_names (IsItem.instances {i = i} h c all s) = (
        name_within ls i h,
        h,
        maybe_holds (IsOverride ls n) (Names.ConnsNames ls) (λ i j x h. override_names h) c,
        commas_all ls (IsInstance ls n) (Names.InstanceNames ls) (λ i j x h. instance_names h) all,
      )

      module_names : {i j : ℕ} {m : Module} → IsModule ls names n i j m → Names.ModuleNames ls m
      module_names (IsModule.«module» h name params ports s items e) = (
        at_within ls _ _ h,
        name,
        maybe_holds (IsParams ls n) (All (Names.PdeclNames ls)) (λ i j x h. params_names h) params,
        maybe_holds (IsPorts ls n) (All (Names.PortNames ls)) (λ i j x h. ports_names h) ports,
        many_all (IsItem ls names n) (Names.ItemNames ls) (λ i j x h. item_names h) items,
      )

      pub tree_names : (tree : Tree) → IsSource ls names n tree → Names.TreeNames ls tree
      tree_names tree h = many_all (IsModule ls names n) (Names.ModuleNames ls) (λ i j x h. module_names h) h
