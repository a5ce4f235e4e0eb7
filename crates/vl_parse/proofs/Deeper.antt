-- What is a tree of the tokens within a depth is one within each larger depth.
use Rattle.std.proofs.Common.{◌≡◌, ◌≤◌, ℕ, zero, suc, ◌+◌, ◌-◌, List, [], ◌∷◌, Option, Bool, subst, arith}
use Rattle.vl_tree.specs.declared.terminals.Terminal.{Terminal}
use Rattle.vl_tree.specs.declared.exprs.Expr.{Expr}
use Rattle.vl_tree.specs.declared.statements.Stmt.{Stmt}
use Rattle.vl_tree.specs.declared.statements.Citem.{Citem}
use Rattle.vl_tree.specs.declared.statements.Scope.{Scope}
use Rattle.vl_tree.specs.declared.routines.Args.{Args}
use Rattle.vl_tree.specs.declared.routines.Arg.{Arg}
use Rattle.vl_tree.specs.declared.routines.Formal.{Formal}
use Rattle.vl_tree.specs.declared.routines.Fdir.{Fdir}
use Rattle.vl_tree.specs.declared.routines.Iarg.{Iarg}
use Rattle.vl_tree.specs.declared.modules.Tree.{Tree}
use Rattle.vl_tree.specs.declared.modules.Module.{Module}
use Rattle.vl_tree.specs.declared.modules.Pdecl.{Pdecl}
use Rattle.vl_tree.specs.declared.modules.Ptype.{Ptype}
use Rattle.vl_tree.specs.declared.modules.Port.{Port}
use Rattle.vl_tree.specs.declared.modules.Dir.{Dir}
use Rattle.vl_tree.specs.declared.modules.Item.{Item}
use Rattle.vl_tree.specs.declared.modules.Binding.{Binding}
use Rattle.vl_tree.specs.declared.modules.Declared.{Declared}
use Rattle.vl_tree.specs.declared.modules.Rname.{Rname}
use Rattle.vl_tree.specs.declared.modules.Instance.{Instance}
use Rattle.vl_tree.specs.declared.modules.Conns.{Conns}
use Rattle.vl_tree.specs.declared.modules.Named.{Named}
use Rattle.vl_tree.specs.Lists.{Commas, Many, Maybe}
use Rattle.vl_tree.specs.Statements.{IsScope, IsStmt, IsStmts, IsCitems, IsCitem}
use Rattle.vl_tree.specs.Routines.{IsFdir, IsFormal, IsArg, IsArgs, IsTask, IsFunction, IsIarg, IsImport}
use Rattle.vl_tree.specs.Modules.{IsValue, IsLead, IsPdecl, IsDir, IsPort, IsBinding, IsDeclared, IsRname, IsNamed, IsConns, IsOverride, IsInstance, IsItem, IsParams, IsPorts, IsModule, IsSource}
use Rattle.vl_parse.proofs.Parts.{many_runs}
use Rattle.vl_parse.proofs.DeeperParts.{commas_as, maybe_commas_as, maybe_as, level_deeper, exprs_deeper, args_deeper, lvalue_deeper, range_deeper, maybe_range_deeper, ptype_deeper, local_deeper}

module _ {ls : List Terminal} where
  scope_deeper : {n i j : ℕ} {s : Scope} → IsScope ls n i j s → IsScope ls (suc n) i j s
  scope_deeper (IsScope.scope h a l) = IsScope.scope h a (many_runs (λ a b t p. local_deeper p) l)

  module _ {names : List (List ℕ)} where
    mutual
      stmt_deeper : {n i j : ℕ} {d : Bool} {s : Stmt} → IsStmt ls names n d i j s → IsStmt ls names (suc n) d i j s
      stmt_deeper (IsStmt.null h) = IsStmt.null h
      stmt_deeper (IsStmt.blocking a h e c) = IsStmt.blocking (lvalue_deeper a) h (level_deeper e) c
      stmt_deeper (IsStmt.nonblocking a h e c) = IsStmt.nonblocking (lvalue_deeper a) h (level_deeper e) c
      stmt_deeper (IsStmt.if_alone h o e c s) = IsStmt.if_alone h o (level_deeper e) c (stmt_deeper s)
      stmt_deeper (IsStmt.if_else h o e c s f t) = IsStmt.if_else h o (level_deeper e) c (stmt_deeper s) f (stmt_deeper t)
      stmt_deeper (IsStmt.case h o e c s f k) = IsStmt.case h o (level_deeper e) c (citems_deeper s) f k
      stmt_deeper (IsStmt.for h o a b c d e f g k l m p s) =
          IsStmt.for h o a b (level_deeper c) d (level_deeper e) f g k (level_deeper l) m p (stmt_deeper s)
      stmt_deeper (IsStmt.while h o e c s) = IsStmt.while h o (level_deeper e) c (stmt_deeper s)
      stmt_deeper (IsStmt.repeat h o e c s) = IsStmt.repeat h o (level_deeper e) c (stmt_deeper s)
      stmt_deeper (IsStmt.forever h s) = IsStmt.forever h (stmt_deeper s)
      stmt_deeper (IsStmt.block h a s k) = IsStmt.block h (maybe_as (λ a b t p. scope_deeper p) a) (stmts_deeper s) k
      stmt_deeper (IsStmt.wait h o e a c s) = IsStmt.wait h o e a c (stmt_deeper s)
      stmt_deeper (IsStmt.enable h a c) = IsStmt.enable h (maybe_as (λ a b t p. args_deeper p) a) c
      stmt_deeper (IsStmt.disable h a c) = IsStmt.disable h a c

      stmts_deeper : {n i j : ℕ} {ss : List Stmt} → IsStmts ls names n i j ss → IsStmts ls names (suc n) i j ss
      stmts_deeper IsStmts.no_stmt = IsStmts.no_stmt
      stmts_deeper (IsStmts.more_stmts a b) = IsStmts.more_stmts (stmt_deeper a) (stmts_deeper b)

      citems_deeper : {n d i j : ℕ} {cs : List Citem} → IsCitems ls names n d i j cs → IsCitems ls names (suc n) d i j cs
      citems_deeper (IsCitems.last_citem a) = IsCitems.last_citem (citem_deeper a)
      citems_deeper (IsCitems.more_citems a b) = IsCitems.more_citems (citem_deeper a) (citems_deeper b)

      citem_deeper : {n d i j : ℕ} {c : Citem} → IsCitem ls names n d i j c → IsCitem ls names (suc n) d i j c
      citem_deeper (IsCitem.labels a h s) = IsCitem.labels (exprs_deeper a) h (stmt_deeper s)
      citem_deeper (IsCitem.default h f s) = IsCitem.default h f (stmt_deeper s)

  fdir_deeper : {n i j : ℕ} {d : Fdir} → IsFdir ls n i j d → IsFdir ls (suc n) i j d
  fdir_deeper (IsFdir.vector_formal d f s r) = IsFdir.vector_formal d f s (maybe_range_deeper r)
  fdir_deeper (IsFdir.integer_formal d h) = IsFdir.integer_formal d h

  formal_deeper : {n i j : ℕ} {f : Formal} → IsFormal ls n i j f → IsFormal ls (suc n) i j f
  formal_deeper (IsFormal.formal d h) = IsFormal.formal (maybe_as (λ a b t p. fdir_deeper p) d) h

  arg_deeper : {n i j : ℕ} {a : Arg} → IsArg ls n i j a → IsArg ls (suc n) i j a
  arg_deeper (IsArg.formals d a c) = IsArg.formals (fdir_deeper d) a c
  arg_deeper (IsArg.local l) = IsArg.local (local_deeper l)

  task_args_deeper : {n i j : ℕ} {a : Args} → IsArgs ls n i j a → IsArgs ls (suc n) i j a
  task_args_deeper (IsArgs.listed o f c led s l) =
      IsArgs.listed o (maybe_commas_as (λ a b t p. formal_deeper p) f) c led s (many_runs (λ a b t p. local_deeper p) l)
  task_args_deeper (IsArgs.declared s all) = IsArgs.declared s (many_runs (λ a b t p. arg_deeper p) all)

  iarg_deeper : {n i j : ℕ} {a : Iarg} → IsIarg ls n i j a → IsIarg ls (suc n) i j a
  iarg_deeper (IsIarg.bits d h r a) = IsIarg.bits d h (maybe_range_deeper r) a
  iarg_deeper (IsIarg.numbers d t a) = IsIarg.numbers d t a

  value_deeper : {n i j : ℕ} {e : Expr} → IsValue ls n i j e → IsValue ls (suc n) i j e
  value_deeper (IsValue.value h e) = IsValue.value h (level_deeper e)

  default_deeper : {n i j : ℕ} {e : Option Expr} → Maybe (IsValue ls n) i j e → Maybe (IsValue ls (suc n)) i j e
  default_deeper e = maybe_as (λ a b t p. value_deeper p) e

  lead_deeper : {n i j : ℕ} {t : Ptype} → IsLead ls n i j t → IsLead ls (suc n) i j t
  lead_deeper (IsLead.lead h t) = IsLead.lead h (ptype_deeper t)

  pdecl_deeper : {n i j : ℕ} {p : Pdecl} → IsPdecl ls n i j p → IsPdecl ls (suc n) i j p
  pdecl_deeper (IsPdecl.pdecl t a e) = IsPdecl.pdecl (maybe_as (λ a b t p. lead_deeper p) t) a (value_deeper e)

  dir_deeper : {n i j : ℕ} {d : Dir} → IsDir ls n i j d → IsDir ls (suc n) i j d
  dir_deeper (IsDir.net_port d w s r) = IsDir.net_port d w s (maybe_range_deeper r)
  dir_deeper (IsDir.reg_port h g s r) = IsDir.reg_port h g s (maybe_range_deeper r)

  port_deeper : {n i j : ℕ} {p : Port} → IsPort ls n i j p → IsPort ls (suc n) i j p
  port_deeper (IsPort.port d a e) = IsPort.port (maybe_as (λ a b t p. dir_deeper p) d) a (default_deeper e)

  binding_deeper : {n i j : ℕ} {b : Binding} → IsBinding ls n i j b → IsBinding ls (suc n) i j b
  binding_deeper (IsBinding.binding a e) = IsBinding.binding a (value_deeper e)

  declared_deeper : {n i j : ℕ} {d : Declared} → IsDeclared ls n i j d → IsDeclared ls (suc n) i j d
  declared_deeper (IsDeclared.declared a e) = IsDeclared.declared a (default_deeper e)

  rname_deeper : {n i j : ℕ} {r : Rname} → IsRname ls n i j r → IsRname ls (suc n) i j r
  rname_deeper (IsRname.variable a e) = IsRname.variable a (default_deeper e)
  rname_deeper (IsRname.memory a r) = IsRname.memory a (range_deeper r)

  named_deeper : {n i j : ℕ} {c : Named} → IsNamed ls n i j c → IsNamed ls (suc n) i j c
  named_deeper (IsNamed.named h a o e c) = IsNamed.named h a o (maybe_as (λ a b t p. level_deeper p) e) c

  conns_deeper : {n i j : ℕ} {c : Conns} → IsConns ls n i j c → IsConns ls (suc n) i j c
  conns_deeper (IsConns.ordered es) = IsConns.ordered (exprs_deeper es)
  conns_deeper (IsConns.by_name all) = IsConns.by_name (commas_as (λ a b t p. named_deeper p) all)

  override_deeper : {n i j : ℕ} {c : Conns} → IsOverride ls n i j c → IsOverride ls (suc n) i j c
  override_deeper (IsOverride.override h o c k) = IsOverride.override h o (conns_deeper c) k

  instance_deeper : {n i j : ℕ} {u : Instance} → IsInstance ls n i j u → IsInstance ls (suc n) i j u
  instance_deeper (IsInstance.«instance» a o c k) = IsInstance.«instance» a o (maybe_as (λ a b t p. conns_deeper p) c) k

  params_deeper : {n i j : ℕ} {all : List Pdecl} → IsParams ls n i j all → IsParams ls (suc n) i j all
  params_deeper (IsParams.params_of_module h o a led c) = IsParams.params_of_module h o (commas_as (λ a b t p. pdecl_deeper p) a) led c

  ports_deeper : {n i j : ℕ} {all : List Port} → IsPorts ls n i j all → IsPorts ls (suc n) i j all
  ports_deeper (IsPorts.ports o a led fit c) = IsPorts.ports o (maybe_commas_as (λ a b t p. port_deeper p) a) led fit c

  module _ {names : List (List ℕ)} where
    item_deeper : {n i j : ℕ} {t : Item} → IsItem ls names n i j t → IsItem ls names (suc n) i j t
    item_deeper (IsItem.params w t a c) = IsItem.params w (ptype_deeper t) (commas_as (λ a b t p. binding_deeper p) a) c
    item_deeper (IsItem.wires h f r a c) = IsItem.wires h f (maybe_range_deeper r) (commas_as (λ a b t p. declared_deeper p) a) c
    item_deeper (IsItem.regs h f r a c) = IsItem.regs h f (maybe_range_deeper r) (commas_as (λ a b t p. rname_deeper p) a) c
    item_deeper (IsItem.integers h a c) = IsItem.integers h (commas_as (λ a b t p. declared_deeper p) a) c
    item_deeper (IsItem.assigns h a c) = IsItem.assigns h (commas_as (λ a b t p. binding_deeper p) a) c
    item_deeper (IsItem.always h s) = IsItem.always h (stmt_deeper s)
    item_deeper (IsItem.initial h s) = IsItem.initial h (stmt_deeper s)
    item_deeper (IsItem.task (IsTask.task h m a s k)) = IsItem.task (IsTask.task h m (task_args_deeper a) (stmt_deeper s) k)
    item_deeper (IsItem.function (IsFunction.function h t b a fit s k)) =
        IsItem.function (IsFunction.function h (ptype_deeper t) b (task_args_deeper a) fit (stmt_deeper s) k)
    item_deeper (IsItem.«import» (IsImport.«import» a q f g r h o l c s)) =
        IsItem.«import» (IsImport.«import» a q f g r h o (maybe_commas_as (λ a b t p. iarg_deeper p) l) c s)
    item_deeper (IsItem.instances h m a c) =
        IsItem.instances h (maybe_as (λ a b t p. override_deeper p) m) (commas_as (λ a b t p. instance_deeper p) a) c

    module_deeper : {n i j : ℕ} {m : Module} → IsModule ls names n i j m → IsModule ls names (suc n) i j m
    module_deeper (IsModule.«module» h a p q s t e) =
        IsModule.«module» h a (maybe_as (λ a b t p. params_deeper p) p) (maybe_as (λ a b t p. ports_deeper p) q) s
        (many_runs (λ a b t p. item_deeper p) t) e

module _ (ls : List Terminal) (names : List (List ℕ)) (n : ℕ) (tree : Tree) (is : IsSource ls names n tree) where
  one_deeper : {m : ℕ} → IsSource ls names m tree → IsSource ls names (suc m) tree
  one_deeper all = many_runs (λ a b t p. module_deeper p) all

  further : (turns : ℕ) → IsSource ls names (turns + n) tree
  further zero = let same : n ≡ 0 + n = omega arith in subst (λ k. IsSource ls names k tree) same is
  further (suc turns) =
      let same : suc (turns + n) ≡ suc turns + n = omega arith in
      subst (λ k. IsSource ls names k tree) same (one_deeper (further turns))

  pub source_deeper : (m : ℕ) → n ≤ m → IsSource ls names m tree
  source_deeper m le = let same : (m - n) + n ≡ m = omega arith in subst (λ k. IsSource ls names k tree) same (further (m - n))
