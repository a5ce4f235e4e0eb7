-- The grammar's readings, and the readings in fewer steps, give the same.
use Rattle.std.specs.Prelude.{if◌then◌else◌}
use Rattle.std.proofs.Common.{◌≡◌, ℕ, ◌+◌, List, Option, Ok, Err, Result, slice_get, refl, sym, ap, ◌∙◌, arith}
use Rattle.vl_tree.specs.declared.terminals.Terminal.{Terminal}
use Rattle.vl_tree.specs.declared.terminals.Terminal.TheVariants as lex
use Rattle.vl_tree.specs.declared.exprs.Expr.{Expr}
use Rattle.vl_tree.specs.declared.modules.Range.{Range}
use Rattle.vl_tree.specs.declared.modules.Ptype.{Ptype}
use Rattle.vl_tree.specs.declared.modules.Conns.{Conns}
use Rattle.vl_tree.specs.declared.modules.Dir.{Dir}
use Rattle.vl_tree.specs.declared.modules.Binding.{Binding}
use Rattle.vl_tree.specs.declared.modules.Declared.{Declared}
use Rattle.vl_tree.specs.declared.modules.Instance.{Instance}
use Rattle.vl_tree.specs.declared.modules.Item.{Item}
use Rattle.vl_tree.specs.declared.modules.Item.TheVariants as item
use Rattle.vl_tree.specs.declared.modules.Pdecl.{Pdecl}
use Rattle.vl_tree.specs.declared.modules.Port.{Port}
use Rattle.vl_tree.specs.declared.modules.Module.{Module}
use Rattle.vl_tree.specs.declared.routines.Local.{Local}
use Rattle.vl_tree.specs.declared.routines.Local.TheVariants as local
use Rattle.vl_tree.specs.declared.routines.Formal.{Formal}
use Rattle.vl_tree.specs.declared.routines.Arg.{Arg}
use Rattle.vl_tree.specs.declared.routines.Arg.TheVariants as arg
use Rattle.vl_tree.specs.declared.routines.Args.{Args}
use Rattle.vl_tree.specs.declared.routines.Args.TheVariants as args
use Rattle.vl_tree.specs.declared.routines.Task.{Task}
use Rattle.vl_tree.specs.declared.routines.Function.{Function}
use Rattle.vl_tree.specs.declared.statements.Stmt.{Stmt}
use Rattle.vl_tree.specs.Places.{name_in}
use Rattle.vl_tree.specs.Lists.{first_led}
use Rattle.vl_expr.specs.declared.found.ParseError.{ParseError}
use Rattle.vl_expr.specs.Classes.{is_at}
use Rattle.vl_expr.specs.Reading.{Reading, Gives, ◌>>=◌, past}
use Rattle.vl_expr.proofs.Turns.{gives_along}
use Rattle.vl_parse.specs.declared.part.Part.{Part}
use Rattle.vl_parse.specs.declared.classes.ItemStart.{ItemStart}
use Rattle.vl_parse.specs.declared.classes.ItemStart.TheVariants as start
use Rattle.vl_parse.specs.Parts.{part, named, separated_of, listed_of, many_of, maybe_of}
use Rattle.vl_parse.specs.Declarations.{expr_at, value_of, binding_of, range_of, size_of, ptype_of, names_of, integers_of, regs_of, opens_local, local_of}
use Rattle.vl_parse.specs.Statements.{stmt_of}
use Rattle.vl_parse.specs.Routines.{fdir_of, formal_of, formals_of, arg_of, opens_dir, listed_args, declared_args, args_of, task_of, inputs_of, function_of}
use Rattle.vl_parse.specs.Modules.{default_of, lead_of, opens_lead, pdecl_of, dir_of, port_of, declared_of, rname_of, override_of, opens_params, instance_of, item_start, item_by, item_of, params_of, ports_of, opens_ports, items_of, module_of}
use Rattle.vl_parse.specs.inner.Steps.{pair_of, ended_of, made_of}
use Rattle.vl_parse.specs.inner.Parts.{range_by, regs_by, local_by, formals_by, arg_by, formal_list, locals_by, listed_by, args_by, task_by, body_by, function_by, pdecl_by, port_by, item_read, port_list, header_by, module_by}
use Rattle.vl_parse.proofs.Steps.{bind_bind, test_bind, bind_like, test_like, choice_like, ended_bind, pair_bind, one_ended, both_ended}

module _ (ls : List Terminal) (n at : ℕ) where
  range_same : range_of ls n at ≡ range_by ls n at
  range_same =
      test_like (is_at ls at lex.OpenBracket) (expr_at ls n (at + 1) >>= λ msb. past ls msb.end lex.Colon (second msb (msb.end + 1)))
      (ended_of ls lex.Colon (expr_at ls n) (at + 1) >>= second_by) at
      (sym (ended_bind ls lex.Colon (expr_at ls n) (at + 1) second_by
      ∙ bind_like (expr_at ls n (at + 1)) (λ msb. past ls msb.end lex.Colon (second_by (part msb.tree (msb.end + 1))))
      (λ msb. past ls msb.end lex.Colon (second msb (msb.end + 1)))
      (λ msb. test_like (is_at ls msb.end lex.Colon) (second_by (part msb.tree (msb.end + 1))) (second msb (msb.end + 1)) msb.end
      (ended_bind ls lex.CloseBracket (expr_at ls n) (msb.end + 1) (λ lsb. Ok (part (range_in msb lsb) lsb.end))))))
    where
      range_in : Part Expr → Part Expr → Range
      range_in msb lsb = record { at = at; msb = msb.tree; lsb = lsb.tree }

      second : Part Expr → ℕ → Reading (Part Range)
      second msb from = expr_at ls n from >>= λ lsb. past ls lsb.end lex.CloseBracket (Ok (part (range_in msb lsb) (lsb.end + 1)))

      second_by : Part Expr → Reading (Part Range)
      second_by msb = ended_of ls lex.CloseBracket (expr_at ls n) msb.end >>= λ lsb. Ok (part (range_in msb lsb) lsb.end)

  regs_same : regs_of ls n at ≡ regs_by ls n at
  regs_same =
      test_like (is_at ls at lex.Reg)
      (size_of ls n (at + 1) >>= λ size. names_of ls size.end >>= λ all.
      past ls all.end lex.Semicolon (Ok (part (local.Reg at size.tree.signed size.tree.range all.tree) (all.end + 1))))
      (made_of (λ t. local.Reg at t.0.signed t.0.range t.1) (ended_of ls lex.Semicolon (pair_of (size_of ls n) (names_of ls)) (at + 1))) at
      (both_ended ls lex.Semicolon (size_of ls n) (names_of ls) (λ t. local.Reg at t.0.signed t.0.range t.1) (at + 1))

  local_same : local_of ls n at ≡ local_by ls n at
  local_same = choice_like (is_at ls at lex.Integer) (integers_of ls at) (regs_of ls n at) (integers_of ls at) (regs_by ls n at) refl regs_same

  formals_same : formals_of ls n at ≡ formals_by ls n at
  formals_same = both_ended ls lex.Semicolon (fdir_of ls n) (names_of ls) (λ t. arg.Formals at t.0 t.1) at

  arg_same : arg_of ls n at ≡ arg_by ls n at
  arg_same =
      choice_like (opens_dir (slice_get ls at)) (formals_of ls n at) (local_of ls n at >>= λ l. Ok (part (arg.Local at l.tree) l.end))
      (formals_by ls n at) (local_of ls n at >>= λ l. Ok (part (arg.Local at l.tree) l.end)) formals_same refl

  listed_same : listed_args ls n at ≡ listed_by ls n at
  listed_same =
      sym (bind_bind (listed_of ls (formal_of ls n) (at + 1)) list_in behind_list
      ∙ bind_like (listed_of ls (formal_of ls n) (at + 1)) (λ all. list_in all >>= behind_list)
      (λ all. past ls all.end lex.CloseParen
      (if first_led (λ f. f.fdir) all.tree
      then past ls (all.end + 1) lex.Semicolon (many_of ls opens_local (local_of ls n) (all.end + 2) >>= made all.tree)
      else Err (at + 1)))
      (λ all. test_bind (is_at ls all.end lex.CloseParen)
      (if first_led (λ f. f.fdir) all.tree then Ok (part all.tree (all.end + 1)) else Err (at + 1)) all.end behind_list
      ∙ test_like (is_at ls all.end lex.CloseParen)
      ((if first_led (λ f. f.fdir) all.tree then Ok (part all.tree (all.end + 1)) else Err (at + 1)) >>= behind_list)
      (if first_led (λ f. f.fdir) all.tree
      then past ls (all.end + 1) lex.Semicolon (many_of ls opens_local (local_of ls n) (all.end + 2) >>= made all.tree)
      else Err (at + 1)) all.end
      (test_bind (first_led (λ f. f.fdir) all.tree) (Ok (part all.tree (all.end + 1))) (at + 1) behind_list
      ∙ test_like (first_led (λ f. f.fdir) all.tree) (behind_list (part all.tree (all.end + 1)))
      (past ls (all.end + 1) lex.Semicolon (many_of ls opens_local (local_of ls n) (all.end + 2) >>= made all.tree)) (at + 1)
      (test_bind (is_at ls (all.end + 1) lex.Semicolon) (many_of ls opens_local (local_of ls n) (all.end + 1 + 1)) (all.end + 1) (made all.tree)
      ∙ ap (λ k. past ls (all.end + 1) lex.Semicolon (many_of ls opens_local (local_of ls n) k >>= made all.tree)) (two_more all.end)))))
    where
      two_more : (k : ℕ) → k + 1 + 1 ≡ k + 2
      two_more k = omega arith

      made : List Formal → Part (List Local) → Reading (Part Args)
      made formals locals = Ok (part (args.Listed at formals locals.tree) locals.end)

      list_in : Part (List Formal) → Reading (Part (List Formal))
      list_in all = past ls all.end lex.CloseParen (if first_led (λ f. f.fdir) all.tree then Ok (part all.tree (all.end + 1)) else Err (at + 1))

      behind_list : Part (List Formal) → Reading (Part Args)
      behind_list all = locals_by ls n all.end >>= made all.tree

  args_same : args_of ls n at ≡ args_by ls n at
  args_same = choice_like (is_at ls at lex.OpenParen) (listed_args ls n at) (declared_args ls n at) (listed_by ls n at) (declared_args ls n at) listed_same refl

  pdecl_same : pdecl_of ls n at ≡ pdecl_by ls n at
  pdecl_same =
      sym (bind_like (maybe_of ls opens_lead (lead_of ls n) at) (λ t. binding_of ls n t.end >>= made t)
      (λ t. named ls t.end (value_of ls n (t.end + 1) >>= λ e. made t (part (bound t e) e.end)))
      (λ t. test_bind (name_in (slice_get ls t.end)) (value_of ls n (t.end + 1) >>= λ e. Ok (part (bound t e) e.end)) t.end (made t)
      ∙ test_like (name_in (slice_get ls t.end)) ((value_of ls n (t.end + 1) >>= λ e. Ok (part (bound t e) e.end)) >>= made t)
      (value_of ls n (t.end + 1) >>= λ e. made t (part (bound t e) e.end)) t.end
      (bind_bind (value_of ls n (t.end + 1)) (λ e. Ok (part (bound t e) e.end)) (made t))))
    where
      bound : Part (Option Ptype) → Part Expr → Binding
      bound t e = record { at = t.end; name = t.end; value = e.tree }

      made : Part (Option Ptype) → Part Binding → Reading (Part Pdecl)
      made t b = Ok (part (record { at = at; ptype = t.tree; name = b.tree.name; value = b.tree.value }) b.end)

  port_same : port_of ls n at ≡ port_by ls n at
  port_same =
      sym (bind_like (maybe_of ls opens_dir (dir_of ls n) at) (λ d. declared_of ls n d.end >>= made d)
      (λ d. named ls d.end (default_of ls n (d.end + 1) >>= λ e. made d (part (named_in d e) e.end)))
      (λ d. test_bind (name_in (slice_get ls d.end)) (default_of ls n (d.end + 1) >>= λ e. Ok (part (named_in d e) e.end)) d.end (made d)
      ∙ test_like (name_in (slice_get ls d.end)) ((default_of ls n (d.end + 1) >>= λ e. Ok (part (named_in d e) e.end)) >>= made d)
      (default_of ls n (d.end + 1) >>= λ e. made d (part (named_in d e) e.end)) d.end
      (bind_bind (default_of ls n (d.end + 1)) (λ e. Ok (part (named_in d e) e.end)) (made d))))
    where
      named_in : Part (Option Dir) → Part (Option Expr) → Declared
      named_in d e = record { at = d.end; name = d.end; value = e.tree }

      made : Part (Option Dir) → Part Declared → Reading (Part Port)
      made d b = Ok (part (record { at = at; dir = d.tree; name = b.tree.name; value = b.tree.value }) b.end)

  pub range_gives : (r : Result (Part Range) ParseError) → Gives r (range_by ls n at) → Gives r (range_of ls n at)
  range_gives r g = gives_along r _ _ range_same g

  pub local_gives : (r : Result (Part Local) ParseError) → Gives r (local_by ls n at) → Gives r (local_of ls n at)
  local_gives r g = gives_along r _ _ local_same g

  pub arg_gives : (r : Result (Part Arg) ParseError) → Gives r (arg_by ls n at) → Gives r (arg_of ls n at)
  arg_gives r g = gives_along r _ _ arg_same g

  pub args_gives : (r : Result (Part Args) ParseError) → Gives r (args_by ls n at) → Gives r (args_of ls n at)
  args_gives r g = gives_along r _ _ args_same g

  pub pdecl_gives : (r : Result (Part Pdecl) ParseError) → Gives r (pdecl_by ls n at) → Gives r (pdecl_of ls n at)
  pdecl_gives r g = gives_along r _ _ pdecl_same g

  pub port_gives : (r : Result (Part Port) ParseError) → Gives r (port_by ls n at) → Gives r (port_of ls n at)
  port_gives r g = gives_along r _ _ port_same g

module _ (ls : List Terminal) (names : List (List ℕ)) (n at : ℕ) where
  task_same : task_of ls names n at ≡ task_by ls names n at
  task_same =
      test_like (is_at ls at lex.Task) (named ls (at + 1) whole) (named ls (at + 1) made) at
      (test_like (name_in (slice_get ls (at + 1))) whole made (at + 1)
      (both_ended ls lex.Endtask (args_of ls n) (stmt_of ls names n) task_in (at + 2)))
    where
      task_in : Args × Stmt → Task
      task_in t = record { at = at; name = at + 1; args = t.0; body = t.1 }

      whole : Reading (Part Task)
      whole = args_of ls n (at + 2) >>= λ all. stmt_of ls names n all.end >>= λ s. past ls s.end lex.Endtask (Ok (part (task_in (all.tree, s.tree)) (s.end + 1)))

      made : Reading (Part Task)
      made = made_of task_in (ended_of ls lex.Endtask (pair_of (args_of ls n) (stmt_of ls names n)) (at + 2))

  function_same : function_of ls names n at ≡ function_by ls names n at
  function_same =
      test_like (is_at ls at lex.Function)
      (ptype_of ls n (at + 1) >>= λ t. inputs_of ls n t.end >>= λ all. stmt_of ls names n all.end >>= λ s.
      past ls s.end lex.Endfunction (made t (part (all.tree, s.tree) (s.end + 1))))
      (ptype_of ls n (at + 1) >>= λ t. body_by ls names n t.end >>= made t) at
      (sym (bind_like (ptype_of ls n (at + 1)) (λ t. body_by ls names n t.end >>= made t)
      (λ t. inputs_of ls n t.end >>= λ all. stmt_of ls names n all.end >>= λ s. past ls s.end lex.Endfunction (made t (part (all.tree, s.tree) (s.end + 1))))
      (λ t. pair_bind (inputs_of ls n) (ended_of ls lex.Endfunction (stmt_of ls names n)) t.end (made t)
      ∙ bind_like (inputs_of ls n t.end)
      (λ all. ended_of ls lex.Endfunction (stmt_of ls names n) all.end >>= λ s. made t (part (all.tree, s.tree) s.end))
      (λ all. stmt_of ls names n all.end >>= λ s. past ls s.end lex.Endfunction (made t (part (all.tree, s.tree) (s.end + 1))))
      (λ all. ended_bind ls lex.Endfunction (stmt_of ls names n) all.end (λ s. made t (part (all.tree, s.tree) s.end))))))
    where
      made : Part Ptype → Part (Args × Stmt) → Reading (Part Function)
      made t b = Ok (part (record { at = at; ptype = t.tree; name = t.end; args = b.tree.0; body = b.tree.1 }) b.end)

  item_same : (s : ItemStart) → item_by ls names n at s ≡ item_read ls names n at s
  item_same (start.Params w) =
      both_ended ls lex.Semicolon (ptype_of ls n) (separated_of ls lex.Comma (binding_of ls n)) (λ t. item.Params at w t.0 t.1) (at + 1)
  item_same start.Wires =
      both_ended ls lex.Semicolon (size_of ls n) (separated_of ls lex.Comma (declared_of ls n)) (λ t. item.Wires at t.0.signed t.0.range t.1) (at + 1)
  item_same start.Regs =
      both_ended ls lex.Semicolon (size_of ls n) (separated_of ls lex.Comma (rname_of ls n)) (λ t. item.Regs at t.0.signed t.0.range t.1) (at + 1)
  item_same start.Integers = one_ended ls lex.Semicolon (separated_of ls lex.Comma (declared_of ls n)) (item.Integers at) (at + 1)
  item_same start.Assigns = one_ended ls lex.Semicolon (separated_of ls lex.Comma (binding_of ls n)) (item.Assigns at) (at + 1)
  item_same start.Instances =
      sym (bind_like (maybe_of ls opens_params (override_of ls n) (at + 1))
      (λ c. ended_of ls lex.Semicolon (separated_of ls lex.Comma (instance_of ls n)) c.end >>= λ all. Ok (part (item.Instances at at c.tree all.tree) all.end))
      (λ c. separated_of ls lex.Comma (instance_of ls n) c.end >>= λ all.
      past ls all.end lex.Semicolon (Ok (part (item.Instances at at c.tree all.tree) (all.end + 1))))
      (λ c. ended_bind ls lex.Semicolon (separated_of ls lex.Comma (instance_of ls n)) c.end (λ all. Ok (part (item.Instances at at c.tree all.tree) all.end))))
  item_same start.Always = refl
  item_same start.Initial = refl
  item_same start.Task = refl
  item_same start.Function = refl
  item_same start.Import = refl
  item_same start.Nothing = refl

  module_same : module_of ls names n at ≡ module_by ls names n at
  module_same =
      test_like (is_at ls at lex.Module) (named ls (at + 1) whole) (named ls (at + 1) (header_by ls n (at + 2) >>= behind_header)) at
      (test_like (name_in (slice_get ls (at + 1))) whole (header_by ls n (at + 2) >>= behind_header) (at + 1)
      (sym (pair_bind (maybe_of ls opens_params (params_of ls n)) (port_list ls n) (at + 2) behind_header
      ∙ bind_like (maybe_of ls opens_params (params_of ls n) (at + 2))
      (λ params. port_list ls n params.end >>= λ ports. behind_header (part (params.tree, ports.tree) ports.end))
      (λ params. maybe_of ls opens_ports (ports_of ls n) params.end >>= λ ports.
      past ls ports.end lex.Semicolon (behind_header (part (params.tree, ports.tree) (ports.end + 1))))
      (λ params. ended_bind ls lex.Semicolon (maybe_of ls opens_ports (ports_of ls n)) params.end
      (λ ports. behind_header (part (params.tree, ports.tree) ports.end))))))
    where
      behind_header : Part (Option (List Pdecl) × Option (List Port)) → Reading (Part Module)
      behind_header h =
          items_of ls names n h.end >>= λ items.
          Ok (part (record { at = at; name = at + 1; params = h.tree.0; ports = h.tree.1; items = items.tree }) items.end)

      whole : Reading (Part Module)
      whole =
          maybe_of ls opens_params (params_of ls n) (at + 2) >>= λ params. maybe_of ls opens_ports (ports_of ls n) params.end >>= λ ports.
          past ls ports.end lex.Semicolon (behind_header (part (params.tree, ports.tree) (ports.end + 1)))

  pub task_gives : (r : Result (Part Task) ParseError) → Gives r (task_by ls names n at) → Gives r (task_of ls names n at)
  task_gives r g = gives_along r _ _ task_same g

  pub function_gives : (r : Result (Part Function) ParseError) → Gives r (function_by ls names n at) → Gives r (function_of ls names n at)
  function_gives r g = gives_along r _ _ function_same g

  pub item_gives : (r : Result (Part Item) ParseError) (s : ItemStart) → s ≡ item_start (slice_get ls at) (is_at ls (at + 1) lex.Dpi) →
      Gives r (item_read ls names n at s) → Gives r (item_of ls names n at)
  item_gives r s e g = gives_along r _ _ (ap (item_by ls names n at) (sym e) ∙ item_same s) g

  pub module_gives : (r : Result (Part Module) ParseError) → Gives r (module_by ls names n at) → Gives r (module_of ls names n at)
  module_gives r g = gives_along r _ _ module_same g
