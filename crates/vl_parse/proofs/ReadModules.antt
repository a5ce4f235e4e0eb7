-- Modules of the grammar are read, and so is a source.
use Rattle.std.proofs.Common.{◌≡◌, ◌≤◌, ◌<◌, ◌&&◌, ◌||◌, ℕ, zero, suc, ◌+◌, List, [], ◌∷◌, Option, Some, None, Bool, true, false, cond, Ok, Err, slice_get, length, refl, sym, ap, subst, ◌∙◌, lit<, arith, rules}
use Rattle.std.specs.Prelude.{is_some, not}
use Rattle.std.proofs.lemmas.Bool.{and_from, and_left, and_right, or_from, or_left, or_right, both_ways}
use Rattle.std.proofs.lemmas.Option.{slice_get_past}
use Rattle.vl_tree.specs.declared.terminals.Terminal.{Terminal}
use Rattle.vl_tree.specs.declared.terminals.Terminal.TheVariants as lex
use Rattle.vl_tree.specs.declared.exprs.Expr.{Expr}
use Rattle.vl_tree.specs.declared.modules.Tree.{Tree}
use Rattle.vl_tree.specs.declared.modules.Module.{Module}
use Rattle.vl_tree.specs.declared.modules.Pdecl.{Pdecl}
use Rattle.vl_tree.specs.declared.modules.Ptype.{Ptype}
use Rattle.vl_tree.specs.declared.modules.Port.{Port}
use Rattle.vl_tree.specs.declared.modules.Dir.{Dir}
use Rattle.vl_tree.specs.declared.modules.Dir.TheVariants as dir
use Rattle.vl_tree.specs.declared.modules.Direction.{Direction}
use Rattle.vl_tree.specs.declared.modules.Direction.TheVariants as direction
use Rattle.vl_tree.specs.declared.modules.Item.{Item}
use Rattle.vl_tree.specs.declared.modules.ParamWord.{ParamWord}
use Rattle.vl_tree.specs.declared.modules.ParamWord.TheVariants as word
use Rattle.vl_tree.specs.declared.modules.Binding.{Binding}
use Rattle.vl_tree.specs.declared.modules.Declared.{Declared}
use Rattle.vl_tree.specs.declared.modules.Rname.{Rname}
use Rattle.vl_tree.specs.declared.modules.Instance.{Instance}
use Rattle.vl_tree.specs.declared.modules.Conns.{Conns}
use Rattle.vl_tree.specs.declared.modules.Named.{Named}
use Rattle.vl_tree.specs.Places.{At, IsName, name_in}
use Rattle.vl_tree.specs.Lists.{Commas, MaybeCommas, Many, Maybe, Flag, first_led}
use Rattle.vl_tree.specs.Expressions.{IsExpr, IsExprs, ends_expr}
use Rattle.vl_tree.specs.Statements.{IsStmt}
use Rattle.vl_tree.specs.Modules.{IsValue, IsLead, IsPdecl, IsDir, IsPort, IsBinding, IsDeclared, IsRname, IsNamed, IsConns, IsOverride, IsInstance, IsParamWord, IsItem, IsParams, IsPorts, IsModule, IsSource, values_fit}
use Rattle.vl_tree.specs.Routines.{IsDirection, IsTask, IsFunction, IsImport}
use Rattle.vl_expr.specs.Classes.{is_at, is_in}
use Rattle.vl_expr.specs.Reading.{Reading}
use Rattle.vl_expr.proofs.Results.{past_at, in_is_true}
use Rattle.vl_expr.proofs.Primaries.{bind_at, if_true, if_false, not_at}
use Rattle.vl_expr.proofs.Begins.{begins, level_begins, exprs_begin, level_moves, exprs_move}
use Rattle.vl_parse.specs.declared.part.Part.{Part}
use Rattle.vl_parse.specs.declared.classes.ItemStart.{ItemStart}
use Rattle.vl_parse.specs.declared.classes.ItemStart.TheVariants as start
use Rattle.vl_parse.specs.Parts.{part, behind, maybe_of, many_of}
use Rattle.vl_parse.specs.Declarations.{expr_at, value_of, opens_value, binding_of, range_of, size_of}
use Rattle.vl_parse.specs.Statements.{stmt_of}
use Rattle.vl_parse.specs.Routines.{direction_of, opens_dir}
use Rattle.vl_parse.specs.Modules
use Rattle.vl_parse.specs.Modules.{default_of, lead_of, opens_lead, pdecl_of, dir_of, dir_by, port_of, declared_of, rname_of, named_of, conns_of, override_of, opens_params, opens_any, instance_of, item_start, item_by, item_of, opens_item, params_of, ports_of, opens_ports, module_of, opens_module, source_of}
use Rattle.vl_parse.proofs.Parts.{Reads, Runs, many_reads, many_moves, many_runs, named_at}
use Rattle.vl_parse.proofs.Expressions.{expr_reads, exprs_read_at}
use Rattle.vl_parse.proofs.Follow.{not_in, in_class, off_class, there, class_there, separates, closes_at, by_range, by_size, range_by_size, begins_stmt, no_else, not_else, else_not}
use Rattle.vl_parse.proofs.ReadDeclarations.{maybe_reads, maybe_begins, maybe_moves, flag_reads, flag_begins, FlagReads, commas_begin, commas_read, commas_move, listed_reads, listed_move, value_reads, binding_reads, range_reads, range_opens, range_moves, size_reads, SizeReads, ptype_reads, ptype_moves}
use Rattle.vl_parse.proofs.ReadStatements.{stmt_reads, stmt_moves}
use Rattle.vl_parse.proofs.ReadRoutines.{dir_or_name, direction_reads, direction_opens, name_no_dir, task_reads, task_moves, function_reads, function_moves, import_reads, import_moves}

-- a name or what stands before one
abbrev lead_or_name : Option Terminal → Bool
lead_or_name o = is_in o lex.Parameter || name_in o

-- `wire` or what a size begins with
abbrev wire_or_size : Option Terminal → Bool
wire_or_size o = is_in o lex.Wire || by_size o

-- what a list of connections begins with
abbrev conn_begins : Option Terminal → Bool
conn_begins o = is_in o lex.Dot || begins o

abbrev hash_or_name : Option Terminal → Bool
hash_or_name o = is_in o lex.Hash || name_in o

abbrev paren_or_semicolon : Option Terminal → Bool
paren_or_semicolon o = is_in o lex.OpenParen || is_in o lex.Semicolon

abbrev equals_or_end : Option Terminal → Bool
equals_or_end o = is_in o lex.Equals || separates o

abbrev is_nothing : ItemStart → Bool
is_nothing start.Nothing = true
is_nothing _ = false

-- whether an item can begin with a token
abbrev begins_item : Option Terminal → Bool
begins_item o = not (is_nothing (item_start o false))

not_true : {b : Bool} → b ≡ false → not b ≡ true
not_true e = rw e refl

not_false : {b : Bool} → b ≡ true → not b ≡ false
not_false e = rw e refl

module _ (ls : List Terminal) (n : ℕ) where
  -- a value is there exactly where an equals sign is
  default_reads : {i j : ℕ} {e : Option Expr} → Maybe (IsValue ls n) i j e → Reads ls (default_of ls n) separates i j e
  default_reads {j = j} m = record {
    moves = maybe_moves (λ k x a. (value_reads ls n a).moves) m;
    is = λ s. maybe_reads ls opens_value (value_of ls n) (λ k x a. (value_reads ls n a).is s) (λ k x a. value_opens a) (not_in separates lex.Equals refl (slice_get ls j) s) m;
  }
    where
      value_opens : {k : ℕ} {e : Expr} → IsValue ls n k j e → opens_value (slice_get ls k) ≡ true
      value_opens {k = k} (IsValue.value h a) = in_is_true (slice_get ls k) lex.Equals h

  pdecl_reads : {i j : ℕ} {p : Pdecl} → IsPdecl ls n i j p → Reads ls (pdecl_of ls n) separates i j p
  pdecl_reads (IsPdecl.pdecl {j = j} m h a) = record {
    moves = let p = maybe_moves (λ k x a. lead_moves a) m in let q = (value_reads ls n a).moves in omega arith;
    is = λ s.
        bind_at _ (maybe_reads ls opens_lead (lead_of ls n) (λ k x a. lead_reads a) (λ k x a. lead_opens a) (not_in name_in lex.Parameter refl (slice_get ls j) h) m)
        ∙ named_at ls j _ h ∙ bind_at _ ((value_reads ls n a).is s);
  }
    where
      lead_reads : {k : ℕ} {t : Ptype} → IsLead ls n k j t → lead_of ls n k ≡ Ok (part t j)
      lead_reads {k = k} (IsLead.lead o t) = past_at ls k lex.Parameter _ o ∙ ptype_reads ls n t h

      lead_opens : {k : ℕ} {t : Ptype} → IsLead ls n k j t → opens_lead (slice_get ls k) ≡ true
      lead_opens {k = k} (IsLead.lead o t) = in_is_true (slice_get ls k) lex.Parameter o

      lead_moves : {k : ℕ} {t : Ptype} → IsLead ls n k j t → k ≤ j
      lead_moves (IsLead.lead o t) = let p = ptype_moves ls n t h in omega arith

  dir_reads : {i j : ℕ} {d : Dir} → IsDir ls n i j d → name_in (slice_get ls j) ≡ true → dir_of ls n i ≡ Ok (part d j)
  dir_reads {i = i} {j = j} (IsDir.net_port {j = k} {d = d} {signed = signed} {range = range} a f g r) h =
      let s = size_reads ls n g r h in
      let w = flag_reads f (not_in by_size lex.Wire refl (slice_get ls k) s.begins) in
      let c = flag_begins wire_or_size refl (or_right (is_in (slice_get ls k) lex.Wire) (by_size (slice_get ls k)) s.begins) f in
      ap (dir_by ls n i) (direction_reads a)
      ∙ if_false _ _ _ (and_right (is_at ls i lex.Output) (is_at ls (i + 1) lex.Reg) (not_in wire_or_size lex.Reg refl (slice_get ls (i + 1)) c))
      ∙ bind_at _ (ap (size_of ls n) w.end ∙ s.is)
      ∙ ap (λ b. Ok (part (dir.Net i d b signed range) j)) w.is
  dir_reads {i = i} (IsDir.reg_port o a g r) h =
      let s = size_reads ls n g r h in
      ap (dir_by ls n i) (direction_reads {ls = ls} {i = i} (IsDirection.output o))
      ∙ if_true _ _ _ (and_from (is_at ls i lex.Output) (is_at ls (i + 1) lex.Reg) (in_is_true (slice_get ls i) lex.Output o) (in_is_true (slice_get ls (i + 1)) lex.Reg a))
      ∙ bind_at _ s.is

  dir_opens : {i j : ℕ} {d : Dir} → IsDir ls n i j d → opens_dir (slice_get ls i) ≡ true
  dir_opens (IsDir.net_port a f g r) = direction_opens a
  dir_opens {i = i} (IsDir.reg_port o a g r) = direction_opens {ls = ls} {i = i} (IsDirection.output o)

  dir_moves : {i j : ℕ} {d : Dir} → IsDir ls n i j d → name_in (slice_get ls j) ≡ true → i ≤ j
  dir_moves (IsDir.net_port {j = k} a f g r) h =
      let s = size_reads ls n g r h in
      let w = flag_reads f (not_in by_size lex.Wire refl (slice_get ls k) s.begins) in
      let p = s.moves in let q = w.moves in omega arith
  dir_moves (IsDir.reg_port o a g r) h = let s = size_reads ls n g r h in let p = s.moves in omega arith

  port_reads : {i j : ℕ} {p : Port} → IsPort ls n i j p → Reads ls (port_of ls n) separates i j p
  port_reads (IsPort.port {j = j} m h e) = record {
    moves = let p = maybe_moves (λ k x a. dir_moves a h) m in let q = (default_reads e).moves in omega arith;
    is = λ s.
        bind_at _ (maybe_reads ls opens_dir (dir_of ls n) (λ k x a. dir_reads a h) (λ k x a. dir_opens a) (name_no_dir (slice_get ls j) h) m)
        ∙ named_at ls j _ h ∙ bind_at _ ((default_reads e).is s);
  }

  port_begins : {i j : ℕ} {p : Port} → IsPort ls n i j p → is_at ls i lex.CloseParen ≡ false
  port_begins {i = i} (IsPort.port {j = j} m h e) =
      not_in dir_or_name lex.CloseParen refl (slice_get ls i)
      (maybe_begins ls dir_or_name (λ k x a. or_left (opens_dir (slice_get ls k)) (name_in (slice_get ls k)) (dir_opens a))
      (or_right (opens_dir (slice_get ls j)) (name_in (slice_get ls j)) h) m)

  declared_reads : {i j : ℕ} {d : Declared} → IsDeclared ls n i j d → Reads ls (declared_of ls n) separates i j d
  declared_reads {i = i} (IsDeclared.declared h e) = record {
    moves = let p = (default_reads e).moves in omega arith;
    is = λ s. named_at ls i _ h ∙ bind_at _ ((default_reads e).is s);
  }

  declared_begins : {i j : ℕ} {d : Declared} → IsDeclared ls n i j d → name_in (slice_get ls i) ≡ true
  declared_begins (IsDeclared.declared h e) = h

  rname_reads : {i j : ℕ} {r : Rname} → IsRname ls n i j r → Reads ls (rname_of ls n) separates i j r
  rname_reads {i = i} {j = j} (IsRname.variable h e) = record {
    moves = let p = (default_reads e).moves in omega arith;
    is = λ s.
        named_at ls i _ h
        ∙ if_false _ _ _ (not_in equals_or_end lex.OpenBracket refl (slice_get ls (i + 1))
        (maybe_begins ls equals_or_end (λ k x a. value_equals a) (or_right (is_in (slice_get ls j) lex.Equals) (separates (slice_get ls j)) s) e))
        ∙ bind_at _ ((default_reads e).is s);
  }
    where
      value_equals : {k : ℕ} {e : Expr} → IsValue ls n k j e → equals_or_end (slice_get ls k) ≡ true
      value_equals (IsValue.value h a) = in_class equals_or_end lex.Equals h refl
  rname_reads {i = i} (IsRname.memory h r) = record {
    moves = let p = range_moves ls n r in omega arith;
    is = λ s.
        named_at ls i _ h ∙ if_true _ _ _ (in_is_true (slice_get ls (i + 1)) lex.OpenBracket (range_opens ls n r))
        ∙ bind_at _ (range_reads ls n r);
  }

  rname_begins : {i j : ℕ} {r : Rname} → IsRname ls n i j r → name_in (slice_get ls i) ≡ true
  rname_begins (IsRname.variable h e) = h
  rname_begins (IsRname.memory h r) = h

  named_reads : {i j : ℕ} {a : Named} → IsNamed ls n i j a → Reads ls (named_of ls n) separates i j a
  named_reads {i = i} (IsNamed.named {j = j} d h o e c) = record {
    moves = let p = maybe_moves (λ k x a. expr_moves a) e in omega arith;
    is = λ s.
        past_at ls i lex.Dot _ d ∙ named_at ls (i + 1) _ h ∙ past_at ls (i + 2) lex.OpenParen _ o
        ∙ bind_at _ (maybe_reads ls opens_any (expr_at ls n) (λ k x a. expr_reads ls n a (ap ends_expr c)) (λ k x a. expr_opens a)
        (not_false (in_is_true (slice_get ls j) lex.CloseParen c)) e)
        ∙ past_at ls j lex.CloseParen _ c;
  }
    where
      expr_moves : {k : ℕ} {e : Expr} → IsExpr ls n k j e → k ≤ j
      expr_moves a = let p = level_moves a in omega arith

      expr_opens : {k : ℕ} {e : Expr} → IsExpr ls n k j e → opens_any (slice_get ls k) ≡ true
      expr_opens {k = k} a = not_true (not_in begins lex.CloseParen refl (slice_get ls k) (level_begins a))

  named_dots : {i j : ℕ} {a : Named} → IsNamed ls n i j a → At ls i lex.Dot
  named_dots (IsNamed.named d h o e c) = d

  conns_read : {i j : ℕ} {c : Conns} → IsConns ls n i j c → At ls j lex.CloseParen → conns_of ls n i ≡ Ok (part c j)
  conns_read {i = i} (IsConns.ordered a) h =
      if_false _ _ _ (not_in begins lex.Dot refl (slice_get ls i) (exprs_begin a))
      ∙ bind_at _ (exprs_read_at ls n a (closes_at lex.CloseParen h (record { above = lit< tt }) refl refl))
  conns_read {i = i} (IsConns.by_name a) h =
      if_true _ _ _ (commas_begin (λ o. is_in o lex.Dot) (λ k m t b. in_is_true (slice_get ls k) lex.Dot (named_dots b)) a)
      ∙ bind_at _ (commas_read ls (named_of ls n) (λ a b t r. named_reads r) lex.CloseParen refl refl h a)

  conns_move : {i j : ℕ} {c : Conns} → IsConns ls n i j c → i ≤ j
  conns_move (IsConns.ordered a) = let p = exprs_move a in omega arith
  conns_move (IsConns.by_name a) = commas_move ls (named_of ls n) (λ a b t r. named_reads r) a

  conns_open : {i j : ℕ} {c : Conns} → IsConns ls n i j c → opens_any (slice_get ls i) ≡ true
  conns_open {i = i} (IsConns.ordered a) = not_true (not_in begins lex.CloseParen refl (slice_get ls i) (exprs_begin a))
  conns_open {i = i} (IsConns.by_name a) =
      not_true (not_in (λ o. is_in o lex.Dot) lex.CloseParen refl (slice_get ls i)
      (commas_begin (λ o. is_in o lex.Dot) (λ k m t b. in_is_true (slice_get ls k) lex.Dot (named_dots b)) a))

  override_reads : {i j : ℕ} {c : Conns} → IsOverride ls n i j c → override_of ls n i ≡ Ok (part c j)
  override_reads {i = i} (IsOverride.override {j = j} h o a c) =
      past_at ls i lex.Hash _ h ∙ past_at ls (i + 1) lex.OpenParen _ o ∙ bind_at _ (conns_read a c) ∙ past_at ls j lex.CloseParen _ c

  override_opens : {i j : ℕ} {c : Conns} → IsOverride ls n i j c → opens_params (slice_get ls i) ≡ true
  override_opens {i = i} (IsOverride.override h o a c) = in_is_true (slice_get ls i) lex.Hash h

  override_moves : {i j : ℕ} {c : Conns} → IsOverride ls n i j c → i ≤ j
  override_moves (IsOverride.override h o a c) = let p = conns_move a in omega arith

  instance_reads : {i j : ℕ} {a : Instance} → IsInstance ls n i j a → Reads ls (instance_of ls n) separates i j a
  instance_reads {i = i} (IsInstance.«instance» {j = j} h o m c) = record {
    moves = let p = maybe_moves (λ k x a. conns_move a) m in omega arith;
    is = λ s.
        named_at ls i _ h ∙ past_at ls (i + 1) lex.OpenParen _ o
        ∙ bind_at _ (maybe_reads ls opens_any (conns_of ls n) (λ k x a. conns_read a c) (λ k x a. conns_open a)
        (not_false (in_is_true (slice_get ls j) lex.CloseParen c)) m)
        ∙ past_at ls j lex.CloseParen _ c;
  }

  instance_begins : {i j : ℕ} {a : Instance} → IsInstance ls n i j a → name_in (slice_get ls i) ≡ true
  instance_begins (IsInstance.«instance» h o m c) = h

  binding_begins : {i j : ℕ} {b : Binding} → IsBinding ls n i j b → name_in (slice_get ls i) ≡ true
  binding_begins (IsBinding.binding h a) = h

  params_read : {i j : ℕ} {all : List Pdecl} → IsParams ls n i j all → params_of ls n i ≡ Ok (part all j)
  params_read {i = i} (IsParams.params_of_module {j = j} h o a led c) =
      past_at ls i lex.Hash _ h ∙ past_at ls (i + 1) lex.OpenParen _ o
      ∙ bind_at _ (commas_read ls (pdecl_of ls n) (λ a b t r. pdecl_reads r) lex.CloseParen refl refl c a) ∙ past_at ls j lex.CloseParen _ c ∙ if_true _ _ _ led

  params_open : {i j : ℕ} {all : List Pdecl} → IsParams ls n i j all → At ls i lex.Hash
  params_open (IsParams.params_of_module h o a led c) = h

  params_move : {i j : ℕ} {all : List Pdecl} → IsParams ls n i j all → i ≤ j
  params_move (IsParams.params_of_module h o a led c) = let p = commas_move ls (pdecl_of ls n) (λ a b t r. pdecl_reads r) a in omega arith

  ports_read : {i j : ℕ} {all : List Port} → IsPorts ls n i j all → ports_of ls n i ≡ Ok (part all j)
  ports_read {i = i} (IsPorts.ports {j = j} o a led fit c) =
      past_at ls i lex.OpenParen _ o ∙ bind_at _ (listed_reads ls (port_of ls n) (λ a b t r. port_reads r) (λ a b t r. port_begins r) c a) ∙ past_at ls j lex.CloseParen _ c
      ∙ if_true _ _ _ led ∙ if_true _ _ _ fit

  ports_open : {i j : ℕ} {all : List Port} → IsPorts ls n i j all → At ls i lex.OpenParen
  ports_open (IsPorts.ports o a led fit c) = o

  ports_move : {i j : ℕ} {all : List Port} → IsPorts ls n i j all → i ≤ j
  ports_move (IsPorts.ports o a led fit c) = let p = listed_move ls (port_of ls n) (λ a b t r. port_reads r) a in omega arith

module _ (ls : List Terminal) (names : List (List ℕ)) (n : ℕ) where
  -- an item that begins with a token
  started : (i : ℕ) {j : ℕ} {t : Item} (x : Terminal) (s : ItemStart) → At ls i x → ((b : Bool) → item_start (Some x) b ≡ s) →
      item_by ls names n i s ≡ Ok (part t j) → item_of ls names n i ≡ Ok (part t j)
  started i x s h e r =
      ap (item_by ls names n i) (ap (λ o. item_start o (is_at ls (i + 1) lex.Dpi)) h ∙ e (is_at ls (i + 1) lex.Dpi)) ∙ r

  -- a name begins instances, if it isn't before the string of an import
  name_starts : (o : Option Terminal) → name_in o ≡ true → item_start o false ≡ start.Instances
  name_starts (Some lex.Identifier) e = refl
  name_starts (Some lex.Import) e = refl
  name_starts (Some lex.Context) e = refl
  name_starts (Some lex.Void) e = refl
  name_starts (Some lex.Bit) e = refl
  name_starts (Some lex.Byte) e = refl
  name_starts (Some lex.Shortint) e = refl
  name_starts (Some lex.Int) e = refl
  name_starts (Some lex.Longint) e = refl
  name_starts _ e = absurd (both_ways _ refl e)

  param_starts : {i j : ℕ} {w : ParamWord} → IsParamWord ls i j w → (b : Bool) → item_start (slice_get ls i) b ≡ start.Params w
  param_starts (IsParamWord.parameter h) b = ap (λ o. item_start o b) h
  param_starts (IsParamWord.localparam h) b = ap (λ o. item_start o b) h

  item_reads : {i j : ℕ} {t : Item} → IsItem ls names n i j t → no_else (slice_get ls j) ≡ true → item_of ls names n i ≡ Ok (part t j)
  item_reads {i = i} (IsItem.params {k = k} w t a c) e =
      ap (item_by ls names n i) (param_starts w (is_at ls (i + 1) lex.Dpi))
      ∙ bind_at _ (ptype_reads ls n t (commas_begin name_in (λ a b t r. binding_begins ls n r) a))
      ∙ bind_at _ (commas_read ls (binding_of ls n) (λ a b t r. binding_reads ls n r) lex.Semicolon refl refl c a) ∙ past_at ls k lex.Semicolon _ c
  item_reads (IsItem.wires {m = m} h f r a c) e =
      let s = size_reads ls n f r (commas_begin name_in (λ a b t r. declared_begins ls n r) a) in
      started _ lex.Wire start.Wires h (λ b. refl)
      (bind_at _ s.is ∙ bind_at _ (commas_read ls (declared_of ls n) (λ a b t r. declared_reads ls n r) lex.Semicolon refl refl c a) ∙ past_at ls m lex.Semicolon _ c)
  item_reads (IsItem.regs {m = m} h f r a c) e =
      let s = size_reads ls n f r (commas_begin name_in (λ a b t r. rname_begins ls n r) a) in
      started _ lex.Reg start.Regs h (λ b. refl)
      (bind_at _ s.is ∙ bind_at _ (commas_read ls (rname_of ls n) (λ a b t r. rname_reads ls n r) lex.Semicolon refl refl c a) ∙ past_at ls m lex.Semicolon _ c)
  item_reads (IsItem.integers {j = j} h a c) e =
      started _ lex.Integer start.Integers h (λ b. refl)
      (bind_at _ (commas_read ls (declared_of ls n) (λ a b t r. declared_reads ls n r) lex.Semicolon refl refl c a) ∙ past_at ls j lex.Semicolon _ c)
  item_reads (IsItem.assigns {j = j} h a c) e =
      started _ lex.Assign start.Assigns h (λ b. refl)
      (bind_at _ (commas_read ls (binding_of ls n) (λ a b t r. binding_reads ls n r) lex.Semicolon refl refl c a) ∙ past_at ls j lex.Semicolon _ c)
  item_reads {j = j} (IsItem.always {dangling = dangling} h s) e =
      started _ lex.Always start.Always h (λ b. refl) (bind_at _ (stmt_reads ls names s (and_right dangling (is_in (slice_get ls j) lex.Else) (else_not (slice_get ls j) e))))
  item_reads {j = j} (IsItem.initial {dangling = dangling} h s) e =
      started _ lex.Initial start.Initial h (λ b. refl) (bind_at _ (stmt_reads ls names s (and_right dangling (is_in (slice_get ls j) lex.Else) (else_not (slice_get ls j) e))))
  item_reads (IsItem.task (IsTask.task h m a s k)) e =
      started _ lex.Task start.Task h (λ b. refl) (bind_at _ (task_reads ls names n (IsTask.task h m a s k)))
  item_reads (IsItem.function (IsFunction.function h t b a fit s k)) e =
      started _ lex.Function start.Function h (λ b. refl) (bind_at _ (function_reads ls names n (IsFunction.function h t b a fit s k)))
  item_reads {i = i} (IsItem.«import» (IsImport.«import» a q f g r h o l c s)) e =
      ap (item_by ls names n i) (ap (λ o. item_start o (is_at ls (i + 1) lex.Dpi)) a ∙ ap (item_start (Some lex.Import)) (in_is_true (slice_get ls (i + 1)) lex.Dpi q))
      ∙ bind_at _ (import_reads ls n (IsImport.«import» a q f g r h o l c s))
  item_reads {i = i} (IsItem.instances {j = j} {k = k} h m a c) e =
      let named = commas_begin name_in (λ a b t r. instance_begins ls n r) a in
      let next = maybe_begins ls hash_or_name (λ k x b. or_left (is_in (slice_get ls k) lex.Hash) (name_in (slice_get ls k)) (override_opens ls n b))
      (or_right (is_in (slice_get ls j) lex.Hash) (name_in (slice_get ls j)) named) m in
      ap (item_by ls names n i) (ap (item_start (slice_get ls i)) (not_in hash_or_name lex.Dpi refl (slice_get ls (i + 1)) next) ∙ name_starts (slice_get ls i) h)
      ∙ bind_at _ (maybe_reads ls opens_params (override_of ls n) (λ k x b. override_reads ls n b) (λ k x b. override_opens ls n b) (not_in name_in lex.Hash refl (slice_get ls j) named) m)
      ∙ bind_at _ (commas_read ls (instance_of ls n) (λ a b t r. instance_reads ls n r) lex.Semicolon refl refl c a) ∙ past_at ls k lex.Semicolon _ c

  item_moves : {i j : ℕ} {t : Item} → IsItem ls names n i j t → i < j
  item_moves (IsItem.params w t a c) =
      let p = ptype_moves ls n t (commas_begin name_in (λ a b t r. binding_begins ls n r) a) in let q = commas_move ls (binding_of ls n) (λ a b t r. binding_reads ls n r) a in omega arith
  item_moves (IsItem.wires h f r a c) =
      let s = size_reads ls n f r (commas_begin name_in (λ a b t r. declared_begins ls n r) a) in
      let p = s.moves in let q = commas_move ls (declared_of ls n) (λ a b t r. declared_reads ls n r) a in omega arith
  item_moves (IsItem.regs h f r a c) =
      let s = size_reads ls n f r (commas_begin name_in (λ a b t r. rname_begins ls n r) a) in
      let p = s.moves in let q = commas_move ls (rname_of ls n) (λ a b t r. rname_reads ls n r) a in omega arith
  item_moves (IsItem.integers h a c) = let q = commas_move ls (declared_of ls n) (λ a b t r. declared_reads ls n r) a in omega arith
  item_moves (IsItem.assigns h a c) = let q = commas_move ls (binding_of ls n) (λ a b t r. binding_reads ls n r) a in omega arith
  item_moves (IsItem.always h s) = let q = stmt_moves ls names s in omega arith
  item_moves (IsItem.initial h s) = let q = stmt_moves ls names s in omega arith
  item_moves (IsItem.task t) = task_moves ls names n t
  item_moves (IsItem.function f) = function_moves ls names n f
  item_moves (IsItem.«import» m) = import_moves ls n m
  item_moves (IsItem.instances h m a c) =
      let p = maybe_moves (λ k x b. override_moves ls n b) m in let q = commas_move ls (instance_of ls n) (λ a b t r. instance_reads ls n r) a in omega arith

  param_begins : {i j : ℕ} {w : ParamWord} → IsParamWord ls i j w → begins_item (slice_get ls i) ≡ true
  param_begins (IsParamWord.parameter h) = in_class begins_item lex.Parameter h refl
  param_begins (IsParamWord.localparam h) = in_class begins_item lex.Localparam h refl

  -- what an item begins with
  item_begins : {i j : ℕ} {t : Item} → IsItem ls names n i j t → begins_item (slice_get ls i) ≡ true
  item_begins (IsItem.params w t a c) = param_begins w
  item_begins (IsItem.wires h f r a c) = in_class begins_item lex.Wire h refl
  item_begins (IsItem.regs h f r a c) = in_class begins_item lex.Reg h refl
  item_begins (IsItem.integers h a c) = in_class begins_item lex.Integer h refl
  item_begins (IsItem.assigns h a c) = in_class begins_item lex.Assign h refl
  item_begins (IsItem.always h s) = in_class begins_item lex.Always h refl
  item_begins (IsItem.initial h s) = in_class begins_item lex.Initial h refl
  item_begins (IsItem.task (IsTask.task h m a s k)) = in_class begins_item lex.Task h refl
  item_begins (IsItem.function (IsFunction.function h t b a fit s k)) = in_class begins_item lex.Function h refl
  item_begins (IsItem.«import» (IsImport.«import» a q f g r h o l c s)) = in_class begins_item lex.Import a refl
  item_begins {i = i} (IsItem.instances h m a c) = ap not (ap is_nothing (name_starts (slice_get ls i) h))

  item_runs : {i j : ℕ} {t : Item} → IsItem ls names n i j t → Runs ls (item_of ls names n) opens_item no_else i j t
  item_runs {i = i} a =
      let b = item_begins a in
      let some = class_there begins_item refl (slice_get ls i) b in
      record {
        begun = and_from (is_some (slice_get ls i)) (not (is_in (slice_get ls i) lex.Endmodule)) some
            (not_true (not_in begins_item lex.Endmodule refl (slice_get ls i) b));
        follows = not_else (slice_get ls i) (not_in begins_item lex.Else refl (slice_get ls i) b);
        within = there ls i some;
        moves = item_moves a;
        is = λ e. item_reads a e;
      }

  module_reads : {i j : ℕ} {m : Module} → IsModule ls names n i j m → module_of ls names n i ≡ Ok (part m j)
  module_reads {i = i} (IsModule.«module» {j = j} {k = k} {m = m} h a p q s t e) =
      let ports_next = maybe_begins ls paren_or_semicolon (λ k x b. in_class paren_or_semicolon lex.OpenParen (ports_open ls n b) refl)
      (in_class paren_or_semicolon lex.Semicolon s refl) q in
      past_at ls i lex.Module _ h ∙ named_at ls (i + 1) _ a
      ∙ bind_at _ (maybe_reads ls opens_params (params_of ls n) (λ k x b. params_read ls n b) (λ k x b. in_is_true (slice_get ls k) lex.Hash (params_open ls n b))
      (not_in paren_or_semicolon lex.Hash refl (slice_get ls j) ports_next) p)
      ∙ bind_at _ (maybe_reads ls opens_ports (ports_of ls n) (λ k x b. ports_read ls n b) (λ k x b. in_is_true (slice_get ls k) lex.OpenParen (ports_open ls n b))
      (not_at lex.Semicolon lex.OpenParen s refl) q)
      ∙ past_at ls k lex.Semicolon _ s
      ∙ bind_at _ (bind_at _ (many_reads ls (item_of ls names n) opens_item no_else (many_runs (λ a b u r. item_runs r) t)
      (off_class opens_item lex.Endmodule e refl) (in_class no_else lex.Endmodule e refl)) ∙ past_at ls m lex.Endmodule _ e)

  module_runs : {i j : ℕ} {m : Module} → IsModule ls names n i j m → Runs ls (module_of ls names n) opens_module (λ o. true) i j m
  module_runs {i = i} (IsModule.«module» h a p q s t e) =
      let some : is_some (slice_get ls i) ≡ true = ap is_some h in
      record {
        begun = some;
        follows = refl;
        within = there ls i some;
        moves =
            let u = maybe_moves (λ k x b. params_move ls n b) p in
            let v = maybe_moves (λ k x b. ports_move ls n b) q in
            let w = many_moves ls (item_of ls names n) opens_item no_else (many_runs (λ a b u r. item_runs r) t) in
            omega arith;
        is = λ d. module_reads (IsModule.«module» h a p q s t e);
      }

  pub source_reads : (tree : Tree) → IsSource ls names n tree → source_of ls names n ≡ Ok tree
  source_reads tree all =
      let none : is_some (slice_get ls (length ls)) ≡ false = ap is_some (slice_get_past ls (length ls) (omega arith)) in
      bind_at _ (many_reads ls (module_of ls names n) opens_module (λ o. true) (many_runs (λ a b t r. module_runs r) all) none refl) ∙ if_false _ _ _ none
