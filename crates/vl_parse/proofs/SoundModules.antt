-- Modules that are read are in the grammar, and so is a source.
use Rattle.std.proofs.Common.{◌≡◌, ◌≤◌, ◌<◌, ◌&&◌, ◌||◌, ℕ, zero, suc, ◌+◌, List, [], ◌∷◌, Option, Some, None, Bool, true, false, cond, Ok, Err, slice_get, length, refl, sym, ap, subst, ◌∙◌, arith, rules}
use Rattle.std.specs.Prelude.{is_some}
use Rattle.std.proofs.lemmas.Bool.{and_parts, both_ways}
use Rattle.std.proofs.lemmas.Option.{slice_get_within}
use Rattle.vl_tree.specs.declared.terminals.Terminal.{Terminal}
use Rattle.vl_tree.specs.declared.terminals.Terminal.TheVariants as lex
use Rattle.vl_tree.specs.declared.exprs.Expr.{Expr}
use Rattle.vl_tree.specs.declared.modules.Tree.{Tree}
use Rattle.vl_tree.specs.declared.modules.Module.{Module}
use Rattle.vl_tree.specs.declared.modules.Pdecl.{Pdecl}
use Rattle.vl_tree.specs.declared.modules.Ptype.{Ptype}
use Rattle.vl_tree.specs.declared.modules.Port.{Port}
use Rattle.vl_tree.specs.declared.modules.Dir.{Dir}
use Rattle.vl_tree.specs.declared.modules.Direction.{Direction}
use Rattle.vl_tree.specs.declared.modules.Item.{Item}
use Rattle.vl_tree.specs.declared.modules.ParamWord.{ParamWord}
use Rattle.vl_tree.specs.declared.modules.Binding.{Binding}
use Rattle.vl_tree.specs.declared.modules.Declared.{Declared}
use Rattle.vl_tree.specs.declared.modules.Rname.{Rname}
use Rattle.vl_tree.specs.declared.modules.Instance.{Instance}
use Rattle.vl_tree.specs.declared.modules.Conns.{Conns}
use Rattle.vl_tree.specs.declared.modules.Named.{Named}
use Rattle.vl_tree.specs.Places.{At, IsName}
use Rattle.vl_tree.specs.Lists.{Commas, MaybeCommas, Many, Maybe, Flag, first_led}
use Rattle.vl_tree.specs.Expressions.{IsExpr}
use Rattle.vl_tree.specs.Modules.{IsValue, IsLead, IsPdecl, IsDir, IsPort, IsBinding, IsDeclared, IsRname, IsNamed, IsConns, IsOverride, IsInstance, IsParamWord, IsItem, IsParams, IsPorts, IsModule, IsSource, values_fit}
use Rattle.vl_expr.specs.Classes.{is_at, is_in}
use Rattle.vl_expr.specs.Reading.{Reading}
use Rattle.vl_expr.proofs.Results.{ok_one, bind_ok, past_ok, cond_ok, was_true, was_false, is_in_true, test_ok}
use Rattle.vl_parse.specs.declared.part.Part.{Part}
use Rattle.vl_parse.specs.declared.classes.ItemStart.{ItemStart}
use Rattle.vl_parse.specs.declared.classes.ItemStart.TheVariants as start
use Rattle.vl_parse.specs.Parts.{part, behind}
use Rattle.vl_parse.specs.Declarations.{expr_at, value_of, opens_value, binding_of, range_of}
use Rattle.vl_parse.specs.Routines.{direction_of, opens_dir}
use Rattle.vl_parse.specs.Modules
use Rattle.vl_parse.specs.Modules.{default_of, lead_of, opens_lead, pdecl_of, dir_of, dir_by, port_of, declared_of, rname_of, named_of, conns_of, override_of, opens_params, opens_any, instance_of, item_start, item_by, item_of, opens_item, params_of, ports_of, opens_ports, module_of, opens_module, source_of}
use Rattle.vl_parse.proofs.Parts.{Sound, commas_stand, listed_stand, many_stand, maybe_stands, named_ok, flag_stands}
use Rattle.vl_parse.proofs.Expressions.{expr_stands, exprs_stand_at}
use Rattle.vl_parse.proofs.SoundDeclarations.{value_stands, binding_stands, range_stands, size_stands, ptype_stands}
use Rattle.vl_parse.proofs.SoundStatements.{stmt_stands}
use Rattle.vl_parse.proofs.SoundRoutines.{task_stands, function_stands, import_stands}
use Rattle.vl_parse.proofs.Tokens.{direction_is, starts_params, starts_wires, starts_regs, starts_integers, starts_assigns, starts_always, starts_initial, starts_instances}

-- no element at a place behind the last
none_behind : {X : Type 0} (xs : List X) (at : ℕ) → is_some (slice_get xs at) ≡ false → length xs ≤ at
none_behind [] at e = omega arith
none_behind (x ∷ xs) zero e = cc
none_behind (x ∷ xs) (suc at) e = let h = none_behind xs at e in omega arith

module _ (ls : List Terminal) (n : ℕ) where
  default_stands : (i : ℕ) (q : Part (Option Expr)) → default_of ls n i ≡ Ok q → Maybe (IsValue ls n) i q.end q.tree
  default_stands i q e = maybe_stands ls (IsValue ls n) (value_of ls n) (value_stands ls n) opens_value i q e

  lead_stands : Sound (IsLead ls n) (lead_of ls n)
  lead_stands = record {
    stands = λ i q e.
        let p = past_ok ls i lex.Parameter _ q e in
        IsLead.lead p.here ((ptype_stands ls n).stands (i + 1) q p.rest);
  }

  pdecl_stands : Sound (IsPdecl ls n) (pdecl_of ls n)
  pdecl_stands = record {
    stands = λ i q e.
        let a = bind_ok _ _ q e in
        let m = named_ok ls a.val.end _ q a.rest in
        let b = bind_ok _ _ q m.rest in
        subst (λ r. IsPdecl ls n i r.end r.tree) (ok_one b.rest)
        (IsPdecl.pdecl (maybe_stands ls (IsLead ls n) (lead_of ls n) lead_stands opens_lead i a.val a.first) m.here
        ((value_stands ls n).stands (a.val.end + 1) b.val b.first));
  }

  dir_by_stands : (i : ℕ) (o : Option Direction) (q : Part Dir) → direction_of (slice_get ls i) ≡ o → dir_by ls n i o ≡ Ok q → IsDir ls n i q.end q.tree
  dir_by_stands i None q is e = cc
  dir_by_stands i (Some d) q is e =
      let here = direction_is ls i (slice_get ls i) d refl is in
      elim (cond_ok (is_at ls i lex.Output && is_at ls (i + 1) lex.Reg) _ _ q e) [
        | was_true t r ↦
            let b = bind_ok _ _ q r in
            let s = size_stands ls n (i + 2) b.val b.first in
            let both = and_parts _ _ t in
            subst (λ r. IsDir ls n i r.end r.tree) (ok_one b.rest)
            (IsDir.reg_port (is_in_true (slice_get ls i) lex.Output both.0) (is_in_true (slice_get ls (i + 1)) lex.Reg both.1) s.flag s.range)
        | was_false t r ↦
            let b = bind_ok _ _ q r in
            let s = size_stands ls n (behind ls lex.Wire (i + 1)) b.val b.first in
            subst (λ r. IsDir ls n i r.end r.tree) (ok_one b.rest)
            (IsDir.net_port here (flag_stands ls lex.Wire (i + 1)) s.flag s.range)
      ]

  dir_stands : Sound (IsDir ls n) (dir_of ls n)
  dir_stands = record { stands = λ i q e. dir_by_stands i (direction_of (slice_get ls i)) q refl e }

  port_stands : Sound (IsPort ls n) (port_of ls n)
  port_stands = record {
    stands = λ i q e.
        let a = bind_ok _ _ q e in
        let m = named_ok ls a.val.end _ q a.rest in
        let b = bind_ok _ _ q m.rest in
        subst (λ r. IsPort ls n i r.end r.tree) (ok_one b.rest)
        (IsPort.port (maybe_stands ls (IsDir ls n) (dir_of ls n) dir_stands opens_dir i a.val a.first) m.here
        (default_stands (a.val.end + 1) b.val b.first));
  }

  declared_stands : Sound (IsDeclared ls n) (declared_of ls n)
  declared_stands = record {
    stands = λ i q e.
        let m = named_ok ls i _ q e in
        let b = bind_ok _ _ q m.rest in
        subst (λ r. IsDeclared ls n i r.end r.tree) (ok_one b.rest) (IsDeclared.declared m.here (default_stands (i + 1) b.val b.first));
  }

  rname_stands : Sound (IsRname ls n) (rname_of ls n)
  rname_stands = record {
    stands = λ i q e.
        let m = named_ok ls i _ q e in
        elim (cond_ok (is_at ls (i + 1) lex.OpenBracket) _ _ q m.rest) [
          | was_true t r ↦
              let b = bind_ok _ _ q r in
              subst (λ r. IsRname ls n i r.end r.tree) (ok_one b.rest) (IsRname.memory m.here ((range_stands ls n).stands (i + 1) b.val b.first))
          | was_false t r ↦
              let b = bind_ok _ _ q r in
              subst (λ r. IsRname ls n i r.end r.tree) (ok_one b.rest) (IsRname.variable m.here (default_stands (i + 1) b.val b.first))
        ];
  }

  named_stands : Sound (IsNamed ls n) (named_of ls n)
  named_stands = record {
    stands = λ i q e.
        let a = past_ok ls i lex.Dot _ q e in
        let m = named_ok ls (i + 1) _ q a.rest in
        let o = past_ok ls (i + 2) lex.OpenParen _ q m.rest in
        let b = bind_ok _ _ q o.rest in
        let c = past_ok ls b.val.end lex.CloseParen _ q b.rest in
        subst (λ r. IsNamed ls n i r.end r.tree) (ok_one c.rest)
        (IsNamed.named a.here m.here o.here
        (maybe_stands ls (IsExpr ls n) (expr_at ls n) (expr_stands ls n) opens_any (i + 3) b.val b.first) c.here);
  }

  conns_stand : Sound (IsConns ls n) (conns_of ls n)
  conns_stand = record {
    stands = λ i q e.
        elim (cond_ok (is_at ls i lex.Dot) _ _ q e) [
          | was_true t r ↦
              let b = bind_ok _ _ q r in
              subst (λ r. IsConns ls n i r.end r.tree) (ok_one b.rest)
              (IsConns.by_name (commas_stand ls (IsNamed ls n) (named_of ls n) named_stands i b.val b.first))
          | was_false t r ↦
              let b = bind_ok _ _ q r in
              subst (λ r. IsConns ls n i r.end r.tree) (ok_one b.rest) (IsConns.ordered ((exprs_stand_at ls n).stands i b.val b.first))
        ];
  }

  override_stands : Sound (IsOverride ls n) (override_of ls n)
  override_stands = record {
    stands = λ i q e.
        let a = past_ok ls i lex.Hash _ q e in
        let o = past_ok ls (i + 1) lex.OpenParen _ q a.rest in
        let b = bind_ok _ _ q o.rest in
        let c = past_ok ls b.val.end lex.CloseParen _ q b.rest in
        subst (λ r. IsOverride ls n i r.end r.tree) (ok_one c.rest)
        (IsOverride.override a.here o.here (conns_stand.stands (i + 2) b.val b.first) c.here);
  }

  instance_stands : Sound (IsInstance ls n) (instance_of ls n)
  instance_stands = record {
    stands = λ i q e.
        let m = named_ok ls i _ q e in
        let o = past_ok ls (i + 1) lex.OpenParen _ q m.rest in
        let b = bind_ok _ _ q o.rest in
        let c = past_ok ls b.val.end lex.CloseParen _ q b.rest in
        subst (λ r. IsInstance ls n i r.end r.tree) (ok_one c.rest)
        (IsInstance.«instance» m.here o.here
        (maybe_stands ls (IsConns ls n) (conns_of ls n) conns_stand opens_any (i + 2) b.val b.first) c.here);
  }

  params_stand : Sound (IsParams ls n) (params_of ls n)
  params_stand = record {
    stands = λ i q e.
        let a = past_ok ls i lex.Hash _ q e in
        let o = past_ok ls (i + 1) lex.OpenParen _ q a.rest in
        let b = bind_ok _ _ q o.rest in
        let c = past_ok ls b.val.end lex.CloseParen _ q b.rest in
        let t = test_ok (first_led (λ p. p.ptype) b.val.tree) _ (i + 2) q c.rest in
        subst (λ r. IsParams ls n i r.end r.tree) (ok_one t.rest)
        (IsParams.params_of_module a.here o.here
        (commas_stand ls (IsPdecl ls n) (pdecl_of ls n) pdecl_stands (i + 2) b.val b.first) t.holds c.here);
  }

  ports_stand : Sound (IsPorts ls n) (ports_of ls n)
  ports_stand = record {
    stands = λ i q e.
        let o = past_ok ls i lex.OpenParen _ q e in
        let b = bind_ok _ _ q o.rest in
        let c = past_ok ls b.val.end lex.CloseParen _ q b.rest in
        let t = test_ok (first_led (λ p. p.dir) b.val.tree) _ (i + 1) q c.rest in
        let u = test_ok (values_fit false b.val.tree) _ (Modules.misfit false b.val.tree) q t.rest in
        subst (λ r. IsPorts ls n i r.end r.tree) (ok_one u.rest)
        (IsPorts.ports o.here (listed_stand ls (IsPort ls n) (port_of ls n) port_stands (i + 1) b.val b.first) t.holds u.holds c.here);
  }

module _ (ls : List Terminal) (names : List (List ℕ)) (n : ℕ) where
  item_by_stands : (i : ℕ) (s : ItemStart) (q : Part Item) → item_start (slice_get ls i) (is_at ls (i + 1) lex.Dpi) ≡ s →
      item_by ls names n i s ≡ Ok q → IsItem ls names n i q.end q.tree
  item_by_stands i (start.Params w) q is e =
      let a = bind_ok _ _ q e in
      let b = bind_ok _ _ q a.rest in
      let c = past_ok ls b.val.end lex.Semicolon _ q b.rest in
      subst (λ r. IsItem ls names n i r.end r.tree) (ok_one c.rest)
      (IsItem.params (starts_params ls i (slice_get ls i) (is_at ls (i + 1) lex.Dpi) w refl is) ((ptype_stands ls n).stands (i + 1) a.val a.first)
      (commas_stand ls (IsBinding ls n) (binding_of ls n) (binding_stands ls n) a.val.end b.val b.first) c.here)
  item_by_stands i start.Wires q is e =
      let a = bind_ok _ _ q e in
      let b = bind_ok _ _ q a.rest in
      let c = past_ok ls b.val.end lex.Semicolon _ q b.rest in
      let s = size_stands ls n (i + 1) a.val a.first in
      subst (λ r. IsItem ls names n i r.end r.tree) (ok_one c.rest)
      (IsItem.wires (starts_wires _ _ is) s.flag s.range
      (commas_stand ls (IsDeclared ls n) (declared_of ls n) (declared_stands ls n) a.val.end b.val b.first) c.here)
  item_by_stands i start.Regs q is e =
      let a = bind_ok _ _ q e in
      let b = bind_ok _ _ q a.rest in
      let c = past_ok ls b.val.end lex.Semicolon _ q b.rest in
      let s = size_stands ls n (i + 1) a.val a.first in
      subst (λ r. IsItem ls names n i r.end r.tree) (ok_one c.rest)
      (IsItem.regs (starts_regs _ _ is) s.flag s.range
      (commas_stand ls (IsRname ls n) (rname_of ls n) (rname_stands ls n) a.val.end b.val b.first) c.here)
  item_by_stands i start.Integers q is e =
      let b = bind_ok _ _ q e in
      let c = past_ok ls b.val.end lex.Semicolon _ q b.rest in
      subst (λ r. IsItem ls names n i r.end r.tree) (ok_one c.rest)
      (IsItem.integers (starts_integers _ _ is)
      (commas_stand ls (IsDeclared ls n) (declared_of ls n) (declared_stands ls n) (i + 1) b.val b.first) c.here)
  item_by_stands i start.Assigns q is e =
      let b = bind_ok _ _ q e in
      let c = past_ok ls b.val.end lex.Semicolon _ q b.rest in
      subst (λ r. IsItem ls names n i r.end r.tree) (ok_one c.rest)
      (IsItem.assigns (starts_assigns _ _ is)
      (commas_stand ls (IsBinding ls n) (binding_of ls n) (binding_stands ls n) (i + 1) b.val b.first) c.here)
  item_by_stands i start.Always q is e =
      let b = bind_ok _ _ q e in
      let s = stmt_stands ls names n (i + 1) b.val b.first in
      subst (λ r. IsItem ls names n i r.end r.tree) (ok_one b.rest) (IsItem.always (starts_always _ _ is) s.stands)
  item_by_stands i start.Initial q is e =
      let b = bind_ok _ _ q e in
      let s = stmt_stands ls names n (i + 1) b.val b.first in
      subst (λ r. IsItem ls names n i r.end r.tree) (ok_one b.rest) (IsItem.initial (starts_initial _ _ is) s.stands)
  item_by_stands i start.Task q is e =
      let b = bind_ok _ _ q e in
      subst (λ r. IsItem ls names n i r.end r.tree) (ok_one b.rest) (IsItem.task (task_stands ls names n i b.val b.first))
  item_by_stands i start.Function q is e =
      let b = bind_ok _ _ q e in
      subst (λ r. IsItem ls names n i r.end r.tree) (ok_one b.rest) (IsItem.function (function_stands ls names n i b.val b.first))
  item_by_stands i start.Import q is e =
      let b = bind_ok _ _ q e in
      subst (λ r. IsItem ls names n i r.end r.tree) (ok_one b.rest) (IsItem.«import» (import_stands ls n i b.val b.first))
  item_by_stands i start.Instances q is e =
      let a = bind_ok _ _ q e in
      let b = bind_ok _ _ q a.rest in
      let c = past_ok ls b.val.end lex.Semicolon _ q b.rest in
      subst (λ r. IsItem ls names n i r.end r.tree) (ok_one c.rest)
      (IsItem.instances (starts_instances _ _ is)
      (maybe_stands ls (IsOverride ls n) (override_of ls n) (override_stands ls n) opens_params (i + 1) a.val a.first)
      (commas_stand ls (IsInstance ls n) (instance_of ls n) (instance_stands ls n) a.val.end b.val b.first) c.here)
  item_by_stands i start.Nothing q is e = cc

  item_stands : Sound (IsItem ls names n) (item_of ls names n)
  item_stands = record {
    stands = λ i q e. item_by_stands i (item_start (slice_get ls i) (is_at ls (i + 1) lex.Dpi)) q refl e;
  }

  module_stands : Sound (IsModule ls names n) (module_of ls names n)
  module_stands = record {
    stands = λ i q e.
        let a = past_ok ls i lex.Module _ q e in
        let m = named_ok ls (i + 1) _ q a.rest in
        let b = bind_ok _ _ q m.rest in
        let c = bind_ok _ _ q b.rest in
        let s = past_ok ls c.val.end lex.Semicolon _ q c.rest in
        let d = bind_ok _ _ q s.rest in
        let f = bind_ok _ _ d.val d.first in
        let k = past_ok ls f.val.end lex.Endmodule _ d.val f.rest in
        let params = maybe_stands ls (IsParams ls n) (params_of ls n) (params_stand ls n) opens_params (i + 2) b.val b.first in
        let ports = maybe_stands ls (IsPorts ls n) (ports_of ls n) (ports_stand ls n) opens_ports b.val.end c.val c.first in
        let items = many_stand ls (IsItem ls names n) (item_of ls names n) item_stands opens_item (c.val.end + 1) f.val f.first in
        subst (λ r. IsModule ls names n i r.end r.tree) (ok_one d.rest)
        (subst (λ (r : Part (List Item)). IsModule ls names n i r.end
        (record { at = i; name = i + 1; params = b.val.tree; ports = c.val.tree; items = r.tree })) (ok_one k.rest)
        (IsModule.«module» a.here m.here params ports s.here items k.here));
  }

  -- a module ends within the tokens
  module_within : {i j : ℕ} {m : Module} → IsModule ls names n i j m → j ≤ length ls
  module_within (IsModule.«module» {m = last} a b c d e f g) = let w = slice_get_within ls last lex.Endmodule g in omega arith

  modules_within : {i j : ℕ} {ms : List Module} → i ≤ length ls → Many (IsModule ls names n) i j ms → j ≤ length ls
  modules_within h Many.end = h
  modules_within h (Many.next a more) = modules_within (module_within a) more

  pub source_stands : (tree : Tree) → source_of ls names n ≡ Ok tree → IsSource ls names n tree
  source_stands tree e =
      let b = bind_ok _ _ tree e in
      let many = many_stand ls (IsModule ls names n) (module_of ls names n) module_stands opens_module 0 b.val b.first in
      elim (cond_ok (is_some (slice_get ls b.val.end)) _ _ tree b.rest) [
        | was_true t r ↦ cc
        | was_false t r ↦
            let low = modules_within (omega arith) many in
            let high = none_behind ls b.val.end t in
            let same : b.val.end ≡ length ls = omega arith in
            subst (IsSource ls names n) (ok_one r) (subst (λ k. Many (IsModule ls names n) 0 k b.val.tree) same many)
      ]
