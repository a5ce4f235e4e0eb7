-- Tasks, functions and imports that are read are in the grammar.
use Rattle.std.proofs.Common.{◌≡◌, ◌≤◌, ◌&&◌, ◌||◌, ℕ, zero, suc, ◌+◌, List, [], ◌∷◌, Option, Some, None, Bool, true, false, cond, Ok, Err, slice_get, refl, sym, ap, subst, ◌∙◌, arith, rules}
use Rattle.std.specs.Prelude.{is_some}
use Rattle.vl_tree.specs.declared.terminals.Terminal.{Terminal}
use Rattle.vl_tree.specs.declared.terminals.Terminal.TheVariants as lex
use Rattle.vl_tree.specs.declared.operators.Sign.{Sign}
use Rattle.vl_tree.specs.declared.modules.Direction.{Direction}
use Rattle.vl_tree.specs.declared.routines.Task.{Task}
use Rattle.vl_tree.specs.declared.routines.Function.{Function}
use Rattle.vl_tree.specs.declared.routines.Args.{Args}
use Rattle.vl_tree.specs.declared.routines.Arg.{Arg}
use Rattle.vl_tree.specs.declared.routines.Formal.{Formal}
use Rattle.vl_tree.specs.declared.routines.Fdir.{Fdir}
use Rattle.vl_tree.specs.declared.routines.Import.{Import}
use Rattle.vl_tree.specs.declared.routines.Rtype.{Rtype}
use Rattle.vl_tree.specs.declared.routines.Itype.{Itype}
use Rattle.vl_tree.specs.declared.routines.IntWord.{IntWord}
use Rattle.vl_tree.specs.declared.routines.Iarg.{Iarg}
use Rattle.vl_tree.specs.Places.{At, IsName}
use Rattle.vl_tree.specs.Lists.{Commas, Maybe, Flag, first_led}
use Rattle.vl_tree.specs.Declarations.{IsRange, IsPtype, IsLocal}
use Rattle.vl_tree.specs.Routines.{IsDirection, IsFdir, IsFormal, IsArg, IsArgs, IsTask, IsFunction, IsIntWord, IsSign, IsItype, IsRtype, IsIarg, IsImport, is_function_args}
use Rattle.vl_expr.specs.Classes.{is_at, is_in}
use Rattle.vl_expr.specs.Reading.{Reading}
use Rattle.vl_expr.proofs.Results.{ok_one, bind_ok, past_ok, cond_ok, was_true, was_false, is_in_true, test_ok}
use Rattle.vl_parse.specs.declared.part.Part.{Part}
use Rattle.vl_parse.specs.Parts.{part, behind}
use Rattle.vl_parse.specs.Declarations.{range_of, opens_range, opens_local, local_of}
use Rattle.vl_parse.specs.Routines
use Rattle.vl_parse.specs.Routines.{direction_of, word_of, sign_of, opens_dir, opens_arg, fdir_of, fdir_by, formal_of, arg_of, args_of, task_of, function_of, itype_of, itype_by, rtype_of, iarg_of, iarg_by, import_of}
use Rattle.vl_parse.proofs.Parts.{Sound, listed_stand, many_stand, maybe_stands, named_ok, flag_stands}
use Rattle.vl_parse.proofs.SoundDeclarations.{range_stands, size_stands, ptype_stands, names_stand, local_stands}
use Rattle.vl_parse.proofs.SoundStatements.{stmt_stands}
use Rattle.vl_parse.proofs.Tokens.{direction_is, word_is, sign_is}

plus_two : (i : ℕ) → i + 1 + 1 ≡ i + 2
plus_two i = omega arith

module _ (ls : List Terminal) (n : ℕ) where
  fdir_by_stands : (i : ℕ) (o : Option Direction) (q : Part Fdir) → direction_of (slice_get ls i) ≡ o → fdir_by ls n i o ≡ Ok q → IsFdir ls n i q.end q.tree
  fdir_by_stands i None q is e = cc
  fdir_by_stands i (Some d) q is e =
      let here = direction_is ls i (slice_get ls i) d refl is in
      elim (cond_ok (is_at ls (i + 1) lex.Integer) _ _ q e) [
        | was_true t r ↦
            subst (λ r. IsFdir ls n i r.end r.tree) (ok_one r)
            (IsFdir.integer_formal here (is_in_true (slice_get ls (i + 1)) lex.Integer t))
        | was_false t r ↦
            let b = bind_ok _ _ q r in
            let s = size_stands ls n (behind ls lex.Reg (i + 1)) b.val b.first in
            subst (λ r. IsFdir ls n i r.end r.tree) (ok_one b.rest)
            (IsFdir.vector_formal here (flag_stands ls lex.Reg (i + 1)) s.flag s.range)
      ]

  pub fdir_stands : Sound (IsFdir ls n) (fdir_of ls n)
  fdir_stands = record { stands = λ i q e. fdir_by_stands i (direction_of (slice_get ls i)) q refl e }

  pub formal_stands : Sound (IsFormal ls n) (formal_of ls n)
  formal_stands = record {
    stands = λ i q e.
        let b = bind_ok _ _ q e in
        let m = named_ok ls b.val.end _ q b.rest in
        subst (λ r. IsFormal ls n i r.end r.tree) (ok_one m.rest)
        (IsFormal.formal (maybe_stands ls (IsFdir ls n) (fdir_of ls n) fdir_stands opens_dir i b.val b.first) m.here);
  }

  pub arg_stands : Sound (IsArg ls n) (arg_of ls n)
  arg_stands = record {
    stands = λ i q e.
        elim (cond_ok (opens_dir (slice_get ls i)) _ _ q e) [
          | was_true t r ↦
              let a = bind_ok _ _ q r in
              let b = bind_ok _ _ q a.rest in
              let c = past_ok ls b.val.end lex.Semicolon _ q b.rest in
              subst (λ r. IsArg ls n i r.end r.tree) (ok_one c.rest)
              (IsArg.formals (fdir_stands.stands i a.val a.first) (names_stand ls n a.val.end b.val b.first) c.here)
          | was_false t r ↦
              let b = bind_ok _ _ q r in
              subst (λ r. IsArg ls n i r.end r.tree) (ok_one b.rest) (IsArg.local ((local_stands ls n).stands i b.val b.first))
        ];
  }

  listed_args_stand : (i : ℕ) (q : Part Args) → At ls i lex.OpenParen → Routines.listed_args ls n i ≡ Ok q → IsArgs ls n i q.end q.tree
  listed_args_stand i q h e =
      let a = bind_ok _ _ q e in
      let c = past_ok ls a.val.end lex.CloseParen _ q a.rest in
      let t = test_ok (first_led (λ f. f.fdir) a.val.tree) _ (i + 1) q c.rest in
      let d = past_ok ls (a.val.end + 1) lex.Semicolon _ q t.rest in
      let b = bind_ok _ _ q d.rest in
      subst (λ r. IsArgs ls n i r.end r.tree) (ok_one b.rest)
      (IsArgs.listed h (listed_stand ls (IsFormal ls n) (formal_of ls n) formal_stands (i + 1) a.val a.first) c.here t.holds d.here
      (many_stand ls (IsLocal ls n) (local_of ls n) (local_stands ls n) opens_local (a.val.end + 2) b.val b.first))

  declared_args_stand : (i : ℕ) (q : Part Args) → Routines.declared_args ls n i ≡ Ok q → IsArgs ls n i q.end q.tree
  declared_args_stand i q e =
      let d = past_ok ls i lex.Semicolon _ q e in
      let b = bind_ok _ _ q d.rest in
      subst (λ r. IsArgs ls n i r.end r.tree) (ok_one b.rest)
      (IsArgs.declared d.here (many_stand ls (IsArg ls n) (arg_of ls n) arg_stands opens_arg (i + 1) b.val b.first))

  pub args_stand : (i : ℕ) (q : Part Args) → args_of ls n i ≡ Ok q → IsArgs ls n i q.end q.tree
  args_stand i q e =
      elim (cond_ok (is_at ls i lex.OpenParen) _ _ q e) [
        | was_true t r ↦ listed_args_stand i q (is_in_true (slice_get ls i) lex.OpenParen t) r
        | was_false t r ↦ declared_args_stand i q r
      ]

  sign_stands : (i : ℕ) (o : Option Sign) → sign_of (slice_get ls (i + 1)) ≡ o →
      Maybe (IsSign ls) (i + 1) (cond (is_some o) (i + 2) (i + 1)) o
  sign_stands i None is = Maybe.absent
  sign_stands i (Some s) is =
      Maybe.present (subst (λ k. IsSign ls (i + 1) k s) (plus_two i) (sign_is ls (i + 1) (slice_get ls (i + 1)) s refl is))

  itype_by_stands : (i : ℕ) (o : Option IntWord) (q : Part Itype) → word_of (slice_get ls i) ≡ o → itype_by ls i o ≡ Ok q → IsItype ls i q.end q.tree
  itype_by_stands i None q is e = cc
  itype_by_stands i (Some w) q is e =
      subst (λ r. IsItype ls i r.end r.tree) (ok_one e)
      (IsItype.itype (word_is ls i (slice_get ls i) w refl is) (sign_stands i (sign_of (slice_get ls (i + 1))) refl))

  itype_stands : (i : ℕ) (q : Part Itype) → itype_of ls i ≡ Ok q → IsItype ls i q.end q.tree
  itype_stands i q e = itype_by_stands i (word_of (slice_get ls i)) q refl e

  rtype_stands : (i : ℕ) (q : Part Rtype) → rtype_of ls i ≡ Ok q → IsRtype ls i q.end q.tree
  rtype_stands i q e =
      elim (cond_ok (is_at ls i lex.Void) _ _ q e) [
        | was_true t r ↦ subst (λ r. IsRtype ls i r.end r.tree) (ok_one r) (IsRtype.void (is_in_true (slice_get ls i) lex.Void t))
        | was_false t r ↦
            elim (cond_ok (is_at ls i lex.Bit) _ _ q r) [
              | was_true u s ↦ subst (λ r. IsRtype ls i r.end r.tree) (ok_one s) (IsRtype.bit (is_in_true (slice_get ls i) lex.Bit u))
              | was_false u s ↦
                  let b = bind_ok _ _ q s in
                  subst (λ r. IsRtype ls i r.end r.tree) (ok_one b.rest) (IsRtype.number (itype_stands i b.val b.first))
            ]
      ]

  iarg_by_stands : (i : ℕ) (o : Option Direction) (q : Part Iarg) → direction_of (slice_get ls i) ≡ o → iarg_by ls n i o ≡ Ok q → IsIarg ls n i q.end q.tree
  iarg_by_stands i None q is e = cc
  iarg_by_stands i (Some d) q is e =
      let here = direction_is ls i (slice_get ls i) d refl is in
      elim (cond_ok (is_at ls (i + 1) lex.Bit) _ _ q e) [
        | was_true t r ↦
            let b = bind_ok _ _ q r in
            let m = named_ok ls b.val.end _ q b.rest in
            subst (λ r. IsIarg ls n i r.end r.tree) (ok_one m.rest)
            (IsIarg.bits here (is_in_true (slice_get ls (i + 1)) lex.Bit t)
            (maybe_stands ls (IsRange ls n) (range_of ls n) (range_stands ls n) opens_range (i + 2) b.val b.first) m.here)
        | was_false t r ↦
            let b = bind_ok _ _ q r in
            let m = named_ok ls b.val.end _ q b.rest in
            subst (λ r. IsIarg ls n i r.end r.tree) (ok_one m.rest) (IsIarg.numbers here (itype_stands (i + 1) b.val b.first) m.here)
      ]

  pub iarg_stands : Sound (IsIarg ls n) (iarg_of ls n)
  iarg_stands = record { stands = λ i q e. iarg_by_stands i (direction_of (slice_get ls i)) q refl e }

  pub import_stands : (i : ℕ) (q : Part Import) → import_of ls n i ≡ Ok q → IsImport ls n i q.end q.tree
  import_stands i q e =
      let a = bind_ok _ _ q e in
      let b = past_ok ls i lex.Import _ a.val a.first in
      let c = past_ok ls (i + 1) lex.Dpi _ a.val b.rest in
      let d = past_ok ls (behind ls lex.Context (i + 2)) lex.Function _ a.val c.rest in
      let from : behind ls lex.Context (i + 2) + 1 ≡ a.val = ok_one d.rest in
      let t = bind_ok _ _ q a.rest in
      let m = named_ok ls t.val.end _ q t.rest in
      let s = bind_ok _ _ q m.rest in
      let o = past_ok ls (t.val.end + 1) lex.OpenParen _ s.val s.first in
      let l = bind_ok _ _ s.val o.rest in
      let k = past_ok ls l.val.end lex.CloseParen _ s.val l.rest in
      let f = past_ok ls (l.val.end + 1) lex.Semicolon _ s.val k.rest in
      let type = subst (λ k. IsRtype ls k t.val.end t.val.tree) (sym from) (rtype_stands a.val t.val t.first) in
      let list = listed_stand ls (IsIarg ls n) (iarg_of ls n) iarg_stands (t.val.end + 2) l.val l.first in
      subst (λ r. IsImport ls n i r.end r.tree) (ok_one s.rest)
      (subst (λ (r : Part (List Iarg)). IsImport ls n i r.end
      (record { at = i; spec = i + 1; context = is_at ls (i + 2) lex.Context; rtype = t.val.tree; name = t.val.end; args = r.tree })) (ok_one f.rest)
      (IsImport.«import» b.here c.here (flag_stands ls lex.Context (i + 2)) d.here type m.here o.here list k.here f.here))

module _ (ls : List Terminal) (names : List (List ℕ)) (n : ℕ) where
  pub task_stands : (i : ℕ) (q : Part Task) → task_of ls names n i ≡ Ok q → IsTask ls names n i q.end q.tree
  task_stands i q e =
      let a = past_ok ls i lex.Task _ q e in
      let m = named_ok ls (i + 1) _ q a.rest in
      let b = bind_ok _ _ q m.rest in
      let c = bind_ok _ _ q b.rest in
      let k = past_ok ls c.val.end lex.Endtask _ q c.rest in
      let s = stmt_stands ls names n b.val.end c.val c.first in
      subst (λ r. IsTask ls names n i r.end r.tree) (ok_one k.rest)
      (IsTask.task a.here m.here (args_stand ls n (i + 2) b.val b.first) s.stands k.here)

  pub function_stands : (i : ℕ) (q : Part Function) → function_of ls names n i ≡ Ok q → IsFunction ls names n i q.end q.tree
  function_stands i q e =
      let a = past_ok ls i lex.Function _ q e in
      let t = bind_ok _ _ q a.rest in
      let b = bind_ok _ _ q t.rest in
      let m = named_ok ls t.val.end _ b.val b.first in
      let g = bind_ok _ _ b.val m.rest in
      let u = test_ok (is_function_args g.val.tree) _ g.val.end b.val g.rest in
      let is : part g.val.tree g.val.end ≡ b.val = ok_one u.rest in
      let c = bind_ok _ _ q b.rest in
      let k = past_ok ls c.val.end lex.Endfunction _ q c.rest in
      let s = stmt_stands ls names n b.val.end c.val c.first in
      let all = subst (λ r. IsArgs ls n (t.val.end + 1) r.end r.tree) is (args_stand ls n (t.val.end + 1) g.val g.first) in
      let fit = subst (λ r. is_function_args r.tree ≡ true) is u.holds in
      subst (λ r. IsFunction ls names n i r.end r.tree) (ok_one k.rest)
      (IsFunction.function a.here ((ptype_stands ls n).stands (i + 1) t.val t.first) m.here all fit s.stands k.here)
