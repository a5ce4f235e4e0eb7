-- Declarations that are read are in the grammar.
use Rattle.std.proofs.Common.{◌≡◌, ◌≤◌, ◌&&◌, ◌||◌, ℕ, zero, suc, ◌+◌, List, [], ◌∷◌, Option, Some, None, Bool, true, false, Ok, Err, slice_get, refl, sym, ap, subst, arith}
use Rattle.vl_tree.specs.declared.terminals.Terminal.{Terminal}
use Rattle.vl_tree.specs.declared.terminals.Terminal.TheVariants as lex
use Rattle.vl_tree.specs.declared.exprs.Expr.{Expr}
use Rattle.vl_tree.specs.declared.exprs.Lvalue.{Lvalue}
use Rattle.vl_tree.specs.declared.exprs.Lvalue.TheVariants as lvalue
use Rattle.vl_tree.specs.declared.modules.Range.{Range}
use Rattle.vl_tree.specs.declared.modules.Ptype.{Ptype}
use Rattle.vl_tree.specs.declared.modules.Binding.{Binding}
use Rattle.vl_tree.specs.declared.routines.Local.{Local}
use Rattle.vl_tree.specs.Places.{At, IsName}
use Rattle.vl_tree.specs.Lists.{Commas, Maybe, Flag, Name}
use Rattle.vl_tree.specs.Expressions.{IsExpr, IsLvalue, IsLvalues}
use Rattle.vl_tree.specs.Declarations.{IsRange, IsPtype, IsLocal}
use Rattle.vl_tree.specs.Modules.{IsValue, IsBinding}
use Rattle.vl_expr.specs.Classes.{is_at, is_in}
use Rattle.vl_expr.specs.Reading.{Reading}
use Rattle.vl_expr.proofs.Results.{ok_one, bind_ok, past_ok, cond_ok, was_true, was_false, is_in_true}
use Rattle.vl_parse.specs.declared.part.Part.{Part}
use Rattle.vl_parse.specs.declared.declarations.Size.{Size}
use Rattle.vl_parse.specs.Parts.{part, behind, name_of}
use Rattle.vl_parse.specs.Declarations
use Rattle.vl_parse.specs.Declarations.{expr_at, paren_of, value_of, binding_of, target_of, targets_of, lvalue_of, range_of, opens_range, size_of, ptype_of, names_of, integers_of, regs_of, local_of}
use Rattle.vl_parse.proofs.Parts.{Sound, commas_stand, maybe_stands, named_ok, name_sound, flag_stands}
use Rattle.vl_parse.proofs.Expressions.{expr_stands, selects_stand_at}

-- an expression in parentheses behind a keyword
pub record ParenAt (ls : List Terminal) (n at : ℕ) (q : Part Expr) : Type 0 where
  pub last : ℕ
  pub opens : At ls (at + 1) lex.OpenParen
  pub expr : IsExpr ls n (at + 2) last q.tree
  pub closes : At ls last lex.CloseParen
  pub end : last + 1 ≡ q.end

pub paren_stands : (ls : List Terminal) (n at : ℕ) (q : Part Expr) → paren_of ls n at ≡ Ok q → ParenAt ls n at q
paren_stands ls n at q e =
    let o = past_ok ls (at + 1) lex.OpenParen _ q e in
    let b = bind_ok _ _ q o.rest in
    let c = past_ok ls b.val.end lex.CloseParen _ q b.rest in
    let is : part b.val.tree (b.val.end + 1) ≡ q = ok_one c.rest in
    record {
      last = b.val.end;
      opens = o.here;
      expr = subst (λ r. IsExpr ls n (at + 2) b.val.end r.tree) is ((expr_stands ls n).stands (at + 2) b.val b.first);
      closes = c.here;
      end = ap (λ r. r.end) is;
    }

lvalues_of : {ls : List Terminal} {n i j : ℕ} {ts : List Lvalue} → Commas ls (IsLvalue ls n) i j ts → IsLvalues ls n i j ts
lvalues_of (Commas.last a) = IsLvalues.last_target a
lvalues_of (Commas.more a c more) = IsLvalues.more_targets a c (lvalues_of more)

module _ (ls : List Terminal) where
  target_stands : (n i : ℕ) (q : Part Lvalue) → target_of ls n i ≡ Ok q → IsLvalue ls (suc n) i q.end q.tree
  target_stands n i q e =
      let m = named_ok ls i _ q e in
      let b = bind_ok _ _ q m.rest in
      subst (λ r. IsLvalue ls (suc n) i r.end r.tree) (ok_one b.rest)
      (IsLvalue.target m.here ((selects_stand_at ls n).stands (i + 1) b.val b.first))

  targets_stand : (n i : ℕ) (q : Part Lvalue) → Sound (IsLvalue ls n) (lvalue_of ls n) → At ls i lex.OpenBrace →
      targets_of ls (lvalue_of ls n) i ≡ Ok q → IsLvalue ls (suc n) i q.end q.tree
  targets_stand n i q below h e =
      let b = bind_ok _ _ q e in
      let c = past_ok ls b.val.end lex.CloseBrace _ q b.rest in
      subst (λ r. IsLvalue ls (suc n) i r.end r.tree) (ok_one c.rest)
      (IsLvalue.targets h (lvalues_of (commas_stand ls (IsLvalue ls n) (lvalue_of ls n) below (i + 1) b.val b.first)) c.here)

  pub lvalue_stands : (n : ℕ) → Sound (IsLvalue ls n) (lvalue_of ls n)
  lvalue_stands zero = record { stands = λ i q e. cc }
  lvalue_stands (suc n) = record { stands = stands (lvalue_stands n) }
    where
      stands : Sound (IsLvalue ls n) (lvalue_of ls n) → (i : ℕ) (q : Part Lvalue) → lvalue_of ls (suc n) i ≡ Ok q → IsLvalue ls (suc n) i q.end q.tree
      stands below i q e =
          elim (cond_ok (is_at ls i lex.OpenBrace) _ _ q e) [
            | was_true t r ↦ targets_stand n i q below (is_in_true (slice_get ls i) lex.OpenBrace t) r
            | was_false t r ↦ target_stands n i q r
          ]

  module _ (n : ℕ) where
    pub value_stands : Sound (IsValue ls n) (value_of ls n)
    value_stands = record {
      stands = λ i q e.
          let p = past_ok ls i lex.Equals _ q e in
          IsValue.value p.here ((expr_stands ls n).stands (i + 1) q p.rest);
    }

    pub binding_stands : Sound (IsBinding ls n) (binding_of ls n)
    binding_stands = record {
      stands = λ i q e.
          let m = named_ok ls i _ q e in
          let b = bind_ok _ _ q m.rest in
          subst (λ r. IsBinding ls n i r.end r.tree) (ok_one b.rest)
          (IsBinding.binding m.here (value_stands.stands (i + 1) b.val b.first));
    }

    pub range_stands : Sound (IsRange ls n) (range_of ls n)
    range_stands = record {
      stands = λ i q e.
          let o = past_ok ls i lex.OpenBracket _ q e in
          let a = bind_ok _ _ q o.rest in
          let c = past_ok ls a.val.end lex.Colon _ q a.rest in
          let b = bind_ok _ _ q c.rest in
          let k = past_ok ls b.val.end lex.CloseBracket _ q b.rest in
          subst (λ r. IsRange ls n i r.end r.tree) (ok_one k.rest)
          (IsRange.range o.here ((expr_stands ls n).stands (i + 1) a.val a.first) c.here
          ((expr_stands ls n).stands (a.val.end + 1) b.val b.first) k.here);
    }

    -- [ "signed" ] [ range ]
    pub record SizeAt (i : ℕ) (q : Part Size) : Type 0 where
      pub middle : ℕ
      pub flag : Flag ls lex.Signed i middle q.tree.signed
      pub range : Maybe (IsRange ls n) middle q.end q.tree.range

    pub size_stands : (i : ℕ) (q : Part Size) → size_of ls n i ≡ Ok q → SizeAt i q
    size_stands i q e =
        let b = bind_ok _ _ q e in
        subst (SizeAt i) (ok_one b.rest) (record {
          middle = behind ls lex.Signed i;
          flag = flag_stands ls lex.Signed i;
          range = maybe_stands ls (IsRange ls n) (range_of ls n) range_stands opens_range (behind ls lex.Signed i) b.val b.first;
        })

    pub ptype_stands : Sound (IsPtype ls n) (ptype_of ls n)
    ptype_stands = record {
      stands = λ i q e.
          elim (cond_ok (is_at ls i lex.Integer) _ _ q e) [
            | was_true t r ↦
                subst (λ r. IsPtype ls n i r.end r.tree) (ok_one r) (IsPtype.integer (is_in_true (slice_get ls i) lex.Integer t))
            | was_false t r ↦
                let b = bind_ok _ _ q r in
                let s = size_stands i b.val b.first in
                subst (λ r. IsPtype ls n i r.end r.tree) (ok_one b.rest) (IsPtype.vector s.flag s.range)
          ];
    }

    pub names_stand : (i : ℕ) (q : Part (List ℕ)) → names_of ls i ≡ Ok q → Commas ls (Name ls) i q.end q.tree
    names_stand i q e = commas_stand ls (Name ls) (name_of ls) (name_sound ls) i q e

    integers_stand : (i : ℕ) (q : Part Local) → At ls i lex.Integer → integers_of ls i ≡ Ok q → IsLocal ls n i q.end q.tree
    integers_stand i q h e =
        let b = bind_ok _ _ q e in
        let c = past_ok ls b.val.end lex.Semicolon _ q b.rest in
        subst (λ r. IsLocal ls n i r.end r.tree) (ok_one c.rest)
        (IsLocal.integer_local h (names_stand (i + 1) b.val b.first) c.here)

    regs_stand : (i : ℕ) (q : Part Local) → regs_of ls n i ≡ Ok q → IsLocal ls n i q.end q.tree
    regs_stand i q e =
        let o = past_ok ls i lex.Reg _ q e in
        let a = bind_ok _ _ q o.rest in
        let b = bind_ok _ _ q a.rest in
        let c = past_ok ls b.val.end lex.Semicolon _ q b.rest in
        let s = size_stands (i + 1) a.val a.first in
        subst (λ r. IsLocal ls n i r.end r.tree) (ok_one c.rest)
        (IsLocal.reg_local o.here s.flag s.range (names_stand a.val.end b.val b.first) c.here)

    pub local_stands : Sound (IsLocal ls n) (local_of ls n)
    local_stands = record {
      stands = λ i q e.
          elim (cond_ok (is_at ls i lex.Integer) _ _ q e) [
            | was_true t r ↦ integers_stand i q (is_in_true (slice_get ls i) lex.Integer t) r
            | was_false t r ↦ regs_stand i q r
          ];
    }
