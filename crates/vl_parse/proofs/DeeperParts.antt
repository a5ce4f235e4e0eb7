-- What is an expression, a left side or a declaration within a depth is one within the next depth.
use Rattle.std.proofs.Common.{◌≡◌, ℕ, suc, List, [], ◌∷◌, Option, Some, None, Bool}
use Rattle.vl_tree.specs.declared.terminals.Terminal.{Terminal}
use Rattle.vl_tree.specs.declared.exprs.Expr.{Expr}
use Rattle.vl_tree.specs.declared.exprs.Select.{Select}
use Rattle.vl_tree.specs.declared.exprs.Lvalue.{Lvalue}
use Rattle.vl_tree.specs.declared.modules.Range.{Range}
use Rattle.vl_tree.specs.declared.modules.Ptype.{Ptype}
use Rattle.vl_tree.specs.declared.routines.Local.{Local}
use Rattle.vl_tree.specs.Lists.{Commas, MaybeCommas, Many, Maybe}
use Rattle.vl_tree.specs.Expressions.{IsLevel, IsExprs, IsSelects, IsSelect, IsArgs, IsLvalue, IsLvalues}
use Rattle.vl_tree.specs.Declarations.{IsRange, IsPtype, IsLocal}

-- lists of parts, where each part is also another
module _ {X : Type 0} {P Q : ℕ → ℕ → X → Type 0} (f : (a b : ℕ) (t : X) → P a b t → Q a b t) where
  pub commas_as : {ls : List Terminal} {i j : ℕ} {ts : List X} → Commas ls P i j ts → Commas ls Q i j ts
  commas_as (Commas.last a) = Commas.last (f _ _ _ a)
  commas_as (Commas.more a c b) = Commas.more (f _ _ _ a) c (commas_as b)

  pub maybe_commas_as : {ls : List Terminal} {i j : ℕ} {ts : List X} → MaybeCommas ls P i j ts → MaybeCommas ls Q i j ts
  maybe_commas_as MaybeCommas.none = MaybeCommas.none
  maybe_commas_as (MaybeCommas.some a) = MaybeCommas.some (commas_as a)

  pub maybe_as : {i j : ℕ} {t : Option X} → Maybe P i j t → Maybe Q i j t
  maybe_as Maybe.absent = Maybe.absent
  maybe_as (Maybe.present a) = Maybe.present (f _ _ _ a)

module _ {ls : List Terminal} where
  mutual
    pub level_deeper : {n l i j : ℕ} {e : Expr} → IsLevel ls n l i j e → IsLevel ls (suc n) l i j e
    level_deeper (IsLevel.choice a h b k c) = IsLevel.choice (level_deeper a) h (level_deeper b) k (level_deeper c)
    level_deeper (IsLevel.binary_op a h o b) = IsLevel.binary_op (level_deeper a) h o (level_deeper b)
    level_deeper (IsLevel.tighter a) = IsLevel.tighter (level_deeper a)
    level_deeper (IsLevel.unary_op h u a) = IsLevel.unary_op h u (level_deeper a)
    level_deeper (IsLevel.sized h b) = IsLevel.sized h b
    level_deeper (IsLevel.based h) = IsLevel.based h
    level_deeper (IsLevel.decimal h) = IsLevel.decimal h
    level_deeper (IsLevel.name h a) = IsLevel.name h (selects_deeper a)
    level_deeper (IsLevel.call h a) = IsLevel.call h (args_deeper a)
    level_deeper (IsLevel.to_signed h p a k) = IsLevel.to_signed h p (level_deeper a) k
    level_deeper (IsLevel.to_unsigned h p a k) = IsLevel.to_unsigned h p (level_deeper a) k
    level_deeper (IsLevel.parens h a k) = IsLevel.parens h (level_deeper a) k
    level_deeper (IsLevel.concat h a k) = IsLevel.concat h (exprs_deeper a) k
    level_deeper (IsLevel.replicate h a b c k last) = IsLevel.replicate h (level_deeper a) b (exprs_deeper c) k last

    pub args_deeper : {n i j : ℕ} {es : List Expr} → IsArgs ls n i j es → IsArgs ls (suc n) i j es
    args_deeper (IsArgs.no_args h k) = IsArgs.no_args h k
    args_deeper (IsArgs.some_args h a k) = IsArgs.some_args h (exprs_deeper a) k

    pub exprs_deeper : {n i j : ℕ} {es : List Expr} → IsExprs ls n i j es → IsExprs ls (suc n) i j es
    exprs_deeper (IsExprs.last_expr a) = IsExprs.last_expr (level_deeper a)
    exprs_deeper (IsExprs.more_exprs a h b) = IsExprs.more_exprs (level_deeper a) h (exprs_deeper b)

    selects_deeper : {n i j : ℕ} {ss : List Select} → IsSelects ls n i j ss → IsSelects ls (suc n) i j ss
    selects_deeper IsSelects.no_select = IsSelects.no_select
    selects_deeper (IsSelects.one_select a) = IsSelects.one_select (select_deeper a)
    selects_deeper (IsSelects.two_selects a b) = IsSelects.two_selects (select_deeper a) (select_deeper b)

    select_deeper : {n i j : ℕ} {s : Select} → IsSelect ls n i j s → IsSelect ls (suc n) i j s
    select_deeper (IsSelect.index h a k) = IsSelect.index h (level_deeper a) k
    select_deeper (IsSelect.part h a c b k) = IsSelect.part h (level_deeper a) c (level_deeper b) k
    select_deeper (IsSelect.up h a c b k) = IsSelect.up h (level_deeper a) c (level_deeper b) k
    select_deeper (IsSelect.down h a c b k) = IsSelect.down h (level_deeper a) c (level_deeper b) k

  mutual
    pub lvalue_deeper : {n i j : ℕ} {t : Lvalue} → IsLvalue ls n i j t → IsLvalue ls (suc n) i j t
    lvalue_deeper (IsLvalue.target h a) = IsLvalue.target h (selects_deeper a)
    lvalue_deeper (IsLvalue.targets h a c) = IsLvalue.targets h (lvalues_deeper a) c

    lvalues_deeper : {n i j : ℕ} {ts : List Lvalue} → IsLvalues ls n i j ts → IsLvalues ls (suc n) i j ts
    lvalues_deeper (IsLvalues.last_target a) = IsLvalues.last_target (lvalue_deeper a)
    lvalues_deeper (IsLvalues.more_targets a h b) = IsLvalues.more_targets (lvalue_deeper a) h (lvalues_deeper b)

  pub range_deeper : {n i j : ℕ} {r : Range} → IsRange ls n i j r → IsRange ls (suc n) i j r
  range_deeper (IsRange.range h a c b k) = IsRange.range h (level_deeper a) c (level_deeper b) k

  pub maybe_range_deeper : {n i j : ℕ} {r : Option Range} → Maybe (IsRange ls n) i j r → Maybe (IsRange ls (suc n)) i j r
  maybe_range_deeper r = maybe_as (λ a b t p. range_deeper p) r

  pub ptype_deeper : {n i j : ℕ} {t : Ptype} → IsPtype ls n i j t → IsPtype ls (suc n) i j t
  ptype_deeper (IsPtype.vector s r) = IsPtype.vector s (maybe_range_deeper r)
  ptype_deeper (IsPtype.integer h) = IsPtype.integer h

  pub local_deeper : {n i j : ℕ} {l : Local} → IsLocal ls n i j l → IsLocal ls (suc n) i j l
  local_deeper (IsLocal.reg_local h s r a c) = IsLocal.reg_local h s (maybe_range_deeper r) a c
  local_deeper (IsLocal.integer_local h a c) = IsLocal.integer_local h a c
