-- One turn of the loops over a list of parts.
use Rattle.std.proofs.Common.{◌≡◌, ◌≤◌, ◌<◌, ◌||◌, ℕ, zero, suc, ◌+◌, ◌-◌, List, Option, Bool, true, false, Result, Ok, Err, slice_get, refl, sym, ap, subst, ◌∙◌, arith}
use Rattle.vl_tree.specs.declared.terminals.Terminal.{Terminal}
use Rattle.vl_tree.specs.declared.terminals.Terminal.TheVariants as lex
use Rattle.vl_tree.specs.declared.statements.Stmt.{Stmt}
use Rattle.vl_tree.specs.declared.statements.Citem.{Citem}
use Rattle.vl_expr.specs.declared.found.ParseError.{ParseError}
use Rattle.vl_expr.specs.Classes.{is_at}
use Rattle.vl_expr.specs.Reading.{Reading, Gives, ◌>>=◌}
use Rattle.vl_expr.proofs.Primaries.{bind_at, if_true, if_false}
use Rattle.vl_expr.proofs.Turns.{gives_stuck, gives_along}
use Rattle.vl_parse.specs.declared.part.Part.{Part}
use Rattle.vl_parse.specs.Parts.{added, separated_from, many_from}
use Rattle.vl_parse.specs.Statements.{opens_citem, next_citem, citems_from}

-- a turn before the last
pub before : {turn r l : ℕ} → r ≡ l → turn < r → turn < l
before {turn = turn} e h = subst (λ k. turn < k) e h

turns_left : (turn d : ℕ) → turn < d → d - turn ≡ suc (d - (turn + 1))
turns_left turn d h = omega arith

module _ {X : Type 0} (ls : List Terminal) (p : ℕ → Reading (Part X)) where
  separated_step : (x : Terminal) (turn d : ℕ) (all : Part (List X)) → turn < d → is_at ls all.end x ≡ true →
      separated_from ls x p (d - turn) all ≡ (p (all.end + 1) >>= λ q. separated_from ls x p (d - (turn + 1)) (added all q))
  separated_step x turn d all h c = ap (λ k. separated_from ls x p k all) (turns_left turn d h) ∙ if_true _ _ _ c

  pub separated_more : (x : Terminal) (turn d : ℕ) (all next : Part (List X)) (q : Part X) → turn < d → is_at ls all.end x ≡ true →
      p (all.end + 1) ≡ Ok q → next ≡ added all q →
      separated_from ls x p (d - turn) all ≡ separated_from ls x p (d - (turn + 1)) next
  separated_more x turn d all next q h c r e =
      separated_step x turn d all h c ∙ bind_at _ r ∙ ap (separated_from ls x p (d - (turn + 1))) (sym e)

  pub separated_stuck : (x : Terminal) (turn d : ℕ) (all : Part (List X)) (e : ParseError) → turn < d → is_at ls all.end x ≡ true →
      Gives (Err e) (p (all.end + 1)) → Gives (Err e) (separated_from ls x p (d - turn) all)
  separated_stuck x turn d all e h c g =
      gives_along (Err e) _ _ (separated_step x turn d all h c)
      (gives_stuck e (p (all.end + 1)) (λ q. separated_from ls x p (d - (turn + 1)) (added all q)) g)

  many_step : (begins : Option Terminal → Bool) (turn d : ℕ) (all : Part (List X)) → turn < d → begins (slice_get ls all.end) ≡ true →
      many_from ls begins p (d - turn) all ≡ (p all.end >>= λ q. many_from ls begins p (d - (turn + 1)) (added all q))
  many_step begins turn d all h c = ap (λ k. many_from ls begins p k all) (turns_left turn d h) ∙ if_true _ _ _ c

  pub many_more : (begins : Option Terminal → Bool) (turn d : ℕ) (all next : Part (List X)) (q : Part X) → turn < d →
      begins (slice_get ls all.end) ≡ true → p all.end ≡ Ok q → next ≡ added all q →
      many_from ls begins p (d - turn) all ≡ many_from ls begins p (d - (turn + 1)) next
  many_more begins turn d all next q h c r e =
      many_step begins turn d all h c ∙ bind_at _ r ∙ ap (many_from ls begins p (d - (turn + 1))) (sym e)

  pub many_stuck : (begins : Option Terminal → Bool) (turn d : ℕ) (all : Part (List X)) (e : ParseError) → turn < d →
      begins (slice_get ls all.end) ≡ true → Gives (Err e) (p all.end) → Gives (Err e) (many_from ls begins p (d - turn) all)
  many_stuck begins turn d all e h c g =
      gives_along (Err e) _ _ (many_step begins turn d all h c)
      (gives_stuck e (p all.end) (λ q. many_from ls begins p (d - (turn + 1)) (added all q)) g)

citems_step : (ls : List Terminal) (below : ℕ → Reading (Part Stmt)) (n turn d : ℕ) (had : Bool) (all : Part (List Citem)) → turn < d →
    opens_citem (slice_get ls all.end) ≡ true →
    citems_from ls below n (d - turn) had all
    ≡ (next_citem ls below n had all.end >>= λ q. citems_from ls below n (d - (turn + 1)) (had || is_at ls all.end lex.Default) (added all q))
citems_step ls below n turn d had all h c = ap (λ k. citems_from ls below n k had all) (turns_left turn d h) ∙ if_true _ _ _ c

-- one more case item
pub citems_more : (ls : List Terminal) (below : ℕ → Reading (Part Stmt)) (n turn d : ℕ) (had more : Bool) (all next : Part (List Citem)) (q : Part Citem) →
    turn < d → opens_citem (slice_get ls all.end) ≡ true → next_citem ls below n had all.end ≡ Ok q → more ≡ (had || is_at ls all.end lex.Default) →
    next ≡ added all q → citems_from ls below n (d - turn) had all ≡ citems_from ls below n (d - (turn + 1)) more next
citems_more ls below n turn d had more all next q h c r m e =
    citems_step ls below n turn d had all h c ∙ bind_at _ r
    ∙ ap (λ b. citems_from ls below n (d - (turn + 1)) b (added all q)) (sym m) ∙ ap (citems_from ls below n (d - (turn + 1)) more) (sym e)

pub citems_stuck : (ls : List Terminal) (below : ℕ → Reading (Part Stmt)) (n turn d : ℕ) (had : Bool) (all : Part (List Citem)) (e : ParseError) →
    turn < d → opens_citem (slice_get ls all.end) ≡ true → Gives (Err e) (next_citem ls below n had all.end) →
    Gives (Err e) (citems_from ls below n (d - turn) had all)
citems_stuck ls below n turn d had all e h c g =
    gives_along (Err e) _ _ (citems_step ls below n turn d had all h c)
    (gives_stuck e (next_citem ls below n had all.end)
    (λ q. citems_from ls below n (d - (turn + 1)) (had || is_at ls all.end lex.Default) (added all q)) g)

-- no more case items
pub citems_over : (ls : List Terminal) (below : ℕ → Reading (Part Stmt)) (n turns : ℕ) (had : Bool) (all : Part (List Citem)) →
    opens_citem (slice_get ls all.end) ≡ false → citems_from ls below n turns had all ≡ Ok all
citems_over ls below n zero had all e = refl
citems_over ls below n (suc turns) had all e = if_false _ _ _ e

pub citems_full : (ls : List Terminal) (below : ℕ → Reading (Part Stmt)) (n turn d : ℕ) (had : Bool) (all : Part (List Citem)) →
    d ≤ turn → citems_from ls below n (d - turn) had all ≡ Ok all
citems_full ls below n turn d had all h = let e : d - turn ≡ 0 = omega arith in ap (λ k. citems_from ls below n k had all) e
