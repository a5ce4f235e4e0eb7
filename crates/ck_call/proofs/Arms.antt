-- What each form of a statement adds to the lines of a text.
use Rattle.std.proofs.Common.{◌≡◌, List, [], ◌∷◌, ◌++◌, Result, Ok, Err, OnOk, refl, sym, ◌∙◌, ap, append_assoc}
use Rattle.el_design.specs.Plain.{Expr, Statement}
use Rattle.el_design.specs.View.{statement_of, arms_of, PlainArm}
use Rattle.el_design.specs.declared.statements.Stmt.{Stmt}
use Rattle.ck_call.specs.declared.lines.Line.{Line}
use Rattle.ck_call.specs.inner.Lines.{line_of, lines, arms_lines}

pub arms_have : (on : Expr) (arms : List PlainArm) (other : Statement) → lines (arms_of on arms other) ≡ arms_lines arms ++ lines other
arms_have on [] other = refl
arms_have on (a ∷ more) other = ap (λ l. lines a.body ++ l) (arms_have on more other) ∙ sym (append_assoc (lines a.body) (arms_lines more) (lines other))

added : {L : Type 0} (old : List L) (x : L) (mid new rest : List L) → mid ≡ old ++ x ∷ [] → new ≡ mid ++ rest → new ≡ old ++ x ∷ rest
added old x mid new rest e f = f ∙ ap (λ l. l ++ rest) e ∙ append_assoc old (x ∷ []) rest

on_ok : {A E P Q : Type 0} (r : Result A E) → (P → Q) → OnOk r P → OnOk r Q
on_ok (Ok x) f h = f h
on_ok (Err e) f h = tt

pub same_end : {A E L : Type 0} (r : Result A E) (old new : List L) {a b : List L} → b ≡ a → OnOk r (new ≡ old ++ a) → OnOk r (new ≡ old ++ b)
same_end r old new e = on_ok r (λ n. n ∙ ap (λ l. old ++ l) (sym e))

-- a statement with one in it
pub one_inside : {A E : Type 0} (r : Result A E) (old mid new : List Line) (stmt body got : Stmt) (x : Statement) → statement_of stmt ≡ x → lines x ≡ line_of x ∷ lines (statement_of body) → got ≡ body
    → mid ≡ old ++ line_of (statement_of stmt) ∷ [] → OnOk r (new ≡ mid ++ lines (statement_of got)) → OnOk r (new ≡ old ++ lines (statement_of stmt))
one_inside r old mid new stmt body got x e h g m = on_ok r (λ n.
    added old (line_of (statement_of stmt)) mid new (lines (statement_of got)) m n
    ∙ ap (λ l. old ++ l) (ap (λ s. line_of s ∷ lines (statement_of got)) e ∙ ap (λ b. line_of x ∷ lines (statement_of b)) g ∙ sym h ∙ ap lines (sym e)))

-- a statement with a list and one more in it
pub both_inside : {A E : Type 0} (r : Result A E) (old mid last new first : List Line) (stmt body got : Stmt) (x : Statement) → statement_of stmt ≡ x → lines x ≡ line_of x ∷ first ++ lines (statement_of body) → got ≡ body
    → mid ≡ old ++ line_of (statement_of stmt) ∷ [] → last ≡ mid ++ first → OnOk r (new ≡ last ++ lines (statement_of got)) → OnOk r (new ≡ old ++ lines (statement_of stmt))
both_inside r old mid last new first stmt body got x e h g m l = on_ok r (λ n.
    added old (line_of (statement_of stmt)) mid new (first ++ lines (statement_of got)) m (n ∙ ap (λ z. z ++ lines (statement_of got)) l ∙ append_assoc mid first (lines (statement_of got)))
    ∙ ap (λ z. old ++ z) (ap (λ s. line_of s ∷ first ++ lines (statement_of got)) e ∙ ap (λ b. line_of x ∷ first ++ lines (statement_of b)) g ∙ sym h ∙ ap lines (sym e)))
