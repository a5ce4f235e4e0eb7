-- What a token isn't where a part of the grammar begins or ends.
use Rattle.std.proofs.Common.{◌≡◌, ◌≤◌, ◌<◌, ◌&&◌, ◌||◌, ℕ, zero, suc, ◌+◌, List, [], ◌∷◌, Option, Some, None, Bool, true, false, slice_get, length, refl, sym, ap, subst, ◌∙◌, lit<, arith}
use Rattle.std.specs.Prelude.{is_some, not}
use Rattle.std.proofs.lemmas.Bool.{both_ways, and_parts}
use Rattle.vl_tree.specs.declared.terminals.Terminal.{Terminal}
use Rattle.vl_tree.specs.declared.terminals.Terminal.TheVariants as lex
use Rattle.vl_tree.specs.Places.{At, IsName, name_in, is_name}
use Rattle.vl_tree.specs.Expressions.{ends_expr}
use Rattle.vl_expr.specs.Classes.{is_at, is_in}
use Rattle.vl_expr.proofs.Results.{is_in_true, in_is_true}
use Rattle.vl_expr.proofs.Follow.{Stops, Closes}
use Rattle.vl_expr.proofs.Begins.{begins}
use Rattle.vl_expr.proofs.Primaries.{not_at, stops_at}
use Rattle.vl_parse.specs.declared.classes.Opening.{Opening}
use Rattle.vl_parse.specs.declared.classes.Opening.TheVariants as opening
use Rattle.vl_parse.specs.Statements.{opening_of}

-- a token of a class is none outside it
pub not_in : (f : Option Terminal → Bool) (x : Terminal) → f (Some x) ≡ false → (o : Option Terminal) → f o ≡ true → is_in o x ≡ false
not_in f x e o h = by_test (is_in o x) refl
  where
    by_test : (b : Bool) → is_in o x ≡ b → is_in o x ≡ false
    by_test false q = q
    by_test true q = absurd (both_ways _ e (subst (λ o. f o ≡ true) (is_in_true o x q) h))

-- a token of a class that is known
pub in_class : (f : Option Terminal → Bool) (x : Terminal) {o : Option Terminal} → o ≡ Some x → f (Some x) ≡ true → f o ≡ true
in_class f x e h = subst (λ o. f o ≡ true) (sym e) h

pub off_class : (f : Option Terminal → Bool) (x : Terminal) {o : Option Terminal} → o ≡ Some x → f (Some x) ≡ false → f o ≡ false
off_class f x e h = subst (λ o. f o ≡ false) (sym e) h

pub there : {X : Type 0} (xs : List X) (i : ℕ) → is_some (slice_get xs i) ≡ true → i < length xs
there [] i e = cc
there (x ∷ xs) zero e = omega arith
there (x ∷ xs) (suc i) e = let h = there xs i e in omega arith

pub class_there : (f : Option Terminal → Bool) → f None ≡ false → (o : Option Terminal) → f o ≡ true → is_some o ≡ true
class_there f e None h = absurd (both_ways _ e h)
class_there f e (Some x) h = refl

-- the tokens before which a part of a list or a whole list ends
abbrev pub separates : Option Terminal → Bool
separates (Some lex.Comma) = true
separates (Some lex.Semicolon) = true
separates (Some lex.CloseParen) = true
separates _ = false

pub separates_ends : (o : Option Terminal) → separates o ≡ true → ends_expr o ≡ true
separates_ends (Some lex.Comma) e = refl
separates_ends (Some lex.Semicolon) e = refl
separates_ends (Some lex.CloseParen) e = refl
separates_ends _ e = absurd (both_ways _ refl e)

-- the tokens before which a left side ends
abbrev pub ends_target : Option Terminal → Bool
ends_target (Some lex.Comma) = true
ends_target (Some lex.CloseBrace) = true
ends_target (Some lex.Equals) = true
ends_target (Some lex.LessEqual) = true
ends_target _ = false

pub target_stops : (o : Option Terminal) → ends_target o ≡ true → Stops 0 o
target_stops (Some lex.Comma) e = record { above = lit< tt }
target_stops (Some lex.CloseBrace) e = record { above = lit< tt }
target_stops (Some lex.Equals) e = record { above = lit< tt }
target_stops (Some lex.LessEqual) e = record { above = lit< tt }
target_stops _ e = absurd (both_ways _ refl e)

-- a name, and in which order leading words stand before one: `[`, then `signed`
abbrev pub by_range : Option Terminal → Bool
by_range (Some lex.OpenBracket) = true
by_range o = name_in o

abbrev pub by_size : Option Terminal → Bool
by_size (Some lex.Signed) = true
by_size o = by_range o

pub name_by_range : (o : Option Terminal) → name_in o ≡ true → by_range o ≡ true
name_by_range (Some lex.OpenBracket) e = refl
name_by_range None e = e
name_by_range (Some _) e = e

pub range_by_size : (o : Option Terminal) → by_range o ≡ true → by_size o ≡ true
range_by_size (Some lex.Signed) e = refl
range_by_size None e = e
range_by_size (Some _) e = e

-- a list of expressions is over
pub closes_at : {o : Option Terminal} (x : Terminal) → o ≡ Some x → Stops 11 (Some x) → is_in (Some x) lex.Comma ≡ false → is_in (Some x) lex.OpenBrace ≡ false → Closes o
closes_at x h s c b = record { stops = stops_at h s; comma = not_at x lex.Comma h c; brace = not_at x lex.OpenBrace h b }

-- whether a statement can begin with a token
abbrev pub begins_stmt : Option Terminal → Bool
begins_stmt o = by_opening (opening_of o)
  where
    by_opening : Opening → Bool
    by_opening opening.Nothing = false
    by_opening _ = true

pub name_opens : (o : Option Terminal) → name_in o ≡ true → opening_of o ≡ opening.Name
name_opens (Some lex.Identifier) e = refl
name_opens (Some lex.Import) e = refl
name_opens (Some lex.Context) e = refl
name_opens (Some lex.Void) e = refl
name_opens (Some lex.Bit) e = refl
name_opens (Some lex.Byte) e = refl
name_opens (Some lex.Shortint) e = refl
name_opens (Some lex.Int) e = refl
name_opens (Some lex.Longint) e = refl
name_opens _ e = absurd (both_ways _ refl e)

pub name_begins_stmt : (o : Option Terminal) → name_in o ≡ true → begins_stmt o ≡ true
name_begins_stmt o e = rw (name_opens o e) refl

-- no statement goes on with an `else`
abbrev pub no_else : Option Terminal → Bool
no_else o = not (is_in o lex.Else)

pub not_else : (o : Option Terminal) → is_in o lex.Else ≡ false → no_else o ≡ true
not_else o e = rw e refl

pub else_not : (o : Option Terminal) → no_else o ≡ true → is_in o lex.Else ≡ false
else_not o e = by_test (is_in o lex.Else) e
  where
    by_test : (b : Bool) → not b ≡ true → b ≡ false
    by_test false e = refl
    by_test true e = cc
