-- The expansion of a text, piece by piece.
use Rattle.std.proofs.Common.{◌≡◌, ℕ, zero, suc, List, [], ◌∷◌, drop, refl, sym, ap, ◌∙◌, subst, Result, Ok, Err}
use Rattle.std.specs.Prelude.{IsOkAnd}
use Rattle.vl_pre.specs.Breaks.{◌>>=◌, Break}
use Rattle.vl_pre.specs.Pieces.{Piece}
use Rattle.vl_pre.specs.Uses.{Use, Used, Setting, Expansion, expansion, piece_expansion}
use Rattle.vl_pre.specs.Macros.{Macros}
use Rattle.vl_pre.specs.declared.uses.Context.{Context}
use Rattle.vl_pre.specs.Expanding.{Leaves}

-- skipped pieces are dropped
pub expansion_drop : (how : Use) (setting : Setting) (skip : ℕ) (pieces : List Piece) (done : Expansion) → expansion how setting skip pieces done ≡ expansion how setting 0 (drop skip pieces) done
expansion_drop how setting zero pieces done = refl
expansion_drop how setting (suc skip) [] done = refl
expansion_drop how setting (suc skip) (piece ∷ pieces) done = expansion_drop how setting skip pieces done

-- a piece of a text, and what is left behind it
pub expansion_step : (how : Use) (setting : Setting) (pieces behind rest : List Piece) (piece : Piece) (done done' : Expansion) → pieces ≡ piece ∷ behind
    → IsOkAnd (piece_expansion how setting piece behind done) (Leaves done' behind rest) → expansion how setting 0 pieces done ≡ expansion how setting 0 rest done'
expansion_step how setting pieces behind rest piece done done' first turned =
    ap (λ l. expansion how setting 0 l done) first ∙ go (piece_expansion how setting piece behind done) turned
  where
    go : (told : Result Used Break) → IsOkAnd told (Leaves done' behind rest) → (told >>= λ turn. expansion how setting turn.size behind turn.done) ≡ expansion how setting 0 rest done'
    go (Err broken) t = absurd t
    go (Ok turn) t = expansion_drop how setting turn.size behind turn.done ∙ (λ i. expansion how setting 0 (sym t.1 i) (t.0 i))

-- the same where those forbidden are told otherwise
pub text_step : (how : Use) (macros : Macros) (context : Context) (forbidden forbidden' : List (List ℕ)) (pieces behind rest : List Piece) (piece : Piece) (done done' : Expansion) → forbidden' ≡ forbidden → pieces ≡ piece ∷ behind
    → IsOkAnd (piece_expansion how (record { macros = macros; forbidden = forbidden'; context = context }) piece behind done) (Leaves done' behind rest)
    → expansion how (record { macros = macros; forbidden = forbidden; context = context }) 0 pieces done ≡ expansion how (record { macros = macros; forbidden = forbidden; context = context }) 0 rest done'
text_step how macros context forbidden forbidden' pieces behind rest piece done done' same first turned =
    expansion_step how (record { macros = macros; forbidden = forbidden; context = context }) pieces behind rest piece done done' first
    (subst (λ f. IsOkAnd (piece_expansion how (record { macros = macros; forbidden = f; context = context }) piece behind done) (Leaves done' behind rest)) same turned)
