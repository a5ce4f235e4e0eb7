-- Reading optional parts and lists of parts. A part is read by p from the place where it begins. All of it is this
-- project's own.
use Rattle.std.specs.Prelude.{◌≡◌, ℕ, zero, suc, ◌+◌, List, [], ◌∷◌, ◌++◌, Option, Some, None, Bool, true, false, Ok, Err, slice_get, length, if◌then◌else◌}
use Rattle.vl_tree.specs.declared.terminals.Terminal.{Terminal}
use Rattle.vl_tree.specs.declared.terminals.Terminal.TheVariants as lex
use Rattle.vl_tree.specs.Places.{name_in}
use Rattle.vl_expr.specs.Classes.{is_at}
use Rattle.vl_expr.specs.Reading.{Reading, ◌>>=◌, past}
use Rattle.vl_expr.specs.declared.found.Found.{Found}
use Rattle.vl_parse.specs.declared.part.Part.{Part}

-- a tree, and the place behind it
abbrev pub part : {X : Type 0} → X → ℕ → Part X
part tree end = record { tree = tree; end = end }

-- an expression's part without its depth
abbrev pub bare : {X : Type 0} → Reading (Found X) → Reading (Part X)
bare r = r >>= λ p. Ok (part p.tree p.end)

abbrev pub single : {X : Type 0} → Part X → Part (List X)
single p = part (p.tree ∷ []) p.end

abbrev pub added : {X : Type 0} → Part (List X) → Part X → Part (List X)
added all p = part (all.tree ++ p.tree ∷ []) p.end

-- the place behind a token that may be left out
abbrev pub behind : List Terminal → Terminal → ℕ → ℕ
behind ls x at = if is_at ls at x then at + 1 else at

-- ID, and what stands behind it
abbrev pub named : {X : Type 0} → List Terminal → ℕ → Reading X → Reading X
named ls at rest = if name_in (slice_get ls at) then rest else Err at

abbrev pub name_of : List Terminal → ℕ → Reading (Part ℕ)
name_of ls at = named ls at (Ok (part at (at + 1)))

-- { separator part } behind parts
abbrev pub separated_from : {X : Type 0} → List Terminal → Terminal → (ℕ → Reading (Part X)) → ℕ → Part (List X) → Reading (Part (List X))
separated_from ls x p zero all = Ok all
separated_from ls x p (suc turns) all =
    if is_at ls all.end x then (p (all.end + 1) >>= λ next. separated_from ls x p turns (added all next)) else Ok all

-- part { separator part }
abbrev pub separated_of : {X : Type 0} → List Terminal → Terminal → (ℕ → Reading (Part X)) → ℕ → Reading (Part (List X))
separated_of ls x p at = p at >>= λ first. separated_from ls x p (length ls) (single first)

-- [ part { "," part } ] before a closing parenthesis
abbrev pub listed_of : {X : Type 0} → List Terminal → (ℕ → Reading (Part X)) → ℕ → Reading (Part (List X))
listed_of ls p at = if is_at ls at lex.CloseParen then Ok (part [] at) else separated_of ls lex.Comma p at

-- { part } behind parts, where a part begins with a token like this
abbrev pub many_from : {X : Type 0} → List Terminal → (Option Terminal → Bool) → (ℕ → Reading (Part X)) → ℕ → Part (List X) → Reading (Part (List X))
many_from ls begins p zero all = Ok all
many_from ls begins p (suc turns) all =
    if begins (slice_get ls all.end) then (p all.end >>= λ next. many_from ls begins p turns (added all next)) else Ok all

-- { part }
abbrev pub many_of : {X : Type 0} → List Terminal → (Option Terminal → Bool) → (ℕ → Reading (Part X)) → ℕ → Reading (Part (List X))
many_of ls begins p at = many_from ls begins p (length ls) (part [] at)

abbrev pub present : {X : Type 0} → Part X → Part (Option X)
present p = part (Some p.tree) p.end

-- [ part ]
abbrev pub maybe_of : {X : Type 0} → List Terminal → (Option Terminal → Bool) → (ℕ → Reading (Part X)) → ℕ → Reading (Part (Option X))
maybe_of ls begins p at = if begins (slice_get ls at) then (p at >>= λ q. Ok (present q)) else Ok (part None at)
