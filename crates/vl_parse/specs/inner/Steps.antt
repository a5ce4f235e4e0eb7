-- Reading parts that stand behind one another.
use Rattle.std.specs.Prelude.{ℕ, ◌+◌, List, Ok}
use Rattle.vl_tree.specs.declared.terminals.Terminal.{Terminal}
use Rattle.vl_expr.specs.Reading.{Reading, ◌>>=◌, past}
use Rattle.vl_parse.specs.declared.part.Part.{Part}
use Rattle.vl_parse.specs.Parts.{part}

-- one part and then another
abbrev pub pair_of : {X Y : Type 0} → (ℕ → Reading (Part X)) → (ℕ → Reading (Part Y)) → ℕ → Reading (Part (X × Y))
pair_of p q at = p at >>= λ a. q a.end >>= λ b. Ok (part (a.tree, b.tree) b.end)

-- a part and then a token
abbrev pub ended_of : {X : Type 0} → List Terminal → Terminal → (ℕ → Reading (Part X)) → ℕ → Reading (Part X)
ended_of ls x p at = p at >>= λ a. past ls a.end x (Ok (part a.tree (a.end + 1)))

-- what is made of a part
abbrev pub made_of : {X Y : Type 0} → (X → Y) → Reading (Part X) → Reading (Part Y)
made_of f r = r >>= λ p. Ok (part (f p.tree) p.end)
