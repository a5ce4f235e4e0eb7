-- Texts, line by line.
use Rattle.std.proofs.Common.{◌≡◌, ◌≢◌, ℕ, ◌+◌, ◌≤◌, ◌<◌, ◌==◌, Bool, true, false, List, [], ◌∷◌, ◌++◌, map, filter, fold, drop, length, cond, refl, sym, ap, ◌∙◌, arith, append_assoc, length-drop, ◌⊎◌, inl, inr}
use Rattle.std.specs.Prelude.{All}
use Rattle.std.specs.List.{position_or_len}
use Rattle.std.proofs.lemmas.List.{take_all, drop_all}
use Rattle.std.proofs.lemmas.List.Sums.{fails_before_first}
use Rattle.std.proofs.lemmas.List.Splits.{slice_split_first, slice_split_none}
use Rattle.std.proofs.lemmas.Bool.{cases_lt}
use Rattle.nt_core.specs.declared.netlist.Node.{Node}
use Rattle.nt_read.specs.declared.sketch.Told.{Told}
use Rattle.nt_read.specs.Sketch.{lines_in, line_of, after_line, is_node_line, told, node_told, nodes_told}

feed : ℕ → Bool
feed c = c == 10

-- a text with a line feed is its first line and the others, and one without is a line
two : (text : List ℕ) → (lines_in text ≡ line_of text ∷ lines_in (after_line text)) ⊎ ((lines_in text ≡ line_of text ∷ []) × (after_line text ≡ []))
two text = elim (cases_lt (position_or_len (λ c. c == 10) text) (length text)) [
  | inl there ↦ inl (slice_split_first (λ c. c == 10) text 0 there)
  | inr none ↦ inr (slice_split_none (λ c. c == 10) text (all none) ∙ ap (λ line. line ∷ []) (sym (take_all _ text none)), drop_all _ text (omega (arith, none)))
]
  where
    all : length text ≤ position_or_len (λ c. c == 10) text → All (λ c. (c == 10) ≡ false) text
    all none i d h = fails_before_first (λ c. c == 10) text i d (omega (arith, none, h))

-- an empty line at the end tells nothing
pub told_line : (most : ℕ) (s : Told) (text : List ℕ) → fold (told most) s (lines_in text) ≡ fold (told most) (told most s (line_of text)) (lines_in (after_line text))
told_line most s text = elim (two text) [
  | inl more ↦ ap (fold (told most) s) more
  | inr last ↦ ap (fold (told most) s) last.0 ∙ ap (λ t. fold (told most) (told most s (line_of text)) (lines_in t)) (sym last.1)
]

pub told_end : (most : ℕ) (s : Told) (text : List ℕ) → length text ≡ 0 → fold (told most) s (lines_in text) ≡ s
told_end most s [] h = refl
told_end most s (c ∷ cs) h = absurd (omega (arith, h))

abbrev of_lines : ℕ → List (List ℕ) → List (List ℕ) → List Node
of_lines most names lines = map (λ line. node_told most names (drop 7 line)) (filter is_node_line lines)

one_more : (most : ℕ) (names : List (List ℕ)) (line : List ℕ) (lines : List (List ℕ)) → of_lines most names (line ∷ lines) ≡ cond (is_node_line line) (node_told most names (drop 7 line) ∷ []) [] ++ of_lines most names lines
one_more most names line lines = go (is_node_line line) refl
  where
    go : (b : Bool) → is_node_line line ≡ b → of_lines most names (line ∷ lines) ≡ cond b (node_told most names (drop 7 line) ∷ []) [] ++ of_lines most names lines
    go true h = ap (λ b. map (λ l. node_told most names (drop 7 l)) (cond b (line ∷ filter is_node_line lines) (filter is_node_line lines))) h
    go false h = ap (λ b. map (λ l. node_told most names (drop 7 l)) (cond b (line ∷ filter is_node_line lines) (filter is_node_line lines))) h

pub nodes_line : (most : ℕ) (names : List (List ℕ)) (text : List ℕ) → nodes_told most names text ≡ cond (is_node_line (line_of text)) (node_told most names (drop 7 (line_of text)) ∷ []) [] ++ nodes_told most names (after_line text)
nodes_line most names text = elim (two text) [
  | inl more ↦ ap (of_lines most names) more ∙ one_more most names (line_of text) (lines_in (after_line text))
  | inr last ↦ ap (of_lines most names) last.0 ∙ one_more most names (line_of text) [] ∙ ap (λ t. cond (is_node_line (line_of text)) (node_told most names (drop 7 (line_of text)) ∷ []) [] ++ nodes_told most names t) (sym last.1)
]

pub nodes_end : (most : ℕ) (names : List (List ℕ)) (text : List ℕ) → length text ≡ 0 → nodes_told most names text ≡ []
nodes_end most names [] h = refl
nodes_end most names (c ∷ cs) h = absurd (omega (arith, h))

-- the rest is shorter than the text
pub shorter : (text : List ℕ) → length text ≢ 0 → length (after_line text) < length text
shorter text some = omega (arith, length-drop (position_or_len (λ c. c == 10) text + 1) text, some)

-- ---- a line more

pub told_on : (most : ℕ) (s t whole : Told) (rest first others : List ℕ) → fold (told most) s (lines_in rest) ≡ whole → t ≡ told most s first → first ≡ line_of rest → others ≡ after_line rest → fold (told most) t (lines_in others) ≡ whole
told_on most s t whole rest first others before told_is first_is others_is =
    ap (λ o. fold (told most) t (lines_in o)) others_is
    ∙ ap (λ u. fold (told most) u (lines_in (after_line rest))) (told_is ∙ ap (told most s) first_is)
    ∙ sym (told_line most s rest) ∙ before

pub nodes_on : (most : ℕ) (names : List (List ℕ)) (old new whole : List Node) (rest first others : List ℕ) → old ++ nodes_told most names rest ≡ whole
    → new ≡ old ++ cond (is_node_line first) (node_told most names (drop 7 first) ∷ []) [] → first ≡ line_of rest → others ≡ after_line rest → new ++ nodes_told most names others ≡ whole
nodes_on most names old new whole rest first others before new_is first_is others_is =
    ap (λ o. new ++ nodes_told most names o) others_is
    ∙ ap (λ n. n ++ nodes_told most names (after_line rest)) (new_is ∙ ap (λ l. old ++ cond (is_node_line l) (node_told most names (drop 7 l) ∷ []) []) first_is)
    ∙ append_assoc old _ (nodes_told most names (after_line rest))
    ∙ ap (λ x. old ++ x) (sym (nodes_line most names rest)) ∙ before
