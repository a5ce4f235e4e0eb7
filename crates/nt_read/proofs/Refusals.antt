-- Why bytes are no netlist's text.
use Rattle.std.proofs.Common.{◌≡◌, ◌≢◌, ℕ, List, ◌++◌, refl, sym, ap, ◌∙◌, subst, Option, Some, None}
use Rattle.std.specs.Prelude.{MatchOption, Result, Ok, Err, IfOk}
use Rattle.nt_core.specs.declared.netlist.Node.{Node}
use Rattle.nt_core.specs.Parts.{Parts, ShellParts, assembled}
use Rattle.nt_core.specs.Conditions.{IsNetlist, IsShell, AreNodes}
use Rattle.nt_core.specs.Text.{text_of}
use Rattle.nt_read.specs.Words.{greatest}
use Rattle.nt_read.specs.Names.{names_of}
use Rattle.nt_read.specs.Sketch.{shell_told, nodes_told}
use Rattle.nt_read.specs.Told.{IsTold}
use Rattle.nt_read.proofs.Distinct.{AreApart}
use Rattle.nt_read.proofs.Whole.{shell_of}
use Rattle.nt_read.proofs.Reading.{wide, room, tells, one}

-- no netlist has the bytes as its text
abbrev pub IsNoText : List ℕ → Type 0
IsNoText bytes = (n : Parts) → IsNetlist n → text_of n ≢ bytes

shell_is : (bytes : List ℕ) (s : ShellParts) (n : Parts) → s ≡ shell_told greatest bytes → IsNetlist n → text_of n ≡ bytes → s ≡ shell_of greatest wide room n
shell_is bytes s n told net same = told ∙ ap (shell_told greatest) (sym same) ∙ (tells n net).0

nodes_are : (bytes : List ℕ) (s : ShellParts) (nodes : List Node) (n : Parts) → s ≡ shell_told greatest bytes → nodes ≡ nodes_told greatest (names_of (s.inputs ++ s.outputs)) bytes → IsNetlist n → text_of n ≡ bytes → nodes ≡ n.nodes
nodes_are bytes s nodes n told nodes_told_are net same =
    nodes_told_are
    ∙ ap (λ p. nodes_told greatest (names_of (p.inputs ++ p.outputs)) bytes) (shell_is bytes s n told net same)
    ∙ ap (nodes_told greatest (names_of (n.inputs ++ n.outputs))) (sym same)
    ∙ (tells n net).1

-- two pins have one name
pub twice : (bytes : List ℕ) (s : ShellParts) → s ≡ shell_told greatest bytes → (AreApart (s.inputs ++ s.outputs) → ⊥) → IsNoText bytes
twice bytes s told never n net same = never (subst (λ p. AreApart (p.inputs ++ p.outputs)) (sym (shell_is bytes s n told net same)) net.shell.pins.distinct)

-- the nodes don't fit one another
pub misfit : (bytes : List ℕ) (s : ShellParts) (nodes : List Node) → s ≡ shell_told greatest bytes → nodes ≡ nodes_told greatest (names_of (s.inputs ++ s.outputs)) bytes → (AreNodes nodes → ⊥) → IsNoText bytes
misfit bytes s nodes told nodes_told_are never n net same = never (subst AreNodes (sym (nodes_are bytes s nodes n told nodes_told_are net same)) net.nodes)

-- the parts make no netlist, or one with another text
pub other : (bytes : List ℕ) (s : ShellParts) (nodes : List Node) → s ≡ shell_told greatest bytes → nodes ≡ nodes_told greatest (names_of (s.inputs ++ s.outputs)) bytes → (IsShell (assembled s nodes) → text_of (assembled s nodes) ≢ bytes) → IsNoText bytes
other bytes s nodes told nodes_told_are never n net same =
    let whole : assembled s nodes ≡ n =
    ap (λ p. assembled p nodes) (shell_is bytes s n told net same) ∙ ap (assembled (shell_of greatest wide room n)) (nodes_are bytes s nodes n told nodes_told_are net same) in
    never (subst IsShell (sym whole) net.shell) (ap text_of whole ∙ same)

-- what was found, where what was not found says something else
pub found : {E : Type 0} (r : Result (Option Parts) E) (P Q : Type 0) (R : Parts → Type 0) → (P → Q) → IfOk r (λ o. MatchOption o P R) → IfOk r (λ o. MatchOption o Q R)
found (Ok None) P Q R weaker h = weaker h
found (Ok (Some n)) P Q R weaker h = h
found (Err e) P Q R weaker h = h

-- what is said where there is nothing, and where there is something
pub at_none : {X : Type 0} (o : Option X) (P : Type 0) (Q : X → Type 0) → MatchOption o P Q → ((x : X) → o ≢ Some x) → P
at_none None P Q h none = h
at_none (Some x) P Q h none = absurd (none x refl)

pub at_some : {X : Type 0} (o : Option X) (P : Type 0) (Q : X → Type 0) (x : X) → MatchOption o P Q → o ≡ Some x → Q x
at_some o P Q x h is = go (subst (λ k. MatchOption k P Q) is h)
  where
    go : MatchOption (Some x) P Q → Q x
    go k = k

-- what was read is the one netlist that has the text
pub only : {E : Type 0} (r : Result (Option Parts) E) (bytes : List ℕ) (m n : Parts) (P : Type 0) → IfOk r (λ o. MatchOption o P (IsTold bytes)) → r ≡ Ok (Some m) → IsNetlist n → text_of n ≡ bytes → m ≡ n
only r bytes m n P h is net same = go (subst (λ k. IfOk k (λ o. MatchOption o P (IsTold bytes))) is h)
  where
    go : IsTold bytes m → m ≡ n
    go told = one m n told.netlist net (told.text ∙ sym same)
