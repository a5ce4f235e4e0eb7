-- Replies as contracts see them: each as the list of its items.
use Rattle.std.proofs.Common.{◌≡◌, ℕ, zero, suc, ◌<◌, List, [], ◌∷◌, length, map, replicate, Option, Some, None, arith, refl, ap, sym, subst, ◌∙◌}
use Rattle.std.specs.Prelude.{All, is_some}
use Rattle.std.specs.List.{list_any}
use Rattle.std.specs.Option.{option_map}
use Rattle.std.proofs.lemmas.List.{length-map, get_or-map}
use Rattle.nt_core.specs.HostLine.{HostLine}
use Rattle.nt_core.specs.Parts.{Parts}
use Rattle.nt_core.specs.Conditions.{IsNetlist}

pub map-replicate : {X Y : Type 0} (f : X → Y) (n : ℕ) (x : X) → map f (replicate n x) ≡ replicate n (f x)
map-replicate f zero x = refl
map-replicate f (suc n) x = ap (λ ys. f x ∷ ys) (map-replicate f n x)

-- no replies, seen
pub seen-none : {X Y : Type 0} (f : X → Y) (n : ℕ) (rs : List (Option X)) → rs ≡ replicate n None → map (option_map f) rs ≡ replicate n None
seen-none f n rs e = ap (map (option_map f)) e ∙ map-replicate (option_map f) n None

-- replies that are all taken away, seen
pub seen-cleared : {X Y : Type 0} (f : X → Y) (old new : List (Option X)) → new ≡ replicate (length old) None
    → map (option_map f) new ≡ replicate (length (map (option_map f) old)) None
seen-cleared f old new e = seen-none f (length old) new e ∙ ap (λ n. replicate n None) (sym (length-map old (option_map f)))

-- each host's process is one of the design's
pub processes_below : (n : Parts) → IsNetlist n → (m : ℕ) → m ≡ n.processes → (ps : List ℕ) → ps ≡ map (λ h. h.process) n.hosts → All (λ p. p < m) ps
processes_below n is m e ps same =
    subst (λ l. All (λ p. p < m) l) (sym same)
    (λ k d h.
    let here : k < length n.hosts = omega (arith, h, length-map n.hosts (λ (l : HostLine). l.process)) in
    let none : HostLine = record { process = 0; rets = []; args = [] } in
    let below = (is.shell.parts.hosts.each k none here).process in
    let at = get_or-map (λ (l : HostLine). l.process) n.hosts k none d here in
    omega arith)

-- whether there is a reply, seen
pub seen-any : {X Y : Type 0} (f : X → Y) (rs : List (Option X)) → list_any is_some rs ≡ list_any is_some (map (option_map f) rs)
seen-any f [] = refl
seen-any f (None ∷ rs) = seen-any f rs
seen-any f (Some r ∷ rs) = refl
