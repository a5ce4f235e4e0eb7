-- Nodes that drive, one by one.
use Rattle.std.proofs.Common.{◌≡◌, ℕ, zero, suc, ◌<◌, ◌≤◌, List, [], ◌∷◌, ◌++◌, length, take, drop, get_or, ◌+◌, map, arith, refl, subst, ap, ◌∙◌, sym, Some}
use Rattle.std.specs.Prelude.{slice_get, slice_index, flat_map}
use Rattle.std.proofs.lemmas.List.{length-map, map-append, length-take-le, take-append-drop}
use Rattle.nt_core.specs.declared.netlist.Node.{Node}
use Rattle.nt_core.specs.HostLine.{HostLine}
use Rattle.nt_core.specs.Forms.{widths}
use Rattle.nt_core.specs.Conditions.{Drive, host_port_widths}

pub drive_each : (nodes : List Node) (drives wanted : List ℕ) (k : ℕ) → Drive nodes drives wanted → k < length drives
    → slice_get (widths nodes) (slice_index drives k) ≡ Some (slice_index wanted k)
drive_each nodes [] wanted k e h = absurd (omega arith)
drive_each nodes (a ∷ drives) [] k e h = cc
drive_each nodes (a ∷ drives) (w ∷ wanted) zero e h = cc
drive_each nodes (a ∷ drives) (w ∷ wanted) (suc k) e h = drive_each nodes drives wanted k (cc) (omega arith)

pub drive_length : (nodes : List Node) (drives wanted : List ℕ) → Drive nodes drives wanted → length drives ≡ length wanted
drive_length nodes drives wanted e = sym (length-map drives (slice_get (widths nodes))) ∙ ap length e ∙ length-map wanted (λ w. Some w)

pub drive_all : (nodes : List Node) (drives wanted : List ℕ) → length drives ≡ length wanted
    → ((k : ℕ) → k < length drives → slice_get (widths nodes) (slice_index drives k) ≡ Some (slice_index wanted k)) → Drive nodes drives wanted
drive_all nodes [] [] l e = refl
drive_all nodes [] (w ∷ wanted) l e = absurd (omega arith)
drive_all nodes (a ∷ drives) [] l e = absurd (omega arith)
drive_all nodes (a ∷ drives) (w ∷ wanted) l e =
    let first : slice_get (widths nodes) a ≡ Some w = e 0 (omega arith) in
    let rest : Drive nodes drives wanted = drive_all nodes drives wanted (omega arith) (λ k h. e (suc k) (omega arith)) in
    cc

-- ---- drives one after the other

pub drive_join : (nodes : List Node) (a b u v : List ℕ) → Drive nodes a u → Drive nodes b v → Drive nodes (a ++ b) (u ++ v)
drive_join nodes a b u v p q =
    map-append (slice_get (widths nodes)) a b ∙ ap (λ l. l ++ map (slice_get (widths nodes)) b) p ∙ ap (λ l. map (λ w. Some w) u ++ l) q
    ∙ sym (map-append (λ w. Some w) u v)

-- the first of them, and the others
drive_parts : (nodes : List Node) (a b u v : List ℕ) → length a ≡ length u → Drive nodes (a ++ b) (u ++ v) → Drive nodes a u × Drive nodes b v
drive_parts nodes [] b [] v l e = (refl, e)
drive_parts nodes [] b (w ∷ u) v l e = absurd (omega arith)
drive_parts nodes (x ∷ a) b [] v l e = absurd (omega arith)
drive_parts nodes (x ∷ a) b (w ∷ u) v l e =
    let rest = drive_parts nodes a b u v (omega arith) (cc) in
    let first : slice_get (widths nodes) x ≡ Some w = cc in
    let front : Drive nodes a u = rest.0 in
    (cc, rest.1)

-- there are as many drives as widths, or more
pub drive_more : (nodes : List Node) (rest u v : List ℕ) (n : ℕ) → n ≡ length u → n ≤ length rest → Drive nodes rest (u ++ v)
    → Drive nodes (take n rest) u × Drive nodes (drop n rest) v
drive_more nodes rest u v n e h d =
    drive_parts nodes (take n rest) (drop n rest) u v (length-take-le n rest h ∙ e)
    (subst (λ l. Drive nodes l (u ++ v)) (sym (take-append-drop n rest)) d)

pub drive_rest : (nodes : List Node) (rest u v : List ℕ) (n : ℕ) → Drive nodes (take n rest) u → Drive nodes (drop n rest) v → Drive nodes rest (u ++ v)
drive_rest nodes rest u v n p q = subst (λ l. Drive nodes l (u ++ v)) (take-append-drop n rest) (drive_join nodes (take n rest) (drop n rest) u v p q)

-- the hosts from a place on
pub hosts_step : (hosts : List HostLine) (i : ℕ) (h : HostLine) → i < length hosts → h ≡ get_or hosts i h
    → flat_map host_port_widths (drop i hosts) ≡ host_port_widths h ++ flat_map host_port_widths (drop (i + 1) hosts)
hosts_step [] i h l e = absurd (omega arith)
hosts_step (x ∷ hosts) zero h l e = ap (λ k. host_port_widths k ++ flat_map host_port_widths hosts) (sym e)
hosts_step (x ∷ hosts) (suc i) h l e = let next : suc i + 1 ≡ suc (i + 1) = omega arith in rw next (hosts_step hosts i h (omega arith) e)
