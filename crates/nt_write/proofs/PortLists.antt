-- The ports as one list, and as the lists that they come from.
use Rattle.std.proofs.Common.{◌≡◌, ℕ, suc, ◌+◌, ◌<◌, ◌≤◌, List, [], ◌∷◌, ◌++◌, map, length, take, drop, get_or, sym, ap, ◌∙◌, refl, length-append, append_assoc, append-nil, arith, codes}
use Rattle.std.proofs.lemmas.List.{map-append, take_more, length-take-le, length-map, take_all, take-append-drop}
use Rattle.std.proofs.lemmas.List.Concat.{flat_map-append}
use Rattle.std.proofs.lemmas.List.FromFn.{length-enumerate_from}
use Rattle.std.specs.Prelude.{flat_map, zip}
use Rattle.std.specs.List.{enumerate_from}
use Rattle.nt_core.specs.declared.netlist.Wire.{Wire}
use Rattle.nt_core.specs.HostLine.{HostLine}
use Rattle.nt_core.specs.Parts.{Parts}
use Rattle.nt_core.specs.Conditions.{host_port_widths, port_widths, IsNetlist}
use Rattle.nt_core.specs.Text.{with_commas, output_line, host_name, host_port_names, port_names, arg_name, numbered, assign_line, assign_lines, node_name}
use Rattle.nt_write.specs.Lines.{ended, lines, following, followings, host_output_lines, driven, assigned}
use Rattle.nt_write.proofs.LineLists.{take_one, flat_more}

-- ---- commas

-- a list with commas is its first line, and each other one after a comma and a line feed
pub commas : (x : List ℕ) (xs : List (List ℕ)) → lines (with_commas (x ∷ xs)) ≡ x ++ followings xs ++ codes "\n"
commas x [] = append-nil (x ++ codes "\n") ∙ ap (λ t. t ++ codes "\n") (sym (append-nil x))
commas x (y ∷ ys) =
    ap (λ t. ended (x ++ codes ",") ++ t) (commas y ys) ∙ regroup x y (followings ys)
  where
    regroup : (a b rest : List ℕ) → ((a ++ codes ",") ++ codes "\n") ++ (b ++ rest ++ codes "\n") ≡ a ++ ((codes ",\n" ++ b) ++ rest) ++ codes "\n"
    regroup a b rest = simp append_assoc

-- ---- lists beside each other

pub zip-append : {A B : Type 0} (xs ys : List A) (ds es : List B) → length xs ≡ length ds → zip (xs ++ ys) (ds ++ es) ≡ zip xs ds ++ zip ys es
zip-append [] ys [] es same = refl
zip-append [] ys (d ∷ ds) es same = absurd (omega arith)
zip-append (x ∷ xs) ys [] es same = absurd (omega arith)
zip-append (x ∷ xs) ys (d ∷ ds) es same = ap (λ t. (x, d) ∷ t) (zip-append xs ys ds es (omega arith))

zip-map : {X A B : Type 0} (f : X → A) (g : X → B) (xs : List X) → zip (map f xs) (map g xs) ≡ map (λ x. (f x, g x)) xs
zip-map f g [] = refl
zip-map f g (x ∷ xs) = ap (λ t. (f x, g x) ∷ t) (zip-map f g xs)

map-map : {X A B : Type 0} (f : A → B) (g : X → A) (xs : List X) → map f (map g xs) ≡ map (λ x. f (g x)) xs
map-map f g [] = refl
map-map f g (x ∷ xs) = ap (λ t. f (g x) ∷ t) (map-map f g xs)

length_maps : {X A B : Type 0} (f : X → A) (g : X → B) (xs : List X) → length (map f xs) ≡ length (map g xs)
length_maps f g [] = refl
length_maps f g (x ∷ xs) = ap (λ n. suc n) (length_maps f g xs)

-- ---- output lines

-- of a process's arguments
zip_args : (p k : ℕ) (args : List ℕ) → zip args (map (λ i. arg_name p i.0) (enumerate_from k args)) ≡ map (λ i. (i.1, arg_name p i.0)) (enumerate_from k args)
zip_args p k [] = refl
zip_args p k (a ∷ more) = ap (λ t. (a, arg_name p k) ∷ t) (zip_args p (k + 1) more)

pub arg_lines : (p : ℕ) (args : List ℕ) → numbered (λ i w. output_line w (arg_name p i)) args ≡ map (λ q. output_line q.0 q.1) (zip args (map (λ i. arg_name p i.0) (enumerate_from 0 args)))
arg_lines p args = sym (ap (λ t. map (λ q. output_line q.0 q.1) t) (zip_args p 0 args) ∙ map-map (λ q. output_line q.0 q.1) (λ i. (i.1, arg_name p i.0)) (enumerate_from 0 args))

-- of all processes
names_fit : (h : HostLine) → length (host_port_widths h) ≡ length (host_port_names h)
names_fit h = simp (length-map, length-enumerate_from)

host_lines : (hs : List HostLine) → map (λ q. output_line q.0 q.1) (zip (flat_map host_port_widths hs) (flat_map host_port_names hs)) ≡ flat_map host_output_lines hs
host_lines [] = refl
host_lines (h ∷ hs) =
    ap (λ t. map (λ q. output_line q.0 q.1) t) (zip-append (host_port_widths h) (flat_map host_port_widths hs) (host_port_names h) (flat_map host_port_names hs) (names_fit h))
    ∙ map-append (λ q. output_line q.0 q.1) (zip (host_port_widths h) (host_port_names h)) (zip (flat_map host_port_widths hs) (flat_map host_port_names hs))
    ∙ ap (λ t. host_output_lines h ++ t) (host_lines hs)

-- of all ports but the first
pub other_lines : (outs : List Wire) (hs : List HostLine) → map (λ q. output_line q.0 q.1) (zip (map (λ o. o.width) outs ++ flat_map host_port_widths hs) (map (λ o. o.name) outs ++ flat_map host_port_names hs)) ≡ map (λ o. output_line o.width o.name) outs ++ flat_map host_output_lines hs
other_lines outs hs =
    ap (λ t. map (λ q. output_line q.0 q.1) t) (zip-append (map (λ o. o.width) outs) (flat_map host_port_widths hs) (map (λ o. o.name) outs) (flat_map host_port_names hs) (length_maps (λ o. o.width) (λ o. o.name) outs) ∙ ap (λ t. t ++ zip (flat_map host_port_widths hs) (flat_map host_port_names hs)) (zip-map (λ o. o.width) (λ o. o.name) outs))
    ∙ map-append (λ q. output_line q.0 q.1) (map (λ o. (o.width, o.name)) outs) (zip (flat_map host_port_widths hs) (flat_map host_port_names hs))
    ∙ ap (λ t. t ++ map (λ q. output_line q.0 q.1) (zip (flat_map host_port_widths hs) (flat_map host_port_names hs))) (map-map (λ q. output_line q.0 q.1) (λ o. (o.width, o.name)) outs)
    ∙ ap (λ t. map (λ o. output_line o.width o.name) outs ++ t) (host_lines hs)

-- the lines of the output ports
pub output_text : (d : Parts) → ((codes "  output wire xtc_edge" ++ followings (map (λ o. output_line o.width o.name) d.outputs)) ++ followings (flat_map host_output_lines d.hosts)) ++ codes "\n" ≡ lines (with_commas (map (λ q. output_line q.0 q.1) (zip (port_widths d) (port_names d))))
output_text d =
    let outs : List (List ℕ) = map (λ o. output_line o.width o.name) d.outputs in
    let hosts : List (List ℕ) = flat_map host_output_lines d.hosts in
    let others : List (List ℕ) = map (λ q. output_line q.0 q.1) (zip (map (λ o. o.width) d.outputs ++ flat_map host_port_widths d.hosts) (map (λ o. o.name) d.outputs ++ flat_map host_port_names d.hosts)) in
    let edge : List ℕ = codes "  output wire xtc_edge" in
    ap (λ t. t ++ codes "\n") (append_assoc edge (followings outs) (followings hosts) ∙ ap (λ t. edge ++ t) (sym (flat_map-append following outs hosts)) ∙ ap (λ t. edge ++ followings t) (sym (other_lines d.outputs d.hosts)))
    ∙ sym (commas edge others)

-- ---- assignments

-- one line
pub assign_is : (name : List ℕ) (n : ℕ) → (codes "  assign " ++ name) ++ driven n ≡ ended (assign_line name n)
assign_is name n = regroup name (node_name n)
  where
    regroup : (name node : List ℕ) → (codes "  assign " ++ name) ++ (codes " = " ++ node ++ codes ";\n") ≡ (codes "  assign " ++ name ++ codes " = " ++ node ++ codes ";") ++ codes "\n"
    regroup name node = simp append_assoc

-- ports after ports
pub assigned-append : (xs ys : List (List ℕ)) (ds es : List ℕ) → length xs ≡ length ds → assigned xs ds ++ assigned ys es ≡ assigned (xs ++ ys) (ds ++ es)
assigned-append xs ys ds es same =
    sym (flat_map-append ended (map (λ p. assign_line p.0 p.1) (zip xs ds)) (map (λ p. assign_line p.0 p.1) (zip ys es)))
    ∙ ap (λ t. lines t) (sym (map-append (λ p. assign_line p.0 p.1) (zip xs ds) (zip ys es)) ∙ ap (λ t. map (λ p. assign_line p.0 p.1) t) (sym (zip-append xs ys ds es same)))

-- one more pin
pub assigned_more : (pins : List Wire) (drives : List ℕ) (i : ℕ) (pin : Wire) → length drives ≡ length pins → i < length pins → pin ≡ get_or pins i pin → assigned (map (λ o. o.name) (take i pins)) (take i drives) ++ ended (assign_line pin.name (get_or drives i 0)) ≡ assigned (map (λ o. o.name) (take (i + 1) pins)) (take (i + 1) drives)
assigned_more pins drives i pin same within at =
    let less : i < length drives = omega arith in
    let shorter : length (take i pins) ≡ i = length-take-le i pins (omega arith) in
    let fewer : length (take i drives) ≡ i = length-take-le i drives (omega arith) in
    let names : length (map (λ o. o.name) (take i pins)) ≡ length (take i drives) = simp length-map (shorter ∙ sym fewer) in
    ap (λ t. assigned (map (λ o. o.name) (take i pins)) (take i drives) ++ t) (sym (append-nil (ended (assign_line pin.name (get_or drives i 0)))))
    ∙ assigned-append (map (λ o. o.name) (take i pins)) (pin.name ∷ []) (take i drives) (get_or drives i 0 ∷ []) names
    ∙ ap (λ t. assigned t (take i drives ++ get_or drives i 0 ∷ [])) (sym (map-append (λ o. o.name) (take i pins) (pin ∷ [])) ∙ ap (λ t. map (λ o. o.name) t) (sym (take_one pins i pin within at)))
    ∙ ap (λ t. assigned (map (λ o. o.name) (take (i + 1) pins)) t) (sym (take_more drives i 0 less))

-- and all of them
pub assigned_whole : (pins : List Wire) (drives : List ℕ) (i : ℕ) → length drives ≡ length pins → length pins ≤ i → assigned (map (λ o. o.name) (take i pins)) (take i drives) ≡ assigned (map (λ o. o.name) pins) drives
assigned_whole pins drives i same past =
    ap (λ t. assigned (map (λ o. o.name) t) (take i drives)) (take_all i pins past) ∙ ap (λ t. assigned (map (λ o. o.name) pins) t) (take_all i drives (omega arith))

-- a process's arguments
zip_numbered : {X : Type 0} (f : ℕ → List ℕ) (k : ℕ) (args : List X) (ds : List ℕ) → length ds ≡ length args → zip (map (λ i. f i.0) (enumerate_from k args)) ds ≡ map (λ i. (f i.0, i.1)) (enumerate_from k ds)
zip_numbered f k [] [] same = refl
zip_numbered f k [] (d ∷ ds) same = absurd (omega arith)
zip_numbered f k (a ∷ more) [] same = absurd (omega arith)
zip_numbered f k (a ∷ more) (d ∷ ds) same = ap (λ t. (f k, d) ∷ t) (zip_numbered f (k + 1) more ds (omega arith))

-- a process's ports
pub assigned_host : (h : HostLine) (ds : List ℕ) → length ds ≡ 2 + length h.args → ended (assign_line (host_name h.process ++ codes "_req") (get_or ds 0 0)) ++ (ended (assign_line (host_name h.process ++ codes "_fn") (get_or ds 1 0)) ++ lines (numbered (λ i n. assign_line (arg_name h.process i) n) (drop 2 ds))) ≡ assigned (host_port_names h) ds
assigned_host h [] fits = absurd (omega arith)
assigned_host h (r ∷ []) fits = absurd (omega arith)
assigned_host h (r ∷ f ∷ ds) fits =
    let same : length ds ≡ length h.args = omega arith in
    let rest : map (λ q. assign_line q.0 q.1) (zip (map (λ i. arg_name h.process i.0) (enumerate_from 0 h.args)) ds) ≡ numbered (λ i n. assign_line (arg_name h.process i) n) ds =
    ap (λ t. map (λ q. assign_line q.0 q.1) t) (zip_numbered (λ i. arg_name h.process i) 0 h.args ds same) ∙ map-map (λ q. assign_line q.0 q.1) (λ i. (arg_name h.process i.0, i.1)) (enumerate_from 0 ds) in
    ap (λ t. ended (assign_line (host_name h.process ++ codes "_req") r) ++ (ended (assign_line (host_name h.process ++ codes "_fn") f) ++ lines t)) (sym rest)

-- ---- how many nodes drive ports

-- one for each port
pub drives_fit : (n : Parts) → IsNetlist n → length n.drives ≡ 1 + length n.outputs + length (flat_map host_port_names n.hosts)
drives_fit n is =
    let same : length n.drives ≡ length (port_widths n) = simp length-map at (ap length is.shell.connected.drives) in
    let outs : length (map (λ o. o.width) n.outputs) ≡ length n.outputs = simp length-map in
    let ports : length (port_widths n) ≡ suc (length (map (λ o. o.width) n.outputs ++ flat_map host_port_widths n.hosts)) = refl in
    omega (arith, same, outs, ports, length-append (map (λ o. o.width) n.outputs) (flat_map host_port_widths n.hosts), all_fit n.hosts)
  where
    all_fit : (hs : List HostLine) → length (flat_map host_port_widths hs) ≡ length (flat_map host_port_names hs)
    all_fit [] = refl
    all_fit (h ∷ hs) = length-append (host_port_widths h) (flat_map host_port_widths hs) ∙ ap (λ k. k + length (flat_map host_port_widths hs)) (names_fit h) ∙ ap (λ k. length (host_port_names h) + k) (all_fit hs) ∙ sym (length-append (host_port_names h) (flat_map host_port_names hs))

-- all ports
pub assigned_all : (n : Parts) (pins hosts : List ℕ) → 1 ≤ length n.drives → pins ++ hosts ≡ drop 1 n.drives → length pins ≡ length n.outputs → ended (assign_line (codes "xtc_edge") (get_or n.drives 0 0)) ++ (assigned (map (λ o. o.name) n.outputs) pins ++ assigned (flat_map host_port_names n.hosts) hosts) ≡ lines (assign_lines n)
assigned_all n pins hosts some parts same =
    let names : length (map (λ o. o.name) n.outputs) ≡ length pins = simp length-map (sym same) in
    ap (λ t. ended (assign_line (codes "xtc_edge") (get_or n.drives 0 0)) ++ t) (assigned-append (map (λ o. o.name) n.outputs) (flat_map host_port_names n.hosts) pins hosts names ∙ ap (λ t. assigned (map (λ o. o.name) n.outputs ++ flat_map host_port_names n.hosts) t) parts)
    ∙ first (port_names n) n.drives some
  where
    first : (names : List (List ℕ)) (ds : List ℕ) → 1 ≤ length ds → ended (assign_line (codes "xtc_edge") (get_or ds 0 0)) ++ assigned (map (λ o. o.name) n.outputs ++ flat_map host_port_names n.hosts) (drop 1 ds) ≡ assigned (port_names n) ds
    first names [] more = absurd (omega arith)
    first names (d ∷ ds) more = refl

-- ---- the processes, one after another

names_count : (h : HostLine) → length (host_port_names h) ≡ 2 + length h.args
names_count h =
    let args : length (map (λ i. arg_name h.process i.0) (enumerate_from 0 h.args)) ≡ length h.args = simp (length-map, length-enumerate_from) in
    omega arith

pub names_more : (hs : List HostLine) (i : ℕ) (h : HostLine) (done own : List ℕ) → i < length hs → h ≡ get_or hs i h → length done ≡ length (flat_map host_port_names (take i hs)) → length own ≡ 2 + length h.args → length (done ++ own) ≡ length (flat_map host_port_names (take (i + 1) hs))
names_more hs i h done own within at before one =
    let after : length (flat_map host_port_names (take i hs) ++ host_port_names h) ≡ length (flat_map host_port_names (take (i + 1) hs)) = ap length (flat_more host_port_names hs i h within at) in
    omega (arith, length-append done own, length-append (flat_map host_port_names (take i hs)) (host_port_names h), names_count h)

-- what is left holds the next process's nodes
pub room_left : (hs : List HostLine) (i : ℕ) (h : HostLine) (done rest drives : List ℕ) → length drives ≡ length (flat_map host_port_names hs) → done ++ rest ≡ drives → i < length hs → h ≡ get_or hs i h → length done ≡ length (flat_map host_port_names (take i hs)) → 2 + length h.args ≤ length rest
room_left hs i h done rest drives all parts within at before =
    let after : length (flat_map host_port_names (take i hs) ++ host_port_names h) ≡ length (flat_map host_port_names (take (i + 1) hs)) = ap length (flat_more host_port_names hs i h within at) in
    let split : length (flat_map host_port_names (take (i + 1) hs) ++ flat_map host_port_names (drop (i + 1) hs)) ≡ length (flat_map host_port_names hs) =
    ap length (sym (flat_map-append host_port_names (take (i + 1) hs) (drop (i + 1) hs)) ∙ ap (λ t. flat_map host_port_names t) (take-append-drop (i + 1) hs)) in
    let whole : length (done ++ rest) ≡ length drives = ap length parts in
    omega (arith, length-append done rest, length-append (flat_map host_port_names (take i hs)) (host_port_names h), length-append (flat_map host_port_names (take (i + 1) hs)) (flat_map host_port_names (drop (i + 1) hs)), names_count h)

-- nothing is left at the end
pub all_done : (done rest drives : List ℕ) → done ++ rest ≡ drives → length done ≡ length drives → done ≡ drives
all_done done [] drives parts same = sym (append-nil done) ∙ parts
all_done done (r ∷ rs) drives parts same =
    let whole : length (done ++ r ∷ rs) ≡ length drives = ap length parts in
    absurd (omega (arith, length-append done (r ∷ rs)))
