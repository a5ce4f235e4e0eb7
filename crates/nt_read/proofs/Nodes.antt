-- The nodes of a netlist, of their lines.
use Rattle.std.proofs.Common.{◌≡◌, ℕ, ◌+◌, ◌^◌, ◌≤◌, ◌<◌, List, [], ◌∷◌, ◌++◌, take, drop, length, map, filter, get_or, refl, sym, ap, ◌∙◌, subst, arith, codes, slice_index}
use Rattle.std.specs.List.{enumerate_from, AllByRecursion}
use Rattle.std.proofs.lemmas.Option.{slice_get-get_or}
use Rattle.std.proofs.lemmas.List.{length-map, get_or-take, length-take-le, map-append}
use Rattle.std.proofs.lemmas.List.Elements.{recursion_from_All, filter-append}
use Rattle.nt_core.specs.declared.netlist.Node.{Node}
use Rattle.nt_core.specs.Parts.{Parts}
use Rattle.nt_core.specs.Forms.{IsWidth, IsNode, widths}
use Rattle.nt_core.specs.Conditions.{IsNetlist, AreNodes, HasSource}
use Rattle.nt_core.specs.Text.{range_text, node_name, form_text, node_line}
use Rattle.nt_core.proofs.Ranges.{AreInRange, form_width-range, nodes-in_range}
use Rattle.nt_read.specs.Words.{range, after_range}
use Rattle.nt_read.specs.Names.{names_of}
use Rattle.nt_read.specs.Forms.{after_own, form}
use Rattle.nt_read.specs.Sketch.{is_node_line, node_told}
use Rattle.nt_read.proofs.Numbers.{after_at}
use Rattle.nt_read.proofs.Pieces.{range_at, after_range_at}
use Rattle.nt_read.proofs.FormTexts.{Fits, flat5, form_at}
use Rattle.nt_read.proofs.Plain.{Plain}
use Rattle.nt_read.proofs.PlainLines.{form_plain, node_line_plain}

-- what is asked of a node to be read
pub record GoodNode (most : ℕ) (n : Parts) (m : Node) : Type 0 where
  pub ws : List ℕ
  pub few : length ws ≤ most
  pub ranges : AreInRange ws
  pub node : IsNode ws m
  pub source : HasSource n m.op

-- the nodes before a place are in range
before : (nodes : List Node) (i : ℕ) → AreNodes nodes → i ≤ length nodes → AreInRange (take i (widths nodes))
before nodes i are within a below =
    let size : length (take i (widths nodes)) ≡ i = length-take-le i (widths nodes) (omega (arith, within, length-map nodes (λ (m : Node). m.width))) in
    subst IsWidth (sym (get_or-take i (widths nodes) a 0 (omega (arith, below, size)))) (nodes-in_range nodes are a (omega (arith, below, size, within, length-map nodes (λ (m : Node). m.width))))

pub good_nodes : (most : ℕ) (n : Parts) → IsNetlist n → length n.nodes ≤ most → AllByRecursion (GoodNode most n) n.nodes
good_nodes most n net few = recursion_from_All (GoodNode most n) n.nodes (λ i d within. record {
  ws = take i (widths n.nodes);
  few = omega (arith, few, within, length-take-le i (widths n.nodes) (omega (arith, within, length-map n.nodes (λ (m : Node). m.width))));
  ranges = before n.nodes i net.nodes (omega (arith, within));
  node = net.nodes.each i (get_or n.nodes i d) (slice_get-get_or n.nodes i d within);
  source = net.shell.connected.sources i d within;
})

module _ (most : ℕ) (wide : most < 2 ^ 64) (room : 65536 ≤ most) (n : Parts) (fits : Fits most n) where
  abbrev names : List (List ℕ)
  names = names_of (n.inputs ++ n.outputs)

  narrow : (ws : List ℕ) → AreInRange ws → (a : ℕ) → a < length ws → slice_index ws a ≤ most
  narrow ws ranges a below = omega (arith, (ranges a below).1, room)

  width_good : (m : Node) → GoodNode most n m → IsWidth m.width
  width_good m good = subst IsWidth (sym good.node.width) (form_width-range good.ws good.ranges m.op good.node.operands good.node.constant)

  line_read : (i : ℕ) (m : Node) → i ≤ most → GoodNode most n m → node_told most names (drop 7 (node_line n i m)) ≡ m
  line_read i m small good =
      let last : List ℕ = codes " = " ++ (form_text n m.op ++ codes ";") in
      let text : List ℕ = range_text m.width ++ (node_name i ++ last) in
      let width : range most text ≡ m.width = range_at most wide room m.width (node_name i ++ last) (width_good m good) refl in
      let op : form most names (range most text) (drop 3 (after_own (after_range text))) ≡ m.op =
      ap (λ t. form most names (range most text) (drop 3 (after_own t))) (after_range_at most wide room m.width (node_name i ++ last) (width_good m good) refl)
      ∙ ap (λ t. form most names (range most text) (drop 3 t)) (after_at most wide i last small refl)
      ∙ ap (λ w. form most names w (form_text n m.op ++ codes ";")) width
      ∙ form_at most wide room n fits good.ws good.few (narrow good.ws good.ranges) m.op m.width good.node.operands good.source good.node.constant good.node.width in
      ap (node_told most names) (flat5 (range_text m.width) (node_name i) (codes " = ") (form_text n m.op) (codes ";"))
      ∙ ap (λ w. record { width = w; op = form most names (range most text) (drop 3 (after_own (after_range text))) }) width
      ∙ ap (λ o. record { width = m.width; op = o }) op

  pub line_plain : (i : ℕ) (m : Node) → i ≤ most → GoodNode most n m → Plain (node_line n i m)
  line_plain i m small good = node_line_plain most wide n i m small (omega (arith, (width_good m good).1)) (form_plain most wide room n fits good.ws good.few (narrow good.ws good.ranges) m.op good.node.operands good.source good.node.constant)

  -- the nodes of lines
  abbrev pub of_lines : List (List ℕ) → List Node
  of_lines lines = map (λ line. node_told most names (drop 7 line)) (filter is_node_line lines)

  pub of_lines_append : (xs ys : List (List ℕ)) → of_lines (xs ++ ys) ≡ of_lines xs ++ of_lines ys
  of_lines_append xs ys = ap (map (λ line. node_told most names (drop 7 line))) (filter-append is_node_line xs ys) ∙ map-append (λ line. node_told most names (drop 7 line)) (filter is_node_line xs) (filter is_node_line ys)

  pub nodes_from : (k : ℕ) (ms : List Node) → k + length ms ≤ most → AllByRecursion (GoodNode most n) ms → of_lines (map (λ i. node_line n i.0 i.1) (enumerate_from k ms)) ≡ ms
  nodes_from k [] few good = refl
  nodes_from k (m ∷ ms) few good =
      ap (λ x. x ∷ of_lines (map (λ i. node_line n i.0 i.1) (enumerate_from (k + 1) ms))) (line_read k m (omega (arith, few)) good.0)
      ∙ ap (λ xs. m ∷ xs) (nodes_from (k + 1) ms (omega (arith, few)) good.1)
