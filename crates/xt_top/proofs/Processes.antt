-- The place of a source's process lies in a file of the text.
use Rattle.std.proofs.Common.{◌≡◌, ◌∙◌, ◌<◌, subst, sym, ap, ℕ, zero, suc, List, [], ◌∷◌, Option, Some, None, length}
use Rattle.std.specs.Prelude.{◌==◌, ◌&&◌, count_by, nat_le, option_map, if◌then◌else◌}
use Rattle.xt_base.specs.declared.refusals.Place.{Place}
use Rattle.vl_pre.specs.Text.{Expanded}
use Rattle.vl_pre.proofs.Placed.{Open, open_place}
use Rattle.nt_core.specs.Names.{is_pin_name}
use Rattle.vl_lex.specs.Views.{places_of, spellings_of}
use Rattle.vl_lex.specs.declared.kinds.Token.{Token}
use Rattle.vl_expr.specs.Terminals.{terminals_of}
use Rattle.vl_tree.specs.declared.modules.Item.{Item}
use Rattle.vl_tree.specs.declared.modules.Item.TheVariants as items
use Rattle.vl_tree.specs.declared.modules.Tree.{Tree}
use Rattle.vl_tree.specs.declared.statements.Stmt.{Stmt}
use Rattle.vl_tree.specs.declared.terminals.Terminal.{Terminal}
use Rattle.xt_compile.specs.declared.first.source.Source.{Source}
use Rattle.xt_compile.specs.first.Source.{is_wait, most_tokens}
use Rattle.xt_compile.specs.first.Tree.{◌>>=◌, Header, Process, always_of, block_of, header_of, module_source, no_ports, only, opens, parts_source, place_at, ports_from, process_of, source_of, source_with, steps_from}
use Rattle.xt_compile.proofs.first_form.Somes.{bind_some, none_some, some_one, test_some}
use Rattle.xt_top.specs.Command.{SourceWords}
use Rattle.xt_top.specs.Sources.{IsFormOf}

-- the place of a token, and the file as a whole, lie in a file of the text
token_named : (text : Expanded) → Open text → (ts : List Token) (at : ℕ) → (place_at (places_of text ts) at).file < length text.names
token_named text o [] at = o.some
token_named text o (t ∷ ts) zero = open_place text t.start o
token_named text o (t ∷ ts) (suc at) = token_named text o ts at

module _ (places : List Place) where
  -- a process is at the place of a token
  abbrev StandsAt : Process → Type 0
  StandsAt process = (at : ℕ) × (process.0 ≡ place_at places at)

  always_at : (item : Option Item) (process : Process) → always_of places item ≡ Some process → StandsAt process
  always_at (Some (items.Always at body)) process e = by (block_of body) e where
    by : (block : Option (ℕ × List Stmt)) → option_map (λ block. (place_at places at, place_at places block.0, block.1)) block ≡ Some process → StandsAt process
    by None e = absurd (none_some e)
    by (Some block) e = (at, ap (λ (p : Process). p.0) (sym (some_one e)))
  always_at _ process e = absurd (none_some e)

  module _ (ls : List Terminal) (names : List (List ℕ)) (top clock : List ℕ) where
    parts_at : (opened : ℕ) (header : Header) (process : Process) (source : Source) → parts_source names places clock opened header process ≡ Some source → source.process ≡ process.0
    parts_at opened header process source e =
        let ps = bind_some (ports_from names places clock no_ports header.2)
        (λ ps. steps_from names places ps clock [] process.2 >>= λ steps. if opened == suc (count_by is_wait steps) then Some (source_with clock header process ps steps) else None) source e in
        let steps = bind_some (steps_from names places ps.val clock [] process.2) (λ steps. if opened == suc (count_by is_wait steps) then Some (source_with clock header process ps.val steps) else None) source ps.rest in
        let t = test_some (opened == suc (count_by is_wait steps.val)) (Some (source_with clock header process ps.val steps.val)) source steps.rest in
        ap (λ (s : Source). s.process) (sym (some_one t.rest))

    source_at : (tree : Tree) (source : Source) → source_of ls names places top clock tree ≡ Some source → (at : ℕ) × (source.process ≡ place_at places at)
    source_at tree source e =
        let s = test_some (nat_le (length names) most_tokens && is_pin_name clock) (only tree.modules >>= module_source names places top clock (count_by opens ls)) source e in
        let m = bind_some (only tree.modules) (module_source names places top clock (count_by opens ls)) source s.rest in
        let header = bind_some (header_of names places top clock m.val) (λ header. process_of places m.val >>= λ process. parts_source names places clock (count_by opens ls) header process) source m.rest in
        let process = bind_some (process_of places m.val) (λ process. parts_source names places clock (count_by opens ls) header.val process) source header.rest in
        let (at, is) = always_at (only m.val.items) process.val process.first in
        (at, parts_at (count_by opens ls) header.val process.val source process.rest ∙ is)

pub process_named : (text : Expanded) → Open text → (s : SourceWords) (ts : List Token) (tree : Tree) (source : Source) → IsFormOf text s ts tree source → source.process.file < length text.names
process_named text o s ts tree source form =
    let (at, is) = source_at (places_of text ts) (terminals_of text.bytes ts) (spellings_of text.bytes ts) s.top s.clock tree source form in
    subst (λ (p : Place). p.file < length text.names) (sym is) (token_named text o ts at)
