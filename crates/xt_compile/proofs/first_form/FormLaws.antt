-- What reading gives is a source for the compiler.
use Rattle.std.proofs.Common.{◌≡◌, ◌≤◌, ℕ, suc, List, [], Some, None, Result, Ok, Err, length, refl, sym, subst, ◌∙◌, arith}
use Rattle.std.specs.Prelude.{◌==◌, ◌&&◌, nat_le, count_by, IfOk, MatchResult, if◌then◌else◌}
use Rattle.std.proofs.lemmas.Bool.{and_parts, leb-true}
use Rattle.std.proofs.lemmas.List.{length-map}
use Rattle.std.proofs.lemmas.List.Elements.{All-nil}
use Rattle.xt_base.specs.declared.refusals.Place.{Place}
use Rattle.nt_core.specs.Names.{is_pin_name}
use Rattle.vl_lex.specs.declared.kinds.Token.{Token}
use Rattle.vl_lex.specs.Views.{spelling, spellings_of}
use Rattle.vl_expr.specs.Terminals.{terminal_of, terminals_of}
use Rattle.vl_tree.specs.declared.terminals.Terminal.{Terminal}
use Rattle.vl_tree.specs.declared.modules.Tree.{Tree}
use Rattle.vl_tree.specs.Modules as modules
use Rattle.xt_compile.specs.declared.first.source.Source.{Source}
use Rattle.xt_compile.specs.declared.first.tokens.FormError.{FormError}
use Rattle.xt_compile.specs.declared.first.tokens.FormError.TheVariants as errors
use Rattle.xt_compile.specs.first.Source.{IsSource, IsStep, is_wait, most_tokens}
use Rattle.xt_compile.specs.first.Tree.{◌>>=◌, Gives, IsForm, Header, Process, opens, only, no_ports, header_of, process_of, ports_from, steps_from, source_with, parts_source, module_source, source_of}
use Rattle.xt_compile.proofs.first_form.Somes.{some_one, none_some, bind_some, test_some}
use Rattle.xt_compile.proofs.first_form.FormPorts.{ports_are}
use Rattle.xt_compile.proofs.first_form.FormSteps.{steps_right, steps_tokens}
use Rattle.xt_compile.proofs.first_form.FormModule.{StandBefore, process_stands}

module _ (ls : List Terminal) (names : List (List ℕ)) (places : List Place) (top clock : List ℕ) where
  parts_are : (opened most : ℕ) (header : Header) (process : Process) (source : Source) → most ≤ most_tokens → StandBefore ls names process.2 most → parts_source names places clock opened header process ≡ Some source → IsSource source
  parts_are opened most header process source few stand e =
      let ps = bind_some (ports_from names places clock no_ports header.2)
      (λ ps. steps_from names places ps clock [] process.2 >>= λ steps. if opened == suc (count_by is_wait steps) then Some (source_with clock header process ps steps) else None) source e in
      let steps = bind_some (steps_from names places ps.val clock [] process.2) (λ steps. if opened == suc (count_by is_wait steps) then Some (source_with clock header process ps.val steps) else None) source ps.rest in
      let t = test_some (opened == suc (count_by is_wait steps.val)) (Some (source_with clock header process ps.val steps.val)) source steps.rest in
      let tokens = steps_tokens ls names places ps.val clock stand.stand [] steps.val steps.first in
      let before = stand.before in
      subst IsSource (some_one t.rest) (record {
        ports = ports_are names places clock header.2 ps.val ps.first;
        steps = steps_right ls names places ps.val clock [] process.2 steps.val steps.first (All-nil (IsStep ps.val.inputs ps.val.outputs));
        size = omega (arith, tokens, before, few);
      })

  form_is_source : (t : Tree) (depth : ℕ) (source : Source) → length ls ≡ length names → modules.IsSource ls names depth t → source_of ls names places top clock t ≡ Some source → IsSource source
  form_is_source t depth source size is e =
      let s = test_some (nat_le (length names) most_tokens && is_pin_name clock) (only t.modules >>= module_source names places top clock (count_by opens ls)) source e in
      let parts = and_parts (nat_le (length names) most_tokens) (is_pin_name clock) s.holds in
      let few = leb-true (length names) most_tokens parts.0 in
      let m = bind_some (only t.modules) (module_source names places top clock (count_by opens ls)) source s.rest in
      let header = bind_some (header_of names places top clock m.val) (λ header. process_of places m.val >>= λ process. parts_source names places clock (count_by opens ls) header process) source m.rest in
      let process = bind_some (process_of places m.val) (λ process. parts_source names places clock (count_by opens ls) header.val process) source header.rest in
      parts_are (count_by opens ls) (length ls) header.val process.val source (omega (arith, size, few)) (process_stands ls names places is m.val process.val m.first process.first) process.rest

  -- ---- what an answer says

  module _ (t : Tree) (r : Result Source FormError) (gives : Gives r (source_of ls names places top clock t)) where
    pub told_form : IfOk r (IsForm ls names places top clock t)
    told_form = go r gives
      where
        go : (r : Result Source FormError) → Gives r (source_of ls names places top clock t) → IfOk r (IsForm ls names places top clock t)
        go (Ok source) gives = gives
        go (Err e) gives = tt

    pub told_only : (source : Source) → IsForm ls names places top clock t source → MatchResult r (λ found. found ≡ source) (λ error. error ≡ errors.Memory)
    told_only source f = go r gives
      where
        go : (r : Result Source FormError) → Gives r (source_of ls names places top clock t) → MatchResult r (λ found. found ≡ source) (λ error. error ≡ errors.Memory)
        go (Ok found) gives = some_one (sym gives ∙ f)
        go (Err errors.OutOfForm) gives = absurd (none_some (sym gives ∙ f))
        go (Err errors.Memory) gives = refl

    pub told_source : (depth : ℕ) → length ls ≡ length names → modules.IsSource ls names depth t → IfOk r IsSource
    told_source depth size is = go r gives
      where
        go : (r : Result Source FormError) → Gives r (source_of ls names places top clock t) → IfOk r IsSource
        go (Ok source) gives = form_is_source t depth source size is gives
        go (Err e) gives = tt

  -- a tree is one source of the form at most
  pub one_source : (t : Tree) (a b : Source) → IsForm ls names places top clock t a → IsForm ls names places top clock t b → a ≡ b
  one_source t a b f g = some_one (sym f ∙ g)

-- the grammar's tokens are as many as are spelled
pub as_many : (text : List ℕ) (ts : List Token) → length (terminals_of text ts) ≡ length (spellings_of text ts)
as_many text ts = length-map ts (λ (t : Token). terminal_of t.kind (spelling text t)) ∙ sym (length-map ts (spelling text))
