-- One host after another.
use Rattle.std.proofs.Common.{◌≡◌, ◌<◌, ℕ, List, Bool, true, false, not, ◌&&◌, length, get_or, arith, refl, subst, sym, ap, ◌∙◌}
use Rattle.std.specs.Prelude.{is_some}
use Rattle.xt_bits.specs.Word.{Word}
use Rattle.nt_core.specs.HostLine.{HostLine}
use Rattle.nt_core.specs.Parts.{Parts}
use Rattle.nt_core.specs.Ports.{request_up}
use Rattle.nt_run.specs.Acknowledged.{Acknowledged, reply_to}
use Rattle.nt_run.proofs.Hosts.{any_at, any_more, any_none, is_open, is_down, is_met}
use Rattle.nt_run.proofs.ports.has_unanswered.Goals as goal
use Rattle.nt_run.proofs.ports.has_unanswered.Goals.{else-is_asking-via-then-is_asking+else-not-is_acknowledged, else-is_asking-via-else-is_asking}

-- what is asked of each host
abbrev test : Parts → List Word → Acknowledged → ℕ × HostLine → Bool
test n vs a h = request_up n vs h.0 && not (is_some (reply_to a h.1.process))

-- the host that the loop has come to, with its process
acknowledged_at : (n : Parts) (a : Acknowledged) (i p : ℕ) (h k : HostLine) (hs : List HostLine) → hs ≡ n.hosts → h ≡ get_or hs i h → k ≡ h → k.process ≡ p → (b : Bool)
    → is_some (reply_to a p) ≡ b → is_some (reply_to a (get_or n.hosts i h).process) ≡ b
acknowledged_at n a i p h k hs same at view is b e =
    ap (λ l. is_some (reply_to a (get_or l i h).process)) (sym same)
    ∙ ap (λ (l : HostLine). is_some (reply_to a l.process)) (sym at ∙ sym view) ∙ ap (λ q. is_some (reply_to a q)) is ∙ e

pub returns-then-not-is_acknowledged : goal.returns-then-not-is_acknowledged
returns-then-not-is_acknowledged c =
    let n : Parts = c.args.netlist.now in
    let i = c.loop-i.i in
    let h : HostLine = c.host-item.result in
    let same : c.as_slice-host-items.result.now ≡ n.hosts = c.as_slice-host-items.ensures.value ∙ ap (λ p. p.hosts) c.netlist.view_is in
    sym (any_at (test n c.args.values.now c.args.acks.now) n.hosts i h (subst (λ l. i < length l) same c.loop-i-test.true)
    (is_open _ _ (sym c.is_asking.ensures ∙ c.if-is_asking.true)
    (acknowledged_at n c.args.acks.now i _ h _ _ same c.host-item.is c.host.view_is refl false (sym c.is_acknowledged.ensures ∙ c.if-not-is_acknowledged.true))))

pub loop-i-preserved : goal.loop-i-preserved
loop-i-preserved c =
    let n : Parts = c.args.netlist.now in
    let i = c.loop-i.i in
    let h : HostLine = c.host-item.result in
    let same : c.as_slice-host-items.result.now ≡ n.hosts = c.as_slice-host-items.ensures.value ∙ ap (λ p. p.hosts) c.netlist.view_is in
    any_more (test n c.args.values.now c.args.acks.now) n.hosts i h (subst (λ l. i < length l) same c.loop-i-test.true) c.loop-i.invariant
    (elim c.else-is_asking.branch [
      | else-is_asking-via-then-is_asking+else-not-is_acknowledged w ↦
          is_met _ _ (acknowledged_at n c.args.acks.now i _ h _ _ same c.host-item.is c.host.view_is refl true (sym w.is_acknowledged.ensures ∙ w.if-not-is_acknowledged.false))
      | else-is_asking-via-else-is_asking w ↦ is_down _ _ (sym c.is_asking.ensures ∙ w.if-is_asking.false)
    ])

pub returns : goal.returns
returns c =
    let n : Parts = c.args.netlist.now in
    let same : c.as_slice-host-items.result.now ≡ n.hosts = c.as_slice-host-items.ensures.value ∙ ap (λ p. p.hosts) c.netlist.view_is in
    sym (any_none (test n c.args.values.now c.args.acks.now) n.hosts c.loop-i.i (omega (arith, c.loop-i-test.false, ap length same)) c.loop-i.invariant)
