use Rattle.std.proofs.Common.{◌≡◌, ◌++◌, ◌∷◌, [], ◌∙◌, ap, subst, map, drop, List, ℕ}
use Rattle.std.specs.Prelude.{OnOk}
use Rattle.nt_core.specs.declared.netlist.Node.{Node}
use Rattle.nt_read.specs.Words.{greatest, range}
use Rattle.nt_read.specs.Forms.{after_own, form}
use Rattle.nt_read.specs.Sketch.{node_told}
use Rattle.nt_read.proofs.forms.put_node.Goals as goal

pub returns : goal.returns
returns c =
    let names : List (List ℕ) = map (λ k. k.now) c.args.names.now.keys in
    let op : c.form-op.result ≡ (node_told greatest names c.args.text.now).op =
    c.form-op.ensures
    ∙ ap (λ w. form greatest names w c.skip.result.now) c.range-width.ensures.value
    ∙ ap (λ t. form greatest names (range greatest c.args.text.now) t) (c.skip.ensures ∙ ap (drop 3) (c.own.ensures.rest ∙ ap after_own c.range-width.ensures.rest)) in
    let made : Node = record { width = c.range-width.result.0; op = c.form-op.result } in
    let node : made ≡ node_told greatest names c.args.text.now =
    ap (λ w. record { width = w; op = c.form-op.result }) c.range-width.ensures.value ∙ ap (λ o. record { width = range greatest c.args.text.now; op = o }) op in
    subst (λ (m : Node). OnOk c.put.result (c.put.new.list.items ≡ c.args.nodes.now.items ++ m ∷ [])) node c.put.ensures
