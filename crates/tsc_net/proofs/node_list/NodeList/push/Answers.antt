-- The pins of the node stand in the span that was added.
use Rattle.std.proofs.Common.{◌≡◌, ◌+◌, ◌++◌, ◌∷◌, [], List, length, map, ap, ◌∙◌, arith, length-append}
use Rattle.fault_secure.specs.Circuit.{NodeOf}
use Rattle.tsc_net.specs.declared.ids.NetId.{NetId}
use Rattle.tsc_net.specs.declared.node_list.Node.{Node}
use Rattle.tsc_net.specs.inner.NodeListView.{node_over, node_in}
use Rattle.tsc_net.proofs.SpanLemmas.{seen_more}
use Rattle.tsc_net.proofs.node_list.NodeList.push.Goals as goal

pub returns : goal.returns
returns c =
    let old = c.self.inside.pins.items in
    let new = c.extend_from_slice.new.self.items in
    let reads = c.args.reads.now in
    let nodes = c.self.inside.nodes.items in
    let node : Node = record { pins = record { start = c.len-start.result; end = c.len-end.result }; cover = c.args.cover } in
    let added : new ≡ old ++ reads = c.in_ok-extend_from_slice.ensures.items in
    let pushed : c.push.new.self.items ≡ nodes ++ node ∷ [] = c.in_ok-push.ensures.items in
    let start : node.pins.start ≡ length old = omega (arith, c.len-start.ensures, c.self.inside.pins.ok.0) in
    let end : node.pins.end ≡ length old + length reads =
    omega (arith, c.len-end.ensures, c.extend_from_slice.new.self.ok.0, ap length added, length-append old reads) in
    record {
      ok = (λ i. map (node_in (added i)) (pushed i)) ∙ seen_more (λ (n : Node). n.pins) (λ (p : List NetId) (n : Node). node_over p n.cover) old reads nodes node c.self.invariant start end
          ∙ ap (λ (l : List NodeOf). l ++ node_over reads c.args.cover ∷ []) c.self.view_is;
    }
