-- One node more.
use Rattle.std.proofs.Common.{◌≡◌, ◌+◌, ◌++◌, ◌∷◌, [], drop, map, length, refl, sym, ap, ◌∙◌, List, ℕ, rules}
use Rattle.std.proofs.lemmas.List.{length_push}
use Rattle.std.proofs.lemmas.Iterator.Adapters.{YieldsList-from_vec}
use Rattle.std.proofs.lemmas.Iterator.Consumers.{YieldsList-turn}
use Rattle.fault_secure.specs.Circuit.{NodeOf}
use Rattle.tsc_net.specs.inner.Build.{node_reads}
use Rattle.tsc_net.specs.NetlistOf.{numbered_node}
use Rattle.tsc_net.specs.PartsView.{node_of, texts_of}
use Rattle.tsc_net.specs.NetFault.{first_missing, joined}
use Rattle.tsc_net.specs.declared.parts.NodePart.{NodePart}
use Rattle.tsc_net.proofs.BuildLemmas.{made-next, joined-next, joined-at, map-map}
use Rattle.tsc_net.proofs.build.nodes_of.Goals as goal

pub loop-part-preserved : goal.loop-part-preserved
loop-part-preserved c =
    let names = c.args.names.now.names in
    let driven = c.args.names.now.nets in
    let parts = c.args.parts.items in
    let i = length c.loop-part.yielded in
    let part : NodePart = c.in-Some.part in
    let turn = YieldsList-turn (YieldsList-from_vec {s = c.into_iter-part-iterator.result} parts (search rules) (search rules)) c.loop-part.yielded c.loop-part.part-iterator c.loop-part.yielded_by c.next.result c.next.new.self c.in-Some.part c.in-Some.is c.next.ensures.steps in
    let whole = map (numbered_node driven) (map (node_of names) parts) in
    let reads : NodePart → List (List ℕ) = λ n. texts_of names n.reads.items in
    let next : length (c.loop-part.yielded ++ part ∷ []) ≡ i + 1 = length_push c.loop-part.yielded part in
    record {
      reading =
          ap (λ k. c.add_node.new.nodes ++ map (numbered_node driven) (map (node_of names) (drop k parts))) next
          ∙ ap (λ (nodes : List NodeOf). nodes ++ map (numbered_node driven) (map (node_of names) (drop (i + 1) parts))) c.in_ok-add_node.ensures.node
          ∙ made-next (numbered_node driven) (node_of names) c.loop-part.nodes (numbered_node driven (node_of names part)) parts i part part whole turn.0 turn.1 refl c.loop-part.invariant.reading;
      missing =
          ap (λ k. first_missing driven (node_reads (map (node_of names) (drop k parts)))) next
          ∙ ap (λ l. first_missing driven (joined l)) (map-map (λ n. n.reads) (node_of names) (drop (i + 1) parts))
          ∙ joined-next driven reads parts i part part (first_missing driven (node_reads (map (node_of names) parts))) turn.0 turn.1 c.in_ok-add_node.ensures.driven
          (ap (λ l. first_missing driven (joined l)) (sym (map-map (λ n. n.reads) (node_of names) (drop i parts))) ∙ c.loop-part.invariant.missing);
    }

pub returns-in_err-add_node-clause-undriven : goal.returns-in_err-add_node-clause-undriven
returns-in_err-add_node-clause-undriven c =
    let names = c.args.names.now.names in
    let driven = c.args.names.now.nets in
    let parts = c.args.parts.items in
    let i = length c.loop-part.yielded in
    let part : NodePart = c.in-Some.part in
    let turn = YieldsList-turn (YieldsList-from_vec {s = c.into_iter-part-iterator.result} parts (search rules) (search rules)) c.loop-part.yielded c.loop-part.part-iterator c.loop-part.yielded_by c.next.result c.next.new.self c.in-Some.part c.in-Some.is c.next.ensures.steps in
    let reads : NodePart → List (List ℕ) = λ n. texts_of names n.reads.items in
    let all = node_reads (map (node_of names) parts) in
    let refused = joined-at driven reads parts i part part all c.in_err-add_node.field-0.0 turn.0 turn.1
    (ap (λ l. first_missing driven (joined l)) (sym (map-map (λ n. n.reads) (node_of names) (drop i parts))) ∙ c.loop-part.invariant.missing)
    c.in_err-add_node.ensures.undriven in
    search rules
