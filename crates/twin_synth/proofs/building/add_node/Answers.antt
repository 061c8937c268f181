use Rattle.std.proofs.Common.{◌≡◌, ◌+◌, ◌∙◌, map, ap, ap₂, subst}
use Rattle.std.specs.Result.{OnOk}
use Rattle.fault_secure.specs.Circuit.{NodeOf}
use Rattle.tsc_net.specs.Parts.{PartsOf}
use Rattle.net_building.specs.Names.{numbered}
use Rattle.twin_synth.proofs.BuiltParts.{node_step, pins_named}
use Rattle.twin_synth.proofs.building.add_node.Goals as goal

pub node-requires-clause-reads : goal.node-requires-clause-reads
node-requires-clause-reads c =
    pins_named c.args.numbered.now c.args.parts.now c.in_ok-reads.reads _ _ c.args.place c.requires.built c.requires.within c.requires.begun
    (c.in_ok-reads.ensures.names ∙ ap (map numbered) (c.reads.ensures.reads ∙ ap (λ (n : NodeOf). n.reads) c.node-node.ensures.node))

pub returns : goal.returns
returns c = record {
  added = subst (λ (q : PartsOf). OnOk c.node.result (c.node.new.self ≡ q))
      (node_step c.args.numbered.now c.args.parts.now c.in_ok-reads.reads c.name_of-out.result c.in_ok-cover.cover _ _ c.args.place c.requires.within c.requires.begun
      (c.in_ok-reads.ensures.names ∙ ap (map numbered) (c.reads.ensures.reads ∙ ap (λ (n : NodeOf). n.reads) c.node-node.ensures.node))
      (c.name_of-out.ensures.name ∙ ap₂ (λ a b. numbered (a + b + c.args.place)) c.inputs.ensures.count c.latches.ensures.count)
      (c.in_ok-cover.ensures.copy ∙ c.cover.ensures.cover ∙ ap (λ (n : NodeOf). n.cover) c.node-node.ensures.node))
      c.node.ensures.ok;
}
