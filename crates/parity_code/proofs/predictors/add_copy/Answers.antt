use Rattle.std.proofs.Common.{◌∙◌, ap}
use Rattle.parity_code.specs.PredictorSteps.{name_at}
use Rattle.tsc_net.proofs.ResultLemmas.{on_ok_so}
use Rattle.parity_code.proofs.PredictorParts.{grows_node, grows_same, either_way}
use Rattle.parity_code.proofs.PredictorGates.{copy_pins, copy_names, copy_added}
use Rattle.parity_code.proofs.predictors.add_copy.Goals as goal

pub node-requires-clause-pins : goal.node-requires-clause-pins
node-requires-clause-pins c =
    copy_pins c.args.net.now.circuit c.args.place c.args.names.now c.in_ok-reads.reads c.in_ok-cover.cover c.nets-nets.ensures.checked.closed c.requires.nameable.within
    c.in_ok-reads.ensures.names (c.in_ok-cover.ensures.copy ∙ c.node_cover.ensures.cover)

pub node-requires-clause-reads : goal.node-requires-clause-reads
node-requires-clause-reads c = copy_names c.args.parts.now.names c.args.names.now c.in_ok-reads.reads _ c.in_ok-reads.ensures.names c.requires.nameable.reads

pub returns-clause-grows : goal.returns-clause-grows
returns-clause-grows c =
    either_way c.node.result _ _ _ (λ e. grows_node c.args.parts.now c.node.new.self _ _ _ e) (λ e. grows_same c.args.parts.now c.node.new.self e) c.node.ensures.ok c.node.ensures.err

pub returns-clause-added : goal.returns-clause-added
returns-clause-added c =
    on_ok_so
    (copy_added c.args.net.now.circuit c.args.parts.now c.node.new.self c.args.place c.args.names.now c.in_ok-reads.reads _ c.in_ok-cover.cover c.in_ok-reads.ensures.names
    (ap (name_at c.args.names.now) c.node_net.ensures.net) (c.in_ok-cover.ensures.copy ∙ c.node_cover.ensures.cover)) c.node.result
    c.node.ensures.ok
