use Rattle.std.proofs.Common.{All, sym, ◌∙◌, ap, subst}
use Rattle.std.proofs.lemmas.List.Elements.{All-map}
use Rattle.tsc_net.specs.PartsView.{texts_of, IsName}
use Rattle.tsc_net.proofs.ResultLemmas.{on_ok_so}
use Rattle.parity_code.specs.ParityFunction.{outputs_at}
use Rattle.parity_code.specs.Predictors.{with_parity}
use Rattle.parity_code.specs.PredictorSteps.{name_at}
use Rattle.parity_code.proofs.PredictorGates.{texts_of_nets}
use Rattle.parity_code.proofs.OutputsCopied.{at_outputs}
use Rattle.duplex_synth.proofs.shared.add_check.Goals as goal

pub add_parity-requires-clause-names : goal.add_parity-requires-clause-names
add_parity-requires-clause-names c =
    subst (All (IsName c.args.parts.now.names)) (sym (c.as_slice.ensures.whole ∙ c.in_ok-outputs.ensures.names))
    (All-map (IsName c.args.parts.now.names) (name_at c.args.names.now) (outputs_at c.args.net.now.circuit c.args.group.now)
    (at_outputs (λ net. IsName c.args.parts.now.names (name_at c.args.names.now net)) c.args.net.now.circuit c.args.group.now c.requires.named c.requires.within))

pub returns-clause-added : goal.returns-clause-added
returns-clause-added c =
    on_ok_so
    (λ is. is ∙ ap (with_parity c.args.parts.now)
    (ap (texts_of c.args.parts.now.names) (c.as_slice.ensures.whole ∙ c.in_ok-outputs.ensures.names) ∙ texts_of_nets c.args.parts.now.names c.args.names.now (outputs_at c.args.net.now.circuit c.args.group.now))) c.add_parity.result
    c.add_parity.ensures.added
