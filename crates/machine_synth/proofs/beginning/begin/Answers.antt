use Rattle.std.proofs.Common.{◌++◌, List, ℕ, ap, sym, subst, ◌∙◌}
use Rattle.tsc_net.specs.Names.{IsNumbering}
use Rattle.tsc_net.specs.Parts.{PartsOf}
use Rattle.machine_synth.proofs.BegunParts.{numbering_front}
use Rattle.machine_synth.proofs.beginning.begin.Goals as goal

pub add_names-requires-clause-distinct : goal.add_names-requires-clause-distinct
add_names-requires-clause-distinct c =
    subst (λ (names : List (List ℕ)). IsNumbering (names ++ c.args.inputs.now)) (sym (ap (λ (p : PartsOf). p.names) (c.in_ok-model.ensures.ok) ∙ ap (λ (p : PartsOf). p.names) c.requires.empty))
    (numbering_front c.args.inputs.now c.args.outputs.now c.requires.distinct)
