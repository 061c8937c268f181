use Rattle.std.proofs.Common.{◌∙◌, List, ap, map}
use Rattle.push_negations.specs.declared.phases.Phases.{Phases}
use Rattle.push_negations.specs.Phases.{positive_at}
use Rattle.push_negations.proofs.Pushed.{pushed_zeros}
use Rattle.push_negations.proofs.normal_form.push.Goals as goal

pub returns-clause-zeros : goal.returns-clause-zeros
returns-clause-zeros c =
    pushed_zeros c.args.gates.now c.add_lines.new.made c.in_ok-phases.phases.items c.args.wanted.now c.in_ok-outputs.outputs c.in_ok-phases.ensures.pushed c.in_ok-phases.ensures.all c.in_ok-phases.ensures.gates c.requires.wanted
    (c.in_ok-outputs.ensures.made ∙ ap (λ (pairs : List Phases). map (positive_at pairs) c.as_slice.result.now) c.deref.ensures.value ∙ ap (map (positive_at c.in_ok-phases.phases.items)) c.as_slice.ensures.whole)
