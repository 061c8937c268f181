use Rattle.std.proofs.Common.{ℕ, List, ◌∙◌, subst}
use Rattle.std.proofs.lemmas.List.{length-map}
use Rattle.tsc_bits.specs.Bits.{bit_worth, bits_of}
use Rattle.code_lanes.specs.Lanes.{column}
use Rattle.behaviour_audit.specs.Lanes.{ChosenOrFree}
use Rattle.behaviour_audit.specs.Points.{HasOutputs, input_of}
use Rattle.behaviour_audit.proofs.PointsLemmas.{loose_allows}
use Rattle.behaviour_audit.proofs.output_lanes.wrong_where_bound.Goals as goal

pub returns-clause-allowed : goal.returns-clause-allowed
returns-clause-allowed c = λ k point few zero_ value free.
    let V = c.args.loose.now.value.circuit in
    let F = c.args.loose.now.free.circuit in
    let outputs = c.args.outputs.now in
    let chosen = c.read_output_lanes.new.lanes in
    let marks = c.read_output_lanes-2.new.lanes in
    loose_allows V F c.args.version (input_of V.inputs point) (column k chosen) (column k marks) (column k outputs)
    (c.read_output_lanes.ensures.outputs k point few value.1)
    (subst (λ (n : ℕ). HasOutputs F (bits_of n point.input) (column k marks)) c.requires.source.inputs (c.read_output_lanes-2.ensures.outputs k point few free.1))
    (length-map outputs (bit_worth k) ∙ c.requires.sized)
    (subst (λ (l : List ℕ). ChosenOrFree c.args.version (column k marks) (column k l) (column k outputs)) c.as_slice.ensures.whole
    (subst (λ (l : List ℕ). ChosenOrFree c.args.version (column k l) (column k c.as_slice.result.now) (column k outputs)) c.as_slice-2.ensures.whole
    (c.differing_where_bound.ensures.bound k few zero_)))
