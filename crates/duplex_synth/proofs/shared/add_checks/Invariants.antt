use Rattle.std.proofs.Common.{◌≡◌, ◌+◌, length, take, drop, All}
use Rattle.fault_secure.specs.CodePlan.{concat_places}
use Rattle.tsc_net.specs.PartsView.{text_of, texts_of, IsName}
use Rattle.parity_code.specs.Held.{PartsGrow}
use Rattle.parity_code.specs.PredictorSteps.{name_at}
use Rattle.parity_code.specs.SharedParts.{with_group_checks, group_check_texts}
use Rattle.duplex_synth.proofs.shared.add_checks.Given as goal

abbrev pub invariant-loop-group : goal.invariant-loop-group
invariant-loop-group l = record {
  added : l.parts ≡ with_group_checks l.net.circuit (λ net. text_of l.fn.parts.names (name_at l.names net)) (take l.group-index l.groups) l.fn.parts;
  checks : texts_of l.parts.names l.checks ≡ group_check_texts l.net.circuit (λ net. text_of l.fn.parts.names (name_at l.names net)) (take l.group-index l.groups) l.fn.parts;
  names : All (IsName l.parts.names) l.checks;
  counted : length l.parts.names + length (concat_places (drop l.group-index l.groups)) ≡ length l.fn.parts.names + length (concat_places l.groups);
  grows : PartsGrow l.fn.parts l.parts;
}
