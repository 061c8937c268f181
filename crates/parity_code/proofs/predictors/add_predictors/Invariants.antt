use Rattle.std.proofs.Common.{◌≡◌, ◌+◌, length, take, drop, All}
use Rattle.tsc_net.specs.PartsView.{texts_of, IsName}
use Rattle.parity_code.specs.Held.{PartsGrow}
use Rattle.parity_code.specs.Predictors.{with_predictors, check_texts, predictors_size}
use Rattle.parity_code.proofs.predictors.add_predictors.Given as goal

abbrev pub invariant-loop-group : goal.invariant-loop-group
invariant-loop-group l = record {
  added : l.parts ≡ with_predictors l.net (take l.group-index l.groups) l.fn.parts;
  checks : texts_of l.parts.names l.checks ≡ check_texts l.net (take l.group-index l.groups) l.fn.parts;
  names : All (IsName l.parts.names) l.checks;
  counted : length l.parts.names + predictors_size l.net.circuit (drop l.group-index l.groups) ≡ length l.fn.parts.names + predictors_size l.net.circuit l.groups;
  grows : PartsGrow l.fn.parts l.parts;
}
