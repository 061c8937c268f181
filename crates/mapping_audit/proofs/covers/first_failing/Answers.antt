use Rattle.std.proofs.Common.{rules, ◌≡◌, ap, ◌∙◌, replicate}
use Rattle.fault_secure.specs.Circuit.{nets}
use Rattle.code_lanes.specs.Lanes.{column}
use Rattle.mapping_audit.proofs.Rows.{column-zeros}
use Rattle.mapping_audit.proofs.covers.first_failing.Goals as goal

pub failing_on-requires-clause-zeros : goal.failing_on-requires-clause-zeros
failing_on-requires-clause-zeros c =
    let zeros : c.deref_mut.result.now ≡ replicate (nets c.args.mapped.now.circuit) 0 = search rules in
    λ p low. (ap (column p) zeros ∙ column-zeros (nets c.args.mapped.now.circuit) p)
