use Rattle.checker_audit.proofs.Misfits.{realised_rails_match, one_mismatch}
use Rattle.checker_audit.proofs.laws.mismatches_are_determined.Goals as goal

pub returns : goal.returns
returns c = record { apart = realised_rails_match; one = one_mismatch }
