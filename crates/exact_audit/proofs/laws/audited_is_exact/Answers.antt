use Rattle.exact_audit.proofs.Secure.{audited_is_exact}
use Rattle.exact_audit.proofs.laws.audited_is_exact.Goals as goal

pub returns : goal.returns
returns c = record { exact = audited_is_exact }
