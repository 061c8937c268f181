use Rattle.exact_audit.proofs.Secure.{self_checking_is_exact}
use Rattle.exact_audit.proofs.laws.self_checking_is_exact.Goals as goal

pub returns : goal.returns
returns c = record { exact = self_checking_is_exact }
