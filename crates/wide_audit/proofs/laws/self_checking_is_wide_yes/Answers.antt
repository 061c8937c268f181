use Rattle.wide_audit.proofs.Verdicts.{never_no_where_self_checking, self_checking_is_yes}
use Rattle.wide_audit.proofs.laws.self_checking_is_wide_yes.Goals as goal

pub returns : goal.returns
returns c = record { accepted = self_checking_is_yes; never = never_no_where_self_checking }
