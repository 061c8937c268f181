use Rattle.wide_laws.proofs.WideReplies.{wide_no_is_no, wide_yes_is_yes}
use Rattle.wide_laws.proofs.laws.wide_replies_are_replies.Goals as goal

pub returns : goal.returns
returns c = record { yes = wide_yes_is_yes; no = wide_no_is_no }
