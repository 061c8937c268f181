use Rattle.std.proofs.Common.{append_assoc}
use Rattle.tsc_net.proofs.fresh.fresh_text.Goals as goal

pub returns : goal.returns
returns c = record { text = simp append_assoc c.format.ensures.ok }
