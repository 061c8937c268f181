use Rattle.std.proofs.Common.{sym, arith}
use Rattle.joint_text.proofs.UnderNames.{under_input, under_own}
use Rattle.joint_text.proofs.labels.label_before.Goals as goal

pub returns-then-id-inputs : goal.returns-then-id-inputs
returns-then-id-inputs c = record { name = sym (under_input c.args.label.now c.args.net.now c.nets-nets.ensures.checked c.args.id.number (omega arith)) }

pub returns-else-id-inputs : goal.returns-else-id-inputs
returns-else-id-inputs c = record { name = sym (under_own c.args.label.now c.args.net.now c.nets-nets.ensures.checked c.args.id.number (omega arith) c.requires.net) }
