use Rattle.gate_net.proofs.Written.{extends_fresh}
use Rattle.gate_net.proofs.gate_writing.out_name.Goals as goal

pub returns-in_ok-name-in-None-clause-extends : goal.returns-in_ok-name-in-None-clause-extends
returns-in_ok-name-in-None-clause-extends c = extends_fresh c.args.parts.now c.fresh.new.self c.in_ok-name-in-None.ensures.ok
