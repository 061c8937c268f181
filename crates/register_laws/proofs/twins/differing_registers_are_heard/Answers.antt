use Rattle.register_laws.proofs.WatchParity.{watch_counts, watch_is_heard}
use Rattle.register_laws.proofs.twins.differing_registers_are_heard.Goals as goal

pub returns : goal.returns
returns c = record { counts = watch_counts; heard = watch_is_heard }
