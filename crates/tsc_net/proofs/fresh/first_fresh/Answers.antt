-- Where the number is free no fresh name of it is there.
use Rattle.tsc_net.proofs.FreshNumbers.{untaken}
use Rattle.tsc_net.proofs.fresh.first_fresh.Goals as goal

pub returns-clause-unused : goal.returns-clause-unused
returns-clause-unused c = λ count from below. untaken c.args.names.now c.in_ok-number.number count c.in_ok-number.ensures.free
