use Rattle.std.proofs.Common.{sym, ap, arith}
use Rattle.fault_secure.specs.Circuit.{nets}
use Rattle.register_synth.specs.inner.Search.{Search}
use Rattle.register_synth.proofs.FoundNets.{found_number}
use Rattle.register_synth.proofs.search.Found.lead_on.Goals as goal

pub find_read-requires-clause-within : goal.find_read-requires-clause-within
find_read-requires-clause-within c =
    found_number (nets c.args.net.now.circuit) c.args.self.now.found c.self.inside.nets.items c.args.place c.index-given.result.now c.requires.within
    (sym (ap (λ (s : Search). s.found) c.self.view_is)) (omega (arith, c.if-place-len.false, c.len.ensures)) c.index-given.ensures
