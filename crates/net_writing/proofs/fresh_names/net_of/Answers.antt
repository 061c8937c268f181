use Rattle.net_writing.proofs.FreshNets.{found_place, none_found}
use Rattle.net_writing.proofs.fresh_names.net_of.Goals as goal

pub unreachable-requires : goal.unreachable-requires
unreachable-requires c = none_found c.net.result c.args.net.now.names c.args.name.now c.in-None.is c.net.ensures.net c.requires.named

pub returns : goal.returns
returns c = record { net = found_place c.net.result c.args.net.now.names c.args.name.now c.in-Some.found c.in-Some.is c.net.ensures.net c.requires.named }
