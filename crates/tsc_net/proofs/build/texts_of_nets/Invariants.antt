-- The names of the nets so far.
use Rattle.std.proofs.Common.{◌≡◌, take}
use Rattle.tsc_net.proofs.build.texts_of_nets.Given as goal

abbrev pub invariant-loop-net : goal.invariant-loop-net
invariant-loop-net l = l.texts ≡ take l.net l.names.nets
