-- The nets at the inputs of the latches so far are added.
use Rattle.std.proofs.Common.{◌≡◌, ◌++◌, take, map}
use Rattle.tsc_net.specs.PlanView.{net_numbers}
use Rattle.unheard_cells.proofs.watched.push_next_nets.Given as goal

abbrev pub invariant-loop-place : goal.invariant-loop-place
invariant-loop-place l = net_numbers l.nets ≡ net_numbers l.initial.nets ++ map (λ latch. latch.reads) (take l.place l.net.circuit.latches)
