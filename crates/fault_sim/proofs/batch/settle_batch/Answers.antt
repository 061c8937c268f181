use Rattle.std.proofs.Common.{◌≡◌, ℕ, ◌+◌, ◌/◌, length, sym, ap, ◌∙◌, subst}
use Rattle.tsc_bits.specs.Bits.{bits_of}
use Rattle.fault_secure.specs.Circuit.{Circuit}
use Rattle.fault_secure.specs.StuckAt.{StuckAt}
use Rattle.tsc_net.specs.Fault.{stuck_at_or_none}
use Rattle.lane_sim.specs.Bench.{ShowsSettled}
use Rattle.fault_sim.specs.Batch.{input_of, IsPoint}
use Rattle.fault_sim.proofs.BatchLemmas.{shows_batch}
use Rattle.fault_sim.proofs.batch.settle_batch.Goals as goal

pub returns-clause-batch : goal.returns-clause-batch
returns-clause-batch c =
    let xs = c.args.inputs.now in
    let points = c.put_batch.new.points in
    let bench = c.settle.new.self in
    let latches : c.args.points.now.latches ≡ length bench.circuit.latches
    = c.requires.points.latches ∙ ap (λ (C : Circuit). length C.latches) (sym c.settle.ensures.circuit) in
    shows_batch (stuck_at_or_none c.args.fault) bench points xs c.args.count c.args.first c.requires.first
    (λ p small inside. subst (λ (n : ℕ). IsPoint points p (input_of xs (c.args.first + p)) (bits_of n ((c.args.first + p) / length xs))) latches (c.put_batch.ensures.put p small inside))
    (subst (λ (f : StuckAt). ShowsSettled 1024 bench points f) (ap stuck_at_or_none c.as_ref.ensures.value) c.settle.ensures.shows)
