use Rattle.std.proofs.Common.{sym}
use Rattle.tsc_bits.specs.Counting.{some_both}
use Rattle.parity_code.proofs.OverlapLemmas.{overlap_on}
use Rattle.register_synth.proofs.groups.marks_meet.Goals as goal

pub loop-place-preserved : goal.loop-place-preserved
loop-place-preserved c =
    overlap_on c.args.marks.now c.args.others.now c.loop-place.place (some_both c.args.marks.now c.args.others.now) c.loop-place-test.true
    (λ _. sym c.if-are_both_marked.ensures.both) c.loop-place.invariant
