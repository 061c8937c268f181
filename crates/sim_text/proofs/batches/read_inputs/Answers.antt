use Rattle.std.proofs.Common.{◌+◌, ◌-◌, ◌<◌, [], length, drop, slice_set, refl, subst, sym, ap, ◌∙◌, length-set, length-drop, arith}
use Rattle.std.proofs.lemmas.List.{get_or-drop, length-take}
use Rattle.std.proofs.lemmas.List.Elements.{All-set}
use Rattle.sim_text.specs.Batches.{FitsEach}
use Rattle.fault_sim.proofs.WrittenLemmas.{written_more}
use Rattle.sim_text.proofs.BatchLemmas.{fits_on}
use Rattle.sim_text.proofs.batches.read_inputs.Goals as goal

pub loop-place-preserved : goal.loop-place-preserved
loop-place-preserved c =
    let xs = c.args.steps.now in
    let first = c.args.first in
    let old = c.loop-place.inputs in
    let place = c.loop-place.place in
    let x = c.read.new.bits in
    let count = c.loop-place.invariant.count in
    let kept = ap length c.truncate.ensures.first ∙ length-take (c.len.result - first) c.args.inputs.now in
    let inside : place < length old = omega (arith, c.loop-place-test.true, count, c.len-place-end.ensures.count, kept, c.len.ensures.count) in
    let below : first + place < length xs = omega (arith, inside, count) in
    let behind : place < length (drop first xs) = omega (arith, length-drop first xs, below) in
    record {
      count = length-set old place x ∙ count;
      sized = All-set (FitsEach xs) old place x (subst (FitsEach xs) (sym c.read.ensures.bits) (fits_on old xs place (first + place) c.loop-place.invariant.sized inside below)) c.loop-place.invariant.sized;
      read = written_more (drop first xs) old (slice_set old place x) place x [] behind inside refl (c.read.ensures.bits ∙ sym (get_or-drop first xs place [])) c.loop-place.invariant.read;
    }
