use Rattle.std.proofs.Common.{arith}
use Rattle.std.proofs.lemmas.List.{take_rest}
use Rattle.tsc_io.proofs.WritingLemmas.{Appends-further}
use Rattle.tsc_io.proofs.writing.write_all.Goals as goal

pub loop-start-preserved : goal.loop-start-preserved
loop-start-preserved g c =
    let gained = rw (take_rest c.args.bytes.now c.loop-start.start) at c.in-Ok.ensures.gained in
    record {
      within = omega (arith, c.in-Ok.ensures.within);
      gained = Appends-further _ _ _ _ _ _ c.loop-start.invariant.gained gained;
      faults_stay = omega arith;
    }
