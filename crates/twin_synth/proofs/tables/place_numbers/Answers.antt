use Rattle.twin_synth.proofs.TableSteps.{placed_more}
use Rattle.twin_synth.proofs.tables.place_numbers.Goals as goal

pub loop-index-preserved : goal.loop-index-preserved
loop-index-preserved c =
    placed_more c.args.first c.args.from c.loop-index.index c.args.places.now c.args.numbers.now c.loop-index.numbers c.replace.new.self c.requires.rise c.requires.within c.loop-index-test.true
    c.loop-index.invariant c.replace.ensures.changed
