use Rattle.tsc_synth.proofs.BoundLemmas.{literals_counted}
use Rattle.tsc_synth.proofs.bound.row_literals.Goals as goal

pub returns : goal.returns
returns c = record { count = literals_counted c.args.width c.args.row.now.care c.args.row.now.value c.requires.row.narrow }
