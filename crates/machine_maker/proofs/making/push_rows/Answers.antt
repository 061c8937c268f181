use Rattle.machine_maker.proofs.DrawnLemmas.{no_rows, no_row_drawn, one_row, one_row_drawn}
use Rattle.machine_maker.proofs.making.push_rows.Goals as goal

pub loop-place-init : goal.loop-place-init
loop-place-init c = record { text = no_rows c.args.text.now c.args.rng.now; left = no_row_drawn c.args.rng.now }

pub loop-place-preserved : goal.loop-place-preserved
loop-place-preserved c =
    let is = c.loop-place.invariant in
    record {
      text = one_row c.loop-place.place c.args.rng.now c.loop-place.rng c.args.text.now c.loop-place.text c.push_row.new.text
          is.left is.text c.in_ok-push_row.ensures.line;
      left = one_row_drawn c.loop-place.place c.args.rng.now c.loop-place.rng c.push_row.new.rng is.left c.in_ok-push_row.ensures.left;
    }
