use Rattle.machine_maker.proofs.DrawnLemmas.{no_characters, none_drawn, one_character, one_drawn}
use Rattle.machine_maker.proofs.drawing.push_characters.Goals as goal

pub loop-place-init : goal.loop-place-init
loop-place-init c = record { text = no_characters c.args.text.now c.args.rng.now; left = none_drawn c.args.rng.now }

pub loop-place-preserved : goal.loop-place-preserved
loop-place-preserved c =
    let is = c.loop-place.invariant in
    record {
      text = one_character c.loop-place._place c.args.rng.now c.loop-place.rng c.args.text.now c.loop-place.text c.push.new.self
          c.draw.result c.character.result is.left is.text c.draw.ensures.drawn c.character.ensures.character c.in_ok-push.ensures.ok;
      left = one_drawn c.loop-place._place c.args.rng.now c.loop-place.rng c.draw.new.rng is.left c.draw.ensures.left;
    }
