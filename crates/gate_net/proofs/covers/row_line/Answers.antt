use Rattle.std.proofs.Common.{◌∙◌, length}
use Rattle.gate_net.specs.declared.line.Line.{Line}
use Rattle.gate_net.proofs.Kept.{grows_twice}
use Rattle.gate_net.proofs.Joined.{row_step}
use Rattle.gate_net.proofs.Sizes.{row_few, pin_room}
use Rattle.gate_net.proofs.covers.row_line.Goals as goal

pub loop-pin-preserved : goal.loop-pin-preserved
loop-pin-preserved c =
    let start = c.args.gates.now in
    let here = c.loop-pin.gates in
    let new = c.with_literal.new.gates in
    let none : Line = record { number = 0 } in
    let made = c.in_ok-made.ensures.computes in
    record {
      grows = grows_twice start here new c.loop-pin.invariant.grows made.grows;
      within = made.within;
      few = row_few (length start.gates) (length here.gates) (length new.gates) c.args.width c.loop-pin.pin c.args.row.care c.args.row.value c.loop-pin-test.true c.loop-pin.invariant.few c.in_ok-made.ensures.few;
      value = λ x s.
          row_step start here new c.args.pins.now c.args.width c.args.row c.loop-pin.pin c.loop-pin.made c.in_ok-made.made none x s c.loop-pin.invariant.grows c.requires.pins c.requires.sized c.loop-pin-test.true (made.value x s)
          ∙ c.loop-pin.invariant.value x s;
    }

pub with_literal-requires-clause-room : goal.with_literal-requires-clause-room
with_literal-requires-clause-room c =
    pin_room (length c.args.gates.now.gates) (length c.loop-pin.gates.gates) c.args.width c.loop-pin.pin c.args.row.care c.args.row.value c.loop-pin-test.true c.loop-pin.invariant.few c.requires.room
