use Rattle.std.proofs.Common.{◌∙◌, false, Some, length, refl, arith}
use Rattle.tsc_cover.specs.declared.rows.Row01.{Row01}
use Rattle.gate_net.specs.Signal.Signal.{Zero}
use Rattle.gate_net.proofs.Kept.{grows_twice}
use Rattle.gate_net.proofs.Joined.{rows_step, rows_computed, some_computes, none_computes}
use Rattle.gate_net.proofs.Sizes.{rows_few, rows_all, row_room}
use Rattle.gate_net.proofs.covers.rows_line.Goals as goal
use Rattle.tsc_net.proofs.ResultLemmas.{on_ok}

pub loop-row-preserved : goal.loop-row-preserved
loop-row-preserved c =
    let start = c.args.gates.now in
    let here = c.loop-row.gates in
    let mid = c.row_line.new.gates in
    let new = c.either.new.gates in
    let none : Row01 = record { care = 0; value = 0 } in
    let line = c.in_ok-line.ensures.computes in
    let made = c.in_ok-either.ensures.computes in
    record {
      grows = grows_twice start here new c.loop-row.invariant.grows (grows_twice here mid new line.grows made.grows);
      within = made.within;
      few = rows_few (length start.gates) (length here.gates) (length mid.gates) (length new.gates) c.args.width c.loop-row.row-index c.args.rows.now none c.loop-row-test.true c.loop-row.invariant.few c.in_ok-line.ensures.few c.in_ok-either.ensures.few;
      value = λ x s.
          rows_step start here mid new c.args.pins.now c.args.width c.args.rows.now c.loop-row.row-index c.loop-row.made (Some c.in_ok-either.field-0) c.in_ok-line.line none x s c.loop-row.invariant.grows c.requires.pins c.loop-row.invariant.within c.loop-row-test.true line (made.value x s)
          ∙ c.loop-row.invariant.value x s;
    }

pub returns-in-Some : goal.returns-in-Some
returns-in-Some c =
    let loop = c.loop-row.invariant in
    let all = rows_computed c.args.gates.now c.loop-row.gates c.args.pins.now c.args.width c.loop-row.row-index c.args.rows.now c.loop-row.made loop.grows loop.within c.loop-row-test.false loop.value in
    record { few = omega (arith, rows_all (length c.args.gates.now.gates) (length c.loop-row.gates.gates) c.args.width c.loop-row.row-index c.args.rows.now c.loop-row-test.false loop.few); computes = some_computes false c.args.gates.now c.loop-row.gates _ c.loop-row.made c.in-Some.line all c.in-Some.is }

pub returns-in-None : goal.returns-in-None
returns-in-None c =
    let loop = c.loop-row.invariant in
    let all = rows_computed c.args.gates.now c.loop-row.gates c.args.pins.now c.args.width c.loop-row.row-index c.args.rows.now c.loop-row.made loop.grows loop.within c.loop-row-test.false loop.value in
    let few = rows_all (length c.args.gates.now.gates) (length c.loop-row.gates.gates) c.args.width c.loop-row.row-index c.args.rows.now c.loop-row-test.false loop.few in
    record { few = on_ok c.add.result _ (omega (arith, few, c.add.ensures.few)); computes = none_computes false c.args.gates.now c.loop-row.gates c.add.new.self _ c.loop-row.made Zero c.add.result all c.in-None.is (λ x s. refl) c.add.ensures.added }

pub row_line-requires-clause-room : goal.row_line-requires-clause-room
row_line-requires-clause-room c =
    let none : Row01 = record { care = 0; value = 0 } in
    let room = row_room (length c.args.gates.now.gates) (length c.loop-row.gates.gates) c.args.width c.loop-row.row-index c.args.rows.now none c.loop-row-test.true c.loop-row.invariant.few c.requires.room in
    omega (arith, room)

pub either-requires-clause-room : goal.either-requires-clause-room
either-requires-clause-room c =
    let none : Row01 = record { care = 0; value = 0 } in
    let room = row_room (length c.args.gates.now.gates) (length c.loop-row.gates.gates) c.args.width c.loop-row.row-index c.args.rows.now none c.loop-row-test.true c.loop-row.invariant.few c.requires.room in
    omega (arith, room, c.in_ok-line.ensures.few)
