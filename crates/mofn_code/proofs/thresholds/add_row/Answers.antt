use Rattle.std.specs.Prelude.{ℕ, Bool}
use Rattle.std.proofs.Common.{arith}
use Rattle.gate_net.specs.declared.line.Line.{Line}
use Rattle.gate_net.specs.Gates.{line_value, line_values}
use Rattle.gate_net.proofs.Kept.{bits_pushed}
use Rattle.tsc_bits.specs.Thermometer.{row_with}
use Rattle.mofn_code.proofs.Rows.{row_more, row_done}
use Rattle.mofn_code.proofs.thresholds.add_row.Goals as goal

pub loop-threshold-preserved : goal.loop-threshold-preserved
loop-threshold-preserved c =
    let start = c.args.gates.now in
    let here = c.loop-threshold.gates in
    let none : Line = record { number = 0 } in
    let before = c.loop-threshold.invariant in
    let cell = c.in_ok-cell.ensures in
    let pushed = bits_pushed start here c.add_threshold.new.gates c.loop-threshold.next.items c.push.new.self.items c.in_ok-cell.cell.threshold _ before.grows before.within cell.threshold c.in_ok-push.ensures.items in
    record {
      made = row_more start here c.add_threshold.new.gates c.args.row.now c.loop-threshold.next.items c.push.new.self.items c.loop-threshold.carried c.args.more c.in_ok-cell.cell.threshold c.in_ok-cell.cell.carried none
          (λ x s. row_with (line_value start x s c.args.more) (line_value start x s c.args.more) (line_values start x s c.args.row.now)) c.loop-threshold.threshold-index
          before.grows c.requires.row c.requires.more before.within c.loop-threshold-test.true before.made cell.threshold cell.carried c.in_ok-push.ensures.items;
      within = pushed.within;
      carried = cell.carried.within;
      grows = pushed.grows;
      few = omega (arith, before.few, cell.few);
    }

pub returns-clause-added : goal.returns-clause-added
returns-clause-added c =
    let start = c.args.gates.now in
    let before = c.loop-threshold.invariant in
    row_done start c.loop-threshold.gates c.args.row.now c.loop-threshold.next.items c.push-2.new.self.items c.loop-threshold.carried c.args.more
    (λ (x s : ℕ → Bool). row_with (line_value start x s c.args.more) (line_value start x s c.args.more) (line_values start x s c.args.row.now)) c.loop-threshold.threshold-index
    before.grows before.within before.carried c.loop-threshold-test.false before.made c.in_ok-push-2.ensures.items
