use Rattle.std.proofs.Common.{◌||◌, map, length, ap₂, sym, ◌∙◌}
use Rattle.tsc_bits.proofs.Bits.{bit_worth-or}
use Rattle.fault_secure.specs.Circuit.{bit}
use Rattle.tsc_net.specs.PlanView.{net_numbers}
use Rattle.code_lanes.specs.Lanes.{column}
use Rattle.node_lanes.proofs.CoverSteps.{rows_step}
use Rattle.node_lanes.proofs.covers.rows_word.Goals as goal

pub loop-row-preserved : goal.loop-row-preserved
loop-row-preserved c = λ p low.
    (bit_worth-or p c.loop-row.some c.row_word-some.result
    ∙ ap₂ (λ a b. a || b) (c.loop-row.invariant p low) (c.row_word-some.ensures.bits p low)
    ∙ sym (rows_step (map (bit (column p c.args.words.now)) (net_numbers c.args.reads.now)) (length c.args.reads.now) c.args.rows.now c.loop-row.row-index (record { care = 0; value = 0 }) c.loop-row-test.true))
