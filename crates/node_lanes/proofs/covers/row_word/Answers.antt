use Rattle.std.proofs.Common.{◌+◌, ◌-◌, ◌&&◌, map, length, drop, get_or, ap, sym, ◌∙◌}
use Rattle.tsc_bits.specs.Bits.{bit_worth}
use Rattle.tsc_bits.proofs.Bits.{bit_worth-and}
use Rattle.tsc_cover.specs.Cover.{accepts, row_matches, literals}
use Rattle.tsc_cover.specs.Row.{literal}
use Rattle.fault_secure.specs.Circuit.{bit}
use Rattle.tsc_net.specs.PlanView.{net_numbers}
use Rattle.code_lanes.specs.Lanes.{column}
use Rattle.code_lanes.proofs.LaneLemmas.{bit_of_column}
use Rattle.node_lanes.proofs.CoverSteps.{row_start, row_step, row_end}
use Rattle.node_lanes.proofs.covers.row_word.Goals as goal

pub loop-index-init : goal.loop-index-init
loop-index-init c = λ p low. row_start (map (bit (column p c.args.words.now)) (net_numbers c.args.reads.now)) (length c.args.reads.now) c.args.row.care c.args.row.value p low

pub loop-index-preserved : goal.loop-index-preserved
loop-index-preserved c = λ p low.
    (ap (λ b. b && row_matches (literals (length c.args.reads.now - (c.loop-index.index + 1)) c.args.row.care c.args.row.value) (map (bit (column p c.args.words.now)) (net_numbers (drop (c.loop-index.index + 1) c.args.reads.now))))
    (bit_worth-and p c.loop-index.all c.pin_word-all.result)
    ∙ row_step (column p c.args.words.now) c.args.reads.now c.loop-index.index c.args.row.care c.args.row.value (bit_worth p c.loop-index.all) (bit_worth p c.pin_word-all.result) (record { number = 0 }) c.loop-index-test.true
    (c.pin_word-all.ensures.bits p low
    ∙ ap (accepts (literal (bit_worth (length c.args.reads.now - 1 - c.loop-index.index) c.args.row.care) (bit_worth (length c.args.reads.now - 1 - c.loop-index.index) c.args.row.value)))
    (sym (bit_of_column p c.args.words.now (get_or c.args.reads.now c.loop-index.index (record { number = 0 })).number)))
    ∙ c.loop-index.invariant p low)

pub returns : goal.returns
returns c = record {
  bits = λ p low. row_end (map (bit (column p c.args.words.now)) (net_numbers (drop c.loop-index.index c.args.reads.now))) (length c.args.reads.now) c.loop-index.index c.args.row.care c.args.row.value (bit_worth p c.loop-index.all) _
      c.loop-index-test.false (c.loop-index.invariant p low);
}
