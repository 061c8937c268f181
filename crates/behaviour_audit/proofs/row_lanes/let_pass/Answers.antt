use Rattle.std.proofs.Common.{◌+◌, ◌∙◌, ap₂}
use Rattle.tsc_cover.specs.Cover.{accepts}
use Rattle.tsc_cover.specs.Row.{literal}
use Rattle.lane_sim.proofs.LaneLemmas.{bit_of_ones}
use Rattle.behaviour_audit.proofs.RowLemmas.{passes_more}
use Rattle.behaviour_audit.proofs.row_lanes.let_pass.Goals as goal

pub loop-digit-init : goal.loop-digit-init
loop-digit-init c = λ k few. bit_of_ones k few

pub loop-digit-preserved : goal.loop-digit-preserved
loop-digit-preserved c = λ k few.
    let row = c.args.row in
    let digit = c.loop-digit.digit in
    passes_more k row.care row.value digit (c.args.base + k) c.loop-digit.points c.accepted-points.result (c.loop-digit.invariant k few)
    (c.accepted-points.ensures.bits k few ∙ ap₂ accepts (ap₂ literal c.bit_at-asked.ensures.bit c.bit_at-wanted.ensures.bit) (c.places_with.ensures.bits k few))
