use Rattle.std.proofs.Common.{ℕ, ◌+◌, drop, get_or, set, refl, sym, ap, ◌∙◌}
use Rattle.code_lanes.specs.Lanes.{column}
use Rattle.mapping_audit.specs.Values.{cleared}
use Rattle.mapping_audit.proofs.Rows.{clear_lane, map-same}
use Rattle.mapping_audit.proofs.lanes.clear.Goals as goal

pub loop-pin-preserved : goal.loop-pin-preserved
loop-pin-preserved c = λ p low.
    (let i = c.loop-pin.pin-index in
    let words = c.loop-pin.words in
    let pins = c.args.pins.now in
    let pin = get_or pins i 0 in
    ap (λ list. cleared list (column p (set words pin 0))) (sym (map-same (drop (i + 1) pins)))
    ∙ clear_lane (λ (net : ℕ). net) p words pins i pin 0 c.loop-pin-test.true refl
    ∙ ap (λ list. cleared list (column p words)) (map-same (drop i pins))
    ∙ c.loop-pin.invariant p low)
