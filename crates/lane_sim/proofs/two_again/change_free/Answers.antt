use Rattle.std.proofs.Common.{◌≡◌, ℕ, ◌+◌, ◌*◌, ◌/◌, ◌<◌, ap₂, ◌∙◌, arith}
use Rattle.lane_sim.specs.Points.{source_bit}
use Rattle.lane_sim.specs.TwoPins.{HaveMasks, table_bit}
use Rattle.lane_sim.specs.Operation.{table_of, free_bit}
use Rattle.lane_sim.proofs.PartLemmas.{done_more, rest_more, same_more, any_formula}
use Rattle.lane_sim.proofs.two_again.change_free.Goals as goal

pub loop-part-preserved : goal.loop-part-preserved
loop-part-preserved c =
    let i = c.loop-part.invariant in
    let s = c.change_part.ensures in
    let gate = c.args.gate in
    let words = c.args.words.now in
    let old = c.args.block.now in
    let now = c.loop-part.block in
    let new = c.change_part.new.block in
    let part = c.loop-part.part in
    let row = c.args.to / 16 in
    let have : HaveMasks 2 (table_of gate) c.mask_pair-zero.result c.mask_pair-first.result c.mask_pair-second.result c.mask_pair-both.result c.mask_pair-negated.result = record {
      constant = c.mask_pair-zero.ensures.lanes;
      first = c.mask_pair-first.ensures.lanes;
      second = c.mask_pair-second.ensures.lanes;
      both = c.mask_pair-both.ensures.lanes;
      negated = c.mask_pair-negated.ensures.lanes;
    } in
    let here : (p : ℕ) → p < 2 * 64 → source_bit new row (part * 2 * 64 + p) ≡ free_bit words now (part * 2 * 64 + p) gate =
    (λ p inside.
    s.stored p inside
    ∙ (c.formula_lanes-lanes.ensures.lanes (table_of gate) (any_formula (table_of gate)) have).lanes p inside
    ∙ ap₂ (table_bit (table_of gate)) (c.load_operand_part-a.ensures.lanes.lanes p inside) (c.load_operand_part-b.ensures.lanes.lanes p inside)) in
    record {
      done = done_more gate row words old now new part c.loop-part-test.true i.done i.rest i.others here s.before;
      rest = rest_more gate row words old now new part c.loop-part-test.true i.rest s.behind;
      same = same_more gate row words old now new part c.loop-part-test.true c.loop-part.changed c.change_part.result c.join-changed.result c.formula_lanes-lanes.result
          c.join-changed.ensures.lanes s.changed i.same i.rest s.stored s.before;
      others = λ other p inside apart. s.others other p inside apart ∙ i.others other p inside apart;
      sized = s.sized ∙ i.sized;
    }

pub returns-clause-same : goal.returns-clause-same
returns-clause-same c = λ none p inside.
    c.loop-part.invariant.same p (omega (arith, c.loop-part-test.false, inside)) (c.is_somewhere.ensures.none none _)
