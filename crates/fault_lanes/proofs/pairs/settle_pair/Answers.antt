use Rattle.std.proofs.Common.{◌≡◌, ℕ, ◌+◌, ◌*◌, ◌/◌, ◌<◌, ◌≤◌, sym, ap, ap₂, ◌∙◌, subst, arith}
use Rattle.lane_sim.specs.Points.{source_bit}
use Rattle.lane_sim.specs.TwoPins.{table_bit}
use Rattle.fault_lanes.proofs.PairLemmas.{done_more, rest_more}
use Rattle.fault_lanes.proofs.pairs.settle_pair.Goals as goal

row_of : (row : ℕ) → row * 16 / 16 ≡ row
row_of row = omega arith

pub loop-part-preserved : goal.loop-part-preserved
loop-part-preserved c =
    let i = c.loop-part.invariant in
    let s = c.store_part.ensures in
    let old = c.args.words.now in
    let now = c.loop-part.words in
    let new = c.store_part.new.block in
    let part = c.loop-part.part in
    let to = row_of c.args.to in
    let here : (p : ℕ) → p < 2 * 64 → source_bit new c.args.to (part * 2 * 64 + p)
    ≡ table_bit c.args.table (source_bit now c.args.first (part * 2 * 64 + p)) (source_bit now c.args.second (part * 2 * 64 + p)) =
    (λ p inside.
    ap (λ n. source_bit new n (part * 2 * 64 + p)) (sym to) ∙ s.stored p inside ∙ c.pair_lanes.ensures.lanes.lanes p inside
    ∙ ap₂ (table_bit c.args.table)
    (c.load_part-a.ensures.lanes.lanes p inside ∙ ap (λ n. source_bit now n (part * 2 * 64 + p)) (row_of c.args.first))
    (c.load_part-b.ensures.lanes.lanes p inside ∙ ap (λ n. source_bit now n (part * 2 * 64 + p)) (row_of c.args.second))) in
    let before = subst (λ n. (p : ℕ) → p < part * 2 * 64 → source_bit new n p ≡ source_bit now n p) to s.before in
    let past = subst (λ n. (p : ℕ) → (part * 2 + 2) * 64 ≤ p → p < 1024 → source_bit new n p ≡ source_bit now n p) to s.behind in
    record {
      done = done_more c.args.table c.args.first c.args.second c.args.to old now new part c.loop-part-test.true i.rest i.done i.others here before;
      rest = rest_more c.args.table c.args.first c.args.second c.args.to old now new part c.loop-part-test.true i.rest past;
      others = λ other p inside apart. s.others other p inside (λ same. apart (same ∙ to)) ∙ i.others other p inside apart;
      sized = s.sized ∙ i.sized;
    }
