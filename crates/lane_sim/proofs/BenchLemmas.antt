-- What a bench shows of its rows, and how few rows it has.
use Rattle.std.proofs.Common.{◌≡◌, ℕ, ◌≤◌, ◌==◌, Bool, true, false, max, List, [], ◌∷◌, length, map, get_or, All, refl, sym, ap, ◌∙◌, arith, true≢false, fold}
use Rattle.std.specs.Prelude.{IsSome}
use Rattle.std.specs.List.{position_or_len, range_with_len}
use Rattle.std.proofs.lemmas.Bool.{eqb-true}
use Rattle.std.proofs.lemmas.List.{get_or-map}
use Rattle.std.proofs.lemmas.List.Sums.{passes_at_first, count_by-le-length}
use Rattle.std.proofs.lemmas.List.FromFn.{length-range_with_len}
use Rattle.std.proofs.lemmas.List.Elements.{All-head, All-tail}
use Rattle.fault_secure.specs.Circuit.{Circuit, nets}
use Rattle.tsc_net.specs.Order.{fan_ins, evaluation_order, has_place}
use Rattle.lane_rows.specs.Alive.{source_count, is_alive, alive_count, watched_sources, most_alive, peak}
use Rattle.lane_sim.specs.Bench.{lane_of, ShowsSettled}
use Rattle.lane_sim.specs.Lanes.{lane_bit}
use Rattle.lane_sim.specs.Points.{PointsState}
use Rattle.fault_secure.specs.StuckAt.{StuckAt}
use Rattle.lane_sim.specs.BenchView.{bench_of}
use Rattle.lane_sim.specs.Program.{ProgramState, row_at, ShowsWatched}
use Rattle.lane_sim.specs.RowBlock.{row_words}
use Rattle.lane_sim.proofs.ReadyLemmas.{all_mapped}
use Rattle.lane_sim.proofs.RowBlockLemmas.{row_lanes}
use Rattle.tsc_net.proofs.RingLemmas.{position-within}

-- the lane of a watched net is its row, once the bench was settled
pub lane_is_row : (program : ProgramState) (block : List ℕ) (settled : Bool) (net : ℕ) → has_place program.watched net ≡ true
    → IsSome (bench_of program block settled).lanes → lane_of (bench_of program block settled) net ≡ row_words block (row_at program.rows.rows net)
lane_is_row program block false net watched some = absurd (true≢false (sym some))
lane_is_row program block true net watched some =
    let inside = position-within program.watched net watched in
    let k = position_or_len (λ k. k == net) program.watched in
    let row = λ (n : ℕ). row_words block (row_at program.rows.rows n) in
    get_or-map row program.watched k 0 [] inside
    ∙ ap row (eqb-true (get_or program.watched k 0) net (passes_at_first (λ k. k == net) program.watched 0 inside))

-- so a bench shows at the first points what its rows have there
pub shows_settled : (many : ℕ) (program : ProgramState) (points : PointsState) (f : StuckAt) (block : List ℕ) → many ≤ 1024
    → ShowsWatched many program points f block → ShowsSettled many (bench_of program block true) points f
shows_settled many program points f block few shows = record {
  settled = refl;
  lanes = λ p net v inside watched settles.
      ap (λ words. lane_bit words p) (lane_is_row program block true net watched refl)
      ∙ row_lanes block (row_at program.rows.rows net) p (omega arith)
      ∙ shows p net v inside watched settles;
}

-- ---- there are no more rows than nets

greatest_within : (numbers : List ℕ) (start bound : ℕ) → start ≤ bound → All (λ n. n ≤ bound) numbers → fold max start numbers ≤ bound
greatest_within [] start bound low each = low
greatest_within (n ∷ numbers) start bound low each =
    let here = All-head (λ n. n ≤ bound) n numbers each in
    greatest_within numbers (max start n) bound (omega arith) (All-tail (λ n. n ≤ bound) n numbers each)

pub peak_within : (C : Circuit) (watched : List ℕ) → peak C watched ≤ nets C
peak_within C watched =
    let order = evaluation_order (fan_ins C) in
    let places = range_with_len 0 (length order) in
    let alive : most_alive C order watched (length order) ≤ length C.nodes =
    greatest_within (map (alive_count C order watched) places) 0 (length C.nodes) (omega arith)
    (all_mapped (λ n. n ≤ length C.nodes) (alive_count C order watched) places 0 (λ k d below.
    omega (
      arith,
      count_by-le-length (is_alive C order watched (get_or places k d)) (range_with_len 0 (length C.nodes)),
      length-range_with_len 0 (length C.nodes),
    ))) in
    let sources : watched_sources C watched ≤ source_count C =
    omega (arith, count_by-le-length (has_place watched) (range_with_len 0 (source_count C)), length-range_with_len 0 (source_count C)) in
    omega arith
