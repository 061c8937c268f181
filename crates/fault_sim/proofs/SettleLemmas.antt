-- From a bench that was settled at a point to the valuation of the point.
use Rattle.std.proofs.Common.{◌≡◌, ℕ, ◌<◌, Bool, List, sym, ap, ◌∙◌, subst, arith}
use Rattle.fault_secure.specs.Circuit.{Circuit, latch_net, bit}
use Rattle.fault_secure.specs.StuckAt.{StuckAt, on_stem}
use Rattle.fault_secure.specs.Settle.{Settles}
use Rattle.fault_secure.specs.OneRun.{HasOneValuation}
use Rattle.lane_sim.specs.Points.{PointsState, point_input, point_state}
use Rattle.lane_sim.specs.Bench.{BenchState, ShowsSettled, HasOneValuationEach}
use Rattle.fault_sim.specs.Sim.{point_bit, ShowsFirst}
use Rattle.fault_sim.specs.Batch.{IsPoint, ShowBits}

-- the same bits of inputs and latches
pub settles_same : (N : Circuit) (f : StuckAt) (x y s t : ℕ → Bool) (v : List Bool) → ((k : ℕ) → x k ≡ y k) → ((k : ℕ) → s k ≡ t k) → Settles N f x s v → Settles N f y t v
settles_same N f x y s t v inputs latches settles = record {
  sized = settles.sized;
  inputs = λ i h. settles.inputs i h ∙ ap (on_stem f i) (inputs i);
  latches = λ l h. settles.latches l h ∙ ap (on_stem f (latch_net N l)) (latches l);
  nodes = settles.nodes;
}

module _ (N : Circuit) (f : StuckAt) (bench : BenchState) (points : PointsState) (p : ℕ) (x s v : List Bool) (circuit : bench.circuit ≡ N)
    (point : IsPoint points p x s) (settles : Settles N f (bit x) (bit s) v) where
  at_point : Settles bench.circuit f (point_input points p) (point_state points p) v
  at_point =
      subst (λ (C : Circuit). Settles C f (point_input points p) (point_state points p) v) (sym circuit)
      (settles_same N f (bit x) (point_input points p) (bit s) (point_state points p) v (λ k. sym (point.input k)) (λ k. sym (point.state k)) settles)

  -- a bench that was settled shows at a point what settles there
  pub shows_point : (many : ℕ) → p < many → ShowsSettled many bench points f → ShowBits bench.watched (point_bit bench p) v
  shows_point many below shows net watched = shows.lanes p net v below watched at_point

pub shows_first : (N : Circuit) (f : StuckAt) (bench : BenchState) (points : PointsState) (x s v : List Bool) → bench.circuit ≡ N → IsPoint points 0 x s
    → ShowsSettled 64 bench points f → Settles N f (bit x) (bit s) v → ShowsFirst bench v
shows_first N f bench points x s v circuit point shows settles = record {
  bits = shows_point N f bench points 0 x s v circuit point settles 64 (omega arith) shows;
}

pub one_first : (N : Circuit) (f : StuckAt) (points : PointsState) (x s : List Bool) → IsPoint points 0 x s → HasOneValuationEach N f points → HasOneValuation N f (bit x) (bit s)
one_first N f points x s point each = record {
  valuation = (each 0).valuation;
  settles = settles_same N f (point_input points 0) (bit x) (point_state points 0) (bit s) (each 0).valuation point.input point.state (each 0).settles;
  only = λ v settles. (each 0).only v (settles_same N f (bit x) (point_input points 0) (bit s) (point_state points 0) v (λ k. sym (point.input k)) (λ k. sym (point.state k)) settles);
}
