-- Batches of steps.
use Rattle.std.proofs.Common.{◌≡◌, ◌≢◌, ℕ, ◌+◌, ◌*◌, ◌/◌, ◌%◌, ◌<◌, Bool, List, [], length, slice_set, get_or, refl, sym, ap, ◌∙◌, subst, arith, below_more}
use Rattle.std.proofs.lemmas.List.{get_or-set_other, get_or-set_same}
use Rattle.std.proofs.lemmas.Nat.{mul-add-lt, div-mul-add, mod-mul-add}
use Rattle.tsc_bits.specs.Bits.{bits_of}
use Rattle.fault_secure.specs.Circuit.{Circuit}
use Rattle.fault_secure.specs.StuckAt.{StuckAt}
use Rattle.fault_secure.specs.CodePlan.{CodePlan}
use Rattle.lane_sim.specs.Points.{PointsState}
use Rattle.lane_sim.specs.Bench.{BenchState, ShowsSettled}
use Rattle.fault_sim.specs.Outcomes.{IsOutcome, AreOutcomes}
use Rattle.fault_sim.specs.Batch.{input_of, state_of, IsPoint, ShowsBatch, AreFirstOutcomes, ArePlaceOutcomes}
use Rattle.fault_sim.specs.declared.outcome.Outcome.{Outcome}
use Rattle.fault_sim.proofs.SettleLemmas.{shows_point}

pub shows_batch : (f : StuckAt) (bench : BenchState) (points : PointsState) (xs : List (List Bool)) (count first : ℕ) → first % 1024 ≡ 0
    → ((p : ℕ) → p < 1024 → first + p < count → IsPoint points p (input_of xs (first + p)) (state_of bench.circuit xs (first + p)))
    → ShowsSettled 1024 bench points f → ShowsBatch bench f xs count first
shows_batch f bench points xs count first whole put shows = record {
  settled = shows.settled;
  shows = λ q v below same settles.
      let e : first + q % 1024 ≡ q = omega arith in
      let small : q % 1024 < 1024 = omega arith in
      let inside : first + q % 1024 < count = omega arith in
      let point : IsPoint points (q % 1024) (input_of xs q) (state_of bench.circuit xs q)
      = subst (λ (place : ℕ). IsPoint points (q % 1024) (input_of xs place) (state_of bench.circuit xs place)) e (put (q % 1024) small inside) in
      shows_point bench.circuit f bench points (q % 1024) (input_of xs q) (state_of bench.circuit xs q) v refl point settles 1024 small shows;
}

-- the next place is of the same batch, if it doesn't begin one
pub batch_on : (bench : BenchState) (f : StuckAt) (xs : List (List Bool)) (count place : ℕ) → ShowsBatch bench f xs count place → (place + 1) % 1024 ≢ 0
    → ShowsBatch bench f xs count (place + 1)
batch_on bench f xs count place batch inside = record {
  settled = batch.settled;
  shows = λ q v below same settles. batch.shows q v below (omega arith) settles;
}

module _ (N : Circuit) (P : CodePlan) (f : StuckAt) (xs : List (List Bool)) where
  abbrev IsAt : ℕ → Outcome → Type 0
  IsAt place outcome = IsOutcome N P f (input_of xs place) (state_of N xs place) outcome

  pub outcomes_more : (place : ℕ) (old new : List Outcome) (outcome : Outcome) → place < length old → AreFirstOutcomes N P f xs place old
      → new ≡ slice_set old place outcome → IsAt place outcome → AreFirstOutcomes N P f xs (place + 1) new
  outcomes_more place old new outcome inside are is here q d below =
      below_more (λ k. IsAt k (get_or new k d)) place
      (λ k h. subst (IsAt k) (sym (ap (λ (l : List Outcome). get_or l k d) is ∙ get_or-set_other old place k outcome d (λ same. omega arith))) (are k d h))
      (subst (IsAt place) (sym (ap (λ (l : List Outcome). get_or l place d) is ∙ get_or-set_same old place outcome d inside)) here)
      q below

  -- the places of all states and inputs
  pub all_outcomes : (states count : ℕ) (list : List Outcome) → count ≡ states * length xs → ArePlaceOutcomes N P f xs count list
      → AreOutcomes N P f states xs list
  all_outcomes states count list total are = record {
    sized = are.sized ∙ total;
    each = λ s i d below inside.
        let place : ℕ = s * length xs + i in
        let within : s * length xs + i < count = subst (λ (n : ℕ). s * length xs + i < n) (sym total) (product_turned s i below inside) in
        let input : place % length xs ≡ i = mod-mul-add s (length xs) i inside in
        let state : place / length xs ≡ s = div-mul-add s (length xs) i inside in
        subst (λ (k : ℕ). IsOutcome N P f (get_or xs k []) (bits_of (length N.latches) s) (get_or list place d)) input
        (subst (λ (k : ℕ). IsOutcome N P f (input_of xs place) (bits_of (length N.latches) k) (get_or list place d)) state
        (are.each place d within));
  }
    where
      product_turned : (s i : ℕ) → s < states → i < length xs → s * length xs + i < states * length xs
      product_turned s i below inside = let h = mul-add-lt s (length xs) i states below inside in omega arith
