-- The lanes of a gate, part after part: two words, that is 128 points, at a time.
use Rattle.std.proofs.Common.{◌≡◌, ◌≢◌, ℕ, ◌+◌, ◌-◌, ◌*◌, ◌%◌, ◌<◌, ◌≤◌, ◌||◌, Bool, true, false, List, refl, sym, ap₂, ◌∙◌, subst, arith, true≢false}
use Rattle.std.proofs.Math.Logic.{⊎_elim}
use Rattle.std.proofs.lemmas.Bool.{cases_lt, cases_eq}
use Rattle.fault_secure.specs.StuckAt.{NoFault}
use Rattle.lane_sim.specs.Lanes.{HasLanes, lane_bit}
use Rattle.lane_sim.specs.Gate.{operand_bit}
use Rattle.lane_sim.specs.Points.{source_bit}
use Rattle.lane_sim.specs.TwoPins.{HasFormula, differ, table_bit}
use Rattle.lane_sim.specs.Operation.{first_operand, second_operand, table_of, free_bit}
use Rattle.lane_sim.specs.declared.gate.Operand.{Operand}
use Rattle.lane_sim.specs.declared.gate.Operand.TheVariants.{Points, Row}
use Rattle.lane_sim.specs.declared.gate.TwoPins.{TwoPins}
use Rattle.lane_sim.proofs.DifferLemmas.{same_bits}

-- the gate's row was written at the points before those of a part, and nothing else was: at the part's own points the gate still
-- reads what stood there at first
module _ (gate : TwoPins) (row : ℕ) (words old now new : List ℕ) (part : ℕ) (few : part < 8) where
  operand_kept : (p : ℕ) → part * 128 ≤ p → p < 1024
      → ((p : ℕ) → part * 128 ≤ p → p < 1024 → source_bit now row p ≡ source_bit old row p)
      → ((other p : ℕ) → p < 1024 → other ≢ row → source_bit now other p ≡ source_bit old other p)
      → (operand : Operand) → operand_bit NoFault words now p operand ≡ operand_bit NoFault words old p operand
  operand_kept p from inside rest others (Points net) = refl
  operand_kept p from inside rest others (Row other) = ⊎_elim
      (λ same. subst (λ r. source_bit now r p ≡ source_bit old r p) (sym same) (rest p from inside))
      (λ apart. others other p inside apart)
      (cases_eq other row)

  pub done_more : ((p : ℕ) → p < part * 128 → source_bit now row p ≡ free_bit words old p gate)
      → ((p : ℕ) → part * 128 ≤ p → p < 1024 → source_bit now row p ≡ source_bit old row p)
      → ((other p : ℕ) → p < 1024 → other ≢ row → source_bit now other p ≡ source_bit old other p)
      → ((p : ℕ) → p < 2 * 64 → source_bit new row (part * 2 * 64 + p) ≡ free_bit words now (part * 2 * 64 + p) gate)
      → ((p : ℕ) → p < part * 2 * 64 → source_bit new row p ≡ source_bit now row p)
      → (p : ℕ) → p < (part + 1) * 128 → source_bit new row p ≡ free_bit words old p gate
  done_more done rest others here before p inside = ⊎_elim
      (λ earlier. before p (omega arith) ∙ done p earlier)
      (λ now_there.
      let at : part * 2 * 64 + (p - part * 128) ≡ p = omega arith in
      subst (λ q. source_bit new row q ≡ free_bit words now q gate) at (here (p - part * 128) (omega arith))
      ∙ ap₂ (table_bit (table_of gate)) (operand_kept p now_there (omega arith) rest others (first_operand gate)) (operand_kept p now_there (omega arith) rest others (second_operand gate)))
      (cases_lt p (part * 128))

  pub rest_more : ((p : ℕ) → part * 128 ≤ p → p < 1024 → source_bit now row p ≡ source_bit old row p)
      → ((p : ℕ) → (part * 2 + 2) * 64 ≤ p → p < 1024 → source_bit new row p ≡ source_bit now row p)
      → (p : ℕ) → (part + 1) * 128 ≤ p → p < 1024 → source_bit new row p ≡ source_bit old row p
  rest_more rest behind p from inside = behind p (omega arith) inside ∙ rest p (omega arith) inside

  -- where no part so far has changed a point of the row, it is the same there
  pub same_more : (changed part_changed more lanes : List ℕ) → HasLanes 2 more (λ p. lane_bit changed p || lane_bit part_changed p)
      → HasLanes 2 part_changed (λ p. differ (source_bit now row (part * 2 * 64 + p)) (lane_bit lanes p))
      → ((p : ℕ) → p < part * 128 → lane_bit changed (p % 128) ≡ false → source_bit now row p ≡ source_bit old row p)
      → ((p : ℕ) → part * 128 ≤ p → p < 1024 → source_bit now row p ≡ source_bit old row p)
      → ((p : ℕ) → p < 2 * 64 → source_bit new row (part * 2 * 64 + p) ≡ lane_bit lanes p)
      → ((p : ℕ) → p < part * 2 * 64 → source_bit new row p ≡ source_bit now row p)
      → (p : ℕ) → p < (part + 1) * 128 → lane_bit more (p % 128) ≡ false → source_bit new row p ≡ source_bit old row p
  same_more changed part_changed more lanes joined differs same rest stored before p inside none =
      let low : p % 128 < 2 * 64 = rest_below p in
      let each = sym (joined.lanes (p % 128) low) ∙ none in
      ⊎_elim
      (λ earlier. before p (omega arith) ∙ same p earlier (or_left (lane_bit changed (p % 128)) (lane_bit part_changed (p % 128)) each))
      (λ past.
      let at : part * 2 * 64 + p % 128 ≡ p = place_in_part part p past inside in
      let unlike = sym (differs.lanes (p % 128) low) ∙ or_right (lane_bit changed (p % 128)) (lane_bit part_changed (p % 128)) each in
      let is : source_bit new row (part * 2 * 64 + p % 128) ≡ source_bit now row (part * 2 * 64 + p % 128)
      = stored (p % 128) low ∙ sym (same_bits (source_bit now row (part * 2 * 64 + p % 128)) (lane_bit lanes (p % 128)) unlike) in
      subst (λ q. source_bit new row q ≡ source_bit now row q) at is ∙ rest p past (omega arith))
      (cases_lt p (part * 128))
    where
      rest_below : (p : ℕ) → p % 128 < 2 * 64
      rest_below p = omega arith

      place_in_part : (part p : ℕ) → part * 128 ≤ p → p < (part + 1) * 128 → part * 2 * 64 + p % 128 ≡ p
      place_in_part part p low high = omega arith

      or_left : (a b : Bool) → a || b ≡ false → a ≡ false
      or_left true b none = none
      or_left false b none = refl

      or_right : (a b : Bool) → a || b ≡ false → b ≡ false
      or_right true b none = absurd (true≢false none)
      or_right false b none = none

-- what serves for every function is a formula of each
pub any_formula : (table : ℕ) → HasFormula 3 table
any_formula table = record {
  sum = λ is. absurd (omega (arith, is));
  difference = λ is. absurd (omega (arith, is));
  product = λ is. absurd (omega (arith, is));
}
