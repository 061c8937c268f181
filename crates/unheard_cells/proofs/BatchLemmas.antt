-- The first reason of a batch, and of one batch after another.
use Rattle.std.proofs.Common.{◌≡◌, ℕ, ◌+◌, ◌-◌, ◌*◌, ◌<◌, ◌≤◌, Bool, true, false, Option, Some, None, unwrap_or, refl, sym, subst, arith, inl, inr}
use Rattle.std.specs.Option.{is_some}
use Rattle.std.proofs.lemmas.Bool.{false≢true, cases_lt}
use Rattle.std.proofs.Math.Logic.{⊎_elim}
use Rattle.tsc_bits.specs.Bits.{bits_of}
use Rattle.fault_secure.specs.Circuit.{Circuit, nets}
use Rattle.fault_secure.specs.Settle.{Acyclic}
use Rattle.fault_secure.specs.CodePlan.{CodePlan}
use Rattle.point_laws.proofs.Heard.{unheard_stem_is_wrong}
use Rattle.lane_sim.specs.First.{IsFirstIn}
use Rattle.lane_sim.specs.Points.{PointsState}
use Rattle.lane_sim.specs.Places.{point_at}
use Rattle.unheard_cells.specs.PointReason.{IsLeastUnheard}
use Rattle.unheard_cells.specs.There.{IsFalseAlarmThere, CellUnheardThere, IsLeastCell}
use Rattle.unheard_cells.specs.Trial.{ArePointsFrom, IsWrongPlace, IsFirstAnswer, reason_of}
use Rattle.unheard_cells.specs.declared.cells.FoundCell.{FoundCell}
use Rattle.unheard_cells.specs.declared.reason.PointReason.{PointReason}
use Rattle.unheard_cells.proofs.PointLemmas.{alarm_at, alarm_there, stem_at, cell_at, cell_there}

-- ---- a batch

module _ (N : Circuit) (P : CodePlan) (points : PointsState) (acyclic : Acyclic N) (first many : ℕ) (put : ArePointsFrom N P points first many) where
  abbrev U : ℕ → Bool → ℕ → Type 0
  U = CellUnheardThere N P points

  -- where the bench shows no false alarm and no cell, nothing is wrong at the place
  right_place : (p : ℕ) → p < many → (IsFalseAlarmThere N P points p → ⊥) → ((cell : ℕ) (held : Bool) → U cell held p → ⊥) → IsWrongPlace N P (first + p) → ⊥
  right_place p inside quiet none (inl alarm) = quiet (alarm_there N P points p (point_at N.inputs (first + p)) (put p inside) alarm)
  right_place p inside quiet none (inr (cell, is, at)) =
      let there = cell_there N P points p (point_at N.inputs (first + p)) (put p inside) cell is at in
      none cell there.0 (is, there.1)

  right_before : (bound : ℕ) → bound ≤ many → ((p : ℕ) → p < bound → IsFalseAlarmThere N P points p → ⊥)
      → ((p cell : ℕ) (held : Bool) → p < bound → U cell held p → ⊥) → (place : ℕ) → first ≤ place → place < first + bound → IsWrongPlace N P place → ⊥
  right_before bound few quiet none place low high wrong =
      let p : ℕ = place - first in
      let back : place ≡ first + p = omega arith in
      right_place p (omega arith) (quiet p (omega arith)) (λ cell held. none p cell held (omega arith)) (subst (λ (n : ℕ). IsWrongPlace N P n) back wrong)

  -- the cells below the number of nets are all
  none_at : (p cell : ℕ) (held : Bool) → (cell < nets N → U cell held p → ⊥) → U cell held p → ⊥
  none_at p cell held none u = none u.0.inside u

  least_at : (cell : ℕ) (held : Bool) (p : ℕ) → p < many → U cell held p → ((other : ℕ) (value : Bool) → other < cell → U other value p → ⊥)
      → IsLeastUnheard N P cell held (point_at N.inputs (first + p)).state (bits_of N.inputs (point_at N.inputs (first + p)).input)
  least_at cell held p inside u least =
      let point = point_at N.inputs (first + p) in
      let is = put p inside in
      record {
        is_cell = u.0;
        unheard = cell_at N P points p point is cell held u.0 u.1;
        least = λ other less is_cell at. (let there = cell_there N P points p point is other is_cell at in least other there.0 less (is_cell, there.1));
        other_bit = λ right step. unheard_stem_is_wrong N P cell point.state held (bits_of N.inputs point.input) right acyclic u.0 (stem_at N P points p point is cell held u.1) step;
      }

  pub batch_answer : (quiet : Option ℕ) (found : Option FoundCell) → IsFirstIn (IsFalseAlarmThere N P points) 0 many quiet
      → IsLeastCell (CellUnheardThere N P points) (nets N) (unwrap_or quiet many) found → IsFirstAnswer N P first (first + many) (reason_of N.inputs first quiet found)
  batch_answer None None silent least = right_before many (omega arith) (λ p below. silent p (omega arith) below)
      (λ p cell held below. none_at p cell held (λ inside. least cell held p inside below))
  batch_answer (Some q) None silent least =
      let inside : q < many = silent.1 in
      record {
        place = first + q;
        from = omega arith;
        below = omega arith;
        here = (refl, refl, alarm_at N P points q (point_at N.inputs (first + q)) (put q inside) silent.2);
        before = right_before q (omega arith) (λ p below. silent.3 p (omega arith) below) (λ p cell held below. none_at p cell held (λ in_nets. least cell held p in_nets below));
      }
  batch_answer None (Some f) silent least =
      let inside : f.point < many = least.1 in
      record {
        place = first + f.point;
        from = omega arith;
        below = omega arith;
        here = (
          refl,
          refl,
          (λ alarm. silent f.point (omega arith) inside (alarm_there N P points f.point (point_at N.inputs (first + f.point)) (put f.point inside) alarm)),
          least_at f.cell.number f.held f.point inside least.2 least.4,
        );
        before = right_before f.point (omega arith) (λ p below. silent p (omega arith) (omega arith))
            (λ p cell held below. none_at p cell held (λ in_nets. least.3 cell held p in_nets below));
      }
  batch_answer (Some q) (Some f) silent least =
      let early : f.point < q = least.1 in
      let late : q < many = silent.1 in
      let inside : f.point < many = omega arith in
      record {
        place = first + f.point;
        from = omega arith;
        below = omega arith;
        here = (
          refl,
          refl,
          (λ alarm. silent.3 f.point (omega arith) early (alarm_there N P points f.point (point_at N.inputs (first + f.point)) (put f.point inside) alarm)),
          least_at f.cell.number f.held f.point inside least.2 least.4,
        );
        before = right_before f.point (omega arith) (λ p below. silent.3 p (omega arith) (omega arith))
            (λ p cell held below. none_at p cell held (λ in_nets. least.3 cell held p in_nets below));
      }

-- ---- batch after batch

module _ (N : Circuit) (P : CodePlan) where
  -- the first batch that has one
  pub found_in_all : (count first past : ℕ) (found : Option PointReason) → is_some found ≡ true → past ≤ count → IsFirstAnswer N P first past found
      → ((p : ℕ) → p < first → p < count → IsWrongPlace N P p → ⊥) → IsFirstAnswer N P 0 count found
  found_in_all count first past None some inside here none = absurd (false≢true some)
  found_in_all count first past (Some reason) some inside here none =
      let last = here.below in
      record {
        place = here.place;
        from = omega arith;
        below = omega arith;
        here = here.here;
        before = λ p low less. ⊎_elim
            (λ (early : p < first). none p early (omega arith))
            (λ (late : first ≤ p). here.before p late less)
            (cases_lt p first);
      }

  -- one more batch that has none
  pub none_so_far : (count batch first past : ℕ) (found : Option PointReason) → is_some found ≡ false → first ≡ batch * 1024 → ((p : ℕ) → p < count → p < first + 1024 → p < past)
      → IsFirstAnswer N P first past found → ((p : ℕ) → p < batch * 1024 → p < count → IsWrongPlace N P p → ⊥)
      → (p : ℕ) → p < (batch + 1) * 1024 → p < count → IsWrongPlace N P p → ⊥
  none_so_far count batch first past (Some reason) some at reach here none = absurd (false≢true (sym some))
  none_so_far count batch first past None some at reach here none = λ p below inside. ⊎_elim
      (λ (early : p < first). none p (omega arith) inside)
      (λ (late : first ≤ p). here p late (reach p inside (omega arith)))
      (cases_lt p first)
