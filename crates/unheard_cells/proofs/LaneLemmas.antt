-- What lanes of watched nets tell of a point of a bench.
use Rattle.std.proofs.Common.{◌≡◌, ◌↔◌, ℕ, zero, suc, ◌+◌, ◌-◌, ◌<◌, ◌≤◌, ◌⊎◌, Bool, true, false, not, ◌&&◌, ◌||◌, List, [], ◌∷◌, map, drop, length, slice_index, refl, sym, ap, ap₂, ◌∙◌, subst, inl, inr, arith}
use Rattle.std.proofs.Math.Logic.{⊎_elim}
use Rattle.std.proofs.lemmas.List.{get_or-take, get_or-drop}
use Rattle.std.proofs.lemmas.Bool.{cases_Bool, cases_lt, and_parts, true≢false, false≢true}
use Rattle.fault_secure.specs.Circuit.{Circuit, bit}
use Rattle.fault_secure.specs.StuckAt.{NoFault, Stem}
use Rattle.fault_secure.specs.Settle.{Settles, Acyclic}
use Rattle.fault_secure.specs.CodePlan.{CodePlan}
use Rattle.fault_secure.proofs.OneRun.{one_valuation}
use Rattle.point_laws.specs.Heard.{shown_bits}
use Rattle.lane_sim.specs.Points.{PointsState, source_bit, point_input, point_state}
use Rattle.lane_sim.specs.TwoPins.{differ}
use Rattle.lane_sim.specs.FaultBench.{HaveLanesUnder}
use Rattle.fault_secure.specs.FailingCell.{IsCell}
use Rattle.unheard_cells.specs.Spans.{IsSpanOfCell}
use Rattle.unheard_cells.specs.declared.spans.Span.{Span}
use Rattle.unheard_cells.proofs.ReachLemmas.{apart_unchanged}
use Rattle.unheard_cells.specs.There.{shown_nets, watched_nets, near_count, near_nets, AreSameAt, AreUnheardAt, IsFalseAlarmThere, IsUnheardThere}

-- ---- bits

pub agree_same : (x y : Bool) → not (differ x y) ≡ true → x ≡ y
agree_same true true is = refl
agree_same true false is = sym is
agree_same false true is = is
agree_same false false is = refl

pub same_agree : (x y : Bool) → x ≡ y → not (differ x y) ≡ true
same_agree true true is = refl
same_agree true false is = sym is
same_agree false true is = is
same_agree false false is = refl

-- one of the bits and not the other
apart_differ : (x y : Bool) → (x ≡ y → ⊥) → differ x y ≡ true
apart_differ true true apart = absurd (apart refl)
apart_differ true false apart = refl
apart_differ false true apart = refl
apart_differ false false apart = absurd (apart refl)

differ_apart : (x y : Bool) → differ x y ≡ true → x ≡ y → ⊥
differ_apart true true is same = false≢true is
differ_apart true false is same = true≢false same
differ_apart false true is same = false≢true same
differ_apart false false is same = false≢true is

same_differ : (x y : Bool) → x ≡ y → differ x y ≡ false
same_differ true true is = refl
same_differ true false is = is
same_differ false true is = sym is
same_differ false false is = refl

differ_same : (x y : Bool) → differ x y ≡ false → x ≡ y
differ_same true true is = refl
differ_same true false is = is
differ_same false true is = sym is
differ_same false false is = refl

neither : (x y : Bool) → (x || y) ≡ false → (x ≡ false) × (y ≡ false)
neither false y is = (refl, is)
neither true y is = absurd (true≢false is)

-- ---- lanes at a point

-- what is met with the rails' difference is unheard
pub unheard_bits : (right wrong : List ℕ) (low many p : ℕ) (unheard changed rails one other : Bool) → unheard ≡ (changed && rails) → rails ≡ differ one other
    → one ≡ source_bit wrong 0 p → other ≡ source_bit wrong 1 p → ((changed ≡ false) ↔ AreSameAt right wrong low many p)
    → (unheard ≡ true) ↔ AreUnheardAt right wrong low many p
unheard_bits right wrong low many p unheard changed rails one other is rails_is one_is other_is same = (
  λ yes_. let both = and_parts changed rails (sym is ∙ yes_) in record {
    changed = λ alike. true≢false (sym both.0 ∙ same.1 alike);
    rails_differ = λ e. differ_apart one other (sym rails_is ∙ both.1) (one_is ∙ e ∙ sym other_is);
  },
  λ at. is ∙ ap₂ ◌&&◌
      (elim (cases_Bool changed) [ inl set_ ↦ set_ | inr clear ↦ absurd (at.changed (same.0 clear)) ])
      (rails_is ∙ apart_differ one other (λ e. at.rails_differ (sym one_is ∙ e ∙ other_is))),
)

-- the nets so far and one more
pub same_more : (right wrong : List ℕ) (low place p : ℕ) (new old apart one other : Bool) → new ≡ (old || apart) → apart ≡ differ one other
    → one ≡ source_bit right (low + place) p → other ≡ source_bit wrong place p → 2 ≤ place
    → ((old ≡ false) ↔ AreSameAt right wrong low place p) → (new ≡ false) ↔ AreSameAt right wrong low (place + 1) p
same_more right wrong low place p new old apart one other is apart_is one_is other_is behind same = (
  λ none k past below. let both = neither old apart (sym is ∙ none) in ⊎_elim
      (λ (less : k < place). same.0 both.0 k past less)
      (λ (more : place ≤ k).
      let here : place ≡ k = omega arith in
      subst (λ (n : ℕ). source_bit right (low + n) p ≡ source_bit wrong n p) here (sym one_is ∙ differ_same one other (sym apart_is ∙ both.1) ∙ other_is))
      (cases_lt k place),
  λ alike. is ∙ ap₂ ◌||◌ (same.1 (λ k past below. alike k past (omega arith)))
      (apart_is ∙ same_differ one other (one_is ∙ alike place behind (omega arith) ∙ sym other_is)),
)

-- before any net
pub same_none : (right wrong : List ℕ) (low p : ℕ) (old : Bool) → old ≡ false → (old ≡ false) ↔ AreSameAt right wrong low 2 p
same_none right wrong low p old clear = (λ e place behind below. absurd (omega arith), λ alike. clear)

-- ---- lists of bits of nets

same_at : (g h : ℕ → Bool) (ns : List ℕ) → map g ns ≡ map h ns → (k : ℕ) → k < length ns → g (slice_index ns k) ≡ h (slice_index ns k)
same_at g h [] e k below = absurd (omega arith)
same_at g h (n ∷ ns) e zero below = cc
same_at g h (n ∷ ns) e (suc k) below = same_at g h ns (cc) k (omega arith)

maps_same : (g h : ℕ → Bool) (ns : List ℕ) → ((k : ℕ) → k < length ns → g (slice_index ns k) ≡ h (slice_index ns k)) → map g ns ≡ map h ns
maps_same g h [] each = refl
maps_same g h (n ∷ ns) each = ap₂ ◌∷◌ (each 0 (omega arith)) (maps_same g h ns (λ k below. each (suc k) (omega arith)))

-- ---- a point of a bench

module _ (N : Circuit) (P : CodePlan) (points : PointsState) (acyclic : Acyclic N) (p : ℕ) (inside : p < 1024) where
  abbrev many : ℕ
  many = length (watched_nets N P)

  module _ (lanes : List ℕ) (has : HaveLanesUnder N NoFault points (watched_nets N P) (length (watched_nets N P)) lanes) where
    pub false_alarm_there : source_bit lanes 0 p ≡ source_bit lanes 1 p → IsFalseAlarmThere N P points p
    false_alarm_there same =
        let v = one_valuation N NoFault (point_input points p) (point_state points p) acyclic in
        record {
          valuation = v.valuation;
          settles = v.settles;
          rails_agree = sym (has 0 p v.valuation (omega arith) inside v.settles) ∙ same ∙ has 1 p v.valuation (omega arith) inside v.settles;
        }

    pub there_false_alarm : IsFalseAlarmThere N P points p → source_bit lanes 0 p ≡ source_bit lanes 1 p
    there_false_alarm at = has 0 p at.valuation (omega arith) inside at.settles ∙ at.rails_agree ∙ sym (has 1 p at.valuation (omega arith) inside at.settles)

  module _ (cell : ℕ) (held : Bool) (span : Span) (right wrong : List ℕ) (is_cell : IsCell N cell) (spans : IsSpanOfCell N (shown_nets N P) cell span) (some : span.low < span.past)
      (right_has : HaveLanesUnder N NoFault points (watched_nets N P) (length (watched_nets N P)) right)
      (wrong_has : HaveLanesUnder N (Stem cell held) points (near_nets N P span) (near_count span) wrong) where
    -- where a net of the span stands among those seen from outside
    near_at : (k : ℕ) → k < span.past - span.low → slice_index (near_nets N P span) (suc (suc k)) ≡ slice_index (shown_nets N P) (span.low + k)
    near_at k below =
        get_or-take (near_count span) (P.rail1 ∷ (P.rail2 ∷ drop span.low (shown_nets N P))) (suc (suc k)) 0 (omega arith)
        ∙ get_or-drop span.low (shown_nets N P) k 0

    rail1_at : (u : List Bool) → Settles N (Stem cell held) (point_input points p) (point_state points p) u → source_bit wrong 0 p ≡ bit u P.rail1
    rail1_at u second =
        wrong_has 0 p u (omega arith) inside second
        ∙ ap (bit u) (get_or-take (near_count span) (P.rail1 ∷ (P.rail2 ∷ drop span.low (shown_nets N P))) 0 0 (omega arith))

    rail2_at : (u : List Bool) → Settles N (Stem cell held) (point_input points p) (point_state points p) u → source_bit wrong 1 p ≡ bit u P.rail2
    rail2_at u second =
        wrong_has 1 p u (omega arith) inside second
        ∙ ap (bit u) (get_or-take (near_count span) (P.rail1 ∷ (P.rail2 ∷ drop span.low (shown_nets N P))) 1 0 (omega arith))

    right_at : (k : ℕ) (v : List Bool) → k < length (shown_nets N P) → Settles N NoFault (point_input points p) (point_state points p) v
        → source_bit right (suc (suc k)) p ≡ bit v (slice_index (shown_nets N P) k)
    right_at k v below first = right_has (suc (suc k)) p v (omega arith) inside first

    wrong_at : (k : ℕ) (u : List Bool) → k < span.past - span.low → Settles N (Stem cell held) (point_input points p) (point_state points p) u
        → source_bit wrong (suc (suc k)) p ≡ bit u (slice_index (shown_nets N P) (span.low + k))
    wrong_at k u below second = wrong_has (suc (suc k)) p u (omega arith) inside second ∙ ap (bit u) (near_at k below)

    -- equal bits of what is seen from outside are equal lanes
    lanes_same : (v u : List Bool) → Settles N NoFault (point_input points p) (point_state points p) v
        → Settles N (Stem cell held) (point_input points p) (point_state points p) u → shown_bits N P u ≡ shown_bits N P v
        → AreSameAt right wrong span.low (near_count span) p
    lanes_same v u first second same place behind below =
        let k : ℕ = place - 2 in
        let end = spans.within in
        let there : span.low + k < length (shown_nets N P) = omega arith in
        let here : place ≡ suc (suc k) = omega arith in
        let right_here : span.low + place ≡ suc (suc (span.low + k)) = omega arith in
        ap (λ (n : ℕ). source_bit right n p) right_here
        ∙ right_at (span.low + k) v there first
        ∙ sym (same_at (bit u) (bit v) (shown_nets N P) same (span.low + k) there)
        ∙ sym (wrong_at k u (omega arith) second)
        ∙ ap (λ (n : ℕ). source_bit wrong n p) (sym here)

    -- and the other way, since outside the span nothing changes
    bits_same : (v u : List Bool) → Settles N NoFault (point_input points p) (point_state points p) v
        → Settles N (Stem cell held) (point_input points p) (point_state points p) u → AreSameAt right wrong span.low (near_count span) p
        → shown_bits N P u ≡ shown_bits N P v
    bits_same v u first second same = maps_same (bit u) (bit v) (shown_nets N P) each
      where
        outside : (k : ℕ) → k < length (shown_nets N P) → (k < span.low) ⊎ (span.past ≤ k) → bit u (slice_index (shown_nets N P) k) ≡ bit v (slice_index (shown_nets N P) k)
        outside k below out =
            apart_unchanged N (point_input points p) (point_state points p) cell (slice_index (shown_nets N P) k) held v u acyclic is_cell (spans.outside k below out) first second

        within : (k : ℕ) → k < length (shown_nets N P) → span.low ≤ k → k < span.past → bit u (slice_index (shown_nets N P) k) ≡ bit v (slice_index (shown_nets N P) k)
        within k below from past =
            let at : ℕ = k - span.low in
            let back : span.low + at ≡ k = omega arith in
            let right_here : span.low + suc (suc at) ≡ suc (suc k) = omega arith in
            ap (λ (n : ℕ). bit u (slice_index (shown_nets N P) n)) (sym back)
            ∙ sym (wrong_at at u (omega arith) second)
            ∙ sym (same (suc (suc at)) (omega arith) (omega arith))
            ∙ ap (λ (n : ℕ). source_bit right n p) right_here
            ∙ right_at k v below first

        each : (k : ℕ) → k < length (shown_nets N P) → bit u (slice_index (shown_nets N P) k) ≡ bit v (slice_index (shown_nets N P) k)
        each k below = ⊎_elim
            (λ (before : k < span.low). outside k below (inl before))
            (λ (from : span.low ≤ k). ⊎_elim
            (λ (past : k < span.past). within k below from past)
            (λ (behind : span.past ≤ k). outside k below (inr behind))
            (cases_lt k span.past))
            (cases_lt k span.low)

    pub unheard_there : AreUnheardAt right wrong span.low (near_count span) p → IsUnheardThere N P points cell held p
    unheard_there at =
        let v = one_valuation N NoFault (point_input points p) (point_state points p) acyclic in
        let u = one_valuation N (Stem cell held) (point_input points p) (point_state points p) acyclic in
        record {
          right = v.valuation;
          wrong = u.valuation;
          settles = v.settles;
          failing = u.settles;
          unheard = record {
            differ = λ same. at.changed (lanes_same v.valuation u.valuation v.settles u.settles same);
            rails_differ = λ agree. at.rails_differ (rail1_at u.valuation u.settles ∙ agree ∙ sym (rail2_at u.valuation u.settles));
          };
        }

    pub there_unheard : IsUnheardThere N P points cell held p → AreUnheardAt right wrong span.low (near_count span) p
    there_unheard at = record {
      changed = λ same. at.unheard.differ (bits_same at.right at.wrong at.settles at.failing same);
      rails_differ = λ same. at.unheard.rails_differ (sym (rail1_at at.wrong at.failing) ∙ same ∙ rail2_at at.wrong at.failing);
    }

  -- where no place is in the span, nothing is unheard
  pub none_unheard : (cell : ℕ) (held : Bool) (span : Span) → IsCell N cell → IsSpanOfCell N (shown_nets N P) cell span → span.past ≤ span.low → IsUnheardThere N P points cell held p → ⊥
  none_unheard cell held span is_cell spans none at = at.unheard.differ (maps_same (bit at.wrong) (bit at.right) (shown_nets N P) (λ k below.
      apart_unchanged N (point_input points p) (point_state points p) cell (slice_index (shown_nets N P) k) held at.right at.wrong acyclic is_cell
      (spans.outside k below (⊎_elim (λ (before : k < span.low). inl before) (λ (from : span.low ≤ k). inr (omega arith)) (cases_lt k span.low))) at.settles at.failing))
