-- The grades of lanes, one after another.
use Rattle.std.proofs.Common.{◌≡◌, ℕ, ◌+◌, ◌<◌, ◌≤◌, Bool, true, cond, List, Some, None, get_or, refl, sym, ap, ◌∙◌, inl, inr, arith}
use Rattle.std.proofs.lemmas.Bool.{cases_eq, cases_lt, cases_Bool}
use Rattle.lane_sim.specs.First.{IsFirstIn}
use Rattle.lane_sim.specs.Lanes.{lane_bit}
use Rattle.fault_grades.specs.Grade.{seen_grade}
use Rattle.fault_grades.specs.declared.grade.Grade.{Grade as Kept}
use Rattle.fault_grades.specs.declared.grade.Grade.TheVariants.{Unseen as Neither}

-- from the lane `first` on and before another one each lane in which something is seen has its grade of a step
pub record AreMarked (old new : List Kept) (step first lane : ℕ) (seen agree : List ℕ) : Type 0 where
  pub done : (at : ℕ) → first ≤ at → at < lane → get_or new at Neither ≡ cond (lane_bit seen at) (seen_grade step (lane_bit agree at)) (get_or old at Neither)
  pub before : (at : ℕ) → at < first → get_or new at Neither ≡ get_or old at Neither
  pub rest : (at : ℕ) → lane ≤ at → get_or new at Neither ≡ get_or old at Neither

pub marked_first : (marks : List Kept) (step first : ℕ) (seen agree : List ℕ) → AreMarked marks marks step first first seen agree
marked_first marks step first seen agree = record { done = λ at high low. absurd (omega arith); before = λ at low. refl; rest = λ at high. refl }

pub marked_more : (old now new : List Kept) (step first lane : ℕ) (seen agree : List ℕ) (s a : Bool) → first ≤ lane → s ≡ lane_bit seen lane → a ≡ lane_bit agree lane
    → get_or new lane Neither ≡ cond s (seen_grade step a) (get_or now lane Neither) → ((other : ℕ) → (other ≡ lane → ⊥) → get_or new other Neither ≡ get_or now other Neither)
    → AreMarked old now step first lane seen agree → AreMarked old new step first (lane + 1) seen agree
marked_more old now new step first lane seen agree s a high is_s is_a here others is = record {
  done = λ at above low. elim (cases_eq at lane) [
    | inl same ↦ ap (λ (k : ℕ). get_or new k Neither) same ∙ here ∙ (λ i. cond (is_s i) (seen_grade step (is_a i)) (is.rest lane (omega arith) i))
        ∙ ap (λ (k : ℕ). cond (lane_bit seen k) (seen_grade step (lane_bit agree k)) (get_or old k Neither)) (sym same)
    | inr apart ↦ others at apart ∙ is.done at above (omega (arith, apart))
  ];
  before = λ at low. others at (λ same. omega arith) ∙ is.before at low;
  rest = λ at above. others at (λ same. omega arith) ∙ is.rest at (omega arith);
}

-- a lane in which nothing is seen keeps its grade
kept_unseen : (b agree : Bool) (step : ℕ) (old : Kept) → (b ≡ true → ⊥) → old ≡ cond b (seen_grade step agree) old
kept_unseen b agree step old none = elim (cases_Bool b) [
  | inl is ↦ absurd (none is)
  | inr is ↦ ap (λ t. cond t (seen_grade step agree) old) (sym is)
]

-- where nothing is seen in any lane
pub marked_none : (seen agree : List ℕ) (old : List Kept) (step : ℕ) → IsFirstIn (λ p. lane_bit seen p ≡ true) 0 1024 None
    → (lane : ℕ) → lane < 1024 → get_or old lane Neither ≡ cond (lane_bit seen lane) (seen_grade step (lane_bit agree lane)) (get_or old lane Neither)
marked_none seen agree old step none lane inside = kept_unseen (lane_bit seen lane) (lane_bit agree lane) step (get_or old lane Neither) (λ is. none lane (omega arith) inside is)

-- and where it is in some lane first
pub marked_all : (seen agree seen' agree' : List ℕ) (old new : List Kept) (step first : ℕ) → seen' ≡ seen → agree' ≡ agree → IsFirstIn (λ p. lane_bit seen p ≡ true) 0 1024 (Some first)
    → ((lane : ℕ) → lane < 1024 → first ≤ lane → get_or new lane Neither ≡ cond (lane_bit seen' lane) (seen_grade step (lane_bit agree' lane)) (get_or old lane Neither))
    → ((lane : ℕ) → lane < first → get_or new lane Neither ≡ get_or old lane Neither)
    → (lane : ℕ) → lane < 1024 → get_or new lane Neither ≡ cond (lane_bit seen lane) (seen_grade step (lane_bit agree lane)) (get_or old lane Neither)
marked_all seen agree seen' agree' old new step first is_seen is_agree found marked before lane inside = elim (cases_lt lane first) [
  | inl low ↦ before lane low ∙ kept_unseen (lane_bit seen lane) (lane_bit agree lane) step (get_or old lane Neither) (λ is. found.3 lane (omega arith) low is)
  | inr high ↦ marked lane inside high ∙ (λ i. cond (lane_bit (is_seen i) lane) (seen_grade step (lane_bit (is_agree i) lane)) (get_or old lane Neither))
]
