-- A step of all lanes, and what it decides in one.
use Rattle.std.proofs.Common.{◌≡◌, ℕ, ◌+◌, ◌<◌, ◌≤◌, Bool, true, false, not, ◌&&◌, ◌||◌, cond, List, [], length, take, map, refl, sym, ap, subst, ◌∙◌, arith, add-one}
use Rattle.std.proofs.lemmas.List.{get_or-take}
use Rattle.tsc_bits.specs.Bits.{same}
use Rattle.fault_secure.specs.Circuit.{Circuit, bit}
use Rattle.fault_secure.specs.StuckAt.{StuckAt, NoFault}
use Rattle.fault_secure.specs.Settle.{Acyclic, Settles}
use Rattle.fault_secure.specs.Run.{next_state}
use Rattle.fault_secure.specs.CodePlan.{CodePlan}
use Rattle.fault_secure.specs.FaultSecure.{equal_bits, at_step}
use Rattle.tsc_net.specs.PlanView.{net_numbers}
use Rattle.tsc_net.specs.declared.ids.NetId.{NetId}
use Rattle.grading_laws.specs.Grades.{Grade, Unseen}
use Rattle.fault_lanes.specs.Batch.{lane_fault}
use Rattle.fault_lanes.specs.Bench.{LanesState, fault_of, state_of, valuation_of, IsSameBatch, IsStep}
use Rattle.fault_grades.specs.Grade.{grade_as, is_left, agree_in, wrong_in, marked, seen_grade}
use Rattle.fault_grades.specs.declared.grade.Grade.{Grade as Kept}
use Rattle.fault_grades.specs.declared.grade.Grade.TheVariants.{Alarm, Silent, Unseen as Neither}
use Rattle.fault_grades.specs.Batch.{HasNets}
use Rattle.fault_grades.proofs.StandLemmas.{Stands, stands_more}

-- ---- the grade of a lane

graded_seen : (step : ℕ) (a w : Bool) → grade_as (cond (a || w) (seen_grade step a) Neither) ≡ marked step a w Unseen
graded_seen step true w = refl
graded_seen step false true = refl
graded_seen step false false = refl

pub step_marked : (step : ℕ) (u a w seen : Bool) (old new : Kept) → seen ≡ (u && (a || w)) → new ≡ cond seen (seen_grade step a) old → u ≡ is_left old → grade_as new ≡ marked step a w (grade_as old)
step_marked step u a w seen (Alarm at) new is_seen is_new left = ap grade_as (is_new ∙ ap (λ b. cond b (seen_grade step a) (Alarm at)) (is_seen ∙ ap (λ b. b && (a || w)) left))
step_marked step u a w seen (Silent at) new is_seen is_new left = ap grade_as (is_new ∙ ap (λ b. cond b (seen_grade step a) (Silent at)) (is_seen ∙ ap (λ b. b && (a || w)) left))
step_marked step u a w seen Neither new is_seen is_new left =
    ap grade_as (is_new ∙ ap (λ b. cond b (seen_grade step a) Neither) (is_seen ∙ ap (λ b. b && (a || w)) left)) ∙ graded_seen step a w

left_seen : (step : ℕ) (a : Bool) (seen : Bool) → same false seen ≡ is_left (cond seen (seen_grade step a) Neither)
left_seen step true true = refl
left_seen step false true = refl
left_seen step a false = refl

pub step_left : (step : ℕ) (u a w seen left : Bool) (old new : Kept) → seen ≡ (u && (a || w)) → new ≡ cond seen (seen_grade step a) old → u ≡ is_left old → left ≡ (u && same false seen) → left ≡ is_left new
step_left step u a w seen left (Alarm at) new is_seen is_new is_left' is =
    is ∙ ap (λ b. b && same false seen) is_left' ∙ sym (ap is_left (is_new ∙ ap (λ b. cond b (seen_grade step a) (Alarm at)) (is_seen ∙ ap (λ b. b && (a || w)) is_left')))
step_left step u a w seen left (Silent at) new is_seen is_new is_left' is =
    is ∙ ap (λ b. b && same false seen) is_left' ∙ sym (ap is_left (is_new ∙ ap (λ b. cond b (seen_grade step a) (Silent at)) (is_seen ∙ ap (λ b. b && (a || w)) is_left')))
step_left step u a w seen left Neither new is_seen is_new is_left' is =
    is ∙ ap (λ b. b && same false seen) is_left' ∙ left_seen step a seen ∙ sym (ap is_left is_new)

-- the outputs of a plan, by their nets
pub wrong_is : (N : Circuit) (P : CodePlan) (outputs : List NetId) (v u : List Bool) (b : Bool) → net_numbers outputs ≡ take P.outputs N.outputs
    → b ≡ not (equal_bits (map (bit u) (net_numbers outputs)) (map (bit v) (net_numbers outputs))) → b ≡ wrong_in N P v u
wrong_is N P outputs v u b are is = is ∙ ap (λ (nets : List ℕ). not (equal_bits (map (bit u) nets) (map (bit v) nets))) are

-- ---- the runs of a lane

fault_now : (start old : LanesState) (lane : ℕ) (f : StuckAt) → fault_of start lane ≡ f → IsSameBatch start old → fault_of old lane ≡ f
fault_now start old lane f is batch = ap (λ faults. lane_fault faults lane) batch.faults ∙ is

lane_settles : (start old new : LanesState) (x : List Bool) (lane : ℕ) (f : StuckAt) → lane < 1024 → fault_of start lane ≡ f → IsSameBatch start old → IsStep old x new
    → Settles start.circuit f (bit x) (bit (state_of old lane)) (valuation_of new lane)
lane_settles start old new x lane f inside is batch step =
    subst (λ (C : Circuit). Settles C f (bit x) (bit (state_of old lane)) (valuation_of new lane)) batch.circuit
    (subst (λ (g : StuckAt). Settles old.circuit g (bit x) (bit (state_of old lane)) (valuation_of new lane)) (fault_now start old lane f is batch) (step.settles lane inside))

lane_takes : (start old new : LanesState) (x : List Bool) (lane : ℕ) (f : StuckAt) → lane < 1024 → fault_of start lane ≡ f → IsSameBatch start old → IsStep old x new
    → state_of new lane ≡ next_state start.circuit f (valuation_of new lane)
lane_takes start old new x lane f inside is batch step =
    step.takes lane inside ∙ (λ i. next_state (batch.circuit i) (fault_now start old lane f is batch i) (valuation_of new lane))

-- a step more of a lane, beside lane 0
pub lane_steps : (start old new : LanesState) (P : CodePlan) (steps : List (List Bool)) (limit k lane : ℕ) (x : List Bool) (grade grade' : Grade)
    → fault_of start 0 ≡ NoFault → IsSameBatch start old → IsStep old x new → Acyclic old.circuit → lane < 1024 → k < limit → limit ≤ length steps → length (take limit steps) ≡ limit → x ≡ at_step steps k
    → grade' ≡ marked k (agree_in P (valuation_of new lane)) (wrong_in old.circuit P (valuation_of new 0) (valuation_of new lane)) grade
    → Stands start.circuit P (fault_of start lane) (take limit steps) k (state_of old 0) (state_of old lane) grade
    → Stands start.circuit P (fault_of start lane) (take limit steps) (k + 1) (state_of new 0) (state_of new lane) grade'
lane_steps start old new P steps limit k lane x grade grade' right batch step acyclic inside low most sized is graded before =
    let zero_inside : 0 < 1024 = omega arith in
    subst (λ (n : ℕ). Stands start.circuit P (fault_of start lane) (take limit steps) n (state_of new 0) (state_of new lane) grade') (sym (add-one k))
    (stands_more start.circuit P (fault_of start lane) (take limit steps) k x (state_of old 0) (state_of old lane) (valuation_of new 0) (valuation_of new lane) (state_of new 0) (state_of new lane) grade grade'
    (subst Acyclic batch.circuit acyclic) (omega arith) (get_or-take limit steps k [] low ∙ sym is)
    (lane_settles start old new x 0 NoFault zero_inside right batch step) (lane_settles start old new x lane (fault_of start lane) inside refl batch step)
    (lane_takes start old new x 0 NoFault zero_inside right batch step) (lane_takes start old new x lane (fault_of start lane) inside refl batch step)
    (graded ∙ ap (λ (C : Circuit). marked k (agree_in P (valuation_of new lane)) (wrong_in C P (valuation_of new 0) (valuation_of new lane)) grade) batch.circuit) before)

pub same_batch : (bench : LanesState) → IsSameBatch bench bench
same_batch bench = record { circuit = refl; faults = refl }

pub step_seen : (u la lw lj seen a w : Bool) → la ≡ a → lw ≡ w → lj ≡ (la || lw) → seen ≡ (u && lj) → seen ≡ (u && (a || w))
step_seen u la lw lj seen a w is_a is_w joined met = met ∙ ap (λ b. u && b) (joined ∙ (λ i. is_a i || is_w i))

pub nets_kept : (old new : Circuit) (P : CodePlan) (outputs : List NetId) → new ≡ old → HasNets old P outputs → HasNets new P outputs
nets_kept old new P outputs same has = subst (λ (C : Circuit). HasNets C P outputs) (sym same) has
