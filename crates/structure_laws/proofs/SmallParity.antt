-- The small netlist under code Parity: disjoint cones, a code-disjoint checker, and it follows its source.
use Rattle.std.proofs.Common.{◌≡◌, ◌↔◌, ℕ, zero, suc, ◌+◌, ◌<◌, ◌≤◌, ◌⊎◌, inl, inr, Bool, true, false, List, [], ◌∷◌, length, count_by, ◌==◌, true≢false, slice_index, slice_index_or, refl, ap₂, sym, ◌∙◌, subst, arith, Contains}
use Rattle.std.proofs.lemmas.List.Elements.{All-nil, All-cons}
use Rattle.tsc_cover.specs.Cover.{truth}
use Rattle.tsc_cover.specs.Gates.{and_cover, buf_cover, not_cover}
use Rattle.fault_secure.specs.Circuit.{Circuit, node, node_net, pin_net, bit}
use Rattle.fault_secure.specs.StuckAt.{NoFault}
use Rattle.fault_secure.specs.Settle.{Settles, Acyclic, node_value}
use Rattle.fault_secure.specs.CodePlan.{monitored, word, members, bits_at, HasGroups, IsWellMade, IsPlanOf, IsCodeword, RailsAgree}
use Rattle.tsc_bits.specs.Counting.{differ, ones, odd}
use Rattle.fault_secure.specs.Depends.{Depends, InFunction, InChecker}
use Rattle.fault_secure.specs.Depends.Depends.{itself, through}
use Rattle.fault_secure.specs.Structure.{SharesNode, HasDisjointCones, CheckerSettles, IsCodeDisjoint}
use Rattle.fault_secure.specs.Logic.{Network, NetworkAnswers}
use Rattle.fault_secure.specs.Behaviour.{FollowsSource}
use Rattle.fault_secure.specs.FaultSecure.{outputs_in, StepFollows}
use Rattle.structure_laws.specs.SmallNetlist.{small_netlist, small_plan, small_source, SmallIsCellSecure, SmallIsFaultSecure}
use Rattle.structure_laws.proofs.Each.{each, each_pin}
use Rattle.structure_laws.proofs.ParityStep.{parity_is_safe}
use Rattle.structure_laws.proofs.Joined.{safe_is_cell_secure, cell_secure_is_fault_secure}

-- what holds of the node itself and is handed from each pin to its node holds of each net that depends on the node
pub spread : (N : Circuit) (q : ℕ) (Hit : ℕ → Type 0) → Hit (node_net N q)
    → ((j pin : ℕ) → j < length N.nodes → pin < length (node N j).reads → Hit (pin_net N j pin) → Hit (node_net N j))
    → (net : ℕ) → Depends N q net → Hit net
spread N q Hit base up net (itself n h e) = subst Hit (sym e) base
spread N q Hit base up net (through n j pin h e l d) = subst Hit (sym e) (up j pin h l (spread N q Hit base up (pin_net N j pin) d))

small_acyclic : Acyclic small_netlist
small_acyclic = record {
  rank = λ net. net;
  ranks = record { above = each_pin small_netlist (λ j pin. pin_net small_netlist j pin < node_net small_netlist j) (omega arith) };
}

-- a net that depends on q stands at its net or above
from_its_net : (q net : ℕ) → Depends small_netlist q net → 2 + q ≤ net
from_its_net q = spread small_netlist q (λ net. 2 + q ≤ net) (omega arith)
    (each_pin small_netlist (λ j pin. 2 + q ≤ pin_net small_netlist j pin → 2 + q ≤ node_net small_netlist j) (omega arith))

-- the check doesn't depend on the output's node
apart : (net : ℕ) → Depends small_netlist 0 net → (1 < net) × (net ≡ 3 → ⊥) × (net ≡ 4 → ⊥)
apart = spread small_netlist 0 (λ net. (1 < net) × (net ≡ 3 → ⊥) × (net ≡ 4 → ⊥)) (omega arith)
    (each_pin small_netlist
    (λ j pin. (1 < pin_net small_netlist j pin) × (pin_net small_netlist j pin ≡ 3 → ⊥) × (pin_net small_netlist j pin ≡ 4 → ⊥)
    → (1 < node_net small_netlist j) × (node_net small_netlist j ≡ 3 → ⊥) × (node_net small_netlist j ≡ 4 → ⊥)) (omega arith))

no_shared_node : SharesNode small_netlist small_plan 0 1 → ⊥
no_shared_node h =
    let l = from_its_net h.shared 2 h.first in
    let e : h.shared ≡ 0 = omega arith in
    (apart 4 (subst (λ q. Depends small_netlist q 4) e h.second)).2 refl

disjoint_at : (group a b : ℕ) → a < b → b < length (slice_index_or (members small_plan) group [])
    → SharesNode small_netlist small_plan (slice_index (slice_index_or (members small_plan) group []) a) (slice_index (slice_index_or (members small_plan) group []) b) → ⊥
disjoint_at zero zero zero l k = absurd (omega arith)
disjoint_at zero zero (suc zero) l k = no_shared_node
disjoint_at zero zero (suc (suc b)) l k = absurd (omega arith)
disjoint_at zero (suc a) zero l k = absurd (omega arith)
disjoint_at zero (suc a) (suc zero) l k = absurd (omega arith)
disjoint_at zero (suc a) (suc (suc b)) l k = absurd (omega arith)
disjoint_at (suc group) a b l k = absurd (omega arith)

small_cones : HasDisjointCones small_netlist small_plan
small_cones = record { no_latch = refl; disjoint = disjoint_at }

small_groups : HasGroups small_plan
small_groups = record {
  paired = refl;
  filled = All-cons (λ group. 0 < length group) (0 ∷ []) [] (omega arith) (All-nil (λ group. 0 < length group));
  within = All-cons (λ place. place < 1) 0 [] (omega arith) (All-nil (λ place. place < 1));
  once = each 1 (λ place. count_by (λ other. place == other) (0 ∷ []) ≡ 1) (refl, tt);
}

small_well_made : IsWellMade small_plan
small_well_made = record {
  versioned = inl refl;
  some_output = omega arith;
  most_outputs = omega arith;
  shape = small_groups;
  states = record {
    none = λ e. (refl, refl);
    some = λ h. absurd (omega arith);
    sized = All-nil (λ state. length state ≡ 0);
    weighed = All-nil (λ state. ones state ≡ 0);
    distinct = λ a b h l e. absurd (omega arith);
  };
}

small_plan_of : IsPlanOf small_netlist small_plan
small_plan_of = record {
  outputs = refl;
  rail1 = refl;
  rail2 = refl;
  checks = All-cons (λ net. net < 7) 4 [] (omega arith) (All-nil (λ net. net < 7));
  rails = (omega arith, omega arith);
  latches = refl;
}

-- ---- the checker

monitored_low : (net : ℕ) → Contains (monitored small_netlist small_plan) net → net < 5
monitored_low net (zero, l, e) = omega arith
monitored_low net (suc zero, l, e) = omega arith
monitored_low net (suc (suc k), l, e) = absurd (omega arith)

rail_outside : (q : ℕ) → 3 ≤ q → InFunction small_netlist small_plan q → ⊥
rail_outside q h f = let l = from_its_net q f.net f.depends in let k = monitored_low f.net f.monitors in omega arith

rails_decide : (y p r s : Bool) → r ≡ truth buf_cover (y ∷ []) → s ≡ truth buf_cover (p ∷ [])
    → (r ≡ s → ⊥) ↔ (differ y (differ p false) ≡ true)
rails_decide true true r s e f = (λ n. absurd (n (e ∙ sym f)), λ h _. true≢false (sym h))
rails_decide true false r s e f = (λ n. refl, λ h g. true≢false (sym e ∙ g ∙ f))
rails_decide false true r s e f = (λ n. refl, λ h g. true≢false (sym f ∙ sym g ∙ e))
rails_decide false false r s e f = (λ n. absurd (n (e ∙ sym f)), λ h _. true≢false (sym h))

rail_checks : (q : ℕ) → 3 ≤ q → Depends small_netlist q 5 ⊎ Depends small_netlist q 6 → InChecker small_netlist small_plan q
rail_checks q h d = record { depends = d; outside = rail_outside q h }

-- the one group is odd exactly where the word is a codeword
codeword_if : (v : List Bool) → differ (bit v 2) (differ (bit v 4) false) ≡ true → IsCodeword small_plan (word small_netlist small_plan v)
codeword_if v e = record {
  checked = All-cons (λ group. odd (bits_at (word small_netlist small_plan v) group) ≡ true) (0 ∷ 1 ∷ []) [] e
      (All-nil (λ group. odd (bits_at (word small_netlist small_plan v) group) ≡ true));
  weighed = refl;
}

odd_if : (v : List Bool) → IsCodeword small_plan (word small_netlist small_plan v) → differ (bit v 2) (differ (bit v 4) false) ≡ true
odd_if v h = h.checked 0 [] (omega arith)

small_checker : IsCodeDisjoint small_netlist small_plan
small_checker = record { decides = λ v h. decide v (both v h) }
  where
    both : (v : List Bool) → CheckerSettles small_netlist small_plan v → (RailsAgree small_plan v → ⊥) ↔ (differ (bit v 2) (differ (bit v 4) false) ≡ true)
    both v h = rails_decide (bit v 2) (bit v 4) (bit v 5) (bit v 6)
        (h.settles 3 (omega arith) (rail_checks 3 (omega arith) (inl (itself 5 (omega arith) refl))))
        (h.settles 4 (omega arith) (rail_checks 4 (omega arith) (inr (itself 6 (omega arith) refl))))

    decide : (v : List Bool) → (RailsAgree small_plan v → ⊥) ↔ (differ (bit v 2) (differ (bit v 4) false) ≡ true)
        → (RailsAgree small_plan v → ⊥) ↔ IsCodeword small_plan (word small_netlist small_plan v)
    decide v e = (λ n. codeword_if v (e.0 n), λ c. e.1 (odd_if v c))

-- ---- without a fault

check_of_copy : (a b y c p : Bool) → y ≡ truth and_cover (a ∷ b ∷ []) → c ≡ truth and_cover (a ∷ b ∷ []) → p ≡ truth not_cover (c ∷ []) → differ y (differ p false) ≡ true
check_of_copy true true y c p e f g = rw (e, g, f) refl
check_of_copy true false y c p e f g = rw (e, g, f) refl
check_of_copy false b y c p e f g = rw (e, g, f) refl

source_valuation : (x v : List Bool) → List Bool
source_valuation x v = bit x 0 ∷ bit x 1 ∷ bit v 2 ∷ []

module _ (s x v : List Bool) (h : Settles small_netlist NoFault (bit x) (bit s) v) where
  output_value : bit v 2 ≡ truth and_cover (bit x 0 ∷ bit x 1 ∷ [])
  output_value = h.nodes 0 (omega arith) ∙ ap₂ (λ a b. truth and_cover (a ∷ b ∷ [])) (h.inputs 0 (omega arith)) (h.inputs 1 (omega arith))

  source_settles : Settles small_source NoFault (bit x) (λ _. false) (source_valuation x v)
  unfolding source_valuation
  source_settles = record {
    sized = refl;
    inputs = each 2 (λ i. bit (source_valuation x v) i ≡ bit x i) (refl, (refl, tt));
    latches = λ l k. absurd (omega arith);
    nodes = each 1 (λ j. bit (source_valuation x v) (node_net small_source j) ≡ node_value small_source NoFault (source_valuation x v) j) (output_value, tt);
  }

  source_answers : NetworkAnswers small_source x (outputs_in small_netlist small_plan v)
  unfolding source_valuation
  source_answers = record { valuation = source_valuation x v; settles = source_settles; answers = refl }

  small_codeword : IsCodeword small_plan (word small_netlist small_plan v)
  small_codeword = codeword_if v (check_of_copy (bit v 0) (bit v 1) (bit v 2) (bit v 3) (bit v 4) (h.nodes 0 (omega arith)) (h.nodes 1 (omega arith)) (h.nodes 2 (omega arith)))

  small_step : StepFollows (Network small_source) small_netlist small_plan s x v
  small_step = record { here = 0; next = 0; traced = refl; arrives = refl; outputs = source_answers; next_allowed = refl }

small_follows : FollowsSource (Network small_source) small_netlist small_plan
small_follows = record {
  starts = refl;
  steps = λ q s x v e h. small_step s x v h;
  codewords = λ q s x v e h. small_codeword s x v h;
}

-- the small netlist is secure against any one failing cell, for its source
pub small_is_cell_secure : SmallIsCellSecure
small_is_cell_secure = safe_is_cell_secure (Network small_source) small_netlist small_plan small_acyclic small_checker
    (λ cell is. parity_is_safe small_netlist small_plan cell refl small_well_made small_plan_of small_acyclic small_cones is) small_follows

pub small_is_fault_secure : SmallIsFaultSecure
small_is_fault_secure = cell_secure_is_fault_secure (Network small_source) small_netlist small_plan small_acyclic small_is_cell_secure
