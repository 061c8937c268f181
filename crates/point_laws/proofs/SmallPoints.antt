-- The small netlists at their points.
use Rattle.std.proofs.Common.{◌≡◌, ℕ, ◌<◌, Bool, true, false, not, List, [], ◌∷◌, refl, sym, ap, ap₂, ◌∙◌, inl, inr, arith}
use Rattle.std.proofs.lemmas.Bool.{false≢true, cases_eq}
use Rattle.std.proofs.lemmas.List.Elements.{All-nil, All-cons}
use Rattle.tsc_cover.specs.Cover.{truth}
use Rattle.tsc_cover.specs.Gates.{and_cover, buf_cover, not_cover}
use Rattle.fault_secure.specs.Circuit.{Circuit, NodeOf, gate, pin_net, node_net, bit}
use Rattle.fault_secure.specs.StuckAt.{NoFault}
use Rattle.fault_secure.specs.Settle.{Settles, Acyclic, node_value}
use Rattle.fault_secure.specs.CodePlan.{IsPlanOf, RailsAgree}
use Rattle.fault_secure.specs.Logic.{Network, NetworkAnswers}
use Rattle.fault_secure.specs.Behaviour.{FollowsSource}
use Rattle.fault_secure.specs.FailingCell.{SettlesBut}
use Rattle.fault_secure.proofs.GateLemmas.{truth-buf}
use Rattle.structure_laws.specs.SmallNetlist.{small_netlist, small_plan, small_source}
use Rattle.structure_laws.specs.Toggle.{toggle_source, toggle, toggle_plan}
use Rattle.structure_laws.proofs.Each.{each, each_pin}
use Rattle.structure_laws.proofs.SmallParity.{small_is_cell_secure}
use Rattle.structure_laws.proofs.Toggle.{toggle_is_sound, toggle_follows}
use Rattle.mapping_laws.specs.Inverters.{merged}
use Rattle.point_laws.specs.Points.{IsSecureAtPoints}
use Rattle.point_laws.specs.Heard.{shown_bits, IsHeardAtPoints}
use Rattle.point_laws.specs.SmallPoints.{SmallIsSecureAtPoints, ToggleIsSecureAtPoints, idle_check, CheckIsSilent, IsWeaker, merged_plan, OutputIsUnheard, MergedIsNotAlarmSecure}
use Rattle.point_laws.proofs.Arrivals.{start_reached}
use Rattle.point_laws.proofs.AtPoints.{networks_are_decided, silent_is_insecure, sound_is_secure_at_points}
use Rattle.point_laws.proofs.Heard.{heard_at_points_is_alarm_secure, wrong_unheard_is_insecure}

-- ---- secure at points

-- the small netlist with any node as its last
abbrev with_last : NodeOf → Circuit
with_last last = record {
  inputs = 2;
  latches = [];
  nodes = gate and_cover (0 ∷ 1 ∷ []) ∷ gate and_cover (0 ∷ 1 ∷ []) ∷ gate not_cover (3 ∷ []) ∷ gate buf_cover (2 ∷ []) ∷ last ∷ [];
  outputs = 2 ∷ 5 ∷ 6 ∷ [];
}

plan_of : (last : NodeOf) → IsPlanOf (with_last last) small_plan
plan_of last = record {
  outputs = refl;
  rail1 = refl;
  rail2 = refl;
  checks = All-cons (λ net. net < 7) 4 [] (omega arith) (All-nil (λ net. net < 7));
  rails = (omega arith, omega arith);
  latches = refl;
}

small_acyclic : Acyclic small_netlist
small_acyclic = record { rank = λ net. net; ranks = record { above = each_pin small_netlist (λ j pin. pin_net small_netlist j pin < node_net small_netlist j) (omega arith) } }

small_decided : FollowsSource (Network small_source) small_netlist small_plan × IsSecureAtPoints small_netlist small_plan
small_decided = (networks_are_decided (Network small_source) small_netlist small_plan (plan_of (gate buf_cover (4 ∷ []))) small_acyclic refl).0 small_is_cell_secure

-- the small netlist is secure at its points
pub small_is_secure_at_points : SmallIsSecureAtPoints
small_is_secure_at_points = small_decided.1

pub toggle_is_secure_at_points : ToggleIsSecureAtPoints
toggle_is_secure_at_points = sound_is_secure_at_points toggle_source toggle toggle_plan toggle_is_sound toggle_follows

-- ---- a check that nothing reads

idle_acyclic : Acyclic idle_check
idle_acyclic = record { rank = λ net. net; ranks = record { above = each_pin idle_check (λ j pin. pin_net idle_check j pin < node_net idle_check j) (omega arith) } }

-- without a fault it settles as the small netlist does
as_small : (x s : ℕ → Bool) (v : List Bool) → Settles idle_check NoFault x s v → Settles small_netlist NoFault x s v
as_small x s v h = record {
  sized = h.sized;
  inputs = h.inputs;
  latches = λ l inside. absurd (omega arith);
  nodes = each 5 (λ j. bit v (node_net small_netlist j) ≡ node_value small_netlist NoFault v j)
      (h.nodes 0 (omega arith), (h.nodes 1 (omega arith), (h.nodes 2 (omega arith), (h.nodes 3 (omega arith), (last, tt)))));
}
  where
    last : bit v 6 ≡ truth buf_cover (bit v 4 ∷ [])
    last = h.nodes 4 (omega arith) ∙ sym (h.nodes 2 (omega arith)) ∙ sym (truth-buf (bit v 4))

idle_follows : FollowsSource (Network small_source) idle_check small_plan
idle_follows = record {
  starts = refl;
  steps = λ q s x v traced h. (let step = small_decided.0.steps q s x v traced (as_small (bit x) (bit s) v h) in record {
    here = step.here;
    next = step.next;
    traced = step.traced;
    arrives = step.arrives;
    outputs = step.outputs;
    next_allowed = step.next_allowed;
  });
  codewords = λ q s x v traced h. small_decided.0.codewords q s x v traced (as_small (bit x) (bit s) v h);
}

-- the output isn't the right one, and the copy is: so the rails agree
meet : (y right copy one other : Bool) → (y ≡ right → ⊥) → copy ≡ right → one ≡ truth buf_cover (y ∷ []) → other ≡ truth not_cover (copy ∷ []) → one ≡ other
meet true true copy one other differ same first second = absurd (differ refl)
meet true false copy one other differ same first second = rw (first, second, same) refl
meet false true copy one other differ same first second = rw (first, second, same) refl
meet false false copy one other differ same first second = absurd (differ refl)

module _ (cell : ℕ) (x s : ℕ → Bool) (v u : List Bool) (settled : Settles idle_check NoFault x s v) (held : SettlesBut idle_check cell x s u)
    (differ : shown_bits idle_check small_plan u ≡ shown_bits idle_check small_plan v → ⊥) where
  right : bit v 2 ≡ truth and_cover (x 0 ∷ x 1 ∷ [])
  right = settled.nodes 0 (omega arith) ∙ ap₂ (λ a b. truth and_cover (a ∷ b ∷ [])) (settled.inputs 0 (omega arith)) (settled.inputs 1 (omega arith))

  given : truth and_cover (bit u 0 ∷ bit u 1 ∷ []) ≡ truth and_cover (x 0 ∷ x 1 ∷ [])
  given = ap₂ (λ a b. truth and_cover (a ∷ b ∷ [])) (held.inputs 0 (omega arith)) (held.inputs 1 (omega arith))

  output_differs : bit u 2 ≡ bit v 2 → ⊥
  output_differs e = differ (ap (λ b. b ∷ []) e)

  is_heard : RailsAgree small_plan u
  is_heard = elim (cases_eq 2 cell) [
    | inr off ↦ absurd (output_differs (held.nodes 0 (omega arith) off ∙ given ∙ sym right))
    | inl here ↦ meet (bit u 2) (bit v 2) (bit u 3) (bit u 5) (bit u 6) output_differs
        (held.nodes 1 (omega arith) (λ e. omega arith) ∙ given ∙ sym right)
        (held.nodes 3 (omega arith) (λ e. omega arith)) (held.nodes 4 (omega arith) (λ e. omega arith))
  ]

idle_is_heard : IsHeardAtPoints idle_check small_plan
idle_is_heard = record {
  quiet = λ q x alarm. small_is_secure_at_points.quiet q x (record {
    valuation = alarm.valuation;
    step = record {
      word = alarm.step.word;
      is_state = alarm.step.is_state;
      sized = alarm.step.sized;
      settles = as_small (bit x) (bit alarm.step.word) alarm.valuation alarm.step.settles;
    };
    rails_agree = alarm.rails_agree;
  });
  heard = λ cell q x is a. a.unheard.rails_differ (is_heard cell (bit x) (bit a.step.word) a.right a.wrong a.step.settles
      (same_latches a.step.word a.failing.word cell (bit x) a.wrong a.failing.settles) a.unheard.differ);
}
  where
    same_latches : (w t : List Bool) (cell : ℕ) (x : ℕ → Bool) (u : List Bool) → SettlesBut idle_check cell x (bit t) u → SettlesBut idle_check cell x (bit w) u
    same_latches w t cell x u h = record { sized = h.sized; inputs = h.inputs; latches = λ l inside off. absurd (omega arith); nodes = h.nodes }

-- the bits of the nets at the input 00, with what the check's cell gives
abbrev at_00 : Bool → List Bool
at_00 check = false ∷ false ∷ false ∷ false ∷ check ∷ false ∷ true ∷ []

pub check_is_silent : CheckIsSilent
check_is_silent = record {
  right = at_00 true;
  wrong = at_00 false;
  step = record {
    word = [];
    is_state = refl;
    sized = refl;
    settles = record {
      sized = refl;
      inputs = each 2 (λ i. bit (at_00 true) i ≡ bit (false ∷ false ∷ []) i) (refl, (refl, tt));
      latches = λ l inside. absurd (omega arith);
      nodes = each 5 (λ j. bit (at_00 true) (node_net idle_check j) ≡ node_value idle_check NoFault (at_00 true) j) (refl, (refl, (refl, (refl, (refl, tt)))));
    };
  };
  failing = record {
    word = [];
    is_state = refl;
    sized = refl;
    settles = record {
      sized = refl;
      inputs = each 2 (λ i. bit (at_00 false) i ≡ bit (false ∷ false ∷ []) i) (refl, (refl, tt));
      latches = λ l inside off. absurd (omega arith);
      nodes = each 5 (λ j. (node_net idle_check j ≡ 4 → ⊥) → bit (at_00 false) (node_net idle_check j) ≡ node_value idle_check NoFault (at_00 false) j)
          (λ off. refl, (λ off. refl, (λ off. absurd (off refl), (λ off. refl, (λ off. refl, tt)))));
    };
  };
  silent = record { differ = λ e. false≢true (ap (λ w. bit w 1) e); unshown = λ shows. false≢true shows.rails_agree };
}

pub is_weaker : IsWeaker
is_weaker = record {
  alarm_secure = heard_at_points_is_alarm_secure (Network small_source) idle_check small_plan (plan_of (gate not_cover (3 ∷ []))) idle_acyclic idle_follows idle_is_heard;
  not_secure = silent_is_insecure (Network small_source) idle_check small_plan 4 0 (false ∷ false ∷ []) [] (record { no_input = omega arith; inside = omega arith })
      refl (start_reached idle_check) check_is_silent;
}

-- ---- merged nodes

-- the bits of the nets at the input 11, with what the cell of y gives
abbrev at_11 : Bool → List Bool
at_11 y = true ∷ true ∷ y ∷ not y ∷ y ∷ not y ∷ []

-- the source's output is 1 there
no_zero : NetworkAnswers small_source (true ∷ true ∷ []) (false ∷ []) → ⊥
no_zero answers =
    let h = answers.settles in
    let one : bit answers.valuation 2 ≡ truth and_cover (true ∷ true ∷ []) =
    h.nodes 0 (omega arith) ∙ ap₂ (λ a b. truth and_cover (a ∷ b ∷ [])) (h.inputs 0 (omega arith)) (h.inputs 1 (omega arith)) in
    false≢true (sym (ap (λ ys. bit ys 0) answers.answers) ∙ one)

pub output_is_unheard : OutputIsUnheard
output_is_unheard = record {
  right = at_11 true;
  wrong = at_11 false;
  step = record {
    word = [];
    is_state = refl;
    sized = refl;
    settles = record {
      sized = refl;
      inputs = each 2 (λ i. bit (at_11 true) i ≡ bit (true ∷ true ∷ []) i) (refl, (refl, tt));
      latches = λ l inside. absurd (omega arith);
      nodes = each 4 (λ j. bit (at_11 true) (node_net merged j) ≡ node_value merged NoFault (at_11 true) j) (refl, (refl, (refl, (refl, tt))));
    };
  };
  failing = record {
    word = [];
    is_state = refl;
    sized = refl;
    settles = record {
      sized = refl;
      inputs = each 2 (λ i. bit (at_11 false) i ≡ bit (true ∷ true ∷ []) i) (refl, (refl, tt));
      latches = λ l inside off. absurd (omega arith);
      nodes = each 4 (λ j. (node_net merged j ≡ 2 → ⊥) → bit (at_11 false) (node_net merged j) ≡ node_value merged NoFault (at_11 false) j)
          (λ off. absurd (off refl), (λ off. refl, (λ off. refl, (λ off. refl, tt))));
    };
  };
  not_allowed = no_zero;
  rails_differ = λ e. false≢true e;
}

pub merged_is_not_alarm_secure : MergedIsNotAlarmSecure
merged_is_not_alarm_secure = wrong_unheard_is_insecure (Network small_source) merged merged_plan 2 0 (true ∷ true ∷ []) [] (record { no_input = omega arith; inside = omega arith })
    refl refl (start_reached merged) output_is_unheard
