-- A plan under another version: the same structure, the same codewords.
use Rattle.std.proofs.Common.{◌≡◌, ℕ, ◌⊎◌, inl, inr, Bool, List, length, refl, sym, ap, ◌∙◌}
use Rattle.std.proofs.lemmas.List.{length-map}
use Rattle.fault_secure.specs.declared.code.Code.{Code}
use Rattle.fault_secure.specs.declared.code.Code.TheVariants.{Parity, Berger, MOutOfN}
use Rattle.fault_secure.specs.Circuit.{Circuit, bit}
use Rattle.fault_secure.specs.CodePlan.{CodePlan, IsChecked, IsCodeword, HasShape, IsWellMade, IsPlanOf}
use Rattle.fault_secure.specs.Depends.{InFunction, InChecker}
use Rattle.fault_secure.specs.Structure.{IsDrivenOutside, IsOfChecker}
use Rattle.fault_secure.specs.SoundStructure.{SuitsCode}
use Rattle.structure_laws.specs.LooseSource.{with_version, FollowsWithFreeBits, SoundUnderAnyVersion}

module _ (P : CodePlan) (version : ℕ) where
  checked_under : (code : Code) (w : List Bool) → IsChecked code P w → IsChecked code (with_version version P) w
  checked_under Parity w h = h
  checked_under Berger w h = h
  checked_under MOutOfN w h = h

  pub codeword_under : (w : List Bool) → IsCodeword P w → IsCodeword (with_version version P) w
  codeword_under w h = record { checked = checked_under P.code w h.checked; weighed = h.weighed }

  shape_under : (code : Code) → HasShape code P → HasShape code (with_version version P)
  shape_under Parity h = record { paired = h.paired; filled = h.filled; within = h.within; once = h.once }
  shape_under Berger h = h
  shape_under MOutOfN h = h

  pub made_under : (version ≡ 1) ⊎ (version ≡ 2) → IsWellMade P → IsWellMade (with_version version P)
  made_under versioned h = record {
    versioned = versioned;
    some_output = h.some_output;
    most_outputs = h.most_outputs;
    shape = shape_under P.code h.shape;
    states = record {
      none = h.states.none;
      some = h.states.some;
      sized = h.states.sized;
      weighed = h.states.weighed;
      distinct = h.states.distinct;
    };
  }

  module _ (N : Circuit) where
    pub plan_under : IsPlanOf N P → IsPlanOf N (with_version version P)
    plan_under h = record { outputs = h.outputs; rail1 = h.rail1; rail2 = h.rail2; checks = h.checks; rails = h.rails; latches = h.latches }

    pub function_under : (q : ℕ) → InFunction N P q → InFunction N (with_version version P) q
    function_under q h = record { net = h.net; monitors = h.monitors; depends = h.depends }

    -- a node of the function under the plan of another version is one under the plan itself
    pub function_over : (q : ℕ) → InFunction N (with_version version P) q → InFunction N P q
    function_over q h = record { net = h.net; monitors = h.monitors; depends = h.depends }

    pub checker_under : (q : ℕ) → InChecker N P q → InChecker N (with_version version P) q
    checker_under q h = record { depends = h.depends; outside = λ inside. h.outside (function_over q inside) }

    pub checker_over : (q : ℕ) → InChecker N (with_version version P) q → InChecker N P q
    checker_over q h = record { depends = h.depends; outside = λ inside. h.outside (function_under q inside) }

    outside_under : (net : ℕ) → IsDrivenOutside N P net → IsDrivenOutside N (with_version version P) net
    outside_under net h = record {
      driver = h.driver;
      is_node = h.is_node;
      drives = h.drives;
      outside = λ inside. h.outside (function_over h.driver inside);
    }

    of_checker_under : (net : ℕ) → IsOfChecker N P net → IsOfChecker N (with_version version P) net
    of_checker_under net (inl (q, is_node, drives, in_checker)) = inl (q, is_node, drives, checker_under q in_checker)
    of_checker_under net (inr monitored) = inr monitored

    suits_under : (code : Code) → SuitsCode code N P → SuitsCode code N (with_version version P)
    suits_under Parity h = record {
      no_latch = h.no_latch;
      disjoint = λ group a b before inside shares. h.disjoint group a b before inside (record { shared = shares.shared; first = shares.first; second = shares.second });
    }
    suits_under Berger h = record { signs = λ q pin is_node inside. h.signs q pin is_node (function_over q inside) }
    suits_under MOutOfN h = record { signs = λ q pin is_node inside. h.signs q pin is_node (function_over q inside) }

-- the structure of a netlist is as sound under its plan with version 1 or 2
pub sound_under_any_version : SoundUnderAnyVersion
sound_under_any_version N P version versioned h = record {
  well_made = made_under P version versioned h.well_made;
  plan_of = plan_under P version N h.plan_of;
  closed = h.closed;
  acyclic = h.acyclic;
  rails = record { first = outside_under P version N P.rail1 h.rails.first; second = outside_under P version N P.rail2 h.rails.second };
  reads = record { reads = λ q pin is_node inside has. of_checker_under P version N _ (h.reads.reads q pin is_node (checker_over P version N q inside) has) };
  suits = suits_under P version N P.code h.suits;
  checker = record {
    decides = λ v settles.
        let decided = h.checker.decides v (record { settles = λ q is_node inside. settles.settles q is_node (checker_under P version N q inside) }) in
        (λ differ. codeword_under P version _ (decided.0 differ), λ codeword. decided.1 (codeword_under (with_version version P) P.version _ codeword));
  };
}

-- what follows a network follows each loose source with its values, under a plan of any version
pub follows_with_free_bits : FollowsWithFreeBits
follows_with_free_bits V F N P version h = record {
  starts = h.starts;
  steps = λ q s x v at settles.
      let old = h.steps q s x v at settles in
      record {
        here = old.here;
        next = old.next;
        traced = old.traced;
        arrives = old.arrives;
        outputs = record {
          chosen = _;
          answers = old.outputs;
          sized = ap length (sym old.outputs.answers) ∙ length-map V.outputs (bit old.outputs.valuation);
          each = λ place inside. inr refl;
        };
        next_allowed = old.next_allowed;
      };
  codewords = λ q s x v at settles. codeword_under P version _ (h.codewords q s x v at settles);
}
