-- The answers of small netlists.
use Rattle.std.proofs.Common.{◌≡◌, ℕ, Bool, true, false, List, [], ◌∷◌, refl, sym, ap, ◌∙◌, inl, inr, arith}
use Rattle.std.proofs.lemmas.Bool.{false≢true, true≢false}
use Rattle.tsc_bits.specs.Bits.{bits_of, binary}
use Rattle.tsc_cover.specs.Cover.{truth}
use Rattle.tsc_cover.specs.Gates.{buf_cover, not_cover}
use Rattle.fault_secure.specs.Circuit.{node_net, bit}
use Rattle.fault_secure.specs.StuckAt.{NoFault}
use Rattle.fault_secure.specs.Settle.{Settles, node_value}
use Rattle.structure_laws.specs.SmallNetlist.{small_netlist, small_plan}
use Rattle.structure_laws.proofs.Each.{each}
use Rattle.point_laws.specs.Points.{IsStepAt}
use Rattle.point_laws.specs.Heard.{IsUnheardAt}
use Rattle.point_laws.proofs.SmallPoints.{small_is_secure_at_points}
use Rattle.point_laws.proofs.Heard.{secure_at_points_is_heard}
use Rattle.unheard_cells.specs.PointReason.{AreRightBefore}
use Rattle.unheard_cells.specs.Worked.{SmallIsHeard, lone_output, lone_plan, LoneOutputIsUnheard}

pub small_is_heard : SmallIsHeard
small_is_heard = secure_at_points_is_heard small_netlist small_plan small_is_secure_at_points

-- the input 0
abbrev zero_input : List Bool
zero_input = false ∷ []

-- no point comes before it
nothing_before : AreRightBefore lone_output lone_plan 0 (bits_of 1 0)
nothing_before r y (inl less) wrong = omega arith
nothing_before r y (inr less) wrong = let none : binary (bits_of 1 0) ≡ 0 = refl in let below = less.1 in omega arith

-- the rails differ whatever the input is
apart : (a one other : Bool) → one ≡ truth buf_cover (a ∷ []) → other ≡ truth not_cover (a ∷ []) → one ≡ other → ⊥
apart true one other first second same = true≢false (sym first ∙ same ∙ second)
apart false one other first second same = false≢true (sym first ∙ same ∙ second)

rails_apart : (x s : ℕ → Bool) (v : List Bool) → Settles lone_output NoFault x s v → bit v 2 ≡ bit v 3 → ⊥
rails_apart x s v h same = apart (bit v 0) (bit v 2) (bit v 3) (h.nodes 1 (omega arith)) (h.nodes 2 (omega arith)) same

-- the bits of the nets, with what the cell of y gives
abbrev with_y : Bool → List Bool
with_y y = false ∷ y ∷ false ∷ true ∷ []

y_is_unheard : IsUnheardAt lone_output lone_plan 1 0 zero_input
y_is_unheard = record {
  right = with_y false;
  wrong = with_y true;
  step = record {
    word = [];
    is_state = refl;
    sized = refl;
    settles = record {
      sized = refl;
      inputs = each 1 (λ i. bit (with_y false) i ≡ bit zero_input i) (refl, tt);
      latches = λ l inside. absurd (omega arith);
      nodes = each 3 (λ j. bit (with_y false) (node_net lone_output j) ≡ node_value lone_output NoFault (with_y false) j) (refl, (refl, (refl, tt)));
    };
  };
  failing = record {
    word = [];
    is_state = refl;
    sized = refl;
    settles = record {
      sized = refl;
      inputs = each 1 (λ i. bit (with_y true) i ≡ bit zero_input i) (refl, tt);
      latches = λ l inside off. absurd (omega arith);
      nodes = each 3 (λ j. (node_net lone_output j ≡ 1 → ⊥) → bit (with_y true) (node_net lone_output j) ≡ node_value lone_output NoFault (with_y true) j)
          (λ off. absurd (off refl), (λ off. refl, (λ off. refl, tt)));
    };
  };
  unheard = record { differ = λ e. true≢false (ap (λ w. bit w 0) e); rails_differ = λ e. false≢true e };
}

y_is_zero : (v : List Bool) → IsStepAt lone_output lone_plan 0 zero_input v → bit v 1 ≡ false
y_is_zero v step = step.settles.nodes 0 (omega arith) ∙ ap (λ a. truth buf_cover (a ∷ [])) (step.settles.inputs 0 (omega arith))

pub lone_output_is_unheard : LoneOutputIsUnheard
lone_output_is_unheard = (
  omega arith,
  nothing_before,
  (λ alarm. rails_apart (bit zero_input) (bit alarm.step.word) alarm.valuation alarm.step.settles alarm.rails_agree),
  record {
    is_cell = record { no_input = omega arith; inside = omega arith };
    unheard = y_is_unheard;
    least = λ other less is at. (let past = is.no_input in absurd (omega arith));
    other_bit = y_is_zero;
  },
)
