-- A unate netlist with its checker has sound structure and follows its network.
use Rattle.std.proofs.Common.{◌≡◌, ℕ, Bool, false, List, [], ◌∷◌, ◌++◌, map, take, length, All, Some, refl, sym, ◌∙◌, ap, ap₂, subst, append-nil, length-append, drop, ◌+◌, ◌-◌, arith, drop_of_length-le}
use Rattle.std.proofs.lemmas.List.{length-map, map-append, length-drop, length-take-le}
use Rattle.std.proofs.lemmas.Grind.{common_steps}
use Rattle.fault_secure.specs.Circuit.{Circuit, bit}
use Rattle.fault_secure.specs.StuckAt.{NoFault}
use Rattle.fault_secure.specs.Closed.{IsClosed}
use Rattle.fault_secure.specs.Settle.{Settles, Acyclic}
use Rattle.fault_secure.specs.Run.{init_state}
use Rattle.fault_secure.specs.Structure.{IsUnate}
use Rattle.fault_secure.specs.declared.code.Code.{Code}
use Rattle.fault_secure.specs.declared.code.Code.TheVariants.{Parity, Berger, MOutOfN}
use Rattle.fault_secure.specs.CodePlan.{CodePlan, next_nets, monitored, word, next_of, IsChecked, IsWellMade, IsPlanOf, IsCodeword, IsUnorderedCode}
use Rattle.tsc_bits.specs.Counting.{ones}
use Rattle.fault_secure.specs.Logic.Logic.{Network}
use Rattle.fault_secure.specs.FaultSecure.{state_at, next_in, StepFollows}
use Rattle.fault_secure.specs.Behaviour.{FollowsSource}
use Rattle.fault_secure.specs.SoundStructure.{SuitsCode, HasSoundStructure}
use Rattle.fault_secure.specs.OneRun.{HasOneValuation}
use Rattle.fault_secure.proofs.OneRun.{one_valuation}
use Rattle.gate_net.specs.Signal.{Signal, values}
use Rattle.gate_net.specs.Realised.{AllRealise, NegatesInputs}
use Rattle.gate_net.proofs.Realised.{all_values}
use Rattle.gate_net.proofs.Signs.{plan_unate}
use Rattle.code_checkers.specs.Block.{RailsRealise, IsSoundChecker}
use Rattle.code_checkers.specs.SelfChecking.{IsSelfChecking}
use Rattle.code_checkers.proofs.Block.{checker_sound}
use Rattle.unate_synth.specs.UnateNetlist.{IsUnateFunction}

-- what each code asks for, of an unordered code
suits : (code : Code) (N : Circuit) (P : CodePlan) → IsUnorderedCode code → IsUnate N P → SuitsCode code N P
suits Parity N P is unate = absurd is
suits Berger N P is unate = unate
suits MOutOfN N P is unate = unate

realise-append : (N : Circuit) (hi : ℕ) (as_ bs : List Signal) (ms ns : List ℕ) → AllRealise N hi as_ ms → AllRealise N hi bs ns → AllRealise N hi (as_ ++ bs) (ms ++ ns)
realise-append N hi [] bs [] ns one two = two
realise-append N hi [] bs (m ∷ ms) ns one two = absurd one
realise-append N hi (a ∷ as_) bs [] ns one two = absurd one
realise-append N hi (a ∷ as_) bs (m ∷ ms) ns one two = (one.0, realise-append N hi as_ bs ms ns one.1 two)

negate-append : (as_ bs : List Signal) → All NegatesInputs as_ → All NegatesInputs bs → All NegatesInputs (as_ ++ bs)
negate-append as_ bs one two = grind (arith, common_steps)

pub no_nets : (N : Circuit) → length N.latches ≡ 0 → next_nets N ≡ []
no_nets N none = grind (arith, common_steps)

-- where gates that negate only inputs compute the word of an unordered code, and the rails realise the stated checker
pub unate_structure : (N : Circuit) (P : CodePlan) (hi : ℕ) (signals : List Signal) → Acyclic N → IsClosed N → IsWellMade P → IsPlanOf N P → IsUnorderedCode P.code
    → All NegatesInputs signals → AllRealise N hi signals (monitored N P) → RailsRealise N P → HasSoundStructure N P
unate_structure N P hi signals acyclic closed made plan unordered negate stand stated =
    let checker : IsSoundChecker N P = checker_sound N P made plan stated in
    record {
      well_made = made;
      plan_of = plan;
      closed = closed;
      acyclic = acyclic;
      rails = checker.rails;
      reads = checker.reads;
      suits = suits P.code N P unordered (plan_unate N P hi signals negate stand);
      checker = checker.decides;
    }

module _ (C N : Circuit) (P : CodePlan) (hi : ℕ) (source : Acyclic C) (acyclic : Acyclic N) (closed : IsClosed N) (made : IsWellMade P) (plan : IsPlanOf N P)
    (f : IsUnateFunction C N P hi) (stated : RailsRealise N P) where
  no_latches : P.latches ≡ 0
  no_latches = plan.latches ∙ f.latchless

  no_weight : P.weight ≡ 0
  no_weight = let none : (P.states ≡ []) × (P.weight ≡ 0) = made.states.none no_latches in none.1

  -- without latches the state is 0
  one_state : (s : List Bool) → state_at P s ≡ Some 0
  one_state s = let e : P.latches ≡ 0 = no_latches in grind (arith, common_steps)

  -- the monitored nets are the outputs and the checks
  watched : monitored N P ≡ take P.outputs N.outputs ++ P.checks
  watched = ap (λ nets. (take P.outputs N.outputs ++ P.checks) ++ nets) (no_nets N f.latchless) ∙ append-nil (take P.outputs N.outputs ++ P.checks)

  stand : AllRealise N hi (f.outputs ++ f.checks) (monitored N P)
  stand = subst (AllRealise N hi (f.outputs ++ f.checks)) (sym watched) (realise-append N hi f.outputs f.checks (take P.outputs N.outputs) P.checks f.outputs_stand f.checks_stand)

  structure : HasSoundStructure N P
  structure = unate_structure N P hi (f.outputs ++ f.checks) acyclic closed made plan f.code (negate-append f.outputs f.checks f.outputs_negate f.checks_negate) stand stated

  step : (q : ℕ) (s x v : List Bool) → state_at P s ≡ Some q → Settles N NoFault (bit x) (bit s) v → StepFollows (Network C) N P s x v
  step q s x v at settles =
      let one : HasOneValuation C NoFault (bit x) (λ _. false) = one_valuation C NoFault (bit x) (λ _. false) source in
      record {
        here = q;
        next = 0;
        traced = at;
        arrives = one_state (next_in N v);
        outputs = record {
          valuation = one.valuation;
          settles = one.settles;
          answers = sym (f.answers (bit x) (bit s) (λ _. false) one.valuation one.settles) ∙ sym (all_values N hi (bit x) (bit s) v f.outputs (take P.outputs N.outputs) settles f.outputs_stand);
        };
        next_allowed = refl;
      }

  -- the word has the values of the outputs' signals and of the checks'
  word_is : (x s : ℕ → Bool) (v : List Bool) → Settles N NoFault x s v → word N P v ≡ values x s f.outputs ++ values x s f.checks
  word_is x s v settles =
      ap (map (bit v)) watched
      ∙ map-append (bit v) (take P.outputs N.outputs) P.checks
      ∙ ap₂ (λ a b. a ++ b) (all_values N hi x s v f.outputs (take P.outputs N.outputs) settles f.outputs_stand) (all_values N hi x s v f.checks P.checks settles f.checks_stand)

  -- without latches nothing is left of a word after the checks
  weighed : (v : List Bool) → ones (next_of P (word N P v)) ≡ P.weight
  weighed v = ap ones rest ∙ sym no_weight
    where
      rest : next_of P (word N P v) ≡ []
      rest =
          let all : length (word N P v) ≡ length (monitored N P) = length-map (monitored N P) (bit v) in
          let parts : length (monitored N P) ≡ length (take P.outputs N.outputs) + length P.checks
          = ap length watched ∙ length-append (take P.outputs N.outputs) P.checks in
          let front : length (take P.outputs N.outputs) ≡ P.outputs = length-take-le P.outputs N.outputs (let e : length N.outputs ≡ P.outputs + 2 = plan.outputs in omega arith) in
          let left : length (drop P.outputs (word N P v)) ≡ length (word N P v) - P.outputs = length-drop P.outputs (word N P v) in
          drop_of_length-le (drop P.outputs (word N P v)) (omega arith)

  codeword : (q : ℕ) (s x v : List Bool) → state_at P s ≡ Some q → Settles N NoFault (bit x) (bit s) v → IsCodeword P (word N P v)
  codeword q s x v at settles = record {
    checked = subst (IsChecked P.code P) (sym (word_is (bit x) (bit s) v settles)) (f.checked (bit x) (bit s));
    weighed = weighed v;
  }

  follows : FollowsSource (Network C) N P
  follows = record { starts = one_state (init_state N); steps = step; codewords = codeword }

  pub self_checking : IsSelfChecking (Network C) N P
  self_checking = record { structure = structure; rails = stated; follows = follows }
