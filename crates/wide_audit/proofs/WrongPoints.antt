-- Where the rails agree the word is no codeword, where an output differs the source doesn't have its bit; and where neither is so the netlist follows its source.
use Rattle.std.proofs.Common.{◌≡◌, ℕ, ◌^◌, ◌<◌, ◌==◌, inl, inr, Bool, true, false, not, cond, List, [], ◌++◌, map, take, length, slice_get, slice_index, Option, Some, None, refl, sym, ap, ◌∙◌, subst, arith}
use Rattle.std.proofs.lemmas.Bool.{false≢true, cases_Bool}
use Rattle.std.proofs.lemmas.Grind.{common_steps}
use Rattle.std.proofs.lemmas.List.{length-map, get_or-map, length-take-le}
use Rattle.std.proofs.Math.Logic.{⊎_elim}
use Rattle.tsc_bits.specs.Bits.{binary, bits_of}
use Rattle.tsc_bits.proofs.Bits.{binary-lt, bits_of-binary}
use Rattle.fault_secure.specs.Circuit.{Circuit, bit}
use Rattle.fault_secure.specs.StuckAt.{NoFault}
use Rattle.fault_secure.specs.Settle.{Settles, Acyclic}
use Rattle.fault_secure.specs.Run.{init_state}
use Rattle.fault_secure.specs.CodePlan.{CodePlan, next_nets, monitored, word, IsCodeword, IsWellMade, IsPlanOf}
use Rattle.fault_secure.specs.Logic.{Network, NetworkAnswers, NetworkHas}
use Rattle.fault_secure.specs.FaultSecure.{outputs_in, next_in}
use Rattle.fault_secure.specs.Behaviour.{FollowsSource}
use Rattle.fault_secure.proofs.OneRun.{one_valuation}
use Rattle.fault_secure.proofs.PlanSizes.{monitored_count}
use Rattle.net_cones.proofs.ConeLoop.{same_true}
use Rattle.code_checkers.specs.Signal.{Signal, value}
use Rattle.code_checkers.specs.Checker.{rail1, rail2, IsWordOf}
use Rattle.code_checkers.proofs.Decides.{rails_decide}
use Rattle.behaviour_audit.specs.Breaks.{IsStepAt, BreaksWord, BreaksOutput}
use Rattle.behaviour_audit.specs.Reason.{BreaksShown, NoneBefore, AllArrive, Starts, IsBehaviourAnswer}
use Rattle.behaviour_audit.proofs.BitLemmas.{same_items, clip, length-clip, bit-clip}
use Rattle.behaviour_audit.proofs.WatchLemmas.{settles_alike}
use Rattle.behaviour_audit.proofs.PointsLemmas.{without_latches}
use Rattle.diagrams.specs.Cofactors.{Function}
use Rattle.diagrams.specs.Building.{no_input}
use Rattle.diagrams.specs.Least.{IsUpTo}
use Rattle.cover_diagrams.specs.Covering.{pin_function}
use Rattle.circuit_diagrams.specs.Stated.{AreValuations, net_function}
use Rattle.wide_diagrams.specs.Stated.{signal_function}
use Rattle.wide_diagrams.specs.Wide.{word_functions, rails_differ, output_differs}
use Rattle.circuit_diagrams.proofs.NetWalk.{values_of_nets}
use Rattle.wide_audit.specs.FirstWrong.{IsWrongAt, IsFirstPoint}
use Rattle.wide_audit.specs.Points.{reason_at}
use Rattle.wide_audit.proofs.Orders.{UpTo-binary}

differ_true : (a b : Bool) → cond a (not b) b ≡ true → a ≡ b → ⊥
differ_true true true h e = false≢true h
differ_true true false h e = false≢true (sym e)
differ_true false true h e = false≢true e
differ_true false false h e = false≢true h

differ_false : (a b : Bool) → cond a (not b) b ≡ false → a ≡ b
differ_false true true h = refl
differ_false true false h = absurd (false≢true (sym h))
differ_false false true h = absurd (false≢true (sym h))
differ_false false false h = refl

-- without latches the state bits don't matter
stateless : (C : Circuit) (x s t : ℕ → Bool) (u : List Bool) → length C.latches ≡ 0 → Settles C NoFault x s u → Settles C NoFault x t u
stateless C x s t u none settles = settles_alike C x x s t u (λ k below. refl) (λ l below. absurd (omega arith)) settles

-- the one valuation of a circuit without latches at an input
only : (C : Circuit) (v : List Bool → List Bool) (x u : List Bool) (s : ℕ → Bool) → length C.latches ≡ 0 → Acyclic C → AreValuations C v → length x ≡ C.inputs → Settles C NoFault (bit x) s u → u ≡ v x
only C v x u s none acyclic vals sized settles =
    let one = one_valuation C NoFault (bit x) (λ l. false) acyclic in
    one.only u (stateless C (bit x) s (λ l. false) u none settles) ∙ sym (one.only (v x) (vals.settles x sized))

module _ (S : Circuit) (vs : List Bool → List Bool) (N : Circuit) (v : List Bool → List Bool) (P : CodePlan) (source : length S.latches ≡ 0) (latches : length N.latches ≡ 0)
    (inputs : S.inputs ≡ N.inputs) (outputs : P.outputs ≡ length S.outputs) (plan : IsPlanOf N P) (made : IsWellMade P) (acyclic_source : Acyclic S) (acyclic : Acyclic N)
    (vals_source : AreValuations S vs) (vals : AreValuations N v) where
  no_state : (P.latches == 0) ≡ true
  no_state = let same = plan.latches in same_true 0 P.latches (omega (arith, same, latches))

  step : (x : List Bool) → length x ≡ N.inputs → IsStepAt N P 0 x (v x)
  step x sized = record {
    word = [];
    is_state = ap (λ (b : Bool). cond b (Some []) (slice_get P.states 0)) no_state;
    sized = sized;
    settles = stateless N (bit x) (λ l. false) (bit []) (v x) latches (vals.settles x sized);
  }

  step_is : (x u : List Bool) → IsStepAt N P 0 x u → u ≡ v x
  step_is x u at = only N v x u (bit at.word) latches acyclic vals at.sized at.settles

  -- ---- the word

  signal_is : (x : List Bool) (s : Signal) → signal_function (word_functions N v P) s x ≡ value (word N P (v x)) s
  signal_is x s = ap (λ (w : List Bool). value w s) (values_of_nets v x (monitored N P))

  is_word : (x : List Bool) → IsWordOf P (word N P (v x))
  is_word x = let same = plan.latches in let many = monitored_count N P plan in let count = length-map (monitored N P) (bit (v x)) in omega (arith, same, many, count)

  codeword_at : (x : List Bool) → rails_differ N v P x ≡ true → IsCodeword P (word N P (v x))
  codeword_at x differ = (rails_decide P (word N P (v x)) made (is_word x)).0 (λ e. differ_true _ _ differ (signal_is x (rail1 P) ∙ (e ∙ sym (signal_is x (rail2 P)))))

  no_codeword_at : (x : List Bool) → rails_differ N v P x ≡ false → IsCodeword P (word N P (v x)) → ⊥
  no_codeword_at x agree code =
      (rails_decide P (word N P (v x)) made (is_word x)).1 code (sym (signal_is x (rail1 P)) ∙ (differ_false _ _ agree ∙ signal_is x (rail2 P)))

  breaks_word : (x : List Bool) → length x ≡ N.inputs → rails_differ N v P x ≡ false → BreaksWord N P 0 x
  breaks_word x sized agree = record { valuation = v x; step = step x sized; wrong = no_codeword_at x agree }

  word_broken : (x : List Bool) → BreaksWord N P 0 x → rails_differ N v P x ≡ false
  word_broken x breaks = ⊎_elim
      (λ t. absurd (breaks.wrong (subst (λ (u : List Bool). IsCodeword P (word N P u)) (sym (step_is x breaks.valuation breaks.step)) (codeword_at x t))))
      (λ f. f)
      (cases_Bool (rails_differ N v P x))

  -- ---- an output

  source_bit : (x : List Bool) (place : ℕ) → place < P.outputs → pin_function (map (net_function vs) S.outputs) place x ≡ bit (map (bit (vs x)) S.outputs) place
  source_bit x place below =
      let here : place < length S.outputs = omega (arith, outputs, below) in
      ap (λ (f : Function). f x) (get_or-map (net_function vs) S.outputs place 0 no_input here) ∙ sym (get_or-map (bit (vs x)) S.outputs place 0 false here)

  net_bit : (x : List Bool) (place : ℕ) → place < P.outputs → pin_function (word_functions N v P) place x ≡ bit (outputs_in N P (v x)) place
  net_bit x place below =
      let shown = plan.outputs in
      let own : length (take P.outputs N.outputs) ≡ P.outputs = length-take-le P.outputs N.outputs (omega (arith, shown)) in
      let many = monitored_count N P plan in
      let here : place < length (monitored N P) = omega (arith, many, below) in
      let first : place < length (take P.outputs N.outputs) = omega (arith, own, below) in
      ap (λ (f : Function). f x) (get_or-map (net_function v) (monitored N P) place 0 no_input here)
      ∙ (ap (bit (v x)) (in_front (take P.outputs N.outputs) P.checks (next_nets N) place first) ∙ sym (get_or-map (bit (v x)) (take P.outputs N.outputs) place 0 false first))
    where
      in_front : (xs ys zs : List ℕ) (k : ℕ) → k < length xs → slice_index ((xs ++ ys) ++ zs) k ≡ slice_index xs k
      in_front xs ys zs k inside = grind (arith, common_steps)

  same_bit : (x : List Bool) (place : ℕ) → place < P.outputs → output_differs S vs N v P place x ≡ false → bit (map (bit (vs x)) S.outputs) place ≡ bit (outputs_in N P (v x)) place
  same_bit x place below same = sym (source_bit x place below) ∙ (differ_false _ _ same ∙ net_bit x place below)

  breaks_output : (x : List Bool) (place : ℕ) → length x ≡ N.inputs → place < P.outputs → output_differs S vs N v P place x ≡ true → BreaksOutput (Network S) N P 0 x place
  breaks_output x place sized below differ = record { valuation = v x; step = step x sized; is_output = below; wrong = wrong }
    where
      wrong : NetworkHas S x place (bit (outputs_in N P (v x)) place) → ⊥
      wrong has =
          let same = only S vs x has.valuation (λ l. false) source acyclic_source vals_source (sized ∙ sym inputs) has.settles in
          differ_true _ _ differ
          (source_bit x place below ∙ (sym (ap (λ (u : List Bool). bit (map (bit u) S.outputs) place) same) ∙ (has.has ∙ sym (net_bit x place below))))

  output_broken : (x : List Bool) (place : ℕ) → BreaksOutput (Network S) N P 0 x place → output_differs S vs N v P place x ≡ true
  output_broken x place breaks = ⊎_elim
      (λ t. t)
      (λ f. absurd (breaks.wrong (record {
        valuation = vs x;
        settles = vals_source.settles x (breaks.step.sized ∙ sym inputs);
        has = same_bit x place breaks.is_output f ∙ sym (ap (λ (u : List Bool). bit (outputs_in N P u) place) (step_is x breaks.valuation breaks.step));
      })))
      (cases_Bool (output_differs S vs N v P place x))

  abbrev Wrong : List Bool → Type 0
  Wrong x = IsWrongAt (rails_differ N v P) (output_differs S vs N v P) P.outputs x

  shown_wrong : (x : List Bool) → BreaksShown (Network S) N P 0 x → Wrong x
  shown_wrong x (inl breaks) = inl (word_broken x breaks)
  shown_wrong x (inr (place, breaks)) = inr (place, breaks.is_output, output_broken x place breaks)

  shown_sized : (q : ℕ) (x : List Bool) → BreaksShown (Network S) N P q x → length x ≡ N.inputs
  shown_sized q x (inl breaks) = breaks.step.sized
  shown_sized q x (inr (place, breaks)) = breaks.step.sized

  -- ---- the answer

  starts : Starts (Network S) N P
  starts = without_latches P (init_state N) no_state

  arrive : AllArrive (Network S) N P
  arrive r y breaks = breaks.wrong (record { next = 0; arrives = without_latches P (next_in N breaks.valuation) no_state; allowed = refl })

  none_before : (x : List Bool) → length x ≡ N.inputs → ((y : List Bool) → length y ≡ N.inputs → Wrong y → IsUpTo x y) → NoneBefore (BreaksShown (Network S) N P) 0 x
  none_before x sized first r y (inl before) breaks = absurd (omega arith)
  none_before x sized first r y (inr before) breaks =
      let at = subst (λ (q : ℕ). BreaksShown (Network S) N P q y) before.0 breaks in
      let long = shown_sized 0 y at in
      let up = UpTo-binary x y (sized ∙ sym long) (first y long (shown_wrong y at)) in
      let less : binary y < binary x = before.1 in
      absurd (omega arith)

  small : (x : List Bool) → length x ≡ N.inputs → binary x < 2 ^ N.inputs
  small x sized = subst (λ (n : ℕ). binary x < 2 ^ n) sized (binary-lt x)

  back : (x : List Bool) → length x ≡ N.inputs → bits_of N.inputs (binary x) ≡ x
  back x sized = subst (λ (n : ℕ). bits_of n (binary x) ≡ x) sized (bits_of-binary x)

  pub point_answers : (x : List Bool) (output : Option ℕ) → IsFirstPoint N.inputs (rails_differ N v P) (output_differs S vs N v P) P.outputs x output →
      IsBehaviourAnswer (Network S) N P (Some (reason_at (binary x) output))
  point_answers x None point =
      let before = none_before x point.sized point.first in (
        starts,
        small x point.sized,
        arrive,
        subst (BreaksWord N P 0) (sym (back x point.sized)) (breaks_word x point.sized point.here),
        subst (NoneBefore (BreaksShown (Network S) N P) 0) (sym (back x point.sized)) before,
      )
  point_answers x (Some place) point =
      let before = none_before x point.sized point.first in
      let here = point.here in (
        starts,
        small x point.sized,
        arrive,
        (λ breaks. false≢true (sym (word_broken x (subst (BreaksWord N P 0) (back x point.sized) breaks)) ∙ here.0)),
        subst (λ (y : List Bool). BreaksOutput (Network S) N P 0 y place) (sym (back x point.sized)) (breaks_output x place point.sized here.1 here.2),
        subst (NoneBefore (BreaksShown (Network S) N P) 0) (sym (back x point.sized)) before,
        (λ other below breaks. false≢true (sym (here.3 other below) ∙ output_broken x other (subst (λ (y : List Bool). BreaksOutput (Network S) N P 0 y other) (back x point.sized) breaks))),
      )

  -- ---- where nothing is wrong

  module _ (right : (x : List Bool) → length x ≡ N.inputs → Wrong x → ⊥) where
    word_there : (y : List Bool) → length y ≡ N.inputs → IsCodeword P (word N P (v y))
    word_there y sized = ⊎_elim (λ t. codeword_at y t) (λ f. absurd (right y sized (inl f))) (cases_Bool (rails_differ N v P y))

    bit_there : (y : List Bool) (place : ℕ) → length y ≡ N.inputs → place < P.outputs → bit (map (bit (vs y)) S.outputs) place ≡ bit (outputs_in N P (v y)) place
    bit_there y place sized below = ⊎_elim (λ t. absurd (right y sized (inr (place, below, t)))) (λ f. same_bit y place below f) (cases_Bool (output_differs S vs N v P place y))

    -- an input list of any length, cut or filled
    abbrev cut : List Bool → List Bool
    cut x = clip N.inputs x

    settles_cut : (s x u : List Bool) → Settles N NoFault (bit x) (bit s) u → u ≡ v (cut x)
    settles_cut s x u settles =
        only N v (cut x) u (bit s) latches acyclic vals (length-clip N.inputs x)
        (settles_alike N (bit x) (bit (cut x)) (bit s) (bit s) u (λ k below. sym (bit-clip N.inputs x k below)) (λ l below. refl) settles)

    outputs_there : (x : List Bool) → map (bit (vs (cut x))) S.outputs ≡ outputs_in N P (v (cut x))
    outputs_there x =
        let shown = plan.outputs in
        let own : length (outputs_in N P (v (cut x))) ≡ P.outputs = length-map (take P.outputs N.outputs) (bit (v (cut x))) ∙ length-take-le P.outputs N.outputs (omega (arith, shown)) in
        let count : length (map (bit (vs (cut x))) S.outputs) ≡ length S.outputs = length-map S.outputs (bit (vs (cut x))) in
        same_items (map (bit (vs (cut x))) S.outputs) (outputs_in N P (v (cut x))) (omega (arith, own, count, outputs))
        (λ k inside. bit_there (cut x) k (length-clip N.inputs x) (omega (arith, count, outputs, inside)))

    answers : (x : List Bool) → NetworkAnswers S x (outputs_in N P (v (cut x)))
    answers x = record {
      valuation = vs (cut x);
      settles = settles_alike S (bit (cut x)) (bit x) (λ l. false) (λ l. false) (vs (cut x)) (λ k below. bit-clip N.inputs x k (omega (arith, inputs, below))) (λ l below. refl)
          (vals_source.settles (cut x) (length-clip N.inputs x ∙ sym inputs));
      answers = outputs_there x;
    }

    pub follows : FollowsSource (Network S) N P
    follows = record {
      starts = starts;
      steps = λ q s x u is settles. record {
        here = q;
        next = 0;
        traced = is;
        arrives = without_latches P (next_in N u) no_state;
        outputs = subst (λ (w : List Bool). NetworkAnswers S x (outputs_in N P w)) (sym (settles_cut s x u settles)) (answers x);
        next_allowed = refl;
      };
      codewords = λ q s x u is settles. subst (λ (w : List Bool). IsCodeword P (word N P w)) (sym (settles_cut s x u settles)) (word_there (cut x) (length-clip N.inputs x));
    }
