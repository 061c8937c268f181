-- Where the question has a model, something is wrong at an input. So it has none exactly where nothing is.
use Rattle.std.proofs.Common.{◌≡◌, ℕ, zero, suc, ◌+◌, ◌<◌, ◌≤◌, ◌==◌, Bool, true, false, not, ◌||◌, if◌then◌else◌, List, [], ◌∷◌, ◌++◌, map, take, length, position, slice_get, slice_index_or, Some, None, All, IsTrue, refl, sym, ap, ap₂, subst, ◌∙◌, inl, inr, arith, get_or-take, length-take-le, take_all}
use Rattle.std.specs.List.{list_any}
use Rattle.std.proofs.lemmas.Bool.{or_from, false≢true, cases_lt}
use Rattle.std.proofs.lemmas.List.{get_or-map, length-map}
use Rattle.std.proofs.lemmas.List.Elements.{All-head, All-tail, All-get_or, All-take}
use Rattle.std.proofs.lemmas.List.Folds.{list_any-append}
use Rattle.tsc_bits.specs.Counting.{differ, odd}
use Rattle.tsc_bits.proofs.Bools.{differ-false}
use Rattle.tsc_bits.proofs.Lists.{all_left, all_right}
use Rattle.fault_secure.specs.Circuit.{Circuit, nets, bit}
use Rattle.fault_secure.specs.StuckAt.{NoFault}
use Rattle.fault_secure.specs.Settle.{Settles}
use Rattle.fault_secure.specs.CodePlan.{CodePlan, HasGroups, HasShape, IsChecked, RailsAgree, monitored, next_nets, word, bits_at, members}
use Rattle.fault_secure.specs.FailingCell.{SettlesBut}
use Rattle.fault_secure.specs.Exposing.{word_of_state}
use Rattle.fault_secure.specs.FaultSecure.{equal_bits, outputs_in, state_at, StepFollows}
use Rattle.fault_secure.specs.Logic.{Network}
use Rattle.fault_secure.specs.Behaviour.{FollowsSource}
use Rattle.fault_secure.proofs.ByRank.{length_tabulate}
use Rattle.fault_secure.proofs.OneRun.{settles_once}
use Rattle.fault_secure.proofs.PlanSizes.{monitored_count, monitored_within}
use Rattle.point_laws.specs.Heard.{shown_bits, IsHeardAtPoints}
use Rattle.refutations.specs.Clauses.{same, HaveNoModel}
use Rattle.exact_question.specs.Variables.{Source, Right, Failing, Variable, Input, OutputDiffers, Odd, RailsDiffer, Unheard, spread}
use Rattle.exact_question.specs.Gates.{Claim, yes, no, negated, holds, some_holds, xor_clauses}
use Rattle.exact_question.specs.Question.{of_net, differs_at, output_clauses, word_claim, odd_claim, group_clauses, group_is_even, circuit_clauses, wrong, variables, question}
use Rattle.exact_question.specs.Laws.{IsAsked, QuestionDecides}
use Rattle.exact_question.proofs.Gates.{negated_holds, same_true, same_false}
use Rattle.exact_question.proofs.Back.{AreTrue, All-at_spread, xor_back, given, model_given}
use Rattle.exact_question.proofs.NoModel as exact
use Rattle.exact_question.proofs.Rest.{odd_more, members_within}
use Rattle.exact_question.proofs.Valuations.{x, w, v, u, source_bit, right_bit, failing_bit, source_settles, right_settles, failing_cell, none_differs_back, inputs_alike, unheard_true, wrong_rails_true, rails_true, groups_true, outputs_true}

differ_same : (a b : Bool) → a ≡ b → differ a b ≡ false
differ_same true true e = refl
differ_same true false e = absurd (false≢true (sym e))
differ_same false true e = absurd (false≢true e)
differ_same false false e = refl

differ_true : (a b : Bool) → (a ≡ b → ⊥) → differ a b ≡ true
differ_true true true off = absurd (off refl)
differ_true true false off = refl
differ_true false true off = refl
differ_true false false off = absurd (off refl)

both_or : (b : Bool) → (b ≡ true → ⊥) → b ≡ false
both_or true no = absurd (no refl)
both_or false no = refl

-- where nothing holds at any item, nothing holds of the spread list
spread_none : {A : Type 0} (m : Variable → Bool) (f : ℕ → A → List Claim) (items : List A) (d : A)
    → ((k : ℕ) → k < length items → some_holds m (f k (slice_index_or items k d)) ≡ false) → some_holds m (spread f items) ≡ false
spread_none m f [] d each = refl
spread_none m f (a ∷ as_) d each =
    list_any-append (holds m) (f 0 a) (spread (λ i. f (suc i)) as_)
    ∙ or_from (some_holds m (f 0 a)) (some_holds m (spread (λ i. f (suc i)) as_)) (each 0 (omega arith))
    (spread_none m (λ i. f (suc i)) as_ d (λ k inside. each (suc k) (omega arith)))

-- the same bits differ nowhere
same_none : (v u : List Bool) (nets : List ℕ) → map (bit u) nets ≡ map (bit v) nets → list_any (λ net. differ (bit v net) (bit u net)) nets ≡ false
same_none v u [] e = refl
same_none v u (net ∷ nets) e =
    or_from (differ (bit v net) (bit u net)) (list_any (λ net. differ (bit v net) (bit u net)) nets)
    (differ_same (bit v net) (bit u net) (sym (ap (λ bits. bit bits 0) e))) (same_none v u nets (ap tail e))
  where
    tail : List Bool → List Bool
    tail [] = []
    tail (b ∷ bits) = bits

left_same : {X : Type 0} (as_ bs cs ds : List X) → length as_ ≡ length bs → as_ ++ cs ≡ bs ++ ds → as_ ≡ bs
left_same as_ bs cs ds sized e =
    sym (take_front as_ cs) ∙ ap₂ (λ n xs. take n xs) sized e ∙ take_front bs ds
  where
    take_front : {X : Type 0} (xs ys : List X) → take (length xs) (xs ++ ys) ≡ xs
    take_front [] ys = refl
    take_front (x ∷ xs) ys = ap (λ l. x ∷ l) (take_front xs ys)

map_join : {X Y : Type 0} (f : X → Y) (xs ys : List X) → map f (xs ++ ys) ≡ map f xs ++ map f ys
map_join f [] ys = refl
map_join f (x ∷ xs) ys = ap (λ l. f x ∷ l) (map_join f xs ys)

if_unheard : (h r o : Bool) → h ≡ true → (same h false || (r || false)) ≡ true → (same h false || o) ≡ true → (r ≡ true) × (o ≡ true)
if_unheard true true o is e1 e2 = (refl, e2)
if_unheard true false o is e1 e2 = absurd (false≢true e1)
if_unheard false r o is e1 e2 = absurd (false≢true is)

module _ (C N : Circuit) (P : CodePlan) (asked : IsAsked C N P) (follows : FollowsSource (Network C) N P) (heard : IsHeardAtPoints N P)
    (m : Variable → Bool) (all : AreTrue m (circuit_clauses C N P)) where
  abbrev input : List Bool
  input = x C N P asked m all

  abbrev right : List Bool
  right = v C N P asked m all

  abbrev failing : List Bool
  failing = u C N P asked m all

  abbrev of_source : List Bool
  of_source = w C N P asked m all

  groups : HasGroups P
  groups = subst (λ code. HasShape code P) asked.parity asked.well_made.shape

  no_latch : P.latches ≡ 0
  no_latch = asked.plan_of.latches ∙ asked.latches

  traced : state_at P [] ≡ Some 0
  traced = ap (λ n. if n == 0 then Some 0 else position (equal_bits []) P.states) no_latch

  settled : Settles N NoFault (bit input) (bit []) right
  settled = right_settles C N P asked m all (bit [])

  -- ---- outputs

  step : StepFollows (Network C) N P [] input right
  step = follows.steps 0 [] input right traced settled

  answered : map (bit of_source) C.outputs ≡ outputs_in N P right
  answered =
      ap (λ bits. map (bit bits) C.outputs)
      (settles_once C NoFault (bit input) (λ _. false) asked.source_acyclic of_source step.outputs.valuation (source_settles C N P asked m all (λ _. false)) step.outputs.settles)
      ∙ step.outputs.answers

  shown : length (take P.outputs N.outputs) ≡ P.outputs
  shown = length-take-le P.outputs N.outputs (omega (arith, asked.plan_of.outputs))

  output_same : (k : ℕ) → k < length C.outputs → bit of_source (slice_index_or C.outputs k 0) ≡ bit right (slice_index_or N.outputs k 0)
  output_same k inside =
      sym (get_or-map (bit of_source) C.outputs k 0 false inside) ∙ ap (λ bits. slice_index_or bits k false) answered
      ∙ get_or-map (bit right) (take P.outputs N.outputs) k 0 false (omega (arith, shown, asked.outputs))
      ∙ ap (bit right) (get_or-take P.outputs N.outputs k 0 (omega (arith, asked.outputs)))

  right_holds : (net : ℕ) → net < nets N → holds m (yes (of_net Right N.inputs net)) ≡ bit right net
  right_holds net inside = same_true (m (of_net Right N.inputs net)) ∙ right_bit C N P asked m all net inside

  no_output : (k : ℕ) → k < length C.outputs → some_holds m (yes (OutputDiffers k) ∷ []) ≡ false
  no_output k inside =
      let ours = slice_index_or C.outputs k 0 in let its = slice_index_or N.outputs k 0 in
      or_from (holds m (yes (OutputDiffers k))) false
      (same_true (m (OutputDiffers k))
      ∙ xor_back m (OutputDiffers k) (yes (of_net Source C.inputs ours)) (yes (of_net Right N.inputs its))
      (All-at_spread (λ c. some_holds m c ≡ true) (output_clauses C N) C.outputs 0 k inside (outputs_true C N P m all))
      ∙ ap₂ differ
      (same_true (m (of_net Source C.inputs ours)) ∙ source_bit C N P asked m all ours (All-get_or (λ net. net < nets C) C.outputs k 0 inside asked.source_closed.outputs))
      (right_holds its (All-get_or (λ net. net < nets N) N.outputs k 0 (omega (arith, asked.outputs, asked.plan_of.outputs)) asked.closed.outputs))
      ∙ differ_same (bit of_source ours) (bit right its) (output_same k inside)) refl

  -- ---- the word

  abbrev IsPlace : ℕ → Type 0
  IsPlace place = place < P.outputs + length P.checks

  places_within : All (All IsPlace) (members P)
  places_within =
      members_within (P.outputs + length P.checks) P.outputs P.groups (omega (arith, groups.paired))
      (λ k d below. let inside = groups.within k d below in omega arith)

  word_holds : (place : ℕ) → IsPlace place → holds m (word_claim N P place) ≡ bit (word N P right) place
  word_holds place inside =
      right_holds (slice_index_or (monitored N P) place 0)
      (All-get_or (λ net. net < nets N) (monitored N P) place 0 (omega (arith, monitored_count N P asked.plan_of)) (monitored_within N P asked.closed asked.plan_of))
      ∙ sym (get_or-map (bit right) (monitored N P) place 0 false (omega (arith, monitored_count N P asked.plan_of)))

  checked : IsChecked P.code P (word N P right)
  checked = (follows.codewords 0 [] input right traced settled).checked

  odd_groups : All (λ group. IsTrue (odd (bits_at (word N P right) group))) (members P)
  odd_groups = subst (λ code. IsChecked code P (word N P right)) asked.parity checked

  module _ (g first : ℕ) (places : List ℕ) (within : All IsPlace (first ∷ places))
      (chain : AreTrue m (group_clauses N P g (first ∷ places))) where
    abbrev bits : List Bool
    bits = bits_at (word N P right) (first ∷ places)

    sized : length bits ≡ suc (length places)
    sized = length-map (first ∷ places) (bit (word N P right))

    odd_back : (k : ℕ) → k ≤ length places → holds m (odd_claim N P g first k) ≡ odd (take (suc k) bits)
    odd_back zero below = word_holds first (All-head IsPlace first places within) ∙ sym (differ-false (bit (word N P right) first))
    odd_back (suc k) below =
        let place = slice_index_or places k 0 in
        same_true (m (Odd g k))
        ∙ xor_back m (Odd g k) (odd_claim N P g first k) (word_claim N P place)
        (All-at_spread (λ c. some_holds m c ≡ true) (λ i place. xor_clauses (Odd g i) (odd_claim N P g first i) (word_claim N P place)) places 0 k (omega arith) chain)
        ∙ ap₂ differ (odd_back k (omega arith))
        (word_holds place (All-get_or IsPlace places k 0 (omega arith) (All-tail IsPlace first places within)) ∙ sym (get_or-map (bit (word N P right)) places k 0 false (omega arith)))
        ∙ sym (odd_more bits (suc k) (omega (arith, sized)))

    not_even : odd bits ≡ true → some_holds m (group_is_even N P g (first ∷ places)) ≡ false
    not_even is =
        or_from (holds m (negated (odd_claim N P g first (length places)))) false
        (negated_holds [] m (odd_claim N P g first (length places))
        ∙ ap not (odd_back (length places) (omega arith) ∙ ap odd (take_all (suc (length places)) bits (omega (arith, sized))) ∙ is)) refl

  no_even : (g : ℕ) (group : List ℕ) → All IsPlace group → AreTrue m (group_clauses N P g group) → odd (bits_at (word N P right) group) ≡ true
      → some_holds m (group_is_even N P g group) ≡ false
  no_even g [] within chain is = refl
  no_even g (first ∷ places) within chain is = not_even g first places within chain is

  -- ---- rails

  quiet : RailsAgree P right → ⊥
  quiet agree = heard.quiet 0 input (record {
    valuation = right;
    step = record { word = []; is_state = is_state; sized = length_tabulate N.inputs 0 (λ i. m (Input i)); settles = settled };
    rails_agree = agree;
  })
    where
      is_state : word_of_state P 0 ≡ Some []
      is_state = ap (λ (n : ℕ). if n == 0 then (if 0 == 0 then Some [] else None) else slice_get P.states 0) no_latch

  rails_differ : holds m (no (RailsDiffer Right)) ≡ false
  rails_differ =
      same_false (m (RailsDiffer Right))
      ∙ ap not (xor_back m (RailsDiffer Right) (yes (of_net Right N.inputs P.rail1)) (yes (of_net Right N.inputs P.rail2)) (rails_true C N P m all)
      ∙ ap₂ differ (right_holds P.rail1 asked.plan_of.rails.0) (right_holds P.rail2 asked.plan_of.rails.1) ∙ differ_true (bit right P.rail1) (bit right P.rail2) quiet)

  -- ---- the unheard

  abbrev output_nets : List ℕ
  output_nets = take P.outputs N.outputs

  output_within : All (λ net. net < nets N) output_nets
  output_within = All-take (λ net. net < nets N) P.outputs N.outputs asked.closed.outputs

  wrong_rails : m (RailsDiffer Failing) ≡ differ (bit failing P.rail1) (bit failing P.rail2)
  wrong_rails =
      xor_back m (RailsDiffer Failing) (yes (of_net Failing N.inputs P.rail1)) (yes (of_net Failing N.inputs P.rail2)) (wrong_rails_true C N P m all)
      ∙ ap₂ differ
      (same_true (m (of_net Failing N.inputs P.rail1)) ∙ failing_bit C N P asked m all P.rail1 asked.plan_of.rails.0)
      (same_true (m (of_net Failing N.inputs P.rail2)) ∙ failing_bit C N P asked m all P.rail2 asked.plan_of.rails.1)

  -- where the rails of the failing copy differ, its outputs are the right ones
  none_unheard : m (RailsDiffer Failing) ≡ true → list_any (λ net. differ (bit right net) (bit failing net)) output_nets ≡ false
  none_unheard rails = elim (cases_lt 0 (length N.nodes)) [
    | inr few ↦ inputs_alike C N P asked m all (omega arith) output_nets output_within
    | inl some ↦ by (list_any (λ net. differ (bit right net) (bit failing net)) output_nets) refl (failing_cell C N P asked m all some)
  ]
    where
      is_state : word_of_state P 0 ≡ Some []
      is_state = ap (λ (n : ℕ). if n == 0 then (if 0 == 0 then Some [] else None) else slice_get P.states 0) no_latch

      apart : RailsAgree P failing → ⊥
      apart agree = false≢true (sym (differ_same (bit failing P.rail1) (bit failing P.rail2) agree) ∙ sym wrong_rails ∙ rails)

      outputs_alike : shown_bits N P failing ≡ shown_bits N P right → list_any (λ net. differ (bit right net) (bit failing net)) output_nets ≡ false
      outputs_alike e =
          same_none right failing output_nets
          (left_same (map (bit failing) output_nets) (map (bit right) output_nets) (map (bit failing) (next_nets N)) (map (bit right) (next_nets N))
          (length-map output_nets (bit failing) ∙ sym (length-map output_nets (bit right)))
          (sym (map_join (bit failing) output_nets (next_nets N)) ∙ e ∙ map_join (bit right) output_nets (next_nets N)))

      by : (b : Bool) → list_any (λ net. differ (bit right net) (bit failing net)) output_nets ≡ b
          → ((cell : ℕ) × (N.inputs ≤ cell) × (cell < nets N) × ((t : ℕ → Bool) → SettlesBut N cell (bit input) t failing)) → b ≡ false
      by false is found = refl
      by true is found = absurd (heard.heard found.0 0 input (record { no_input = found.1; inside = found.2 }) (record {
        right = right;
        wrong = failing;
        step = record { word = []; is_state = is_state; sized = length_tabulate N.inputs 0 (λ i. m (Input i)); settles = settled };
        failing = record { word = []; is_state = is_state; sized = length_tabulate N.inputs 0 (λ i. m (Input i)); settles = found.3 (bit []) };
        unheard = record { differ = λ e. false≢true (sym (outputs_alike e) ∙ is); rails_differ = apart };
      }))

  no_unheard : holds m (yes Unheard) ≡ false
  no_unheard = same_true (m Unheard) ∙ both_or (m Unheard) (λ is.
      let both = if_unheard (m Unheard) (holds m (yes (RailsDiffer Failing))) (some_holds m (differs_at N.inputs output_nets)) is
      (unheard_true C N P m all 0 [] (omega arith)) (unheard_true C N P m all 1 [] (omega arith)) in
      false≢true (sym (none_differs_back C N P asked m all output_nets output_within (none_unheard (sym (same_true (m (RailsDiffer Failing))) ∙ both.0))) ∙ both.1))

  -- ---- the last clause

  -- nothing is wrong
  pub none_wrong : some_holds m (wrong C N P) ≡ false
  none_wrong =
      let places : List Claim = spread (λ place net. yes (OutputDiffers place) ∷ []) C.outputs in
      let even : List Claim = spread (group_is_even N P) (members P) in
      let last : List Claim = no (RailsDiffer Right) ∷ yes Unheard ∷ [] in
      list_any-append (holds m) (places ++ even) last
      ∙ or_from (some_holds m (places ++ even)) (some_holds m last)
      (list_any-append (holds m) places even
      ∙ or_from (some_holds m places) (some_holds m even)
      (spread_none m (λ place net. yes (OutputDiffers place) ∷ []) C.outputs 0 no_output)
      (spread_none m (group_is_even N P) (members P) [] (λ g inside.
      no_even g (slice_index_or (members P) g []) (All-get_or (All IsPlace) (members P) g [] inside places_within)
      (All-at_spread (λ c. some_holds m c ≡ true) (group_clauses N P) (members P) [] g inside (groups_true C N P m all)) (odd_groups g [] inside))))
      (or_from (holds m (no (RailsDiffer Right))) (holds m (yes Unheard) || false) rails_differ (or_from (holds m (yes Unheard)) false no_unheard refl))

-- where the netlist follows its source and is heard at its points, the question has no model
no_model : (C N : Circuit) (P : CodePlan) → IsAsked C N P → FollowsSource (Network C) N P → IsHeardAtPoints N P → HaveNoModel (question C N P)
no_model C N P asked follows heard = λ a model.
    let vs = variables C N P in
    let all = model_given a vs (circuit_clauses C N P ++ wrong C N P ∷ []) model in
    let last = (all_right (λ c. some_holds (given a vs) c ≡ true) (circuit_clauses C N P) (wrong C N P ∷ []) all) 0 [] (omega arith) in
    false≢true (sym (none_wrong C N P asked follows heard (given a vs) (all_left (λ c. some_holds (given a vs) c ≡ true) (circuit_clauses C N P) (wrong C N P ∷ []) all)) ∙ last)

-- and the other way
pub question_decides : QuestionDecides
question_decides C N P asked = (λ none. (exact.follows C N P asked none, exact.heard C N P asked none), λ both. no_model C N P asked both.0 both.1)
