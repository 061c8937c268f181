-- Where the question has no model, at each input nothing is wrong, whichever one cell fails.
use Rattle.std.proofs.Common.{◌≡◌, ℕ, suc, ◌+◌, ◌<◌, ◌==◌, Bool, true, false, not, ◌||◌, if◌then◌else◌, List, [], ◌∷◌, ◌++◌, map, take, drop, length, position, slice_index_or, All, Some, IsTrue, refl, sym, ap, subst, ◌∙◌, inl, inr, arith, length-append, length-drop, append-nil, ext_get_or, get_or-take, length-take-le}
use Rattle.std.specs.List.{list_any}
use Rattle.std.proofs.lemmas.Bool.{or_parts, and_cases, false≢true}
use Rattle.std.proofs.lemmas.List.{get_or-map, length-map, nil_from_length, drop_all}
use Rattle.std.proofs.lemmas.List.Elements.{All-nil, All-cons, All-append, All-get_or, All-from_get_or}
use Rattle.std.proofs.lemmas.List.Folds.{list_any-append}
use Rattle.tsc_bits.specs.Counting.{differ, odd, ones}
use Rattle.fault_secure.specs.declared.code.Code.TheVariants.{Parity}
use Rattle.fault_secure.specs.Circuit.{Circuit, LatchOf, bit}
use Rattle.fault_secure.specs.StuckAt.{NoFault}
use Rattle.fault_secure.specs.Settle.{Settles}
use Rattle.fault_secure.specs.CodePlan.{CodePlan, HasGroups, HasShape, IsChecked, IsCodeword, RailsAgree, monitored, next_nets, next_of, word, bits_at, members, members_from}
use Rattle.fault_secure.specs.FailingCell.{SettlesBut}
use Rattle.fault_secure.specs.FaultSecure.{equal_bits, outputs_in, state_at}
use Rattle.fault_secure.specs.Logic.{Network, NetworkAnswers}
use Rattle.fault_secure.specs.Behaviour.{FollowsSource}
use Rattle.fault_secure.proofs.OneRun.{one_valuation}
use Rattle.fault_secure.proofs.PlanSizes.{monitored_count}
use Rattle.structure_laws.proofs.FailingCell.{working}
use Rattle.point_laws.specs.Heard.{shown_bits, IsHeardAtPoints}
use Rattle.point_laws.proofs.Heard.{heard_at_points_is_alarm_secure}
use Rattle.refutations.specs.Clauses.{HaveNoModel}
use Rattle.exact_question.specs.Variables.{Source, Right, Failing, Variable, OutputDiffers, RailsDiffer, Unheard, spread}
use Rattle.exact_question.specs.Gates.{Claim, yes, no, holds, some_holds}
use Rattle.exact_question.specs.Question.{node_clauses, failing_clauses, output_clauses, group_clauses, group_is_even, rails_clauses, unheard_clauses, circuit_clauses, wrong, variables, question}
use Rattle.exact_question.specs.Laws.{IsAsked, NoModelIsAlarmSecure}
use Rattle.exact_question.proofs.Numbers.{All-spread}
use Rattle.exact_question.proofs.Written.{IsGood, assignment, good_is_model}
use Rattle.exact_question.proofs.Gates.{Knows, good_nil, good_cons, good_append, know_one, know_two, same_true, same_false}
use Rattle.exact_question.proofs.Known.{output_known, rails_known, unheard_known}
use Rattle.exact_question.proofs.Meaning.{meaning, none_differs}
use Rattle.exact_question.proofs.Nodes.{AllGood, nodes_good}
use Rattle.exact_question.proofs.Rest.{none_spread, output_good, group_good, group_within, group_is_known, even_holds, right_rails, failing_rails, unheard_good}

not_differ : (a b : Bool) → differ a b ≡ false → a ≡ b
not_differ true true e = refl
not_differ true false e = absurd (false≢true (sym e))
not_differ false true e = absurd (false≢true (sym e))
not_differ false false e = refl

differ_apart : (a b : Bool) → differ a b ≡ true → a ≡ b → ⊥
differ_apart true true e same = false≢true e
differ_apart true false e same = false≢true (sym same)
differ_apart false true e same = false≢true same
differ_apart false false e same = false≢true e

back_true : (b : Bool) → not b ≡ false → b ≡ true
back_true true e = refl
back_true false e = absurd (false≢true (sym e))

-- the members of a group are some
members_some : (check : ℕ) (groups : List (List ℕ)) → All (λ group. 0 < length group) (members_from check groups)
members_some check [] = All-nil (λ (group : List ℕ). 0 < length group)
members_some check (group ∷ groups) =
    All-cons (λ (group : List ℕ). 0 < length group) (group ++ check ∷ []) (members_from (suc check) groups) (omega (arith, length-append group (check ∷ []))) (members_some (suc check) groups)

module _ (C N : Circuit) (P : CodePlan) (asked : IsAsked C N P) (cell : ℕ) (x s t z : ℕ → Bool) (w v u : List Bool)
    (source : Settles C NoFault x z w) (right : Settles N NoFault x s v) (failing : SettlesBut N cell x t u) (none : HaveNoModel (question C N P)) where
  abbrev of_meaning : Variable → Bool
  of_meaning = meaning C N P w v u

  abbrev Known : Claim → Type 0
  Known = Knows (variables C N P) of_meaning

  abbrev Fine : List (List Claim) → Type 0
  Fine clauses = AllGood C N P asked cell x s t z w v u source right failing clauses

  groups : HasGroups P
  groups = subst (λ code. HasShape code P) asked.parity asked.well_made.shape

  -- ---- all clauses but the last

  abbrev of_nodes : List (List Claim)
  of_nodes = spread (node_clauses Source C.inputs) C.nodes ++ spread (node_clauses Right N.inputs) N.nodes ++ spread (failing_clauses N.inputs) N.nodes

  abbrev of_outputs : List (List Claim)
  of_outputs = spread (output_clauses C N) C.outputs

  abbrev of_groups : List (List Claim)
  of_groups = spread (group_clauses N P) (members P)

  outputs_fine : Fine of_outputs
  outputs_fine = All-spread (IsGood (variables C N P) of_meaning) (output_clauses C N) C.outputs 0 (output_good C N P asked groups cell x s t z w v u source right failing)

  groups_fine : Fine of_groups
  groups_fine =
      All-spread (IsGood (variables C N P) of_meaning) (group_clauses N P) (members P) []
      (λ g inside. group_good C N P asked groups cell x s t z w v u source right failing g (slice_index_or (members P) g []) inside refl
      (group_within C N P asked groups cell x s t z w v u source right failing g inside))

  circuit_fine : Fine (circuit_clauses C N P)
  circuit_fine =
      let vs = variables C N P in
      good_append vs of_meaning (of_nodes ++ of_outputs ++ of_groups ++ rails_clauses Right N P ++ rails_clauses Failing N P) (unheard_clauses N P)
      (good_append vs of_meaning (of_nodes ++ of_outputs ++ of_groups ++ rails_clauses Right N P) (rails_clauses Failing N P)
      (good_append vs of_meaning (of_nodes ++ of_outputs ++ of_groups) (rails_clauses Right N P)
      (good_append vs of_meaning (of_nodes ++ of_outputs) of_groups
      (good_append vs of_meaning of_nodes of_outputs (nodes_good C N P asked cell x s t z w v u source right failing) outputs_fine) groups_fine)
      (right_rails C N P asked groups cell x s t z w v u source right failing)) (failing_rails C N P asked groups cell x s t z w v u source right failing))
      (unheard_good C N P asked groups cell x s t z w v u source right failing)

  -- ---- the last clause

  abbrev of_places : List Claim
  of_places = spread (λ place net. yes (OutputDiffers place) ∷ []) C.outputs

  abbrev of_even : List Claim
  of_even = spread (group_is_even N P) (members P)

  abbrev of_last : List Claim
  of_last = no (RailsDiffer Right) ∷ yes Unheard ∷ []

  wrong_known : All Known (wrong C N P)
  wrong_known =
      All-append Known (of_places ++ of_even) of_last
      (All-append Known of_places of_even
      (All-spread Known (λ place net. yes (OutputDiffers place) ∷ []) C.outputs 0 (λ k inside. know_one (variables C N P) of_meaning (yes (OutputDiffers k)) (output_known C N P k inside)))
      (All-spread Known (group_is_even N P) (members P) [] (λ g inside.
      group_is_known C N P asked groups cell x s t z w v u source right failing g (slice_index_or (members P) g []) inside refl
      (group_within C N P asked groups cell x s t z w v u source right failing g inside))))
      (know_two (variables C N P) of_meaning (no (RailsDiffer Right)) (yes Unheard) (rails_known C N P) (unheard_known C N P))

  -- were something wrong, the meaning would be a model
  nothing_wrong : some_holds of_meaning (wrong C N P) ≡ false
  nothing_wrong = by (some_holds of_meaning (wrong C N P)) refl
    where
      by : (b : Bool) → some_holds of_meaning (wrong C N P) ≡ b → b ≡ false
      by false is = refl
      by true is =
          absurd (none (assignment (variables C N P) of_meaning) (good_is_model (variables C N P) of_meaning (circuit_clauses C N P ++ wrong C N P ∷ [])
          (good_append (variables C N P) of_meaning (circuit_clauses C N P) (wrong C N P ∷ []) circuit_fine
          (good_cons (variables C N P) of_meaning (wrong C N P) [] wrong_known is (good_nil (variables C N P) of_meaning)))))

  first_parts : (some_holds of_meaning (of_places ++ of_even) ≡ false) × (some_holds of_meaning of_last ≡ false)
  first_parts = or_parts (some_holds of_meaning (of_places ++ of_even)) (some_holds of_meaning of_last) (sym (list_any-append (holds of_meaning) (of_places ++ of_even) of_last) ∙ nothing_wrong)

  parts : (some_holds of_meaning of_places ≡ false) × (some_holds of_meaning of_even ≡ false)
  parts = or_parts (some_holds of_meaning of_places) (some_holds of_meaning of_even) (sym (list_any-append (holds of_meaning) of_places of_even) ∙ first_parts.0)

  last_parts : (holds of_meaning (no (RailsDiffer Right)) ≡ false) × (holds of_meaning (yes Unheard) || false ≡ false)
  last_parts = or_parts (holds of_meaning (no (RailsDiffer Right))) (holds of_meaning (yes Unheard) || false) first_parts.1

  -- each output is the source's
  output_same : (k : ℕ) → k < length C.outputs → bit w (slice_index_or C.outputs k 0) ≡ bit v (slice_index_or N.outputs k 0)
  output_same k inside =
      let claim = (or_parts (holds of_meaning (yes (OutputDiffers k))) false (none_spread of_meaning (λ place net. yes (OutputDiffers place) ∷ []) C.outputs 0 k parts.0 inside)).0 in
      not_differ (bit w (slice_index_or C.outputs k 0)) (bit v (slice_index_or N.outputs k 0)) (sym (same_true (of_meaning (OutputDiffers k))) ∙ claim)

  pub outputs_same : map (bit w) C.outputs ≡ outputs_in N P v
  outputs_same =
      ext_get_or false (map (bit w) C.outputs) (outputs_in N P v)
      (length-map C.outputs (bit w) ∙ sym asked.outputs ∙ sym shown ∙ sym (length-map (take P.outputs N.outputs) (bit v)))
      (λ k below. at k (omega (arith, length-map C.outputs (bit w))))
    where
      shown : length (take P.outputs N.outputs) ≡ P.outputs
      shown = length-take-le P.outputs N.outputs (omega (arith, asked.plan_of.outputs))

      at : (k : ℕ) → k < length C.outputs → slice_index_or (map (bit w) C.outputs) k false ≡ slice_index_or (outputs_in N P v) k false
      at k inside =
          get_or-map (bit w) C.outputs k 0 false inside ∙ output_same k inside
          ∙ ap (bit v) (sym (get_or-take P.outputs N.outputs k 0 (omega (arith, asked.outputs))))
          ∙ sym (get_or-map (bit v) (take P.outputs N.outputs) k 0 false (omega (arith, shown, asked.outputs)))

  -- each group is odd
  group_odd : (g : ℕ) (group : List ℕ) → g < length (members P) → slice_index_or (members P) g [] ≡ group → 0 < length group
      → some_holds of_meaning (group_is_even N P g group) ≡ false → odd (bits_at (word N P v) group) ≡ true
  group_odd g [] inside is some even = absurd (omega arith)
  group_odd g (first ∷ places) inside is some even =
      even_holds C N P asked groups cell x s t z w v u source right failing g first places inside is
      (subst (All (λ place. place < P.outputs + length P.checks)) is (group_within C N P asked groups cell x s t z w v u source right failing g inside)) even

  groups_odd : IsChecked Parity P (word N P v)
  groups_odd = All-from_get_or (λ group. IsTrue (odd (bits_at (word N P v) group))) (members P) [] (λ g inside.
      group_odd g (slice_index_or (members P) g []) inside refl (All-get_or (λ (group : List ℕ). 0 < length group) (members P) g [] inside (members_some P.outputs P.groups))
      (none_spread of_meaning (group_is_even N P) (members P) [] g parts.1 inside))

  -- the word is a codeword
  pub is_codeword : IsCodeword P (word N P v)
  is_codeword = record { checked = subst (λ code. IsChecked code P (word N P v)) (sym asked.parity) groups_odd; weighed = ap ones none_next ∙ sym (asked.well_made.states.none no_latch).1 }
    where
      no_latch : P.latches ≡ 0
      no_latch = asked.plan_of.latches ∙ asked.latches

      sized : length (word N P v) ≡ P.outputs + length P.checks
      sized = omega (arith, length-map (monitored N P) (bit v), monitored_count N P asked.plan_of, asked.latches)

      none_next : next_of P (word N P v) ≡ []
      none_next = drop_all (length P.checks) (drop P.outputs (word N P v)) (omega (arith, sized, length-drop P.outputs (word N P v)))

  -- the rails differ
  pub rails_differ : RailsAgree P v → ⊥
  rails_differ = differ_apart (bit v P.rail1) (bit v P.rail2) (back_true (differ (bit v P.rail1) (bit v P.rail2)) (sym (same_false (of_meaning (RailsDiffer Right))) ∙ last_parts.0))

  -- a failing cell is heard: where its rails differ, all outputs are the right ones
  pub is_heard : (RailsAgree P u → ⊥) → shown_bits N P u ≡ shown_bits N P v
  is_heard apart = elim (and_cases (differ (bit u P.rail1) (bit u P.rail2)) (list_any (λ net. differ (bit v net) (bit u net)) (take P.outputs N.outputs)) none_unheard) [
    | inl agree ↦ absurd (apart (not_differ (bit u P.rail1) (bit u P.rail2) agree))
    | inr same ↦
        ap (map (bit u)) shown ∙ sym (none_differs C N P asked cell x s t z w v u source right failing (take P.outputs N.outputs) same) ∙ sym (ap (map (bit v)) shown)
  ]
    where
      none_unheard : of_meaning Unheard ≡ false
      none_unheard = sym (same_true (of_meaning Unheard)) ∙ (or_parts (holds of_meaning (yes Unheard)) false last_parts.1).0

      no_next : next_nets N ≡ []
      no_next = nil_from_length (next_nets N) (length-map N.latches (λ (l : LatchOf). l.reads) ∙ asked.latches)

      shown : take P.outputs N.outputs ++ next_nets N ≡ take P.outputs N.outputs
      shown = ap (λ nets. take P.outputs N.outputs ++ nets) no_next ∙ append-nil (take P.outputs N.outputs)

-- ---- the laws

module _ (C N : Circuit) (P : CodePlan) (asked : IsAsked C N P) (none : HaveNoModel (question C N P)) where
  no_latch : P.latches ≡ 0
  no_latch = asked.plan_of.latches ∙ asked.latches

  one_state : (s : List Bool) → state_at P s ≡ Some 0
  one_state s = ap (λ n. if n == 0 then Some 0 else position (equal_bits s) P.states) no_latch

  abbrev source_at : List Bool → List Bool
  source_at x = (one_valuation C NoFault (bit x) (λ _. false) asked.source_acyclic).valuation

  source_settles : (x : List Bool) → Settles C NoFault (bit x) (λ _. false) (source_at x)
  source_settles x = (one_valuation C NoFault (bit x) (λ _. false) asked.source_acyclic).settles

  answers_at : (s x v : List Bool) → Settles N NoFault (bit x) (bit s) v → NetworkAnswers C x (outputs_in N P v)
  answers_at s x v settled = record {
    valuation = source_at x;
    settles = source_settles x;
    answers = outputs_same C N P asked 0 (bit x) (bit s) (bit s) (λ _. false) (source_at x) v v (source_settles x) settled (working N 0 (bit x) (bit s) v settled) none;
  }

  pub follows : FollowsSource (Network C) N P
  follows = record {
    starts = one_state _;
    steps = λ q s x v traced settled. record { here = 0; next = 0; traced = one_state s; arrives = one_state _; outputs = answers_at s x v settled; next_allowed = refl };
    codewords = λ q s x v traced settled.
        is_codeword C N P asked 0 (bit x) (bit s) (bit s) (λ _. false) (source_at x) v v (source_settles x) settled (working N 0 (bit x) (bit s) v settled) none;
  }

  pub heard : IsHeardAtPoints N P
  heard = record {
    quiet = λ q x alarm.
        rails_differ C N P asked 0 (bit x) (bit alarm.step.word) (bit alarm.step.word) (λ _. false) (source_at x) alarm.valuation alarm.valuation (source_settles x) alarm.step.settles
        (working N 0 (bit x) (bit alarm.step.word) alarm.valuation alarm.step.settles) none alarm.rails_agree;
    heard = λ cell q x is a.
        a.unheard.differ (is_heard C N P asked cell (bit x) (bit a.step.word) (bit a.failing.word) (λ _. false) (source_at x) a.right a.wrong (source_settles x) a.step.settles
        a.failing.settles none a.unheard.rails_differ);
  }

pub no_model_is_alarm_secure : NoModelIsAlarmSecure
no_model_is_alarm_secure C N P asked acyclic none =
    heard_at_points_is_alarm_secure (Network C) N P asked.plan_of acyclic (follows C N P asked none) (heard C N P asked none)
