-- A plan over a composed netlist of a network makes it a unate netlist, with the stated names, plan and rails.
use Rattle.std.proofs.Common.{◌≡◌, ℕ, ◌+◌, ◌<◌, ◌≤◌, ◌⊎◌, inl, inr, true, List, [], ◌∷◌, ◌++◌, map, take, length, slice_index, slice_index_or, All, Contains, refl, sym, ◌∙◌, ap, ap₂, subst, arith, append-nil}
use Rattle.std.specs.List.{range_with_len}
use Rattle.std.proofs.lemmas.List.{length-map, map-append, get_or-map, get_or-append-add, take-append-le, take_all, length-take-le}
use Rattle.std.proofs.lemmas.List.FromFn.{length-map-range_with_len, get_or-map-range_with_len}
use Rattle.std.proofs.lemmas.List.Elements.{All-append, All-get_or, All-head, All-tail, All-map, All-weaker, Contains-append_left, Contains-append_right, Contains-append_cases}
use Rattle.fault_secure.specs.Circuit.{Circuit, LatchOf, nets}
use Rattle.fault_secure.specs.CodePlan.{CodePlan, IsWellMade, IsPlanOf, IsUnorderedCode, HasWidth, monitored}
use Rattle.tsc_net.specs.Named.{Named, latch_outs}
use Rattle.tsc_net.specs.Names.{text_at, has_text, place_of_text}
use Rattle.tsc_net.specs.NetlistOf.{NetlistOf, names_of, IsBuilt}
use Rattle.tsc_net.specs.Parts.{fresh_text, free_number}
use Rattle.tsc_net.proofs.NameLemmas.{place_within}
use Rattle.tsc_net.proofs.BuildLemmas.{map-map}
use Rattle.tsc_net.proofs.NetlistLemmas.{texts_at_places}
use Rattle.gate_net.specs.Signal.{Signal}
use Rattle.gate_net.specs.Gates.{GateNetwork, meanings}
use Rattle.gate_net.specs.declared.line.Line.{Line}
use Rattle.gate_net.proofs.Realised.{function_before}
use Rattle.fault_secure.specs.Logic.Logic.{Network}
use Rattle.code_checkers.specs.GateList.{GateList, IsCheckerOf}
use Rattle.code_checkers.specs.SelfChecking.{IsSelfChecking}
use Rattle.code_checkers.proofs.Block.{rail1_value, rail2_value}
use Rattle.net_writing.specs.Rails.{EndsInRails}
use Rattle.net_building.proofs.NamedNets.{place_at}
use Rattle.net_writing.proofs.RailLemmas.{plan_fits}
use Rattle.unate_synth.specs.Composed.{HasPartsOf, IsComposed, IsComposedOf, IsFreshName, fresh_parts}
use Rattle.unate_synth.specs.UnateLines.{AreUnateLines}
use Rattle.unate_synth.specs.UnateNetlist.{HasSameInputs, IsUnatePlan, HasUnateNames, HasFreshInnerNames, IsOutputOrFresh, SharesEqualGates, HasStatedRails, HasNothingElse, IsUnateNetlist, fresh_name, first_fresh_names, rail_names}
use Rattle.unate_synth.proofs.FreshParts.{fresh_parts_number, fresh_parts_next, fresh_parts_named, fresh_parts_inputs}
use Rattle.unate_synth.proofs.Planned.{plan_is_composed}
use Rattle.unate_synth.proofs.SelfChecking.{self_checking, stated_checks}
use Rattle.unate_synth.proofs.StatedChecks.{width_of}
use Rattle.unate_synth.proofs.UnateJoin.{no_nets}
use Rattle.tsc_bits.proofs.Lists.{all_left, all_right}

-- what a list contains is what its items become
pub contains_map : {A B : Type 0} (f : A → B) (xs : List A) (x : A) → Contains xs x → Contains (map f xs) (f x)
contains_map f xs x has = (has.0, omega (arith, has.1, length-map xs f), get_or-map f xs has.0 x (f x) has.1 ∙ ap f has.2)

no_latch_left : (latches : List LatchOf) → length latches ≡ 0 → latches ≡ []
no_latch_left [] none = refl
no_latch_left (l ∷ latches) none = absurd (omega arith)

module _ (S N : NetlistOf) (P : CodePlan) (count : ℕ) (source : IsBuilt S) (checked : IsBuilt N) (latchless : length S.circuit.latches ≡ 0)
    (c : HasPartsOf (fresh_parts S (count + 2)) (names_of S.names S.circuit.outputs) (first_fresh_names S count) (fresh_name S count) (fresh_name S (count + 1)) N)
    (outputs : P.outputs ≡ length S.circuit.outputs) (checks : P.checks ≡ map (λ (k : ℕ). place_of_text N.names (fresh_text (free_number S.names) k)) (range_with_len 0 count))
    (rails : EndsInRails N.circuit.outputs P.outputs P.rail1 P.rail2) where
  shown_counted : length (names_of S.names S.circuit.outputs) ≡ P.outputs
  shown_counted = length-map S.circuit.outputs (text_at S.names) ∙ sym outputs

  -- the checks are the nets of the first fresh names
  checks_are : P.checks ≡ map (place_of_text N.names) (first_fresh_names S count)
  checks_are = checks ∙ sym (map-map (place_of_text N.names) (fresh_name S) (range_with_len 0 count))

  pub checks_counted : length P.checks ≡ count
  checks_counted = ap length checks ∙ length-map-range_with_len (λ (k : ℕ). place_of_text N.names (fresh_text (free_number S.names) k)) 0 count

  no_latches : N.circuit.latches ≡ []
  no_latches = no_latch_left N.circuit.latches (ap length c.latches ∙ length-map (fresh_parts S (count + 2)).named.latches _ ∙ ap (λ (M : Named). length M.latches) (fresh_parts_named S source (count + 2)))

  outputs_split : N.circuit.outputs ≡ map (place_of_text N.names) (names_of S.names S.circuit.outputs) ++ map (place_of_text N.names) (fresh_name S count ∷ (fresh_name S (count + 1) ∷ []))
  outputs_split = c.outputs ∙ map-append (place_of_text N.names) (names_of S.names S.circuit.outputs) (fresh_name S count ∷ (fresh_name S (count + 1) ∷ []))

  front_counted : length (map (place_of_text N.names) (names_of S.names S.circuit.outputs)) ≡ P.outputs
  front_counted = length-map (names_of S.names S.circuit.outputs) (place_of_text N.names) ∙ shown_counted

  front_is : take P.outputs N.circuit.outputs ≡ map (place_of_text N.names) (names_of S.names S.circuit.outputs)
  front_is =
      ap (take P.outputs) outputs_split
      ∙ take-append-le P.outputs (map (place_of_text N.names) (names_of S.names S.circuit.outputs)) (map (place_of_text N.names) (fresh_name S count ∷ (fresh_name S (count + 1) ∷ []))) (omega (arith, front_counted))
      ∙ take_all P.outputs (map (place_of_text N.names) (names_of S.names S.circuit.outputs)) (omega (arith, front_counted))

  -- the word's nets are those of the outputs' names and of the checks'
  pub watched : monitored N.circuit P ≡ map (place_of_text N.names) (names_of S.names S.circuit.outputs ++ first_fresh_names S count)
  watched =
      ap (λ (list : List ℕ). (take P.outputs N.circuit.outputs ++ P.checks) ++ list) (no_nets N.circuit (ap length no_latches))
      ∙ append-nil (take P.outputs N.circuit.outputs ++ P.checks)
      ∙ ap₂ (λ (xs ys : List ℕ). xs ++ ys) front_is checks_are
      ∙ sym (map-append (place_of_text N.names) (names_of S.names S.circuit.outputs) (first_fresh_names S count))

  rail_at : (k : ℕ) (text : List ℕ) → k < 2 → text ≡ slice_index_or (fresh_name S count ∷ (fresh_name S (count + 1) ∷ [])) k [] → slice_index N.circuit.outputs (P.outputs + k) ≡ place_of_text N.names text
  rail_at k text low is =
      ap (λ (list : List ℕ). slice_index list (P.outputs + k)) outputs_split
      ∙ ap (λ (n : ℕ). slice_index (map (place_of_text N.names) (names_of S.names S.circuit.outputs) ++ map (place_of_text N.names) (fresh_name S count ∷ (fresh_name S (count + 1) ∷ []))) (n + k)) (sym front_counted)
      ∙ get_or-append-add (map (place_of_text N.names) (names_of S.names S.circuit.outputs)) (map (place_of_text N.names) (fresh_name S count ∷ (fresh_name S (count + 1) ∷ []))) k 0
      ∙ get_or-map (place_of_text N.names) (fresh_name S count ∷ (fresh_name S (count + 1) ∷ [])) k [] 0 low
      ∙ ap (place_of_text N.names) (sym is)

  pub first_is : P.rail1 ≡ place_of_text N.names (fresh_name S count)
  first_is = sym rails.first ∙ ap (slice_index N.circuit.outputs) (omega arith) ∙ rail_at 0 (fresh_name S count) (omega arith) refl

  pub second_is : P.rail2 ≡ place_of_text N.names (fresh_name S (count + 1))
  second_is = sym rails.second ∙ rail_at 1 (fresh_name S (count + 1)) (omega arith) refl

  -- each name of the word and of the rails is a net's
  word_named : All (λ text. has_text N.names text ≡ true) (names_of S.names S.circuit.outputs ++ first_fresh_names S count)
  word_named = all_left (λ text. has_text N.names text ≡ true) (names_of S.names S.circuit.outputs ++ first_fresh_names S count) (fresh_name S count ∷ (fresh_name S (count + 1) ∷ [])) c.named

  rails_named : All (λ text. has_text N.names text ≡ true) (fresh_name S count ∷ (fresh_name S (count + 1) ∷ []))
  rails_named = all_right (λ text. has_text N.names text ≡ true) (names_of S.names S.circuit.outputs ++ first_fresh_names S count) (fresh_name S count ∷ (fresh_name S (count + 1) ∷ [])) c.named

  shown_named : All (λ text. has_text N.names text ≡ true) (names_of S.names S.circuit.outputs)
  shown_named = all_left (λ text. has_text N.names text ≡ true) (names_of S.names S.circuit.outputs) (first_fresh_names S count) word_named

  checks_named : All (λ text. has_text N.names text ≡ true) (first_fresh_names S count)
  checks_named = all_right (λ text. has_text N.names text ≡ true) (names_of S.names S.circuit.outputs) (first_fresh_names S count) word_named

  net_low : (text : List ℕ) → has_text N.names text ≡ true → place_of_text N.names text < nets N.circuit
  net_low text there = subst (λ (n : ℕ). place_of_text N.names text < n) checked.sized (place_within N.names text there)

  -- the plan is of the netlist
  pub plan_of : P.latches ≡ 0 → IsPlanOf N.circuit P
  plan_of none =
      plan_fits N.circuit P N.circuit.outputs refl rails
      (subst (All (λ n. n < nets N.circuit)) (sym checks_are) (All-map (λ n. n < nets N.circuit) (place_of_text N.names) (first_fresh_names S count) (All-weaker (λ text. has_text N.names text ≡ true) (λ text. place_of_text N.names text < nets N.circuit) net_low (first_fresh_names S count) checks_named)))
      (subst (λ (n : ℕ). n < nets N.circuit) (sym first_is) (net_low (fresh_name S count) (All-head (λ text. has_text N.names text ≡ true) (fresh_name S count) (fresh_name S (count + 1) ∷ []) rails_named)))
      (subst (λ (n : ℕ). n < nets N.circuit) (sym second_is) (net_low (fresh_name S (count + 1)) (All-head (λ text. has_text N.names text ≡ true) (fresh_name S (count + 1)) [] (All-tail (λ text. has_text N.names text ≡ true) (fresh_name S count) (fresh_name S (count + 1) ∷ []) rails_named))))
      (none ∙ sym (ap length no_latches))

  -- the model and the inputs are the network's
  pub same_inputs : HasSameInputs S N
  same_inputs = record {
    model = c.model ∙ ap (λ (M : Named). M.model) (fresh_parts_named S source (count + 2));
    count = inputs_counted;
    names = ap (λ (n : ℕ). take n N.names) (inputs_are ∙ omega (arith, sources_counted)) ∙ c.sources ∙ sources_are;
    latchless = no_latches;
  }
    where
      inputs_are : N.circuit.inputs ≡ length (fresh_parts S (count + 2)).named.inputs
      inputs_are = c.inputs

      sources_counted : length (fresh_parts S (count + 2)).named.latches ≡ 0
      sources_counted = ap (λ (M : Named). length M.latches) (fresh_parts_named S source (count + 2))

      sources_are : (fresh_parts S (count + 2)).named.inputs ++ latch_outs (fresh_parts S (count + 2)).named ≡ take S.circuit.inputs S.names
      sources_are =
          ap (λ (list : List (List ℕ)). (fresh_parts S (count + 2)).named.inputs ++ list) (ap latch_outs (fresh_parts_named S source (count + 2)))
          ∙ append-nil (fresh_parts S (count + 2)).named.inputs ∙ fresh_parts_inputs S source (count + 2)

      inputs_counted : N.circuit.inputs ≡ S.circuit.inputs
      inputs_counted =
          let whole : length S.names ≡ nets S.circuit = source.sized in
          c.inputs ∙ ap length (fresh_parts_inputs S source (count + 2)) ∙ length-take-le {A = List ℕ} S.circuit.inputs S.names (omega (arith, whole))

  -- checks, rails and outputs have their names
  pub unate_names : HasUnateNames S N P
  unate_names = record {
    checks = ap (names_of N.names) checks_are ∙ texts_at_places N.names (first_fresh_names S count) checks_named ∙ ap (first_fresh_names S) (sym checks_counted);
    rails =
        ap₂ (λ (m n : ℕ). names_of N.names (m ∷ (n ∷ []))) first_is second_is
        ∙ texts_at_places N.names (fresh_name S count ∷ (fresh_name S (count + 1) ∷ [])) rails_named ∙ ap (rail_names S) (sym checks_counted);
    outputs =
        ap (names_of N.names) c.outputs
        ∙ texts_at_places N.names (names_of S.names S.circuit.outputs ++ (fresh_name S count ∷ (fresh_name S (count + 1) ∷ [])))
        (All-append (λ text. has_text N.names text ≡ true) (names_of S.names S.circuit.outputs) (fresh_name S count ∷ (fresh_name S (count + 1) ∷ [])) shown_named rails_named)
        ∙ ap (λ (n : ℕ). names_of S.names S.circuit.outputs ++ rail_names S n) (sym checks_counted);
  }

  -- and any other net has a fresh name
  pub inner_names : count ≤ 64 → HasFreshInnerNames S N
  inner_names few net high within = by (c.inner net (omega (arith, high, ap length no_latches)) within)
    where
      place_is : place_of_text N.names (text_at N.names net) ≡ net
      place_is = place_at N.names net checked.numbering (subst (λ (n : ℕ). net < n) (sym checked.sized) within)

      is_shown : Contains (names_of S.names S.circuit.outputs ++ (fresh_name S count ∷ (fresh_name S (count + 1) ∷ []))) (text_at N.names net) → IsOutputOrFresh N (free_number S.names) net
      is_shown has =
          inl (subst (λ (list : List ℕ). Contains list net) (sym c.outputs)
          (subst (Contains (map (place_of_text N.names) (names_of S.names S.circuit.outputs ++ (fresh_name S count ∷ (fresh_name S (count + 1) ∷ []))))) place_is
          (contains_map (place_of_text N.names) (names_of S.names S.circuit.outputs ++ (fresh_name S count ∷ (fresh_name S (count + 1) ∷ []))) (text_at N.names net) has)))

      is_check : Contains (first_fresh_names S count) (text_at N.names net) → IsOutputOrFresh N (free_number S.names) net
      is_check has =
          let long : length (first_fresh_names S count) ≡ count = length-map-range_with_len (fresh_name S) 0 count in
          inr (has.0, omega (arith, has.1, long, few), sym (sym (get_or-map-range_with_len (fresh_name S) 0 count has.0 has.0 (text_at N.names net) (omega (arith, has.1, long)) (omega arith)) ∙ has.2))

      in_word : Contains (names_of S.names S.circuit.outputs) (text_at N.names net) ⊎ Contains (first_fresh_names S count) (text_at N.names net) → IsOutputOrFresh N (free_number S.names) net
      in_word (inl has) = is_shown (Contains-append_left (names_of S.names S.circuit.outputs) (fresh_name S count ∷ (fresh_name S (count + 1) ∷ [])) (text_at N.names net) has)
      in_word (inr has) = is_check has

      in_all : Contains (names_of S.names S.circuit.outputs ++ first_fresh_names S count) (text_at N.names net) ⊎ Contains (fresh_name S count ∷ (fresh_name S (count + 1) ∷ [])) (text_at N.names net) → IsOutputOrFresh N (free_number S.names) net
      in_all (inl has) = in_word (Contains-append_cases (names_of S.names S.circuit.outputs) (first_fresh_names S count) (text_at N.names net) has)
      in_all (inr has) = is_shown (Contains-append_right (names_of S.names S.circuit.outputs) (fresh_name S count ∷ (fresh_name S (count + 1) ∷ [])) (text_at N.names net) has)

      by : Contains ((names_of S.names S.circuit.outputs ++ first_fresh_names S count) ++ (fresh_name S count ∷ (fresh_name S (count + 1) ∷ []))) (text_at N.names net) ⊎ IsFreshName (fresh_parts S (count + 2)) (text_at N.names net) → IsOutputOrFresh N (free_number S.names) net
      by (inr fresh) = inr (fresh.0, omega (arith, fresh.1, fresh_parts_next S source (count + 2), few), fresh.2 ∙ ap (λ (number : ℕ). fresh_text number fresh.0) (fresh_parts_number S source (count + 2)))
      by (inl has) = in_all (Contains-append_cases (names_of S.names S.circuit.outputs ++ first_fresh_names S count) (fresh_name S count ∷ (fresh_name S (count + 1) ∷ [])) (text_at N.names net) has)

unate_plan : (S N : NetlistOf) (P : CodePlan) → IsWellMade P → IsPlanOf N.circuit P → P.version ≡ 1 → IsUnorderedCode P.code → P.outputs ≡ length S.circuit.outputs
    → length N.circuit.latches ≡ 0 → IsUnatePlan S P
unate_plan S N P well plan version code outputs none =
    let latches : P.latches ≡ 0 = plan.latches ∙ none in
    let states : (P.states ≡ []) × (P.weight ≡ 0) = well.states.none latches in
    let shape : (HasWidth P.code P.outputs (length P.checks)) × (P.groups ≡ []) = width_of P.code P code well.shape in
    record {
      version = version;
      code = code;
      outputs = outputs;
      width = shape.0;
      groupless = shape.1;
      latchless = latches;
      stateless = states.0;
      weightless = states.1;
    }

module _ (N : Circuit) (P : CodePlan) (signals : List Signal) (c : IsComposed N P signals) where
  -- in a composed netlist equal gates are one gate
  pub shares : SharesEqualGates N P
  shares p q low within one other same = c.alone q (function_before N P c.top signals q c.stand other.works) other.hidden p low same

  -- in a composed netlist the rails have the values of the stated checker's rails
  pub stated_rails : HasStatedRails N P
  stated_rails = record { first = λ v settled. rail1_value N P c.rails v settled; second = λ v settled. rail2_value N P c.rails v settled }

  -- in a composed netlist nothing else stands than the function and the stated checker
  pub nothing_else : HasNothingElse N P
  nothing_else = record { top = c.top; needed = c.needed; checker = c.ends }

-- the names of the checks are nets'
pub check_named : (S N : NetlistOf) (count : ℕ) → HasPartsOf (fresh_parts S (count + 2)) (names_of S.names S.circuit.outputs) (first_fresh_names S count) (fresh_name S count) (fresh_name S (count + 1)) N
    → (k : ℕ) → k < count → has_text N.names (fresh_name S k) ≡ true
check_named S N count c k low =
    let word = all_left (λ text. has_text N.names text ≡ true) (names_of S.names S.circuit.outputs ++ first_fresh_names S count) (fresh_name S count ∷ (fresh_name S (count + 1) ∷ [])) c.named in
    let checks = all_right (λ text. has_text N.names text ≡ true) (names_of S.names S.circuit.outputs) (first_fresh_names S count) word in
    let long : length (first_fresh_names S count) ≡ count = length-map-range_with_len (fresh_name S) 0 count in
    let at : slice_index_or (first_fresh_names S count) k [] ≡ fresh_name S k = get_or-map-range_with_len (fresh_name S) 0 count k k [] low (omega arith) in
    subst (λ text. has_text N.names text ≡ true) at (All-get_or (λ text. has_text N.names text ≡ true) (first_fresh_names S count) k [] (omega (arith, low, long)) checks)

-- all of it, of a netlist that is composed of gates for a network's lines
module _ (S N : NetlistOf) (P : CodePlan) (G : GateNetwork) (lines : List Line) (made : GateList) (count : ℕ) (source : IsBuilt S) (checked : IsBuilt N) (latchless : length S.circuit.latches ≡ 0)
    (c : IsComposedOf (fresh_parts S (count + 2)) G lines made (names_of S.names S.circuit.outputs) (first_fresh_names S count) (fresh_name S count) (fresh_name S (count + 1)) N)
    (outputs : P.outputs ≡ length S.circuit.outputs) (checks : P.checks ≡ map (λ (k : ℕ). place_of_text N.names (fresh_text (free_number S.names) k)) (range_with_len 0 count))
    (rails : EndsInRails N.circuit.outputs P.outputs P.rail1 P.rail2) (none : P.latches ≡ 0) (version : P.version ≡ 1) (unordered : IsUnorderedCode P.code) (well : IsWellMade P) (is : IsCheckerOf P made) (few : count ≤ 64) where
  over : IsComposed N.circuit P (meanings G lines)
  over =
      plan_is_composed N.circuit (meanings G lines) made (map (place_of_text N.names) (names_of S.names S.circuit.outputs ++ first_fresh_names S count)) (place_of_text N.names (fresh_name S count)) (place_of_text N.names (fresh_name S (count + 1))) P c.gates
      (watched S N P count source checked latchless c.parts outputs checks rails) (first_is S N P count source checked latchless c.parts outputs checks rails) (second_is S N P count source checked latchless c.parts outputs checks rails) is

  of_net : IsPlanOf N.circuit P
  of_net = plan_of S N P count source checked latchless c.parts outputs checks rails none

  latchless_net : length N.circuit.latches ≡ 0
  latchless_net = sym of_net.latches ∙ none

  unate_netlist : AreUnateLines S.circuit P.code G lines → IsUnateNetlist S N P
  unate_netlist unate = record {
    inputs = same_inputs S N P count source checked latchless c.parts outputs checks rails;
    plan = unate_plan S N P well of_net version unordered outputs latchless_net;
    names = unate_names S N P count source checked latchless c.parts outputs checks rails;
    inner = inner_names S N P count source checked latchless c.parts outputs checks rails few;
    narrow = c.parts.narrow;
    shared = shares N.circuit P (meanings G lines) over;
    checks = stated_checks S.circuit N.circuit P over.top G lines latchless_net outputs well of_net unate over.stand;
    rails = stated_rails N.circuit P (meanings G lines) over;
    whole = nothing_else N.circuit P (meanings G lines) over;
  }

  unate_secure : AreUnateLines S.circuit P.code G lines → IsSelfChecking (Network S.circuit) N.circuit P
  unate_secure unate = self_checking S.circuit N.circuit P G lines source.acyclic checked.acyclic checked.closed well of_net latchless_net outputs unate over

  pub planned : AreUnateLines S.circuit P.code G lines → IsUnateNetlist S N P × IsSelfChecking (Network S.circuit) N.circuit P
  planned unate = (unate_netlist unate, unate_secure unate)
