use Rattle.std.proofs.Common.{◌≡◌, ◌+◌, ◌*◌, ◌^◌, ◌<◌, ◌≤◌, ◌++◌, ℕ, List, [], ◌∷◌, map, length, length-append, slice_index_or, sym, ◌∙◌, ap, ap₂, subst, arith}
use Rattle.std.specs.List.{range_with_len}
use Rattle.std.proofs.lemmas.List.{length-map}
use Rattle.std.proofs.lemmas.List.FromFn.{length-map-range_with_len}
use Rattle.state_code.specs.Words.{state_words}
use Rattle.tsc_net.specs.Names.{place_of_text}
use Rattle.tsc_net.specs.NetlistOf.{IsBuilt}
use Rattle.tsc_net.specs.Parts.{fresh_text, free_number}
use Rattle.fault_secure.specs.Logic.Logic.{States}
use Rattle.code_checkers.specs.GateList.{IsCheckerOf}
use Rattle.code_checkers.specs.SelfChecking.{IsSelfChecking}
use Rattle.code_checkers.proofs.Sizes.{checker-few}
use Rattle.code_checkers.proofs.SizedWords.{same_sizes, checker_of}
use Rattle.net_writing.specs.CheckerParts.{IsCheckerOver}
use Rattle.unate_synth.proofs.Sizes.{few-checks}
use Rattle.machine_synth.specs.MachineFunction.{words_of}
use Rattle.machine_synth.specs.MachineNetlist.{IsMachineNetlist}
use Rattle.machine_synth.proofs.Plans.{word_count, machine_has_plan}
use Rattle.machine_synth.proofs.Bounds.{machine_few}
use Rattle.machine_synth.proofs.SelfChecking.{same_lines}
use Rattle.machine_synth.proofs.MachineMade.{planned}
use Rattle.machine_synth.proofs.MachineNames.{check_named}
use Rattle.machine_synth.proofs.synthesis.planned.Goals as goal
use Rattle.machine_synth.proofs.synthesis.planned.Goals.{In_ok-plan}

pub get-requires : goal.get-requires
get-requires c = let count = word_count c.args.machine.now.table.states c.args.codes.now c.requires.codes in omega (arith, count, c.reset.ensures.is_state)

pub unordered_checker-requires-clause-plan : goal.unordered_checker-requires-clause-plan
unordered_checker-requires-clause-plan c =
    let outputs = c.outputs.ensures in
    machine_has_plan c.args.machine.now.table c.args.codes.now c.args.code _ c.args.checks (omega (arith, c.states-states.ensures.sound.reset)) c.requires.codes c.requires.unordered c.requires.width outputs.outputs
    (omega (arith, outputs.some)) outputs.few

pub machine_net-requires-clause-gates : goal.machine_net-requires-clause-gates
machine_net-requires-clause-gates c = subst (λ (m : ℕ). IsCheckerOver m c.in_ok-gates.gates) (ap (λ (n : ℕ). n + c.args.checks + c.args.codes.now.n) c.outputs.ensures.outputs ∙ sym c.requires.word) c.in_ok-gates.ensures.over

pub machine_net-requires-clause-room : goal.machine_net-requires-clause-room
machine_net-requires-clause-room c =
    let M = c.args.machine.now.table in
    let ins : length c.args.inputs.now ≤ 64 = omega (arith, c.requires.inputs, c.inputs-inputs.ensures.inputs, c.inputs-inputs.ensures.few) in
    let outs : M.outputs ≤ 64 = omega (arith, c.outputs.ensures.outputs, c.outputs.ensures.few) in
    let few : c.args.checks ≤ 64 = few-checks c.args.code M.outputs c.args.checks c.requires.width outs in
    let short : length c.args.made.now.outputs ≤ 140 = omega (arith, c.requires.word, outs, few, c.requires.most) in
    room (length c.args.inputs.now) (length c.args.made.now.outputs) (length c.args.made.now.gates.gates) (length c.in_ok-gates.gates.gates) ins short c.requires.few c.in_ok-gates.ensures.small
  where
    room : (a b g h : ℕ) → a ≤ 64 → b ≤ 140 → g ≤ 1048576 → h ≤ 20000 → a + 2 * b + g + h + 66 < 2 ^ 32
    room a b g h one two three four = omega (arith, one, two, three, four)

pub fresh_number-requires : goal.fresh_number-requires
fresh_number-requires c = record {
  few = omega (arith, c.requires.inputs, c.requires.outputs, c.inputs-inputs.ensures.inputs, c.inputs-inputs.ensures.few, c.outputs.ensures.outputs, c.outputs.ensures.few);
}

pub plan_of-requires-clause-named : goal.plan_of-requires-clause-named
plan_of-requires-clause-named c =
    check_named c.args.inputs.now c.args.outputs.now c.args.codes.now.n _ c.args.checks c.in_ok-number.number _ _ c.in_ok-net.net c.in_ok-net.ensures.net.parts c.in_ok-number.ensures.number

pub plan_of-requires-clause-few : goal.plan_of-requires-clause-few
plan_of-requires-clause-few c =
    let outs : c.args.machine.now.table.outputs ≤ 64 = omega (arith, c.outputs.ensures.outputs, c.outputs.ensures.few) in
    few-checks c.args.code c.args.machine.now.table.outputs c.args.checks c.requires.width outs

two_more : (f : List ℕ → ℕ) (texts : List (List ℕ)) (a b : List ℕ) (nets : List ℕ) → nets ≡ map f (texts ++ (a ∷ (b ∷ []))) → length nets ≡ length texts + 2
two_more f texts a b nets are = ap length are ∙ length-map (texts ++ (a ∷ (b ∷ []))) f ∙ length-append texts (a ∷ (b ∷ []))

pub plan_of-requires-clause-sized : goal.plan_of-requires-clause-sized
plan_of-requires-clause-sized c = two_more _ _ _ _ _ c.in_ok-net.ensures.net.parts.outputs ∙ ap (λ (n : ℕ). n + 2) c.requires.outputs

-- the plan's checks are the fresh names after those of the latches, and as many as there are
checks_are : (c : In_ok-plan)
    → c.in_ok-plan.plan.checks
    ≡ map (λ (k : ℕ). place_of_text c.in_ok-net.net.names (fresh_text (free_number (c.args.inputs.now ++ c.args.outputs.now)) k)) (range_with_len (2 * c.args.codes.now.n) c.args.checks)
checks_are c =
    c.in_ok-plan.ensures.checks
    ∙ ap (λ (m : ℕ). map (λ (k : ℕ). place_of_text c.in_ok-net.net.names (fresh_text m k)) (range_with_len (2 * c.args.codes.now.n) c.args.checks)) c.in_ok-number.ensures.number

counted : (c : In_ok-plan) → length c.in_ok-plan.plan.checks ≡ c.args.checks
counted c = ap length (checks_are c) ∙ length-map-range_with_len (λ (k : ℕ). place_of_text c.in_ok-net.net.names (fresh_text (free_number (c.args.inputs.now ++ c.args.outputs.now)) k)) (2 * c.args.codes.now.n) c.args.checks

-- so the gates are its checker
is_checker : (c : In_ok-plan) → IsCheckerOf c.in_ok-plan.plan c.in_ok-gates.gates
is_checker c =
    let P = c.in_ok-plan.plan in
    let outputs = c.in_ok-plan.ensures.plan.outputs ∙ sym c.outputs.ensures.outputs in
    checker_of _ _ P c.in_ok-gates.gates (same_sizes P _ c.in_ok-plan.ensures.code outputs (counted c) c.in_ok-plan.ensures.latches c.in_ok-plan.ensures.weight) c.in_ok-plan.ensures.plan.groupless c.in_ok-gates.ensures.made

-- the netlist with the plan is self-checking, and the machine's
whole : (c : In_ok-plan)
    → IsSelfChecking (States c.args.machine.now.table) c.in_ok-net.net.circuit c.in_ok-plan.plan × IsMachineNetlist c.args.machine.now.table c.args.inputs.now c.args.outputs.now c.in_ok-net.net c.in_ok-plan.plan
whole c =
    let M = c.args.machine.now.table in
    let P = c.in_ok-plan.plan in
    let words : c.args.codes.now.words.words ≡ words_of M P = c.requires.codes.words ∙ ap₂ (λ a b. state_words a b M.states) (sym c.in_ok-plan.ensures.latches) (sym c.in_ok-plan.ensures.weight) in
    let held : c.get.result.now ≡ slice_index_or (words_of M P) M.reset 0 =
    c.get.ensures.item ∙ ap (λ (k : ℕ). slice_index_or c.args.codes.now.words.words k 0) c.reset.ensures.reset ∙ ap (λ (list : List ℕ). slice_index_or list M.reset 0) words in
    planned M c.args.inputs.now c.args.outputs.now c.args.codes.now.n c.get.result.now c.args.checks c.in_ok-net.net P c.args.made.now.gates c.args.made.now.outputs c.in_ok-gates.gates
    (subst IsBuilt c.net.view_is c.net.invariant.checked) c.in_ok-net.ensures.distinct c.in_ok-net.ensures.net
    c.requires.inputs c.requires.outputs c.in_ok-plan.ensures.plan c.in_ok-plan.ensures.well_made c.in_ok-plan.ensures.latches c.states-states.ensures.sound held (checks_are c) c.in_ok-plan.ensures.rails (is_checker c)
    (same_lines M c.args.code c.args.checks c.args.codes.now P c.args.made.now.gates c.args.made.now.outputs c.requires.codes c.in_ok-plan.ensures.plan c.in_ok-plan.ensures.code (counted c) c.in_ok-plan.ensures.latches c.requires.machine)
    (omega (arith, c.requires.most)) (few-checks c.args.code M.outputs c.args.checks c.requires.width (omega (arith, c.outputs.ensures.outputs, c.outputs.ensures.few)))

pub returns : goal.returns
returns c = record {
  secure = (whole (goal.at.returns c).In_ok-plan).0;
  exact = (whole (goal.at.returns c).In_ok-plan).1;
  code = c.in_ok-plan.ensures.code;
  few =
      let M = c.args.machine.now.table in
      let some : 0 < M.outputs = omega (arith, c.outputs.ensures.outputs, c.outputs.ensures.some) in
      let most : M.outputs ≤ 64 = omega (arith, c.outputs.ensures.outputs, c.outputs.ensures.few) in
      machine_few M c.args.code c.in_ok-plan.plan c.args.checks c.args.codes.now.n c.args.codes.now.m (length c.args.made.now.gates.gates) (length c.args.made.now.outputs) (length c.in_ok-gates.gates.gates) (length c.in_ok-net.net.circuit.nodes)
      some most c.requires.width c.requires.coded c.requires.codes.least c.requires.codes.half c.in_ok-plan.ensures.code c.requires.unordered c.in_ok-plan.ensures.plan.outputs (counted (goal.at.returns c).In_ok-plan) c.in_ok-plan.ensures.latches c.requires.size
      c.requires.word (checker-few c.in_ok-plan.plan c.in_ok-gates.gates (is_checker (goal.at.returns c).In_ok-plan)) c.in_ok-net.ensures.net.few;
}
