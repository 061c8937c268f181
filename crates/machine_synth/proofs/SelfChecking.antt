-- A composed netlist with a plan of a machine is the machine's netlist, and self-checking.
use Rattle.std.proofs.Common.{◌≡◌, ℕ, ◌*◌, ◌≤◌, List, ◌++◌, map, length, All, sym, ◌∙◌, ap, ap₂, subst, arith}
use Rattle.std.proofs.lemmas.List.{length-map}
use Rattle.tsc_bits.specs.Bits.{bits_of}
use Rattle.fault_secure.specs.Circuit.{Circuit, bit}
use Rattle.fault_secure.specs.Closed.{IsClosed}
use Rattle.fault_secure.specs.Settle.{Acyclic}
use Rattle.fault_secure.specs.CodePlan.{CodePlan, IsWellMade, IsPlanOf, monitored}
use Rattle.fault_secure.specs.Logic.{StateTable, IsStateTable}
use Rattle.fault_secure.specs.Logic.Logic.{States}
use Rattle.fault_secure.specs.declared.code.Code.{Code}
use Rattle.tsc_net.specs.NetlistOf.{NetlistOf}
use Rattle.tsc_net.specs.Parts.{free_number}
use Rattle.gate_net.specs.declared.line.Line.{Line}
use Rattle.gate_net.specs.Signal.{values}
use Rattle.gate_net.specs.Gates.{GateNetwork, meanings}
use Rattle.gate_net.specs.Realised.{AllRealise}
use Rattle.gate_net.proofs.Kept.{values_of_meanings}
use Rattle.gate_net.proofs.Realised.{all_values}
use Rattle.code_checkers.specs.SelfChecking.{IsSelfChecking}
use Rattle.state_code.specs.Words.{AreStateWords, binomial, state_words}
use Rattle.state_code.specs.declared.words.StateCode.{StateCode}
use Rattle.state_code.proofs.Weights.{state_words_fit}
use Rattle.machine_lines.specs.MachineLines.{AreMachineLines}
use Rattle.unate_synth.specs.Composed.{IsComposed}
use Rattle.unate_synth.specs.UnateNetlist.{IsNarrow}
use Rattle.unate_synth.proofs.Exact.{shares, stated_rails, nothing_else}
use Rattle.machine_synth.specs.MachineFunction.{words_of, IsMachinePlan, StartsAtReset, IsMachineFunction}
use Rattle.machine_synth.specs.MachineNetlist.{HasMachineInputs, HasMachineNames, HasOwnNodes, HasChosenBits, IsMachineNetlist}
use Rattle.machine_synth.specs.MachineParts.{IsCodeOf}
use Rattle.machine_synth.proofs.MachineJoin.{self_checking}

-- the lines of a machine are its function
pub machine_function : (M : StateTable) (N : Circuit) (P : CodePlan) (hi : ℕ) (G : GateNetwork) (lines : List Line) → IsMachinePlan M P → StartsAtReset M N P
    → AreMachineLines P.code (length P.checks) P.latches (words_of M P) M G lines → AllRealise N hi (meanings G lines) (monitored N P) → IsMachineFunction M N P hi
machine_function M N P hi G lines plan reset are stand = record {
  plan = plan;
  reset = reset;
  signals = meanings G lines;
  stand = stand;
  negate = are.negate;
  chosen = λ x s place low. (
      let count : length (meanings G lines) ≡ length lines = length-map lines _ in
      ap (λ bits. bit bits place) (sym (values_of_meanings G (bit x) s lines)) ∙ are.chosen x s place (omega (arith, low, count)));
}

-- so each place of the word has the chosen bit
chosen_bits : (M : StateTable) (N : Circuit) (P : CodePlan) (hi : ℕ) → IsMachineFunction M N P hi → HasChosenBits M N P
chosen_bits M N P hi f x s v place settles low =
    let all = all_values N hi (bit x) s v f.signals (monitored N P) settles f.stand in
    let one : length (map (bit v) (monitored N P)) ≡ length (monitored N P) = length-map (monitored N P) (bit v) in
    let other : length (values (bit x) s f.signals) ≡ length f.signals = length-map f.signals _ in
    ap (λ bits. bit bits place) all ∙ f.chosen x s place (omega (arith, low, one, other, ap length all))

pub exact : (M : StateTable) (inputs outputs : List (List ℕ)) (N : NetlistOf) (P : CodePlan) (G : GateNetwork) (lines : List Line) → IsMachinePlan M P → StartsAtReset M N.circuit P
    → AreMachineLines P.code (length P.checks) P.latches (words_of M P) M G lines → IsComposed N.circuit P (meanings G lines) → HasMachineInputs M inputs N
    → HasMachineNames outputs (free_number (inputs ++ outputs)) N P → HasOwnNodes N.circuit P → All IsNarrow N.circuit.nodes → IsMachineNetlist M inputs outputs N P
exact M inputs outputs N P G lines plan reset are c given names own narrow = record {
  given = given;
  plan = plan;
  reset = reset;
  names = names;
  own = own;
  narrow = narrow;
  shared = shares N.circuit P (meanings G lines) c;
  rails = stated_rails N.circuit P (meanings G lines) c;
  whole = nothing_else N.circuit P (meanings G lines) c;
  chosen = chosen_bits M N.circuit P c.top (machine_function M N.circuit P c.top G lines plan reset are c.stand);
}

pub secure : (M : StateTable) (N : Circuit) (P : CodePlan) (G : GateNetwork) (lines : List Line) → IsStateTable M → Acyclic N → IsClosed N → IsWellMade P → IsPlanOf N P → IsMachinePlan M P
    → StartsAtReset M N P → AreMachineLines P.code (length P.checks) P.latches (words_of M P) M G lines → IsComposed N P (meanings G lines) → IsSelfChecking (States M) N P
secure M N P G lines table acyclic closed well plan_of plan reset are c =
    self_checking M N P c.top table acyclic closed well plan_of (machine_function M N P c.top G lines plan reset are c.stand) c.rails

-- the words of a code are state words
pub code_fit : (states : ℕ) (codes : StateCode) → IsCodeOf states codes → AreStateWords codes.n codes.m states (map (bits_of codes.n) codes.words.words)
code_fit states codes is =
    subst (λ words. AreStateWords codes.n codes.m states (map (bits_of codes.n) words)) (sym is.words)
    (state_words_fit codes.n codes.m states (subst (λ n. states ≤ binomial n codes.m) (sym is.half) is.least.enough))

-- lines over the words of a code are lines over those of the plan
pub same_lines : (M : StateTable) (code : Code) (checks : ℕ) (codes : StateCode) (P : CodePlan) (G : GateNetwork) (lines : List Line) → IsCodeOf M.states codes → IsMachinePlan M P → P.code ≡ code
    → length P.checks ≡ checks → P.latches ≡ codes.n → AreMachineLines code checks codes.n codes.words.words M G lines
    → AreMachineLines P.code (length P.checks) P.latches (words_of M P) M G lines
same_lines M code checks codes P G lines is plan same counted latches are =
    let half : P.latches ≡ 2 * P.weight = plan.half in
    let other : codes.n ≡ 2 * codes.m = is.half in
    let weight : P.weight ≡ codes.m = omega (arith, half, other, latches) in
    let words : codes.words.words ≡ words_of M P = is.words ∙ ap₂ (λ n m. state_words n m M.states) (sym latches) (sym weight) in
    subst (λ c. AreMachineLines c (length P.checks) P.latches (words_of M P) M G lines) (sym same)
    (subst (λ k. AreMachineLines code k P.latches (words_of M P) M G lines) (sym counted)
    (subst (λ n. AreMachineLines code checks n (words_of M P) M G lines) (sym latches)
    (subst (λ w. AreMachineLines code checks codes.n w M G lines) words are)))
