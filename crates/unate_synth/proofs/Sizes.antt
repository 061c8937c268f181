-- How large a unate netlist gets: its gates, its checks and its checker.
use Rattle.std.proofs.Common.{◌≡◌, ℕ, zero, suc, ◌+◌, ◌-◌, ◌*◌, ◌^◌, ◌<◌, ◌≤◌, List, map, take, drop, length, sym, ◌∙◌, ap, subst, arith}
use Rattle.std.specs.List.{sum_by, range_with_len}
use Rattle.std.proofs.Math.Nat.{mul-le-mul, pow-suc, pow-zero, mul-add, add-mul}
use Rattle.std.proofs.lemmas.List.{length-drop, length-take, take-take, take-append-drop}
use Rattle.std.proofs.lemmas.List.Sums.{sum_by-cons, sum_by-append}
use Rattle.fault_secure.specs.Circuit.{Circuit}
use Rattle.fault_secure.specs.declared.code.Code.{Code}
use Rattle.fault_secure.specs.declared.code.Code.TheVariants.{Parity, Berger, MOutOfN}
use Rattle.gate_net.specs.declared.gate.Gate.{Gate}
use Rattle.gate_net.specs.declared.gate.Gate.TheVariants as gate
use Rattle.gate_net.specs.Gates.{GateNetwork}
use Rattle.gate_net.specs.Growth.{Grows}
use Rattle.gate_net.specs.NetLines.{input_gates}
use Rattle.gate_net.specs.Size.{network_gates}
use Rattle.gate_net.proofs.FirstInputs.{inputs_counted}
use Rattle.push_negations.specs.Pushed.{most_lines}
use Rattle.push_negations.proofs.Pushed.{six-times}
use Rattle.code_checkers.specs.Size.{stretch_gates, code_gates, code_pairs_most, checker_size}
use Rattle.fault_secure.specs.CodePlan.{CodePlan, IsUnorderedCode, HasWidth}
use Rattle.unate_synth.specs.Size.{check_gates, word_gates, unate_bound}

-- pushing negations makes two lines of an input's
two-each : (count from : ℕ) → sum_by most_lines (map gate.Input (range_with_len from count)) ≡ 2 * count
two-each zero from = omega arith
two-each (suc count) from =
    let rest = two-each count (from + 1) in
    let all = sum_by-cons most_lines (gate.Input from) (map gate.Input (range_with_len (from + 1) count)) in
    omega (arith, rest, all)

-- the inputs' gates stand among the first ones
front-within : (count : ℕ) (gates : List Gate) → take count gates ≡ input_gates count → count ≤ length gates
front-within count gates first = omega (arith, ap length first, inputs_counted count, length-take count gates)

-- as gates are added the inputs' stay the first ones
pub front-kept : (old new : GateNetwork) (count : ℕ) → Grows old new → take count old.gates ≡ input_gates count → take count new.gates ≡ input_gates count
front-kept old new count h first =
    sym (take-take count (length old.gates) new.gates (front-within count old.gates first)) ∙ ap (take count) h.first ∙ first

-- pushing negations makes at most two lines of each input and six of any other gate
lines-pushed : (count : ℕ) (gates : List Gate) → take count gates ≡ input_gates count → sum_by most_lines gates ≤ 2 * count + 6 * (length gates - count)
lines-pushed count gates first =
    let parts : sum_by most_lines gates ≡ sum_by most_lines (take count gates) + sum_by most_lines (drop count gates)
    = ap (sum_by most_lines) (sym (take-append-drop count gates)) ∙ sum_by-append most_lines (take count gates) (drop count gates) in
    let front : sum_by most_lines (take count gates) ≡ 2 * count = ap (sum_by most_lines) first ∙ two-each count 0 in
    let rest = six-times (drop count gates) in
    omega (arith, parts, front, rest, length-drop count gates)

-- of the gates of a network and its checks as many as stated
pub word-few : (C : Circuit) (first word : GateNetwork) → length first.gates ≤ network_gates C → take C.inputs first.gates ≡ input_gates C.inputs → Grows first word
    → length word.gates ≤ length first.gates + check_gates (length C.outputs) → sum_by most_lines word.gates ≤ word_gates C
word-few C first word few front grows checks =
    let all = lines-pushed C.inputs word.gates (front-kept first word C.inputs grows front) in
    omega (arith, all, few, checks)

-- the square of a number and one
pub square : (n : ℕ) → (n + 1) ^ 2 ≡ n * n + 2 * n + 1
square n = pow-suc (n + 1) 1 ∙ ap (λ (m : ℕ). m * (n + 1)) one ∙ omega (arith, mul-add (n + 1) n 1, add-mul n 1 n)
  where
    one : (n + 1) ^ 1 ≡ n + 1
    one = pow-suc (n + 1) 0 ∙ ap (λ (m : ℕ). m * (n + 1)) (pow-zero (n + 1)) ∙ omega arith

-- no more than 64 checks belong to 64 outputs
pub few-checks : (code : Code) (outputs checks : ℕ) → HasWidth code outputs checks → outputs ≤ 64 → checks ≤ 64
few-checks Parity outputs checks w few = absurd w
few-checks Berger outputs checks w few = let least : checks ≤ 7 = w.1 7 (omega (arith, few)) in omega (arith, least)
few-checks MOutOfN outputs checks w few = omega (arith, w, few)

pub square-small : (n : ℕ) → n ≤ 64 → n * n ≤ 4096
square-small n le = let h : n * n ≤ 64 * 64 = mul-le-mul le le in omega (arith, h)

-- the checker of an unordered code has at most so many gates
pub checker-most : (P : CodePlan) (code : Code) → P.code ≡ code → IsUnorderedCode code → HasWidth code P.outputs (length P.checks)
    → checker_size P ≤ 2 * (P.outputs * P.outputs) + 9 * P.outputs + 2 * (P.latches * P.latches) + 8 * P.latches + 21
checker-most P code is unordered width =
    subst (λ (c : Code). code_gates c P + stretch_gates P.latches P.latches + 6 * (code_pairs_most c P + 1) + 3 ≤ 2 * (P.outputs * P.outputs) + 9 * P.outputs + 2 * (P.latches * P.latches) + 8 * P.latches + 21) (sym is)
    (by code unordered width)
  where
    by : (c : Code) → IsUnorderedCode c → HasWidth c P.outputs (length P.checks)
        → code_gates c P + stretch_gates P.latches P.latches + 6 * (code_pairs_most c P + 1) + 3 ≤ 2 * (P.outputs * P.outputs) + 9 * P.outputs + 2 * (P.latches * P.latches) + 8 * P.latches + 21
    by Parity u w = absurd u
    by Berger u w = omega arith
    by MOutOfN u w = let same : length P.checks * length P.checks ≡ P.outputs * P.outputs = ap (λ (n : ℕ). n * n) w in omega (arith, w, same)

-- a netlist with so many gates for its word, a buffer for each line and the checker keeps the bound
pub netlist-few : (C : Circuit) (code : Code) (P : CodePlan) (gates lines checker checks nodes : ℕ) → P.code ≡ code → IsUnorderedCode code → P.outputs ≡ length C.outputs → length P.checks ≡ checks
    → P.latches ≡ 0 → HasWidth code (length C.outputs) checks → 0 < length C.outputs → length C.outputs ≤ 64 → gates ≤ word_gates C → lines ≡ length C.outputs + checks → checker ≤ checker_size P
    → nodes ≤ gates + lines + checker → nodes ≤ unate_bound C
netlist-few C code P gates lines checker checks nodes is unordered outputs counted latches width some few word line check all =
    let checks_few = few-checks code (length C.outputs) checks width few in
    let wide = square (length C.outputs) in
    let shaped : HasWidth code P.outputs (length P.checks) = subst (λ (n : ℕ). HasWidth code n (length P.checks)) (sym outputs) (subst (HasWidth code (length C.outputs)) (sym counted) width) in
    let most = checker-most P code is unordered shaped in
    let same : P.outputs * P.outputs ≡ length C.outputs * length C.outputs = ap (λ (n : ℕ). n * n) outputs in
    let none : P.latches * P.latches ≡ 0 = ap (λ (n : ℕ). n * n) latches in
    omega (arith, checks_few, wide, most, same, none, latches, outputs, word, line, check, all, some)
