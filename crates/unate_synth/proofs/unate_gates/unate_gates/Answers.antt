use Rattle.std.proofs.Common.{◌≡◌, ℕ, ◌+◌, ◌-◌, ◌≤◌, ◌∙◌, ap, length, length-append, subst, arith}
use Rattle.std.specs.List.{sum_by}
use Rattle.fault_secure.specs.CodePlan.{HasWidth}
use Rattle.push_negations.specs.Pushed.{most_lines}
use Rattle.unate_synth.specs.Size.{check_gates, word_gates}
use Rattle.unate_synth.proofs.Sizes.{word-few, square-small}
use Rattle.unate_synth.proofs.UnateLines.{unate_lines, lines_counted, kept_inputs}
use Rattle.gate_net.proofs.NetLines.{no_states}
use Rattle.unate_synth.proofs.unate_gates.unate_gates.Goals as goal
use Rattle.unate_synth.proofs.unate_gates.unate_gates.Goals.{In_ok-gates, In_ok-word}

-- a line was made for each output
counted : (c : In_ok-gates) → length c.in_ok-gates.field-0.outputs ≡ length c.args.source.now.circuit.outputs
counted c = lines_counted c.args.source.now.circuit c.in_ok-gates.field-0.gates c.in_ok-gates.field-0.outputs c.nets-source.ensures.checked.acyclic c.in_ok-gates.ensures.values

-- pushing the negations makes as many gates as stated
pushed : (c : In_ok-word) → length c.in_ok-gates.field-0.outputs ≡ length c.args.source.now.circuit.outputs → sum_by most_lines c.word_lines.new.gates.gates ≤ word_gates c.args.source.now.circuit
pushed c many =
    word-few c.args.source.now.circuit c.in_ok-gates.field-0.gates c.word_lines.new.gates c.in_ok-gates.ensures.few c.in_ok-gates.ensures.first c.in_ok-word.ensures.grows
    (subst (λ (n : ℕ). length c.word_lines.new.gates.gates ≤ length c.in_ok-gates.field-0.gates.gates + check_gates n) many c.in_ok-word.ensures.few)

pub returns-clause-unate : goal.returns-clause-unate
returns-clause-unate c =
    let first = c.in_ok-gates.field-0 in
    unate_lines c.args.source.now.circuit c.args.code first.gates c.word_lines.new.gates c.in_ok-made.made.gates first.outputs c.in_ok-word.word c.in_ok-made.made.outputs
    c.requires.combinational c.nets-source.ensures.checked.acyclic c.in_ok-gates.ensures.lines c.in_ok-gates.ensures.values c.in_ok-word.ensures.word
    c.in_ok-made.ensures.count c.in_ok-made.ensures.values c.in_ok-made.ensures.sound c.in_ok-made.ensures.negations c.in_ok-made.ensures.lines

pub word_lines-requires-clause-some : goal.word_lines-requires-clause-some
word_lines-requires-clause-some c = omega (arith, counted (goal.at.word_lines-requires-clause-some c).In_ok-gates, c.nets-source.ensures.checked.closed.some_output)

pub word_lines-requires-clause-few : goal.word_lines-requires-clause-few
word_lines-requires-clause-few c = omega (arith, counted (goal.at.word_lines-requires-clause-few c).In_ok-gates, c.requires.few)

pub push-requires-clause-stateless : goal.push-requires-clause-stateless
push-requires-clause-stateless c =
    no_states c.word_lines.new.gates c.len-gates.ensures.sound (c.in_ok-word.ensures.grows.states ∙ c.in_ok-gates.ensures.states)

pub push-requires-clause-room : goal.push-requires-clause-room
push-requires-clause-room c =
    let most = pushed (goal.at.push-requires-clause-room c).In_ok-word (counted (goal.at.push-requires-clause-room c).In_ok-gates) in
    omega (arith, most, square-small (length c.args.source.now.circuit.outputs) c.requires.few, c.requires.small, c.requires.few)

pub word_lines-requires-clause-room : goal.word_lines-requires-clause-room
word_lines-requires-clause-room c =
    let many = counted (goal.at.word_lines-requires-clause-room c).In_ok-gates in
    let square = square-small (length c.in_ok-gates.field-0.outputs) (omega (arith, many, c.requires.few)) in
    omega (arith, square, c.in_ok-gates.ensures.few, c.requires.small, many, c.requires.few)

pub returns-clause-few : goal.returns-clause-few
returns-clause-few c = omega (arith, pushed (goal.at.returns-clause-few c).In_ok-word (counted (goal.at.returns-clause-few c).In_ok-gates), c.in_ok-made.ensures.size)

pub returns-clause-width : goal.returns-clause-width
returns-clause-width c =
    let first = c.in_ok-gates.field-0 in
    let many = counted (goal.at.returns-clause-width c).In_ok-gates in
    let rest : length c.in_ok-word.word - length first.outputs ≡ length c.in_ok-made.made.outputs - length c.args.source.now.circuit.outputs = omega (arith, many, c.in_ok-made.ensures.count) in
    subst (HasWidth c.args.code (length c.args.source.now.circuit.outputs)) rest
    (subst (λ (n : ℕ). HasWidth c.args.code n (length c.in_ok-word.word - length first.outputs)) many c.in_ok-word.ensures.width)

pub returns-clause-means : goal.returns-clause-means
returns-clause-means c =
    let C = c.args.source.now.circuit in
    let first = c.in_ok-gates.field-0 in
    let word = c.in_ok-word.ensures.word in
    kept_inputs C first.gates c.word_lines.new.gates c.in_ok-made.made.gates c.in_ok-word.ensures.grows C.outputs first.outputs word.checks c.in_ok-word.word c.in_ok-made.made.outputs
    c.in_ok-gates.ensures.lines c.in_ok-gates.ensures.means word.joined c.in_ok-made.ensures.means

pub returns-clause-longer : goal.returns-clause-longer
returns-clause-longer c =
    let word = c.in_ok-word.ensures.word in
    let all : length c.in_ok-word.word ≡ length c.in_ok-gates.field-0.outputs + length word.checks = ap length word.joined ∙ length-append c.in_ok-gates.field-0.outputs word.checks in
    omega (arith, counted (goal.at.returns-clause-longer c).In_ok-gates, all, c.in_ok-made.ensures.count)
