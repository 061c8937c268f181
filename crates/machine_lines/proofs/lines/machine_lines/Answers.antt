use Rattle.std.proofs.Common.{ℕ, ◌+◌, length, List, sym, ◌∙◌, ap, subst, arith}
use Rattle.std.proofs.lemmas.List.{length-map}
use Rattle.tsc_bits.specs.Bits.{bits_of}
use Rattle.fault_secure.specs.CodePlan.{HasWidth}
use Rattle.gate_net.specs.Gates.{GateNetwork, IsHashed}
use Rattle.state_code.proofs.Without.{keeps_signs}
use Rattle.machine_lines.specs.MachineSize.{row_count}
use Rattle.machine_lines.specs.Cases.{choices_before}
use Rattle.machine_lines.specs.declared.cases.Case.{Case}
use Rattle.machine_lines.specs.declared.widths.Widths.{Widths}
use Rattle.machine_lines.proofs.Sizes.{choices_most, within_size}
use Rattle.machine_lines.proofs.MachineWord.{zero_negates, word_chosen}
use Rattle.machine_lines.proofs.lines.machine_lines.Goals as goal

pub word_lines-requires-clause-room : goal.word_lines-requires-clause-room
word_lines-requires-clause-room c =
    let M = c.args.machine.now.table in
    let n = c.args.codes.now.n in
    let W : Widths = record { outputs = c.outputs-outputs.result; checks = c.checks_of-checks.result; bits = c.args.codes.now.n } in
    let words = c.args.codes.now.words.words in
    let counted = sym (length-map words (bits_of n)) ∙ c.requires.words.count in
    let most = choices_most W c.in_ok-cases.cases (row_count M) M.states c.in_ok-cases.ensures.count c.in_ok-cases.ensures.ones in
    let choices = choices_before W c.in_ok-cases.cases (W.outputs + W.checks + W.bits) in
    let same_choices = ap (λ (cases : List Case). choices_before W cases (W.outputs + W.checks + W.bits)) c.as_slice-2.ensures.whole in
    let size = within_size (row_count M) M.states M.inputs M.outputs W.checks n (length words) W.outputs choices (omega (arith, c.states-states.ensures.sound.reset)) counted c.outputs-outputs.ensures.outputs most in
    let none = ap (λ (G : GateNetwork). length G.gates) c.new-gates.ensures.empty in
    let small = c.requires.small W.checks (subst (λ (outputs : ℕ). HasWidth c.args.code outputs W.checks) c.outputs-outputs.ensures.outputs c.checks_of-checks.ensures.width) in
    omega (arith, size, same_choices, none, c.add.ensures.few, c.decode.ensures.few, c.machine_cases.ensures.few, small)

pub returns-clause-lines : goal.returns-clause-lines
returns-clause-lines c =
    let M = c.args.machine.now.table in
    let W : Widths = record { outputs = c.outputs-outputs.result; checks = c.checks_of-checks.result; bits = c.args.codes.now.n } in
    let one = c.add.new.self in
    let two = c.decode.new.gates in
    let three = c.machine_cases.new.gates in
    let four = c.word_lines.new.gates in
    let negates_one = zero_negates c.new-gates.result one c.inputs.result c.args.codes.now.n c.new-gates.ensures.empty c.in_ok-zero.ensures.once in
    let negates_two = keeps_signs one two c.add.ensures.sound negates_one c.decode.ensures.grown c.decode.ensures.positive in
    let negates_three = c.machine_cases.ensures.signs negates_two in
    let negates_four = keeps_signs three four (subst IsHashed c.gates-3.view_is c.gates-3.invariant) negates_three c.word_lines.ensures.grown.grows c.word_lines.ensures.grown.none in
    word_chosen c.args.code W c.args.codes.now.words.words M one two three four c.in_ok-decoded.decoded c.as_slice.result.now c.in_ok-word.word c.in_ok-cases.cases c.as_slice-2.result.now c.outputs-outputs.ensures.outputs
    c.in_ok-decoded.ensures.lines c.as_slice.ensures.whole c.in_ok-cases.ensures.value c.as_slice-2.ensures.whole c.in_ok-word.ensures.lines (subst IsHashed c.gates-4.view_is c.gates-4.invariant) negates_four

pub returns-clause-few : goal.returns-clause-few
returns-clause-few c =
    let M = c.args.machine.now.table in
    let n = c.args.codes.now.n in
    let W : Widths = record { outputs = c.outputs-outputs.result; checks = c.checks_of-checks.result; bits = c.args.codes.now.n } in
    let words = c.args.codes.now.words.words in
    let counted = sym (length-map words (bits_of n)) ∙ c.requires.words.count in
    let most = choices_most W c.in_ok-cases.cases (row_count M) M.states c.in_ok-cases.ensures.count c.in_ok-cases.ensures.ones in
    let choices = choices_before W c.in_ok-cases.cases (W.outputs + W.checks + W.bits) in
    let same_choices = ap (λ (cases : List Case). choices_before W cases (W.outputs + W.checks + W.bits)) c.as_slice-2.ensures.whole in
    let size = within_size (row_count M) M.states M.inputs M.outputs W.checks n (length words) W.outputs choices (omega (arith, c.states-states.ensures.sound.reset)) counted c.outputs-outputs.ensures.outputs most in
    let none = ap (λ (G : GateNetwork). length G.gates) c.new-gates.ensures.empty in
    omega (arith, size, same_choices, none, c.add.ensures.few, c.decode.ensures.few, c.machine_cases.ensures.few, c.word_lines.ensures.few)
