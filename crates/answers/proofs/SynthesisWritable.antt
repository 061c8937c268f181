-- A text can hold what a synthesis answers.
use Rattle.std.proofs.Common.{◌≡◌, ℕ, ◌≤◌, Bool, true, false, List, ◌++◌, length, All, None, refl, arith}
use Rattle.std.proofs.lemmas.Bool.{ltb-false}
use Rattle.tsc_text.specs.Bytes.{bad_line}
use Rattle.tsc_text.specs.Lines.{lines_of}
use Rattle.tsc_text.specs.TextLine.{TextLine}
use Rattle.fault_secure.specs.CodePlan.{CodePlan}
use Rattle.fault_secure.specs.Logic.{StateTable}
use Rattle.fault_secure.specs.Logic.Logic.{Network, States}
use Rattle.fault_secure.specs.declared.code.Code.{Code}
use Rattle.synth_ways.specs.declared.way.Way.{Way}
use Rattle.synth_ways.specs.declared.way.Way.TheVariants.{Parity, Duplex, Berger, MOutOfN}
use Rattle.tsc_net.specs.NetlistOf.{NetlistOf, IsBuilt}
use Rattle.table_lines.specs.Denotes.{HasWords, IsName, IsShort}
use Rattle.kiss_read.specs.NamesText.{input_names, output_names}
use Rattle.kiss_read.specs.Selections.{inputs_of, is_of, outputs_of}
use Rattle.kiss_read.specs.declared.kinds.LineKind.TheVariants.{InputNames, OutputNames}
use Rattle.blif_write.specs.Writable.{IsGoodName, IsWritable}
use Rattle.code_checkers.specs.SelfChecking.{IsSelfChecking}
use Rattle.tsc_bits.specs.Lists.{AreApart}
use Rattle.machine_synth.specs.MachineBound.{machine_bound}
use Rattle.machine_synth.specs.MachineNetlist.{IsMachineNetlist}
use Rattle.tsc_synth.specs.WayNetlist.{IsNetlistOf}
use Rattle.tsc_synth.specs.CoverBound.{cover_bound, is_too_large}
use Rattle.tsc_synth.specs.MachineLimits.{has_too_many_states, takes_too_many_covers}
use Rattle.text_sections.specs.Denoted.{machine_lines}
use Rattle.text_sections.specs.Refused.{first_of}
use Rattle.answers.specs.Refused.{limits_refusal, size_refusal, states_refusal}
use Rattle.answers.proofs.TableNames.{table_names_good}
use Rattle.answers.proofs.MachineWritable.{machine_writable}
use Rattle.answers.proofs.StatedWritable.{duplex_writable, parity_writable}
use Rattle.answers.proofs.UnateWritable.{unate_writable}

-- what isn't refused for its size is not too large
fits_within : (large : Bool) → size_refusal large ≡ None → large ≡ false
fits_within false e = refl
fits_within true e = cc

-- nor has a machine too many states that isn't refused for a limit
keeps_limits : (many large : Bool) → first_of (states_refusal many) (size_refusal large) ≡ None → (many ≡ false) × (large ≡ false)
keeps_limits false false e = (refl, refl)
keeps_limits false true e = cc
keeps_limits true large e = cc

-- of a network that a text can hold
pub network_writable : (way : Way) (S N : NetlistOf) (P : CodePlan) → IsBuilt S → IsWritable S → length S.circuit.latches ≡ 0 → AreApart S.circuit.outputs
    → IsBuilt N → IsSelfChecking (Network S.circuit) N.circuit P → IsNetlistOf way S N P
    → length N.circuit.nodes ≤ cover_bound way S.circuit → size_refusal (is_too_large way S.circuit) ≡ None → IsWritable N
network_writable way S N P source writable none once checked secure exact covers fits = by way exact
  where
    small : length N.circuit.nodes ≤ 1048576
    small =
        let most : cover_bound way S.circuit ≤ 1048576 = ltb-false 1048576 (cover_bound way S.circuit) (fits_within (is_too_large way S.circuit) fits) in
        omega (arith, covers, most)

    by : (w : Way) → IsNetlistOf w S N P → IsWritable N
    by Parity same = parity_writable S N P source writable none once secure same small
    by Duplex same = duplex_writable S N P source writable none once secure same small
    by Berger same = unate_writable S N P source writable once checked secure same small
    by MOutOfN same = unate_writable S N P source writable once checked secure same small

-- of a machine that was read from a text
pub machine_text_writable : (code : Code) (text : List ℕ) (lines : List TextLine) (M : StateTable) (inputs outputs : List (List ℕ)) (N : NetlistOf) (P : CodePlan)
    → lines ≡ lines_of text → bad_line text ≡ None → inputs ≡ input_names (machine_lines lines) → outputs ≡ output_names (machine_lines lines)
    → length inputs ≡ M.inputs → length outputs ≡ M.outputs → M.inputs ≤ 64 → M.outputs ≤ 64
    → All IsShort (inputs ++ outputs) → (All HasWords lines → All IsName (inputs ++ outputs))
    → IsBuilt N → IsSelfChecking (States M) N.circuit P → IsMachineNetlist M inputs outputs N P
    → length N.circuit.nodes ≤ machine_bound M code → limits_refusal code M ≡ None → IsWritable N
machine_text_writable code text lines M inputs outputs N P are allowed inputs_are outputs_are count_inputs count_outputs few_inputs few_outputs short words checked secure exact covers fits =
    let limits = keeps_limits (has_too_many_states M) (takes_too_many_covers code M) fits in
    let states : M.states ≤ 924 = ltb-false 924 M.states limits.0 in
    let most : machine_bound M code ≤ 1048576 = ltb-false 1048576 (machine_bound M code) limits.1 in
    let good : All IsGoodName (inputs ++ outputs) =
    table_names_good (is_of InputNames) (is_of OutputNames) (inputs_of (machine_lines lines)) (outputs_of (machine_lines lines)) text lines inputs outputs are allowed inputs_are outputs_are (omega (arith, count_inputs, few_inputs)) (omega (arith, count_outputs, few_outputs)) short words in
    machine_writable M inputs outputs N P few_inputs few_outputs states count_inputs count_outputs good checked secure exact (omega (arith, covers, most))
