-- What a wide audit answers of a netlist without latches an audit answers.
use Rattle.std.proofs.Common.{◌≡◌, ℕ, ◌⊎◌, Bool, List, [], ◌∷◌, ◌++◌, codes, length, refl, sym, ◌∙◌, ap, arith}
use Rattle.std.specs.Fmt.{decimal}
use Rattle.std.proofs.Math.Logic.{⊎_elim}
use Rattle.std.proofs.lemmas.Fmt.{decimal_digit}
use Rattle.tsc_bits.specs.Bits.{binary, bits_of}
use Rattle.tsc_bits.proofs.Bits.{bits_of-binary}
use Rattle.fault_secure.specs.CodePlan.{CodePlan}
use Rattle.fault_secure.specs.Logic.{Network}
use Rattle.tsc_net.specs.NetlistOf.{NetlistOf}
use Rattle.sim_text.specs.StepLine.{bits_word}
use Rattle.audit.specs.Verdict.{IsVerdict}
use Rattle.audit.specs.declared.verdict.Reason.{Reason}
use Rattle.audit.specs.declared.verdict.Reason.TheVariants as reason
use Rattle.audit.specs.declared.verdict.Verdict.TheVariants as verdict
use Rattle.wide_audit.specs.WideVerdict.{IsWideVerdict}
use Rattle.wide_audit.specs.declared.verdict.WideReason.{WideReason}
use Rattle.wide_audit.specs.declared.verdict.WideReason.TheVariants.{Structure, Word, Output}
use Rattle.wide_audit.specs.declared.verdict.WideVerdict.TheVariants.{No}
use Rattle.wide_audit.proofs.Verdicts.{is_plain, no_latch_where_latched}
use Rattle.wide_answers.specs.WideText.{input_words, wide_reason_text}
use Rattle.netlist_answers.specs.VerdictText.{number_word, point_words, reason_text}
use Rattle.commands.specs.declared.source_format.SourceFormat.TheVariants.{Blif}
use Rattle.text_sections.specs.Denoted.{netlist_in, second_netlist_in, second_plan_in}
use Rattle.wide_laws.specs.WideLaws.{WideNoIsNo, WideYesIsYes}

pub wide_yes_is_yes : WideYesIsYes
wide_yes_is_yes rows text answer is = record { verdict = is.verdict.1; cells = is.cells; secure = is.secure; written = is.written }

-- the reason as an audit has it, which reads an input as a number
abbrev plain_reason : WideReason → Reason
plain_reason (Structure why) = why
plain_reason (Word input) = reason.Word 0 (binary input)
plain_reason (Output input place) = reason.Output 0 (binary input) place

zero_is : decimal 0 ≡ 48 ∷ []
zero_is = decimal_digit 0 (omega arith)

-- state 0 and an input are told alike
same_point : (net : NetlistOf) (input : List Bool) → length input ≡ net.circuit.inputs → input_words input ≡ point_words net 0 (binary input)
same_point net input sized =
    let bits : bits_of net.circuit.inputs (binary input) ≡ input = ap (λ n. bits_of n (binary input)) (sym sized) ∙ bits_of-binary input in
    ap (λ b. codes " 0 " ++ bits_word b) (sym bits) ∙ ap (λ z. (32 ∷ z) ++ 32 ∷ bits_word (bits_of net.circuit.inputs (binary input))) (sym zero_is)

same_text : (rows : ℕ) (S : NetlistOf) (net : NetlistOf) (plan : CodePlan) (why : WideReason) → IsWideVerdict rows S.circuit net.circuit plan (No why)
    → wide_reason_text net why ≡ reason_text net (plain_reason why)
same_text rows S net plan (Structure why) is = refl
same_text rows S net plan (Word input) is = ap (λ p. codes "word" ++ p) (same_point net input is.1)
same_text rows S net plan (Output input place) is = ap (λ p. codes "output" ++ (p ++ number_word place)) (same_point net input is.1)

-- the verdict is the audit's, where there is no latch
same_verdict : (rows : ℕ) (S net : NetlistOf) (plan : CodePlan) (why : WideReason) → length net.circuit.latches ≡ 0 → IsWideVerdict rows S.circuit net.circuit plan (No why)
    → IsVerdict (Network S.circuit) net.circuit plan (verdict.No (plain_reason why))
same_verdict rows S net plan (Structure why) latchless is = ⊎_elim (λ same. same) (λ latched. absurd (no_latch_where_latched S.circuit net.circuit plan latched.0 latchless)) (is_plain rows S.circuit net.circuit plan (No (Structure why)) is)
same_verdict rows S net plan (Word input) latchless is = is.2
same_verdict rows S net plan (Output input place) latchless is = is.2

pub wide_no_is_no : WideNoIsNo
wide_no_is_no rows text answer latchless is =
    let net = second_netlist_in Blif text in
    let plan = second_plan_in Blif text in
    record {
      reason = plain_reason is.reason;
      verdict = same_verdict rows (netlist_in text) net plan is.reason latchless is.verdict;
      written = is.written ∙ ap (λ w. (codes "no " ++ w) ++ 10 ∷ []) (same_text rows (netlist_in text) net plan is.reason is.verdict);
    }
