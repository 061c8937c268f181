-- The line of a wide verdict: `yes`, or `no` and its first reason, in the words of an audit. A wide audit knows state 0 alone.
use Rattle.std.specs.Prelude.{ℕ, Bool, List, [], ◌∷◌, ◌++◌, codes}
use Rattle.tsc_net.specs.NetlistOf.{NetlistOf}
use Rattle.wide_audit.specs.declared.verdict.WideReason.{WideReason}
use Rattle.wide_audit.specs.declared.verdict.WideReason.TheVariants.{Structure, Word, Output}
use Rattle.wide_audit.specs.declared.verdict.WideVerdict.{WideVerdict}
use Rattle.wide_audit.specs.declared.verdict.WideVerdict.TheVariants.{Yes, No}
use Rattle.sim_text.specs.StepLine.{bits_word}
use Rattle.netlist_answers.specs.VerdictText.{number_word, reason_text}

-- ` 0 INPUT`
abbrev pub input_words : List Bool → List ℕ
input_words input = codes " 0 " ++ bits_word input

-- a reason in words
abbrev pub wide_reason_text : NetlistOf → WideReason → List ℕ
wide_reason_text net (Structure why) = reason_text net why
wide_reason_text net (Word input) = codes "word" ++ input_words input
wide_reason_text net (Output input bit) = codes "output" ++ (input_words input ++ number_word bit)

-- `yes`, or `no` and the reason
abbrev pub wide_words : NetlistOf → WideVerdict → List ℕ
wide_words net Yes = codes "yes"
wide_words net (No why) = codes "no " ++ wide_reason_text net why

-- the line of a verdict on a netlist
abbrev pub wide_text : NetlistOf → WideVerdict → List ℕ
wide_text net verdict = wide_words net verdict ++ 10 ∷ []
