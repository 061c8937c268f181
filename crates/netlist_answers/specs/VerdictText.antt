-- The line of a verdict: `yes`, or `no` and its first reason.
use Rattle.std.specs.Prelude.{ℕ, List, [], ◌∷◌, ◌++◌, codes}
use Rattle.std.specs.Fmt.{decimal}
use Rattle.audit.specs.declared.verdict.Shape.{Shape}
use Rattle.audit.specs.declared.verdict.Shape.TheVariants.{Inputs, Outputs, States}
use Rattle.audit.specs.declared.verdict.Reason.{Reason}
use Rattle.audit.specs.declared.verdict.Reason.TheVariants as reason
use Rattle.audit.specs.declared.verdict.Verdict.{Verdict}
use Rattle.audit.specs.declared.verdict.Verdict.TheVariants.{Yes, No}
use Rattle.tsc_bits.specs.Bits.{bits_of}
use Rattle.tsc_net.specs.Names.{text_at}
use Rattle.tsc_net.specs.NetlistOf.{NetlistOf}
use Rattle.tsc_net.specs.declared.ids.NetId.{NetId}
use Rattle.sim_text.specs.StepLine.{bits_word}

-- a blank and the name of a net
abbrev pub net_word : NetlistOf → NetId → List ℕ
net_word net at = 32 ∷ text_at net.names at.number

-- a blank and a number
abbrev pub number_word : ℕ → List ℕ
number_word number = 32 ∷ decimal number

-- a blank and so many bits of a number, as a word: `.` where there is none
abbrev pub value_word : ℕ → ℕ → List ℕ
value_word width value = 32 ∷ bits_word (bits_of width value)

-- ` STATE INPUT`
abbrev pub point_words : NetlistOf → ℕ → ℕ → List ℕ
point_words net state input = number_word state ++ value_word net.circuit.inputs input

-- `shape` and what differs
abbrev pub shape_text : Shape → List ℕ
shape_text Inputs = codes "shape inputs"
shape_text Outputs = codes "shape outputs"
shape_text States = codes "shape states"

-- a reason in words; a node is told by the name of the net that it drives
abbrev pub reason_text : NetlistOf → Reason → List ℕ
reason_text net (reason.Shape shape) = shape_text shape
reason_text net (reason.Rails at) = codes "rails" ++ net_word net at
reason_text net (reason.Reads node pin) = codes "reads" ++ (net_word net node ++ number_word pin)
reason_text net (reason.Sign node pin) = codes "sign" ++ (net_word net node ++ number_word pin)
reason_text net reason.Latched = codes "latched"
reason_text net (reason.Shares group first second node) =
    codes "shares" ++ (number_word group ++ (net_word net first ++ (net_word net second ++ net_word net node)))
reason_text net reason.Reset = codes "reset"
reason_text net (reason.Next state input) = codes "next" ++ point_words net state input
reason_text net (reason.Word state input) = codes "word" ++ point_words net state input
reason_text net (reason.Output state input bit) = codes "output" ++ (point_words net state input ++ number_word bit)
reason_text net (reason.CheckerWord value width) = codes "checker" ++ value_word width value
reason_text net (reason.CheckerNet at) = codes "checker net" ++ net_word net at

-- `yes`, or `no` and the reason
abbrev pub verdict_words : NetlistOf → Verdict → List ℕ
verdict_words net Yes = codes "yes"
verdict_words net (No reason) = codes "no " ++ reason_text net reason

-- the line of a verdict on a netlist
abbrev pub verdict_text : NetlistOf → Verdict → List ℕ
verdict_text net verdict = verdict_words net verdict ++ 10 ∷ []
