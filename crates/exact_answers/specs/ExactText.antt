-- The line of an exact verdict: `yes`, or `no` and its first reason.
use Rattle.std.specs.Prelude.{ℕ, Bool, List, [], ◌∷◌, ◌++◌, codes}
use Rattle.behaviour_audit.specs.declared.reason.BehaviourReason.{BehaviourReason}
use Rattle.behaviour_audit.specs.declared.reason.BehaviourReason.TheVariants as behaviour
use Rattle.unheard_cells.specs.declared.reason.PointReason.{PointReason}
use Rattle.unheard_cells.specs.declared.reason.PointReason.TheVariants as point
use Rattle.exact_audit.specs.declared.verdict.ExactReason.{ExactReason}
use Rattle.exact_audit.specs.declared.verdict.ExactReason.TheVariants as reason
use Rattle.exact_audit.specs.declared.verdict.ExactVerdict.{ExactVerdict}
use Rattle.exact_audit.specs.declared.verdict.ExactVerdict.TheVariants.{Yes, No}
use Rattle.tsc_net.specs.NetlistOf.{NetlistOf}
use Rattle.sim_text.specs.StepLine.{digit}
use Rattle.netlist_answers.specs.VerdictText.{net_word, number_word, point_words, shape_text}

-- a blank and a bit
abbrev pub bit_word : Bool → List ℕ
bit_word bit = 32 ∷ digit bit ∷ []

-- what is wrong without a fault, in the words of an audit
abbrev pub behaviour_text : NetlistOf → BehaviourReason → List ℕ
behaviour_text net behaviour.Reset = codes "reset"
behaviour_text net (behaviour.Next state input) = codes "next" ++ point_words net state input
behaviour_text net (behaviour.Word state input) = codes "word" ++ point_words net state input
behaviour_text net (behaviour.Output state input bit) = codes "output" ++ (point_words net state input ++ number_word bit)

-- `quiet STATE INPUT` where the rails agree without a fault, and `alarm NET V STATE INPUT` where a failing cell is unheard
abbrev pub point_text : NetlistOf → PointReason → List ℕ
point_text net (point.Quiet state input) = codes "quiet" ++ point_words net state input
point_text net (point.Alarm at value state input) = codes "alarm" ++ (net_word net at ++ (bit_word value ++ point_words net state input))

-- a reason in words
abbrev pub reason_text : NetlistOf → ExactReason → List ℕ
reason_text net (reason.Shape shape) = shape_text shape
reason_text net (reason.Behaviour why) = behaviour_text net why
reason_text net (reason.Point why) = point_text net why

-- `yes`, or `no` and the reason
abbrev pub exact_words : NetlistOf → ExactVerdict → List ℕ
exact_words net Yes = codes "yes"
exact_words net (No why) = codes "no " ++ reason_text net why

-- the line of a verdict on a netlist
abbrev pub exact_text : NetlistOf → ExactVerdict → List ℕ
exact_text net verdict = exact_words net verdict ++ 10 ∷ []
