-- What a synthesis answers is read by the other commands, and accepted by an audit after its source; test vectors are determined by
-- the text; and three wrong answers: the statements of the laws.
use Rattle.std.specs.Prelude.{◌≡◌, ◌↔◌, ◌<◌, ◌≤◌, ℕ, List, [], ◌∷◌, ◌++◌, length, codes, Option, None}
use Rattle.tsc_text.specs.Joined.{HasNoOpenLine}
use Rattle.tsc_text.specs.Lines.{lines_of}
use Rattle.tsc_text.specs.Section.{section_of}
use Rattle.tsc_text.specs.declared.section.End.{End}
use Rattle.tsc_text.specs.declared.section.End.TheVariants.{Blif as BlifEnd, Kiss as KissEnd}
use Rattle.fault_secure.specs.declared.code.Code.{Code}
use Rattle.synth_ways.specs.declared.way.Way.{Way}
use Rattle.fault_secure.specs.Circuit.{Circuit}
use Rattle.fault_secure.specs.CodePlan.{CodePlan}
use Rattle.fault_secure.specs.Exposing.{IsSelfTesting}
use Rattle.audit.specs.Verdict.{audit_points}
use Rattle.blif_read.specs.declared.kinds.Kind.TheVariants.{Source}
use Rattle.blif_write.specs.Examples.{with_feeds}
use Rattle.vectors.specs.Vectors.{AreTests}
use Rattle.lane_sim.specs.declared.point.Point.{Point}
use Rattle.commands.specs.declared.command.Command.TheVariants.{Audit, AuditExact, Faults, SynthPla, Vectors, Sim}
use Rattle.commands.specs.declared.sim_words.SimFault.TheVariants.{NoFault}
use Rattle.commands.specs.declared.source_format.SourceFormat.{SourceFormat}
use Rattle.commands.specs.declared.source_format.SourceFormat.TheVariants.{Blif, Kiss, Pla}
use Rattle.netlist_answers.specs.Answers.{IsVectorList}
use Rattle.answers.specs.Commands.{IsAnswer, IsNo, refusal_of}
use Rattle.answers.specs.Answers.{AnswerTable, IsLooseSynthesis, IsSynthesis, IsMachineSynthesis}
use Rattle.text_sections.specs.Denoted.{frees_in, netlist_in, plan_in, source_in, table_in, values_in}
use Rattle.text_sections.specs.Refused.{machine_text_refusal, pla_text_refusal, text_refusal}
use Rattle.netlist_answers.specs.Refused.{has_too_many_points, points_refusal}
use Rattle.netlist_answers.specs.VectorList.{untestable}

-- the commands that read a netlist refuse this text neither for its faults nor for a simulation without a fault and without steps, and
-- for its test vectors only for the number of its points; its length is no matter of a refusal of the text
pub record IsReadByAll (answer : List ℕ) : Type 0 where
  pub faults : refusal_of Faults answer ≡ None
  pub tested : refusal_of Vectors answer ≡ points_refusal (has_too_many_points (netlist_in answer).circuit (plan_in answer))
  pub simulated : refusal_of (Sim NoFault) answer ≡ None

abbrev pub AnswersAreRead : Type 0
AnswersAreRead = (way : Way) (text answer : List ℕ) → IsSynthesis way text answer → IsReadByAll answer

abbrev pub MachineAnswersAreRead : Type 0
MachineAnswersAreRead = (code : Code) (text answer : List ℕ) → IsMachineSynthesis code text answer → IsReadByAll answer

abbrev pub LooseAnswersAreRead : Type 0
LooseAnswersAreRead = (way : Way) (text answer : List ℕ) → IsLooseSynthesis way text answer → IsReadByAll answer

-- after this source another section can stand in one text: the text ends in an LF after a line that doesn't go on, and the source's
-- own end line is there
pub record IsEndedSource (end : End) (text : List ℕ) : Type 0 where
  pub body : List ℕ
  pub fed : text ≡ body ++ 10 ∷ []
  pub complete : HasNoOpenLine body
  pub ended : (section_of (lines_of text) 0 end).past < length (lines_of text)

-- the audit of the two texts in a row refuses nothing, answers `yes`, and never `no`; so does the exact audit
pub record IsAcceptedBehind (format : SourceFormat) (text answer : List ℕ) : Type 0 where
  pub allowed : refusal_of (Audit format) (text ++ answer) ≡ None
  pub yes : IsAnswer (Audit format) (text ++ answer) (codes "yes" ++ 10 ∷ [])
  pub never_no : (reply : List ℕ) → IsNo (Audit format) (text ++ answer) reply → ⊥
  pub exact : IsAnswer (AuditExact format) (text ++ answer) (codes "yes" ++ 10 ∷ [])
  pub exact_never_no : (reply : List ℕ) → IsNo (AuditExact format) (text ++ answer) reply → ⊥

-- what a synthesis answers is accepted after its source, where that has an end line and at most 1,048,576 points
abbrev pub AnswersAreAccepted : Type 0
AnswersAreAccepted = (way : Way) (text answer : List ℕ) → text_refusal Source text ≡ None → IsEndedSource BlifEnd text
    → audit_points (source_in Blif text) ≤ 1048576 → IsSynthesis way text answer → IsAcceptedBehind Blif text answer

abbrev pub MachineAnswersAreAccepted : Type 0
MachineAnswersAreAccepted = (code : Code) (text answer : List ℕ) → machine_text_refusal text ≡ None → IsEndedSource KissEnd text
    → audit_points (source_in Kiss text) ≤ 1048576 → IsMachineSynthesis code text answer → IsAcceptedBehind Kiss text answer

-- a PLA source ends as one of KISS2 does
abbrev pub LooseAnswersAreAccepted : Type 0
LooseAnswersAreAccepted = (way : Way) (text answer : List ℕ) → pla_text_refusal text ≡ None → IsEndedSource KissEnd text
    → audit_points (source_in Pla text) ≤ 1048576 → IsLooseSynthesis way text answer → IsAcceptedBehind Pla text answer

-- the two networks of a text, of which a PLA source is made, answer what its table says
abbrev pub IsAnsweredTable : List ℕ → Type 0
IsAnsweredTable text = AnswerTable (table_in text) (values_in text).circuit (frees_in text).circuit

-- so it is where nothing refuses the text for a synthesis, and where nothing does for an audit
pub record TablesAreAnswered : Type 0 where
  pub synthesised : (way : Way) (text : List ℕ) → refusal_of (SynthPla way) text ≡ None → IsAnsweredTable text
  pub audited : (text : List ℕ) → refusal_of (Audit Pla) text ≡ None → IsAnsweredTable text

-- a text has at most one list of test vectors
abbrev pub OneVectorList : Type 0
OneVectorList = (text answer other : List ℕ) → IsVectorList text answer → IsVectorList text other → answer ≡ other

-- none of the tests is `untestable` exactly where the netlist with its plan is self-testing
abbrev pub VerdictsAreRight : Type 0
VerdictsAreRight = (N : Circuit) (P : CodePlan) (tests : List (Option Point)) → AreTests N P tests → (untestable tests ≡ 0) ↔ IsSelfTesting N P

-- an answer for a network whose output is 0, except for its output, which reads a name that nothing drives: as numbers, a net past the
-- end would be 0, and all would be right
abbrev pub undriven_answer : List ℕ
undriven_answer = with_feeds (
    codes ".model model" ∷ codes ".inputs" ∷ codes ".outputs y t0_1 t0_2" ∷ codes "#tsc 1 berger" ∷ codes "#tsc check t0_0"
    ∷ codes ".names a y" ∷ codes "1 1" ∷ codes ".names t0_0" ∷ codes "1" ∷ codes ".names y t0_3" ∷ codes "0 1"
    ∷ codes ".names t0_3 t0_4" ∷ codes "0 1" ∷ codes ".names t0_4 t0_1" ∷ codes "1 1" ∷ codes ".names t0_0 t0_2" ∷ codes "1 1"
    ∷ codes ".end" ∷ [])

-- an answer with a row that is wider than its cover: as literals, it would match as the right one does
abbrev pub wide_answer : List ℕ
wide_answer = with_feeds (
    codes ".model w" ∷ codes ".inputs a" ∷ codes ".outputs a t0_1 t0_2" ∷ codes "#tsc 1 parity" ∷ codes "#tsc group a t0_0"
    ∷ codes ".names a t0_0" ∷ codes "0 1" ∷ codes ".names a t0_1" ∷ codes "1- 1" ∷ codes ".names t0_0 t0_2" ∷ codes "1 1" ∷ codes ".end" ∷ [])

-- the answer is no synthesis of any text in any way
abbrev pub IsNoSynthesis : List ℕ → Type 0
IsNoSynthesis answer = (way : Way) (text : List ℕ) → IsSynthesis way text answer → ⊥

-- a machine of two states, which begins at the first one
abbrev pub two_states : List ℕ
two_states = with_feeds (
    codes ".i 1" ∷ codes ".o 1" ∷ codes "0 A A 0" ∷ codes "1 A B 1" ∷ codes "0 B B 0" ∷ codes "1 B A 1" ∷ codes ".e" ∷ [])

-- its netlist under an m-out-of-n code, except for the first bits of its two latches: they hold the word of the second state
abbrev pub late_answer : List ℕ
late_answer = with_feeds (
    codes ".model machine" ∷ codes ".inputs i0" ∷ codes ".outputs o0 t0_5 t0_6" ∷ codes "#tsc 2 mofn"
    ∷ codes "#tsc check t0_4" ∷ codes "#tsc state 01" ∷ codes "#tsc state 10" ∷ codes ".latch t0_2 t0_0 1"
    ∷ codes ".latch t0_3 t0_1 0" ∷ codes ".names i0 t0_7" ∷ codes "0 1" ∷ codes ".names i0 t0_7 t0_8" ∷ codes "11 1"
    ∷ codes ".names t0_1 i0 t0_9" ∷ codes "11 1" ∷ codes ".names t0_0 i0 t0_10" ∷ codes "11 1"
    ∷ codes ".names t0_9 t0_10 o0" ∷ codes "1- 1" ∷ codes "-1 1" ∷ codes ".names t0_1 t0_7 t0_11" ∷ codes "11 1"
    ∷ codes ".names t0_1 t0_8 t0_12" ∷ codes "11 1" ∷ codes ".names t0_11 t0_12 t0_13" ∷ codes "1- 1" ∷ codes "-1 1"
    ∷ codes ".names t0_0 t0_7 t0_14" ∷ codes "11 1" ∷ codes ".names t0_13 t0_14 t0_15" ∷ codes "1- 1" ∷ codes "-1 1"
    ∷ codes ".names t0_0 t0_8 t0_16" ∷ codes "11 1" ∷ codes ".names t0_15 t0_16 t0_4" ∷ codes "1- 1" ∷ codes "-1 1"
    ∷ codes ".names t0_9 t0_14 t0_2" ∷ codes "1- 1" ∷ codes "-1 1" ∷ codes ".names t0_13 t0_10 t0_17" ∷ codes "1- 1"
    ∷ codes "-1 1" ∷ codes ".names t0_17 t0_16 t0_3" ∷ codes "1- 1" ∷ codes "-1 1" ∷ codes ".names o0 t0_2 t0_18"
    ∷ codes "11 1" ∷ codes ".names t0_4 t0_3 t0_19" ∷ codes "11 1" ∷ codes ".names t0_18 t0_19 t0_20" ∷ codes "1- 1"
    ∷ codes "-1 1" ∷ codes ".names t0_20 t0_5" ∷ codes "1 1" ∷ codes ".names o0 t0_3 t0_21" ∷ codes "11 1"
    ∷ codes ".names t0_4 t0_2 t0_22" ∷ codes "11 1" ∷ codes ".names t0_21 t0_22 t0_23" ∷ codes "1- 1" ∷ codes "-1 1"
    ∷ codes ".names t0_23 t0_6" ∷ codes "1 1" ∷ codes ".end" ∷ [])

-- the answer is no synthesis of the machine in the text under any code
abbrev pub IsNoSynthesisOf : List ℕ → List ℕ → Type 0
IsNoSynthesisOf text answer = (code : Code) → IsMachineSynthesis code text answer → ⊥
