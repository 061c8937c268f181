-- What is said of each command: what refuses a text, its own limit, its answer, and its no. Each command has its row here.
use Rattle.std.specs.Prelude.{ℕ, true, List, Option, None, Some}
use Rattle.tsc_text.specs.Lines.{lines_of}
use Rattle.blif_read.specs.declared.kinds.Kind.TheVariants.{AnyPlan}
use Rattle.commands.specs.declared.command.Command.{Command}
use Rattle.commands.specs.declared.command.Command.TheVariants.{SynthBlif, SynthWatched, SynthKiss, SynthPla, Audit, AuditWide, AuditExact, AuditMapped, AuditProof, AskExact, Faults, Vectors, Grade, Sim, Join}
use Rattle.commands.specs.declared.sim_words.SimFault.TheVariants.{NoFault}
use Rattle.commands.specs.declared.source_format.SourceFormat.{SourceFormat}
use Rattle.commands.specs.Words.{code_of}
use Rattle.refusals.specs.declared.ending.Ending.{Ending}
use Rattle.refusals.specs.declared.ending.Ending.TheVariants.{Finished, Rejected}
use Rattle.refusals.specs.declared.limit.OwnLimit.{OwnLimit}
use Rattle.refusals.specs.declared.limit.OwnLimit.TheVariants.{Rows, Pins}
use Rattle.refusals.specs.declared.refusal.Refusal.{Refusal}
use Rattle.refusals.specs.declared.text_refusal.TextRefusal.{TextRefusal}
use Rattle.text_sections.specs.Refused.{StopsBeyond, text_refusal}
use Rattle.netlist_answers.specs.Answers.{IsAcceptance, IsFaultList, IsGradeReply, IsRejection, IsSimulation, IsVectorList}
use Rattle.netlist_answers.specs.Refused.{audit_refusal, sim_refusal, vectors_refusal}
use Rattle.wide_answers.specs.WideReply.{IsWideReply, NeedsMoreRows}
use Rattle.wide_answers.specs.WideSections.{wide_refusal}
use Rattle.exact_answers.specs.ExactReply.{IsExactReply}
use Rattle.question_answers.specs.QuestionReply.{IsQuestionReply}
use Rattle.question_answers.specs.Refused.{question_refusal}
use Rattle.proof_answers.specs.ProofReply.{IsProofReply}
use Rattle.proof_answers.specs.Refused.{proof_refusal}
use Rattle.mapping_answers.specs.MappedReply.{HasWideCoverIn, IsMappedReply}
use Rattle.mapping_answers.specs.MappedSections.{mapped_refusal}
use Rattle.joint_answers.specs.JointParts.{join_refusal}
use Rattle.joint_answers.specs.JointReply.{IsJointReply}
use Rattle.answers.specs.Answers.{IsBlifSynthesis, IsLooseSynthesis, IsMachineSynthesis}
use Rattle.answers.specs.TwinAnswers.{IsTwinAnswer}
use Rattle.answers.specs.Refused.{blif_refusal, synth_loose_refusal, synth_machine_refusal, twin_refusal}

-- what refuses a text; the limit of the command that no refusal of a text is, and which texts pass it; its answer where it finishes what it was
-- asked for; and its answer where its verdict is no
pub record CommandSpec : Type 1 where
  pub refusal : List ℕ → Option TextRefusal
  pub limit : Option OwnLimit
  pub passes : List ℕ → Type 0
  pub answer : List ℕ → List ℕ → Type 0
  pub rejection : List ℕ → List ℕ → Type 0

-- a command without a limit of its own and without a no
abbrev pub plain : (List ℕ → Option TextRefusal) → (List ℕ → List ℕ → Type 0) → CommandSpec
plain refusal answer = record { refusal = refusal; limit = None; passes = λ text. ⊥; answer = answer; rejection = λ text answer. ⊥ }

-- one that judges or asks: its answer ends as what was asked for or as a no
abbrev pub judged : (List ℕ → Option TextRefusal) → (Ending → List ℕ → List ℕ → Type 0) → CommandSpec
judged refusal reply = record { refusal = refusal; limit = None; passes = λ text. ⊥; answer = reply Finished; rejection = reply Rejected }

-- the same with a limit of its own
abbrev pub within : OwnLimit → (List ℕ → Type 0) → CommandSpec → CommandSpec
within limit passes spec = record spec { limit = Some limit; passes = passes }

-- the yes or the no of an audit of a netlist by points
abbrev pub IsAuditReply : SourceFormat → Ending → List ℕ → List ℕ → Type 0
IsAuditReply format Finished text answer = IsAcceptance format text answer
IsAuditReply format Rejected text answer = IsRejection format text answer

-- a row for each command
abbrev pub spec_of : Command → CommandSpec
spec_of (SynthBlif way) = plain (blif_refusal way) (IsBlifSynthesis way)
spec_of SynthWatched = plain (twin_refusal true) (IsTwinAnswer true)
spec_of (SynthKiss code) = plain (synth_machine_refusal (code_of code)) (IsMachineSynthesis (code_of code))
spec_of (SynthPla way) = plain (synth_loose_refusal way) (IsLooseSynthesis way)
spec_of (Audit format) = judged (audit_refusal format) (IsAuditReply format)
spec_of (AuditWide rows) = within (Rows rows) (NeedsMoreRows rows) (judged wide_refusal (λ ending. IsWideReply ending rows))
spec_of (AuditExact format) = judged (audit_refusal format) (λ ending. IsExactReply ending format)
spec_of AuditMapped = within Pins HasWideCoverIn (judged mapped_refusal IsMappedReply)
spec_of AskExact = judged question_refusal IsQuestionReply
spec_of AuditProof = judged proof_refusal IsProofReply
spec_of Faults = plain (text_refusal AnyPlan) IsFaultList
spec_of Vectors = plain vectors_refusal IsVectorList
spec_of Grade = plain (sim_refusal NoFault) IsGradeReply
spec_of (Sim fault) = plain (sim_refusal fault) (λ text. IsSimulation fault (lines_of text))
spec_of Join = plain join_refusal IsJointReply

-- the first refusal of a text by a command
abbrev pub refusal_of : Command → List ℕ → Option TextRefusal
refusal_of command = (spec_of command).refusal

-- the limit of a command that no refusal of the text is: rows of decision diagrams, and the pins of a cover that is tried
abbrev pub own_limit : Command → Option OwnLimit
own_limit command = (spec_of command).limit

-- a text that nothing refuses passes the limit of the command: it needs more rows, or a cover is too wide to be tried
abbrev pub PassesLimit : Command → List ℕ → Type 0
PassesLimit command = (spec_of command).passes

-- why a command stops at a text: what refuses the text, or its own limit
abbrev pub StopsAt : Command → List ℕ → Refusal → Type 0
StopsAt command text refusal = StopsBeyond (own_limit command) (refusal_of command text) (PassesLimit command text) refusal

-- the answer of a command to a text, where it finishes what it was asked for
abbrev pub IsAnswer : Command → List ℕ → List ℕ → Type 0
IsAnswer command = (spec_of command).answer

-- the answer of a command to a text, where it says no: an audit, or `ask`
abbrev pub IsNo : Command → List ℕ → List ℕ → Type 0
IsNo command = (spec_of command).rejection

-- the answer of a command to a text, by how the command ends
abbrev pub IsReply : Ending → Command → List ℕ → List ℕ → Type 0
IsReply Finished command text answer = IsAnswer command text answer
IsReply Rejected command text answer = IsNo command text answer
