-- What is answered to a text of a netlist and a mapped one.
use Rattle.std.specs.Prelude.{◌≡◌, ℕ, Bool, true, false, List, slice_index, None, Some}
use Rattle.fault_secure.specs.Settle.{Acyclic}
use Rattle.tsc_net.specs.NetlistOf.{NetlistOf, named_of}
use Rattle.mapping_reading.specs.ReadMapping.{some_block}
use Rattle.mapping_reading.specs.NamedMapping.{HasSameNames, StaysSecure, moved_by_name}
use Rattle.mapping_audit.specs.MappedAnswer.{IsMappedAnswer, IsReadSo}
use Rattle.mapping_audit.specs.declared.reason.MappedReason.{MappedReason}
use Rattle.mapping_audit.specs.declared.reason.MappedReason.TheVariants.{Inputs, Latches, Outputs, Net, NoBlock, NoPin, NoCover}
use Rattle.mapping_audit.specs.declared.answer.MappedAnswer.{MappedAnswer}
use Rattle.mapping_audit.specs.declared.answer.MappedAnswer.TheVariants.{Yes, No, Wide}
use Rattle.refusals.specs.declared.ending.Ending.{Ending}
use Rattle.refusals.specs.declared.ending.Ending.TheVariants.{Finished, Rejected}
use Rattle.refusals.specs.declared.limit.OwnLimit.TheVariants.{Pins}
use Rattle.refusals.specs.declared.refusal.Refusal.{Refusal}
use Rattle.text_sections.specs.Denoted.{netlist_in}
use Rattle.text_sections.specs.Refused.{StopsBeyond}
use Rattle.mapping_answers.specs.MappedClocks.{text_has_other_clock}
use Rattle.mapping_answers.specs.MappedSections.{mapped_in, mapped_refusal}
use Rattle.mapping_answers.specs.MappedText.{no_text, yes_text}

-- the second netlist is the first mapped cover by cover: it reads so by names and by the blocks that its gates lead to, and has no ring.
-- With the plan moved it is secure, against any gates of one block that fail at once, for whatever the first is
pub record IsMappingOf (N G : NetlistOf) : Type 0 where
  pub names : HasSameNames N G
  pub reads : IsReadSo N.circuit G.circuit (moved_by_name N G)
  pub secure : StaysSecure N G (some_block N.circuit (slice_index reads.blocks))
  pub acyclic : Acyclic G.circuit

-- where some latch has another clock: the inputs differ, or, where they don't, the latches do
abbrev pub IsClockReason : NetlistOf → NetlistOf → MappedReason → Type 0
IsClockReason N G Inputs = (named_of N).inputs ≡ (named_of G).inputs → ⊥
IsClockReason N G Latches = (named_of N).inputs ≡ (named_of G).inputs
IsClockReason N G Outputs = ⊥
IsClockReason N G (Net node) = ⊥
IsClockReason N G (NoBlock gate) = ⊥
IsClockReason N G (NoPin gate pin) = ⊥
IsClockReason N G (NoCover node value width) = ⊥

-- what is answered where some latch has another clock, and where none has
abbrev pub IsClockedAnswer : Bool → NetlistOf → NetlistOf → MappedAnswer → Type 0
IsClockedAnswer true N G Yes = ⊥
IsClockedAnswer true N G (No reason) = IsClockReason N G reason
IsClockedAnswer true N G (Wide node) = ⊥
IsClockedAnswer false N G answer = IsMappedAnswer N G answer

-- it is a mapping, no latch has another clock, and the answer says so
pub record IsYes (other_clock : Bool) (N G : NetlistOf) (answer : List ℕ) : Type 0 where
  pub clocks : other_clock ≡ false
  pub mapping : IsMappingOf N G
  pub written : answer ≡ yes_text

-- it isn't, for a first reason, which the answer tells
pub record IsNo (other_clock : Bool) (N G : NetlistOf) (answer : List ℕ) : Type 0 where
  pub reason : MappedReason
  pub first : IsClockedAnswer other_clock N G (No reason)
  pub written : answer ≡ no_text N G reason

-- the answer on two netlists, of which some latch has another clock or none has, by how the command ends
abbrev pub IsReplyOn : Bool → Ending → NetlistOf → NetlistOf → List ℕ → Type 0
IsReplyOn other_clock Finished N G answer = IsYes other_clock N G answer
IsReplyOn other_clock Rejected N G answer = IsNo other_clock N G answer

-- the answer to a text, by how the command ends
abbrev pub IsMappedReply : Ending → List ℕ → List ℕ → Type 0
IsMappedReply ending text answer = IsReplyOn (text_has_other_clock text) ending (netlist_in text) (mapped_in text) answer

-- no reason comes first, but a cover is too wide to be tried: the first such node
abbrev pub HasWideCover : Bool → NetlistOf → NetlistOf → Type 0
HasWideCover other_clock N G = (node : ℕ) × IsClockedAnswer other_clock N G (Wide node)

-- so it is of a text
abbrev pub HasWideCoverIn : List ℕ → Type 0
HasWideCoverIn text = HasWideCover (text_has_other_clock text) (netlist_in text) (mapped_in text)

-- why two netlists have no answer: want of memory, or that limit
abbrev pub StopsPair : Bool → NetlistOf → NetlistOf → Refusal → Type 0
StopsPair other_clock N G refusal = StopsBeyond (Some Pins) None (HasWideCover other_clock N G) refusal

-- why there is no answer to a text: what refuses it, or the limit on pins
abbrev pub StopsMapped : List ℕ → Refusal → Type 0
StopsMapped text refusal = StopsBeyond (Some Pins) (mapped_refusal text) (HasWideCoverIn text) refusal
