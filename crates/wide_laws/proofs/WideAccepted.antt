-- What a synthesis answers is accepted by a wide audit behind its source.
use Rattle.std.proofs.Common.{◌≡◌, ℕ, List, [], ◌∷◌, ◌++◌, codes, length, None, refl, sym, ◌∙◌, ap, subst}
use Rattle.tsc_text.specs.Bytes.{bad_line}
use Rattle.tsc_text.specs.Joined.{moved}
use Rattle.tsc_text.specs.Lines.{lines_of, physical_lines}
use Rattle.tsc_text.specs.TextLine.{TextLine}
use Rattle.tsc_text.specs.declared.section.End.TheVariants.{Blif as BlifEnd}
use Rattle.fault_secure.specs.CodePlan.{CodePlan}
use Rattle.fault_secure.specs.CellSecure.{IsCellSecure}
use Rattle.fault_secure.specs.FaultSecure.{IsFaultSecure}
use Rattle.fault_secure.specs.Logic.{Network}
use Rattle.synth_ways.specs.declared.way.Way.{Way}
use Rattle.synth_ways.specs.declared.way.Way.TheVariants.{Parity, Duplex, Berger, MOutOfN}
use Rattle.code_checkers.specs.SelfChecking.{IsSelfChecking}
use Rattle.tsc_net.specs.NetlistOf.{NetlistOf, netlist_of}
use Rattle.blif_read.specs.NamedText.{named_text}
use Rattle.blif_read.specs.declared.kinds.Kind.TheVariants.{Source, Netlist}
use Rattle.audit.specs.Verdict.{FitsSource}
use Rattle.tsc_synth.specs.WayNetlist.{IsNetlistOf}
use Rattle.wide_diagrams.specs.Wide.{NeedAtMost}
use Rattle.wide_audit.specs.WideVerdict.{IsWideVerdict}
use Rattle.wide_audit.specs.declared.verdict.WideVerdict.TheVariants.{No}
use Rattle.wide_audit.proofs.Verdicts.{never_no_where_self_checking, yes_where_self_checking}
use Rattle.wide_answers.specs.WideReply.{IsWideYes}
use Rattle.wide_answers.proofs.WideLemmas.{allowed_behind, allowed_lines}
use Rattle.commands.specs.declared.command.Command.TheVariants.{AuditWide}
use Rattle.commands.specs.declared.source_format.SourceFormat.TheVariants.{Blif}
use Rattle.text_sections.specs.Denoted.{behind_source, first_net, net_from, netlist_in, plan_from, plan_in, second_netlist_in, second_plan_in}
use Rattle.text_sections.specs.Refused.{byte_refusal, lines_refusal, text_refusal}
use Rattle.text_sections.proofs.SectionLemmas.{none_first, none_later}
use Rattle.answers.specs.Commands.{IsAnswer, IsNo, refusal_of}
use Rattle.answer_laws.proofs.AcceptedBehind.{bytes_allowed, network_fits}
use Rattle.answer_laws.proofs.BehindSource.{IsKept, allowed_in_a_row, lines_in_a_row, lines_kept, netlist_allowed, network_kept, second_net, second_plan}
use Rattle.wide_laws.specs.WideLaws.{IsWidelyAccepted, WideAnswersAreAccepted}

-- the plan of a network's netlist has no state words
network_latchless : (way : Way) (S N : NetlistOf) (P : CodePlan) → IsNetlistOf way S N P → P.latches ≡ 0
network_latchless Parity S N P is = ap (λ p. p.latches) is.plan
network_latchless Duplex S N P is = ap (λ p. p.latches) is.plan
network_latchless Berger S N P is = is.plan.latchless
network_latchless MOutOfN S N P is = is.plan.latchless

-- ---- the two texts in a row

module _ (rows : ℕ) (text answer : List ℕ) (more : ℕ) (lines : lines_of (text ++ answer) ≡ lines_of text ++ moved more (lines_of answer))
    (bytes : bad_line (text ++ answer) ≡ None) (kept : IsKept Blif (lines_of text) (moved more (lines_of answer)))
    (begins : first_net (lines_of text ++ moved more (lines_of answer)) ≡ netlist_in text) (readable : text_refusal Netlist answer ≡ None)
    (checking : IsSelfChecking (Network (netlist_in text).circuit) (netlist_in answer).circuit (plan_in answer))
    (fits : FitsSource (Network (netlist_in text).circuit) (netlist_in answer).circuit (plan_in answer))
    (latchless : length (netlist_in answer).circuit.latches ≡ 0)
    (cells : IsCellSecure (Network (netlist_in text).circuit) (netlist_in answer).circuit (plan_in answer))
    (secure : IsFaultSecure (Network (netlist_in text).circuit) (netlist_in answer).circuit (plan_in answer)) where
  abbrev joined : List TextLine
  joined = lines_of text ++ moved more (lines_of answer)

  allowed : refusal_of (AuditWide rows) (text ++ answer) ≡ None
  allowed =
      allowed_lines (text ++ answer) joined (sym lines) bytes
      (allowed_behind joined (length (lines_of text)) (sym kept.ends) kept.allowed
      (netlist_allowed more (lines_of text) (lines_of answer) (none_later (byte_refusal (bad_line answer)) (lines_refusal Netlist (lines_of answer)) readable)))

  -- what the two texts denote in a row is what each denotes
  same_source : netlist_in (text ++ answer) ≡ netlist_in text
  same_source = ap first_net lines ∙ begins

  same_net : second_netlist_in Blif (text ++ answer) ≡ netlist_in answer
  same_net = ap (λ ls. net_from ls (behind_source Blif ls)) lines ∙ (ap (net_from joined) kept.ends ∙ second_net more (lines_of text) (lines_of answer))

  same_plan : second_plan_in Blif (text ++ answer) ≡ plan_in answer
  same_plan = ap (λ ls. plan_from ls (behind_source Blif ls)) lines ∙ (ap (plan_from joined) kept.ends ∙ second_plan more (lines_of text) (lines_of answer))

  yes : NeedAtMost rows (netlist_in text).circuit (netlist_in answer).circuit (plan_in answer) → IsAnswer (AuditWide rows) (text ++ answer) (codes "yes" ++ 10 ∷ [])
  yes few =
      let reply = codes "yes" ++ 10 ∷ [] in
      let A : NetlistOf → Type 0 = λ s. IsWideYes rows s.circuit (second_netlist_in Blif (text ++ answer)) (second_plan_in Blif (text ++ answer)) reply in
      let B : NetlistOf → Type 0 = λ n. IsWideYes rows (netlist_in text).circuit n (second_plan_in Blif (text ++ answer)) reply in
      let C : CodePlan → Type 0 = λ p. IsWideYes rows (netlist_in text).circuit (netlist_in answer) p reply in
      let made_so : IsWideYes rows (netlist_in text).circuit (netlist_in answer) (plan_in answer) reply
      = record {
        verdict = yes_where_self_checking rows (netlist_in text).circuit (netlist_in answer).circuit (plan_in answer) checking fits latchless few;
        cells = cells;
        secure = secure;
        written = refl;
      } in
      subst A (sym same_source) (subst B (sym same_net) (subst C (sym same_plan) made_so))

  never_no : (reply : List ℕ) → IsNo (AuditWide rows) (text ++ answer) reply → ⊥
  never_no reply rejected =
      let A : NetlistOf → Type 0 = λ s. IsWideVerdict rows s.circuit (second_netlist_in Blif (text ++ answer)).circuit (second_plan_in Blif (text ++ answer)) (No rejected.reason) in
      let B : NetlistOf → Type 0 = λ n. IsWideVerdict rows (netlist_in text).circuit n.circuit (second_plan_in Blif (text ++ answer)) (No rejected.reason) in
      let C : CodePlan → Type 0 = λ p. IsWideVerdict rows (netlist_in text).circuit (netlist_in answer).circuit p (No rejected.reason) in
      never_no_where_self_checking rows (netlist_in text).circuit (netlist_in answer).circuit (plan_in answer) rejected.reason checking fits latchless
      (subst C same_plan (subst B same_net (subst A same_source rejected.verdict)))

  widely_accepted : IsWidelyAccepted rows text answer
  widely_accepted = record { allowed = allowed; yes = yes; never_no = never_no }

pub wide_answers_are_accepted : WideAnswersAreAccepted
wide_answers_are_accepted way rows text answer sourced ended made =
    let second = lines_of answer in
    let more = length (physical_lines ended.body) in
    let secure = made.secure in
    let checking = secure.checking in
    widely_accepted rows text answer more (lines_in_a_row ended.body text answer ended.fed ended.complete)
    (allowed_in_a_row text answer (bytes_allowed text (none_first (byte_refusal (bad_line text)) (lines_refusal Source (lines_of text)) sourced))
    (bytes_allowed answer (none_first (byte_refusal (bad_line answer)) (lines_refusal Netlist second) made.readable)))
    (network_kept (lines_of text) (moved more second) (none_later (byte_refusal (bad_line text)) (lines_refusal Source (lines_of text)) sourced) ended.ended)
    (ap (λ ls. netlist_of (named_text ls)) (lines_kept BlifEnd (lines_of text) (moved more second) ended.ended))
    made.readable checking
    (network_fits way (netlist_in text) (netlist_in answer) (plan_in answer) secure.exact)
    (sym checking.structure.plan_of.latches ∙ network_latchless way (netlist_in text) (netlist_in answer) (plan_in answer) secure.exact)
    secure.cells secure.secure
