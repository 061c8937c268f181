-- What a synthesis answers is accepted by an audit behind its source.
use Rattle.std.proofs.Common.{◌≡◌, ℕ, ◌≤◌, List, [], ◌∷◌, ◌++◌, codes, length, Option, None, Some, refl, sym, ◌∙◌, ap, subst, arith}
use Rattle.std.specs.Prelude.{if◌then◌else◌, ◌==◌}
use Rattle.std.proofs.lemmas.Bool.{le-ltb}
use Rattle.tsc_text.specs.Bytes.{bad_line}
use Rattle.tsc_text.specs.Joined.{moved}
use Rattle.tsc_text.specs.Lines.{lines_of, physical_lines}
use Rattle.tsc_text.specs.Section.{section_of}
use Rattle.tsc_text.specs.TextLine.{TextLine}
use Rattle.tsc_text.specs.declared.section.End.TheVariants.{Kiss as KissEnd}
use Rattle.fault_secure.specs.CodePlan.{CodePlan}
use Rattle.fault_secure.specs.CellSecure.{IsCellSecure}
use Rattle.fault_secure.specs.FaultSecure.{IsFaultSecure}
use Rattle.fault_secure.specs.Logic.{Logic, Network}
use Rattle.synth_ways.specs.declared.way.Way.{Way}
use Rattle.synth_ways.specs.declared.way.Way.TheVariants.{Parity, Duplex, Berger, MOutOfN}
use Rattle.code_checkers.specs.SelfChecking.{IsSelfChecking}
use Rattle.tsc_net.specs.NetlistOf.{NetlistOf}
use Rattle.structure_laws.specs.LooseSource.{with_version}
use Rattle.parity_synth.specs.ParityNet.{IsParityNetlist}
use Rattle.duplex_synth.specs.DuplexNet.{IsDuplexNetlist}
use Rattle.unate_synth.specs.UnateNetlist.{IsUnateNetlist}
use Rattle.made_report.proofs.MadeLemmas.{machine_fits}
use Rattle.tsc_synth.specs.WayNetlist.{IsNetlistOf}
use Rattle.blif_read.specs.declared.kinds.Kind.TheVariants.{Source, Netlist}
use Rattle.blif_write.specs.Examples.{with_feeds}
use Rattle.audit.specs.Laws.{IsPlanned}
use Rattle.audit.specs.Verdict.{FitsSource, IsVerdict, audit_points}
use Rattle.audit.specs.declared.verdict.Reason.{Reason}
use Rattle.audit.specs.declared.verdict.Verdict.TheVariants.{Yes, No}
use Rattle.audit.proofs.Accepted.{self_checking_is_accepted}
use Rattle.audit.proofs.OneVerdict.{one_verdict}
use Rattle.exact_audit.specs.ExactVerdict.{IsExactVerdict}
use Rattle.exact_audit.specs.declared.verdict.ExactReason.{ExactReason}
use Rattle.exact_audit.specs.declared.verdict.ExactVerdict.TheVariants as exact
use Rattle.exact_audit.proofs.Determined.{one_exact_verdict}
use Rattle.exact_audit.proofs.Secure.{exact_is_alarm_secure, exact_shows_faults, self_checking_is_exact}
use Rattle.exact_answers.specs.ExactReply.{IsExactYes}
use Rattle.commands.specs.declared.command.Command.TheVariants.{Audit, AuditExact}
use Rattle.commands.specs.declared.source_format.SourceFormat.{SourceFormat}
use Rattle.commands.specs.declared.source_format.SourceFormat.TheVariants.{Blif, Kiss, Pla}
use Rattle.answer_laws.specs.AnswerLaws.{AnswersAreAccepted, IsAcceptedBehind, IsEndedSource, LooseAnswersAreAccepted, MachineAnswersAreAccepted, two_states}
use Rattle.answers.specs.Commands.{IsAnswer, IsNo, refusal_of}
use Rattle.text_sections.specs.Denoted.{behind_source, inputs_in, machine_in, net_from, netlist_in, outputs_in, plan_from, plan_in, second_netlist_in, second_plan_in, source_in, source_of, values_in}
use Rattle.text_sections.specs.Refused.{byte_refusal, lines_refusal, machine_lines_refusal, netlist_refusal, pla_lines_refusal, text_refusal}
use Rattle.netlist_answers.specs.Refused.{audit_points_refusal, has_too_many_audit_points}
use Rattle.netlist_answers.specs.Answers.{IsAcceptanceOf}
use Rattle.netlist_answers.proofs.AuditLemmas.{allowed_behind, allowed_lines}
use Rattle.answer_laws.proofs.BehindSource.{IsKept, allowed_in_a_row, lines_in_a_row, machine_kept, netlist_allowed, network_kept, second_net, second_plan, table_kept}
use Rattle.text_sections.proofs.SectionLemmas.{allowed_both, none_first, none_later}

-- ---- the counts of a source

parity_fits : (S N : NetlistOf) (P : CodePlan) → IsParityNetlist S N P → FitsSource (Network S.circuit) N.circuit P
parity_fits S N P is = record {
  inputs = ap (λ n. n.circuit.inputs) is.net;
  outputs = ap (λ p. p.outputs) is.plan;
  states = ap (λ p. if p.latches == 0 then 1 else length p.states) is.plan;
}

duplex_fits : (S N : NetlistOf) (P : CodePlan) → IsDuplexNetlist S N P → FitsSource (Network S.circuit) N.circuit P
duplex_fits S N P is = record {
  inputs = ap (λ n. n.circuit.inputs) is.net;
  outputs = ap (λ p. p.outputs) is.plan;
  states = ap (λ p. if p.latches == 0 then 1 else length p.states) is.plan;
}

unate_fits : (S N : NetlistOf) (P : CodePlan) → IsUnateNetlist S N P → FitsSource (Network S.circuit) N.circuit P
unate_fits S N P is = record {
  inputs = is.inputs.count;
  outputs = is.plan.outputs;
  states = ap (λ n. if n == 0 then 1 else length P.states) is.plan.latchless;
}

-- what a synthesis makes of a network, in each way, fits that network
pub network_fits : (way : Way) (S N : NetlistOf) (P : CodePlan) → IsNetlistOf way S N P → FitsSource (Network S.circuit) N.circuit P
network_fits Parity S N P is = parity_fits S N P is
network_fits Duplex S N P is = duplex_fits S N P is
network_fits Berger S N P is = unate_fits S N P is
network_fits MOutOfN S N P is = unate_fits S N P is

-- ---- the audit of the two texts

-- a netlist that is self-checking for a source, has its counts, and is secure for it
record IsSecurelyFitting (M : Logic) (net : NetlistOf) (plan : CodePlan) : Type 0 where
  checking : IsSelfChecking M net.circuit plan
  fits : FitsSource M net.circuit plan
  cells : IsCellSecure M net.circuit plan
  secure : IsFaultSecure M net.circuit plan

-- a text that is not refused for its bytes has no line with a bad one
pub bytes_allowed : (text : List ℕ) → byte_refusal (bad_line text) ≡ None → bad_line text ≡ None
bytes_allowed text none = by (bad_line text) none
  where
    by : (bad : Option ℕ) → byte_refusal bad ≡ None → bad ≡ None
    by None none = refl
    by (Some line) none = cc

yes_or_no : (why : Reason) → Yes ≡ No why → ⊥
yes_or_no why e = cc

exact_yes_or_no : (why : ExactReason) → exact.Yes ≡ exact.No why → ⊥
exact_yes_or_no why e = cc

module _ (format : SourceFormat) (text answer : List ℕ) (more : ℕ) (lines : lines_of (text ++ answer) ≡ lines_of text ++ moved more (lines_of answer))
    (bytes : bad_line (text ++ answer) ≡ None) (kept : IsKept format (lines_of text) (moved more (lines_of answer)))
    (readable : text_refusal Netlist answer ≡ None) (points : audit_points (source_in format text) ≤ 1048576)
    (made : IsSecurelyFitting (source_in format text) (netlist_in answer) (plan_in answer)) where
  abbrev joined : List TextLine
  joined = lines_of text ++ moved more (lines_of answer)

  abbrev from : ℕ
  from = length (lines_of text)

  few : audit_points_refusal (has_too_many_audit_points (source_in format text)) ≡ None
  few = ap audit_points_refusal (le-ltb 1048576 (audit_points (source_in format text)) points)

  allowed : refusal_of (Audit format) (text ++ answer) ≡ None
  allowed =
      allowed_lines format (text ++ answer) joined (sym lines) bytes
      (allowed_behind format joined from (source_in format text) (sym kept.ends) (sym kept.source) kept.allowed
      (allowed_both (netlist_refusal joined from) (audit_points_refusal (has_too_many_audit_points (source_in format text)))
      (netlist_allowed more (lines_of text) (lines_of answer) (none_later (byte_refusal (bad_line answer)) (lines_refusal Netlist (lines_of answer)) readable)) few))

  accepted : IsVerdict (source_in format text) (netlist_in answer).circuit (plan_in answer) Yes
  accepted = self_checking_is_accepted (source_in format text) (netlist_in answer).circuit (plan_in answer) made.checking made.fits

  -- what is behind the source of the text is the answer's
  same_source : source_in format (text ++ answer) ≡ source_in format text
  same_source = ap (source_of format) lines ∙ kept.source

  same_net : second_netlist_in format (text ++ answer) ≡ netlist_in answer
  same_net = ap (λ ls. net_from ls (behind_source format ls)) lines ∙ (ap (net_from joined) kept.ends ∙ second_net more (lines_of text) (lines_of answer))

  same_plan : second_plan_in format (text ++ answer) ≡ plan_in answer
  same_plan = ap (λ ls. plan_from ls (behind_source format ls)) lines ∙ (ap (plan_from joined) kept.ends ∙ second_plan more (lines_of text) (lines_of answer))

  yes : IsAnswer (Audit format) (text ++ answer) (codes "yes" ++ 10 ∷ [])
  yes =
      let reply = codes "yes" ++ 10 ∷ [] in
      let A : Logic → Type 0 = λ m. IsAcceptanceOf m (second_netlist_in format (text ++ answer)) (second_plan_in format (text ++ answer)) reply in
      let B : NetlistOf → Type 0 = λ n. IsAcceptanceOf (source_in format text) n (second_plan_in format (text ++ answer)) reply in
      let C : CodePlan → Type 0 = λ p. IsAcceptanceOf (source_in format text) (netlist_in answer) p reply in
      let made_so : IsAcceptanceOf (source_in format text) (netlist_in answer) (plan_in answer) reply
      = record { verdict = accepted; cells = made.cells; secure = made.secure; written = refl } in
      subst A (sym same_source) (subst B (sym same_net) (subst C (sym same_plan) made_so))

  never_no : (reply : List ℕ) → IsNo (Audit format) (text ++ answer) reply → ⊥
  never_no reply rejected =
      let A : Logic → Type 0 = λ m. IsVerdict m (second_netlist_in format (text ++ answer)).circuit (second_plan_in format (text ++ answer)) (No rejected.reason) in
      let B : NetlistOf → Type 0 = λ n. IsVerdict (source_in format text) n.circuit (second_plan_in format (text ++ answer)) (No rejected.reason) in
      let C : CodePlan → Type 0 = λ p. IsVerdict (source_in format text) (netlist_in answer).circuit p (No rejected.reason) in
      let refused : IsVerdict (source_in format text) (netlist_in answer).circuit (plan_in answer) (No rejected.reason)
      = subst C same_plan (subst B same_net (subst A same_source rejected.verdict)) in
      yes_or_no rejected.reason
      (one_verdict (source_in format text) (netlist_in answer).circuit (plan_in answer) Yes (No rejected.reason)
      made.checking.structure.plan_of made.checking.structure.well_made accepted refused)

  -- so it is by the exact audit
  planned : IsPlanned (netlist_in answer).circuit (plan_in answer)
  planned = record {
    closed = made.checking.structure.closed;
    acyclic = made.checking.structure.acyclic;
    well_made = made.checking.structure.well_made;
    plan_of = made.checking.structure.plan_of;
  }

  decided : IsExactVerdict (source_in format text) (netlist_in answer).circuit (plan_in answer) exact.Yes
  decided = self_checking_is_exact (source_in format text) (netlist_in answer).circuit (plan_in answer) made.checking made.fits

  exactly : IsAnswer (AuditExact format) (text ++ answer) (codes "yes" ++ 10 ∷ [])
  exactly =
      let reply = codes "yes" ++ 10 ∷ [] in
      let A : Logic → Type 0 = λ m. IsExactYes m (second_netlist_in format (text ++ answer)) (second_plan_in format (text ++ answer)) reply in
      let B : NetlistOf → Type 0 = λ n. IsExactYes (source_in format text) n (second_plan_in format (text ++ answer)) reply in
      let C : CodePlan → Type 0 = λ p. IsExactYes (source_in format text) (netlist_in answer) p reply in
      let made_so : IsExactYes (source_in format text) (netlist_in answer) (plan_in answer) reply
      = record {
        verdict = decided;
        secure = exact_is_alarm_secure (source_in format text) (netlist_in answer).circuit (plan_in answer) planned decided;
        faults = exact_shows_faults (source_in format text) (netlist_in answer).circuit (plan_in answer) planned decided;
        written = refl;
      } in
      subst A (sym same_source) (subst B (sym same_net) (subst C (sym same_plan) made_so))

  exact_never_no : (reply : List ℕ) → IsNo (AuditExact format) (text ++ answer) reply → ⊥
  exact_never_no reply rejected =
      let A : Logic → Type 0 = λ m. IsExactVerdict m (second_netlist_in format (text ++ answer)).circuit (second_plan_in format (text ++ answer)) (exact.No rejected.reason) in
      let B : NetlistOf → Type 0 = λ n. IsExactVerdict (source_in format text) n.circuit (second_plan_in format (text ++ answer)) (exact.No rejected.reason) in
      let C : CodePlan → Type 0 = λ p. IsExactVerdict (source_in format text) (netlist_in answer).circuit p (exact.No rejected.reason) in
      let refused : IsExactVerdict (source_in format text) (netlist_in answer).circuit (plan_in answer) (exact.No rejected.reason)
      = subst C same_plan (subst B same_net (subst A same_source rejected.verdict)) in
      exact_yes_or_no rejected.reason
      (one_exact_verdict (source_in format text) (netlist_in answer).circuit (plan_in answer) exact.Yes (exact.No rejected.reason)
      made.checking.structure.plan_of made.checking.structure.well_made decided refused)

  accepted_behind : IsAcceptedBehind format text answer
  accepted_behind = record { allowed = allowed; yes = yes; never_no = never_no; exact = exactly; exact_never_no = exact_never_no }

pub answers_are_accepted : AnswersAreAccepted
answers_are_accepted way text answer sourced ended points made =
    let second = lines_of answer in
    let secure = made.secure in
    accepted_behind Blif text answer (length (physical_lines ended.body)) (lines_in_a_row ended.body text answer ended.fed ended.complete)
    (allowed_in_a_row text answer (bytes_allowed text (none_first (byte_refusal (bad_line text)) (lines_refusal Source (lines_of text)) sourced))
    (bytes_allowed answer (none_first (byte_refusal (bad_line answer)) (lines_refusal Netlist second) made.readable)))
    (network_kept (lines_of text) (moved (length (physical_lines ended.body)) second)
    (none_later (byte_refusal (bad_line text)) (lines_refusal Source (lines_of text)) sourced) ended.ended)
    made.readable points
    (record {
      checking = secure.checking;
      fits = network_fits way (netlist_in text) (netlist_in answer) (plan_in answer) secure.exact;
      cells = secure.cells;
      secure = secure.secure;
    })

pub machine_answers_are_accepted : MachineAnswersAreAccepted
machine_answers_are_accepted code text answer sourced ended points made =
    let second = lines_of answer in
    let secure = made.secure in
    accepted_behind Kiss text answer (length (physical_lines ended.body)) (lines_in_a_row ended.body text answer ended.fed ended.complete)
    (allowed_in_a_row text answer (bytes_allowed text (none_first (byte_refusal (bad_line text)) (machine_lines_refusal (lines_of text)) sourced))
    (bytes_allowed answer (none_first (byte_refusal (bad_line answer)) (lines_refusal Netlist second) made.readable)))
    (machine_kept (lines_of text) (moved (length (physical_lines ended.body)) second)
    (none_later (byte_refusal (bad_line text)) (machine_lines_refusal (lines_of text)) sourced) ended.ended)
    made.readable points
    (record {
      checking = secure.checking;
      fits = machine_fits (machine_in text) (inputs_in text) (outputs_in text) (netlist_in answer) (plan_in answer) secure.exact;
      cells = secure.cells;
      secure = secure.secure;
    })

pub loose_answers_are_accepted : LooseAnswersAreAccepted
loose_answers_are_accepted way text answer sourced ended points made =
    let second = lines_of answer in
    let secure = made.secure in
    let first = network_fits way (values_in text) (netlist_in answer) (with_version 1 (plan_in answer)) secure.chosen.exact in
    accepted_behind Pla text answer (length (physical_lines ended.body)) (lines_in_a_row ended.body text answer ended.fed ended.complete)
    (allowed_in_a_row text answer (bytes_allowed text (none_first (byte_refusal (bad_line text)) (pla_lines_refusal (lines_of text)) sourced))
    (bytes_allowed answer (none_first (byte_refusal (bad_line answer)) (lines_refusal Netlist second) made.readable)))
    (table_kept (lines_of text) (moved (length (physical_lines ended.body)) second)
    (none_later (byte_refusal (bad_line text)) (pla_lines_refusal (lines_of text)) sourced) ended.ended)
    made.readable points
    (record {
      checking = secure.checking;
      fits = record { inputs = first.inputs; outputs = first.outputs; states = first.states };
      cells = secure.cells;
      secure = secure.secure;
    })

-- the machine of two states is a source with its end
pub two_states_end : IsEndedSource KissEnd two_states
two_states_end =
    let past : (section_of (lines_of two_states) 0 KissEnd).past ≡ 6 = refl in
    let count : length (lines_of two_states) ≡ 7 = refl in
    record {
      body = with_feeds (codes ".i 1" ∷ codes ".o 1" ∷ codes "0 A A 0" ∷ codes "1 A B 1" ∷ codes "0 B B 0" ∷ codes "1 B A 1" ∷ []) ++ codes ".e";
      fed = refl;
      complete = refl;
      ended = omega (arith, past, count);
    }
