-- A text of a network, a netlist and a refutation: what is refused of it, and its answer.
use Rattle.std.proofs.Common.{◌≡◌, ℕ, ◌<◌, List, length, None, Result, IfOk, OnOk, IfErr, ap, subst}
use Rattle.std.proofs.lemmas.Result.{IfErr-weaker, on_ok_weaker}
use Rattle.fault_secure.specs.Circuit.{Circuit}
use Rattle.fault_secure.specs.CodePlan.{CodePlan}
use Rattle.tsc_net.specs.NetlistOf.{NetlistOf}
use Rattle.tsc_text.specs.Bytes.{bad_line}
use Rattle.tsc_text.specs.Lines.{lines_of}
use Rattle.tsc_text.specs.TextLine.{TextLine}
use Rattle.commands.specs.declared.source_format.SourceFormat.TheVariants.{Blif}
use Rattle.netlist_answers.specs.declared.reply.Reply.{Reply}
use Rattle.refusals.specs.declared.refusal.Refusal.{Refusal}
use Rattle.text_sections.specs.Denoted.{behind_source, first_net, net_from, plan_from}
use Rattle.text_sections.specs.Refused.{IsRefusedBy, byte_refusal, first_of, netlist_section_refusal, source_refusal}
use Rattle.text_sections.proofs.BehindLemmas.{allowed_last, refused_last}
use Rattle.text_sections.proofs.SectionLemmas.{allowed_both, refused_first, refused_later}
use Rattle.proof_answers.specs.ProofReply.{IsProofReplyFrom, IsProofReplyOf}
use Rattle.proof_answers.specs.Refused.{proof_lines_refusal, proof_refusal, proof_refusal_from, refutation_after, refutation_refusal}

-- ---- a text

-- whose bytes are refused
pub refused_bytes : (text : List ℕ) (given : Refusal) → IsRefusedBy (byte_refusal (bad_line text)) given → IsRefusedBy (proof_refusal text) given
refused_bytes text given refused = refused_first (byte_refusal (bad_line text)) (proof_lines_refusal (lines_of text)) given refused

-- whose bytes are allowed, for its lines
pub refused_lines : (text : List ℕ) (lines : List TextLine) (given : Refusal) → lines ≡ lines_of text → bad_line text ≡ None
    → IsRefusedBy (proof_lines_refusal lines) given → IsRefusedBy (proof_refusal text) given
refused_lines text lines given are sound refused =
    let P : List TextLine → Type 0 = λ l. IsRefusedBy (first_of (byte_refusal (bad_line text)) (proof_lines_refusal l)) given in
    subst P are (refused_later (byte_refusal (bad_line text)) (proof_lines_refusal lines) given (ap byte_refusal sound) refused)

pub allowed_lines : (text : List ℕ) (lines : List TextLine) → lines ≡ lines_of text → bad_line text ≡ None → proof_lines_refusal lines ≡ None → proof_refusal text ≡ None
allowed_lines text lines are sound allowed =
    let P : List TextLine → Type 0 = λ l. first_of (byte_refusal (bad_line text)) (proof_lines_refusal l) ≡ None in
    subst P are (allowed_both (byte_refusal (bad_line text)) (proof_lines_refusal lines) (ap byte_refusal sound) allowed)

-- ---- its lines

-- a network and a place that are those of the lines
at_source : (A : NetlistOf → ℕ → Type 0) (lines : List TextLine) (S : NetlistOf) (at : ℕ) → S ≡ first_net lines → at ≡ behind_source Blif lines → A S at
    → A (first_net lines) (behind_source Blif lines)
at_source A lines S at is_source is_at known =
    let B : NetlistOf → Type 0 = λ s. A s at in subst (A (first_net lines)) is_at (subst B is_source known)

-- whose network is refused
pub refused_source : (lines : List TextLine) (given : Refusal) → IsRefusedBy (source_refusal Blif lines) given → IsRefusedBy (proof_lines_refusal lines) given
refused_source lines given refused = refused_first (source_refusal Blif lines) (proof_refusal_from (first_net lines).circuit lines (behind_source Blif lines)) given refused

-- whose network is allowed, for what stands after it
pub refused_from : (lines : List TextLine) (S : NetlistOf) (at : ℕ) (given : Refusal) → S ≡ first_net lines → at ≡ behind_source Blif lines → source_refusal Blif lines ≡ None
    → IsRefusedBy (proof_refusal_from S.circuit lines at) given → IsRefusedBy (proof_lines_refusal lines) given
refused_from lines S at given is_source is_at none refused =
    at_source (λ s n. IsRefusedBy (first_of (source_refusal Blif lines) (proof_refusal_from s.circuit lines n)) given) lines S at is_source is_at
    (refused_later (source_refusal Blif lines) (proof_refusal_from S.circuit lines at) given none refused)

pub allowed_from : (lines : List TextLine) (S : NetlistOf) (at : ℕ) → S ≡ first_net lines → at ≡ behind_source Blif lines → source_refusal Blif lines ≡ None
    → proof_refusal_from S.circuit lines at ≡ None → proof_lines_refusal lines ≡ None
allowed_from lines S at is_source is_at none allowed =
    at_source (λ s n. first_of (source_refusal Blif lines) (proof_refusal_from s.circuit lines n) ≡ None) lines S at is_source is_at
    (allowed_both (source_refusal Blif lines) (proof_refusal_from S.circuit lines at) none allowed)

pub reply_from : {E : Type 0} (r : Result Reply E) (lines : List TextLine) (S : NetlistOf) (at : ℕ) → S ≡ first_net lines → at ≡ behind_source Blif lines
    → IfOk r (λ reply. IsProofReplyFrom reply.ending S lines at reply.bytes)
    → IfOk r (λ reply. IsProofReplyFrom reply.ending (first_net lines) lines (behind_source Blif lines) reply.bytes)
reply_from r lines S at is_source is_at replied =
    at_source (λ s n. IfOk r (λ reply. IsProofReplyFrom reply.ending s lines n reply.bytes)) lines S at is_source is_at replied

-- ---- what stands after the network

module _ (lines : List TextLine) (from : ℕ) (N : NetlistOf) (P : CodePlan) (rest : List TextLine)
    (is_net : N ≡ net_from lines from) (is_plan : P ≡ plan_from lines from) (is_rest : rest ≡ refutation_after lines from) where
  -- a netlist, its plan and lines that are those from a place on
  at_from : (A : NetlistOf → CodePlan → List TextLine → Type 0) → A N P rest → A (net_from lines from) (plan_from lines from) (refutation_after lines from)
  at_from A known =
      let B : NetlistOf → Type 0 = λ n. A n P rest in
      let C : CodePlan → Type 0 = λ p. A (net_from lines from) p rest in
      subst (A (net_from lines from) (plan_from lines from)) is_rest (subst C is_plan (subst B is_net known))

  -- the netlist is allowed, and what refuses the refutation after it refuses them
  pub refused_refutation : (C : Circuit) (given : Refusal) → from < length lines → netlist_section_refusal lines from ≡ None
      → IsRefusedBy (refutation_refusal C N.circuit P rest) given → IsRefusedBy (proof_refusal_from C lines from) given
  refused_refutation C given there none refused =
      let after = refutation_refusal C (net_from lines from).circuit (plan_from lines from) (refutation_after lines from) in
      refused_last (first_of (netlist_section_refusal lines from) after) lines from given there
      (refused_later (netlist_section_refusal lines from) after given none (at_from (λ n p r. IsRefusedBy (refutation_refusal C n.circuit p r) given) refused))

  pub allowed_refutation : (C : Circuit) → from < length lines → netlist_section_refusal lines from ≡ None → refutation_refusal C N.circuit P rest ≡ None
      → proof_refusal_from C lines from ≡ None
  allowed_refutation C there none allowed =
      let after = refutation_refusal C (net_from lines from).circuit (plan_from lines from) (refutation_after lines from) in
      allowed_last (first_of (netlist_section_refusal lines from) after) lines from there
      (allowed_both (netlist_section_refusal lines from) after none (at_from (λ n p r. refutation_refusal C n.circuit p r ≡ None) allowed))

  pub reply_after : {E : Type 0} (r : Result Reply E) (S : NetlistOf) → IfOk r (λ reply. IsProofReplyOf reply.ending S N P rest reply.bytes)
      → IfOk r (λ reply. IsProofReplyFrom reply.ending S lines from reply.bytes)
  reply_after r S replied = at_from (λ n p l. IfOk r (λ reply. IsProofReplyOf reply.ending S n p l reply.bytes)) replied

-- the netlist is refused
pub refused_netlist : (C : Circuit) (lines : List TextLine) (from : ℕ) (given : Refusal) → from < length lines → IsRefusedBy (netlist_section_refusal lines from) given
    → IsRefusedBy (proof_refusal_from C lines from) given
refused_netlist C lines from given there refused =
    let after = refutation_refusal C (net_from lines from).circuit (plan_from lines from) (refutation_after lines from) in
    refused_last (first_of (netlist_section_refusal lines from) after) lines from given there (refused_first (netlist_section_refusal lines from) after given refused)
