-- What a written netlist is to its network, as it is read again.
use Rattle.std.proofs.Common.{◌≡◌, ◌≤◌, ℕ, List, length, None, refl, sym, ◌∙◌, ap, ap₂, subst, arith}
use Rattle.fault_secure.specs.CodePlan.{CodePlan}
use Rattle.tsc_net.specs.NetlistOf.{NetlistOf, netlist_of}
use Rattle.fault_secure.specs.Logic.Logic.{Network}
use Rattle.synth_ways.specs.declared.way.Way.{Way}
use Rattle.synth_ways.specs.declared.way.Way.TheVariants.{Parity, Duplex}
use Rattle.synth_ways.specs.Ways.{way_code}
use Rattle.structure_laws.specs.CellSecure.{SoundIsCellSecure, CellSecureIsFaultSecure}
use Rattle.blif_read.specs.Denotes.{DenotesNetlist, refusal}
use Rattle.blif_read.specs.NamedText.{named_text}
use Rattle.blif_read.specs.declared.kinds.Kind.TheVariants.{Netlist}
use Rattle.blif_write.specs.IsReadAs.{IsReadAs, all_lines}
use Rattle.blif_write.specs.Layout.{netlist_text}
use Rattle.tsc_synth.specs.WayNetlist.{IsNetlistOf}
use Rattle.code_checkers.specs.SelfChecking.{IsSelfChecking}
use Rattle.tsc_synth.specs.CoverBound.{cover_bound}
use Rattle.answers.specs.Answers.{IsSecureFor, IsSynthesis, duplex_text, parity_text}
use Rattle.text_sections.specs.Denoted.{first_lines, first_net, first_plan, first_section, netlist_in, plan_in}
use Rattle.text_sections.specs.Refused.{text_refusal}
use Rattle.text_sections.proofs.SectionLemmas.{allowed_lines, allowed_text_of, none_left}
use Rattle.text_sections.proofs.DenotedLemmas.{plan_denoted}

-- a self-checking netlist within the bound is secure
pub secure_for : SoundIsCellSecure → CellSecureIsFaultSecure → (way : Way) (S N : NetlistOf) (P : CodePlan) → IsSelfChecking (Network S.circuit) N.circuit P
    → IsNetlistOf way S N P → P.code ≡ way_code way → length N.circuit.nodes ≤ cover_bound way S.circuit → IsSecureFor way S N P
secure_for sound cells way S N P checking exact coded covers =
    let secure = sound (Network S.circuit) N.circuit P checking.structure checking.follows in
    record {
      coded = coded;
      exact = exact;
      covers = covers;
      checking = checking;
      cells = secure;
      secure = cells (Network S.circuit) N.circuit P checking.structure.acyclic secure;
    }

-- a written text is refused by nothing, and denotes the netlist and the plan that were written
module _ (text : List ℕ) (N : NetlistOf) (P : CodePlan) (read : IsReadAs text N P) where
  section_allowed : refusal Netlist (first_lines (all_lines N P)) ≡ None
  section_allowed = ap (refusal Netlist) read.section ∙ read.refused

  none_behind : length (all_lines N P) ≤ (first_section (all_lines N P)).next
  none_behind = omega (arith, read.ends)

  pub text_readable : text_refusal Netlist text ≡ None
  text_readable =
      allowed_lines Netlist text (all_lines N P) (sym read.lines) read.allowed
      (none_left (all_lines N P) 0 (first_section (all_lines N P)) refl Netlist (length (all_lines N P))
      (allowed_text_of (all_lines N P) 0 (first_section (all_lines N P)) refl Netlist section_allowed) none_behind refl)

  net_of_lines : first_net (all_lines N P) ≡ N
  net_of_lines = ap (λ ls. netlist_of (named_text ls)) read.section ∙ read.same

  pub net_read : netlist_in text ≡ N
  net_read = ap first_net read.lines ∙ net_of_lines

  pub plan_read : plan_in text ≡ P
  plan_read =
      let denoted : DenotesNetlist (first_lines (all_lines N P)) N P = subst (λ ls. DenotesNetlist ls N P) (sym read.section) read.denoted in
      ap first_plan read.lines ∙ plan_denoted (all_lines N P) 0 N P (sym net_of_lines) denoted

-- and of the network that a text denotes
pub secure_in : (way : Way) (text : List ℕ) (source N : NetlistOf) (P : CodePlan) → source ≡ netlist_in text → IsSecureFor way source N P → IsSecureFor way (netlist_in text) N P
secure_in way text source N P is secure = let A : NetlistOf → Type 0 = λ s. IsSecureFor way s N P in subst A is secure

pub synthesis : (way : Way) (text bytes : List ℕ) (N : NetlistOf) (P : CodePlan)
    → bytes ≡ netlist_text N P → IsReadAs bytes N P → IsSecureFor way (netlist_in text) N P → IsSynthesis way text bytes
synthesis way text bytes N P written read secure =
    let net = net_read bytes N P read in
    let plan = plan_read bytes N P read in
    record {
      readable = text_readable bytes N P read;
      written = written ∙ ap₂ netlist_text (sym net) (sym plan);
      secure =
          (let B : NetlistOf → Type 0 = λ n. IsSecureFor way (netlist_in text) n P in
          let C : CodePlan → Type 0 = λ p. IsSecureFor way (netlist_in text) (netlist_in bytes) p in
          subst C (sym plan) (subst B (sym net) secure));
    }

-- under parity the bytes are computed from the network alone
pub parity_bytes : (text answer : List ℕ) → IsSynthesis Parity text answer → answer ≡ parity_text (netlist_in text)
parity_bytes text answer made =
    let s : IsSecureFor Parity (netlist_in text) (netlist_in answer) (plan_in answer) = made.secure in
    made.written ∙ ap₂ netlist_text s.exact.net s.exact.plan

-- and over one shared copy
pub duplex_bytes : (text answer : List ℕ) → IsSynthesis Duplex text answer → answer ≡ duplex_text (netlist_in text)
duplex_bytes text answer made =
    let s : IsSecureFor Duplex (netlist_in text) (netlist_in answer) (plan_in answer) = made.secure in
    made.written ∙ ap₂ netlist_text s.exact.net s.exact.plan
