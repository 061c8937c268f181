-- What a written netlist is to a network with free bits, as it is read again.
use Rattle.std.proofs.Common.{◌≡◌, ℕ, ◌≤◌, List, length, None, sym, ◌∙◌, ap, ap₂, subst}
use Rattle.fault_secure.specs.CodePlan.{CodePlan}
use Rattle.fault_secure.specs.Logic.Logic.{Loose, Network}
use Rattle.synth_ways.specs.declared.way.Way.{Way}
use Rattle.synth_ways.specs.Ways.{way_code}
use Rattle.structure_laws.specs.CellSecure.{SoundIsCellSecure, CellSecureIsFaultSecure}
use Rattle.structure_laws.specs.LooseSource.{with_version}
use Rattle.tsc_net.specs.NetlistOf.{NetlistOf}
use Rattle.blif_write.specs.IsReadAs.{IsReadAs}
use Rattle.blif_write.specs.Layout.{netlist_text}
use Rattle.code_checkers.specs.SelfChecking.{IsSelfChecking}
use Rattle.tsc_synth.specs.WayNetlist.{IsNetlistOf}
use Rattle.tsc_synth.specs.CoverBound.{cover_bound, is_too_large}
use Rattle.refusals.specs.declared.refusal.Refusal.{Refusal}
use Rattle.answers.specs.Answers.{AnswerTable, IsLooseSynthesis, IsSecureLoose}
use Rattle.answers.specs.Refused.{size_refusal, synth_loose_refusal}
use Rattle.tsc_text.specs.Lines.{lines_of}
use Rattle.tsc_text.specs.TextLine.{TextLine}
use Rattle.pla_read.specs.Networks.{AnswersAs}
use Rattle.pla_read.specs.TableText.{is_free, is_one}
use Rattle.text_sections.specs.Denoted.{frees_in, frees_of, netlist_in, table_in, table_of, values_in, values_of}
use Rattle.text_sections.specs.Refused.{IsRefusedBy, pla_text_refusal}
use Rattle.text_sections.proofs.SectionLemmas.{allowed_both, refused_later}
use Rattle.answers.proofs.SynthesisLemmas.{net_read, plan_read, secure_for, text_readable}

-- a self-checking netlist within the bound is secure, and under version 1 it is so for the network of the values
pub secure_loose : SoundIsCellSecure → CellSecureIsFaultSecure → (way : Way) (V F N : NetlistOf) (P : CodePlan)
    → IsSelfChecking (Loose V.circuit F.circuit) N.circuit P → IsSelfChecking (Network V.circuit) N.circuit (with_version 1 P)
    → IsNetlistOf way V N (with_version 1 P) → P.version ≡ 2 → P.code ≡ way_code way → length N.circuit.nodes ≤ cover_bound way V.circuit → IsSecureLoose way V F N P
secure_loose sound cells way V F N P checking chosen exact version coded covers =
    let secure = sound (Loose V.circuit F.circuit) N.circuit P checking.structure checking.follows in
    record {
      chosen = secure_for sound cells way V N (with_version 1 P) chosen exact coded covers;
      version = version;
      checking = checking;
      cells = secure;
      secure = cells (Loose V.circuit F.circuit) N.circuit P checking.structure.acyclic secure;
    }

-- for networks that are the same
pub secure_in : (way : Way) (V W F G N : NetlistOf) (P : CodePlan) → V ≡ W → F ≡ G → IsSecureLoose way V F N P → IsSecureLoose way W G N P
secure_in way V W F G N P values frees secure =
    let A : NetlistOf → Type 0 = λ v. IsSecureLoose way v F N P in
    let B : NetlistOf → Type 0 = λ f. IsSecureLoose way W f N P in
    subst B frees (subst A values secure)

-- a text is refused for the bound on the netlist of its values, where nothing else refuses it
module _ (way : Way) (text : List ℕ) (V : NetlistOf) (is : V ≡ values_in text) (allowed : pla_text_refusal text ≡ None) where
  pub refused_size : (given : Refusal) → IsRefusedBy (size_refusal (is_too_large way V.circuit)) given → IsRefusedBy (synth_loose_refusal way text) given
  refused_size given refused =
      let P : NetlistOf → Type 0 = λ v. IsRefusedBy (size_refusal (is_too_large way v.circuit)) given in
      refused_later (pla_text_refusal text) (size_refusal (is_too_large way (values_in text).circuit)) given allowed (subst P is refused)

  pub allowed_size : size_refusal (is_too_large way V.circuit) ≡ None → synth_loose_refusal way text ≡ None
  allowed_size fits =
      allowed_both (pla_text_refusal text) (size_refusal (is_too_large way (values_in text).circuit)) allowed
      (ap (λ (v : NetlistOf). size_refusal (is_too_large way v.circuit)) (sym is) ∙ fits)

-- the networks that were read of the lines of a text are those of its table
pub tabled_in : (lines : List TextLine) (text : List ℕ) (V F : NetlistOf) → lines ≡ lines_of text → V ≡ values_of lines → F ≡ frees_of lines
    → AnswersAs (is_one (table_of lines)) V.circuit → AnswersAs (is_free (table_of lines)) F.circuit
    → AnswerTable (table_in text) (values_in text).circuit (frees_in text).circuit
tabled_in lines text V F are values frees one free =
    subst (λ (l : List TextLine). AnswerTable (table_of l) (values_of l).circuit (frees_of l).circuit) are (record {
      values_as = subst (λ (v : NetlistOf). AnswersAs (is_one (table_of lines)) v.circuit) values one;
      frees_as = subst (λ (f : NetlistOf). AnswersAs (is_free (table_of lines)) f.circuit) frees free;
    })

pub loose_synthesis : (way : Way) (text bytes : List ℕ) (N : NetlistOf) (P : CodePlan)
    → bytes ≡ netlist_text N P → IsReadAs bytes N P → AnswerTable (table_in text) (values_in text).circuit (frees_in text).circuit
    → IsSecureLoose way (values_in text) (frees_in text) N P → IsLooseSynthesis way text bytes
loose_synthesis way text bytes N P written read tabled secure =
    let net = net_read bytes N P read in
    let plan = plan_read bytes N P read in
    record {
      readable = text_readable bytes N P read;
      written = written ∙ ap₂ netlist_text (sym net) (sym plan);
      tabled = tabled;
      secure =
          (let B : NetlistOf → Type 0 = λ n. IsSecureLoose way (values_in text) (frees_in text) n P in
          let C : CodePlan → Type 0 = λ p. IsSecureLoose way (values_in text) (frees_in text) (netlist_in bytes) p in
          subst C (sym plan) (subst B (sym net) secure));
    }
