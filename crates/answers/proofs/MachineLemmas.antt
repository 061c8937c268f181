-- What a command refuses of a text that denotes a machine, and what a written netlist is to the machine, as it is read again.
use Rattle.std.proofs.Common.{◌≡◌, ℕ, ◌≤◌, List, length, None, sym, ◌∙◌, ap, ap₂, subst}
use Rattle.fault_secure.specs.CodePlan.{CodePlan}
use Rattle.fault_secure.specs.Logic.{StateTable}
use Rattle.fault_secure.specs.Logic.Logic.{States}
use Rattle.fault_secure.specs.declared.code.Code.{Code}
use Rattle.structure_laws.specs.CellSecure.{SoundIsCellSecure, CellSecureIsFaultSecure}
use Rattle.tsc_net.specs.NetlistOf.{NetlistOf}
use Rattle.blif_write.specs.IsReadAs.{IsReadAs}
use Rattle.blif_write.specs.Layout.{netlist_text}
use Rattle.code_checkers.specs.SelfChecking.{IsSelfChecking}
use Rattle.machine_synth.specs.MachineBound.{machine_bound}
use Rattle.machine_synth.specs.MachineNetlist.{IsMachineNetlist}
use Rattle.refusals.specs.declared.refusal.Refusal.{Refusal}
use Rattle.answers.specs.Answers.{IsSecureMachine, IsMachineSynthesis}
use Rattle.text_sections.specs.Denoted.{inputs_in, machine_in, netlist_in, outputs_in}
use Rattle.text_sections.specs.Refused.{IsRefusedBy, machine_text_refusal}
use Rattle.answers.specs.Refused.{limits_refusal, synth_machine_refusal}
use Rattle.text_sections.proofs.SectionLemmas.{allowed_both, refused_later}
use Rattle.answers.proofs.SynthesisLemmas.{net_read, plan_read, text_readable}

-- a text that denotes a machine is refused for a limit behind its lines
module _ (code : Code) (text : List ℕ) where
  pub refused_limits : (M : StateTable) (given : Refusal) → M ≡ machine_in text → machine_text_refusal text ≡ None → IsRefusedBy (limits_refusal code M) given
      → IsRefusedBy (synth_machine_refusal code text) given
  refused_limits M given is allowed refused =
      let P : StateTable → Type 0 = λ m. IsRefusedBy (limits_refusal code m) given in
      refused_later (machine_text_refusal text) (limits_refusal code (machine_in text)) given allowed (subst P is refused)

  pub allowed_limits : (M : StateTable) → M ≡ machine_in text → machine_text_refusal text ≡ None → limits_refusal code M ≡ None → synth_machine_refusal code text ≡ None
  allowed_limits M is allowed fits =
      allowed_both (machine_text_refusal text) (limits_refusal code (machine_in text)) allowed (ap (limits_refusal code) (sym is) ∙ fits)

-- a self-checking netlist within the bound is secure
pub secure_machine : SoundIsCellSecure → CellSecureIsFaultSecure → (code : Code) (M : StateTable) (inputs outputs : List (List ℕ)) (N : NetlistOf) (P : CodePlan)
    → IsSelfChecking (States M) N.circuit P → IsMachineNetlist M inputs outputs N P → P.code ≡ code → length N.circuit.nodes ≤ machine_bound M code
    → IsSecureMachine code M inputs outputs N P
secure_machine sound cells code M inputs outputs N P checking exact coded covers =
    let secure = sound (States M) N.circuit P checking.structure checking.follows in
    record {
      coded = coded;
      exact = exact;
      covers = covers;
      checking = checking;
      cells = secure;
      secure = cells (States M) N.circuit P checking.structure.acyclic secure;
    }

-- and for the machine that a text denotes
pub secure_in : (code : Code) (text : List ℕ) (M : StateTable) (inputs outputs : List (List ℕ)) (N : NetlistOf) (P : CodePlan)
    → M ≡ machine_in text → inputs ≡ inputs_in text → outputs ≡ outputs_in text
    → IsSecureMachine code M inputs outputs N P → IsSecureMachine code (machine_in text) (inputs_in text) (outputs_in text) N P
secure_in code text M inputs outputs N P is ins outs secure =
    let A : StateTable → Type 0 = λ m. IsSecureMachine code m inputs outputs N P in
    let I : List (List ℕ) → Type 0 = λ i. IsSecureMachine code (machine_in text) i outputs N P in
    let O : List (List ℕ) → Type 0 = λ o. IsSecureMachine code (machine_in text) (inputs_in text) o N P in
    subst O outs (subst I ins (subst A is secure))

pub machine_synthesis : (code : Code) (text bytes : List ℕ) (N : NetlistOf) (P : CodePlan)
    → bytes ≡ netlist_text N P → IsReadAs bytes N P → IsSecureMachine code (machine_in text) (inputs_in text) (outputs_in text) N P
    → IsMachineSynthesis code text bytes
machine_synthesis code text bytes N P written read secure =
    let net = net_read bytes N P read in
    let plan = plan_read bytes N P read in
    record {
      readable = text_readable bytes N P read;
      written = written ∙ ap₂ netlist_text (sym net) (sym plan);
      secure =
          (let B : NetlistOf → Type 0 = λ n. IsSecureMachine code (machine_in text) (inputs_in text) (outputs_in text) n P in
          let C : CodePlan → Type 0 = λ p. IsSecureMachine code (machine_in text) (inputs_in text) (outputs_in text) (netlist_in bytes) p in
          subst C (sym plan) (subst B (sym net) secure));
    }
