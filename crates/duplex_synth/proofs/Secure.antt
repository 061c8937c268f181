-- Duplex netlists are secure.
use Rattle.std.proofs.Common.{◌≡◌, sym, ◌∙◌, ap, subst}
use Rattle.fault_secure.specs.Circuit.{Circuit}
use Rattle.fault_secure.specs.Closed.{IsClosed}
use Rattle.fault_secure.specs.CodePlan.{CodePlan}
use Rattle.fault_secure.specs.Logic.Logic.{Network}
use Rattle.tsc_net.specs.NetlistOf.{NetlistOf, IsBuilt}
use Rattle.code_checkers.specs.GateList.{GateList}
use Rattle.code_checkers.specs.SelfChecking.{IsSelfChecking}
use Rattle.structure_laws.proofs.SoundCodes.{sound_is_cell_secure, sound_is_fault_secure}
use Rattle.duplex_synth.specs.DuplexNet.{duplex_plan, IsDuplexNetlist}
use Rattle.duplex_synth.specs.DuplexLaws.{OneDuplexNetlist, DuplexIsSecure}
use Rattle.duplex_synth.specs.Duplexable.{IsDuplexable}
use Rattle.parity_synth.proofs.DraftCircuit.{composed_circuit}
use Rattle.parity_synth.proofs.DraftExact.{circuit_exact, composed_secure}
use Rattle.duplex_synth.proofs.DuplexDraft.{duplex_draft, is_draft}

pub one_netlist : OneDuplexNetlist
one_netlist S N K P Q one other = (one.net ∙ sym other.net, one.plan ∙ sym other.plan)

-- a checked netlist that is the duplex netlist of a network is self-checking
duplex_self_checking : (S N : NetlistOf) (P : CodePlan) (made : GateList) → IsDuplexable S made → IsBuilt N → IsDuplexNetlist S N P → IsSelfChecking (Network S.circuit) N.circuit P
duplex_self_checking S N P made h built is =
    let same : N.circuit ≡ composed_circuit (duplex_draft S made) = ap (λ (M : NetlistOf). M.circuit) is.net ∙ sym (circuit_exact (duplex_draft S made) (is_draft S made h)) in
    subst (IsSelfChecking (Network S.circuit) N.circuit) (sym is.plan)
    (subst (λ (M : Circuit). IsSelfChecking (Network S.circuit) M (duplex_plan S.circuit)) (sym same)
    (composed_secure (duplex_draft S made) (is_draft S made h) (subst IsClosed same built.closed)))

pub duplex_secure : DuplexIsSecure
duplex_secure S N P made h built is =
    let checking = duplex_self_checking S N P made h built is in
    (sound_is_cell_secure (Network S.circuit) N.circuit P checking.structure checking.follows, sound_is_fault_secure (Network S.circuit) N.circuit P checking.structure checking.follows)
