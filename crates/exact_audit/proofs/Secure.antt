-- What an exact verdict gives, and what gives one.
use Rattle.std.proofs.Common.{Bool, List, subst}
use Rattle.tsc_bits.specs.Bits.{bits_of}
use Rattle.fault_secure.specs.Circuit.{Circuit, bit}
use Rattle.fault_secure.specs.StuckAt.{NoFault}
use Rattle.fault_secure.specs.Settle.{Settles}
use Rattle.fault_secure.specs.CodePlan.{CodePlan}
use Rattle.fault_secure.specs.Logic.{Logic}
use Rattle.code_checkers.specs.SelfChecking.{IsSelfChecking}
use Rattle.point_laws.proofs.AtPoints.{sound_is_secure_at_points}
use Rattle.point_laws.proofs.Heard.{heard_at_points_is_alarm_secure, secure_at_points_is_heard, alarm_secure_for_faults, networks_are_decided_by_alarms, unheard_is_insecure}
use Rattle.point_laws.proofs.Steps.{one_word}
use Rattle.point_laws.proofs.WhereReached.{quiet_reached}
use Rattle.audit.specs.Laws.{IsPlanned}
use Rattle.audit.proofs.Accepted.{sound, self_checking_is_accepted}
use Rattle.exact_audit.specs.ExactLaws.{ExactIsAlarmSecure, ExactShowsFaults, NetworksAreDecidedExactly, NoAtReachedRefutes, AuditedIsExact, SelfCheckingIsExact}

-- a netlist with an exact yes is alarm-secure for its source, whichever one cell fails
pub exact_is_alarm_secure : ExactIsAlarmSecure
exact_is_alarm_secure M N P planned is = heard_at_points_is_alarm_secure M N P planned.plan_of planned.acyclic is.0.follows is.1

-- with one listed fault, present at any steps, no wrong output of a netlist with an exact yes comes before its alarm
pub exact_shows_faults : ExactShowsFaults
exact_shows_faults M N P planned is f w xs vs us listed run held =
    alarm_secure_for_faults M N P f w xs vs us (exact_is_alarm_secure M N P planned is) listed run held

pub networks_are_decided_exactly : NetworksAreDecidedExactly
networks_are_decided_exactly M N P one planned fits none = (
  exact_is_alarm_secure M N P planned,
  λ secure.
      let both = (networks_are_decided_by_alarms M N P one planned.plan_of planned.acyclic none).0 secure in
      (record { fits = fits; follows = both.0 }, both.1),
)

pub no_at_reached_refutes : NoAtReachedRefutes
no_at_reached_refutes = record {
  quiet = λ M N P q input s is_state reached first secure.
      let alarm = first.2 in
      quiet_reached M N P secure.follows secure.quiet s (bits_of N.inputs input) alarm.valuation reached
      (subst (λ (w : List Bool). Settles N NoFault (bit (bits_of N.inputs input)) (bit w) alarm.valuation)
      (one_word P q alarm.step.word s alarm.step.is_state is_state) alarm.step.settles) alarm.rails_agree;
  alarm = λ M N P net value q input s is_state reached first secure.
      unheard_is_insecure M N P net.number q (bits_of N.inputs input) s first.3.is_cell is_state reached first.3.unheard secure;
}

pub audited_is_exact : AuditedIsExact
audited_is_exact M N P planned is = (
  record { fits = is.before.before.fits; follows = is.before.follows },
  secure_at_points_is_heard N P (sound_is_secure_at_points M N P (sound M N P planned is) is.before.follows),
)

planned_of : (M : Logic) (N : Circuit) (P : CodePlan) → IsSelfChecking M N P → IsPlanned N P
planned_of M N P is = record {
  closed = is.structure.closed;
  acyclic = is.structure.acyclic;
  well_made = is.structure.well_made;
  plan_of = is.structure.plan_of;
}

-- a self-checking netlist that fits its source has an exact yes
pub self_checking_is_exact : SelfCheckingIsExact
self_checking_is_exact M N P is fits = audited_is_exact M N P (planned_of M N P is) (self_checking_is_accepted M N P is fits)
