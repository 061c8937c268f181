-- One driver after the other.
use Rattle.std.proofs.Common.{◌<◌, ◌≤◌, ◌+◌, ◌-◌, ◌++◌, drop, sym, ap, ◌∙◌, arith, append_assoc}
use Rattle.fault_secure.specs.Circuit.{nets}
use Rattle.fault_secure.specs.Listed.{faults_from, faults_at, pin_counts}
use Rattle.fault_secure.proofs.ListedLemmas.{faults_from-next}
use Rattle.tsc_net.proofs.faults.Faults.of.Goals as goal

pub loop-at-preserved : goal.loop-at-preserved
loop-at-preserved c =
    let C = c.args.net.now.circuit in
    let at = c.loop-at.at in
    let not_input : C.inputs ≤ at = omega arith in
    let is_net : at < nets C = omega arith in
    ap (λ faults. faults ++ faults_from (at + 1) (drop (at + 1 - C.inputs) (pin_counts C))) c.in_ok-push_driver.ensures.ok
    ∙ append_assoc c.loop-at.faults (faults_at at c.pins_of.result) (faults_from (at + 1) (drop (at + 1 - C.inputs) (pin_counts C)))
    ∙ ap (λ pins. c.loop-at.faults ++ (faults_at at pins ++ faults_from (at + 1) (drop (at + 1 - C.inputs) (pin_counts C)))) c.pins_of.ensures.pins
    ∙ ap (λ faults. c.loop-at.faults ++ faults) (sym (faults_from-next C at not_input is_net))
    ∙ c.loop-at.invariant
