-- One pin after the other.
use Rattle.std.proofs.Common.{◌≡◌, ◌-◌, ◌+◌, ◌++◌, suc, refl, sym, ap, ◌∙◌, arith, append_assoc, true, false, [], ◌∷◌}
use Rattle.fault_secure.specs.StuckAt.{Pin}
use Rattle.fault_secure.specs.Listed.{pin_faults}
use Rattle.fault_secure.proofs.ListedLemmas.{pin_faults-next}
use Rattle.tsc_net.proofs.faults.Faults.push_driver.Goals as goal

pub loop-index-preserved : goal.loop-index-preserved
loop-index-preserved c =
    let pin = c.loop-index.index in
    let most = c.args.pins - pin in
    let rest = c.args.pins - (pin + 1) in
    let step : most ≡ suc rest = omega arith in
    record {
      number = refl;
      reading =
          ap (λ faults. faults ++ pin_faults c.args.at (pin + 1) rest) c.in_ok-push_pin.ensures.ok
          ∙ append_assoc c.loop-index.self (Pin c.args.at pin false ∷ Pin c.args.at pin true ∷ []) (pin_faults c.args.at (pin + 1) rest)
          ∙ ap (λ faults. c.loop-index.self ++ faults) (sym (pin_faults-next c.args.at pin most rest step))
          ∙ c.loop-index.invariant.reading;
    }
