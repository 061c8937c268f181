use Rattle.std.proofs.Common.{refl, sym, ap, ◌∙◌, inl, inr, arith}
use Rattle.std.proofs.lemmas.List.{get_or-set_same, get_or-set_other}
use Rattle.std.proofs.lemmas.Option.{get_or_from_slice_get}
use Rattle.fault_secure.specs.StuckAt.{NoFault}
use Rattle.tsc_net.specs.Fault.{stuck_at}
use Rattle.fault_grades.specs.Grade.{is_left}
use Rattle.fault_grades.proofs.BatchLemmas.{blank}
use Rattle.fault_grades.proofs.batch.take_up.Goals as goal

pub returns-in-Unseen : goal.returns-in-Unseen
returns-in-Unseen c =
    let count = c.args.count in
    record {
      taken = inl (record {
        one = refl;
        there = get_or-set_same c.args.places.now count c.args.place 0 (omega arith);
        same = ap stuck_at (get_or-set_same c.args.into.now count c.get.result blank (omega arith))
            ∙ sym (get_or_from_slice_get c.args.faults.now c.args.place (stuck_at c.get.result) NoFault c.get.ensures.found);
        kept = λ at low. get_or-set_other c.args.places.now count at c.args.place 0 (λ e. omega arith);
        kept_faults = λ at low. ap stuck_at (get_or-set_other c.args.into.now count at c.get.result blank (λ e. omega arith));
      });
    }

pub returns-in-Alarm : goal.returns-in-Alarm
returns-in-Alarm c = record { taken = inr (record { decided = ap is_left c.in-Alarm.is; none = refl; same_places = refl; same_faults = refl }) }

pub returns-in-Silent : goal.returns-in-Silent
returns-in-Silent c = record { taken = inr (record { decided = ap is_left c.in-Silent.is; none = refl; same_places = refl; same_faults = refl }) }
