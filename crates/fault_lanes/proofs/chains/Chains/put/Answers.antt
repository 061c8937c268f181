use Rattle.std.proofs.Common.{◌≡◌, ℕ, ◌<◌, set, Some, None, length, refl, sym, ap, ◌∙◌, subst, arith}
use Rattle.std.specs.Prelude.{slice_index}
use Rattle.std.proofs.lemmas.List.{get_or-set_same, get_or-set_other}
use Rattle.fault_secure.specs.StuckAt.{fault_cell}
use Rattle.tsc_net.specs.Fault.{stuck_at, stuck_at_or_none}
use Rattle.fault_lanes.proofs.HoldLemmas.{number_there}
use Rattle.fault_lanes.proofs.ChainLemmas.{lead_through_more}
use Rattle.fault_lanes.proofs.chains.Chains.put.Goals as goal

pub returns : goal.returns
returns c =
    let old = c.args.self.now in
    let lane = c.args.lane in
    let f = c.args.fault in
    let cell = c.cell_of-net.ensures.cell in
    let inside : c.cell_of-net.result < length old.newest.items = subst (λ (n : ℕ). n < length old.newest.items) (sym cell) c.requires.within in
    let before : c.index.result.now ≡ slice_index old.newest.items (fault_cell (stuck_at f)) =
    sym (number_there old.newest.items c.cell_of-net.result c.index.result.now inside c.index.ensures) ∙ ap (slice_index old.newest.items) cell in
    record {
      chains = lead_through_more (length old.newest.items) lane f old _ c.requires.some c.requires.few c.requires.chains refl
          (ap (λ (n : ℕ). set old.newest.items n lane) cell) (ap (set old.older.items lane) before) c.requires.within;
      here = ap stuck_at_or_none (get_or-set_same old.faults.items lane (Some f) None (omega (arith, c.requires.chains.faults_sized, c.requires.few)));
      others = λ other apart. ap stuck_at_or_none (get_or-set_other old.faults.items lane other (Some f) None apart);
    }
