use Rattle.std.proofs.Common.{arith}
use Rattle.std.proofs.lemmas.Grind.{common_steps}
use Rattle.fault_lanes.proofs.ChainLemmas.{none_there, lead_through_none}
use Rattle.fault_lanes.proofs.chains.Chains.with_room.Goals as goal

pub returns-clause-chains : goal.returns-clause-chains
returns-clause-chains c =
    lead_through_none c.args.nets _ (c.in_ok-faults.ensures.items_if_clones_equal (λ y clone. first_of (cc, grind (arith, common_steps))))
    (c.in_ok-older.ensures.items_if_clones_equal (λ y clone. first_of (cc, grind (arith, common_steps))))
    (c.in_ok-newest.ensures.items_if_clones_equal (λ y clone. first_of (cc, grind (arith, common_steps))))

pub returns-clause-free : goal.returns-clause-free
returns-clause-free c = λ lane. none_there c.in_ok-faults.faults.items 1024 lane (c.in_ok-faults.ensures.items_if_clones_equal (λ y clone. first_of (cc, grind (arith, common_steps))))
