use Rattle.std.proofs.Common.{◌≡◌, ℕ, ◌<◌, ◌^◌, List, ◌∙◌, ap, length, All, subst, sym}
use Rattle.std.proofs.lemmas.List.{length-map}
use Rattle.tsc_net.specs.declared.ids.NetId.{NetId}
use Rattle.parity_code.specs.GroupChecks.{group_check_nets}
use Rattle.parity_code.proofs.GroupStands.{checks_paired}
use Rattle.twin_synth.proofs.TwinSizes.{check_nets_low}
use Rattle.twin_synth.proofs.planning.twin_plan.Goals as goal

pub nets_of-requires : goal.nets_of-requires
nets_of-requires c = record {
  few = subst (All (λ net. net < 4294967296)) (sym (c.as_slice-2.ensures.whole ∙ c.in_ok-checks.ensures.nets ∙ ap (λ gs. group_check_nets c.args.first gs c.args.base) c.as_slice.ensures.whole))
      (check_nets_low c.args.first 4294967296 c.args.groups.now c.args.base c.requires.groups.filled c.requires.room);
}

pub parity_plan-requires-clause-paired : goal.parity_plan-requires-clause-paired
parity_plan-requires-clause-paired c =
    ap (λ (l : List NetId). length l) c.as_slice-3.ensures.whole ∙ sym (length-map c.in_ok-checks-2.checks (λ (n : NetId). n.number))
    ∙ ap (λ (l : List ℕ). length l) (c.in_ok-checks-2.ensures.nets ∙ c.as_slice-2.ensures.whole ∙ c.in_ok-checks.ensures.nets ∙ ap (λ gs. group_check_nets c.args.first gs c.args.base) c.as_slice.ensures.whole)
    ∙ checks_paired c.args.first c.args.groups.now c.args.base
