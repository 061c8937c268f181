use Rattle.std.proofs.Common.{map, arith}
use Rattle.std.proofs.lemmas.List.{length-map}
use Rattle.tsc_net.specs.declared.plan.Group.{Group}
use Rattle.code_checkers.proofs.Groups.{length-group_pairs}
use Rattle.code_checkers.proofs.Stretches.{length-pairs_added}
use Rattle.code_checkers.proofs.plan_checker.group_checker.Goals as goal

pub tree_rails-requires-clause-some : goal.tree_rails-requires-clause-some
tree_rails-requires-clause-some c =
    omega (
      arith,
      length-pairs_added _ _ _ c.in_ok-pairs.pairs.items c.in_ok-pairs.ensures.added,
      length-group_pairs c.args.check (map (λ (group : Group). group.places) c.args.groups.now),
      length-map c.args.groups.now (λ (group : Group). group.places),
      c.requires.some,
    )
