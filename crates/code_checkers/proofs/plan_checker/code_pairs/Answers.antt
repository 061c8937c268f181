use Rattle.std.proofs.Common.{◌<◌, ℕ, List, [], map, length, All, subst, arith}
use Rattle.std.proofs.lemmas.List.{get_or-map, length-map}
use Rattle.tsc_net.specs.declared.plan.Group.{Group}
use Rattle.code_checkers.proofs.SizedWords.{filled}
use Rattle.code_checkers.proofs.plan_checker.code_pairs.Goals as goal

filled_of : (groups : List Group) → All (λ (group : List ℕ). 0 < length group) (map (λ (group : Group). group.places) groups) → All (λ (group : Group). 0 < length group.places) groups
filled_of groups h k d lt =
    subst (λ (places : List ℕ). 0 < length places) (get_or-map (λ (group : Group). group.places) groups k d [] lt)
    (h k [] (omega (arith, length-map groups (λ (group : Group). group.places))))

pub group_pairs-requires-clause-filled : goal.group_pairs-requires-clause-filled
group_pairs-requires-clause-filled c = filled_of c.args.groups.now (filled c.args.sizes _ c.requires.plan c.in-Parity.is)
