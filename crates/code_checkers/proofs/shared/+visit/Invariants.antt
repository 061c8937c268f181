use Rattle.code_checkers.proofs.shared.+visit.Given as goal

abbrev pub decreases-visit : goal.decreases-visit
decreases-visit l = l.place
