use Rattle.std.proofs.Common.{◌≡◌, [], ◌∷◌, map, drop}
use Rattle.question_text.specs.Gates.{after_clauses, turned}
use Rattle.question_text.proofs.gates.push_or.Given as goal

abbrev pub invariant-loop-it : goal.invariant-loop-it
invariant-loop-it l =
    after_clauses l.out (map (λ m. l.gives ∷ turned m ∷ []) (drop l.it-index l.literals)) ≡ after_clauses l.initial.out (map (λ m. l.gives ∷ turned m ∷ []) l.literals)
