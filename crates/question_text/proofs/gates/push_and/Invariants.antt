use Rattle.std.proofs.Common.{◌≡◌, [], ◌∷◌, map, drop}
use Rattle.question_text.specs.Gates.{after_clauses, is_zero}
use Rattle.question_text.proofs.gates.push_and.Given as goal

abbrev pub invariant-loop-it : goal.invariant-loop-it
invariant-loop-it l =
    after_clauses l.out (map (λ m. is_zero l.variable ∷ m ∷ []) (drop l.it-index l.literals)) ≡ after_clauses l.initial.out (map (λ m. is_zero l.variable ∷ m ∷ []) l.literals)
