-- How many gates a checker has at most.
use Rattle.std.specs.Prelude.{ℕ, ◌+◌, ◌*◌, length}
use Rattle.std.specs.List.{sum_by}
use Rattle.fault_secure.specs.declared.code.Code.{Code}
use Rattle.fault_secure.specs.declared.code.Code.TheVariants.{Parity, Berger, MOutOfN}
use Rattle.fault_secure.specs.CodePlan.{CodePlan}

-- the gates of a threshold pair over two stretches of the word, and the places of the stretches: rows of thresholds, a term for
-- each number, and two chains over the terms
abbrev pub stretch_gates : ℕ → ℕ → ℕ
stretch_gates a b = (a + b) + (a * a + b * b + 3 * (a + b + 1))

-- the gates of the pairs of a code: for a parity group its outputs, their chain and its check; for a Berger check the outputs,
-- the counter, and for each counted bit its negation and its check
abbrev pub code_gates : Code → CodePlan → ℕ
code_gates Parity P = sum_by (λ group. 2 * length group + 1) P.groups
code_gates Berger P = P.outputs + (P.outputs * P.outputs + 2 * P.outputs)
code_gates MOutOfN P = stretch_gates P.outputs (length P.checks)

-- the most pairs of a code
abbrev pub code_pairs_most : Code → CodePlan → ℕ
code_pairs_most Parity P = length P.groups
code_pairs_most Berger P = P.outputs
code_pairs_most MOutOfN P = 1

-- the gates of the pairs, those of the next state's places among them, a cell of six gates for each pair in the tree, the two
-- rails, and one place of the word
abbrev pub checker_size : CodePlan → ℕ
checker_size P = code_gates P.code P + stretch_gates P.latches P.latches + 6 * (code_pairs_most P.code P + 1) + 3
