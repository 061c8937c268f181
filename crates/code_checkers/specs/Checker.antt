-- The checker of a word, and so of a plan: its pairs, and its rails.
use Rattle.std.specs.Prelude.{◌≡◌, ℕ, zero, suc, ◌+◌, ◌-◌, ◌/◌, Bool, List, [], ◌∷◌, ◌++◌, map, reverse, length}
use Rattle.fault_secure.specs.declared.code.Code.{Code}
use Rattle.fault_secure.specs.declared.code.Code.TheVariants.{Parity, Berger, MOutOfN}
use Rattle.fault_secure.specs.CodePlan.{CodePlan}
use Rattle.code_checkers.specs.declared.word_sizes.WordSizes.{WordSizes}
use Rattle.code_checkers.specs.Signal.{Signal, Pair, value, words_from, chain}
use Rattle.code_checkers.specs.Signal.Signal.{Word, Buf, Not, Xor}
use Rattle.code_checkers.specs.Threshold.{threshold_pair}
use Rattle.code_checkers.specs.Counter.{count_zeros}
use Rattle.code_checkers.specs.TwoRail.{tree}

-- for each group the chain over its outputs and its check; the checks stand from place `check` on
abbrev pub group_pairs : ℕ → List (List ℕ) → List Pair
group_pairs check [] = []
group_pairs check (group ∷ groups) = record { first = chain Xor (map Word group); second = Word check } ∷ group_pairs (check + 1) groups

-- for each counted bit its negation and the check at its place
abbrev pub count_pairs : ℕ → List Signal → List Pair
count_pairs check [] = []
count_pairs check (b ∷ bits) = record { first = Not b; second = Word check } ∷ count_pairs (check + 1) bits

-- the pairs of each code, over a word of these sizes and with these groups
abbrev pub code_pairs_over : Code → WordSizes → List (List ℕ) → List Pair
code_pairs_over Parity S groups = group_pairs S.outputs groups
code_pairs_over Berger S groups = count_pairs S.outputs (reverse (count_zeros (words_from 0 S.outputs)))
code_pairs_over MOutOfN S groups = threshold_pair (words_from 0 S.outputs) (words_from S.outputs S.checks) S.outputs ∷ []

-- with latches, one more pair: the first half of the next state's places, and the rest
abbrev pub state_pairs : ℕ → ℕ → ℕ → List Pair
state_pairs place zero weight = []
state_pairs place (suc latches) weight =
    threshold_pair (words_from place (suc latches / 2)) (words_from (place + suc latches / 2) (suc latches - suc latches / 2)) weight ∷ []

-- the pairs of a word
abbrev pub pairs_over : WordSizes → List (List ℕ) → List Pair
pairs_over S groups = code_pairs_over S.code S groups ++ state_pairs (S.outputs + S.checks) S.latches S.weight

-- the sizes of a plan's word
abbrev pub sizes_of : CodePlan → WordSizes
sizes_of P = record { code = P.code; outputs = P.outputs; checks = length P.checks; latches = P.latches; weight = P.weight }

-- the pairs of a plan: those of its code, and all
abbrev pub code_pairs : Code → CodePlan → List Pair
code_pairs code P = code_pairs_over code (sizes_of P) P.groups

-- all pairs of a plan
abbrev pub pairs_of : CodePlan → List Pair
pairs_of P = pairs_over (sizes_of P) P.groups

-- the pair that the tree over all pairs of a plan leaves
abbrev pub last_pair : CodePlan → Pair
last_pair P = tree (pairs_of P)

-- the two rails
abbrev pub rail1 : CodePlan → Signal
rail1 P = Buf (last_pair P).first

-- the second rail
abbrev pub rail2 : CodePlan → Signal
rail2 P = Buf (last_pair P).second

-- a word of the plan's length
abbrev pub IsWordOf : CodePlan → List Bool → Type 0
IsWordOf P w = length w ≡ P.outputs + length P.checks + P.latches

-- the two rails have different values on a word
abbrev pub RailsDiffer : CodePlan → List Bool → Type 0
RailsDiffer P w = value w (rail1 P) ≡ value w (rail2 P) → ⊥
