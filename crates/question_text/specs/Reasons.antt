-- The clauses of what may be wrong, over the numbers of variables, and the literals of the last clause.
use Rattle.std.specs.Prelude.{ℕ, ◌+◌, List, [], ◌∷◌, ◌++◌, map, length, slice_index}
use Rattle.refutations.specs.declared.literal.Literal.{Literal}
use Rattle.tsc_net.specs.declared.plan.Group.{Group}
use Rattle.question_text.specs.declared.cells.Cell.{Cell}
use Rattle.question_text.specs.Gates.{is_one, is_zero, turned, xor_of}
use Rattle.question_text.specs.Failing.{differs_of}

-- that a net is 1, by its number
abbrev pub one_at : List ℕ → ℕ → Literal
one_at numbers net = is_one (slice_index numbers net)

-- that outputs differ from the source's, whose nets these are, by place
abbrev pub outputs_gates : List ℕ → List ℕ → List ℕ → ℕ → ℕ → List ℕ → List (List Literal)
outputs_gates source right shown place at [] = []
outputs_gates source right shown place at (net ∷ nets) =
    xor_of at (one_at source net) (one_at right (slice_index shown place)) ++ outputs_gates source right shown (place + 1) (at + 1) nets

-- as many variables as there are nets, from `at` on, each 1
abbrev pub ones_from : ℕ → List ℕ → List Literal
ones_from at [] = []
ones_from at (net ∷ nets) = is_one at ∷ ones_from (at + 1) nets

-- a chain: whether an odd number is 1 of the literal and the nets
abbrev pub chain_gates : List ℕ → ℕ → Literal → List ℕ → List (List Literal)
chain_gates right at odd [] = []
chain_gates right at odd (net ∷ nets) = xor_of at odd (one_at right net) ++ chain_gates right (at + 1) (is_one at) nets

abbrev pub chain_end : ℕ → Literal → List ℕ → Literal
chain_end at odd [] = odd
chain_end at odd (net ∷ nets) = chain_end (at + 1) (is_one at) nets

-- a group of nets
abbrev pub group_gates : List ℕ → ℕ → List ℕ → List (List Literal)
group_gates right at [] = []
group_gates right at (net ∷ nets) = chain_gates right at (one_at right net) nets

-- that it has an even number of ones
abbrev pub group_even : List ℕ → ℕ → List ℕ → List Literal
group_even right at [] = []
group_even right at (net ∷ nets) = turned (chain_end at (one_at right net) nets) ∷ []

-- the nets of a group of a plan: its outputs, by place, and its check
abbrev pub nets_of : List ℕ → Group → List ℕ
nets_of shown group = map (slice_index shown) group.places ++ group.check.number ∷ []

-- the number behind the variables of a group
abbrev pub group_end : ℕ → Group → ℕ
group_end at group = at + length group.places

abbrev pub groups_gates : List ℕ → List ℕ → ℕ → List Group → List (List Literal)
groups_gates right shown at [] = []
groups_gates right shown at (g ∷ groups) = group_gates right at (nets_of shown g) ++ groups_gates right shown (group_end at g) groups

abbrev pub groups_even : List ℕ → List ℕ → ℕ → List Group → List Literal
groups_even right shown at [] = []
groups_even right shown at (g ∷ groups) = group_even right at (nets_of shown g) ++ groups_even right shown (group_end at g) groups

abbrev pub groups_end : ℕ → List Group → ℕ
groups_end at [] = at
groups_end at (g ∷ groups) = groups_end (group_end at g) groups

-- that rails differ
abbrev pub rails_gates : List ℕ → ℕ → ℕ → ℕ → List (List Literal)
rails_gates numbers at rail1 rail2 = xor_of at (one_at numbers rail1) (one_at numbers rail2)

-- that a failing cell is unheard: the rails differ, and some output does
abbrev pub unheard_gates : ℕ → ℕ → ℕ → List Cell → List ℕ → List (List Literal)
unheard_gates rails unheard inputs cells shown =
    (is_zero unheard ∷ is_one rails ∷ []) ∷ (is_zero unheard ∷ differs_of inputs cells shown) ∷ []
