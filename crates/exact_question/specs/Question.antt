-- The exact question of a source and its netlist as clauses, under parity: they have no model exactly where nothing is wrong at any input.
use Rattle.std.specs.Prelude.{ℕ, zero, suc, ◌-◌, List, [], ◌∷◌, ◌++◌, map, filter, take, length, nat_lt, nat_le, nat_eq, if◌then◌else◌, slice_index_or}
use Rattle.std.specs.List.{list_any}
use Rattle.fault_secure.specs.Circuit.{Circuit, NodeOf}
use Rattle.fault_secure.specs.CodePlan.{CodePlan, monitored, members}
use Rattle.refutations.specs.declared.literal.Literal.{Literal}
use Rattle.exact_question.specs.Variables.{Copy, Source, Right, Failing, Variable, Input, Net, Row, Choice, Gate, Differs, Chosen, OutputDiffers, Odd, RailsDiffer, Unheard, spread}
use Rattle.exact_question.specs.Rows.{rows_of, written}
use Rattle.exact_question.specs.Gates.{Claim, yes, no, negated, and_clauses, or_clauses, xor_clauses, numbered}

-- ---- nets

-- the variable of a net in a copy; an input is the same in all
abbrev pub of_net : Copy → ℕ → ℕ → Variable
of_net copy inputs net = if nat_lt net inputs then Input net else Net copy (net - inputs)

abbrev pub claim_of : Copy → ℕ → Literal → Claim
claim_of copy inputs l = record { variable = of_net copy inputs l.variable; wants = l.wants }

-- that one of these nets differs, of those that a node drives
abbrev pub differs_at : ℕ → List ℕ → List Claim
differs_at inputs nets = map (λ net. yes (Differs (net - inputs))) (filter (λ net. nat_le inputs net) nets)

-- ---- covers

-- that a row of a node matches: its literal where it has one, else a variable
abbrev pub row_claim : Copy → ℕ → ℕ → ℕ → List Literal → Claim
row_claim copy inputs j r [] = yes (Row copy j r)
row_claim copy inputs j r (l ∷ []) = claim_of copy inputs l
row_claim copy inputs j r (l ∷ m ∷ ls) = yes (Row copy j r)

-- a row of two or more literals has a variable, and its clauses
abbrev pub row_variables : Copy → ℕ → ℕ → List Literal → List Variable
row_variables copy j r [] = []
row_variables copy j r (l ∷ []) = []
row_variables copy j r (l ∷ m ∷ ls) = Row copy j r ∷ []

abbrev pub row_clauses : Copy → ℕ → ℕ → ℕ → List Literal → List (List Claim)
row_clauses copy inputs j r [] = []
row_clauses copy inputs j r (l ∷ []) = []
row_clauses copy inputs j r (l ∷ m ∷ ls) = and_clauses (Row copy j r) (map (claim_of copy inputs) (l ∷ m ∷ ls))

-- that some row matches: a claim for each row, and nothing to be claimed where a row asks for nothing
abbrev pub some_row_clauses : Copy → ℕ → ℕ → Claim → List (List Literal) → List (List Claim)
some_row_clauses copy inputs j matched rows =
    if list_any (λ row. nat_eq (length row) 0) rows then (matched ∷ []) ∷ []
    else or_clauses matched (spread (λ r row. row_claim copy inputs j r row ∷ []) rows)

-- the variable is what the cover of a node gives in a copy
abbrev pub cover_clauses : Copy → ℕ → Variable → ℕ → NodeOf → List (List Claim)
cover_clauses copy inputs out j n =
    spread (row_clauses copy inputs j) (rows_of n)
    ++ some_row_clauses copy inputs j (record { variable = out; wants = n.cover.on }) (rows_of n)

-- ---- copies without a fault

abbrev pub node_variables : Copy → ℕ → NodeOf → List Variable
node_variables copy j n = Net copy j ∷ spread (row_variables copy j) (rows_of n)

abbrev pub node_clauses : Copy → ℕ → ℕ → NodeOf → List (List Claim)
node_clauses copy inputs j n = cover_clauses copy inputs (Net copy j) j n

-- ---- the copy with a failing cell

-- that some node up to this one is chosen
abbrev pub chosen_by : ℕ → Variable
chosen_by zero = Choice zero
chosen_by (suc j) = Chosen (suc j)

abbrev pub chosen_variables : ℕ → List Variable
chosen_variables zero = []
chosen_variables (suc j) = Chosen (suc j) ∷ []

-- at most one node is chosen
abbrev pub one_choice : ℕ → List (List Claim)
one_choice zero = []
one_choice (suc j) =
    (no (chosen_by j) ∷ yes (Chosen (suc j)) ∷ []) ∷ (no (Choice (suc j)) ∷ yes (Chosen (suc j)) ∷ []) ∷ (no (Choice (suc j)) ∷ no (chosen_by j) ∷ []) ∷ []

abbrev pub failing_variables : ℕ → NodeOf → List Variable
failing_variables j n = Choice j ∷ Gate j ∷ Net Failing j ∷ (spread (row_variables Failing j) (rows_of n) ++ Differs j ∷ chosen_variables j)

-- the wrong net is the other bit where the node is chosen, and no net differs unless the node is chosen or a pin differs
abbrev pub failing_clauses : ℕ → ℕ → NodeOf → List (List Claim)
failing_clauses inputs j n =
    xor_clauses (Net Failing j) (yes (Gate j)) (yes (Choice j))
    ++ cover_clauses Failing inputs (Gate j) j n
    ++ xor_clauses (Differs j) (yes (Net Right j)) (yes (Net Failing j))
    ++ (no (Differs j) ∷ yes (Choice j) ∷ differs_at inputs n.reads) ∷ one_choice j

-- ---- what may be wrong

-- that an output differs from the source's, by place
abbrev pub output_clauses : Circuit → Circuit → ℕ → ℕ → List (List Claim)
output_clauses C N place net =
    xor_clauses (OutputDiffers place) (yes (of_net Source C.inputs net)) (yes (of_net Right N.inputs (slice_index_or N.outputs place 0)))

-- the bit at a place of the word
abbrev pub word_claim : Circuit → CodePlan → ℕ → Claim
word_claim N P place = yes (of_net Right N.inputs (slice_index_or (monitored N P) place 0))

-- that the first places of a group, so many after the first one, have an odd number of ones
abbrev pub odd_claim : Circuit → CodePlan → ℕ → ℕ → ℕ → Claim
odd_claim N P group first zero = word_claim N P first
odd_claim N P group first (suc k) = yes (Odd group k)

abbrev pub group_variables : ℕ → List ℕ → List Variable
group_variables group [] = []
group_variables group (first ∷ places) = spread (λ k place. Odd group k ∷ []) places

abbrev pub group_clauses : Circuit → CodePlan → ℕ → List ℕ → List (List Claim)
group_clauses N P group [] = []
group_clauses N P group (first ∷ places) = spread (λ k place. xor_clauses (Odd group k) (odd_claim N P group first k) (word_claim N P place)) places

-- that a group with its check has an even number of ones
abbrev pub group_is_even : Circuit → CodePlan → ℕ → List ℕ → List Claim
group_is_even N P group [] = []
group_is_even N P group (first ∷ places) = negated (odd_claim N P group first (length places)) ∷ []

abbrev pub rails_clauses : Copy → Circuit → CodePlan → List (List Claim)
rails_clauses copy N P = xor_clauses (RailsDiffer copy) (yes (of_net copy N.inputs P.rail1)) (yes (of_net copy N.inputs P.rail2))

abbrev pub unheard_clauses : Circuit → CodePlan → List (List Claim)
unheard_clauses N P = (no Unheard ∷ yes (RailsDiffer Failing) ∷ []) ∷ (no Unheard ∷ differs_at N.inputs (take P.outputs N.outputs)) ∷ []

-- that something is wrong: an output differs from the source's, a group is even, the rails agree, or a failing cell is unheard
abbrev pub wrong : Circuit → Circuit → CodePlan → List Claim
wrong C N P =
    spread (λ place net. yes (OutputDiffers place) ∷ []) C.outputs
    ++ spread (group_is_even N P) (members P)
    ++ no (RailsDiffer Right) ∷ yes Unheard ∷ []

-- ---- the question

abbrev pub input_variables : ℕ → List Variable
input_variables zero = []
input_variables (suc n) = input_variables n ++ Input n ∷ []

-- all variables, in their order
abbrev pub variables : Circuit → Circuit → CodePlan → List Variable
variables C N P =
    input_variables N.inputs
    ++ spread (node_variables Source) C.nodes
    ++ spread (node_variables Right) N.nodes
    ++ spread failing_variables N.nodes
    ++ spread (λ place net. OutputDiffers place ∷ []) C.outputs
    ++ spread group_variables (members P)
    ++ RailsDiffer Right ∷ RailsDiffer Failing ∷ Unheard ∷ []

-- all clauses except the last: what the variables stand for
abbrev pub circuit_clauses : Circuit → Circuit → CodePlan → List (List Claim)
circuit_clauses C N P =
    spread (node_clauses Source C.inputs) C.nodes
    ++ spread (node_clauses Right N.inputs) N.nodes
    ++ spread (failing_clauses N.inputs) N.nodes
    ++ spread (output_clauses C N) C.outputs
    ++ spread (group_clauses N P) (members P)
    ++ rails_clauses Right N P
    ++ rails_clauses Failing N P
    ++ unheard_clauses N P

-- the question: what the variables stand for, and that something is wrong
abbrev pub question : Circuit → Circuit → CodePlan → List (List Literal)
question C N P = written (map (numbered (variables C N P)) (circuit_clauses C N P ++ wrong C N P ∷ []))
