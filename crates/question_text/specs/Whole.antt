-- All clauses of the question over the numbers of its variables.
use Rattle.std.specs.Prelude.{ℕ, ◌+◌, List, [], ◌∷◌, ◌++◌, map, length, take}
use Rattle.fault_secure.specs.Circuit.{Circuit, node_net}
use Rattle.fault_secure.specs.CodePlan.{CodePlan}
use Rattle.refutations.specs.declared.literal.Literal.{Literal}
use Rattle.tsc_net.specs.declared.plan.Group.{Group}
use Rattle.question_text.specs.declared.numbers.Numbers.{Numbers}
use Rattle.question_text.specs.Gates.{is_one, is_zero}
use Rattle.question_text.specs.Nodes.{first_numbers, numbers_from, end_from, nodes_gates}
use Rattle.question_text.specs.Failing.{cells_from, cells_end, failing_gates}
use Rattle.question_text.specs.Reasons.{outputs_gates, ones_from, groups_gates, groups_even, groups_end, rails_gates, unheard_gates}

-- the numbers at which the variables of a part begin: after those of the inputs stand those of the source's nodes, then those of the netlist's
abbrev pub right_first : Circuit → Circuit → ℕ
right_first C N = end_from N.inputs C.nodes

abbrev pub failing_first : Circuit → Circuit → ℕ
failing_first C N = end_from (right_first C N) N.nodes

abbrev pub outputs_first : Circuit → Circuit → ℕ
outputs_first C N = cells_end 0 (failing_first C N) N.nodes

abbrev pub groups_first : Circuit → Circuit → ℕ
groups_first C N = outputs_first C N + length C.outputs

abbrev pub rails_first : Circuit → Circuit → List Group → ℕ
rails_first C N groups = groups_end (groups_first C N) groups

-- the numbers of the nets of a copy
abbrev pub copy_numbers : ℕ → Circuit → List ℕ
copy_numbers first N = first_numbers N.inputs ++ numbers_from first N.nodes

abbrev pub numbers_of : Circuit → Circuit → List Group → Numbers
numbers_of C N groups = record {
  source = copy_numbers N.inputs C;
  right = copy_numbers (right_first C N) N;
  failing = first_numbers N.inputs ++ map (λ c. c.net) (cells_from 0 (failing_first C N) N.nodes);
  cells = cells_from 0 (failing_first C N) N.nodes;
  outputs = outputs_first C N;
  groups = groups_first C N;
  rails = rails_first C N groups;
}

-- the clauses of the three copies
abbrev pub copies_gates : Numbers → Circuit → Circuit → List (List Literal)
copies_gates n C N =
    nodes_gates n.source (node_net C 0) C.nodes
    ++ nodes_gates n.right (node_net N 0) N.nodes
    ++ failing_gates n.failing n.right N.inputs n.cells 0 (node_net N 0) N.nodes

-- those of outputs and groups
abbrev pub word_gates : Numbers → Circuit → Circuit → List Group → List (List Literal)
word_gates n C N groups =
    outputs_gates n.source n.right N.outputs 0 n.outputs C.outputs
    ++ groups_gates n.right N.outputs n.groups groups

-- those of the rails, and of a failing cell that is unheard: `shown` are the outputs
abbrev pub alarm_gates : Numbers → ℕ → ℕ → ℕ → List ℕ → List (List Literal)
alarm_gates n inputs rail1 rail2 shown =
    rails_gates n.right n.rails rail1 rail2
    ++ rails_gates n.failing (n.rails + 1) rail1 rail2
    ++ unheard_gates (n.rails + 1) (n.rails + 2) inputs n.cells shown

-- the last clause: that something is wrong
abbrev pub wrong_of : Numbers → Circuit → Circuit → List Group → List Literal
wrong_of n C N groups =
    ones_from n.outputs C.outputs ++ groups_even n.right N.outputs n.groups groups ++ is_zero n.rails ∷ is_one (n.rails + 2) ∷ []

-- those after the copies, where these are the rails and the outputs
abbrev pub rest_over : Numbers → Circuit → Circuit → List Group → ℕ → ℕ → List ℕ → List (List Literal)
rest_over n C N groups rail1 rail2 shown = word_gates n C N groups ++ alarm_gates n N.inputs rail1 rail2 shown ++ wrong_of n C N groups ∷ []

-- all clauses, where these are the rails and the outputs
abbrev pub clauses_over : Numbers → Circuit → Circuit → List Group → ℕ → ℕ → List ℕ → List (List Literal)
clauses_over n C N groups rail1 rail2 shown = copies_gates n C N ++ word_gates n C N groups ++ alarm_gates n N.inputs rail1 rail2 shown ++ wrong_of n C N groups ∷ []

abbrev pub all_gates : Numbers → Circuit → Circuit → CodePlan → List Group → List (List Literal)
all_gates n C N P groups = clauses_over n C N groups P.rail1 P.rail2 (take P.outputs N.outputs)
