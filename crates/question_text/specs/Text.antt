-- The text of the exact question in DIMACS: comments that name variables, the header, and a line per clause. Variables are written from 1 on.
use Rattle.std.specs.Prelude.{ℕ, ◌+◌, List, [], ◌∷◌, ◌++◌, codes, if◌then◌else◌, length}
use Rattle.std.specs.Fmt.{decimal}
use Rattle.std.specs.List.{flat_map}
use Rattle.fault_secure.specs.Circuit.{node_net}
use Rattle.fault_secure.specs.CodePlan.{CodePlan}
use Rattle.refutations.specs.declared.literal.Literal.{Literal}
use Rattle.tsc_net.specs.Names.{text_at}
use Rattle.tsc_net.specs.NetlistOf.{NetlistOf}
use Rattle.exact_question.specs.Variables.{Source, Right, Failing, Variable, Net, Choice, number_of, spread}
use Rattle.exact_question.specs.Question.{input_variables, variables, question}

-- `c KIND N NAME`: variable N is that of the net NAME
abbrev pub name_line : List ℕ → ℕ → List ℕ → List ℕ
name_line kind variable name = codes "c " ++ (kind ++ (32 ∷ (decimal (variable + 1) ++ (32 ∷ (name ++ 10 ∷ [])))))

-- `p cnf VARIABLES CLAUSES`
abbrev pub header : ℕ → ℕ → List ℕ
header variables clauses = codes "p cnf " ++ (decimal variables ++ (32 ∷ (decimal clauses ++ 10 ∷ [])))

-- a literal, and a blank
abbrev pub literal_word : Literal → List ℕ
literal_word l = (if l.wants then [] else 45 ∷ []) ++ (decimal (l.variable + 1) ++ 32 ∷ [])

-- the literals of a clause, and 0
abbrev pub clause_line : List Literal → List ℕ
clause_line clause = flat_map literal_word clause ++ (48 ∷ 10 ∷ [])

-- what names the inputs, the nets without a fault, and of each node of the netlist the choice that its cell fails, and its net then
abbrev pub comments : NetlistOf → NetlistOf → List Variable → List ℕ
comments S N all =
    spread (λ i v. name_line (codes "input") (number_of v all) (text_at N.names i)) (input_variables N.circuit.inputs)
    ++ spread (λ j n. name_line (codes "net") (number_of (Net Source j) all) (text_at S.names (node_net S.circuit j))) S.circuit.nodes
    ++ spread (λ j n. name_line (codes "net") (number_of (Net Right j) all) (text_at N.names (node_net N.circuit j))) N.circuit.nodes
    ++ spread (λ j n.
    name_line (codes "cell") (number_of (Choice j) all) (text_at N.names (node_net N.circuit j))
    ++ name_line (codes "wrong") (number_of (Net Failing j) all) (text_at N.names (node_net N.circuit j))) N.circuit.nodes

-- the text of the question of a source and a netlist with its plan
abbrev pub question_text : NetlistOf → NetlistOf → CodePlan → List ℕ
question_text S N P =
    comments S N (variables S.circuit N.circuit P)
    ++ header (length (variables S.circuit N.circuit P)) (length (question S.circuit N.circuit P))
    ++ flat_map clause_line (question S.circuit N.circuit P)
