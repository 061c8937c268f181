-- A question over nodes of so few rows, and so few literals in them, has fewer than 2 ^ 32 clauses.
use Rattle.std.proofs.Common.{◌≡◌, ℕ, zero, suc, ◌+◌, ◌*◌, ◌^◌, ◌<◌, ◌≤◌, Bool, true, false, cond, not, List, [], ◌∷◌, ◌++◌, map, filter, length, nat_eq, arith, subst, length-append}
use Rattle.std.specs.List.{list_any}
use Rattle.std.proofs.lemmas.List.{length-map}
use Rattle.std.proofs.lemmas.List.Sums.{count_by-le-length, length-filter}
use Rattle.fault_secure.specs.Circuit.{Circuit, NodeOf}
use Rattle.fault_secure.specs.CodePlan.{CodePlan, HasShape, IsWellMade, concat_places, members, members_from}
use Rattle.fault_secure.specs.declared.code.Code.{Code}
use Rattle.fault_secure.specs.declared.code.Code.TheVariants.{Parity}
use Rattle.refutations.specs.declared.literal.Literal.{Literal}
use Rattle.tsc_cover.specs.Cover.{Literal as PinLiteral, Free, Wants}
use Rattle.exact_question.specs.Variables.{Copy, Source, Right, Failing, Variable, Net, Row, Gate, Choice, Differs, Odd, OutputDiffers, RailsDiffer, spread}
use Rattle.exact_question.specs.Rows.{asked, clashes, is_literal, literal, once, rows_of, written}
use Rattle.exact_question.specs.Gates.{Claim, yes, no, negated, and_clauses, or_clauses, xor_clauses, numbered}
use Rattle.exact_question.specs.Question.{circuit_clauses, claim_of, cover_clauses, differs_at, failing_clauses, group_clauses, node_clauses, odd_claim, one_choice, output_clauses, question, rails_clauses, row_claim, row_clauses, some_row_clauses, unheard_clauses, variables, word_claim, wrong}
use Rattle.question_answers.specs.Sizes.{size_of}
use Rattle.question_answers.proofs.FewVariables.{places_few, rows_few}
use Rattle.proof_answers.specs.Sizes.{pins_of, total}

-- ---- gates

and_count : (v : Variable) (claims : List Claim) → length (and_clauses v claims) ≡ length claims + 1
and_count v claims =
    omega (arith, length-append (map (λ (c : Claim). no v ∷ c ∷ []) claims) ((yes v ∷ map negated claims) ∷ []), length-map claims (λ (c : Claim). no v ∷ c ∷ []))

or_count : (out : Claim) (claims : List Claim) → length (or_clauses out claims) ≡ length claims + 1
or_count out claims =
    omega (arith, length-append (map (λ (c : Claim). out ∷ negated c ∷ []) claims) ((negated out ∷ claims) ∷ []), length-map claims (λ (c : Claim). out ∷ negated c ∷ []))

-- ---- lists that are spread

each_most : {A B : Type 0} (f : ℕ → A → List B) (most : ℕ) → ((k : ℕ) (a : A) → length (f k a) ≤ most) → (items : List A) → length (spread f items) ≤ most * length items
each_most f most each [] = omega arith
each_most f most each (a ∷ items) =
    omega (arith, length-append (f 0 a) (spread (λ k. f (suc k)) items), each 0 a, each_most (λ k. f (suc k)) most (λ k. each (suc k)) items)

rows_most : (f : ℕ → List Literal → List (List Claim)) → ((r : ℕ) (row : List Literal) → length (f r row) ≤ length row + 1) → (rows : List (List Literal))
    → length (spread f rows) ≤ total rows + length rows
rows_most f each [] = omega arith
rows_most f each (row ∷ rows) =
    omega (arith, length-append (f 0 row) (spread (λ k. f (suc k)) rows), each 0 row, rows_most (λ k. f (suc k)) (λ k. each (suc k)) rows)

-- ---- covers

row_count : (copy : Copy) (inputs j r : ℕ) (row : List Literal) → length (row_clauses copy inputs j r row) ≤ length row + 1
row_count copy inputs j r [] = omega arith
row_count copy inputs j r (l ∷ []) = omega arith
row_count copy inputs j r (l ∷ m ∷ ls) =
    omega (arith, and_count (Row copy j r) (map (claim_of copy inputs) (l ∷ m ∷ ls)), length-map (l ∷ m ∷ ls) (claim_of copy inputs))

some_count : (copy : Copy) (inputs j : ℕ) (matched : Claim) (rows : List (List Literal)) → length (some_row_clauses copy inputs j matched rows) ≤ length rows + 1
some_count copy inputs j matched rows = by (list_any (λ row. nat_eq (length row) 0) rows)
  where
    by : (b : Bool) → length (cond b ((matched ∷ []) ∷ []) (or_clauses matched (spread (λ r (row : List Literal). row_claim copy inputs j r row ∷ []) rows))) ≤ length rows + 1
    by true = omega arith
    by false =
        omega (
          arith,
          or_count matched (spread (λ r (row : List Literal). row_claim copy inputs j r row ∷ []) rows),
          each_most (λ r (row : List Literal). row_claim copy inputs j r row ∷ []) 1 (λ r row. omega arith) rows,
        )

filter_total : (p : List Literal → Bool) (lists : List (List Literal)) → total (filter p lists) ≤ total lists
filter_total p [] = omega arith
filter_total p (list ∷ lists) = by (p list) (filter_total p lists)
  where
    by : (b : Bool) → total (filter p lists) ≤ total lists → total (cond b (list ∷ filter p lists) (filter p lists)) ≤ length list + total lists
    by true rest = omega (arith, rest)
    by false rest = omega (arith, rest)

once_few : (ls : List Literal) → length (once ls) ≤ length ls
once_few [] = omega arith
once_few (l ∷ ls) =
    let others : Literal → Bool = λ m. not (is_literal l m) in
    omega (arith, length-filter others (once ls), count_by-le-length others (once ls), once_few ls)

onces_total : (lists : List (List Literal)) → total (map once lists) ≤ total lists
onces_total [] = omega arith
onces_total (list ∷ lists) = omega (arith, once_few list, onces_total lists)

asked_few : (row : List PinLiteral) (reads : List ℕ) → length (asked row reads) ≤ length row
asked_few [] reads = omega arith
asked_few (l ∷ row) [] = omega arith
asked_few (Free ∷ row) (net ∷ reads) = omega (arith, asked_few row reads)
asked_few (Wants bit ∷ row) (net ∷ reads) = omega (arith, asked_few row reads)

asked_total : (rows : List (List PinLiteral)) (reads : List ℕ) → total (map (λ (row : List PinLiteral). asked row reads) rows) ≤ total rows
asked_total [] reads = omega arith
asked_total (row ∷ rows) reads = omega (arith, asked_few row reads, asked_total rows reads)

-- a node asks no more literals than its rows have
rows_total : (n : NodeOf) → total (rows_of n) ≤ total n.cover.rows
rows_total n =
    let lists : List (List Literal) = map (λ (row : List PinLiteral). asked row n.reads) n.cover.rows in
    let kept : List Literal → Bool = λ ls. not (clashes ls) in
    omega (arith, onces_total (filter kept lists), filter_total kept lists, asked_total n.cover.rows n.reads)

cover_count : (copy : Copy) (inputs : ℕ) (out : Variable) (j : ℕ) (n : NodeOf) → length (cover_clauses copy inputs out j n) ≤ total n.cover.rows + 2 * length n.cover.rows + 1
cover_count copy inputs out j n =
    let matched : Claim = record { variable = out; wants = n.cover.on } in
    omega (
      arith,
      length-append (spread (row_clauses copy inputs j) (rows_of n)) (some_row_clauses copy inputs j matched (rows_of n)),
      rows_most (row_clauses copy inputs j) (row_count copy inputs j) (rows_of n),
      some_count copy inputs j matched (rows_of n),
      rows_total n,
      rows_few n,
    )

-- ---- nodes

choice_count : (j : ℕ) → length (one_choice j) ≤ 3
choice_count zero = omega arith
choice_count (suc j) = omega arith

failing_count : (inputs j : ℕ) (n : NodeOf) → length (failing_clauses inputs j n) ≤ total n.cover.rows + 13 * (1 + length n.cover.rows)
failing_count inputs j n =
    let first = xor_clauses (Net Failing j) (yes (Gate j)) (yes (Choice j)) in
    let cover = cover_clauses Failing inputs (Gate j) j n in
    let second = xor_clauses (Differs j) (yes (Net Right j)) (yes (Net Failing j)) in
    let last : List (List Claim) = (no (Differs j) ∷ yes (Choice j) ∷ differs_at inputs n.reads) ∷ one_choice j in
    omega (
      arith,
      length-append first cover,
      length-append (first ++ cover) second,
      length-append (first ++ cover ++ second) last,
      cover_count Failing inputs (Gate j) j n,
      choice_count j,
    )

node_count : (copy : Copy) (inputs j : ℕ) (n : NodeOf) → length (node_clauses copy inputs j n) ≤ total n.cover.rows + 13 * (1 + length n.cover.rows)
node_count copy inputs j n = omega (arith, cover_count copy inputs (Net copy j) j n)

nodes_most : (f : ℕ → NodeOf → List (List Claim)) → ((j : ℕ) (n : NodeOf) → length (f j n) ≤ total n.cover.rows + 13 * (1 + length n.cover.rows)) → (nodes : List NodeOf)
    → length (spread f nodes) ≤ pins_of nodes + 13 * size_of nodes
nodes_most f each [] = omega arith
nodes_most f each (n ∷ nodes) =
    omega (arith, length-append (f 0 n) (spread (λ j. f (suc j)) nodes), each 0 n, nodes_most (λ j. f (suc j)) (λ j. each (suc j)) nodes)

-- ---- groups

group_count : (N : Circuit) (P : CodePlan) (g : ℕ) (places : List ℕ) (check : ℕ) → length (group_clauses N P g (places ++ check ∷ [])) ≤ 4 * length places
group_count N P g [] check = omega arith
group_count N P g (place ∷ places) check =
    omega (
      arith,
      each_most (λ k (other : ℕ). xor_clauses (Odd g k) (odd_claim N P g place k) (word_claim N P other)) 4 (λ k other. omega arith) (places ++ check ∷ []),
      length-append places (check ∷ []),
    )

groups_most : (f : ℕ → List ℕ → List (List Claim)) → ((g : ℕ) (places : List ℕ) (check : ℕ) → length (f g (places ++ check ∷ [])) ≤ 4 * length places)
    → (check : ℕ) (groups : List (List ℕ)) → length (spread f (members_from check groups)) ≤ 4 * length (concat_places groups)
groups_most f each check [] = omega arith
groups_most f each check (group ∷ groups) =
    omega (
      arith,
      length-append (f 0 (group ++ check ∷ [])) (spread (λ g. f (suc g)) (members_from (suc check) groups)),
      each 0 group check,
      length-append group (concat_places groups),
      groups_most (λ g. f (suc g)) (λ g. each (suc g)) (suc check) groups,
    )

-- ---- all of them

output_count : (C N : Circuit) (place net : ℕ) → length (output_clauses C N place net) ≤ 4
output_count C N place net = omega arith

circuit_count : (C N : Circuit) (P : CodePlan)
    → length (circuit_clauses C N P) ≤ pins_of C.nodes + 2 * pins_of N.nodes + 13 * size_of C.nodes + 26 * size_of N.nodes + 4 * length C.outputs + 4 * length (concat_places P.groups) + 10
circuit_count C N P =
    let of_source = spread (node_clauses Source C.inputs) C.nodes in
    let of_right = spread (node_clauses Right N.inputs) N.nodes in
    let of_failing = spread (failing_clauses N.inputs) N.nodes in
    let of_outputs = spread (output_clauses C N) C.outputs in
    let of_groups = spread (group_clauses N P) (members P) in
    let right_rails = rails_clauses Right N P in
    let failing_rails = rails_clauses Failing N P in
    omega (
      arith,
      nodes_most (node_clauses Source C.inputs) (node_count Source C.inputs) C.nodes,
      nodes_most (node_clauses Right N.inputs) (node_count Right N.inputs) N.nodes,
      nodes_most (failing_clauses N.inputs) (failing_count N.inputs) N.nodes,
      each_most (output_clauses C N) 4 (output_count C N) C.outputs,
      groups_most (group_clauses N P) (group_count N P) P.outputs P.groups,
      length-append of_source of_right,
      length-append (of_source ++ of_right) of_failing,
      length-append (of_source ++ of_right ++ of_failing) of_outputs,
      length-append (of_source ++ of_right ++ of_failing ++ of_outputs) of_groups,
      length-append (of_source ++ of_right ++ of_failing ++ of_outputs ++ of_groups) right_rails,
      length-append (of_source ++ of_right ++ of_failing ++ of_outputs ++ of_groups ++ right_rails) failing_rails,
      length-append (of_source ++ of_right ++ of_failing ++ of_outputs ++ of_groups ++ right_rails ++ failing_rails) (unheard_clauses N P),
    )

-- each clause is written once, or isn't
written_few : (clauses : List (List Literal)) → length (written clauses) ≤ length clauses
written_few clauses =
    let kept : List Literal → Bool = λ ls. not (clashes ls) in
    omega (arith, length-map (filter kept clauses) once, length-filter kept clauses, count_by-le-length kept clauses)

question_count : (C N : Circuit) (P : CodePlan)
    → length (question C N P) ≤ pins_of C.nodes + 2 * pins_of N.nodes + 13 * size_of C.nodes + 26 * size_of N.nodes + 4 * length C.outputs + 4 * length (concat_places P.groups) + 11
question_count C N P =
    omega (
      arith,
      written_few (map (numbered (variables C N P)) (circuit_clauses C N P ++ wrong C N P ∷ [])),
      length-map (circuit_clauses C N P ++ wrong C N P ∷ []) (numbered (variables C N P)),
      length-append (circuit_clauses C N P) (wrong C N P ∷ []),
      circuit_count C N P,
    )

-- so many nodes, rows and literals as a text of 64 MiB has at most
pub few_clauses : (C N : Circuit) (P : CodePlan) → IsWellMade P → P.code ≡ Parity → P.outputs ≡ length C.outputs
    → size_of C.nodes ≤ 67108866 → size_of N.nodes ≤ 67108866 → pins_of C.nodes ≤ 67108864 → pins_of N.nodes ≤ 67108864 → length (question C N P) < 2 ^ 32
few_clauses C N P made parity outputs source right narrow_source narrow =
    let shape : Code → Type 0 = λ code. HasShape code P in
    let most = made.most_outputs in
    omega (arith, most, outputs, source, right, narrow_source, narrow, question_count C N P, places_few P (subst shape parity made.shape))
