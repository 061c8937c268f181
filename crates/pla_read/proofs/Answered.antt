-- What a node over all inputs answers, and what a network without latches does.
use Rattle.std.proofs.Common.{◌≡◌, ℕ, suc, ◌+◌, ◌<◌, ◌≤◌, Bool, true, false, ◌&&◌, ◌||◌, cond, List, [], ◌∷◌, filter, map, length, get_or, slice_index_or, All, refl, sym, ap, ap₂, ◌∙◌, arith}
use Rattle.std.specs.List.{list_any}
use Rattle.std.proofs.lemmas.List.{get_or-map, length-map}
use Rattle.std.proofs.lemmas.List.Elements.{All-head, All-tail}
use Rattle.std.proofs.lemmas.List.FromFn.{fill_by_all}
use Rattle.tsc_cover.specs.Cover.{Literal, accepts, row_matches, some_row_matches, truth}
use Rattle.fault_secure.specs.Circuit.{bit, Circuit, node_net}
use Rattle.fault_secure.specs.Logic.{lets_pass}
use Rattle.fault_secure.specs.OneRun.{HasOneValuation}
use Rattle.fault_secure.specs.Settle.{Acyclic, Settles}
use Rattle.fault_secure.specs.StuckAt.{NoFault}
use Rattle.fault_secure.proofs.GateLemmas.{node_value-gate}
use Rattle.fault_secure.proofs.OneRun.{one_valuation}
use Rattle.tsc_net.specs.Named.{Named, NamedNode}
use Rattle.tsc_net.specs.Names.{place_of_text, IsNumbering}
use Rattle.tsc_net.specs.NetlistOf.{circuit_of, drivers}
use Rattle.net_building.proofs.NamedNets.{node_of_named, place_of_input}
use Rattle.pla_read.specs.RowText.{TableRow}
use Rattle.pla_read.specs.Covers.{marked_at, marks_of}
use Rattle.pla_read.specs.Networks.{bits_by, AnswersAs}
use Rattle.pla_read.specs.declared.rows.Mark.{Mark}

-- ---- rows

shifted : (bits x : List Bool) (b : Bool) (i n : ℕ) → ((k : ℕ) → k < suc n → get_or (b ∷ bits) k false ≡ bit x (i + k))
    → (k : ℕ) → k < n → get_or bits k false ≡ bit x (i + 1 + k)
shifted bits x b i n e k h = e (suc k) (omega arith) ∙ ap (bit x) (omega arith)

pub passes_as_matches : (row : List Literal) (bits x : List Bool) (i : ℕ) → length row ≤ length bits
    → ((k : ℕ) → k < length row → get_or bits k false ≡ bit x (i + k)) → lets_pass i row x ≡ row_matches row bits
passes_as_matches [] bits x i h e = refl
passes_as_matches (l ∷ row) [] x i h e = absurd (omega arith)
passes_as_matches (l ∷ row) (b ∷ bits) x i h e =
    let first : bit x i ≡ b = ap (bit x) (let n : i ≡ i + 0 = omega arith in n) ∙ sym (e 0 (omega arith)) in
    ap₂ (λ c d. accepts l c && d) first
    (passes_as_matches row bits x (i + 1) (omega arith) (shifted bits x b i (length row) e))

-- the rows that have a mark, matched
module _ (mark : Mark) (place : ℕ) (bits x : List Bool) (same : (k : ℕ) → k < length bits → get_or bits k false ≡ bit x k) where
  abbrev IsWide : TableRow → Type 0
  IsWide row = length row.input ≡ length bits

  abbrev says_here : TableRow → Bool
  says_here row = bit (marks_of mark row) place && lets_pass 0 row.input x

  pub some_marked : (rows : List TableRow) → All IsWide rows → some_row_matches (marked_at mark rows place) bits ≡ list_any says_here rows
  some_marked [] wide = refl
  some_marked (row ∷ rows) wide =
      let here : lets_pass 0 row.input x ≡ row_matches row.input bits =
      passes_as_matches row.input bits x 0 (omega (arith, All-head IsWide row rows wide))
      (λ k h. same k (omega (arith, h, All-head IsWide row rows wide)) ∙ ap (bit x) (let e : k ≡ 0 + k = omega arith in e)) in
      by (bit (marks_of mark row) place) here (some_marked rows (All-tail IsWide row rows wide))
    where
      by : (b : Bool) → lets_pass 0 row.input x ≡ row_matches row.input bits → some_row_matches (marked_at mark rows place) bits ≡ list_any says_here rows
          → some_row_matches (map (λ (row : TableRow). row.input) (cond b (row ∷ filter (λ row. bit (marks_of mark row) place) rows) (filter (λ row. bit (marks_of mark row) place) rows))) bits
          ≡ ((b && lets_pass 0 row.input x) || list_any says_here rows)
      by true here rest = ap₂ (λ c d. c || d) (sym here) rest
      by false here rest = rest

-- ---- nodes over all inputs
module _ (N : Named) (distinct : IsNumbering (drivers N)) (x v : List Bool) (settles : Settles (circuit_of N) NoFault (bit x) (λ _. false) v) where
  abbrev input_bits : List Bool
  input_bits = map (bit v) (map (place_of_text (drivers N)) N.inputs)

  pub input_bits_many : length input_bits ≡ length N.inputs
  input_bits_many = length-map (map (place_of_text (drivers N)) N.inputs) (bit v) ∙ length-map N.inputs (place_of_text (drivers N))

  pub input_bit : (k : ℕ) → k < length input_bits → get_or input_bits k false ≡ bit x k
  input_bit k h =
      let inside : k < length N.inputs = omega (arith, h, input_bits_many) in
      get_or-map (bit v) (map (place_of_text (drivers N)) N.inputs) k 0 false (omega (arith, inside, length-map N.inputs (place_of_text (drivers N))))
      ∙ ap (bit v) (get_or-map (place_of_text (drivers N)) N.inputs k [] 0 inside ∙ place_of_input N distinct k inside)
      ∙ settles.inputs k inside

  -- the net of a node has the truth of its cover
  pub node_bit : (j : ℕ) (n d : NamedNode) → j < length N.nodes → n ≡ slice_index_or N.nodes j d
      → bit v (node_net (circuit_of N) j) ≡ truth n.cover (map (bit v) (map (place_of_text (drivers N)) n.reads))
  node_bit j n d h is =
      let many : length (circuit_of N).nodes ≡ length N.nodes = length-map N.nodes _ in
      let within : j < length (circuit_of N).nodes = omega (arith, h, many) in
      settles.nodes j within
      ∙ node_value-gate (circuit_of N) v j n.cover (map (place_of_text (drivers N)) n.reads) (node_of_named N j n d h is)

-- ---- networks
module _ (C : Circuit) (f : List Bool → ℕ → Bool) (acyclic : Acyclic C)
    (each : (x v : List Bool) → Settles C NoFault (bit x) (λ _. false) v → (place : ℕ) → place < length C.outputs → bit v (get_or C.outputs place 0) ≡ f x place) where
  answered : (x v : List Bool) → Settles C NoFault (bit x) (λ _. false) v → map (bit v) C.outputs ≡ bits_by (f x) (length C.outputs)
  answered x v settles =
      fill_by_all (f x) (map (bit v) C.outputs) (length C.outputs) false (length-map C.outputs (bit v))
      (λ k h. get_or-map (bit v) C.outputs k 0 false h ∙ each x v settles k h)

  pub answers_as : AnswersAs f C
  answers_as = record {
    answers = λ x.
        let one : HasOneValuation C NoFault (bit x) (λ _. false) = one_valuation C NoFault (bit x) (λ _. false) acyclic in
        record { valuation = one.valuation; settles = one.settles; answers = answered x one.valuation one.settles };
    alone = λ x ys given. sym given.answers ∙ answered x given.valuation given.settles;
  }
