-- Exactly one run for whatever bits the gates of a failing block give: a step is one of the circuit in which each of them is a constant.
use Rattle.std.proofs.Common.{◌≡◌, ℕ, ◌+◌, ◌<◌, ◌==◌, Bool, true, false, List, [], ◌∷◌, map, length, if◌then◌else◌, nat_lt, refl, sym, ap, ap₂, subst, ◌∙◌, inl, inr, arith, eq-eqb, not, slice_index, ◌⊎◌}
use Rattle.std.proofs.lemmas.Bool.{cond-true, cond-false, ne_eqb, cases_eq, lt-ltb}
use Rattle.std.proofs.lemmas.List.FromFn.{length-map-range_with_len, get_or-map-range_with_len}
use Rattle.std.specs.List.{range_with_len}
use Rattle.tsc_cover.specs.Cover.{CoverTable, truth}
use Rattle.fault_secure.specs.Circuit.{Circuit, NodeOf, no_node, node, latch_net, node_net, pin_net, nets, bit}
use Rattle.fault_secure.specs.StuckAt.{NoFault}
use Rattle.fault_secure.specs.Settle.{Settles, Ranks, Acyclic, read_values, node_value}
use Rattle.fault_secure.specs.Run.{init_state, next_state}
use Rattle.fault_secure.specs.OneRun.{HasOneValuation}
use Rattle.fault_secure.proofs.OneRun.{one_valuation}
use Rattle.fault_secure.proofs.Places.{Place, place_of}
use Rattle.fault_secure.proofs.Places.Place.{Input, Latch, Node, Beyond}
use Rattle.fault_secure.specs.FailingCell.{IsCell}
use Rattle.mapping_laws.specs.FailingBlock.{cell_at, SettlesButBlock, RunsButBlockFrom, BlockGives, HasOneRunButBlock}
use Rattle.mapping_laws.proofs.FailingBlocks.{cell_at_latch, cell_at_gate}

-- a cover without pins that is this bit
abbrev constant : Bool → CoverTable
constant b = record { width = 0; on = not b; rows = [] }

truth_constant : (b : Bool) → truth (constant b) [] ≡ b
truth_constant true = refl
truth_constant false = refl

-- ---- one step

module _ (N G : Circuit) (block : ℕ → ℕ) (cell : ℕ) (given : List Bool) where
  abbrev fails : ℕ → Bool
  fails net = cell_at N G block net == cell

  abbrev stuck_node : ℕ → NodeOf
  stuck_node g = if fails (node_net G g) then record { reads = []; cover = constant (bit given (node_net G g)) } else node G g

  -- the circuit in which each failing gate is the constant that is given
  abbrev stuck : Circuit
  stuck = record { inputs = G.inputs; latches = G.latches; nodes = map stuck_node (range_with_len 0 (length G.nodes)); outputs = G.outputs }

  -- the state bits, with that of a failing latch as given
  abbrev held_state : (ℕ → Bool) → ℕ → Bool
  held_state s l = if fails (latch_net G l) then bit given (latch_net G l) else s l

  stuck_length : length stuck.nodes ≡ length G.nodes
  stuck_length = length-map-range_with_len stuck_node 0 (length G.nodes)

  stuck_at : (g : ℕ) → g < length G.nodes → node stuck g ≡ stuck_node g
  stuck_at g h = get_or-map-range_with_len stuck_node 0 (length G.nodes) g g no_node h (omega arith)

  node_off : (g : ℕ) → g < length G.nodes → (cell_at N G block (node_net G g) ≡ cell → ⊥) → node stuck g ≡ node G g
  node_off g h off = stuck_at g h ∙ cond-false (fails (node_net G g)) _ _ (ne_eqb (cell_at N G block (node_net G g)) cell off)

  node_on : (g : ℕ) → g < length G.nodes → cell_at N G block (node_net G g) ≡ cell
      → node stuck g ≡ record { reads = []; cover = constant (bit given (node_net G g)) }
  node_on g h e = stuck_at g h ∙ cond-true (fails (node_net G g)) _ _ (eq-eqb (cell_at N G block (node_net G g)) cell e)

  abbrev value_of : List Bool → ℕ → NodeOf → Bool
  value_of v g n = truth n.cover (read_values NoFault v (node_net G g) 0 n.reads)

  value_off : (v : List Bool) (g : ℕ) → g < length G.nodes → (cell_at N G block (node_net G g) ≡ cell → ⊥) → node_value stuck NoFault v g ≡ node_value G NoFault v g
  value_off v g h off = ap (value_of v g) (node_off g h off)

  value_on : (v : List Bool) (g : ℕ) → g < length G.nodes → cell_at N G block (node_net G g) ≡ cell → node_value stuck NoFault v g ≡ bit given (node_net G g)
  value_on v g h e = ap (value_of v g) (node_on g h e) ∙ truth_constant (bit given (node_net G g))

  stuck_above : (rank : ℕ → ℕ) → Ranks G rank → (j pin : ℕ) → j < length G.nodes → pin < length (node stuck j).reads
      → rank (pin_net stuck j pin) < rank (node_net G j)
  stuck_above rank ranks j pin h = elim (cases_eq (cell_at N G block (node_net G j)) cell) [
    | inl e ↦ subst (λ (n : NodeOf). pin < length n.reads → rank (slice_index n.reads pin) < rank (node_net G j)) (sym (node_on j h e)) (λ l. absurd (omega arith))
    | inr off ↦ subst (λ (n : NodeOf). pin < length n.reads → rank (slice_index n.reads pin) < rank (node_net G j)) (sym (node_off j h off)) (λ l. ranks.above j pin h l)
  ]

  stuck_acyclic : Acyclic G → Acyclic stuck
  stuck_acyclic a = record { rank = a.rank; ranks = record { above = λ j pin h l. stuck_above a.rank a.ranks j pin (omega (arith, stuck_length)) l } }

  -- the failing drivers have the bits that are given
  abbrev Gives : List Bool → Type 0
  Gives v = (net : ℕ) → net < nets G → cell_at N G block net ≡ cell → bit v net ≡ bit given net

  as_stuck : (x s : ℕ → Bool) (v : List Bool) → SettlesButBlock N G block cell x s v → Gives v → Settles stuck NoFault x (held_state s) v
  as_stuck x s v h gives = record {
    sized = h.sized ∙ ap (λ k. G.inputs + length G.latches + k) (sym stuck_length);
    inputs = h.inputs;
    latches = λ l k. elim (cases_eq (cell_at N G block (latch_net G l)) cell) [
      | inl e ↦ gives (latch_net G l) (omega arith) e ∙ sym (cond-true (fails (latch_net G l)) _ _ (eq-eqb (cell_at N G block (latch_net G l)) cell e))
      | inr off ↦ h.latches l k (λ e. off (cell_at_latch N G block l k ∙ e)) ∙ sym (cond-false (fails (latch_net G l)) _ _ (ne_eqb (cell_at N G block (latch_net G l)) cell off))
    ];
    nodes = λ g k. at_gate g (omega (arith, stuck_length)) (cases_eq (cell_at N G block (node_net G g)) cell);
  }
    where
      at_gate : (g : ℕ) → g < length G.nodes → (cell_at N G block (node_net G g) ≡ cell) ⊎ (cell_at N G block (node_net G g) ≡ cell → ⊥)
          → bit v (node_net G g) ≡ node_value stuck NoFault v g
      at_gate g k (inl e) = gives (node_net G g) (omega arith) e ∙ sym (value_on v g k e)
      at_gate g k (inr off) = h.gates g k (λ e. off (cell_at_gate N G block g ∙ e)) ∙ sym (value_off v g k off)

  from_stuck : (x s : ℕ → Bool) (v : List Bool) → Settles stuck NoFault x (held_state s) v → SettlesButBlock N G block cell x s v
  from_stuck x s v h = record {
    sized = h.sized ∙ ap (λ k. G.inputs + length G.latches + k) stuck_length;
    inputs = h.inputs;
    latches = λ l k off. h.latches l k
        ∙ cond-false (fails (latch_net G l)) _ _ (ne_eqb (cell_at N G block (latch_net G l)) cell (λ e. off (sym (cell_at_latch N G block l k) ∙ e)));
    gates = λ g k off. h.nodes g (omega (arith, stuck_length)) ∙ value_off v g k (λ e. off (sym (cell_at_gate N G block g) ∙ e));
  }

  stuck_gives : G.inputs ≡ N.inputs → IsCell N cell → (x s : ℕ → Bool) (v : List Bool) → Settles stuck NoFault x (held_state s) v → Gives v
  stuck_gives inputs is x s v h net inside e = at_place (place_of G net)
    where
      at_place : Place G net → bit v net ≡ bit given net
      at_place (Input l) =
          let low : cell_at N G block net ≡ net = cond-true (nat_lt net (G.inputs + length G.latches)) _ _ (lt-ltb _ _ (omega arith)) in
          absurd (let k = is.no_input in omega arith)
      at_place (Latch l k here) =
          let there : cell_at N G block (latch_net G l) ≡ cell = sym (ap (cell_at N G block) here) ∙ e in
          ap (bit v) here ∙ h.latches l k ∙ cond-true (fails (latch_net G l)) _ _ (eq-eqb (cell_at N G block (latch_net G l)) cell there) ∙ ap (bit given) (sym here)
      at_place (Node g k here) =
          let there : cell_at N G block (node_net G g) ≡ cell = sym (ap (cell_at N G block) here) ∙ e in
          ap (bit v) here ∙ h.nodes g (omega (arith, stuck_length)) ∙ value_on v g k there ∙ ap (bit given) (sym here)
      at_place (Beyond l) = absurd (omega arith)

-- ---- runs

module _ (N G : Circuit) (block : ℕ → ℕ) (cell : ℕ) (acyclic : Acyclic G) (inputs : G.inputs ≡ N.inputs) (is : IsCell N cell) where
  abbrev OneFrom : List Bool → List (List Bool) → List (List Bool) → Type 0
  OneFrom s given xs = (run : List (List Bool)) × RunsButBlockFrom N G block cell s xs run × BlockGives N G block cell given run
      × ((vs : List (List Bool)) → RunsButBlockFrom N G block cell s xs vs → BlockGives N G block cell given vs → vs ≡ run)

  none_more : (s : List Bool) (vs : List (List Bool)) → RunsButBlockFrom N G block cell s [] vs → vs ≡ []
  none_more s [] h = refl
  none_more s (v ∷ vs) h = absurd h

  one_more : (s bits x : List Bool) (given xs : List (List Bool))
      (first : HasOneValuation (stuck N G block cell bits) NoFault (bit x) (held_state N G block cell bits (bit s)))
      → OneFrom (next_state G NoFault first.valuation) given xs → OneFrom s (bits ∷ given) (x ∷ xs)
  one_more s bits x given xs first rest = (
    first.valuation ∷ rest.0,
    (from_stuck N G block cell bits (bit x) (bit s) first.valuation first.settles, rest.1),
    (stuck_gives N G block cell bits inputs is (bit x) (bit s) first.valuation first.settles, rest.2),
    only,
  )
    where
      only : (vs : List (List Bool)) → RunsButBlockFrom N G block cell s (x ∷ xs) vs → BlockGives N G block cell (bits ∷ given) vs → vs ≡ first.valuation ∷ rest.0
      only [] h g = absurd h
      only (v ∷ vs) h g =
          let is_first = first.only v (as_stuck N G block cell bits (bit x) (bit s) v h.0 g.0) in
          ap₂ ◌∷◌ is_first (rest.3 vs (subst (λ z. RunsButBlockFrom N G block cell (next_state G NoFault z) xs vs) is_first h.1) g.1)

  one_from : (s : List Bool) (given xs : List (List Bool)) → length given ≡ length xs → OneFrom s given xs
  one_from s [] [] e = ([], tt, tt, λ vs h g. none_more s vs h)
  one_from s [] (x ∷ xs) e = absurd (omega arith)
  one_from s (bits ∷ given) [] e = absurd (omega arith)
  one_from s (bits ∷ given) (x ∷ xs) e =
      let first = one_valuation (stuck N G block cell bits) NoFault (bit x) (held_state N G block cell bits (bit s)) (stuck_acyclic N G block cell bits acyclic) in
      one_more s bits x given xs first (one_from (next_state G NoFault first.valuation) given xs (omega arith))

  -- there is exactly one run of G in which the drivers of the failing block have given bits
  pub one_run_but_block : (given xs : List (List Bool)) → length given ≡ length xs → HasOneRunButBlock N G block cell given xs
  one_run_but_block given xs e =
      let one = one_from (init_state G) given xs e in
      record { run = one.0; runs = one.1; gives = one.2; only = one.3 }
