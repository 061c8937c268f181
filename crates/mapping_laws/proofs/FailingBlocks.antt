-- Runs of a mapped netlist with a failing block, as runs of the netlist that was mapped with a failing cell.
use Rattle.std.proofs.Common.{◌≡◌, ℕ, ◌+◌, ◌<◌, Bool, List, [], ◌∷◌, map, length, nat_lt, refl, sym, ap, ap₂, subst, ◌∙◌, arith}
use Rattle.std.proofs.lemmas.Bool.{cond-true, cond-false, lt-ltb, le-ltb}
use Rattle.std.proofs.lemmas.List.FromFn.{length-map-range_with_len}
use Rattle.fault_secure.specs.Circuit.{Circuit, latch_net, node_net, nets, bit}
use Rattle.fault_secure.specs.StuckAt.{NoFault}
use Rattle.fault_secure.specs.Settle.{Settles}
use Rattle.fault_secure.specs.Run.{next_state, init_state}
use Rattle.fault_secure.specs.CodePlan.{CodePlan, word}
use Rattle.fault_secure.specs.FailingCell.{IsCell, SettlesBut, RunsButFrom, RunsBut}
use Rattle.fault_secure.proofs.Places.{Place, place_of}
use Rattle.fault_secure.proofs.Places.Place.{Input, Latch, Node, Beyond}
use Rattle.structure_laws.proofs.FirstErrors.{CleanFrom}
use Rattle.mapping_laws.specs.Mapping.{IsMapped, moved_plan, as_mapped}
use Rattle.mapping_laws.specs.FailingBlock.{cell_at, SettlesButBlock, RunsButBlockFrom, RunsButBlock}
use Rattle.mapping_laws.specs.MappingLaws.{BlockFailsAsCell, GateFailsAsCell}
use Rattle.mapping_laws.proofs.MappedBits.{same_latches, same_init, mapped_bit, mapped_value, same_next, same_words}

-- ---- for which cell a driver stands

pub cell_at_latch : (N G : Circuit) (block : ℕ → ℕ) (l : ℕ) → l < length G.latches → cell_at N G block (latch_net G l) ≡ latch_net G l
cell_at_latch N G block l h = cond-true (nat_lt (latch_net G l) (G.inputs + length G.latches)) _ _ (lt-ltb _ _ (omega arith))

pub cell_at_gate : (N G : Circuit) (block : ℕ → ℕ) (g : ℕ) → cell_at N G block (node_net G g) ≡ node_net N (block g)
cell_at_gate N G block g =
    cond-false (nat_lt (node_net G g) (G.inputs + length G.latches)) _ _ (le-ltb _ _ (omega arith)) ∙ ap (λ k. node_net N (block k)) (omega arith)

module _ (N G : Circuit) (block : ℕ → ℕ) where
  -- one failing driver of G is of the block of the cell for which it stands
  gate_of_block : (net : ℕ) (x s : ℕ → Bool) (v : List Bool) → SettlesBut G net x s v → SettlesButBlock N G block (cell_at N G block net) x s v
  gate_of_block net x s v h = record {
    sized = h.sized;
    inputs = h.inputs;
    latches = λ l k off. h.latches l k (λ e. off (sym (cell_at_latch N G block l k) ∙ ap (cell_at N G block) e));
    gates = λ g k off. h.nodes g k (λ e. off (sym (cell_at_gate N G block g) ∙ ap (cell_at N G block) e));
  }

  gate_of_block_from : (net : ℕ) (s : List Bool) (xs us : List (List Bool)) → RunsButFrom G net s xs us
      → RunsButBlockFrom N G block (cell_at N G block net) s xs us
  gate_of_block_from net s [] [] h = tt
  gate_of_block_from net s [] (u ∷ us) h = absurd h
  gate_of_block_from net s (x ∷ xs) [] h = absurd h
  gate_of_block_from net s (x ∷ xs) (u ∷ us) h =
      (gate_of_block net (bit x) (bit s) u h.0, gate_of_block_from net (next_state G NoFault u) xs us h.1)

  -- a run of G with a failing cell is one with a failing block: that of the cell of N for which it stands
  pub runs_of_block : (net : ℕ) (xs us : List (List Bool)) → RunsBut G net xs us → RunsButBlock N G block (cell_at N G block net) xs us
  runs_of_block net xs us h = gate_of_block_from net (init_state G) xs us h

-- and that cell is one, where each gate is of the block of a node
module _ (N G : Circuit) (block : ℕ → ℕ) (inputs : G.inputs ≡ N.inputs) (latches : length G.latches ≡ length N.latches)
    (blocks : (g : ℕ) → g < length G.nodes → block g < length N.nodes) where
  cell_at_place : (net : ℕ) → IsCell G net → Place G net → IsCell N (cell_at N G block net)
  cell_at_place net is (Input h) = absurd (let k = is.no_input in omega arith)
  cell_at_place net is (Latch l h e) =
      subst (IsCell N) (sym (ap (cell_at N G block) e ∙ cell_at_latch N G block l h ∙ ap (λ i. i + l) inputs))
      (record { no_input = omega arith; inside = omega arith })
  cell_at_place net is (Node g h e) =
      subst (IsCell N) (sym (ap (cell_at N G block) e ∙ cell_at_gate N G block g))
      (let k = blocks g h in record { no_input = omega arith; inside = omega arith })
  cell_at_place net is (Beyond h) = absurd (let k = is.inside in omega arith)

  -- the cell for which a cell of G stands is a cell of N
  pub cell_is_cell : (net : ℕ) → IsCell G net → IsCell N (cell_at N G block net)
  cell_is_cell net is = cell_at_place net is (place_of G net)

module _ (N G : Circuit) (at block : ℕ → ℕ) (m : IsMapped N G at block) where
  same_latch_net : (l : ℕ) → latch_net G l ≡ latch_net N l
  same_latch_net l = ap (λ i. i + l) m.inputs

  -- ---- one step

  pub as_cell : (cell : ℕ) (x s : ℕ → Bool) (v : List Bool) → SettlesButBlock N G block cell x s v → SettlesBut N cell x s (as_mapped N at v)
  as_cell cell x s v h = record {
    sized = length-map-range_with_len (λ n. bit v (at n)) 0 (nets N);
    inputs = λ i k. here i ∙ ap (bit v) (m.sources i (omega arith)) ∙ h.inputs i (omega (arith, m.inputs));
    latches = λ l k off. here (latch_net N l) ∙ ap (bit v) (m.sources (latch_net N l) (omega arith)) ∙ ap (bit v) (sym (same_latch_net l))
        ∙ h.latches l (omega (arith, same_latches N G at block m)) (λ e. off (sym (same_latch_net l) ∙ e));
    nodes = λ j k off. here (node_net N j)
        ∙ m.computes j v k (record { sized = h.sized; gates = λ g l e. h.gates g l (λ c. off (ap (node_net N) (sym e) ∙ c)) })
        ∙ sym (mapped_value N G at block m v h.sized j);
  }
    where
      here : (net : ℕ) → bit (as_mapped N at v) net ≡ bit v (at net)
      here = mapped_bit N G at block m v h.sized

  -- what settles without a fault settles at all nets but those of no cell
  working : (x s : ℕ → Bool) (v : List Bool) → Settles G NoFault x s v → SettlesButBlock N G block (nets N) x s v
  working x s v h = record { sized = h.sized; inputs = h.inputs; latches = λ l k off. h.latches l k; gates = λ g l off. h.nodes g l }

  -- a valuation of G that settles without a fault does so as one of N
  pub as_working : (x s : ℕ → Bool) (v : List Bool) → Settles G NoFault x s v → Settles N NoFault x s (as_mapped N at v)
  as_working x s v h =
      let k = as_cell (nets N) x s v (working x s v h) in
      record {
        sized = k.sized;
        inputs = k.inputs;
        latches = λ l below. k.latches l below (λ e. omega arith);
        nodes = λ j below. k.nodes j below (λ e. omega arith);
      }

  -- ---- runs

  as_cell_from : (cell : ℕ) (s : List Bool) (xs us : List (List Bool)) → RunsButBlockFrom N G block cell s xs us
      → RunsButFrom N cell s xs (map (as_mapped N at) us)
  as_cell_from cell s [] [] h = tt
  as_cell_from cell s [] (u ∷ us) h = absurd h
  as_cell_from cell s (x ∷ xs) [] h = absurd h
  as_cell_from cell s (x ∷ xs) (u ∷ us) h = (
    as_cell cell (bit x) (bit s) u h.0,
    subst (λ z. RunsButFrom N cell z xs (map (as_mapped N at) us)) (same_next N G at block m u h.0.sized)
        (as_cell_from cell (next_state G NoFault u) xs us h.1),
  )

  -- a run of G without a fault, from any state bits, is one of N too
  pub working_from : (s : List Bool) (xs vs : List (List Bool)) → CleanFrom G s xs vs → CleanFrom N s xs (map (as_mapped N at) vs)
  working_from s [] [] h = tt
  working_from s [] (v ∷ vs) h = absurd h
  working_from s (x ∷ xs) [] h = absurd h
  working_from s (x ∷ xs) (v ∷ vs) h =
      let settled : Settles G NoFault (bit x) (bit s) v = h.0 in (
        as_working (bit x) (bit s) v settled,
        subst (λ z. CleanFrom N z xs (map (as_mapped N at) vs)) (same_next N G at block m v settled.sized)
            (working_from (next_state G NoFault v) xs vs h.1),
      )

  words_from : (P : CodePlan) (cell : ℕ) (s : List Bool) (xs us : List (List Bool)) → RunsButBlockFrom N G block cell s xs us
      → map (word N P) (map (as_mapped N at) us) ≡ map (word G (moved_plan at P)) us
  words_from P cell s [] [] h = refl
  words_from P cell s [] (u ∷ us) h = absurd h
  words_from P cell s (x ∷ xs) [] h = absurd h
  words_from P cell s (x ∷ xs) (u ∷ us) h = ap₂ ◌∷◌ (same_words N G at block m u h.0.sized P) (words_from P cell (next_state G NoFault u) xs us h.1)

  -- a run of G in which one block fails is, as one of N, a run in which that block's cell fails
  pub runs_as_cell : (cell : ℕ) (xs us : List (List Bool)) → RunsButBlock N G block cell xs us → RunsBut N cell xs (map (as_mapped N at) us)
  runs_as_cell cell xs us h =
      subst (λ z. RunsButFrom N cell z xs (map (as_mapped N at) us)) (same_init N G at block m) (as_cell_from cell (init_state G) xs us h)

pub block_fails_as_cell : BlockFailsAsCell
block_fails_as_cell N G at block P cell xs us m h = record {
  runs = runs_as_cell N G at block m cell xs us h;
  words = words_from N G at block m P cell (init_state G) xs us h;
}

pub gate_fails_as_cell : GateFailsAsCell
gate_fails_as_cell N G at block P net xs us m is h =
    (cell_is_cell N G block m.inputs (same_latches N G at block m) m.blocks net is, block_fails_as_cell N G at block P (cell_at N G block net) xs us m (runs_of_block N G block net xs us h))
