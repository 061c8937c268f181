-- Gates that are the very node.
use Rattle.std.proofs.Common.{◌≡◌, ℕ, ◌-◌, ◌<◌, List, length, map, slice_index, sym, ◌∙◌, ap, ap₂, arith}
use Rattle.std.proofs.lemmas.List.{length-map, get_or-map, ext_get_or}
use Rattle.tsc_cover.specs.Cover.{CoverTable}
use Rattle.tsc_cover.specs.Row.{literals_of_each, table_of}
use Rattle.tsc_cover.specs.declared.rows.Row01.{Row01}
use Rattle.fault_secure.specs.Circuit.{Circuit, NodeOf, node, node_net, nets, gate}
use Rattle.fault_secure.specs.Closed.{IsClosed}
use Rattle.tsc_net.specs.PlanView.{net_numbers}
use Rattle.tsc_net.specs.declared.ids.NetId.{NetId}
use Rattle.mapping_reading.specs.ReadMapping.{first_net, IsSameGate}
use Rattle.mapping_reading.specs.Pins.{at_of}
use Rattle.mapping_audit.proofs.Pinning.{moved_reads}

-- two lists of nets, one by one where the first went
pub went_to : (moved : List ℕ) (reads pins : List NetId) → length reads ≡ length pins
    → ((k : ℕ) → k < length reads → slice_index moved (slice_index (net_numbers reads) k) ≡ slice_index (net_numbers pins) k)
    → net_numbers pins ≡ map (slice_index moved) (net_numbers reads)
went_to moved reads pins same each =
    let count : length (net_numbers reads) ≡ length reads = length-map reads (λ (n : NetId). n.number) in
    let count' : length (net_numbers pins) ≡ length pins = length-map pins (λ (n : NetId). n.number) in
    let all : length (map (slice_index moved) (net_numbers reads)) ≡ length (net_numbers reads) = length-map (net_numbers reads) (slice_index moved) in
    ext_get_or 0 (net_numbers pins) (map (slice_index moved) (net_numbers reads)) (omega arith)
    (λ k low. sym (each k (omega arith)) ∙ sym (get_or-map (slice_index moved) (net_numbers reads) k 0 0 (omega arith)))

pub went_at : (moved : List ℕ) (reads pins : List NetId) (k : ℕ) → net_numbers pins ≡ map (slice_index moved) (net_numbers reads) → k < length reads
    → slice_index moved (slice_index (net_numbers reads) k) ≡ slice_index (net_numbers pins) k
went_at moved reads pins k are low =
    let count : length (net_numbers reads) ≡ length reads = length-map reads (λ (n : NetId). n.number) in
    sym (get_or-map (slice_index moved) (net_numbers reads) k 0 0 (omega arith)) ∙ ap (λ list. slice_index list k) (sym are)

-- a node's gate g by its pins and its cover, as they are kept
module _ (N G : Circuit) (moved : List ℕ) (j g : ℕ) (reads pins : List NetId) (cover other : CoverTable)
    (closed : IsClosed N) (sized : length moved ≡ nets N) (there : j < length N.nodes) (is : g ≡ at_of G moved (node_net N j) - first_net G)
    (reads_are : net_numbers reads ≡ (node N j).reads) (pins_are : net_numbers pins ≡ (node G g).reads) (cover_is : cover ≡ (node N j).cover) (other_is : other ≡ (node G g).cover) where
  went : map (slice_index moved) (net_numbers reads) ≡ map (at_of G moved) (node N j).reads
  went = moved_reads N G moved j reads closed sized there reads_are

  -- it is the very node where both are the same
  pub same_by_parts : net_numbers pins ≡ map (slice_index moved) (net_numbers reads) → cover ≡ other → IsSameGate N G (at_of G moved) j
  same_by_parts same_pins same_cover =
      ap (node G) (sym is)
      ∙ ap₂ (λ (c : CoverTable) (r : List ℕ). gate c r) (sym other_is ∙ sym same_cover ∙ cover_is) (sym pins_are ∙ same_pins ∙ went)

  -- and only there
  pub parts_of_same : IsSameGate N G (at_of G moved) j → (net_numbers pins ≡ map (slice_index moved) (net_numbers reads)) × (cover ≡ other)
  parts_of_same same =
      let here : node G g ≡ gate (node N j).cover (map (at_of G moved) (node N j).reads) = ap (node G) is ∙ same in
      (pins_are ∙ ap (λ (n : NodeOf). n.reads) here ∙ sym went, cover_is ∙ sym (ap (λ (n : NodeOf). n.cover) here) ∙ sym other_is)

-- a cover by what is kept of it
pub cover_is : (c : CoverTable) (rows : List Row01) → literals_of_each c.width rows ≡ c.rows → c ≡ table_of c.width c.on rows
cover_is c rows are = ap (λ (list : List (List _)). record { width = c.width; on = c.on; rows = list }) (sym are)
