-- A mapping gives its covers.
use Rattle.std.proofs.Common.{◌≡◌, ℕ, ◌-◌, ◌<◌, true, false, length, sym, ap, ◌∙◌, inl, inr, arith}
use Rattle.std.proofs.lemmas.List.{length-map}
use Rattle.std.proofs.lemmas.Bool.{cases_lt, false_from_ne_true}
use Rattle.tsc_cover.specs.Cover.{truth}
use Rattle.fault_secure.specs.Circuit.{Circuit, node, node_net, pin_net, nets, bit}
use Rattle.fault_secure.specs.Settle.{Acyclic}
use Rattle.fault_secure.specs.Closed.{IsClosed}
use Rattle.mapping_laws.specs.Mapping.{IsMapped, moved_latch}
use Rattle.mapping_reading.specs.ReadMapping.{first_net, is_own, members, evaluated, pin_row}
use Rattle.mapping_reading.specs.ReadMappingLaws.{MappingGivesCovers}
use Rattle.mapping_reading.proofs.Rows.{map_same}
use Rattle.mapping_reading.proofs.Evaluations.{owner_of, evaluation_settles}
use Rattle.mapping_reading.proofs.ReadMappings.{row_sized}

module _ (N G : Circuit) (at block : ℕ → ℕ) (m : IsMapped N G at block) (acyclic : Acyclic N) (closed : IsClosed N)
    (driven : (k : ℕ) → k < length N.nodes → is_own G block k (at (node_net N k)) ≡ true) (j : ℕ) (low : j < length N.nodes) where
  -- no gate of the block drives a net at a pin of its cover
  pin_outside : (pin : ℕ) → pin < length (node N j).reads → is_own G block j (at (pin_net N j pin)) ≡ false
  pin_outside pin h = false_from_ne_true (is_own G block j (at (pin_net N j pin))) (λ own.
      let net = pin_net N j pin in
      let inside : net < nets N = closed.pins j pin low h in
      let from = owner_of G block j (at net) own in
      elim (cases_lt net (first_net N)) [
        | inl source ↦
            let stays : at net ≡ net = m.sources net source in
            let drives = from.drives in
            absurd (omega (arith, m.inputs, length-map N.latches (moved_latch at), ap length m.latches))
        | inr past ↦
            let e : node_net N (net - first_net N) ≡ net = omega arith in
            let other = owner_of G block (net - first_net N) (at (node_net N (net - first_net N))) (driven (net - first_net N) (omega arith)) in
            let nets_same : node_net G from.gate ≡ node_net G other.gate = sym from.drives ∙ ap at (sym e) ∙ other.drives in
            let gates_same : from.gate ≡ other.gate = omega arith in
            let is : j ≡ net - first_net N = sym from.of ∙ ap block gates_same ∙ other.of in
            let back : node_net N j ≡ net = ap (node_net N) is ∙ e in
            let above = acyclic.ranks.above j pin low h in
            let same = ap acyclic.rank back in
            absurd (omega arith)
      ])

pub mapping_gives_covers : MappingGivesCovers
mapping_gives_covers N G at block order j m acyclic closed whole driven low value h =
    let row = pin_row N G at j value in
    let v = evaluated G (members block order j) row in
    let settles = evaluation_settles G block order j row whole (row_sized N G at j row value) in
    m.computes j v low settles.settles
    ∙ ap (truth (node N j).cover)
    (map_same (λ net. bit v (at net)) (λ net. bit row (at net)) (node N j).reads
    (λ pin k. settles.kept (at (pin_net N j pin)) (pin_outside N G at block m acyclic closed driven j low pin k)))
