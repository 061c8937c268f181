-- Along an evaluation order: what a gate reads comes before it.
use Rattle.std.proofs.Common.{◌≡◌, ℕ, zero, suc, ◌+◌, ◌<◌, ◌==◌, List, [], ◌∷◌, length, Contains, slice_index, slice_index_or, sym, ap, subst, ◌∙◌, arith}
use Rattle.std.proofs.lemmas.List.{get_or-map, length-map}
use Rattle.std.proofs.lemmas.List.Elements.{Contains-get_or}
use Rattle.std.proofs.lemmas.List.Sums.{passes_at_first}
use Rattle.std.proofs.lemmas.Bool.{eqb-true}
use Rattle.fault_secure.specs.Circuit.{Circuit, node, node_net, pin_net, no_node}
use Rattle.tsc_net.specs.Order.{fan_in, fan_ins, place_in, IsOrder}
use Rattle.tsc_net.proofs.OrderLists.{fan_in_has}

module _ (G : Circuit) (order : List ℕ) (whole : IsOrder (fan_ins G) order) where
  pub gates_counted : length (fan_ins G) ≡ length G.nodes
  gates_counted = length-map G.nodes (λ n. fan_in (G.inputs + length G.latches) n.reads)

  -- the gate whose net a gate reads stands before it
  pub reads_earlier : (g k pin : ℕ) → g < length G.nodes → pin < length (node G g).reads → pin_net G g pin ≡ node_net G k
      → place_in order k < place_in order g
  reads_earlier g k pin h l e =
      let base = G.inputs + length G.latches in
      let fans : slice_index_or (fan_ins G) g [] ≡ fan_in base (node G g).reads = get_or-map (λ n. fan_in base n.reads) G.nodes g no_node [] h in
      let reads : Contains (node G g).reads (base + k) = subst (Contains (node G g).reads) e (Contains-get_or (node G g).reads pin 0 l) in
      whole.after g k (omega (arith, gates_counted)) (subst (λ xs. Contains xs k) (sym fans) (fan_in_has base (node G g).reads k reads))

  pub placed : (g : ℕ) → g < length G.nodes → place_in order g < length order
  placed g h = whole.each g (omega (arith, gates_counted))

  -- a gate stands at its place, so two gates have two places
  pub at_place : (g : ℕ) → g < length G.nodes → slice_index order (place_in order g) ≡ g
  at_place g h = eqb-true (slice_index order (place_in order g)) g (passes_at_first (λ k. k == g) order 0 (placed g h))

  pub one_place : (g h : ℕ) → g < length G.nodes → h < length G.nodes → place_in order g ≡ place_in order h → g ≡ h
  one_place g h k l e = sym (at_place g k) ∙ ap (slice_index order) e ∙ at_place h l

-- the rest of an order from a place on
pub record IsRest (G : Circuit) (order rest : List ℕ) (place : ℕ) : Type 0 where
  pub gates : (i : ℕ) → i < length rest → slice_index rest i < length G.nodes
  pub places : (i : ℕ) → i < length rest → place_in order (slice_index rest i) ≡ place + i

pub all_rest : (G : Circuit) (order : List ℕ) → IsOrder (fan_ins G) order → IsRest G order order 0
all_rest G order whole = record {
  gates = λ i h. let low = whole.within i 0 h in omega (arith, gates_counted G order whole);
  places = λ i h. whole.once i h ∙ omega arith;
}

pub next_rest : (G : Circuit) (order rest : List ℕ) (g place : ℕ) → IsRest G order (g ∷ rest) place → IsRest G order rest (suc place)
next_rest G order rest g place h = record {
  gates = λ i l. h.gates (suc i) (omega arith);
  places = λ i l. h.places (suc i) (omega arith) ∙ omega arith;
}

pub first_gate : (G : Circuit) (order rest : List ℕ) (g place : ℕ) → IsRest G order (g ∷ rest) place → g < length G.nodes
first_gate G order rest g place h = h.gates zero (omega arith)

pub first_place : (G : Circuit) (order rest : List ℕ) (g place : ℕ) → IsRest G order (g ∷ rest) place → place_in order g ≡ place
first_place G order rest g place h = h.places zero (omega arith) ∙ omega arith
