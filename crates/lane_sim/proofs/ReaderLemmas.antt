-- The readers of nets, while they are added and marked.
use Rattle.std.proofs.Common.{◌≡◌, ◌≢◌, ℕ, ◌+◌, ◌-◌, ◌<◌, ◌≤◌, ◌==◌, ◌⊎◌, inl, inr, true, List, [], ◌∷◌, ◌++◌, length, set, slice_index, slice_index_or, refl, sym, ap, ◌∙◌, subst, arith, length-append, below_more}
use Rattle.std.specs.List.{position_or_len}
use Rattle.std.proofs.Math.Logic.{⊎_elim}
use Rattle.std.proofs.lemmas.Bool.{cases_lt, cases_eq, eqb-true, ne_eqb, eq-eqb}
use Rattle.std.proofs.lemmas.List.{get_or_append_left, get_or_at, get_or-set_same, get_or-set_other, get_or_default}
use Rattle.std.proofs.lemmas.List.Sums.{passes_at_first}
use Rattle.fault_secure.specs.Circuit.{Circuit, node, nets}
use Rattle.tsc_net.specs.Order.{fan_ins, evaluation_order, has_place, place_in, IsOrder}
use Rattle.tsc_net.proofs.RingLemmas.{position-within}
use Rattle.fault_secure.specs.StuckAt.{StuckAt, Stem}
use Rattle.lane_rows.specs.Alive.{source_count, net_at}
use Rattle.lane_sim.specs.Again.{IsApart, IsAtNets, is_at}
use Rattle.lane_rows.proofs.OrderFacts.{node_placed, node_at_place, place_of_node, order_sized}
use Rattle.lane_sim.specs.Readers.{has, no_reader, reader_at, IsOnChain, AreChains, HaveReaders, AreReaders}
use Rattle.lane_sim.specs.Readers.IsOnChain.{here, later}
use Rattle.lane_sim.specs.declared.readers.Reader.{Reader}
use Rattle.lane_sim.specs.declared.readers.Readers.{Readers}
use Rattle.lane_sim.specs.declared.place_set.PlaceSet.{PlaceSet}

-- ---- a chain

-- one that begins at 0 has no place
pub none_on_chain : (list : List Reader) (place from : ℕ) → from ≡ 0 → IsOnChain list place from → ⊥
none_on_chain list place from zero (here _ i inside is same) = omega arith
none_on_chain list place from zero (later _ i inside is rest) = omega arith

-- a place on a chain is that of its first reader, or on the chain that follows
pub next_on_chain : (list : List Reader) (place from i : ℕ) → from ≡ i + 1 → IsOnChain list place from
    → ((reader_at list i).place ≡ place) ⊎ IsOnChain list place (reader_at list i).next
next_on_chain list place from i at (here _ k inside is same) =
    let e : k ≡ i = omega arith in inl (subst (λ n. (reader_at list n).place ≡ place) e same)
next_on_chain list place from i at (later _ k inside is rest) =
    let e : k ≡ i = omega arith in inr (subst (λ n. IsOnChain list place (reader_at list n).next) e rest)

-- chains stay where a reader is added after them
pub still_on_chain : (list more : List Reader) (place from : ℕ) → IsOnChain list place from → IsOnChain (list ++ more) place from
still_on_chain list more place from (here _ i inside is same) =
    here from i (omega (arith, length-append list more)) is
    (ap (λ (r : Reader). r.place) (get_or_append_left list more no_reader i inside) ∙ same)
still_on_chain list more place from (later _ i inside is rest) =
    later from i (omega (arith, length-append list more)) is
    (subst (λ (r : Reader). IsOnChain (list ++ more) place r.next) (sym (get_or_append_left list more no_reader i inside)) (still_on_chain list more place (reader_at list i).next rest))

-- ---- one more reader

module _ (heads : List ℕ) (list : List Reader) (place net : ℕ) (inside : net < length heads) where
  abbrev added : Reader
  added = record { place = place; next = slice_index heads net }

  abbrev added_list : List Reader
  added_list = list ++ added ∷ []

  abbrev added_heads : List ℕ
  added_heads = set heads net (length list + 1)

  one_more : length added_list ≡ length list + 1
  one_more = length-append list (added ∷ [])

  last : reader_at added_list (length list) ≡ added
  last = get_or_at list added [] no_reader (length list) refl

  others : (i : ℕ) → i < length list → reader_at added_list i ≡ reader_at list i
  others i below = get_or_append_left list (added ∷ []) no_reader i below

  head_here : slice_index added_heads net ≡ length list + 1
  head_here = get_or-set_same heads net (length list + 1) 0 inside

  head_there : (other : ℕ) → other ≢ net → slice_index added_heads other ≡ slice_index heads other
  head_there other apart = get_or-set_other heads net other (length list + 1) 0 apart

  pub chains_more : AreChains heads list (place + 1) → AreChains added_heads added_list (place + 1)
  chains_more chains = record {
    starts = λ other. ⊎_elim
        (λ is. let e : slice_index added_heads other ≡ length list + 1 = ap (slice_index added_heads) is ∙ head_here in omega (arith, e, one_more))
        (λ apart. omega (arith, head_there other apart, chains.starts other, one_more))
        (cases_eq other net);
    nexts = λ i below. ⊎_elim
        (λ earlier. let e : (reader_at added_list i).next ≡ (reader_at list i).next = ap (λ (r : Reader). r.next) (others i earlier) in omega (arith, e, chains.nexts i earlier))
        (λ past.
        let is : i ≡ length list = omega (arith, one_more) in
        let e : (reader_at added_list i).next ≡ slice_index heads net = ap (λ n. (reader_at added_list n).next) is ∙ ap (λ (r : Reader). r.next) last in
        omega (arith, e, chains.starts net))
        (cases_lt i (length list));
    below = λ i below. ⊎_elim
        (λ earlier. let e : (reader_at added_list i).place ≡ (reader_at list i).place = ap (λ (r : Reader). r.place) (others i earlier) in omega (arith, e, chains.below i earlier))
        (λ past.
        let is : i ≡ length list = omega (arith, one_more) in
        let e : (reader_at added_list i).place ≡ place = ap (λ n. (reader_at added_list n).place) is ∙ ap (λ (r : Reader). r.place) last in
        omega (arith, e))
        (cases_lt i (length list));
  }

  pub added_on_chain : IsOnChain added_list place (slice_index added_heads net)
  added_on_chain = here (slice_index added_heads net) (length list) (omega (arith, one_more)) head_here (ap (λ (r : Reader). r.place) last)

  pub others_on_chain : (other at : ℕ) → IsOnChain list at (slice_index heads other) → IsOnChain added_list at (slice_index added_heads other)
  others_on_chain other at on = ⊎_elim
      (λ is.
      let old : IsOnChain list at (slice_index heads net) = subst (λ n. IsOnChain list at (slice_index heads n)) is on in
      let next : IsOnChain added_list at (reader_at added_list (length list)).next
      = subst (λ (r : Reader). IsOnChain added_list at r.next) (sym last) (still_on_chain list (added ∷ []) at (slice_index heads net) old) in
      later (slice_index added_heads other) (length list) (omega (arith, one_more)) (ap (slice_index added_heads) is ∙ head_here) next)
      (λ apart. subst (IsOnChain added_list at) (sym (head_there other apart)) (still_on_chain list (added ∷ []) at (slice_index heads other) on))
      (cases_eq other net)

-- ---- the same of lists that are these

module _ (heads new_heads : List ℕ) (list new_list : List Reader) (place net next count : ℕ) (inside : net < length heads)
    (next_is : next ≡ slice_index heads net) (list_is : new_list ≡ list ++ (record { place = place; next = next }) ∷ [])
    (count_is : count ≡ length new_list) (heads_are : new_heads ≡ set heads net count) where
  lists_same : added_list heads list place net inside ≡ new_list
  lists_same = ap (λ n. list ++ (record { place = place; next = n }) ∷ []) (sym next_is) ∙ sym list_is

  heads_same : added_heads heads list place net inside ≡ new_heads
  heads_same = ap (set heads net) (sym (one_more heads list place net inside) ∙ (ap length lists_same ∙ sym count_is)) ∙ sym heads_are

  pub chains_of_more : AreChains heads list (place + 1) → AreChains new_heads new_list (place + 1)
  chains_of_more chains =
      subst (λ (h : List ℕ). AreChains h new_list (place + 1)) heads_same
      (subst (λ (l : List Reader). AreChains (added_heads heads list place net inside) l (place + 1)) lists_same (chains_more heads list place net inside chains))

  pub added_to : IsOnChain new_list place (slice_index new_heads net)
  added_to =
      subst (λ (h : List ℕ). IsOnChain new_list place (slice_index h net)) heads_same
      (subst (λ (l : List Reader). IsOnChain l place (slice_index (added_heads heads list place net inside) net)) lists_same (added_on_chain heads list place net inside))

  pub others_stay : (other at : ℕ) → IsOnChain list at (slice_index heads other) → IsOnChain new_list at (slice_index new_heads other)
  others_stay other at on =
      subst (λ (h : List ℕ). IsOnChain new_list at (slice_index h other)) heads_same
      (subst (λ (l : List Reader). IsOnChain l at (slice_index (added_heads heads list place net inside) other)) lists_same (others_on_chain heads list place net inside other at on))

-- ---- marks along a chain

module _ (list : List Reader) (at : ℕ) (reader : Reader) (old new : PlaceSet) (some : 0 < at) (inside : at ≤ length list)
    (is : reader ≡ slice_index_or list (at - 1) reader)
    (here : has new reader.place ≡ true) (there : (other : ℕ) → other ≢ reader.place → has new other ≡ has old other) where
  reader_is : reader_at list (at - 1) ≡ reader
  reader_is = sym (is ∙ get_or_default list (at - 1) reader no_reader (omega arith))

  pub kept_more : (place : ℕ) → has old place ≡ true → has new place ≡ true
  kept_more place marked = ⊎_elim
      (λ same. ap (has new) same ∙ here)
      (λ apart. there place apart ∙ marked)
      (cases_eq place reader.place)

  pub next_inside : (heads : List ℕ) (many : ℕ) → AreChains heads list many → reader.next ≤ length list
  next_inside heads many chains =
      let low : (reader_at list (at - 1)).next ≤ at - 1 = chains.nexts (at - 1) (omega arith) in
      let same : (reader_at list (at - 1)).next ≡ reader.next = ap (λ (r : Reader). r.next) reader_is in
      omega (arith, low, same)

  pub next_lower : (heads : List ℕ) (many : ℕ) → AreChains heads list many → reader.next < at
  next_lower heads many chains =
      let low : (reader_at list (at - 1)).next ≤ at - 1 = chains.nexts (at - 1) (omega arith) in
      let same : (reader_at list (at - 1)).next ≡ reader.next = ap (λ (r : Reader). r.next) reader_is in
      omega (arith, low, same)

  pub marked_more : (place : ℕ) → (has old place ≡ true) ⊎ IsOnChain list place at → (has new place ≡ true) ⊎ IsOnChain list place reader.next
  marked_more place = ⊎_elim
      (λ marked. inl (kept_more place marked))
      (λ on. ⊎_elim
      (λ same. inl (ap (has new) (sym same ∙ ap (λ (r : Reader). r.place) reader_is) ∙ here))
      (λ rest. inr (subst (λ (r : Reader). IsOnChain list place r.next) reader_is rest))
      (next_on_chain list place at (at - 1) (omega arith) on))

-- ---- the nets that a node reads

-- where it stands on the chains of the nets that it reads, and the places before it on those that they read, all do
pub readers_more : (C : Circuit) (heads : List ℕ) (list : List Reader) (place : ℕ) (reads : List ℕ)
    → reads ≡ (node C (slice_index (evaluation_order (fan_ins C)) place)).reads
    → ((i : ℕ) → i < length reads → IsOnChain list place (slice_index heads (slice_index reads i)))
    → HaveReaders C heads list place → HaveReaders C heads list (place + 1)
readers_more C heads list place reads same added before k net below is = ⊎_elim
    (λ earlier. before k net earlier is)
    (λ past.
    let here : k ≡ place = omega arith in
    let has : has_place reads net ≡ true
    = ap (λ l. has_place l net) same ∙ (ap (λ n. has_place (node C (slice_index (evaluation_order (fan_ins C)) n)).reads net) (sym here) ∙ is) in
    let inside = position-within reads net has in
    let i = position_or_len (λ n. n == net) reads in
    let found : slice_index reads i ≡ net = eqb-true (slice_index reads i) net (passes_at_first (λ n. n == net) reads 0 inside) in
    subst (λ n. IsOnChain list n (slice_index heads net)) (sym here) (subst (λ n. IsOnChain list place (slice_index heads n)) found (added i inside)))
    (cases_lt k place)

-- ---- the site of a fault

-- a node's place is the one whose node has that net
pub site_apart : (C : Circuit) → IsOrder (fan_ins C) (evaluation_order (fan_ins C)) → (site at place : ℕ) → source_count C ≤ site → site < nets C
    → at ≡ place_in (evaluation_order (fan_ins C)) (site - source_count C) → place < length C.nodes → place ≢ at → IsApart C (Stem site true) place
site_apart C whole site at place past inside is below apart =
    let order = evaluation_order (fan_ins C) in
    record {
      node = ne_eqb site (net_at C order place) (λ same.
          let j : site - source_count C ≡ slice_index order place = omega (arith, same) in
          apart (sym (is ∙ (ap (place_in order) j ∙ place_of_node C order whole place (omega (arith, order_sized C order whole))))));
      sources = λ net low reads. ne_eqb site net (λ same. omega (arith, same));
    }

-- what stands in the list of places at a node's net is that place, and there is such a place
pub site_place : (C : Circuit) (readers : Readers) → AreReaders C readers → (site first at : ℕ) → first ≡ source_count C → first ≤ site → site < nets C
    → at ≡ slice_index_or readers.places.items (site - first) at → at ≡ place_in (evaluation_order (fan_ins C)) (site - source_count C)
site_place C readers are site first at is past inside found =
    found ∙ get_or_default readers.places.items (site - first) at 0 (omega (arith, are.many))
    ∙ ap (λ n. slice_index_or readers.places.items n 0) (omega (arith, is))
    ∙ are.places (site - source_count C) (omega (arith, is))

pub place_within : (C : Circuit) → IsOrder (fan_ins C) (evaluation_order (fan_ins C)) → (site at : ℕ) → source_count C ≤ site → site < nets C
    → at ≡ place_in (evaluation_order (fan_ins C)) (site - source_count C) → at ≤ length C.nodes
place_within C whole site at past inside is =
    let order = evaluation_order (fan_ins C) in
    omega (arith, is, node_placed C order whole (site - source_count C) (omega arith), order_sized C order whole)

pub site_is_net : (C : Circuit) (f : StuckAt) (site : ℕ) → IsAtNets C f → ((net : ℕ) → is_at f net ≡ (site == net)) → site < nets C
site_is_net C f site within same = within site (same site ∙ eq-eqb site site refl)

-- ---- the places of nodes

pub places_more : (C : Circuit) (order : List ℕ) → IsOrder (fan_ins C) order → (places : List ℕ) (place : ℕ) → place < length order
    → slice_index order place < length places
    → ((k : ℕ) → k < place → slice_index places (slice_index order k) ≡ k)
    → (k : ℕ) → k < place + 1 → slice_index (set places (slice_index order place) place) (slice_index order k) ≡ k
places_more C order whole places place inside room before =
    below_more (λ k. slice_index (set places (slice_index order place) place) (slice_index order k) ≡ k) place
    (λ k below.
    let apart : slice_index order k ≢ slice_index order place = (λ same.
    let e : k ≡ place = sym (place_of_node C order whole k (omega arith)) ∙ (ap (place_in order) same ∙ place_of_node C order whole place inside) in omega arith) in
    get_or-set_other places (slice_index order place) (slice_index order k) place 0 apart ∙ before k below)
    (get_or-set_same places (slice_index order place) place 0 room)

pub all_placed : (C : Circuit) (order : List ℕ) → IsOrder (fan_ins C) order → (places : List ℕ)
    → ((k : ℕ) → k < length order → slice_index places (slice_index order k) ≡ k)
    → (j : ℕ) → j < length C.nodes → slice_index places j ≡ place_in order j
all_placed C order whole places each j inside =
    ap (slice_index places) (sym (node_at_place C order whole j inside)) ∙ each (place_in order j) (node_placed C order whole j inside)
