-- Two settled valuations agree at every net of a set of nets that is closed under fan-in, where their faults treat its nets
-- alike and their inputs and state bits are the same.
use Rattle.std.proofs.Common.{◌≡◌, ℕ, zero, suc, ◌<◌, ◌≤◌, Bool, false, List, [], ◌∷◌, length, slice_index, refl, ap, ap₂, sym, ◌∙◌, subst, arith}
use Rattle.std.proofs.lemmas.List.{get_or_past}
use Rattle.tsc_cover.specs.Cover.{truth}
use Rattle.fault_secure.specs.Circuit.{Circuit, node, latch_net, node_net, pin_net, nets, bit}
use Rattle.fault_secure.specs.StuckAt.{StuckAt, on_stem, on_pin}
use Rattle.fault_secure.specs.Settle.{Settles, Ranks, Acyclic, read_values, node_value}
use Rattle.fault_secure.proofs.Places.{Place, place_of}
use Rattle.fault_secure.proofs.Places.Place.{Input, Latch, Node, Beyond}

-- what holds at a net as soon as it holds at all nets of lower rank holds everywhere
module _ (P : ℕ → Type 0) (rank : ℕ → ℕ) (step : (net : ℕ) → ((m : ℕ) → rank m < rank net → P m) → P net) where
  below_rank : (bound net : ℕ) → rank net < bound → P net
  below_rank zero net h = absurd (omega arith)
  below_rank (suc bound) net h = step net (λ m k. below_rank bound m (omega arith))

  -- then it holds at each net
  pub by_rank : (net : ℕ) → P net
  by_rank net = below_rank (suc (rank net)) net (omega arith)

-- the two faults hold the same at the net's stem and at the pins of what drives it
pub record TreatAlike (f g : StuckAt) (net : ℕ) : Type 0 where
  pub stem : (b : Bool) → on_stem f net b ≡ on_stem g net b
  pub pin : (k : ℕ) (b : Bool) → on_pin f net k b ≡ on_pin g net k b

-- two lists of values that pins read are the same, where each net that is read gives the same bit at whatever pin
pub reads_same : (f g : StuckAt) (v u : List Bool) (driver pin : ℕ) (reads : List ℕ)
    → ((i k : ℕ) → i < length reads → on_pin f driver k (bit v (slice_index reads i)) ≡ on_pin g driver k (bit u (slice_index reads i)))
    → read_values f v driver pin reads ≡ read_values g u driver pin reads
reads_same f g v u driver pin [] h = refl
reads_same f g v u driver pin (net ∷ reads) h =
    ap₂ ◌∷◌ (h zero pin (omega arith)) (reads_same f g v u driver (suc pin) reads (λ i k l. h (suc i) k (omega arith)))

module _ (N : Circuit) (f g : StuckAt) (x y s t : ℕ → Bool) (v u : List Bool) (first : Settles N f x s v) (second : Settles N g y t u)
    (Seen : ℕ → Type 0) (closed : (j pin : ℕ) → j < length N.nodes → pin < length (node N j).reads → Seen (node_net N j) → Seen (pin_net N j pin))
    (alike : (net : ℕ) → net < nets N → Seen net → TreatAlike f g net)
    (same_inputs : (i : ℕ) → i < N.inputs → x i ≡ y i)
    (same_states : (l : ℕ) → l < length N.latches → Seen (latch_net N l) → s l ≡ t l) where
  at_node : (rank : ℕ → ℕ) → Ranks N rank → (j : ℕ) → j < length N.nodes
      → ((m : ℕ) → rank m < rank (node_net N j) → Seen m → bit v m ≡ bit u m) → Seen (node_net N j) → node_value N f v j ≡ node_value N g u j
  at_node rank ranks j h below seen =
      ap (truth (node N j).cover) (reads_same f g v u (node_net N j) 0 (node N j).reads
      (λ i k l. (alike (node_net N j) (omega arith) seen).pin k (bit v (pin_net N j i)) ∙ ap (on_pin g (node_net N j) k) (below (pin_net N j i) (ranks.above j i h l) (closed j i h l seen))))

  at_place : (rank : ℕ → ℕ) → Ranks N rank → (net : ℕ) → Place N net
      → ((m : ℕ) → rank m < rank net → Seen m → bit v m ≡ bit u m) → Seen net → bit v net ≡ bit u net
  at_place rank ranks net (Input h) below seen =
      first.inputs net h ∙ (alike net (omega arith) seen).stem (x net) ∙ ap (on_stem g net) (same_inputs net h) ∙ sym (second.inputs net h)
  at_place rank ranks net (Latch l h e) below seen =
      subst (λ m. Seen m → bit v m ≡ bit u m) (sym e)
      (λ z. first.latches l h ∙ (alike (latch_net N l) (omega arith) z).stem (s l) ∙ ap (on_stem g (latch_net N l)) (same_states l h z) ∙ sym (second.latches l h)) seen
  at_place rank ranks net (Node j h e) below seen =
      subst (λ m. ((k : ℕ) → rank k < rank m → Seen k → bit v k ≡ bit u k) → Seen m → bit v m ≡ bit u m) (sym e)
      (λ lower z. first.nodes j h ∙ (alike (node_net N j) (omega arith) z).stem (node_value N f v j) ∙ ap (on_stem g (node_net N j)) (at_node rank ranks j h lower z) ∙ sym (second.nodes j h))
      below seen
  at_place rank ranks net (Beyond h) below seen =
      get_or_past v net false (subst (λ n. n ≤ net) (sym first.sized) h) ∙ sym (get_or_past u net false (subst (λ n. n ≤ net) (sym second.sized) h))

  -- in an acyclic circuit both valuations have the same bit at each net of the set
  pub agree : Acyclic N → (net : ℕ) → Seen net → bit v net ≡ bit u net
  agree acyclic = by_rank (λ net. Seen net → bit v net ≡ bit u net) acyclic.rank (λ net below. at_place acyclic.rank acyclic.ranks net (place_of N net) below)
