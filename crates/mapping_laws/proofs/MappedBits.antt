-- A valuation of a mapped netlist, as one of the netlist that was mapped: its bits, its word, its next state.
use Rattle.std.proofs.Common.{◌≡◌, ℕ, suc, ◌++◌, Bool, false, List, [], ◌∷◌, map, length, take, refl, sym, ap, ap₂, ◌∙◌, inl, inr, arith}
use Rattle.std.proofs.lemmas.Bool.{cases_lt}
use Rattle.std.proofs.lemmas.List.{length-map, get_or_past, take-map, map-append}
use Rattle.std.proofs.lemmas.List.FromFn.{length-map-range_with_len, get_or-map-range_with_len}
use Rattle.tsc_cover.specs.Cover.{truth}
use Rattle.fault_secure.specs.Circuit.{Circuit, LatchOf, node, node_net, nets, bit}
use Rattle.fault_secure.specs.StuckAt.{NoFault}
use Rattle.fault_secure.specs.Settle.{read_values, node_value}
use Rattle.fault_secure.specs.Run.{init_state, next_state}
use Rattle.fault_secure.specs.CodePlan.{CodePlan, next_nets, monitored, word}
use Rattle.fault_secure.specs.FaultSecure.{outputs_in, next_in}
use Rattle.structure_laws.proofs.FirstErrors.{next_clean}
use Rattle.mapping_laws.specs.Mapping.{IsMapped, moved_latch, moved_plan, as_mapped}
use Rattle.mapping_laws.specs.MappingLaws.{MappedBits}

-- ---- lists

moved_reads : (at : ℕ → ℕ) (ls : List LatchOf) → map (λ (l : LatchOf). l.reads) (map (moved_latch at) ls) ≡ map at (map (λ (l : LatchOf). l.reads) ls)
moved_reads at [] = refl
moved_reads at (l ∷ ls) = ap (λ z. at l.reads ∷ z) (moved_reads at ls)

moved_inits : (at : ℕ → ℕ) (ls : List LatchOf) → map (λ (l : LatchOf). l.init) (map (moved_latch at) ls) ≡ map (λ (l : LatchOf). l.init) ls
moved_inits at [] = refl
moved_inits at (l ∷ ls) = ap (λ z. l.init ∷ z) (moved_inits at ls)

-- bits that are read where nets went
read_moved : (g h : ℕ → Bool) (at : ℕ → ℕ) → ((net : ℕ) → h net ≡ g (at net)) → (ns : List ℕ) → map g (map at ns) ≡ map h ns
read_moved g h at same [] = refl
read_moved g h at same (n ∷ ns) = ap₂ ◌∷◌ (sym (same n)) (read_moved g h at same ns)

-- without a fault the values that are read are the bits of the nets that are read
pub pins_moved : (w : List Bool) (h : ℕ → Bool) → ((net : ℕ) → bit w net ≡ h net) → (driver pin : ℕ) (reads : List ℕ) → read_values NoFault w driver pin reads ≡ map h reads
pins_moved w h same driver pin [] = refl
pins_moved w h same driver pin (net ∷ reads) = ap₂ ◌∷◌ (same net) (pins_moved w h same driver (suc pin) reads)

module _ (N G : Circuit) (at block : ℕ → ℕ) (m : IsMapped N G at block) where
  -- both have the same number of latches
  pub same_latches : length G.latches ≡ length N.latches
  same_latches = ap length m.latches ∙ length-map N.latches (moved_latch at)

  -- both start in the same state bits
  pub same_init : init_state G ≡ init_state N
  same_init = ap (map (λ (l : LatchOf). l.init)) m.latches ∙ moved_inits at N.latches

  next_nets_moved : next_nets G ≡ map at (next_nets N)
  next_nets_moved = ap (map (λ (l : LatchOf). l.reads)) m.latches ∙ moved_reads at N.latches

  module _ (v : List Bool) (sized : length v ≡ nets G) where
    -- a valuation of G, as one of N, has at each net the bit that stands where it went
    pub mapped_bit : (net : ℕ) → bit (as_mapped N at v) net ≡ bit v (at net)
    mapped_bit net = elim (cases_lt net (nets N)) [
      | inl l ↦ get_or-map-range_with_len (λ n. bit v (at n)) 0 (nets N) net net false l (omega arith)
      | inr h ↦
          let past = length-map-range_with_len (λ n. bit v (at n)) 0 (nets N) in
          get_or_past (as_mapped N at v) net false (omega arith) ∙ sym (get_or_past v (at net) false (omega (arith, m.beyond net h)))
    ]

    bits_moved : (ns : List ℕ) → map (bit v) (map at ns) ≡ map (bit (as_mapped N at v)) ns
    bits_moved = read_moved (bit v) (bit (as_mapped N at v)) at mapped_bit

    -- a node has the value of its cover on the nets at its pins
    pub mapped_value : (j : ℕ) → node_value N NoFault (as_mapped N at v) j ≡ truth (node N j).cover (map (λ net. bit v (at net)) (node N j).reads)
    mapped_value j = ap (truth (node N j).cover) (pins_moved (as_mapped N at v) (λ net. bit v (at net)) mapped_bit (node_net N j) 0 (node N j).reads)

    -- the outputs are the same in both
    pub same_outputs : (P : CodePlan) → outputs_in G (moved_plan at P) v ≡ outputs_in N P (as_mapped N at v)
    same_outputs P = ap (λ ns. map (bit v) (take P.outputs ns)) m.outputs ∙ ap (map (bit v)) (take-map at P.outputs N.outputs) ∙ bits_moved (take P.outputs N.outputs)

    -- the bits at the inputs of the latches are the same in both
    pub same_next_in : next_in G v ≡ next_in N (as_mapped N at v)
    same_next_in = ap (map (bit v)) next_nets_moved ∙ bits_moved (next_nets N)

    -- without a fault the next state bits are the same in both
    pub same_next : next_state G NoFault v ≡ next_state N NoFault (as_mapped N at v)
    same_next = next_clean G v ∙ same_next_in ∙ sym (next_clean N (as_mapped N at v))

    monitored_moved : (P : CodePlan) → monitored G (moved_plan at P) ≡ map at (monitored N P)
    monitored_moved P =
        ap₂ (λ ns ms. (take P.outputs ns ++ map at P.checks) ++ ms) m.outputs next_nets_moved
        ∙ ap (λ ns. (ns ++ map at P.checks) ++ map at (next_nets N)) (take-map at P.outputs N.outputs)
        ∙ ap (λ ns. ns ++ map at (next_nets N)) (sym (map-append at (take P.outputs N.outputs) P.checks))
        ∙ sym (map-append at (take P.outputs N.outputs ++ P.checks) (next_nets N))

    -- the words are the same in both
    pub same_words : (P : CodePlan) → word N P (as_mapped N at v) ≡ word G (moved_plan at P) v
    same_words P = sym (ap (map (bit v)) (monitored_moved P) ∙ bits_moved (monitored N P))

pub mapped_bits : MappedBits
mapped_bits N G at block P v m sized = (mapped_bit N G at block m v sized, same_words N G at block m v sized P)
