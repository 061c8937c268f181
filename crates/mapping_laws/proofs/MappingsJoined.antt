-- Each netlist is a mapping of itself, and a mapping of a mapping is a mapping.
use Rattle.std.proofs.Common.{◌≡◌, ℕ, ◌<◌, Bool, List, [], ◌∷◌, length, map, refl, sym, ap, ap₂, ◌∙◌, arith}
use Rattle.std.proofs.lemmas.List.FromFn.{length-map-range_with_len}
use Rattle.tsc_cover.specs.Cover.{truth}
use Rattle.fault_secure.specs.Circuit.{Circuit, LatchOf, node, node_net, nets, bit}
use Rattle.mapping_laws.specs.Mapping.{BlockSettles, IsMapped, moved_latch, as_mapped}
use Rattle.mapping_laws.specs.MappingLaws.{IsOwnMapping, MappingsJoin}
use Rattle.mapping_laws.proofs.MappedBits.{pins_moved, same_latches, mapped_bit, mapped_value}

-- ---- lists

latches_stay : (ls : List LatchOf) → ls ≡ map (moved_latch (λ net. net)) ls
latches_stay [] = refl
latches_stay (l ∷ ls) = ap (λ z. l ∷ z) (latches_stay ls)

outputs_stay : (ns : List ℕ) → ns ≡ map (λ (net : ℕ). net) ns
outputs_stay [] = refl
outputs_stay (n ∷ ns) = ap (λ z. n ∷ z) (outputs_stay ns)

latches_twice : (at to : ℕ → ℕ) (ls : List LatchOf) → map (moved_latch to) (map (moved_latch at) ls) ≡ map (moved_latch (λ net. to (at net))) ls
latches_twice at to [] = refl
latches_twice at to (l ∷ ls) = ap (λ z. moved_latch (λ net. to (at net)) l ∷ z) (latches_twice at to ls)

outputs_twice : (at to : ℕ → ℕ) (ns : List ℕ) → map to (map at ns) ≡ map (λ net. to (at net)) ns
outputs_twice at to [] = refl
outputs_twice at to (n ∷ ns) = ap (λ z. to (at n) ∷ z) (outputs_twice at to ns)

same_bits : (g h : ℕ → Bool) → ((net : ℕ) → g net ≡ h net) → (ns : List ℕ) → map g ns ≡ map h ns
same_bits g h same [] = refl
same_bits g h same (n ∷ ns) = ap₂ ◌∷◌ (same n) (same_bits g h same ns)

-- ---- mappings

pub is_own_mapping : IsOwnMapping
is_own_mapping N = record {
  inputs = refl;
  latches = latches_stay N.latches;
  outputs = outputs_stay N.outputs;
  sources = λ net h. refl;
  inside = λ net h. h;
  beyond = λ net h. h;
  closed = λ h. h;
  blocks = λ g h. h;
  computes = λ j v h settled. settled.gates j h refl ∙ ap (truth (node N j).cover) (pins_moved v (bit v) (λ net. refl) (node_net N j) 0 (node N j).reads);
}

module _ (N G H : Circuit) (at block to part : ℕ → ℕ) (first : IsMapped N G at block) (second : IsMapped G H to part) where
  -- where the gates of H that stand for a node of N settle, those of G do in the valuation as one of G
  settles_between : (j : ℕ) (v : List Bool) → BlockSettles H (λ gate. block (part gate)) j v → BlockSettles G block j (as_mapped G to v)
  settles_between j v settled = record {
    sized = length-map-range_with_len (λ net. bit v (to net)) 0 (nets G);
    gates = λ g l e. mapped_bit G H to part second v settled.sized (node_net G g)
        ∙ second.computes g v l (record { sized = settled.sized; gates = λ h k d. settled.gates h k (ap block d ∙ e) })
        ∙ sym (mapped_value G H to part second v settled.sized g);
  }

  computes_joined : (j : ℕ) (v : List Bool) → j < length N.nodes → BlockSettles H (λ gate. block (part gate)) j v
      → bit v (to (at (node_net N j))) ≡ truth (node N j).cover (map (λ net. bit v (to (at net))) (node N j).reads)
  computes_joined j v h settled =
      let there = mapped_bit G H to part second v settled.sized in
      sym (there (at (node_net N j)))
      ∙ first.computes j (as_mapped G to v) h (settles_between j v settled)
      ∙ ap (truth (node N j).cover) (same_bits (λ net. bit (as_mapped G to v) (at net)) (λ net. bit v (to (at net))) (λ net. there (at net)) (node N j).reads)

pub mappings_join : MappingsJoin
mappings_join N G H at block to part first second = record {
  inputs = second.inputs ∙ first.inputs;
  latches = second.latches ∙ ap (map (moved_latch to)) first.latches ∙ latches_twice at to N.latches;
  outputs = second.outputs ∙ ap (map to) first.outputs ∙ outputs_twice at to N.outputs;
  sources = λ net h. ap to (first.sources net h) ∙ second.sources net (omega (arith, first.inputs, same_latches N G at block first));
  inside = λ net h. second.inside (at net) (first.inside net h);
  beyond = λ net h. second.beyond (at net) (first.beyond net h);
  closed = λ h. second.closed (first.closed h);
  blocks = λ h l. first.blocks (part h) (second.blocks h l);
  computes = λ j v h settled. computes_joined N G H at block to part first second j v h settled;
}
