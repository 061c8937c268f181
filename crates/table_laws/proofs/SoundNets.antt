-- A sound netlist by names whose covers have a pin a name, and that has few nets, is a checked netlist.
use Rattle.std.proofs.Common.{◌≡◌, ℕ, ◌<◌, ◌^◌, Bool, true, false, if◌then◌else◌, List, [], ◌∷◌, length, All, Option, Some, None, refl}
use Rattle.tsc_net.specs.Named.{Named}
use Rattle.tsc_net.specs.NetFault.{fault_of, first_fault, first_missing, first_repeat, no_outputs, reads_of, ring_of, twice, undriven}
use Rattle.tsc_net.specs.NetlistOf.{circuit_of, drivers, netlist_of, IsBuilt}
use Rattle.tsc_net.specs.Order.{fan_ins, has_whole_order}
use Rattle.tsc_net.specs.declared.net_error.NetError.{NetError}
use Rattle.tsc_net.specs.declared.net_error.NetError.TheVariants.{Cycle}
use Rattle.tsc_net.proofs.NetlistLemmas.{sound_netlist}
use Rattle.tsc_net.proofs.OrderedLemmas.{checked_from_order}
use Rattle.net_building.specs.Sound.{IsSound}
use Rattle.net_building.proofs.NoFault.{no_fault}

-- the netlist has none of the faults that would refuse it
record HasNoFault (N : Named) : Type 0 where
  once : first_repeat (drivers N) ≡ None
  shown_once : first_repeat N.outputs ≡ None
  driven : first_missing (drivers N) (reads_of N) ≡ None
  some_output : no_outputs N.outputs ≡ None
  whole : has_whole_order (fan_ins (circuit_of N)) ≡ true

has_no_fault : (N : Named) → fault_of N ≡ None → HasNoFault N
has_no_fault N e = by (first_repeat (drivers N)) refl (first_repeat N.outputs) refl (first_missing (drivers N) (reads_of N)) refl (no_outputs N.outputs) refl
    (has_whole_order (fan_ins (circuit_of N))) refl e
  where
    by : (a : Option (List ℕ)) → first_repeat (drivers N) ≡ a → (b : Option (List ℕ)) → first_repeat N.outputs ≡ b
        → (c : Option (List ℕ)) → first_missing (drivers N) (reads_of N) ≡ c → (d : Option NetError) → no_outputs N.outputs ≡ d
        → (w : Bool) → has_whole_order (fan_ins (circuit_of N)) ≡ w
        → first_fault (twice a ∷ twice b ∷ undriven c ∷ d ∷ (if w then None else Some (Cycle (ring_of N))) ∷ []) ≡ None → HasNoFault N
    by None f None g None h None i true k e = record { once = f; shown_once = g; driven = h; some_output = i; whole = k }
    by None f None g None h None i false k e = cc
    by None f None g None h (Some d) i w k e = cc
    by None f None g (Some c) h d i w k e = cc
    by None f (Some b) g c h d i w k e = cc
    by (Some a) f b g c h d i w k e = cc

pub sound_is_built : (N : Named) → IsSound N → All (λ n. length n.reads ≡ n.cover.width) N.nodes → length (drivers N) < 2 ^ 32 → IsBuilt (netlist_of N)
sound_is_built N sound even few =
    let none = has_no_fault N (no_fault N sound) in
    checked_from_order (netlist_of N)
    (sound_netlist N
    (record { once = none.once; shown_once = none.shown_once; driven = none.driven; some_output = none.some_output; pins = even; few = few }))
    none.whole
