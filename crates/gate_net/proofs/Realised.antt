-- Nets that realise signals: their values, and the nodes that they depend on.
use Rattle.std.specs.List.{AllByRecursion}
use Rattle.std.proofs.lemmas.List.Elements.{All-from_recursion}
use Rattle.std.proofs.Common.{◌≡◌, ℕ, zero, suc, ◌+◌, ◌<◌, ◌≤◌, inl, inr, Bool, not, ◌&&◌, ◌||◌, List, [], ◌∷◌, map, length, slice_index_or, refl, sym, ◌∙◌, ap, ap₂, subst, arith}
use Rattle.tsc_cover.specs.Cover.{CoverTable, zero_cover, truth}
use Rattle.tsc_cover.specs.Gates.{buf_cover, not_cover, and_cover, or_cover, xor_cover}
use Rattle.fault_secure.specs.Circuit.{Circuit, node, bit}
use Rattle.fault_secure.specs.StuckAt.StuckAt.{NoFault}
use Rattle.fault_secure.specs.Settle.{Settles}
use Rattle.fault_secure.specs.CodePlan.{CodePlan, monitored}
use Rattle.tsc_bits.specs.Counting.{differ}
use Rattle.fault_secure.specs.Depends.{Depends, InFunction}
use Rattle.fault_secure.specs.Depends.Depends.{itself, through}
use Rattle.fault_secure.proofs.GateLemmas.{node_value-gate, truth-buf, truth-not, truth-and, truth-or, truth-xor}
use Rattle.gate_net.specs.Signal.{Signal, value, values}
use Rattle.gate_net.specs.Signal.Signal.{Zero, One, Input, State, Not, And, Or, Xor}
use Rattle.gate_net.specs.Realised.{one_cover, IsGateBefore, RealisesBefore, RealisesByBuf, RealisesRoot, AllRealise}

-- the bit of a net that a gate drives
gate_value : (N : Circuit) (hi : ℕ) (x s : ℕ → Bool) (v : List Bool) (net : ℕ) (cover : CoverTable) (reads : List ℕ)
    → Settles N NoFault x s v → IsGateBefore N hi net cover reads → bit v net ≡ truth cover (map (bit v) reads)
gate_value N hi x s v net cover reads settled g = ap (bit v) g.drives ∙ settled.nodes g.driver g.is_node ∙ node_value-gate N v g.driver cover reads g.is_gate

pub net_value : (N : Circuit) (hi : ℕ) (x s : ℕ → Bool) (v : List Bool) (signal : Signal) (net : ℕ) → Settles N NoFault x s v → RealisesBefore N hi signal net → bit v net ≡ value x s signal
net_value N hi x s v Zero net settled r = gate_value N hi x s v net zero_cover [] settled r
net_value N hi x s v One net settled r = gate_value N hi x s v net one_cover [] settled r
net_value N hi x s v (Input i) net settled r = ap (bit v) r.1 ∙ settled.inputs i r.0
net_value N hi x s v (State i) net settled r = ap (bit v) r.1 ∙ settled.latches i r.0
net_value N hi x s v (Not a) net settled r =
    gate_value N hi x s v net not_cover (r.0 ∷ []) settled r.1 ∙ truth-not (bit v r.0) ∙ ap not (net_value N hi x s v a r.0 settled r.2)
net_value N hi x s v (And a b) net settled r =
    gate_value N hi x s v net and_cover (r.0 ∷ (r.1 ∷ [])) settled r.2 ∙ truth-and (bit v r.0) (bit v r.1)
    ∙ ap₂ (λ y z. y && z) (net_value N hi x s v a r.0 settled r.3) (net_value N hi x s v b r.1 settled r.4)
net_value N hi x s v (Or a b) net settled r =
    gate_value N hi x s v net or_cover (r.0 ∷ (r.1 ∷ [])) settled r.2 ∙ truth-or (bit v r.0) (bit v r.1)
    ∙ ap₂ (λ y z. y || z) (net_value N hi x s v a r.0 settled r.3) (net_value N hi x s v b r.1 settled r.4)
net_value N hi x s v (Xor a b) net settled r =
    gate_value N hi x s v net xor_cover (r.0 ∷ (r.1 ∷ [])) settled r.2 ∙ truth-xor (bit v r.0) (bit v r.1)
    ∙ ap₂ differ (net_value N hi x s v a r.0 settled r.3) (net_value N hi x s v b r.1 settled r.4)

buf_value : (N : Circuit) (hi : ℕ) (x s : ℕ → Bool) (v : List Bool) (signal : Signal) (net : ℕ) → Settles N NoFault x s v → RealisesByBuf N hi signal net → bit v net ≡ value x s signal
buf_value N hi x s v signal net settled r =
    gate_value N hi x s v net buf_cover (r.0 ∷ []) settled r.1 ∙ truth-buf (bit v r.0) ∙ net_value N hi x s v signal r.0 settled r.2

pub root_value : (N : Circuit) (hi : ℕ) (x s : ℕ → Bool) (v : List Bool) (signal : Signal) (net : ℕ) → Settles N NoFault x s v → RealisesRoot N hi signal net → bit v net ≡ value x s signal
root_value N hi x s v signal net settled (inl r) = net_value N hi x s v signal net settled r
root_value N hi x s v signal net settled (inr r) = buf_value N hi x s v signal net settled r

-- nets that realise signals have the signals' values where the netlist settles without a fault
pub all_values : (N : Circuit) (hi : ℕ) (x s : ℕ → Bool) (v : List Bool) (signals : List Signal) (nets : List ℕ) → Settles N NoFault x s v → AllRealise N hi signals nets → map (bit v) nets ≡ values x s signals
all_values N hi x s v [] [] settled h = refl
all_values N hi x s v [] (net ∷ nets) settled h = absurd h
all_values N hi x s v (signal ∷ signals) [] settled h = absurd h
all_values N hi x s v (signal ∷ signals) (net ∷ nets) settled h =
    ap (λ b. b ∷ map (bit v) nets) (root_value N hi x s v signal net settled h.0) ∙ ap (λ bits. value x s signal ∷ bits) (all_values N hi x s v signals nets settled h.1)

-- a net that depends on a node is none of the inputs and latches
pub past_latches : (N : Circuit) (q net : ℕ) → Depends N q net → N.inputs + length N.latches ≤ net
past_latches N q net (itself _ there drives) = omega arith
past_latches N q net (through _ j pin there drives has further) = omega arith

module _ (N : Circuit) (hi : ℕ) (P : ℕ → Type 0) (q : ℕ) where
  -- what holds of the node of a gate, and of what each of its pins depends on, holds of what its net depends on
  pub by_gate : (net : ℕ) (cover : CoverTable) (reads : List ℕ) (g : IsGateBefore N hi net cover reads) → P g.driver
      → AllByRecursion (λ m. Depends N q m → P q) reads → Depends N q net → P q
  by_gate net cover reads g here deeper (itself _ there drives) =
      let at : g.driver ≡ q = let e = g.drives in omega arith in
      subst P at here
  by_gate net cover reads g here deeper (through _ j pin there drives has further) =
      let at : j ≡ g.driver = let e = g.drives in omega arith in
      let is : (node N j).reads ≡ reads = ap (λ k. (node N k).reads) at ∙ ap (λ n. n.reads) g.is_gate in
      All-from_recursion (λ m. Depends N q m → P q) (node N j).reads (subst (AllByRecursion (λ m. Depends N q m → P q)) (sym is) deeper) pin 0 has further

-- what holds of each root's net holds of each net of the list
pub each_contained : (N : Circuit) (hi : ℕ) (Q : ℕ → Type 0) (signals : List Signal) (nets : List ℕ) → ((signal : Signal) (net : ℕ) → RealisesRoot N hi signal net → Q net)
    → AllRealise N hi signals nets → (k : ℕ) (d : ℕ) → k < length nets → Q (slice_index_or nets k d)
each_contained N hi Q signals [] f h k d lt = absurd (omega arith)
each_contained N hi Q [] (net ∷ nets) f h k d lt = absurd h
each_contained N hi Q (signal ∷ signals) (net ∷ nets) f h zero d lt = f signal net h.0
each_contained N hi Q (signal ∷ signals) (net ∷ nets) f h (suc k) d lt = each_contained N hi Q signals nets f h.1 k d (omega arith)

module _ (N : Circuit) (hi : ℕ) where
  Before : ℕ → Type 0
  Before q = q < hi

  cone : (signal : Signal) (net q : ℕ) → RealisesBefore N hi signal net → Depends N q net → Before q
  unfolding Before
  cone Zero net q r d = by_gate N hi Before q net zero_cover [] r r.before tt d
  cone One net q r d = by_gate N hi Before q net one_cover [] r r.before tt d
  cone (Input i) net q r d = let past = past_latches N q net d in let at = r.1 in let low = r.0 in absurd (omega arith)
  cone (State i) net q r d = let past = past_latches N q net d in let at = r.1 in let low = r.0 in absurd (omega arith)
  cone (Not a) net q r d = by_gate N hi Before q net not_cover (r.0 ∷ []) r.1 r.1.before (cone a r.0 q r.2, tt) d
  cone (And a b) net q r d = by_gate N hi Before q net and_cover (r.0 ∷ (r.1 ∷ [])) r.2 r.2.before (cone a r.0 q r.3, (cone b r.1 q r.4, tt)) d
  cone (Or a b) net q r d = by_gate N hi Before q net or_cover (r.0 ∷ (r.1 ∷ [])) r.2 r.2.before (cone a r.0 q r.3, (cone b r.1 q r.4, tt)) d
  cone (Xor a b) net q r d = by_gate N hi Before q net xor_cover (r.0 ∷ (r.1 ∷ [])) r.2 r.2.before (cone a r.0 q r.3, (cone b r.1 q r.4, tt)) d

  cone_by_buf : (signal : Signal) (net q : ℕ) → RealisesByBuf N hi signal net → Depends N q net → Before q
  unfolding Before
  cone_by_buf signal net q r d = by_gate N hi Before q net buf_cover (r.0 ∷ []) r.1 r.1.before (cone signal r.0 q r.2, tt) d

  cone_of_root : (signal : Signal) (net q : ℕ) → RealisesRoot N hi signal net → Depends N q net → Before q
  cone_of_root signal net q (inl r) d = cone signal net q r d
  cone_of_root signal net q (inr r) d = cone_by_buf signal net q r d

pub net_cone : (N : Circuit) (hi : ℕ) (signal : Signal) (net q : ℕ) → RealisesBefore N hi signal net → Depends N q net → q < hi
unfolding Before
net_cone N hi signal net q r d = cone N hi signal net q r d

pub root_cone : (N : Circuit) (hi : ℕ) (signal : Signal) (net q : ℕ) → RealisesRoot N hi signal net → Depends N q net → q < hi
unfolding Before
root_cone N hi signal net q r d = cone_of_root N hi signal net q r d

-- where all monitored nets realise signals before place hi, each node of the function stands before hi
pub function_before : (N : Circuit) (P : CodePlan) (hi : ℕ) (signals : List Signal) (q : ℕ) → AllRealise N hi signals (monitored N P) → InFunction N P q → q < hi
function_before N P hi signals q h is =
    each_contained N hi (λ net. Depends N q net → q < hi) signals (monitored N P) (λ signal net r. root_cone N hi signal net q r) h is.monitors.0 is.net is.monitors.1
    (subst (Depends N q) (sym is.monitors.2) is.depends)
