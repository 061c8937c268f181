-- The watch: own registers with the parity of their copies, as one more pair of the checker. The statements of the laws.
use Rattle.std.specs.Prelude.{◌≡◌, ℕ, ◌<◌, ◌==◌, Bool, not, List, [], ◌∷◌, ◌++◌, map, length, count_by, IsTrue, All, Contains}
use Rattle.tsc_bits.specs.Counting.{odd, differ}
use Rattle.fault_secure.specs.Circuit.{Circuit, latch_net, node_net, bit}
use Rattle.fault_secure.specs.StuckAt.{NoFault}
use Rattle.fault_secure.specs.Settle.{node_value}
use Rattle.fault_secure.specs.Depends.{Depends}
use Rattle.fault_secure.specs.CodePlan.{bits_at, RailsAgree}
use Rattle.register_laws.specs.RegisterPlan.{RegisterPlan}
use Rattle.register_laws.specs.RegisterStructure.{RegisterCheckerSettles, DecidesGroups}
use Rattle.register_laws.specs.Twin.{Placing}

-- the nets of a copy's registers, by their numbers in the source
abbrev pub register_nets : Circuit → Placing → List ℕ → List ℕ
register_nets N c registers = map (λ l. latch_net N (c.latch_at l)) registers

-- register by register, whether the own one differs from the copy
abbrev pub differences : Circuit → Placing → Placing → List ℕ → List Bool → List Bool
differences N own copy registers v = map (λ l. differ (bit v (latch_net N (own.latch_at l))) (bit v (latch_net N (copy.latch_at l)))) registers

-- the bit of the check of the watch is as its chain says: 1 exactly where an even number of the copied registers is 1
abbrev pub WatchSettles : Circuit → Placing → List ℕ → ℕ → List Bool → Type 0
WatchSettles N copy registers check v = bit v check ≡ not (odd (bits_at v (register_nets N copy registers)))

-- where this holds, the own registers with this check are odd exactly where an even number of registers differs
abbrev pub WatchCounts : Type 0
WatchCounts = (N : Circuit) (own copy : Placing) (registers : List ℕ) (check : ℕ) (v : List Bool) → WatchSettles N copy registers check v
    → odd (bits_at v (register_nets N own registers ++ check ∷ [])) ≡ not (odd (differences N own copy registers v))

-- the nodes on which a net depends settle in v, without a fault. Latches aren't crossed
pub record DriversSettle (N : Circuit) (net : ℕ) (v : List Bool) : Type 0 where
  pub settles : (q : ℕ) → q < length N.nodes → Depends N q net → bit v (node_net N q) ≡ node_value N NoFault v q

-- `check` watches the registers of S: its list with the own registers is watched, `registers` has each register of S, once each, no own register
-- is a copied one, and the nodes on which the check depends make of the copied registers what the check is to be
pub record IsWatchOf (S N : Circuit) (P : RegisterPlan) (own copy : Placing) (registers : List ℕ) (check : ℕ) : Type 0 where
  pub listed : Contains P.watches (register_nets N own registers ++ check ∷ [])
  pub within : All (λ l. l < length S.latches) registers
  pub once : (l : ℕ) → l < length S.latches → count_by (λ other. l == other) registers ≡ 1
  pub apart : (l k : ℕ) → l < length S.latches → k < length S.latches → own.latch_at l ≡ copy.latch_at k → ⊥
  pub follows : (v : List Bool) → DriversSettle N check v → WatchSettles N copy registers check v

-- with such a check the rails agree where an odd number of registers differs from its copies, wherever the nodes of the checker and of the
-- check settle, and the checker decides
abbrev pub WatchIsHeard : Type 0
WatchIsHeard = (S N : Circuit) (P : RegisterPlan) (own copy : Placing) (registers : List ℕ) (check : ℕ) (v : List Bool)
    → DecidesGroups N P → IsWatchOf S N P own copy registers check
    → RegisterCheckerSettles N P v → DriversSettle N check v
    → IsTrue (odd (differences N own copy registers v)) → RailsAgree P.plan v
