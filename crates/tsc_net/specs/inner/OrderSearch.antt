-- The search for the evaluation order, as it stands between two nodes: the marks of the listed nodes, how many pins of each
-- node were passed, who waits on which node, and the ready nodes. The nodes are seen by the nets that they read.
use Rattle.std.specs.Prelude.{◌≡◌, ℕ, ◌+◌, ◌-◌, ◌<◌, Bool, true, false, if◌then◌else◌, not, ◌==◌, ◌||◌, nat_lt, List, length, map, slice_index, count_by}
use Rattle.std.specs.List.{position_or_len}
use Rattle.tsc_bits.specs.Lists.{list_at}
use Rattle.fault_secure.specs.Circuit.{NodeOf, bit}
use Rattle.tsc_net.specs.Order.{has_place, fan_in, order_from, evaluation_order, walk, ring}

-- the nets that each node reads
abbrev pub nets_of : List NodeOf → List (List ℕ)
nets_of nodes = map (λ n. n.reads) nodes

-- the fan-ins of nodes that read these nets; `base` is the net of the first node
abbrev pub fans_over : ℕ → List (List ℕ) → List (List ℕ)
fans_over base nets = map (fan_in base) nets

-- nothing is waited for at the net: no node drives it, or a marked one
abbrev pub is_passed : ℕ → List Bool → ℕ → Bool
is_passed base marks net = nat_lt net base || bit marks (net - base)

-- node j reads what node b drives
pub record Reads (base : ℕ) (nets : List (List ℕ)) (j b : ℕ) : Type 0 where
  pub pin : ℕ
  pub within : pin < length (list_at nets j)
  pub there : slice_index (list_at nets j) pin ≡ base + b

-- nothing is waited for at the pins of node j
abbrev pub IsPassed : ℕ → List (List ℕ) → List Bool → ℕ → Type 0
IsPassed base nets marks j =
    (pin : ℕ) → pin < length (list_at nets j) → is_passed base marks (slice_index (list_at nets j) pin) ≡ true

-- node j waits on an unmarked node
pub record Waits (nets : List (List ℕ)) (marks : List Bool) (waiters : List (List ℕ)) (j : ℕ) : Type 0 where
  pub blocker : ℕ
  pub within : blocker < length nets
  pub unmarked : bit marks blocker ≡ false
  pub there : has_place (list_at waiters blocker) j ≡ true

-- the node is one, isn't marked, and waits for nothing
pub record IsReady (base : ℕ) (nets : List (List ℕ)) (marks : List Bool) (j : ℕ) : Type 0 where
  pub within : j < length nets
  pub unmarked : bit marks j ≡ false
  pub reads : IsPassed base nets marks j

-- the node is one, isn't marked, and reads what the blocker drives
pub record IsWaiter (base : ℕ) (nets : List (List ℕ)) (marks : List Bool) (b j : ℕ) : Type 0 where
  pub within : j < length nets
  pub unmarked : bit marks j ≡ false
  pub reads : Reads base nets j b

-- each unmarked node is ready or waits, but for those that are still to be looked at
pub record IsSearch (base : ℕ) (nets : List (List ℕ)) (marks : List Bool) (stops : List ℕ) (waiters : List (List ℕ))
    (ready : List ℕ) (pending : ℕ → Bool) : Type 0 where
  pub marks_sized : length marks ≡ length nets
  pub stops_sized : length stops ≡ length nets
  pub waiters_sized : length waiters ≡ length nets
  pub stopped : (j pin : ℕ) → pin < slice_index stops j → pin < length (list_at nets j)
      → is_passed base marks (slice_index (list_at nets j) pin) ≡ true
  pub sound : (j : ℕ) → has_place ready j ≡ true → IsReady base nets marks j
  pub waiting : (b j : ℕ) → bit marks b ≡ false → has_place (list_at waiters b) j ≡ true → IsWaiter base nets marks b j
  pub complete : (j : ℕ) → j < length nets → bit marks j ≡ false → has_place ready j ≡ false → pending j ≡ false
      → Waits nets marks waiters j

-- the marks are those of the listed nodes
pub record MarksOf (fans : List (List ℕ)) (marks : List Bool) (listed : List ℕ) : Type 0 where
  pub sized : length marks ≡ length fans
  pub marked : (j : ℕ) → j < length fans → bit marks j ≡ has_place listed j
  pub counted : count_by (λ b. b) marks ≡ length listed

-- the nodes listed so far begin the evaluation order
abbrev pub GoesOn : List (List ℕ) → List ℕ → Type 0
GoesOn fans listed = order_from (length fans - length listed) fans listed ≡ evaluation_order fans

-- the step at which a place was come to: one more than its place in the path, 0 where it isn't there
abbrev pub step_of : List ℕ → ℕ → ℕ
step_of path j = if has_place path j then position_or_len (λ k. k == j) path + 1 else 0

-- the steps are those of the path
pub record StepsOf (steps path : List ℕ) : Type 0 where
  pub steps_are : (j : ℕ) → j < length steps → slice_index steps j ≡ step_of path j
  pub counted : count_by (λ s. not (s == 0)) steps ≡ length path

-- the walk from here on is the ring
abbrev pub WalksOn : List (List ℕ) → List ℕ → ℕ → Type 0
WalksOn fans path at = walk (length fans + 1 - length path) fans (evaluation_order fans) path at ≡ ring fans

-- the listing between two nodes: those listed begin the order, and none is still to be looked at
pub record IsListing (base : ℕ) (nets : List (List ℕ)) (marks : List Bool) (stops : List ℕ) (waiters : List (List ℕ))
    (ready listed : List ℕ) : Type 0 where
  pub marked : MarksOf (fans_over base nets) marks listed
  pub goes_on : GoesOn (fans_over base nets) listed
  pub search : IsSearch base nets marks stops waiters ready (λ j. false)

-- the walk between two nodes: the ring is what it comes to from here
pub record IsWalk (fans : List (List ℕ)) (steps path : List ℕ) (at : ℕ) : Type 0 where
  pub sized : length steps ≡ length fans
  pub within : at < length fans
  pub steps_are : StepsOf steps path
  pub walks_on : WalksOn fans path at
