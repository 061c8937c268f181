-- Where a net lies: among the inputs, the latch outputs, the nets that nodes drive, or past them all.
use Rattle.std.proofs.Common.{◌≡◌, ℕ, ◌+◌, ◌-◌, ◌<◌, ◌≤◌, ◌⊎◌, inl, inr, length, arith}
use Rattle.std.proofs.lemmas.Bool.{cases_lt}
use Rattle.fault_secure.specs.Circuit.{Circuit, latch_net, node_net, nets}

-- a net lies among the inputs, the latch outputs or the nets that nodes drive, or past them all
pub data Place (N : Circuit) (net : ℕ) : Type 0 where
  Input : net < N.inputs → Place N net
  Latch : (l : ℕ) → l < length N.latches → net ≡ latch_net N l → Place N net
  Node : (j : ℕ) → j < length N.nodes → net ≡ node_net N j → Place N net
  Beyond : nets N ≤ net → Place N net

past_latches : (N : Circuit) (net : ℕ) → N.inputs + length N.latches ≤ net → (net < nets N) ⊎ (nets N ≤ net) → Place N net
past_latches N net k (inl h) = Node (net - (N.inputs + length N.latches)) (omega arith) (omega arith)
past_latches N net k (inr h) = Beyond h

past_inputs : (N : Circuit) (net : ℕ) → N.inputs ≤ net → (net < N.inputs + length N.latches) ⊎ (N.inputs + length N.latches ≤ net) → Place N net
past_inputs N net k (inl h) = Latch (net - N.inputs) (omega arith) (omega arith)
past_inputs N net k (inr h) = past_latches N net h (cases_lt net (nets N))

from_start : (N : Circuit) (net : ℕ) → (net < N.inputs) ⊎ (N.inputs ≤ net) → Place N net
from_start N net (inl h) = Input h
from_start N net (inr h) = past_inputs N net h (cases_lt net (N.inputs + length N.latches))

-- each number has one of these places
pub place_of : (N : Circuit) (net : ℕ) → Place N net
place_of N net = from_start N net (cases_lt net N.inputs)
