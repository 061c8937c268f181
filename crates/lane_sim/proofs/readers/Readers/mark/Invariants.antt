-- Each place of the chain is marked, or on what is left of it.
use Rattle.std.proofs.Common.{◌≡◌, ℕ, ◌≤◌, ◌⊎◌, true, length, slice_index}
use Rattle.lane_sim.specs.Readers.{has, IsOnChain}
use Rattle.lane_sim.proofs.readers.Readers.mark.Given as goal

abbrev pub invariant-loop-at : goal.invariant-loop-at
invariant-loop-at l = record {
  room : length l.marked.words.items ≡ length l.initial.marked.words.items;
  inside : l.at ≤ length l.self.list.items;
  kept : (place : ℕ) → has l.initial.marked place ≡ true → has l.marked place ≡ true;
  marked : (place : ℕ) → IsOnChain l.self.list.items place (slice_index l.self.heads.items l.net) → (has l.marked place ≡ true) ⊎ IsOnChain l.self.list.items place l.at;
}

abbrev pub decreases-loop-at : goal.decreases-loop-at
decreases-loop-at l = l.at
